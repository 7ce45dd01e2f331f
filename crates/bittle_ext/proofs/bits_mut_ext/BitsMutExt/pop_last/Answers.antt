use Rattle.std.proofs.Common.{◌+◌, false, refl, sym, ap, ◌∙◌}
use Rattle.std.proofs.lemmas.Bool.{and_right}
use Rattle.bittle.specs.PlainSet.{PlainSet, contains, size}
use Rattle.bittle.specs.Values.{set_in}
use Rattle.bittle.proofs.CallerChanges.{contains_after_clear, size_without}
use Rattle.bittle.proofs.CallerSets.{contains_within, size_zero}
use Rattle.bittle_ext.specs.Changes.{with_index_assigned}
use Rattle.bittle_ext.proofs.bits_mut_ext.BitsMutExt.pop_last.Goals as goal

pub returns-in_err-last-clause-fewer : goal.returns-in_err-last-clause-fewer
returns-in_err-last-clause-fewer g c =
    rw c.from_residual.ensures (size_zero _ c.in_err-last.ensures)

pub returns-clause-set : goal.returns-clause-set
returns-clause-set g c =
    let s : PlainSet = set_in g.Self.Shape g.Self.Order.Endian c.args.self.now in
    let i = c.in_ok-last.last in
    c.combine_within.ensures.set
    ∙ ap (with_index_assigned s i) (and_right (contains s i) false refl)

pub returns-clause-fewer : goal.returns-clause-fewer
returns-clause-fewer g c =
    let found = c.in_ok-last.ensures in
    ap (λ t. size t + 1) (returns-clause-set g c) ∙ sym (size_without _ _ found.1 found.2)

pub returns-clause-gone : goal.returns-clause-gone
returns-clause-gone g c = contains_after_clear _ _ _ (returns-clause-set g c)

pub returns-clause-was_set : goal.returns-clause-was_set
returns-clause-was_set g c =
    let found = c.in_ok-last.ensures in contains_within _ _ found.1 ∙ found.2
