use Rattle.std.proofs.Common.{◌+◌, sym, ap, ◌∙◌, arith}
use Rattle.bittle.specs.PlainSet.{size}
use Rattle.bittle.proofs.CallerChanges.{contains_after_clear, size_without}
use Rattle.bittle.proofs.CallerSets.{contains_within, size_zero}
use Rattle.bittle_ext.proofs.bits_mut_ext.BitsMutExt.pop_first.Goals as goal

pub returns-in_err-first-clause-fewer : goal.returns-in_err-first-clause-fewer
returns-in_err-first-clause-fewer g c =
    rw c.from_residual.ensures (size_zero _ c.in_err-first.ensures)

pub flip_first-requires-clause-least : goal.flip_first-requires-clause-least
flip_first-requires-clause-least g c =
    let found = c.in_ok-first.ensures in
    record {
      within = omega (arith, found.1);
      none_below = λ k l. found.3 k (omega arith) l;
      is_member = λ _. found.2;
    }

pub returns-clause-fewer : goal.returns-clause-fewer
returns-clause-fewer g c =
    let found = c.in_ok-first.ensures in
    ap (λ t. size t + 1) c.flip_first.ensures.set ∙ sym (size_without _ _ found.1 found.2)

pub returns-clause-gone : goal.returns-clause-gone
returns-clause-gone g c = contains_after_clear _ _ _ c.flip_first.ensures.set

pub returns-clause-was_set : goal.returns-clause-was_set
returns-clause-was_set g c =
    let found = c.in_ok-first.ensures in contains_within _ _ found.1 ∙ found.2
