use Rattle.std.proofs.Common.{◌+◌, true, cond, not, refl, sym, ap, ◌∙◌}
use Rattle.std.proofs.lemmas.Bool.{or_right}
use Rattle.bittle.specs.PlainSet.{PlainSet, contains, size}
use Rattle.bittle.specs.Values.{set_in}
use Rattle.bittle.proofs.CallerChanges.{size_inserted}
use Rattle.bittle_ext.specs.Changes.{with_index_assigned}
use Rattle.bittle_ext.proofs.bits_mut_ext.BitsMutExt.insert.Goals as goal

pub returns-then-has_bits-clause-count : goal.returns-then-has_bits-clause-count
returns-then-has_bits-clause-count g c some =
    let s : PlainSet = set_in g.Self.Shape g.Self.Order.Endian c.args.self.now in
    let i = c.args.index in
    ap size (c.combine_bit.ensures.set
    ∙ ap (with_index_assigned s i) (or_right (contains s i) true refl)) ∙ size_inserted s i some
    ∙ ap (λ b. size s + cond (not b) 1 0) (sym c.combine_bit.ensures.was_set)

pub returns-clause-count : goal.returns-clause-count
returns-clause-count g c some =
    let s : PlainSet = set_in g.Self.Shape g.Self.Order.Endian c.args.self.now in
    ap size c.set_bit_in.ensures.set ∙ size_inserted s c.args.index some
    ∙ ap (λ b. size s + cond (not b) 1 0) (sym c.test_bit_in-was_unset.ensures)
