use Rattle.std.proofs.Common.{◌+◌, false, cond, refl, sym, ap, ◌∙◌}
use Rattle.std.proofs.lemmas.Bool.{and_right}
use Rattle.bittle.specs.PlainSet.{PlainSet, contains, size}
use Rattle.bittle.specs.Values.{set_in}
use Rattle.bittle.proofs.CallerChanges.{size_taken_out}
use Rattle.bittle_ext.specs.Changes.{with_index_assigned}
use Rattle.bittle_ext.proofs.bits_mut_ext.BitsMutExt.remove.Goals as goal

pub returns-then-has_bits-clause-count : goal.returns-then-has_bits-clause-count
returns-then-has_bits-clause-count g c some =
    let s : PlainSet = set_in g.Self.Shape g.Self.Order.Endian c.args.self.now in
    let i = c.args.index in
    let after = set_in g.Self.Shape g.Self.Order.Endian c.combine_bit.new.set in
    size_taken_out s i some
    ∙ sym (ap (λ t. size t + cond (contains s i) 1 0) (c.combine_bit.ensures.set
    ∙ ap (with_index_assigned s i) (and_right (contains s i) false refl)))
    ∙ ap (λ b. size after + cond b 1 0) (sym c.combine_bit.ensures.was_set)

pub returns-clause-count : goal.returns-clause-count
returns-clause-count g c some =
    let s : PlainSet = set_in g.Self.Shape g.Self.Order.Endian c.args.self.now in
    let i = c.args.index in
    let after = set_in g.Self.Shape g.Self.Order.Endian c.clear_bit_in.new.self in
    size_taken_out s i some
    ∙ sym (ap (λ t. size t + cond (contains s i) 1 0) c.clear_bit_in.ensures.set)
    ∙ ap (λ b. size after + cond b 1 0) (sym c.test_bit_in-was_set.ensures)
