use Rattle.std.proofs.Common.{◌≡◌, ℕ, Bool, true, false, sym, ap, refl, get_or, length, length-set}
use Rattle.std.proofs.Common.{arith}
use Rattle.bittle_bits.specs.PlainSet.{PlainSet}
use Rattle.bittle_bits.specs.Rows.{with_bit}
use Rattle.bittle_bits.proofs.PlainSets.{with-none, without-none}
use Rattle.bittle_bits.proofs.RowCalls.{row_put}
use Rattle.bittle_bits.proofs.internal.row.put_bit.Goals as goal

none : (ones : Bool) (s : PlainSet) (i : ℕ) → s.capacity ≡ 0 → with_bit ones s i ≡ s
none true = with-none
none false = without-none

pub returns-in-Some : goal.returns-in-Some
returns-in-Some g c =
    let at = λ (d : g.row.T.Denot). get_or c.args.elements.now c.in-Some.element d in
    rw length-set (row_put _ _ _ _ _ _ _ g.T.Shape.big c.args.elements.now _
    g.met.T.ReadWords.width_positive g.met.T.FixedCapacity.type_whole_words c.in-Some.ensures
    (g.met.T.FixedCapacity.one_capacity _) refl (ap at c.index-elements-element.is)
    g.K.Kind.ONES _ c.put_in_element.ensures)

pub returns-in_default : goal.returns-in_default
returns-in_default g c = sym (none g.K.Kind.ONES _ _ c.in_default.ensures)

pub returns-else-elements-ne0 : goal.returns-else-elements-ne0
returns-else-elements-ne0 g c =
    let empty : length c.args.elements.now ≡ 0 = omega (arith, c.if-elements-ne0.false) in
    sym (none g.K.Kind.ONES _ _ (rw empty (omega arith)))
