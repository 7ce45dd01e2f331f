use Rattle.std.proofs.Common.{◌≡◌, ◌/◌, ◌%◌, ◌==◌, sym, ap, subst, ◌∙◌}
use Rattle.std.proofs.lemmas.Bool.{true≢false}
use Rattle.std.proofs.lemmas.Nat.{mod_below}
use Rattle.bittle.specs.BitPatterns.{bit_set}
use Rattle.bittle.specs.Orders.{read_in}
use Rattle.bittle.specs.PlainSet.{PlainSet, contains, IsLeastMember}
use Rattle.bittle.specs.Values.{set_in}
use Rattle.bittle.specs.Walk.{ones_or_zeros}
use Rattle.bittle_bits.proofs.OnesOrZeros.{ones_or_zeros-members}
use Rattle.bittle_ext.specs.Changes.{with_index_assigned}
use Rattle.bittle_ext.proofs.OneBit.{CombinesIndex, HoldsIndex, bit_combined, flipped}
use Rattle.bittle_ext.proofs.OneBit.{flipped_alone, flipped_keeps, flipped_changes, has_place}
use Rattle.bittle_ext.proofs.OneBit.{holds_index, holds_kind, least_place}
use Rattle.bittle_ext.proofs.RetainedWords.{none_left, popped}
use Rattle.bittle_ext.proofs.one_bit.flip_first.Given.{Over}
use Rattle.bittle_ext.proofs.one_bit.flip_first.Goals.{After-bits_of_kind-bits}
use Rattle.bittle_ext.proofs.one_bit.flip_first.Goals as goal

-- the word that is read, and the bits of the kind in it, hold the index
held : (g : Over) (c : After-bits_of_kind-bits g) →
    let big = g.B.Shape.big c.args.set.now in
    let k = c.args.first / c.word_width.result in
    (HoldsIndex g.E.Endian.mirrored g.B.Shape.width k c.args.first
    (g.B.LeafWord.Word.pattern c.nth_leaf_word.result) big)
    × (HoldsIndex g.E.Endian.mirrored g.B.Shape.width k c.args.first
    (g.B.LeafWord.Word.pattern c.bits_of_kind-bits.result) (ones_or_zeros g.K.Kind.ONES big))
    × (IsLeastMember (read_in g.E.Endian.mirrored g.B.Shape.width
    (ones_or_zeros g.K.Kind.ONES big)) c.args.first)
held g c =
    let b = g.met.B.ReadWords in
    let w = g.B.Shape.width in
    let m = g.E.Endian.mirrored in
    let ones = g.K.Kind.ONES in
    let big = g.B.Shape.big c.args.set.now in
    let whole = b.whole_words c.args.set.now in
    let at = holds_index m w _ c.args.first _ big b.width_positive c.word_width.ensures
    c.requires.within c.nth_leaf_word.ensures in (
      at,
      holds_kind ones m w _ c.args.first _ _ big at (rw b.leaf_width at c.bits_of_kind-bits.ensures)
          whole,
      subst (λ (u : PlainSet). IsLeastMember u c.args.first)
          (ones_or_zeros-members ones m w big b.width_positive whole) c.requires.least,
    )

pub returns-in-Some-clause-set : goal.returns-in-Some-clause-set
returns-in-Some-clause-set g c =
    let b = g.met.B.ReadWords in
    let w = g.B.Shape.width in
    let m = g.E.Endian.mirrored in
    let ones = g.K.Kind.ONES in
    let i = c.args.first in
    let old = c.args.set.now in
    let new = c.set_nth_leaf_word.new.self in
    let s = set_in g.B.Shape g.E.Endian old in
    let d = bit_set w (g.B.LeafWord.Word.pattern c.nth_leaf_word.result) in
    let at = held g (goal.at.returns-in-Some-clause-set g c).After-bits_of_kind-bits in
    let pop = popped w c.in-Some.field-0 _ _ (rw b.leaf_width at c.in-Some.ensures.found) in
    let flipped_bit : CombinesIndex (flipped ones) m w (i / c.word_width.result) i _ _
    (g.B.Shape.big old) (g.B.Shape.big new) = record {
      keeps = flipped_keeps ones;
      is = λ o h. flipped_alone ones m w _ _ _ _ _
          (rw b.leaf_width at c.bits_of_kind-bits.ensures)
          (rw b.leaf_width at c.bits_of_kind.ensures) pop o h
          ∙ ap (λ j. flipped ones ((read_in m w d).has o) (o == j))
          (least_place at.1 at.2 _ _ pop);
      replaced = c.set_nth_leaf_word.ensures.set;
    } in
    bit_combined at.0 flipped_bit (b.whole_words old) (b.none_past old) (b.none_past new)
    ∙ ap (with_index_assigned s i) (flipped_changes ones (contains s i))

pub returns-in_default-clause-set : goal.returns-in_default-clause-set
returns-in_default-clause-set g c =
    let b = g.met.B.ReadWords in
    let w = g.B.Shape.width in
    let at = held g (goal.at.returns-in_default-clause-set g c).After-bits_of_kind-bits in
    let none = none_left w _ (rw b.leaf_width at c.in_default.ensures.found).0 (c.args.first % w)
    (mod_below c.args.first w b.width_positive) in
    absurd (true≢false (sym (has_place at.1 at.2) ∙ none))
