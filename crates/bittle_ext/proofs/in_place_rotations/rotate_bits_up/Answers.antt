use Rattle.std.proofs.Common.{◌≡◌, ◌+◌, ◌-◌, ◌*◌, ◌<◌, inl, inr, ap, ◌∙◌, arith}
use Rattle.std.proofs.Math.Nat.{lt_of_mul-lt-mul_right}
use Rattle.bittle.specs.BitPatterns.{bit_set}
use Rattle.bittle.specs.Orders.{read_in}
use Rattle.bittle.specs.Values.{set_in}
use Rattle.bittle_ext.specs.Rotations.{has_rotated, shifted_up, IsWordFrom}
use Rattle.bittle_ext.proofs.RotatedSets.{word_within}
use Rattle.bittle_ext.proofs.RotatedWords.{more_rotated, start_rotated}
use Rattle.bittle_ext.proofs.WordsReplaced.{adds_upward, start_alike}
use Rattle.bittle_ext.proofs.in_place_rotations.rotate_bits_up.Goals.{then-skipped-last}
use Rattle.bittle_ext.proofs.in_place_rotations.rotate_bits_up.Goals.{else-skipped-last}
use Rattle.bittle_ext.proofs.in_place_rotations.rotate_bits_up.Goals as goal

pub word_from-start-requires-clause-next : goal.word_from-start-requires-clause-next
word_from-start-requires-clause-next g c =
    let w = g.B.Shape.width in
    let far = c.distance-words.ensures in
    let words = c.distance-words.result.0 in
    let skipped = c.distance-words.result.1 in
    let more : words < skipped + 3 = lt_of_mul-lt-mul_right w
    (omega (arith, far.whole, far.parts, far.within, c.requires.part)) in
    let next : skipped + 1 ≡ words - 1 = omega (arith, more, far.fewer, c.if-skipped-last.false) in
    inr (
      word_within w words (skipped + 1) _ g.met.B.ReadWords.width_positive far.whole
          (omega (arith, next, far.fewer)),
      omega (arith, next),
    )

pub returns-then-skipped-last-2-clause-set : goal.returns-then-skipped-last-2-clause-set
returns-then-skipped-last-2-clause-set g c =
    let b = g.met.B.ReadWords in
    let w = g.B.Shape.width in
    let m = g.E.Endian.mirrored in
    let by = c.args.by in
    let up = c.capacity_of.result - by in
    let far = c.distance-words.ensures in
    let words = c.distance-words.result.0 in
    let skipped = c.distance-words.result.1 in
    let cap = c.capacity_of.ensures.ends.capacity in
    let s = set_in g.B.Shape g.E.Endian c.args.set.now in
    let now = c.shift_up.new.set in
    let next = c.set_nth_leaf_word.new.self in
    let after = c.set_nth_leaf_word-then-skipped-last-2.new.self in
    let more : words < skipped + 3 = lt_of_mul-lt-mul_right w
    (omega (arith, far.whole, far.parts, far.within, c.requires.part)) in
    let two : words ≡ skipped + 2 = omega (arith, more, far.fewer, c.if-skipped-last-2.true) in
    let top : (skipped + 2) * w ≡ s.capacity = ap (λ n. n * w) (omega (arith, two)) ∙ far.whole in
    let none = c.shift_up.ensures.set ∙ start_alike (0 * w) (has_rotated s by) (shifted_up s up)
    (λ i l. absurd (omega (arith, l))) in
    let start : IsWordFrom w s (skipped * w + c.distance-words.result.2)
    (read_in m w (bit_set w (g.B.LeafWord.Word.pattern c.if-skipped-last.start))) =
    elim c.if-skipped-last.branch [
      | then-skipped-last t ↦ absurd (c.if-skipped-last-2.true t.if-skipped-last.true)
      | else-skipped-last t ↦ rw t.start-is t.word_from-start.ensures
    ] in
    let begun = more_rotated m w _ _ _ by 0 skipped _ _ _ s (shifted_up s up) (g.B.Shape.big now)
    (g.B.Shape.big next) b.width_positive (b.whole_words now) (b.none_past now)
    (b.none_past next) far c.requires.within (omega (arith, far.fewer)) (inl (omega arith)) start
    (adds_upward w 0 b.width_positive) c.set_nth_leaf_word.ensures.set none in
    more_rotated m w _ _ _ by 1 (words - 1) _ _ _ s (shifted_up s up) (g.B.Shape.big next)
    (g.B.Shape.big after) b.width_positive (b.whole_words next) (b.none_past next)
    (b.none_past after) far c.requires.within (omega (arith, two))
    (inl (omega (arith, two))) c.word_from-wrapped.ensures (adds_upward w 1 b.width_positive)
    c.set_nth_leaf_word-then-skipped-last-2.ensures.set begun
    ∙ start_rotated s by up ((1 + 1) * w) (omega (arith, cap, c.requires.within))
    (omega (arith, cap, top, far.parts))

pub returns-else-skipped-last-2-clause-set : goal.returns-else-skipped-last-2-clause-set
returns-else-skipped-last-2-clause-set g c =
    let b = g.met.B.ReadWords in
    let w = g.B.Shape.width in
    let m = g.E.Endian.mirrored in
    let by = c.args.by in
    let up = c.capacity_of.result - by in
    let far = c.distance-words.ensures in
    let words = c.distance-words.result.0 in
    let cap = c.capacity_of.ensures.ends.capacity in
    let s = set_in g.B.Shape g.E.Endian c.args.set.now in
    let now = c.shift_up.new.set in
    let after = c.set_nth_leaf_word.new.self in
    let top : (words - 1 + 1) * w ≡ s.capacity =
    ap (λ n. n * w) (omega (arith, far.fewer)) ∙ far.whole in
    let none = c.shift_up.ensures.set ∙ start_alike (0 * w) (has_rotated s by) (shifted_up s up)
    (λ i l. absurd (omega (arith, l))) in
    let start : IsWordFrom w s ((words - 1) * w + c.distance-words.result.2)
    (read_in m w (bit_set w (g.B.LeafWord.Word.pattern c.if-skipped-last.start))) =
    elim c.if-skipped-last.branch [
      | then-skipped-last t ↦ rw t.start-is c.word_from-wrapped.ensures
      | else-skipped-last t ↦ absurd (t.if-skipped-last.false c.if-skipped-last-2.false)
    ] in
    more_rotated m w _ _ _ by 0 (words - 1) _ _ _ s (shifted_up s up) (g.B.Shape.big now)
    (g.B.Shape.big after) b.width_positive (b.whole_words now) (b.none_past now)
    (b.none_past after) far c.requires.within (omega (arith, far.fewer))
    (inl (omega (arith, c.if-skipped-last-2.false))) start (adds_upward w 0 b.width_positive)
    c.set_nth_leaf_word.ensures.set none
    ∙ start_rotated s by up ((0 + 1) * w) (omega (arith, cap, c.requires.within))
    (omega (arith, cap, top, far.parts, ap (λ n. n * w) c.if-skipped-last-2.false))
