use Rattle.std.proofs.Common.{◌≡◌, ◌+◌, ◌-◌, ◌*◌, ◌<◌, nat_le, inl, inr, ap, ◌∙◌, arith}
use Rattle.std.proofs.Math.Nat.{lt_of_mul-lt-mul_right}
use Rattle.std.proofs.lemmas.Bool.{lt-leb}
use Rattle.bittle.specs.BitPatterns.{bit_set}
use Rattle.bittle.specs.Orders.{read_in}
use Rattle.bittle.specs.Values.{set_in}
use Rattle.bittle_bits.proofs.PlainSets.{members-past}
use Rattle.bittle_ext.specs.Rotations.{has_rotated, shifted_down, IsWordFrom}
use Rattle.bittle_ext.proofs.RotatedSets.{down-past, rotated-past}
use Rattle.bittle_ext.proofs.RotatedWords.{end_rotated, more_rotated, rotated_none}
use Rattle.bittle_ext.proofs.WordsReplaced.{adds_downward, none_replaced}
use Rattle.bittle_ext.proofs.in_place_rotations.rotate_bits.Goals.{then-skipped-eq0}
use Rattle.bittle_ext.proofs.in_place_rotations.rotate_bits.Goals.{else-skipped-eq0}
use Rattle.bittle_ext.proofs.in_place_rotations.rotate_bits.Goals as goal

pub returns-then-by-eq0-clause-set : goal.returns-then-by-eq0-clause-set
returns-then-by-eq0-clause-set g c =
    let b = g.met.B.ReadWords in
    let set = c.args.set.now in
    rw (c.if-by-eq0.true) (rotated_none _ (members-past g.E.Endian.mirrored g.B.Shape.width _
    b.width_positive (b.whole_words set) (b.none_past set)))

pub returns-then-skipped-ne0-clause-set : goal.returns-then-skipped-ne0-clause-set
returns-then-skipped-ne0-clause-set g c =
    let b = g.met.B.ReadWords in
    let w = g.B.Shape.width in
    let m = g.E.Endian.mirrored in
    let by = c.args.by in
    let far = c.distance-words.ensures in
    let skipped = c.distance-words.result.1 in
    let last = c.distance-words.result.0 - 1 in
    let s = set_in g.B.Shape g.E.Endian c.args.set.now in
    let now = c.shift_down.new.set in
    let next = c.set_nth_leaf_word.new.self in
    let after = c.set_nth_leaf_word-then-skipped-ne0.new.self in
    let twice : 2 * w ≡ w + w = omega arith in
    let fewer : skipped < 2 = lt_of_mul-lt-mul_right w
    (omega (arith, far.parts, c.requires.part, twice)) in
    let one : skipped ≡ 1 = omega (arith, fewer, c.if-skipped-ne0.true) in
    let top : (last + 1) * w ≡ s.capacity =
    ap (λ n. n * w) (omega (arith, far.fewer)) ∙ far.whole in
    let second : last - 1 + 1 ≡ last = omega (arith, far.fewer, one) in
    let none = c.shift_down.ensures.set ∙ none_replaced (λ i. nat_le ((last + 1) * w) i)
    (has_rotated s by) (shifted_down s by) (λ i h. down-past s by i (omega (arith, h)))
    (rotated-past s by) (λ i l. lt-leb ((last + 1) * w) i (omega (arith, l, top))) in
    let end : IsWordFrom w s (0 * w + c.distance-words.result.2)
    (read_in m w (bit_set w (g.B.LeafWord.Word.pattern c.if-skipped-eq0.end))) =
    elim c.if-skipped-eq0.branch [
      | then-skipped-eq0 t ↦ absurd (c.if-skipped-ne0.true t.if-skipped-eq0.true)
      | else-skipped-eq0 t ↦ rw t.end-is t.word_from-end.ensures
    ] in
    let ended = more_rotated m w _ _ _ by last 0 _ _ _ s (shifted_down s by) (g.B.Shape.big now)
    (g.B.Shape.big next) b.width_positive (b.whole_words now) (b.none_past now)
    (b.none_past next) far c.requires.within (omega (arith, far.fewer))
    (inr (omega (arith, one, far.fewer))) end (adds_downward w last b.width_positive)
    c.set_nth_leaf_word.ensures.set none in
    more_rotated m w _ _ _ by (last - 1) last _ _ _ s (shifted_down s by) (g.B.Shape.big next)
    (g.B.Shape.big after) b.width_positive (b.whole_words next) (b.none_past next)
    (b.none_past after) far c.requires.within (omega (arith, far.fewer))
    (inl (omega (arith, one, second))) c.word_from-wrapped.ensures
    (adds_downward w (last - 1) b.width_positive)
    c.set_nth_leaf_word-then-skipped-ne0.ensures.set (rw (← second) at ended)
    ∙ end_rotated s by ((last - 1) * w)
    (omega (arith, top, far.parts, far.within, ap (λ n. n * w) one, ap (λ n. n * w) second))

pub returns-else-skipped-ne0-clause-set : goal.returns-else-skipped-ne0-clause-set
returns-else-skipped-ne0-clause-set g c =
    let b = g.met.B.ReadWords in
    let w = g.B.Shape.width in
    let m = g.E.Endian.mirrored in
    let by = c.args.by in
    let far = c.distance-words.ensures in
    let last = c.distance-words.result.0 - 1 in
    let s = set_in g.B.Shape g.E.Endian c.args.set.now in
    let now = c.shift_down.new.set in
    let after = c.set_nth_leaf_word.new.self in
    let top : (last + 1) * w ≡ s.capacity =
    ap (λ n. n * w) (omega (arith, far.fewer)) ∙ far.whole in
    let none = c.shift_down.ensures.set ∙ none_replaced (λ i. nat_le ((last + 1) * w) i)
    (has_rotated s by) (shifted_down s by) (λ i h. down-past s by i (omega (arith, h)))
    (rotated-past s by) (λ i l. lt-leb ((last + 1) * w) i (omega (arith, l, top))) in
    let end : IsWordFrom w s (last * w + c.distance-words.result.2)
    (read_in m w (bit_set w (g.B.LeafWord.Word.pattern c.if-skipped-eq0.end))) =
    elim c.if-skipped-eq0.branch [
      | then-skipped-eq0 t ↦ rw t.end-is c.word_from-wrapped.ensures
      | else-skipped-eq0 t ↦ absurd (t.if-skipped-eq0.false c.if-skipped-ne0.false)
    ] in
    more_rotated m w _ _ _ by last last _ _ _ s (shifted_down s by) (g.B.Shape.big now)
    (g.B.Shape.big after) b.width_positive (b.whole_words now) (b.none_past now)
    (b.none_past after) far c.requires.within (omega (arith, far.fewer))
    (inl (omega (arith, c.if-skipped-ne0.false))) end (adds_downward w last b.width_positive)
    c.set_nth_leaf_word.ensures.set none
    ∙ end_rotated s by (last * w)
    (omega (arith, top, far.parts, far.within, ap (λ n. n * w) c.if-skipped-ne0.false))
