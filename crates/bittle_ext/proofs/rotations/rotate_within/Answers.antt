use Rattle.std.proofs.Common.{◌≡◌, ◌+◌, ◌-◌, ◌*◌, nat_lt, inl, inr, refl, ◌∙◌, arith}
use Rattle.std.proofs.Math.Nat.{mul-le-mul_right}
use Rattle.std.proofs.lemmas.Bool.{lt-ltb}
use Rattle.bittle.specs.Values.{set_in}
use Rattle.bittle_bits.proofs.PlainSets.{members-past}
use Rattle.bittle_ext.specs.Rotations.{has_rotated}
use Rattle.bittle_ext.proofs.RotatedSets.{next_inside, rotated-past}
use Rattle.bittle_ext.proofs.RotatedWords.{more_rotated}
use Rattle.bittle_ext.proofs.WordsReplaced.{adds_upward, all_replaced}
use Rattle.bittle_ext.proofs.rotations.rotate_within.Goals as goal

pub word_from-word-requires-clause-next : goal.word_from-word-requires-clause-next
word_from-word-requires-clause-next g c =
    next_inside g.B.Shape.width c.distance-words.result.0 _ _ g.met.B.ReadWords.width_positive
    c.distance-words.ensures.whole (omega (arith, c.loop-k-test.true))

pub loop-k-preserved : goal.loop-k-preserved
loop-k-preserved g c =
    let b = g.met.B.ReadWords in
    let w = g.B.Shape.width in
    let k = c.loop-k.k in
    let now = c.loop-k.result in
    let s = set_in g.B.Shape g.E.Endian c.args.set.now in
    more_rotated g.E.Endian.mirrored w _ _ _ c.args.by k _ _ _ _ s s (g.B.Shape.big now) _
    b.width_positive (b.whole_words now) (b.none_past now)
    (b.none_past c.set_nth_leaf_word.new.self) c.distance-words.ensures c.requires.within
    (omega (arith, c.loop-k-test.true)) (inl refl) c.word_from-word.ensures
    (adds_upward w k b.width_positive) c.set_nth_leaf_word.ensures.set c.loop-k.invariant

pub loop-k-2-init : goal.loop-k-2-init
loop-k-2-init g c =
    let b = g.met.B.ReadWords in
    let w = g.B.Shape.width in
    let words = c.distance-words.result.0 in
    let skipped = c.distance-words.result.1 in
    let fewer = c.distance-words.ensures.fewer in
    let k = words - skipped - 1 in
    let now = c.loop-k.result in
    let s = set_in g.B.Shape g.E.Endian c.args.set.now in
    let at_last : c.loop-k.k ≡ k = omega (arith, c.loop-k-test.false, c.loop-k.auto) in
    let next : k + 1 ≡ words - skipped = omega (arith, fewer) in
    let done = more_rotated g.E.Endian.mirrored w _ _ _ c.args.by k (words - 1) _ _ _ s s
    (g.B.Shape.big now) _ b.width_positive (b.whole_words now) (b.none_past now)
    (b.none_past c.set_nth_leaf_word-2.new.self) c.distance-words.ensures c.requires.within
    (omega (arith, fewer)) (inl (omega (arith, fewer))) c.word_from.ensures
    (adds_upward w k b.width_positive) c.set_nth_leaf_word-2.ensures.set
    (rw at_last at c.loop-k.invariant) in
    rw next at done

pub loop-k-2-preserved : goal.loop-k-2-preserved
loop-k-2-preserved g c =
    let b = g.met.B.ReadWords in
    let w = g.B.Shape.width in
    let k = c.loop-k-2.k in
    let now = c.loop-k-2.result in
    let s = set_in g.B.Shape g.E.Endian c.args.set.now in
    more_rotated g.E.Endian.mirrored w _ _ _ c.args.by k _ _ _ _ s s (g.B.Shape.big now) _
    b.width_positive (b.whole_words now) (b.none_past now)
    (b.none_past c.set_nth_leaf_word-in-loop-k-2.new.self) c.distance-words.ensures
    c.requires.within c.loop-k-2-test.true
    (inr (omega (arith, c.loop-k-2.auto, c.distance-words.ensures.fewer)))
    c.word_from-word-in-loop-k-2.ensures (adds_upward w k b.width_positive)
    c.set_nth_leaf_word-in-loop-k-2.ensures.set c.loop-k-2.invariant

pub returns : goal.returns
returns g c =
    let b = g.met.B.ReadWords in
    let w = g.B.Shape.width in
    let by = c.args.by in
    let set = c.args.set.now in
    let s = set_in g.B.Shape g.E.Endian set in
    let past = members-past g.E.Endian.mirrored w _ b.width_positive (b.whole_words set)
    (b.none_past set) in
    let far = mul-le-mul_right w c.loop-k-2-test.false in
    c.loop-k-2.invariant ∙ all_replaced (λ i. nat_lt i (c.loop-k-2.k * w)) (has_rotated s by) s
    past (rotated-past s by) (λ i l. lt-ltb i (c.loop-k-2.k * w)
    (omega (arith, l, far, c.distance-words.ensures.whole)))
