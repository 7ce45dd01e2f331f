use Rattle.std.proofs.Common.{◌≡◌, ◌+◌, ◌-◌, ◌*◌, nat_lt, refl, sym, ap, ◌∙◌, arith}
use Rattle.std.proofs.Math.Nat.{mul-le-mul_right}
use Rattle.std.proofs.lemmas.Bool.{lt-ltb}
use Rattle.bittle.specs.Orders.{read_in}
use Rattle.bittle.specs.Values.{set_in}
use Rattle.bittle_bits.proofs.PlainSets.{members-past}
use Rattle.bittle_ext.specs.Rotations.{has_shifted_down}
use Rattle.bittle_ext.proofs.CombinedWords.{empty_past}
use Rattle.bittle_ext.proofs.RotatedSets.{all_down, down-past, word_within}
use Rattle.bittle_ext.proofs.ShiftedWords.{down_as, none_above, window_above}
use Rattle.bittle_ext.proofs.WordsReplaced.{adds_upward, more_replaced, all_replaced}
use Rattle.bittle_ext.proofs.shifts.shift_down.Goals as goal

pub returns-then-by-capacity_of-clause-set : goal.returns-then-by-capacity_of-clause-set
returns-then-by-capacity_of-clause-set g c =
    ap (read_in g.E.Endian.mirrored g.B.Shape.width) c.clear_bits.ensures.set
    ∙ all_down (set_in g.B.Shape g.E.Endian c.args.set.now) c.args.by
    (omega (arith, c.if-by-capacity_of.true, c.capacity_of.ensures.ends.capacity))

pub nth_leaf_word-first-requires-clause-within : goal.nth_leaf_word-first-requires-clause-within
nth_leaf_word-first-requires-clause-within g c =
    word_within g.B.Shape.width c.distance-words.result.0 _ _ g.met.B.ReadWords.width_positive
    (c.distance-words.ensures.whole ∙ sym (ap (λ u. u.capacity) c.loop-k.invariant.replaced))
    (omega (arith, c.loop-k-test.true))

pub nth_leaf_word-second-requires-clause-within : goal.nth_leaf_word-second-requires-clause-within
nth_leaf_word-second-requires-clause-within g c =
    word_within g.B.Shape.width c.distance-words.result.0 _ _ g.met.B.ReadWords.width_positive
    (c.distance-words.ensures.whole ∙ sym (ap (λ u. u.capacity) c.loop-k.invariant.replaced))
    (omega (arith, c.loop-k-test.true))

pub loop-k-preserved : goal.loop-k-preserved
loop-k-preserved g c =
    let b = g.met.B.ReadWords in
    let w = g.B.Shape.width in
    let m = g.E.Endian.mirrored in
    let k = c.loop-k.k in
    let by = c.args.by in
    let now = c.loop-k.set in
    let s = set_in g.B.Shape g.E.Endian c.args.set.now in
    let past = c.capacity_of.ensures.ends.past in
    let v = c.loop-k.invariant in
    record {
      replaced = more_replaced m w k _ _ _ (has_shifted_down s by) s (g.B.Shape.big now) _
          b.width_positive (b.whole_words now) (b.none_past now)
          (b.none_past c.set_nth_leaf_word.new.self) (adds_upward w k b.width_positive)
          c.set_nth_leaf_word.ensures.set
          (λ o h. window_above m w k by _ _ _ _ _ (g.B.Shape.big now) b.width_positive
          c.distance-words.ensures.parts c.distance-words.ensures.within
          (members-past m w _ b.width_positive (b.whole_words now) (b.none_past now))
          c.nth_leaf_word-first.ensures c.nth_leaf_word-second.ensures
          (rw b.leaf_width at c.window.ensures) o h
          ∙ down_as w k by (k * w + o) _ s _ v.replaced (omega arith) past)
          v.replaced;
      stays = v.stays ∙ c.set_nth_leaf_word.ensures.stays;
    }

pub loop-k-2-init : goal.loop-k-2-init
loop-k-2-init g c =
    let b = g.met.B.ReadWords in
    let w = g.B.Shape.width in
    let m = g.E.Endian.mirrored in
    let by = c.args.by in
    let words = c.distance-words.result.0 in
    let skipped = c.distance-words.result.1 in
    let fewer = c.distance-words.ensures.fewer in
    let k = words - skipped - 1 in
    let now = c.loop-k.set in
    let s = set_in g.B.Shape g.E.Endian c.args.set.now in
    let past = c.capacity_of.ensures.ends.past in
    let v = c.loop-k.invariant in
    let at_last : c.loop-k.k ≡ k = omega (arith, c.loop-k-test.false, c.loop-k.auto) in
    let next : k + 1 ≡ words - skipped = omega (arith, fewer) in
    let one : words - 1 ≡ k + skipped = omega (arith, fewer) in
    let before = rw at_last at v.replaced in
    let size = c.distance-words.ensures.whole ∙ sym (ap (λ u. u.capacity) v.replaced) in
    let inside = members-past m w _ b.width_positive (b.whole_words now) (b.none_past now) in
    let done = more_replaced m w k _ _ _ (has_shifted_down s by) s (g.B.Shape.big now) _
    b.width_positive (b.whole_words now) (b.none_past now)
    (b.none_past c.set_nth_leaf_word-2.new.self) (adds_upward w k b.width_positive)
    c.set_nth_leaf_word-2.ensures.set
    (λ o h. window_above m w k by _ _ _ _ _ (g.B.Shape.big now) b.width_positive
    c.distance-words.ensures.parts c.distance-words.ensures.within inside
    (rw one at c.nth_leaf_word-last.ensures)
    (empty_past w words (k + skipped + 1) _ (g.B.Shape.big now) size (b.none_past now)
    (omega (arith, fewer)) c.zero-none.ensures) (rw b.leaf_width at c.window-2.ensures) o h
    ∙ down_as w k by (k * w + o) _ s _ before (omega arith) past) before in
    record {
      replaced = rw next at done;
      stays = v.stays ∙ c.set_nth_leaf_word-2.ensures.stays;
    }

pub loop-k-2-preserved : goal.loop-k-2-preserved
loop-k-2-preserved g c =
    let b = g.met.B.ReadWords in
    let now = c.loop-k-2.set in
    let s = set_in g.B.Shape g.E.Endian c.args.set.now in
    let v = c.loop-k-2.invariant in
    record {
      replaced = more_replaced g.E.Endian.mirrored g.B.Shape.width c.loop-k-2.k _ _ _
          (has_shifted_down s c.args.by) s (g.B.Shape.big now) _ b.width_positive
          (b.whole_words now) (b.none_past now)
          (b.none_past c.set_nth_leaf_word-in-loop-k-2.new.self)
          (adds_upward g.B.Shape.width c.loop-k-2.k b.width_positive)
          c.set_nth_leaf_word-in-loop-k-2.ensures.set
          (λ o h. none_above g.E.Endian.mirrored g.B.Shape.width _ c.args.by _ _ _ c.loop-k-2.k _ s
          c.distance-words.ensures refl c.zero-none.ensures
          (omega (arith, c.loop-k-2.auto, c.distance-words.ensures.fewer)) o)
          v.replaced;
      stays = v.stays ∙ c.set_nth_leaf_word-in-loop-k-2.ensures.stays;
    }

pub returns-clause-set : goal.returns-clause-set
returns-clause-set g c =
    let w = g.B.Shape.width in
    let by = c.args.by in
    let s = set_in g.B.Shape g.E.Endian c.args.set.now in
    let far = mul-le-mul_right w c.loop-k-2-test.false in
    c.loop-k-2.invariant.replaced ∙ all_replaced (λ i. nat_lt i (c.loop-k-2.k * w))
    (has_shifted_down s by) s c.capacity_of.ensures.ends.past
    (λ i h. down-past s by i (omega (arith, h)))
    (λ i l. lt-ltb i (c.loop-k-2.k * w) (omega (arith, l, c.distance-words.ensures.whole, far)))
