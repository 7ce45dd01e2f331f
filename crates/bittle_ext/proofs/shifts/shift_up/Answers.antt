use Rattle.std.proofs.Common.{◌≡◌, ◌+◌, ◌-◌, ◌*◌, refl, ap, ◌∙◌, arith}
use Rattle.std.proofs.lemmas.Bool.{lt-leb}
use Rattle.bittle.specs.Orders.{read_in}
use Rattle.bittle.specs.Values.{set_in}
use Rattle.bittle_ext.specs.Rotations.{has_shifted_up}
use Rattle.bittle_ext.proofs.RotatedSets.{all_up, up-past}
use Rattle.bittle_ext.proofs.ShiftedWords.{came_up, none_before, none_below, word_before}
use Rattle.bittle_ext.proofs.WordsReplaced.{adds_downward, more_replaced, none_replaced}
use Rattle.bittle_ext.proofs.shifts.shift_up.Goals as goal

pub returns-then-by-capacity_of-clause-set : goal.returns-then-by-capacity_of-clause-set
returns-then-by-capacity_of-clause-set g c =
    ap (read_in g.E.Endian.mirrored g.B.Shape.width) c.clear_bits.ensures.set
    ∙ all_up (set_in g.B.Shape g.E.Endian c.args.set.now) c.args.by
    (omega (arith, c.if-by-capacity_of.true, c.capacity_of.ensures.ends.capacity))

pub loop-k-init : goal.loop-k-init
loop-k-init g c =
    let by = c.args.by in
    let s = set_in g.B.Shape g.E.Endian c.args.set.now in
    let words = c.distance-words.result.0 in
    let fewer = c.distance-words.ensures.fewer in
    let all : (words - 1 + 1) * g.B.Shape.width ≡ s.capacity =
    ap (λ n. n * g.B.Shape.width) (omega (arith, fewer)) ∙ c.distance-words.ensures.whole in
    record {
      low = omega (arith, fewer);
      high = omega (arith, fewer);
      replaced = none_replaced _ (has_shifted_up s by) s c.capacity_of.ensures.ends.past
          (up-past s by) (λ i l. lt-leb _ i (omega (arith, l, all)));
      stays = refl;
    }

pub loop-k-preserved : goal.loop-k-preserved
loop-k-preserved g c =
    let b = g.met.B.ReadWords in
    let w = g.B.Shape.width in
    let m = g.E.Endian.mirrored in
    let k = c.loop-k.k in
    let by = c.args.by in
    let skipped = c.distance-words.result.1 in
    let now = c.loop-k.set in
    let s = set_in g.B.Shape g.E.Endian c.args.set.now in
    let v = c.loop-k.invariant in
    let more = c.loop-k-test.true in
    let down : k - 1 + 1 ≡ k = omega (arith, more) in
    let first_at : k - skipped - 1 ≡ k - (skipped + 1) = omega arith in
    let second_at : k - skipped ≡ k + 1 - (skipped + 1) = omega arith in
    record {
      low = omega (arith, more);
      high = omega (arith, v.high);
      replaced = rw down (more_replaced m w k _ _ _ (has_shifted_up s by) s (g.B.Shape.big now) _
          b.width_positive (b.whole_words now) (b.none_past now)
          (b.none_past c.set_nth_leaf_word.new.self) (adds_downward w k b.width_positive)
          c.set_nth_leaf_word.ensures.set
          (came_up m w _ k by _ skipped _ _ _ _ s (set_in g.B.Shape g.E.Endian now)
          c.distance-words.ensures refl v.high v.replaced
          (word_before m w k (skipped + 1) _ (g.B.Shape.big now) b.width_positive
          (omega (arith, more)) (rw first_at at c.nth_leaf_word-first.ensures))
          (word_before m w (k + 1) (skipped + 1) _ (g.B.Shape.big now) b.width_positive
          (omega (arith, more)) (rw second_at at c.nth_leaf_word-second.ensures))
          (rw b.leaf_width at c.window_up_to.ensures)) v.replaced);
      stays = v.stays ∙ c.set_nth_leaf_word.ensures.stays;
    }

pub loop-k-2-init : goal.loop-k-2-init
loop-k-2-init g c =
    let b = g.met.B.ReadWords in
    let w = g.B.Shape.width in
    let m = g.E.Endian.mirrored in
    let by = c.args.by in
    let skipped = c.distance-words.result.1 in
    let now = c.loop-k.set in
    let s = set_in g.B.Shape g.E.Endian c.args.set.now in
    let v = c.loop-k.invariant in
    let at_skipped : c.loop-k.k ≡ skipped = omega (arith, c.loop-k-test.false, v.low) in
    let second_at : 0 ≡ skipped + 1 - (skipped + 1) = omega arith in
    let before = rw at_skipped at v.replaced in
    record {
      high = omega (arith, at_skipped);
      replaced = rw at_skipped (more_replaced m w skipped _ _ _ (has_shifted_up s by) s
          (g.B.Shape.big now) _ b.width_positive (b.whole_words now) (b.none_past now)
          (b.none_past c.set_nth_leaf_word-2.new.self) (adds_downward w skipped b.width_positive)
          c.set_nth_leaf_word-2.ensures.set
          (came_up m w _ skipped by _ skipped _ _ _ _ s (set_in g.B.Shape g.E.Endian now)
          c.distance-words.ensures refl c.distance-words.ensures.fewer before
          (none_before m w skipped (skipped + 1) _ (set_in g.B.Shape g.E.Endian now)
          c.zero-none.ensures (omega arith))
          (word_before m w (skipped + 1) (skipped + 1) _ (g.B.Shape.big now) b.width_positive
          (omega arith) (rw second_at at c.nth_leaf_word-first-2.ensures))
          (rw b.leaf_width at c.window_up_to-2.ensures)) before);
      stays = v.stays ∙ c.set_nth_leaf_word-2.ensures.stays;
    }

pub loop-k-2-preserved : goal.loop-k-2-preserved
loop-k-2-preserved g c =
    let b = g.met.B.ReadWords in
    let w = g.B.Shape.width in
    let m = g.E.Endian.mirrored in
    let k = c.loop-k-2.k - 1 in
    let by = c.args.by in
    let now = c.loop-k-2.set in
    let s = set_in g.B.Shape g.E.Endian c.args.set.now in
    let v = c.loop-k-2.invariant in
    let up : c.loop-k-2.k ≡ k + 1 = omega (arith, c.loop-k-2-test.true) in
    record {
      high = omega (arith, v.high);
      replaced = more_replaced m w k _ _ _ (has_shifted_up s by) s (g.B.Shape.big now) _
          b.width_positive (b.whole_words now) (b.none_past now)
          (b.none_past c.set_nth_leaf_word-in-loop-k-2.new.self)
          (adds_downward w k b.width_positive)
          c.set_nth_leaf_word-in-loop-k-2.ensures.set
          (none_below m w _ by _ _ _ k _ s c.distance-words.ensures c.zero-none.ensures
          (omega (arith, v.high, up))) (rw up at v.replaced);
      stays = v.stays ∙ c.set_nth_leaf_word-in-loop-k-2.ensures.stays;
    }
