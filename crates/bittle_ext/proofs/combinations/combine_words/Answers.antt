use Rattle.std.proofs.Common.{◌+◌, ◌*◌, ◌≤◌, not, ◌||◌, nat_lt, refl, ap, ◌∙◌, arith}
use Rattle.std.proofs.Math.Nat.{mul-le-mul_right}
use Rattle.std.proofs.lemmas.Bool.{lt-ltb, le-ltb}
use Rattle.bittle.specs.Values.{set_in}
use Rattle.bittle_ext.proofs.CombinedSets.{combined, DecidesWord, combined_past, combined_each}
use Rattle.bittle_ext.proofs.CombinedSets.{tells_none, made, tells_more, tells_all, told_where}
use Rattle.bittle_ext.proofs.CombinedSets.{told_same}
use Rattle.bittle_ext.proofs.CommonCounts.{word_inside}
use Rattle.bittle_ext.proofs.RankFacts.{end_of_words}
use Rattle.bittle_ext.proofs.WordsReplaced.{adds_upward, more_replaced, none_replaced, all_replaced}
use Rattle.bittle_ext.proofs.combinations.combine_words.Goals as goal

pub loop-k-init : goal.loop-k-init
loop-k-init g c =
    let s = set_in g.A.Shape g.E.Endian c.args.set.now in
    let t = set_in g.B.Shape g.F.Endian c.args.other.now in
    let p = (combined g.O.Operation.decide s t).has in
    record {
      replaced = none_replaced (λ i. nat_lt i (0 * g.A.Shape.width)) p s
          c.capacity_of.ensures.ends.past (combined_past g.O.Operation.decide s t)
          (λ i l. le-ltb i (0 * g.A.Shape.width) (omega arith));
      told = tells_none g.A.Shape.width p s;
      stays = refl;
    }

pub loop-k-preserved : goal.loop-k-preserved
loop-k-preserved g c =
    let b = g.met.A.ReadWords in
    let w = g.A.Shape.width in
    let m = g.E.Endian.mirrored in
    let f = g.O.Operation.decide in
    let k = c.loop-k.k in
    let now = c.loop-k.set in
    let new = c.set_nth_leaf_word.new.self in
    let s = set_in g.A.Shape g.E.Endian c.args.set.now in
    let t = set_in g.B.Shape g.F.Endian c.args.other.now in
    let v = c.loop-k.invariant in
    let wide = b.leaf_width in
    let ends : (k + 1) * w ≤ s.capacity = omega (
      arith,
      word_inside w _ _ k (c.word_width.ensures) c.loop-k-test.true,
      c.capacity_of.ensures.ends.capacity,
    ) in
    let word : DecidesWord f m w k _ _ _ s t (g.A.Shape.big now) = record {
      word = b.width_positive;
      ends = ends;
      before = v.replaced;
      ours = c.nth_leaf_word-ours.ensures;
      theirs = c.other_word-theirs.ensures;
      is = rw wide at c.on_words-word.ensures;
    } in
    record {
      replaced = more_replaced m w k _ _ _ (combined f s t).has s (g.A.Shape.big now)
          (g.A.Shape.big new) b.width_positive (b.whole_words now) (b.none_past now)
          (b.none_past new) (adds_upward w k b.width_positive) c.set_nth_leaf_word.ensures.set
          (made word) v.replaced;
      told = tells_more word _ c.xor.ensures (rw wide at c.is_zero.ensures.range) c.loop-k.changed _
          (ap (λ z. c.loop-k.changed || not z) c.is_zero.ensures.zero) v.told;
      stays = v.stays ∙ c.set_nth_leaf_word.ensures.stays;
    }

pub returns : goal.returns
returns g c =
    let b = g.met.A.ReadWords in
    let w = g.A.Shape.width in
    let f = g.O.Operation.decide in
    let s = set_in g.A.Shape g.E.Endian c.args.set.now in
    let t = set_in g.B.Shape g.F.Endian c.args.other.now in
    let ends = c.capacity_of.ensures.ends in
    let whole = end_of_words _ _ _ _ _ b.width_positive (b.whole_words c.args.set.now)
    ends.capacity c.word_width.ensures refl in
    let far = mul-le-mul_right w c.loop-k-test.false in
    let set = c.loop-k.invariant.replaced
    ∙ all_replaced (λ i. nat_lt i (c.loop-k.k * w)) (combined f s t).has s ends.past
    (combined_past f s t) (λ i l. lt-ltb i (c.loop-k.k * w) (omega (arith, l, whole, far))) in
    let told = tells_all f (c.loop-k.k * w) c.loop-k.changed s t _ (omega (arith, whole, far))
    ends.past set c.loop-k.invariant.told in
    record {
      combined = record {
        set = set;
        each = combined_each f s t _ set;
        changed = told_where _ _ _ told;
        unchanged = told_same _ _ _ told;
      };
      stays = c.loop-k.invariant.stays;
    }
