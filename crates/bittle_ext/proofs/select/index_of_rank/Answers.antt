use Rattle.std.proofs.Common.{◌≡◌, ◌*◌, ◌+◌, ◌-◌, ◌/◌, ◌%◌, ◌^◌, ◌==◌, refl, ap, ◌∙◌, arith}
use Rattle.std.specs.Int.{bit_at}
use Rattle.std.specs.Int.Count.{ones}
use Rattle.bittle.specs.PlainSet.{members_below}
use Rattle.bittle.specs.Values.{set_in}
use Rattle.bittle_bits.proofs.MembersBelow.{below_between}
use Rattle.bittle_ext.proofs.RankFacts.{counted_is_member}
use Rattle.bittle_ext.proofs.RankedBits.{bits_fewer, bits_of_whole, bits_shifted, low_counted}
use Rattle.bittle_ext.proofs.select.index_of_rank.Goals as goal

pub loop-span-init : goal.loop-span-init
loop-span-init g c =
    let b = g.met.B.ReadWords in
    let w = g.B.Shape.width in
    let k = c.args.k in
    let s = set_in g.B.Shape g.E.Endian c.args.bits.now in
    let wide : c.width_of-width.result ≡ w = c.width_of-width.ensures.width ∙ b.leaf_width in
    let start : k * w + 0 ≡ k * w = omega arith in
    let end : k * w + 0 + c.width_of-width.result ≡ (k + 1) * w = omega (arith, wide) in
    record {
      some = omega (arith, wide, b.width_positive);
      within = omega (arith, wide);
      left = ap (λ n. members_below s n + c.args.rest) start;
      to = omega (arith, c.requires.has_it, ap (members_below s) end);
      bits = λ i h. bits_of_whole g.E.Endian.mirrored w k _ _ (g.B.Shape.big c.args.bits.now)
          b.width_positive c.nth_leaf_word.ensures
          (rw b.leaf_width at c.ordered_word-word.ensures.to_weights) i
          (omega (arith, h, wide)) ∙ ap s.has (omega arith);
    }

pub loop-span-preserved-then-below-left : goal.loop-span-preserved-then-below-left
loop-span-preserved-then-below-left g c =
    let s = set_in g.B.Shape g.E.Endian c.args.bits.now in
    let t = c.loop-span.invariant in
    let half = c.loop-span.span / 2 in
    let rest = c.loop-span.span - half in
    let from = c.args.k * g.B.Shape.width + c.loop-span.at in
    let x = g.B.LeafWord.Word.pattern c.loop-span.word in
    let v = c.low_bits_of-below.result in
    let counted = low_counted s x v (ones v) half from (c.low_bits_of-below.ensures
    ∙ ap (λ n. n % 2 ^ half) c.to_bits.ensures.pattern) refl
    (bits_fewer s x from half _ (omega arith) t.bits) in
    let on : from + half ≡ c.args.k * g.B.Shape.width + (c.loop-span.at + half) = omega arith in
    let end : c.args.k * g.B.Shape.width + (c.loop-span.at + half) + rest
    ≡ from + c.loop-span.span =
    omega arith in
    record {
      some = omega (arith, t.some);
      within = omega (arith, t.within);
      left = omega (arith, counted, t.left, c.if-below-left.true, ap (members_below s) on);
      to = omega (arith, t.to, ap (members_below s) end);
      bits = λ i h. ap (λ d. bit_at d i == 1) c.shifted-word.ensures
          ∙ bits_shifted s x half from rest
          (bits_fewer s x from (half + rest) _ (omega arith) t.bits)
          i h ∙ ap s.has (omega arith);
    }

pub loop-span-preserved : goal.loop-span-preserved
loop-span-preserved g c =
    let s = set_in g.B.Shape g.E.Endian c.args.bits.now in
    let t = c.loop-span.invariant in
    let half = c.loop-span.span / 2 in
    let rest = c.loop-span.span - half in
    let from = c.args.k * g.B.Shape.width + c.loop-span.at in
    let x = g.B.LeafWord.Word.pattern c.loop-span.word in
    let v = c.low_bits_of-below.result in
    let counted = low_counted s x v (ones v) half from (c.low_bits_of-below.ensures
    ∙ ap (λ n. n % 2 ^ half) c.to_bits.ensures.pattern) refl
    (bits_fewer s x from half _ (omega arith) t.bits) in
    let grows = below_between s (from + half) (from + rest) (omega arith) in
    record {
      some = omega (arith, t.some);
      within = omega (arith, t.within);
      left = t.left;
      to = omega (arith, counted, grows.0, t.left, c.if-below-left.false);
      bits = bits_fewer s x from rest _ (omega arith) t.bits;
    }

pub returns-clause-found : goal.returns-clause-found
returns-clause-found g c =
    let s = set_in g.B.Shape g.E.Endian c.args.bits.now in
    let t = c.loop-span.invariant in
    let one : c.loop-span.span ≡ 1 = omega (arith, t.some, c.loop-span-test.false) in
    counted_is_member s _ (members_below s (c.args.k * g.B.Shape.width) + c.args.rest)
    (omega (arith, t.left)) (rw one at t.to)
