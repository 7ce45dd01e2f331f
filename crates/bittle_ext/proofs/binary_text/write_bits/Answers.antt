use Rattle.std.proofs.Common.{◌≡◌, ◌+◌, ◌-◌, ◌*◌, ◌/◌, ◌<◌, ◌++◌, Ok, refl, sym, ap, ◌∙◌, arith}
use Rattle.std.proofs.Math.Nat.{mul-lt-mul_of_pos_right}
use Rattle.std.proofs.Output.{writes_in_calls_nil, writes_on_IsOk-append}
use Rattle.bittle.specs.Values.{set_in}
use Rattle.bittle_bits.proofs.Words.{digit_at}
use Rattle.bittle_ext.specs.Texts.{digits_below}
use Rattle.bittle_ext.proofs.DigitTexts.{digits_from, digits_none, digits_same}
use Rattle.bittle_ext.proofs.RankFacts.{end_of_words}
use Rattle.bittle_ext.proofs.binary_text.write_bits.Goals as goal

pub loop-k-init : goal.loop-k-init
loop-k-init g c =
    let b = g.met.B.ReadWords in
    let w = g.B.Shape.width in
    let set = c.args.set.now in
    let s = set_in g.B.Shape g.E.Endian set in
    let wide = c.width_of_words.ensures.width in
    let whole : c.bits_capacity.result / w * w ≡ s.capacity = rw wide at (end_of_words _ _ _ _ _
    b.width_positive (b.whole_words set) (c.bits_capacity.ensures.value c.requires) wide refl) in
    rw wide record {
      most = omega (arith, whole);
      rest = λ r f h. rw whole at h;
    }

pub nth_leaf_word-requires-clause-within : goal.nth_leaf_word-requires-clause-within
nth_leaf_word-requires-clause-within g c =
    let fewer : c.loop-k.k - 1 < c.loop-k.k = omega (arith, c.loop-k-test.true) in
    let low = mul-lt-mul_of_pos_right fewer g.met.B.ReadWords.width_positive in
    omega (arith, low, c.loop-k.invariant.most)

pub loop-k-preserved : goal.loop-k-preserved
loop-k-preserved g c =
    let b = g.met.B.ReadWords in
    let w = g.B.Shape.width in
    let s = set_in g.B.Shape g.E.Endian c.args.set.now in
    let k = c.loop-k.k - 1 in
    let v = c.loop-k.invariant in
    let next : c.loop-k.k ≡ k + 1 = omega (arith, c.loop-k-test.true) in
    let up : c.loop-k.k * w ≡ k * w + w = ap (λ n. n * w) next ∙ omega arith in
    let text = ap (digits_below s.has) up ∙ digits_from s.has (k * w) w
    ∙ ap (λ xs. xs ++ digits_below s.has (k * w)) (digits_same (λ i. s.has (k * w + i)) _ w
    (λ i h. sym (digit_at g.E.Endian.mirrored w k (g.B.Shape.big c.args.set.now) _ b.width_positive
    c.nth_leaf_word.ensures i h))) in
    record {
      most = omega (arith, v.most, up);
      rest = λ r f h. v.rest r f (rw text (writes_on_IsOk-append _ _ _ _ (Ok tt) r _ _ (λ _. refl)
          (rw b.leaf_width at c.in_ok-write_word.ensures) h));
    }

pub returns : goal.returns
returns g c =
    let s = set_in g.B.Shape g.E.Endian c.args.set.now in
    let none : c.loop-k.k ≡ 0 = omega (arith, c.loop-k-test.false) in
    let empty : c.loop-k.k * g.B.Shape.width ≡ 0 = rw none (omega arith) in
    c.loop-k.invariant.rest (Ok tt) c.loop-k.f
    (λ plain _. rw (empty, digits_none s.has) record {
      wrote = writes_in_calls_nil _ c.loop-k.f.writer;
      plain = plain;
    })
