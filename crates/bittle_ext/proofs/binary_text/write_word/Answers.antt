use Rattle.std.proofs.Common.{◌≡◌, suc, ◌-◌, ◌/◌, ◌^◌, ◌==◌, ◌++◌, Ok, bit_and, refl, sym, ap, ◌∙◌}
use Rattle.std.proofs.Common.{arith}
use Rattle.std.proofs.Output.{writes_in_calls_nil, writes_on_IsOk-append}
use Rattle.std.proofs.lemmas.Nat.{and_mask}
use Rattle.bittle.specs.BitPatterns.{bit_set}
use Rattle.bittle_bits.proofs.BitSets.{bit_has-at}
use Rattle.bittle_ext.specs.Texts.{digit, digits_below}
use Rattle.bittle_ext.proofs.DigitTexts.{digits_next, digits_none}
use Rattle.bittle_ext.proofs.binary_text.write_word.Goals as goal

pub loop-index-preserved : goal.loop-index-preserved
loop-index-preserved g c =
    let w = g.T.Word.width in
    let d = c.number_of-number.result in
    let s = bit_set w d in
    let k = c.loop-index.index - 1 in
    let v = c.loop-index.invariant in
    let some = c.loop-index-test.true in
    let next : c.loop-index.index ≡ suc k = omega (arith, some) in
    let bit = ap (λ n. n == 1) (and_mask (d / 2 ^ k) 1)
    ∙ sym (bit_has-at w d k (omega (arith, v.most, some))) in
    let text : digits_below s.has c.loop-index.index
    ≡ digit (bit_and (d / 2 ^ k) 1 == 1) ++ digits_below s.has k =
    ap (digits_below s.has) next ∙ digits_next s.has k
    ∙ ap (λ b. digit b ++ digits_below s.has k) (sym bit) in
    record {
      most = omega (arith, v.most);
      rest = λ r f h. v.rest r f (rw text (writes_on_IsOk-append _ _ _ _ (Ok tt) r _ _ (λ _. refl)
          c.in_ok-write_bit.ensures h));
    }

pub returns : goal.returns
returns g c =
    let s = bit_set g.T.Word.width c.number_of-number.result in
    let none : c.loop-index.index ≡ 0 = omega (arith, c.loop-index-test.false) in
    rw (← c.number_of-number.ensures.set) (c.loop-index.invariant.rest (Ok tt) c.loop-index.f
    (λ plain _. rw (none, digits_none s.has) record {
      wrote = writes_in_calls_nil _ c.loop-index.f.writer;
      plain = plain;
    }))
