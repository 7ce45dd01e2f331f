use Rattle.std.proofs.Common.{◌≡◌, ◌+◌, ◌/◌, ◌^◌, ◌==◌, sym, ap, ◌∙◌, arith, bit_and}
use Rattle.std.specs.Int.{bit_at}
use Rattle.std.proofs.lemmas.Nat.{and_mask, mod_below, pow_pos}
use Rattle.bittle_bits.proofs.BitSets.{bit_has-at}
use Rattle.bittle_ext.proofs.Windows.{bit_at_masked, bit_at_shifted}
use Rattle.bittle_ext.proofs.copies.value_from.Goals as goal

pub returns-clause-below : goal.returns-clause-below
returns-clause-below g c =
    let w = g.W.Word.width in
    let n = c.args.value / 2 ^ c.args.first in
    let cut = ap (bit_and n) c.all_bits.ensures.value ∙ and_mask n w in
    omega (arith, cut, mod_below n (2 ^ w) (pow_pos w))

pub returns-clause-bits : goal.returns-clause-bits
returns-clause-bits g c count narrow within i h =
    let w = g.W.Word.width in
    let n = c.args.value / 2 ^ c.args.first in
    let cut = ap (bit_and n) c.all_bits.ensures.value ∙ and_mask n w in
    let on : i + c.args.first ≡ c.args.first + i = omega arith in
    ap (λ b. b == 1) (ap (λ x. bit_at x i) cut ∙ bit_at_masked n w i (omega (arith, narrow, h))
    ∙ bit_at_shifted c.args.value c.args.first i ∙ ap (bit_at c.args.value) on)
    ∙ sym (bit_has-at 64 c.args.value (c.args.first + i) (omega (arith, within, h)))
