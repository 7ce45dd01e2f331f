use Rattle.std.proofs.Common.{◌-◌, ◌&&◌, not, sym, ap, ◌∙◌, arith}
use Rattle.std.proofs.lemmas.Bool.{eqb-true, lt-ltb}
use Rattle.bittle.specs.BitPatterns.{bit_has}
use Rattle.bittle.specs.Orders.{place}
use Rattle.bittle.specs.PlainSet.{lacks}
use Rattle.bittle_bits.proofs.BitSets.{bit_has-zero}
use Rattle.bittle_ext.proofs.short_runs.set_at_end.Goals as goal

pub returns-then-is_zero : goal.returns-then-is_zero
unfolding lacks
returns-then-is_zero g c =
    let w = g.W.Word.width in
    let m = g.E.Endian.mirrored in
    let d = g.W.Word.pattern c.args.word in
    let at = place m w (w - 1 - 0) in
    let none = eqb-true _ _ (sym c.is_zero.ensures.zero ∙ c.if-is_zero.true) in
    record {
      within = omega arith;
      none_above = λ k l. absurd (omega (arith, l));
      is_member = λ h. ap (λ b. b && not (bit_has w d at)) (lt-ltb (w - 1 - 0) w (omega (arith, h)))
          ∙ ap (λ p. not (p at)) (bit_has-zero w d none);
    }
