use Rattle.std.proofs.Common.{◌≡◌, ◌∙◌, true, false, not, refl, sym, ap, arith}
use mathlib.Core.Bool.{beq}
use Rattle.std.proofs.lemmas.Bool.{eq-eqb, eqb-true, eqb-false, not-false, true≢false}
use Rattle.bittle_bits.proofs.Halves.{taken_high, taken_low}
use Rattle.bittle_bits.proofs.WordSizes.{zero_lists_none, none_listed}
use Rattle.bittle_bits.proofs.one_word.pop_from_half.Goals as goal
use Rattle.bittle_bits.proofs.one_word.pop_from_half.Goals.{then-is_mirrored-FRONT}
use Rattle.bittle_bits.proofs.one_word.pop_from_half.Goals.{else-is_mirrored-FRONT}

pub returns-in_err-place-clause-found : goal.returns-in_err-place-clause-found
returns-in_err-place-clause-found g c =
    let high = none_listed g.E.Endian.mirrored 64 c.halves-low.result.1 (omega arith)
    c.halves-low.ensures.range.1 c.in_err-place.ensures.found.0 in
    let low : c.halves-low.result.0 ≡ 0 = elim c.if-is_mirrored-FRONT.branch [
      | then-is_mirrored-FRONT w ↦ absurd (true≢false
          (sym c.if-is_high.true ∙ w.is_high-is ∙ ap not (eq-eqb _ 0 high)))
      | else-is_mirrored-FRONT w ↦ eqb-true _ 0 (sym w.is_high-is ∙ c.if-is_high.true)
    ] in
    rw c.from_residual.ensures
    (zero_lists_none _ _ _ (omega (arith, c.halves-low.ensures.pattern, low, high)), refl)

pub returns-in_err-place-2-clause-found : goal.returns-in_err-place-2-clause-found
returns-in_err-place-2-clause-found g c =
    let low = none_listed g.E.Endian.mirrored 64 c.halves-low.result.0 (omega arith)
    c.halves-low.ensures.range.0 c.in_err-place-2.ensures.found.0 in
    let high : c.halves-low.result.1 ≡ 0 = elim c.if-is_mirrored-FRONT.branch [
      | then-is_mirrored-FRONT w ↦
          eqb-true _ 0 (not-false _ (sym w.is_high-is ∙ c.if-is_high.false))
      | else-is_mirrored-FRONT w ↦
          absurd (eqb-false _ 0 (sym w.is_high-is ∙ c.if-is_high.false) low)
    ] in
    rw c.from_residual-in_err-place-2.ensures
    (zero_lists_none _ _ _ (omega (arith, c.halves-low.ensures.pattern, low, high)), refl)

pub returns-in_ok-place-clause-found : goal.returns-in_ok-place-clause-found
returns-in_ok-place-clause-found g c =
    let low : beq g.E.Endian.mirrored g.N.End.FRONT ≡ false → c.halves-low.result.0 ≡ 0 =
    elim c.if-is_mirrored-FRONT.branch [
      | then-is_mirrored-FRONT w ↦ λ apart. absurd (true≢false (sym
          (rw (c.is_mirrored.ensures, c.FRONT.ensures) at w.if-is_mirrored-FRONT.true) ∙ apart))
      | else-is_mirrored-FRONT w ↦ λ _. eqb-true _ 0 (sym w.is_high-is ∙ c.if-is_high.true)
    ] in
    rw (c.halves-low.ensures.pattern, c.joined.ensures.pattern) (taken_high g.N.End.FRONT
    g.E.Endian.mirrored 64 _ _ _ _ c.in_ok-place.place c.requires c.halves-low.ensures.range.0
    c.in_ok-place.ensures.within low c.in_ok-place.ensures.found)

pub returns-in_ok-place-2-clause-found : goal.returns-in_ok-place-2-clause-found
returns-in_ok-place-2-clause-found g c =
    let high : beq g.E.Endian.mirrored g.N.End.FRONT ≡ true → c.halves-low.result.1 ≡ 0 =
    elim c.if-is_mirrored-FRONT.branch [
      | then-is_mirrored-FRONT w ↦ λ _.
          eqb-true _ 0 (not-false _ (sym w.is_high-is ∙ c.if-is_high.false))
      | else-is_mirrored-FRONT w ↦ λ alike. absurd (true≢false (sym alike
          ∙ (rw (c.is_mirrored.ensures, c.FRONT.ensures) at w.if-is_mirrored-FRONT.false)))
    ] in
    rw (c.halves-low.ensures.pattern, c.joined-else-is_high.ensures.pattern) (taken_low
    g.N.End.FRONT g.E.Endian.mirrored 64 _ _ _ _ c.in_ok-place-2.place c.requires
    c.halves-low.ensures.range.0 c.joined-else-is_high.ensures.range c.in_ok-place-2.ensures.within
    high c.in_ok-place-2.ensures.found)
