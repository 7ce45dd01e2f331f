use Rattle.std.proofs.Common.{◌≡◌, ◌-◌, ◌/◌, ◌%◌, ◌^◌, ◌<◌, refl, ap, arith}
use Rattle.std.proofs.Math.Nat.{mod-eq_of_lt}
use Rattle.bittle_ext.proofs.Windows.{cut_twice, funnel_fits, funnel_window}
use Rattle.bittle_ext.proofs.rotations.funnel_down.Goals as goal

pub from_bits-requires : goal.from_bits-requires
from_bits-requires g c =
    let w = g.W.Word.width in
    let by = c.args.by in
    let ones = c.all_bits-ones.ensures in
    let wide = c.width-width.ensures in
    let same : by % c.width-width.result ≡ by = mod-eq_of_lt (omega (arith, c.requires, wide)) in
    let first : c.to_bits-2.result < 2 ^ w =
    omega (arith, c.to_bits-2.ensures.pattern, c.to_bits-2.ensures.range) in
    funnel_fits w by (w - by) c.to_bits-2.result c.to_bits.result _ _ _ (omega (arith, c.requires))
    refl first (cut_twice w by _ (w - by) _ _ (omega (arith, c.requires)) refl
    (omega (arith, same, wide, c.requires)) ones.width ones.value)
    (ap (λ k. c.to_bits-2.result / 2 ^ k) same) refl

pub returns : goal.returns
returns g c =
    let w = g.W.Word.width in
    let by = c.args.by in
    let ones = c.all_bits-ones.ensures in
    let wide = c.width-width.ensures in
    let same : by % c.width-width.result ≡ by = mod-eq_of_lt (omega (arith, c.requires, wide)) in
    let first : c.to_bits-2.result < 2 ^ w =
    omega (arith, c.to_bits-2.ensures.pattern, c.to_bits-2.ensures.range) in
    rw (← c.to_bits-2.ensures.pattern, ← c.to_bits.ensures.pattern)
    (funnel_window w by (w - by) c.to_bits-2.result c.to_bits.result _ _ _
    (omega (arith, c.requires)) refl first (cut_twice w by _ (w - by) _ _
    (omega (arith, c.requires)) refl (omega (arith, same, wide, c.requires)) ones.width ones.value)
    (ap (λ k. c.to_bits-2.result / 2 ^ k) same) c.from_bits.ensures)
