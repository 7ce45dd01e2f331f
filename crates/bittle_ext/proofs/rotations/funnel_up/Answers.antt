use Rattle.std.proofs.Common.{◌≡◌, ◌-◌, ◌*◌, ◌%◌, ◌^◌, ◌<◌, bit_and, refl, ap, ◌∙◌, arith}
use Rattle.std.proofs.Math.Nat.{mod-eq_of_lt}
use Rattle.bittle_ext.proofs.Windows.{cut_upper, down_twice, funnel_fits, funnel_window}
use Rattle.bittle_ext.proofs.rotations.funnel_up.Goals as goal

pub from_bits-requires : goal.from_bits-requires
from_bits-requires g c =
    let w = g.W.Word.width in
    let by = c.args.by in
    let ones = c.all_bits-ones.ensures in
    let same : by % c.width-width.result ≡ by =
    mod-eq_of_lt (omega (arith, c.requires, c.width-width.ensures)) in
    let first : c.to_bits.result < 2 ^ w =
    omega (arith, c.to_bits.ensures.pattern, c.to_bits.ensures.range) in
    funnel_fits w (w - by) by c.to_bits.result c.to_bits-2.result _ _ _ (omega arith)
    (omega (arith, c.requires)) first (ap (λ k. bit_and (c.to_bits-2.result * 2 ^ k % 2 ^ 128)
    c.all_bits-ones.result) same ∙ cut_upper w (w - by) by _ _ (omega arith)
    (omega (arith, c.requires)) ones.width ones.value)
    (down_twice _ _ (w - by) (omega (arith, same, c.width-width.ensures, c.requires))) refl

pub returns : goal.returns
returns g c =
    let w = g.W.Word.width in
    let by = c.args.by in
    let ones = c.all_bits-ones.ensures in
    let same : by % c.width-width.result ≡ by =
    mod-eq_of_lt (omega (arith, c.requires, c.width-width.ensures)) in
    let first : c.to_bits.result < 2 ^ w =
    omega (arith, c.to_bits.ensures.pattern, c.to_bits.ensures.range) in
    rw (← c.to_bits-2.ensures.pattern, ← c.to_bits.ensures.pattern)
    (funnel_window w (w - by) by c.to_bits.result c.to_bits-2.result _ _ _ (omega arith)
    (omega (arith, c.requires)) first (ap (λ k. bit_and (c.to_bits-2.result * 2 ^ k % 2 ^ 128)
    c.all_bits-ones.result) same ∙ cut_upper w (w - by) by _ _ (omega arith)
    (omega (arith, c.requires)) ones.width ones.value)
    (down_twice _ _ (w - by) (omega (arith, same, c.width-width.ensures, c.requires)))
    c.from_bits.ensures)
