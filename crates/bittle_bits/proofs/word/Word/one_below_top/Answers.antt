use Rattle.std.proofs.Common.{◌-◌, ◌/◌, ◌^◌, ap, ◌∙◌, arith}
use Rattle.bittle_bits.proofs.BitSets.{exponent_below, shifted_power}
use Rattle.bittle_bits.proofs.word.Word.one_below_top.Goals as goal

pub overflow_shr-to_bits : goal.overflow_shr-to_bits
overflow_shr-to_bits g c =
    let e = exponent_below (c.width.result - 1) 128
    (rw (← c.one_at.ensures, ← c.to_bits.ensures.pattern) c.to_bits.type_inv) in
    let w = c.width.ensures in let b = c.requires in omega arith

pub returns : goal.returns
returns g c = c.from_bits.ensures
    ∙ ap (λ t. t / 2 ^ c.args.below) (c.to_bits.ensures.pattern ∙ c.one_at.ensures)
    ∙ shifted_power (c.width.result - 1) c.args.below
    (let w = c.width.ensures in let b = c.requires in omega arith)
    ∙ ap (λ w. 2 ^ (w - 1 - c.args.below)) c.width.ensures
