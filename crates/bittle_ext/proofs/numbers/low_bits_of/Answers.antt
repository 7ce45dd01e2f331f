use Rattle.std.proofs.Common.{◌∙◌, arith}
use Rattle.std.proofs.Math.Nat.{mod-eq_of_lt}
use Rattle.bittle_ext.proofs.NumberBits.{lowest}
use Rattle.bittle_ext.proofs.numbers.low_bits_of.Goals as goal

pub returns : goal.returns
returns g c =
    let w = g.W.Word.width in
    let wide = c.width_of-width.ensures.width in
    lowest c.args.number w c.args.count _ _ c.all_bits.ensures.value c.requires.within
    (mod-eq_of_lt (omega (arith, wide, c.requires.some, c.requires.within)) ∙ omega (arith, wide))
