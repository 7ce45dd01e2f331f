use Rattle.std.proofs.Common.{◌^◌, ◌≤◌, ap, ◌∙◌, arith}
use Rattle.std.proofs.Math.Pow.{pow_mono}
use Rattle.bittle.specs.PlainSet.{PlainSet}
use Rattle.bittle.specs.Values.{set_in}
use Rattle.bittle_ext.proofs.CopiedRanges.{like_number}
use Rattle.bittle_ext.proofs.copies.word_for.Goals as goal

pub word_of-requires : goal.word_of-requires
word_of-requires g c =
    let most : 2 ^ c.args.count ≤ 2 ^ g.A.Shape.width = pow_mono c.requires.within in
    rw g.met.A.ReadWords.leaf_width (omega (arith, c.number_from.ensures.below, most))

pub returns : goal.returns
returns g c i h =
    ap (λ (u : PlainSet). u.has i) (rw g.met.A.ReadWords.leaf_width at c.word_of.ensures)
    ∙ like_number (set_in g.B.Shape g.F.Endian c.args.other.now) c.args.first c.args.count
    g.A.Shape.width c.number_from.result c.requires.within c.number_from.ensures.bits i h
