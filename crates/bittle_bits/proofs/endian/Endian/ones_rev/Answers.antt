use Rattle.bittle_bits.specs.PlainSet.{IsGreatestMember}
use Rattle.bittle_bits.proofs.WordEnds.{ends_of_rest}
use Rattle.bittle_bits.proofs.endian.Endian.ones_rev.Goals as goal

pub returns : goal.returns
returns g c = ends_of_rest g.Self.Endian.mirrored g.T.Word.width
    (g.T.Word.pattern c.args.value) (g.T.Word.pattern c.not.result)
    (λ s. IsGreatestMember s c.zeros_rev.result) g.met.T.Word.width_positive c.not.ensures.range
    c.not.ensures.pattern c.zeros_rev.ensures
