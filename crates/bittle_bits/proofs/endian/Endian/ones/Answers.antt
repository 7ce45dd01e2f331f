use Rattle.bittle_bits.specs.PlainSet.{IsLeastMember}
use Rattle.bittle_bits.proofs.WordEnds.{ends_of_rest}
use Rattle.bittle_bits.proofs.endian.Endian.ones.Goals as goal

pub returns : goal.returns
returns g c = ends_of_rest g.Self.Endian.mirrored g.T.Word.width
    (g.T.Word.pattern c.args.value) (g.T.Word.pattern c.not.result)
    (λ s. IsLeastMember s c.zeros.result) g.met.T.Word.width_positive c.not.ensures.range
    c.not.ensures.pattern c.zeros.ensures
