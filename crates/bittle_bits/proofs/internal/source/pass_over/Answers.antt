use Rattle.bittle_bits.proofs.OnesOrZeros.{passes_in_order}
use Rattle.bittle_bits.proofs.internal.source.pass_over.Goals as goal

pub returns-clause-in_each_order : goal.returns-clause-in_each_order
returns-clause-in_each_order g c mirrored =
    let law = g.met.B.ReadWords in
    passes_in_order _ _ _ _ _ _ _ _ law.width_positive (law.whole_words c.args.bits.now)
    c.pass_over.ensures
