use Rattle.std.proofs.Common.{◌∙◌, arith}
use Rattle.bittle.proofs.CallerSets.{contains_within}
use Rattle.bit_entities.proofs.World.is_alive.Goals as goal

pub returns-then-entity-bits-clause-value : goal.returns-then-entity-bits-clause-value
returns-then-entity-bits-clause-value g c =
    let capacity = g.met.B.FixedCapacity.one_capacity c.args.self.now.alive in
    let bits = c.bits.ensures.value c.args.self.now.fits in
    c.test_bit.ensures.value ∙ contains_within _ c.args.entity
    (omega (arith, capacity, bits, c.if-entity-bits.true))
