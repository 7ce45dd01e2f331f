use Rattle.std.proofs.Common.{arith}
use Rattle.bittle.specs.Values.{set_in}
use Rattle.bittle.proofs.CallerSets.{size_at_most}
use Rattle.bit_pages.proofs.Pages.taken.Goals as goal

pub returns-clause-at_most : goal.returns-clause-at_most
returns-clause-at_most g c =
    let capacity = g.met.B.FixedCapacity.one_capacity c.args.self.now.map in
    let most = size_at_most (set_in g.B.Shape g.B.Order.Endian c.args.self.now.map) in
    omega (arith, capacity, most, c.args.self.now.counted)
