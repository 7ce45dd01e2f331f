use Rattle.std.proofs.Common.{arith}
use Rattle.bittle.specs.Values.{set_in}
use Rattle.bittle.proofs.CallerSets.{size_at_most}
use Rattle.bit_pages.proofs.Pages.free.Goals as goal

pub overflow_sub-result : goal.overflow_sub-result
overflow_sub-result g c =
    let capacity = g.met.B.FixedCapacity.one_capacity c.args.self.now.map in
    let most = size_at_most (set_in g.B.Shape g.B.Order.Endian c.args.self.now.map) in
    let bits = c.bits.ensures.value c.args.self.now.fits in
    omega (arith, capacity, most, bits, c.args.self.now.counted)
