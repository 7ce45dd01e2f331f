use Rattle.std.proofs.Common.{arith, ap, length}
use Rattle.bittle_bits.proofs.AscendingLists.{ascending-few}
use Rattle.bittle_bits.specs.Values.{set_in}
use Rattle.bittle.proofs.set.hash.SetHash.hash.Goals as goal

pub feed_all-count-requires-clause-few : goal.feed_all-count-requires-clause-few
feed_all-count-requires-clause-few g c = omega (
  arith,
  ap length c.iter_ones_in.ensures.remaining,
  ascending-few (set_in g.T.Shape g.E.Endian c.args.self.now.bits),
  c.args.self.now.fits.1,
)
