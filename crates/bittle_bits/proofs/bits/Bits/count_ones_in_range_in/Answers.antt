use Rattle.std.proofs.Common.{arith}
use Rattle.bittle_bits.specs.Values.{set_in}
use Rattle.bittle_bits.proofs.MembersBelow.{below_between}
use Rattle.bittle_bits.proofs.bits.Bits.count_ones_in_range_in.Goals as goal

pub returns-clause-at_most : goal.returns-clause-at_most
returns-clause-at_most g c =
    let ours = set_in g.Self.Shape g.E.Endian c.args.self.now in
    omega (
      arith,
      c.count_ones.ensures,
      (below_between ours c.args.from c.args.to c.requires.ordered).1,
    )
