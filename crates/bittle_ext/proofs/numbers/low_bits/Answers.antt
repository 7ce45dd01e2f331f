use Rattle.std.proofs.Common.{refl}
use Rattle.bittle_ext.proofs.NumberBits.{lowest}
use Rattle.bittle_ext.proofs.numbers.low_bits.Goals as goal

pub returns : goal.returns
returns c = lowest c.args.number 128 c.args.count _ _ refl c.requires.within refl
