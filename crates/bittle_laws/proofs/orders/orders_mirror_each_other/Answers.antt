use Rattle.std.proofs.Common.{sym}
use Rattle.bittle_bits.proofs.PlaceLemmas.{mirror-mirror}
use Rattle.bittle_laws.proofs.orders.orders_mirror_each_other.Goals as goal

pub returns-clause-big : goal.returns-clause-big
returns-clause-big c = λ w i h. sym (mirror-mirror w i h)
