use Rattle.std.proofs.Common.{true}
use Rattle.bittle.specs.Orders.{mirror}
use Rattle.bittle_bits.proofs.PlaceLemmas.{mirror-mirror, place_below}
use Rattle.bittle_laws.proofs.orders.mirroring_undoes_itself.Goals as goal

pub returns-clause-twice : goal.returns-clause-twice
returns-clause-twice c = mirror-mirror

pub returns-clause-below : goal.returns-clause-below
returns-clause-below c = place_below true

pub returns-clause-onto : goal.returns-clause-onto
returns-clause-onto c = λ w words i h l.
    (mirror w i, place_below true w words i h l, mirror-mirror w i h)
