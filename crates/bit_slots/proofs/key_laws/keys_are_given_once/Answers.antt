use Rattle.bit_slots.proofs.KeyHistories.{given_once}
use Rattle.bit_slots.proofs.key_laws.keys_are_given_once.Goals as goal

pub returns : goal.returns
returns g c = given_once
