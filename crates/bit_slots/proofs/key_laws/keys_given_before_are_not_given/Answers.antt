use Rattle.bit_slots.proofs.KeyHistories.{given_before}
use Rattle.bit_slots.proofs.key_laws.keys_given_before_are_not_given.Goals as goal

pub returns : goal.returns
returns g c = given_before
