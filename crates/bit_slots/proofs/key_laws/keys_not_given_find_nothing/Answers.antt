use Rattle.bit_slots.proofs.KeyHistories.{not_given}
use Rattle.bit_slots.proofs.key_laws.keys_not_given_find_nothing.Goals as goal

pub returns : goal.returns
returns g c = not_given
