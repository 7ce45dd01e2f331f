use Rattle.bit_slots.proofs.KeyHistories.{given_removed}
use Rattle.bit_slots.proofs.key_laws.given_then_removed_keys_find_nothing.Goals as goal

pub returns : goal.returns
returns g c = given_removed
