use Rattle.bit_slots.proofs.KeyHistories.{finds_its_value}
use Rattle.bit_slots.proofs.key_laws.keys_find_their_values.Goals as goal

pub returns : goal.returns
returns g c = finds_its_value
