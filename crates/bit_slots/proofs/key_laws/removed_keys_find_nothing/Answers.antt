use Rattle.bit_slots.proofs.KeyHistories.{finds_nothing}
use Rattle.bit_slots.proofs.key_laws.removed_keys_find_nothing.Goals as goal

pub returns : goal.returns
returns g c = finds_nothing
