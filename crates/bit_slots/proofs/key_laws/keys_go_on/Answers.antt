use Rattle.bit_slots.proofs.KeyHistories.{goes_on}
use Rattle.bit_slots.proofs.key_laws.keys_go_on.Goals as goal

pub returns : goal.returns
returns g c = goes_on
