use Rattle.bit_slots.proofs.KeyHistories.{kept}
use Rattle.bit_slots.proofs.key_laws.keys_are_kept.Goals as goal

pub returns : goal.returns
returns g c = kept
