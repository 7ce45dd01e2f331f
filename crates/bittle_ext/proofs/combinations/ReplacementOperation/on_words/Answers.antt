use Rattle.std.proofs.Common.{refl}
use Rattle.bittle_bits.proofs.WordOperations.{digits_combined}
use Rattle.bittle_ext.proofs.combinations.ReplacementOperation.on_words.Goals as goal

pub returns : goal.returns
returns g c = digits_combined (λ _ theirs. theirs) _ _ _ _ (λ k h. refl)
