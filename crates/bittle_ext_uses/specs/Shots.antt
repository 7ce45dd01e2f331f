-- What each answer to a shot says of the squares with ships, and of those that were fired at
-- before.
use Rattle.std.specs.Prelude.{◌≡◌, ℕ, true, false}
use Rattle.bittle.specs.PlainSet.{PlainSet, contains}
use Rattle.bittle_ext_uses.specs.declared.shots.Shot.{Shot}
use Rattle.bittle_ext_uses.specs.declared.shots.Shot.TheVariants.{Repeated, Missed, Hit}

abbrev pub answers : PlainSet → PlainSet → ℕ → Shot → Type 0
answers ships fired square Repeated = contains fired square ≡ true
answers ships fired square Missed =
    (contains fired square ≡ false) × (contains ships square ≡ false)
answers ships fired square Hit = (contains fired square ≡ false) × (contains ships square ≡ true)
