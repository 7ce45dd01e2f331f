-- The values of a row, each with its key, in the order of their slots.
use Rattle.std.specs.Prelude.{◌≡◌, ℕ, ◌+◌, List, [], ◌∷◌, Some, slice_get}
use Rattle.bit_slots.specs.declared.Key.{Key}
use Rattle.bit_slots.specs.declared.slot.Slot.{Slot}
use Rattle.bit_slots.specs.declared.slot.Slot.TheVariants.{Free, Live, Retired}
use Rattle.bit_slots.specs.Keys.{stages, found}

-- the key of a slot and a generation
abbrev pub key_of : ℕ → ℕ → Key
key_of slot generation = record { slot = slot; generation = generation }

-- the values of a list of slots, each with its key; the first slot in the list has number `slot`
abbrev pub entries_from : {V : Type 0} → ℕ → List (Slot V) → List (Key × V)
entries_from slot [] = []
entries_from slot (Free generation ∷ rest) = entries_from (slot + 1) rest
entries_from slot (Live generation value ∷ rest) =
    (key_of slot generation, value) ∷ entries_from (slot + 1) rest
entries_from slot (Retired ∷ rest) = entries_from (slot + 1) rest

-- the values of a row, each with its key
abbrev pub entries : {V : Type 0} → List (Slot V) → List (Key × V)
entries row = entries_from 0 row

-- the key of the entry finds the value of the entry
abbrev pub IsEntry : {V : Type 0} → List (Slot V) → Key × V → Type 0
IsEntry row entry = found (stages row entry.0.slot entry.0.generation) ≡ Some entry.1

-- the entry is one of the list
abbrev pub HasEntry : {V : Type 0} → List (Key × V) → Key × V → Type 0
HasEntry entries entry = (i : ℕ) × (slice_get entries i ≡ Some entry)
