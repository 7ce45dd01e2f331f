-- The sets of the slots that pass a test, such as being free.
use Rattle.std.specs.Prelude.{◌≡◌, ◌==◌, ◌&&◌, ◌||◌, ℕ, Bool, true, false, not, nat_lt, List}
use Rattle.std.specs.Prelude.{slice_get, Option, Some, None}
use Rattle.bittle.specs.PlainSet.{PlainSet, size}
use Rattle.bit_slots.specs.declared.slot.Slot.{Slot}
use Rattle.bit_slots.specs.declared.slot.Slot.TheVariants.{Free, Live, Retired}

-- whether a slot is free
abbrev pub is_free : {V : Type 0} → Slot V → Bool
is_free (Free generation) = true
is_free (Live generation value) = false
is_free Retired = false

-- whether a slot holds a value
abbrev pub is_live : {V : Type 0} → Slot V → Bool
is_live (Free generation) = false
is_live (Live generation value) = true
is_live Retired = false

-- whether there is such a slot, and it passes the test
abbrev pub passes : {V : Type 0} → (Slot V → Bool) → Option (Slot V) → Bool
passes test None = false
passes test (Some slot) = test slot

-- whether the number names a slot of the row, and that slot passes the test
abbrev pub is_slot : {V : Type 0} → (Slot V → Bool) → List (Slot V) → ℕ → Bool
is_slot test row slot = passes test (slice_get row slot)

-- the set of the slots of a row that pass the test
abbrev pub slots_where : {V : Type 0} → (Slot V → Bool) → ℕ → List (Slot V) → PlainSet
slots_where test c row = record { capacity = c; has = is_slot test row }

-- how many slots of a row of at most c slots hold a value
abbrev pub live_count : {V : Type 0} → ℕ → List (Slot V) → ℕ
live_count c row = size (slots_where is_live c row)

-- the members of s are exactly the slots of a row that pass the test
abbrev pub HasSlots : {V : Type 0} → (Slot V → Bool) → PlainSet → List (Slot V) → Type 0
HasSlots test s row = (slot : ℕ) → s.has slot ≡ is_slot test row slot

-- the members of s are exactly the slots below i that pass the test
abbrev pub MarksBelow : {V : Type 0} → (Slot V → Bool) → PlainSet → List (Slot V) → ℕ → Type 0
MarksBelow test s row i = (slot : ℕ) → s.has slot ≡ (nat_lt slot i && is_slot test row slot)

-- the slot `slot` passes the test now, and each other slot passes it exactly if it did before
abbrev pub Joins : {V : Type 0} → (Slot V → Bool) → List (Slot V) → ℕ → List (Slot V) → Type 0
Joins test before slot after = (k : ℕ) →
    is_slot test after k ≡ ((k == slot) || is_slot test before k)

-- the slot `slot` does not pass the test now, and each other slot passes it exactly if it did
-- before
abbrev pub Leaves : {V : Type 0} → (Slot V → Bool) → List (Slot V) → ℕ → List (Slot V) → Type 0
Leaves test before slot after = (k : ℕ) →
    is_slot test after k ≡ (not (k == slot) && is_slot test before k)

-- each slot passes the test now exactly if it did before
abbrev pub Stays : {V : Type 0} → (Slot V → Bool) → List (Slot V) → List (Slot V) → Type 0
Stays test before after = (k : ℕ) → is_slot test after k ≡ is_slot test before k

-- the same slots are free, and the same slots hold a value
abbrev pub AreSameSlots : {V : Type 0} → List (Slot V) → List (Slot V) → Type 0
AreSameSlots before after = Stays is_free before after × Stays is_live before after

-- a value was put into the slot `slot`: it is not free now, and holds a value; each other slot is
-- free, or holds a value, exactly as before
abbrev pub IsTaken : {V : Type 0} → List (Slot V) → ℕ → List (Slot V) → Type 0
IsTaken before slot after = Leaves is_free before slot after × Joins is_live before slot after

-- the value of the slot `slot` was taken out: the slot holds no value now, and is free if `again`
-- is true; each other slot is free, or holds a value, exactly as before
abbrev pub IsEmptied : {V : Type 0} → List (Slot V) → ℕ → Bool → List (Slot V) → Type 0
IsEmptied before slot again after =
    ((k : ℕ) → is_slot is_free after k ≡ (((k == slot) && again) || is_slot is_free before k))
    × Leaves is_live before slot after
