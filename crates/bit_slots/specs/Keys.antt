-- What a key stands for, and how a call changes that.
use Rattle.std.specs.Prelude.{◌≡◌, ℕ, Bool, ◌&&◌, ◌==◌, nat_lt, cond, true, false, is_some, List}
use Rattle.std.specs.Prelude.{slice_get, Option, Some, None, Result, Ok, Err}
use Rattle.bit_slots.specs.SlotSets.{is_free, is_live}
use Rattle.bit_slots.specs.declared.Key.{Key}
use Rattle.bit_slots.specs.declared.slot.Slot.{Slot}
use Rattle.bit_slots.specs.declared.slot.Slot.TheVariants.{Free, Live, Retired}

-- what a key stands for: nothing yet, a value, or nothing any more
pub data Stage (V : Type 0) : Type 0 where
  Unused : Stage V
  Holds : V → Stage V
  Spent : Stage V

-- what each key stands for, by its slot and its generation
abbrev pub Stages : Type 0 → Type 0
Stages V = ℕ → ℕ → Stage V

-- the current generation of a slot: all below it are used up. For a retired slot it is 2 ^ 32
abbrev pub current : {V : Type 0} → Slot V → ℕ
current (Free generation) = generation
current (Live generation value) = generation
current Retired = 4294967296

-- what the current generation of a slot stands for
abbrev pub held : {V : Type 0} → Slot V → Stage V
held (Free generation) = Unused
held (Live generation value) = Holds value
held Retired = Unused

-- what a generation of a slot stands for
abbrev pub stage_of : {V : Type 0} → Slot V → ℕ → Stage V
stage_of slot k = cond (nat_lt k (current slot)) Spent (cond (k == current slot) (held slot) Unused)

-- what generation k of a slot stands for; if the slot does not exist, this is nothing yet
abbrev pub stage_at : {V : Type 0} → Option (Slot V) → ℕ → Stage V
stage_at None k = Unused
stage_at (Some slot) k = stage_of slot k

-- what the keys of a row stand for
abbrev pub stages : {V : Type 0} → List (Slot V) → Stages V
stages row slot generation = stage_at (slice_get row slot) generation

-- the value that a key of a stage finds, or None
abbrev pub found : {V : Type 0} → Stage V → Option V
found Unused = None
found (Holds value) = Some value
found Spent = None

-- the key names the slot `slot`, and finds a value in the row
abbrev pub HasKey : {V : Type 0} → List (Slot V) → ℕ → Key → Type 0
HasKey row slot key = (key.slot ≡ slot) × (is_some (found (stages row slot key.generation)) ≡ true)

-- the stage of a key after its removal: a key that had a value is spent, any other stage stays
abbrev pub spent : {V : Type 0} → Stage V → Stage V
spent Unused = Unused
spent (Holds value) = Spent
spent Spent = Spent

-- whether the slot and the generation are those of the key
abbrev pub is_key : Key → ℕ → ℕ → Bool
is_key key slot generation = (slot == key.slot) && (generation == key.generation)

-- the key stood for nothing yet, and now has the value; no other key changes
pub record IsKeyInserted {V : Type 0} (before : Stages V) (value : V) (key : Key)
    (after : Stages V) : Type 0 where
  pub unused : before key.slot key.generation ≡ Unused
  pub stages : (slot generation : ℕ) → after slot generation
      ≡ cond (is_key key slot generation) (Holds value) (before slot generation)

-- no key changes
abbrev pub AreSameKeys : {V : Type 0} → Stages V → Stages V → Type 0
AreSameKeys before after = (slot generation : ℕ) → after slot generation ≡ before slot generation

-- a value got a key, or was returned and no key changed
abbrev pub IsInserted : {V : Type 0} → Stages V → V → Result Key V → Stages V → Type 0
IsInserted before value (Ok key) after = IsKeyInserted before value key after
IsInserted before value (Err back) after = (back ≡ value) × AreSameKeys before after

-- if the key had a value, it finds nothing any more; no other key changes
abbrev pub IsRemoved : {V : Type 0} → Stages V → Key → Stages V → Type 0
IsRemoved before key after = (slot generation : ℕ) → after slot generation
    ≡ cond (is_key key slot generation) (spent (before slot generation)) (before slot generation)

-- the key had the old value, and now has the new one; no other key changes
pub record IsKeyReplaced {V : Type 0} (before : Stages V) (key : Key) (value old : V)
    (after : Stages V) : Type 0 where
  pub was : before key.slot key.generation ≡ Holds old
  pub stages : (slot generation : ℕ) → after slot generation
      ≡ cond (is_key key slot generation) (Holds value) (before slot generation)

-- a value replaced the value of a key, or was returned since the key finds none
abbrev pub IsReplaced : {V : Type 0} → Stages V → Key → V → Result V V → Stages V → Type 0
IsReplaced before key value (Ok old) after = IsKeyReplaced before key value old after
IsReplaced before key value (Err back) after = (back ≡ value)
    × (found (before key.slot key.generation) ≡ None) × AreSameKeys before after

-- a call changed the value of a key as `Makes` allows (`true`), or nothing changed because the key
-- finds no value (`false`)
abbrev pub IsUpdated : {V : Type 0} → (V → V → Type 0) → Stages V → Key → Bool → Stages V → Type 0
IsUpdated {V} Makes before key true after = (old : V) × (value : V) × Makes old value
    × IsKeyReplaced before key value old after
IsUpdated Makes before key false after = (found (before key.slot key.generation) ≡ None)
    × AreSameKeys before after

-- in one slot: a generation stood for nothing yet, and now has the value; no other one changes
pub record IsFilled {V : Type 0} (old : Slot V) (value : V) (generation : ℕ)
    (new : Slot V) : Type 0 where
  pub unused : stage_of old generation ≡ Unused
  pub stages : (k : ℕ) → stage_of new k ≡ cond (k == generation) (Holds value) (stage_of old k)

-- in one slot: what generation k stands for after `generation` was emptied, if it stood for `stage`
abbrev pub removed : {V : Type 0} → ℕ → ℕ → Stage V → Stage V
removed generation k stage = cond (k == generation) (spent stage) stage

-- in one slot: `value` replaced `back`, the value of the generation
pub record IsExchangedWith {V : Type 0} (old : Slot V) (generation : ℕ) (value back : V)
    (new : Slot V) : Type 0 where
  pub was : stage_of old generation ≡ Holds back
  pub stages : (k : ℕ) → stage_of new k ≡ cond (k == generation) (Holds value) (stage_of old k)
  pub free : is_free new ≡ is_free old
  pub live : is_live new ≡ is_live old

-- in one slot: a value replaced the value of a generation, or was returned because the generation
-- has no value
abbrev pub IsExchanged : {V : Type 0} → Slot V → ℕ → V → Result V V → Slot V → Type 0
IsExchanged old generation value (Ok back) new = IsExchangedWith old generation value back new
IsExchanged old generation value (Err back) new = (back ≡ value)
    × (found (stage_of old generation) ≡ None) × (new ≡ old)

-- in one slot: a call changed the value of a generation as `Makes` allows (`true`), or nothing
-- changed because the generation has no value (`false`)
abbrev pub IsUpdatedIn : {V : Type 0} → (V → V → Type 0) → Slot V → ℕ → Bool → Slot V → Type 0
IsUpdatedIn {V} Makes old generation true new = (back : V) × (value : V) × Makes back value
    × IsExchangedWith old generation value back new
IsUpdatedIn Makes old generation false new = (found (stage_of old generation) ≡ None) × (new ≡ old)
