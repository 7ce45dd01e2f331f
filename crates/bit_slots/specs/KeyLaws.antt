-- Laws of every history of calls.
use Rattle.std.specs.Prelude.{◌≡◌, ◌⊎◌, ℕ, suc, ◌<◌, ◌≤◌, List, [], ◌∷◌, Some, None, slice_get}
use Rattle.bit_slots.specs.declared.Key.{Key}
use Rattle.bit_slots.specs.Keys.{Stage, Stages, Unused, Holds, Spent, found, AreSameKeys}
use Rattle.bit_slots.specs.Keys.{IsKeyInserted, IsKeyReplaced, IsRemoved}

-- a call: a value was put in and got the key, `remove` was called with the key, a new value
-- replaced that of the key, or nothing changed
pub data Call (V : Type 0) : Type 0 where
  Inserts : V → Key → Call V
  Removes : Key → Call V
  Replaces : Key → V → Call V
  Refuses : Call V

-- how a call changed the stages of keys
abbrev pub IsCall : {V : Type 0} → Stages V → Call V → Stages V → Type 0
IsCall before (Inserts value key) after = IsKeyInserted before value key after
IsCall before (Removes key) after = IsRemoved before key after
IsCall {V} before (Replaces key value) after = (old : V) × IsKeyReplaced before key value old after
IsCall before Refuses after = AreSameKeys before after

-- how calls that were made one after the other changed the stages of keys
abbrev pub IsHistory : {V : Type 0} → Stages V → List (Call V) → Stages V → Type 0
IsHistory before [] after = AreSameKeys before after
IsHistory {V} before (call ∷ calls) after =
    (between : Stages V) × IsCall before call between × IsHistory between calls after

-- the stage of a key as a number: it stands for nothing yet, for a value, or for nothing any more
abbrev pub age : {V : Type 0} → Stage V → ℕ
age Unused = 0
age (Holds value) = 1
age Spent = 2

-- call i puts the value under the key: it gives the key to the value, or replaces the key's value
abbrev pub PutsAt : {V : Type 0} → ℕ → List (Call V) → Key → V → Type 0
PutsAt i calls key value = (slice_get calls i ≡ Some (Inserts value key))
    ⊎ (slice_get calls i ≡ Some (Replaces key value))

-- no call from number i on removes the key, or replaces its value
abbrev pub SparesFrom : {V : Type 0} → ℕ → List (Call V) → Key → Type 0
SparesFrom {V} i calls key = (j : ℕ) → i ≤ j
    → (slice_get calls j ≡ Some (Removes key) → ⊥)
    × ((value : V) → slice_get calls j ≡ Some (Replaces key value) → ⊥)

-- no key goes back to an earlier stage, whatever is called
abbrev pub KeysGoOn : Type 0 → Type 0
KeysGoOn V =
    (before after : Stages V) (calls : List (Call V)) → IsHistory before calls after
    → (slot generation : ℕ) → age (before slot generation) ≤ age (after slot generation)

-- if a key was given before a history, and a call of the history is `remove` with the key, then the
-- key finds nothing after the history
abbrev pub RemovedKeysFindNothing : Type 0 → Type 0
RemovedKeysFindNothing V =
    (before after : Stages V) (calls : List (Call V)) → IsHistory before calls after
    → (key : Key) (i : ℕ) → 0 < age (before key.slot key.generation)
    → slice_get calls i ≡ Some (Removes key)
    → found (after key.slot key.generation) ≡ None

-- if a call gives a key, and a later call is `remove` with the key, then the key finds nothing
-- after the history
abbrev pub GivenThenRemovedKeysFindNothing : Type 0 → Type 0
GivenThenRemovedKeysFindNothing V =
    (before after : Stages V) (calls : List (Call V)) → IsHistory before calls after
    → (key : Key) (value : V) (i j : ℕ) → i < j
    → slice_get calls i ≡ Some (Inserts value key) → slice_get calls j ≡ Some (Removes key)
    → found (after key.slot key.generation) ≡ None

-- a key that finds a value before a history, and that no call of the history removes or gives
-- another value, finds that value after the history
abbrev pub KeysAreKept : Type 0 → Type 0
KeysAreKept V =
    (before after : Stages V) (calls : List (Call V)) → IsHistory before calls after
    → (key : Key) (value : V) → found (before key.slot key.generation) ≡ Some value
    → SparesFrom 0 calls key
    → found (after key.slot key.generation) ≡ Some value

-- a key that a call gave, or whose value a call replaced, and that no later call removes or gives
-- another value, finds the value of that call after the history
abbrev pub KeysFindTheirValues : Type 0 → Type 0
KeysFindTheirValues V =
    (before after : Stages V) (calls : List (Call V)) → IsHistory before calls after
    → (key : Key) (value : V) (i : ℕ) → PutsAt i calls key value
    → SparesFrom (suc i) calls key
    → found (after key.slot key.generation) ≡ Some value

-- no call gives a key that was given before the history
abbrev pub KeysGivenBeforeAreNotGiven : Type 0 → Type 0
KeysGivenBeforeAreNotGiven V =
    (before after : Stages V) (calls : List (Call V)) → IsHistory before calls after
    → (key : Key) (value : V) (i : ℕ) → 0 < age (before key.slot key.generation)
    → slice_get calls i ≡ Some (Inserts value key) → ⊥

-- no two calls give the same key
abbrev pub KeysAreGivenOnce : Type 0 → Type 0
KeysAreGivenOnce V =
    (before after : Stages V) (calls : List (Call V)) → IsHistory before calls after
    → (key : Key) (value other : V) (i j : ℕ) → i < j
    → slice_get calls i ≡ Some (Inserts value key)
    → slice_get calls j ≡ Some (Inserts other key) → ⊥

-- a key that finds nothing before a history, and that no call of the history gives, finds nothing
-- after the history
abbrev pub KeysNotGivenFindNothing : Type 0 → Type 0
KeysNotGivenFindNothing V =
    (before after : Stages V) (calls : List (Call V)) → IsHistory before calls after
    → (key : Key) → found (before key.slot key.generation) ≡ None
    → ((value : V) (i : ℕ) → slice_get calls i ≡ Some (Inserts value key) → ⊥)
    → found (after key.slot key.generation) ≡ None
