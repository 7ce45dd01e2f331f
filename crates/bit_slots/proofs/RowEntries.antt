-- The entries of a row are those whose keys find their values.
use Rattle.std.proofs.Common.{◌≡◌, ℕ, zero, suc, ◌+◌, ◌<◌, ◌≤◌, Bool, true, false, cond, ◌==◌}
use Rattle.std.proofs.Common.{nat_lt, Option, None, List, [], ◌∷◌, length, Some, inl, inr, refl}
use Rattle.std.proofs.Common.{sym, ap, ◌∙◌, arith, slice_get, slice_index_or}
use Rattle.std.proofs.lemmas.Bool.{cases_eq, cases_lt, eq-eqb, le-ltb, ne_eqb}
use Rattle.std.proofs.lemmas.Option.{same_Some, slice_get_past}
use Rattle.bit_slots.specs.declared.Key.{Key}
use Rattle.bit_slots.specs.declared.slot.Slot.{Slot}
use Rattle.bit_slots.specs.declared.slot.Slot.TheVariants.{Free, Live, Retired}
use Rattle.bit_slots.specs.Entries.{key_of, entries_from, IsEntry, HasEntry}
use Rattle.bit_slots.specs.Keys.{Unused, Holds, Spent, found, stage_of, stage_at}
use Rattle.bit_slots.proofs.SlotChanges.{live_holds}

-- if the slots begin at number `from`, those after the first begin at the next number
later : {V : Type 0} (row : List (Slot V)) (slot : Slot V) (rest : List (Slot V)) (from : ℕ) →
    ((k : ℕ) → slice_get row (from + k) ≡ slice_get (slot ∷ rest) k) →
    (k : ℕ) → slice_get row (from + 1 + k) ≡ slice_get rest k
later row slot rest from same k =
    let next : from + 1 + k ≡ from + suc k = omega arith in ap (slice_get row) next ∙ same (suc k)

-- each entry of the slots from `from` on is an entry of the row
pub entries_are : {V : Type 0} (row rest : List (Slot V)) (from : ℕ) →
    ((k : ℕ) → slice_get row (from + k) ≡ slice_get rest k) → (k : ℕ) (d : Key × V) →
    k < length (entries_from from rest) → IsEntry row (slice_index_or (entries_from from rest) k d)
entries_are row [] from same k d h = absurd (omega arith)
entries_are row (Free generation ∷ rest) from same k d h =
    entries_are row rest (from + 1) (later row (Free generation) rest from same) k d h
entries_are row (Retired ∷ rest) from same k d h =
    entries_are row rest (from + 1) (later row Retired rest from same) k d h
entries_are row (Live generation value ∷ rest) from same zero d h =
    let start : from ≡ from + 0 = omega arith in
    let first : slice_get row from ≡ Some (Live generation value) =
    ap (slice_get row) start ∙ same 0 in
    ap (λ o. found (stage_at o generation)) first
    ∙ ap found (live_holds generation value)
entries_are row (Live generation value ∷ rest) from same (suc k) d h =
    entries_are row rest (from + 1) (later row (Live generation value) rest from same) k d
    (omega arith)

-- the slot of an entry is in the row
pub entry_within : {V : Type 0} (row : List (Slot V)) (entry : Key × V) → IsEntry row entry →
    entry.0.slot < length row
entry_within row entry is = elim (cases_lt entry.0.slot (length row)) [
  | inl l ↦ l
  | inr g ↦
      let none = ap (λ o. found (stage_at o entry.0.generation))
      (slice_get_past row entry.0.slot g) in absurd (cc)
]

-- there are no more entries than slots
pub entries_at_most : {V : Type 0} (rest : List (Slot V)) (from : ℕ) →
    length (entries_from from rest) ≤ length rest
entries_at_most [] from = omega arith
entries_at_most (Free generation ∷ rest) from = omega (arith, entries_at_most rest (from + 1))
entries_at_most (Live generation value ∷ rest) from =
    omega (arith, entries_at_most rest (from + 1))
entries_at_most (Retired ∷ rest) from = omega (arith, entries_at_most rest (from + 1))

-- a generation of a slot with no value finds nothing
none_found : {V : Type 0} (is_spent is_current : Bool) (value : V) →
    found {V = V} (cond is_spent Spent (cond is_current Unused Unused)) ≡ Some value → ⊥
none_found true is_current value e = cc
none_found false true value e = cc
none_found false false value e = cc

-- if a generation of a slot finds a value, the slot holds the value in that generation
pub holds_is : {V : Type 0} (slot : Slot V) (generation : ℕ) (value : V) →
    found (stage_of slot generation) ≡ Some value → slot ≡ Live generation value
holds_is (Free current) generation value is =
    absurd (none_found (nat_lt generation current) (generation == current) value is)
holds_is Retired generation value is =
    absurd (none_found (nat_lt generation 4294967296) (generation == 4294967296) value is)
holds_is (Live current held) generation value is = elim (cases_eq generation current) [
  | inl same ↦
      let low = le-ltb generation current (omega (arith, same)) in
      let here = eq-eqb generation current same in
      let held_is = same_Some held value (sym (ap found (holds low here)) ∙ is) in
      ap (λ n. Live n held) (sym same) ∙ ap (Live generation) held_is
  | inr apart ↦ absurd (none_found (nat_lt generation current) false value
      (sym (ap (λ b. found (cond (nat_lt generation current) Spent (cond b (Holds held) Unused)))
      (ne_eqb generation current apart)) ∙ is))
]
  where
    holds : nat_lt generation current ≡ false → (generation == current) ≡ true →
        stage_of (Live current held) generation ≡ Holds held
    holds low here = rw (low, here) refl

-- an entry keeps its slot whether the slots are counted from this one or from the next one
counted : {V : Type 0} (entries : List (Key × V)) (from i generation : ℕ) (value : V) →
    HasEntry entries (key_of (from + 1 + i) generation, value) →
    HasEntry entries (key_of (from + suc i) generation, value)
counted entries from i generation value is =
    let next : from + 1 + i ≡ from + suc i = omega arith in
    (is.0, is.1 ∙ ap (λ n. Some (key_of n generation, value)) next)

-- a slot with a value has its entry
has_at : {V : Type 0} (rest : List (Slot V)) (from i generation : ℕ) (value : V) →
    slice_get rest i ≡ Some (Live generation value) →
    HasEntry (entries_from from rest) (key_of (from + i) generation, value)
has_at [] from i generation value is = absurd (cc)
has_at (Free current ∷ rest) from zero generation value is = absurd (cc)
has_at (Retired ∷ rest) from zero generation value is = absurd (cc)
has_at (Live current held ∷ rest) from zero generation value is =
    let first : from ≡ from + 0 = omega arith in
    (0, cc)
has_at (Free current ∷ rest) from (suc i) generation value is =
    counted _ from i generation value (has_at rest (from + 1) i generation value is)
has_at (Retired ∷ rest) from (suc i) generation value is =
    counted _ from i generation value (has_at rest (from + 1) i generation value is)
has_at (Live current held ∷ rest) from (suc i) generation value is =
    let later = counted _ from i generation value (has_at rest (from + 1) i generation value is) in
    (suc later.0, later.1)

-- each key that finds a value has an entry
pub entries_have : {V : Type 0} (row : List (Slot V)) (key : Key) (value : V) →
    IsEntry row (key, value) → HasEntry (entries_from 0 row) (key, value)
entries_have {V = V} row key value is =
    let at = has_at row 0 key.slot key.generation value (by (slice_get row key.slot) is) in
    let same : 0 + key.slot ≡ key.slot = omega arith in
    (at.0, at.1 ∙ ap (λ n. Some (key_of n key.generation, value)) same)
  where
    by : (place : Option (Slot V)) → found (stage_at place key.generation) ≡ Some value →
        place ≡ Some (Live key.generation value)
    by None e = absurd (cc)
    by (Some slot) e = ap Some (holds_is slot key.generation value e)

-- the entries of the slots from `from` on have slots that are at least `from`
from_there : {V : Type 0} (rest : List (Slot V)) (from i : ℕ) (entry : Key × V) →
    slice_get (entries_from from rest) i ≡ Some entry → from ≤ entry.0.slot
from_there [] from i entry is = absurd (cc)
from_there (Free current ∷ rest) from i entry is =
    omega (arith, from_there rest (from + 1) i entry is)
from_there (Retired ∷ rest) from i entry is =
    omega (arith, from_there rest (from + 1) i entry is)
from_there (Live current held ∷ rest) from zero entry is =
    let here : from ≡ entry.0.slot = ap (λ e. e.0.slot) (same_Some _ _ is) in omega (arith, here)
from_there (Live current held ∷ rest) from (suc i) entry is =
    omega (arith, from_there rest (from + 1) i entry is)

-- each entry has a lesser slot than the next entry
pub slots_rise : {V : Type 0} (rest : List (Slot V)) (from i : ℕ) (first second : Key × V) →
    slice_get (entries_from from rest) i ≡ Some first →
    slice_get (entries_from from rest) (suc i) ≡ Some second → first.0.slot < second.0.slot
slots_rise [] from i first second is next = absurd (cc)
slots_rise (Free current ∷ rest) from i first second is next =
    slots_rise rest (from + 1) i first second is next
slots_rise (Retired ∷ rest) from i first second is next =
    slots_rise rest (from + 1) i first second is next
slots_rise (Live current held ∷ rest) from zero first second is next =
    let here : from ≡ first.0.slot = ap (λ e. e.0.slot) (same_Some _ _ is) in
    omega (arith, here, from_there rest (from + 1) zero second next)
slots_rise (Live current held ∷ rest) from (suc i) first second is next =
    slots_rise rest (from + 1) i first second is next
