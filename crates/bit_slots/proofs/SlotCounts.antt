-- How many slots of a row pass a test, and which numbers name them.
use Rattle.std.proofs.Common.{◌≡◌, ℕ, zero, suc, ◌+◌, ◌<◌, ◌≤◌, Bool, true, false, cond, List, []}
use Rattle.std.proofs.Common.{◌∷◌, length, Option, Some, None, inl, inr, refl, sym, ap, ◌∙◌, arith}
use Rattle.std.specs.Prelude.{◌==◌, nat_lt, slice_get}
use Rattle.std.specs.List.{All}
use Rattle.std.proofs.lemmas.Bool.{cases_lt}
use Rattle.std.proofs.lemmas.List.{get_or_default}
use Rattle.std.proofs.lemmas.Option.{slice_get_past}
use Rattle.bittle.specs.PlainSet.{PlainSet, ascending, count_below, size}
use Rattle.bittle.proofs.CallerChanges.{size_added, size_removed}
use Rattle.bittle.proofs.CallerLists.{ascending_member}
use Rattle.bittle.proofs.CallerSets.{size_at_most}
use Rattle.bit_slots.specs.declared.slot.Slot.{Slot}
use Rattle.bit_slots.specs.declared.slot.Slot.TheVariants.{Free, Live, Retired}
use Rattle.bit_slots.specs.Entries.{entries_from}
use Rattle.bit_slots.specs.Keys.{Unused, Spent, found, stage_at, stages}
use Rattle.bit_slots.specs.SlotSets.{is_free, is_live, is_slot, passes, slots_where, HasSlots}
use Rattle.bit_slots.specs.SlotSets.{Joins, Leaves, Stays}
use Rattle.bit_slots.proofs.RowEntries.{holds_is}
use Rattle.bit_slots.proofs.SlotMarks.{slot_within}

-- a free slot holds no value
pub free_lacks : {V : Type 0} (row : List (Slot V)) (slot : ℕ) →
    is_slot is_free row slot ≡ true → is_slot is_live row slot ≡ false
free_lacks {V = V} row slot free = by (slice_get row slot) free
  where
    by : (place : Option (Slot V)) → passes is_free place ≡ true → passes is_live place ≡ false
    by None e = refl
    by (Some (Free generation)) e = refl
    by (Some (Live generation value)) e = absurd (cc)
    by (Some Retired) e = refl

-- the slot of a key that finds a value holds a value
pub found_holds : {V : Type 0} (row : List (Slot V)) (slot generation : ℕ) (value : V) →
    found (stages row slot generation) ≡ Some value → is_slot is_live row slot ≡ true
found_holds {V = V} row slot generation value is = by (slice_get row slot) is
  where
    by : (place : Option (Slot V)) → found (stage_at place generation) ≡ Some value →
        passes is_live place ≡ true
    by None e = absurd (cc)
    by (Some s) e = ap is_live (holds_is s generation value e)

-- no key finds a value in a slot that holds none
pub lacks_found : {V : Type 0} (row : List (Slot V)) (slot generation : ℕ) →
    is_slot is_live row slot ≡ false → found (stages row slot generation) ≡ None
lacks_found {V = V} row slot generation lacks = by (slice_get row slot) lacks
  where
    none : (old same : Bool) → found {V = V} (cond old Spent (cond same Unused Unused)) ≡ None
    none true same = refl
    none false true = refl
    none false false = refl

    by : (place : Option (Slot V)) → passes is_live place ≡ false →
        found (stage_at place generation) ≡ None
    by None e = refl
    by (Some (Free now)) e = none (nat_lt generation now) (generation == now)
    by (Some (Live now value)) e = absurd (cc)
    by (Some Retired) e = none (nat_lt generation 4294967296) (generation == 4294967296)

module _ {V : Type 0} (test : Slot V → Bool) (row : List (Slot V)) where
  -- no more slots pass than there are
  pub count_at_most : (c : ℕ) → size (slots_where test c row) ≤ length row
  unfolding count_below
  count_at_most zero = omega arith
  count_at_most (suc c) = elim (cases_lt c (length row)) [
    | inl l ↦ omega (arith, l, size_at_most (slots_where test (suc c) row))
    | inr g ↦
        let none : is_slot test row c ≡ false = ap (passes test) (slice_get_past row c g) in
        omega (arith, count_at_most c, ap {B = ℕ} (λ b. cond b 1 0) none)
  ]

  -- each member of the set of the slots that pass is a slot of the row
  pub members_within : (s : PlainSet) → HasSlots test s row →
      All (λ slot. slot < length row) (ascending s)
  members_within s marks k d h =
      let member = ap s.has (get_or_default _ k d 0 h) ∙ ascending_member s k h in
      slot_within test row _ (sym (marks _) ∙ member)

  module _ (c : ℕ) (next : List (Slot V)) where
    -- if the same slots pass, as many pass
    pub count_stays : Stays test row next →
        size (slots_where test c next) ≡ size (slots_where test c row)
    count_stays same = ap size (λ p. record { capacity = c; has = λ k. same k p })

    -- if a slot joins those that pass, one more passes
    pub count_joins : (i : ℕ) → i < c → is_slot test row i ≡ false → Joins test row i next →
        size (slots_where test c next) ≡ size (slots_where test c row) + 1
    count_joins i h none joined = ap size (λ p. record { capacity = c; has = λ k. joined k p })
        ∙ size_added (slots_where test c row) i h none

    -- if a slot leaves those that pass, one fewer passes
    pub count_leaves : (i : ℕ) → i < c → is_slot test row i ≡ true → Leaves test row i next →
        size (slots_where test c next) + 1 ≡ size (slots_where test c row)
    count_leaves i h some left =
        ap (λ n. n + 1) (ap size (λ p. record { capacity = c; has = λ k. left k p }))
        ∙ sym (size_removed (slots_where test c row) i h some)

-- how many numbers below c + 1 pass a test: the number 0, if it passes, and those after it
first_apart : (c : ℕ) (p : ℕ → Bool) →
    count_below (suc c) p ≡ cond (p 0) 1 0 + count_below c (λ k. p (suc k))
unfolding count_below
first_apart zero p = omega arith
first_apart (suc c) p = omega (arith, first_apart c p)

-- there are as many entries as slots that hold a value
pub entries_count : {V : Type 0} (rest : List (Slot V)) (from c : ℕ) → length rest ≤ c →
    length (entries_from from rest) ≡ size (slots_where is_live c rest)
entries_count {V = V} [] from c h = omega (arith, count_at_most {V = V} is_live [] c)
entries_count (Free generation ∷ rest) from zero h = absurd (omega (arith, h))
entries_count (Retired ∷ rest) from zero h = absurd (omega (arith, h))
entries_count (Live generation value ∷ rest) from zero h = absurd (omega (arith, h))
entries_count (Free generation ∷ rest) from (suc c) h = omega (
  arith,
  entries_count rest (from + 1) c (omega (arith, h)),
  first_apart c (is_slot is_live (Free generation ∷ rest)),
)
entries_count (Retired ∷ rest) from (suc c) h = omega (
  arith,
  entries_count rest (from + 1) c (omega (arith, h)),
  first_apart c (is_slot is_live (Retired ∷ rest)),
)
entries_count (Live generation value ∷ rest) from (suc c) h = omega (
  arith,
  entries_count rest (from + 1) c (omega (arith, h)),
  first_apart c (is_slot is_live (Live generation value ∷ rest)),
)
