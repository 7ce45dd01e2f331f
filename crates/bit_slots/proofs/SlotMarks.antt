-- Which slots pass a test after a change of one slot, and the sets of these slots.
use Rattle.std.proofs.Common.{◌≡◌, ◌≢◌, ◌+◌, nat_lt, ℕ, ◌<◌, ◌≤◌, Bool, true, false, not, cond}
use Rattle.std.proofs.Common.{◌&&◌, ◌||◌, ◌==◌, List, length, set, get_or, Some, inl, inr, refl}
use Rattle.std.proofs.Common.{sym, ap, ◌∙◌, arith}
use Rattle.std.specs.Prelude.{slice_get, MatchBool, Result, Ok, Err}
use Rattle.std.proofs.lemmas.Bool.{cases_eq, cases_lt, eq-eqb, ne_eqb, lt-ltb, le-ltb, and_right}
use Rattle.std.proofs.lemmas.Option.{slice_get_past}
use Rattle.bittle.specs.PlainSet.{PlainSet, size, with_index, without_index}
use Rattle.bittle.specs.Searches.{NoneIn}
use Rattle.bittle.proofs.CallerSets.{with_index_within, without_index_within}
use Rattle.bittle.proofs.CallerTables.{slice_get_set}
use Rattle.bit_slots.specs.declared.slot.Slot.{Slot}
use Rattle.bit_slots.specs.Keys.{IsExchanged, IsUpdatedIn}
use Rattle.bit_slots.specs.SlotSets.{is_free, is_live, passes, is_slot, slots_where, HasSlots}
use Rattle.bit_slots.specs.SlotSets.{MarksBelow, Joins, Leaves, Stays}
use Rattle.bit_slots.proofs.SlotChanges.{stood}

module _ {V : Type 0} (test : Slot V → Bool) (row : List (Slot V)) where
  -- a slot that passes a test is one of the row
  pub slot_within : (slot : ℕ) → is_slot test row slot ≡ true → slot < length row
  slot_within slot here = elim (cases_lt slot (length row)) [
    | inl l ↦ l
    | inr g ↦
        let none : is_slot test row slot ≡ false = ap (passes test) (slice_get_past row slot g) in
        absurd (cc)
  ]

  -- the slot in the row passes the test
  pub slot_passes : (slot : ℕ) (d : Slot V) → is_slot test row slot ≡ true →
      test (get_or row slot d) ≡ true
  slot_passes slot d here =
      sym (ap (passes test) (stood row slot d d (slot_within slot here) slot refl)) ∙ here

  module _ (i : ℕ) (d f : Slot V) (h : i < length row) where
    -- if the changed slot passes the test, slot i joins the slots that pass
    pub joins : test f ≡ true → Joins test row i (set row i f)
    joins is k = ap (passes test) (slice_get_set row i f h k) ∙ by (k == i)
      where
        by : (b : Bool) → passes test (cond b (Some f) (slice_get row k))
            ≡ (b || passes test (slice_get row k))
        by true = is
        by false = refl

    -- if the changed slot fails the test, slot i leaves the slots that pass
    pub leaves : test f ≡ false → Leaves test row i (set row i f)
    leaves is k = ap (passes test) (slice_get_set row i f h k) ∙ by (k == i)
      where
        by : (b : Bool) → passes test (cond b (Some f) (slice_get row k))
            ≡ (not b && passes test (slice_get row k))
        by true = is
        by false = refl

    -- slot i passes the test exactly if the changed slot does
    pub passes_as : is_slot test (set row i f) i ≡ test f
    passes_as = ap (passes test) (slice_get_set row i f h i)
        ∙ ap (λ b. passes test (cond b (Some f) (slice_get row i))) (eq-eqb i i refl)

    -- if slot i passes exactly if it passed before, the same slots pass
    pub stays : test f ≡ test (get_or row i d) → Stays test row (set row i f)
    stays same k = ap (passes test) (slice_get_set row i f h k) ∙ elim (cases_eq k i) [
      | inl here ↦ ap (λ b. passes test (cond b (Some f) (slice_get row k))) (eq-eqb k i here)
          ∙ same ∙ sym (ap (passes test) (stood row i d f h k here))
      | inr apart ↦ ap (λ b. passes test (cond b (Some f) (slice_get row k))) (ne_eqb k i apart)
    ]

-- an emptied slot joins the free slots, or the free slots stay the same
pub freed : {V : Type 0} (row : List (Slot V)) (i : ℕ) (d f : Slot V) → i < length row →
    (b : Bool) → b ≡ is_free f → is_free (get_or row i d) ≡ false →
    MatchBool b (Joins is_free row i (set row i f)) (Stays is_free row (set row i f))
freed row i d f h true is was = joins is_free row i d f h (sym is)
freed row i d f h false is was = stays is_free row i d f h (sym is ∙ sym was)

-- whether each slot is free after a slot that held a value was emptied
pub emptied_free : {V : Type 0} (row : List (Slot V)) (i : ℕ) (d f : Slot V) → i < length row →
    (again : Bool) → is_free f ≡ again → is_free (get_or row i d) ≡ false → (k : ℕ) →
    is_slot is_free (set row i f) k ≡ (((k == i) && again) || is_slot is_free row k)
emptied_free row i d f h again is was k =
    ap (passes is_free) (slice_get_set row i f h k) ∙ elim (cases_eq k i) [
      | inl here ↦
          let old : is_slot is_free row k ≡ false =
          ap (passes is_free) (stood row i d f h k here) ∙ was in
          rw (eq-eqb k i here) (is ∙ sym (ap (λ b. again || b) old ∙ by again))
      | inr apart ↦ rw (ne_eqb k i apart) refl
    ]
  where
    by : (b : Bool) → (b || false) ≡ b
    by true = refl
    by false = refl

-- after the value of a slot changed, the same slots are free, and the same slots hold a value
module _ {V : Type 0} (row : List (Slot V)) (i : ℕ) (d f : Slot V) (h : i < length row)
    (generation : ℕ) where
  pub replaced_free : (value : V) (r : Result V V) →
      IsExchanged (get_or row i d) generation value r f → Stays is_free row (set row i f)
  replaced_free value (Ok back) is = stays is_free row i d f h is.free
  replaced_free value (Err back) is = stays is_free row i d f h (ap is_free is.2)

  pub replaced_live : (value : V) (r : Result V V) →
      IsExchanged (get_or row i d) generation value r f → Stays is_live row (set row i f)
  replaced_live value (Ok back) is = stays is_live row i d f h is.live
  replaced_live value (Err back) is = stays is_live row i d f h (ap is_live is.2)

  pub updated_free : (Makes : V → V → Type 0) (b : Bool) →
      IsUpdatedIn Makes (get_or row i d) generation b f → Stays is_free row (set row i f)
  updated_free Makes true is = stays is_free row i d f h is.3.free
  updated_free Makes false is = stays is_free row i d f h (ap is_free is.1)

  pub updated_live : (Makes : V → V → Type 0) (b : Bool) →
      IsUpdatedIn Makes (get_or row i d) generation b f → Stays is_live row (set row i f)
  updated_live Makes true is = stays is_live row i d f h is.3.live
  updated_live Makes false is = stays is_live row i d f h (ap is_live is.1)

-- a set of the slots that pass a test
module _ {V : Type 0} (test : Slot V → Bool) (s t : PlainSet) (row next : List (Slot V))
    (marks : HasSlots test s row) where
  -- if the set has no member below an end that is at or past the row's end, no slot passes
  pub none_passes : (to : ℕ) → length row ≤ to → NoneIn s 0 to → (slot : ℕ) →
      is_slot test row slot ≡ false
  none_passes to all none slot = elim (cases_lt slot (length row)) [
    | inl l ↦ sym (marks slot) ∙ none slot (omega arith) (omega arith)
    | inr g ↦ ap (passes test) (slice_get_past row slot g)
  ]

  -- if slot i joins the slots that pass, the set with i put in has exactly these slots
  pub marks_with : (i : ℕ) → i < s.capacity → Joins test row i next → t ≡ with_index s i →
      HasSlots test t next
  marks_with i within joined is k = ap (λ u. u.has k) (is ∙ with_index_within s i within)
      ∙ ap (λ b. (k == i) || b) (marks k) ∙ sym (joined k)

  -- if slot i leaves the slots that pass, the set with i taken out has exactly these slots
  pub marks_without : (i : ℕ) → i < s.capacity → Leaves test row i next → t ≡ without_index s i →
      HasSlots test t next
  marks_without i within left is k = ap (λ u. u.has k) (is ∙ without_index_within s i within)
      ∙ ap (λ b. not (k == i) && b) (marks k) ∙ sym (left k)

  -- if the same slots pass, the set still has exactly these slots
  pub marks_same : Stays test row next → HasSlots test s next
  marks_same same k = marks k ∙ sym (same k)

-- the set of the slots that pass a test has as many members as there are slots that pass
pub size_where : {V : Type 0} (test : Slot V → Bool) (s : PlainSet) (row : List (Slot V)) (c : ℕ) →
    s.capacity ≡ c → HasSlots test s row → size s ≡ size (slots_where test c row)
size_where test s row c whole marks =
    let same : s ≡ slots_where test c row = λ p. record {
      capacity = whole p;
      has = λ k. marks k p;
    } in ap size same

-- a number other than i is below i + 1 exactly if it is below i
next : (i k : ℕ) → k ≢ i → nat_lt k i ≡ nat_lt k (i + 1)
next i k n = elim (cases_lt k i) [
  | inl l ↦ lt-ltb k i l ∙ sym (lt-ltb k (i + 1) (omega arith))
  | inr g ↦ le-ltb k i g ∙ sym (le-ltb k (i + 1) (omega arith))
]

-- a set of the slots below one number that pass a test
module _ {V : Type 0} (test : Slot V → Bool) (s : PlainSet) (row : List (Slot V)) (i : ℕ)
    (marks : MarksBelow test s row i) where
  -- if slot i passes, the set with i put in has exactly the slots below i + 1 that pass
  pub marks_more : (t : PlainSet) → is_slot test row i ≡ true → i < s.capacity →
      t ≡ with_index s i → MarksBelow test t row (i + 1)
  marks_more t here within is k =
      ap (λ u. u.has k) (is ∙ with_index_within s i within) ∙ elim (cases_eq k i) [
        | inl e ↦ ap (λ b. b || s.has k) (eq-eqb k i e)
            ∙ sym (ap (λ b. b && is_slot test row k) (lt-ltb k (i + 1) (omega arith))
            ∙ ap (is_slot test row) e ∙ here)
        | inr n ↦ ap (λ b. b || s.has k) (ne_eqb k i n) ∙ further k n
      ]
    where
      further : (k : ℕ) → k ≢ i → s.has k ≡ (nat_lt k (i + 1) && is_slot test row k)
      further k n = marks k ∙ ap (λ b. b && is_slot test row k) (next i k n)

  -- if slot i does not pass, the set has exactly the slots below i + 1 that pass
  pub marks_on : is_slot test row i ≡ false → MarksBelow test s row (i + 1)
  marks_on none k = elim (cases_eq k i) [
    | inl e ↦ marks k ∙ ap (λ b. b && is_slot test row k) (le-ltb k i (omega arith))
        ∙ sym (ap (λ b. nat_lt k (i + 1) && b) (ap (is_slot test row) e ∙ none)
        ∙ and_right (nat_lt k (i + 1)) false refl)
    | inr n ↦ marks k ∙ ap (λ b. b && is_slot test row k) (next i k n)
  ]

  -- once slot i is tested, and put in if it passes, the set has exactly the slots below i + 1 that
  -- pass
  pub marks_step : (t : PlainSet) (b : Bool) → i < s.capacity → is_slot test row i ≡ b →
      t ≡ cond b (with_index s i) s → MarksBelow test t row (i + 1)
  marks_step t true within here is k = marks_more t here within is k
  marks_step t false within none is k = ap (λ u. u.has k) is ∙ marks_on none k

  -- once each slot of the row was tested, the set has exactly the slots that pass
  pub marks_all : length row ≤ i → HasSlots test s row
  marks_all all k = marks k ∙ elim (cases_lt k i) [
    | inl l ↦ ap (λ b. b && is_slot test row k) (lt-ltb k i l)
    | inr g ↦ ap (λ b. b && is_slot test row k) (le-ltb k i g)
        ∙ sym (ap (passes test) (slice_get_past row k (omega arith)))
  ]

-- `is_slot` tests the slot that is in the row
pub slot_is : {V : Type 0} (test : Slot V → Bool) (row : List (Slot V)) (i : ℕ) (d : Slot V) →
    i < length row → is_slot test row i ≡ test (get_or row i d)
slot_is test row i d h = ap (passes test) (stood row i d d h i refl)
