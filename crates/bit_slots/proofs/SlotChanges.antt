-- How a change of one slot changes what the keys stand for.
use Rattle.std.proofs.Common.{◌≡◌, ℕ, ◌<◌, ◌≤◌, Bool, true, false, List, length, set, get_or, Some}
use Rattle.std.proofs.Common.{inl, inr, None, refl, ap, ◌∙◌, arith}
use Rattle.std.specs.Prelude.{◌==◌, slice_get, Result, Ok, Err}
use Rattle.std.proofs.lemmas.Bool.{and_parts, cases_Bool, cases_eq, eq-eqb, eqb-true, le-ltb}
use Rattle.std.proofs.lemmas.Bool.{ne_eqb}
use Rattle.std.proofs.lemmas.Option.{slice_get-get_or, slice_get_past}
use Rattle.bittle.proofs.CallerTables.{slice_get_set}
use Rattle.bit_slots.specs.declared.slot.Slot.{Slot}
use Rattle.bit_slots.specs.declared.slot.Slot.TheVariants.{Live}
use Rattle.bit_slots.specs.declared.Key.{Key}
use Rattle.bit_slots.specs.Keys.{Unused, Holds, found, is_key, stage_of, stage_at, stages, removed}
use Rattle.bit_slots.specs.Keys.{AreSameKeys, IsExchanged, IsExchangedWith, IsFilled, IsKeyInserted}
use Rattle.bit_slots.specs.Keys.{IsRemoved, IsReplaced, IsUpdated, IsUpdatedIn}

-- a slot that holds a value holds it in its generation
pub live_holds : {V : Type 0} (generation : ℕ) (value : V) →
    stage_of (Live generation value) generation ≡ Holds value
live_holds generation value =
    let below = le-ltb generation generation (omega arith) in
    let here = eq-eqb generation generation refl in rw (below, here) refl

-- after its value was changed, a slot holds the new value, and its other generations stay as they
-- are
pub value_changed : {V : Type 0} (generation : ℕ) (value back : V) →
    IsExchangedWith (Live generation back) generation value back (Live generation value)
value_changed generation value back = record {
  was = live_holds generation back;
  stages = λ k. elim (cases_eq k generation) [
    | inl here ↦ let below = le-ltb k generation (omega (arith, here)) in
        rw (below, eq-eqb k generation here) refl
    | inr apart ↦ rw (ne_eqb k generation apart) refl
  ];
  free = refl;
  live = refl;
}

module _ {V : Type 0} (row : List (Slot V)) (i : ℕ) (d f : Slot V) (h : i < length row) where
  -- the slot before the change
  pub stood : (slot : ℕ) → slot ≡ i → slice_get row slot ≡ Some (get_or row i d)
  stood slot same = ap (slice_get row) same ∙ slice_get-get_or row i d h

  -- a slot that was emptied
  pub emptied_in : (key : Key) → key.slot ≡ i →
      ((k : ℕ) → stage_of f k ≡ removed key.generation k (stage_of (get_or row i d) k)) →
      IsRemoved (stages row) key (stages (set row i f))
  emptied_in key at is slot generation =
      ap (λ o. stage_at o generation) (slice_get_set row i f h slot)
      ∙ rw at (elim (cases_eq slot i) [
        | inl same ↦ let here = stood slot same in rw (eq-eqb slot i same, here) (is generation)
        | inr apart ↦ rw (ne_eqb slot i apart) refl
      ])

  -- a slot that was filled
  pub filled_in : (key : Key) (value : V) → key.slot ≡ i →
      IsFilled (get_or row i d) value key.generation f →
      IsKeyInserted (stages row) value key (stages (set row i f))
  filled_in key value at is = record {
    unused = let here = stood key.slot at in rw here is.unused;
    stages = λ slot generation.
        ap (λ o. stage_at o generation) (slice_get_set row i f h slot)
        ∙ rw at (elim (cases_eq slot i) [
          | inl same ↦ let here = stood slot same in
              rw (eq-eqb slot i same, here) (is.stages generation)
          | inr apart ↦ rw (ne_eqb slot i apart) refl
        ]);
  }

  -- a slot that stays as it was changes no key
  pub kept_in : f ≡ get_or row i d → AreSameKeys (stages row) (stages (set row i f))
  kept_in same slot generation =
      ap (λ o. stage_at o generation) (slice_get_set row i f h slot)
      ∙ elim (cases_eq slot i) [
        | inl at ↦ let here = stood slot at in
            rw (eq-eqb slot i at, here) (ap (λ e. stage_of e generation) same)
        | inr apart ↦ rw (ne_eqb slot i apart) refl
      ]

  -- a slot whose value was replaced
  pub replaced_in : (key : Key) (value : V) → key.slot ≡ i → (r : Result V V) →
      IsExchanged (get_or row i d) key.generation value r f →
      IsReplaced (stages row) key value r (stages (set row i f))
  replaced_in key value at (Err back) is = (
    is.0,
    (let here = stood key.slot at in rw here is.1),
    kept_in is.2,
  )
  replaced_in key value at (Ok back) is = record {
    was = let here = stood key.slot at in rw here is.was;
    stages = λ slot generation.
        ap (λ o. stage_at o generation) (slice_get_set row i f h slot)
        ∙ rw at (elim (cases_eq slot i) [
          | inl same ↦ let here = stood slot same in
              rw (eq-eqb slot i same, here) (is.stages generation)
          | inr apart ↦ rw (ne_eqb slot i apart) refl
        ]);
  }

  -- a slot whose value a call changed
  pub updated_in : (Makes : V → V → Type 0) (key : Key) → key.slot ≡ i → (b : Bool) →
      IsUpdatedIn Makes (get_or row i d) key.generation b f →
      IsUpdated Makes (stages row) key b (stages (set row i f))
  updated_in Makes key at true is =
      (is.0, is.1, is.2, replaced_in key is.1 at (Ok is.0) is.3)
  updated_in Makes key at false is = (
    (let here = stood key.slot at in rw here is.0),
    kept_in is.1,
  )

-- a key past the row finds nothing, and a call with it may change nothing
module _ {V : Type 0} (row : List (Slot V)) (key : Key) (past : length row ≤ key.slot) where
  pub found_past : found (stages row key.slot key.generation) ≡ None
  found_past = ap (λ o. found (stage_at o key.generation)) (slice_get_past row key.slot past)

  pub removed_past : IsRemoved (stages row) key (stages row)
  removed_past slot generation = elim (cases_Bool (is_key key slot generation)) [
    | inl own ↦
        let at = and_parts (slot == key.slot) (generation == key.generation) own in
        let within = eqb-true slot key.slot at.0 in
        let none : stages row slot generation ≡ Unused =
        ap (λ o. stage_at o generation) (slice_get_past row slot (omega (arith, within, past))) in
        rw (own, none) refl
    | inr other ↦ rw other refl
  ]

  pub replaced_past : (value : V) → IsReplaced (stages row) key value (Err value) (stages row)
  replaced_past value = (refl, found_past, λ slot generation. refl)
