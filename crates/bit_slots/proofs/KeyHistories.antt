-- What follows for every history of calls: no key goes back to an earlier stage, a removed key
-- finds nothing, any other key keeps its value, and no key is given twice.
use Rattle.std.proofs.Common.{◌≡◌, ◌≢◌, ℕ, zero, suc, ◌<◌, ◌≤◌, Bool, true, false, cond, Option}
use Rattle.std.proofs.Common.{is_some, List, [], ◌∷◌, Some, None, inl, inr, refl, sym, ap, ◌∙◌}
use Rattle.std.proofs.Common.{subst, arith}
use Rattle.std.specs.Prelude.{◌==◌, slice_get}
use Rattle.std.proofs.lemmas.Bool.{cases_Bool, eq-eqb, eqb-true, and_parts}
use Rattle.bit_slots.specs.declared.Key.{Key}
use Rattle.bit_slots.specs.Keys.{Stage, Stages, Unused, Holds, Spent, found, spent, is_key}
use Rattle.bit_slots.specs.Keys.{IsKeyInserted, IsKeyReplaced, IsRemoved, IsUpdated}
use Rattle.bit_slots.specs.KeyLaws.{Call, Inserts, Removes, Replaces, Refuses, IsCall, IsHistory}
use Rattle.bit_slots.specs.KeyLaws.{PutsAt, SparesFrom, age}

-- a key has its own slot and generation
is_own : (key : Key) → is_key key key.slot key.generation ≡ true
is_own key = let one = eq-eqb key.slot key.slot refl in
    let other = eq-eqb key.generation key.generation refl in rw (one, other) refl

-- after a key was inserted, it finds its value
pub key_holds : {V : Type 0} (before after : Stages V) (value : V) (key : Key) →
    IsKeyInserted before value key after → found (after key.slot key.generation) ≡ Some value
key_holds before after value key is =
    ap found (is.stages key.slot key.generation
    ∙ ap (λ b. cond b (Holds value) (before key.slot key.generation)) (is_own key))

-- a stage that was spent finds nothing
spent_found : {V : Type 0} (stage : Stage V) → found (spent stage) ≡ None
spent_found Unused = refl
spent_found (Holds value) = refl
spent_found Spent = refl

-- after a key was removed, it finds nothing
pub key_gone : {V : Type 0} (before after : Stages V) (key : Key) → IsRemoved before key after →
    found (after key.slot key.generation) ≡ None
key_gone before after key is =
    ap found (is key.slot key.generation ∙ ap (λ b. cond b (spent (before key.slot key.generation))
    (before key.slot key.generation)) (is_own key))
    ∙ spent_found (before key.slot key.generation)

-- a key whose value was changed finds the changed value
module _ {V : Type 0} (Makes : V → V → Type 0) (before after : Stages V) (key : Key) where
  key_made : (old value : V) → IsKeyReplaced before key value old after →
      found (after key.slot key.generation) ≡ Some value
  key_made old value is = ap found (is.stages key.slot key.generation
      ∙ ap (λ b. cond b (Holds value) (before key.slot key.generation)) (is_own key))

  pub update_finds : (b : Bool) → IsUpdated Makes before key b after →
      b ≡ is_some (found (before key.slot key.generation))
  update_finds true is = sym (ap (λ s. is_some (found s)) is.3.was)
  update_finds false is = sym (ap is_some is.0)

  pub update_stays : (b : Bool) → IsUpdated Makes before key b after →
      is_some (found (after key.slot key.generation))
      ≡ is_some (found (before key.slot key.generation))
  update_stays true is = ap is_some (key_made is.0 is.1 is.3) ∙ update_finds true is
  update_stays false is = ap (λ s. is_some (found s)) (is.1 key.slot key.generation)

  pub update_makes : (b : Bool) → IsUpdated Makes before key b after → (value : V) →
      found (after key.slot key.generation) ≡ Some value →
      (old : V) × (found (before key.slot key.generation) ≡ Some old) × Makes old value
  update_makes true is value some =
      let same : is.1 ≡ value = by (key_made is.0 is.1 is.3) some in
      (is.0, ap found is.3.was, subst (Makes is.0) same is.2)
    where
      by : {o : Option V} {one other : V} → o ≡ Some one → o ≡ Some other → one ≡ other
      by e f = cc
  update_makes false is value some =
      let none = ap found (is.1 key.slot key.generation) ∙ is.0 in absurd (cc)

-- a stage that becomes spent, or stays as it is, does not go back to an earlier stage
spent_goes_on : {V : Type 0} (b : Bool) (stage : Stage V) →
    age stage ≤ age (cond b (spent stage) stage)
spent_goes_on false stage = omega arith
spent_goes_on true Unused = omega arith
spent_goes_on true (Holds value) = omega arith
spent_goes_on true Spent = omega arith

-- a key that was given and is removed stands for nothing any more
spent_is : {V : Type 0} (stage : Stage V) → 0 < age stage → age (spent stage) ≡ 2
spent_is Unused some = absurd (omega arith)
spent_is (Holds value) some = refl
spent_is Spent some = refl

-- a key that stands for nothing any more finds nothing
found_none : {V : Type 0} (stage : Stage V) → 2 ≤ age stage → found stage ≡ None
found_none Unused old = absurd (omega arith)
found_none (Holds value) old = absurd (omega arith)
found_none Spent old = refl

-- no call takes a key back to an earlier stage
call_goes_on : {V : Type 0} (before after : Stages V) (call : Call V) → IsCall before call after →
    (slot generation : ℕ) → age (before slot generation) ≤ age (after slot generation)
call_goes_on before after (Inserts value key) is slot generation =
    elim (cases_Bool (is_key key slot generation)) [
      | inl own ↦
          let at = and_parts (slot == key.slot) (generation == key.generation) own in
          let none : before slot generation ≡ Unused =
          ap (λ s. before s generation) (eqb-true slot key.slot at.0)
          ∙ ap (before key.slot) (eqb-true generation key.generation at.1) ∙ is.unused in
          subst (λ s. age s ≤ age (after slot generation)) (sym none) (omega arith)
      | inr other ↦
          let same : after slot generation ≡ before slot generation = is.stages slot generation
          ∙ ap (λ b. cond b (Holds value) (before slot generation)) other in
          subst (λ s. age (before slot generation) ≤ age s) (sym same) (omega arith)
    ]
call_goes_on before after (Removes key) is slot generation =
    subst (λ s. age (before slot generation) ≤ age s) (sym (is slot generation))
    (spent_goes_on (is_key key slot generation) (before slot generation))
call_goes_on before after (Replaces key value) is slot generation =
    elim (cases_Bool (is_key key slot generation)) [
      | inl own ↦
          let at = and_parts (slot == key.slot) (generation == key.generation) own in
          let had : before slot generation ≡ Holds is.0 =
          ap (λ s. before s generation) (eqb-true slot key.slot at.0)
          ∙ ap (before key.slot) (eqb-true generation key.generation at.1) ∙ is.1.was in
          let has : after slot generation ≡ Holds value = is.1.stages slot generation
          ∙ ap (λ b. cond b (Holds value) (before slot generation)) own in
          omega (arith, ap age had, ap age has)
      | inr other ↦
          let same : after slot generation ≡ before slot generation = is.1.stages slot generation
          ∙ ap (λ b. cond b (Holds value) (before slot generation)) other in
          omega (arith, ap age same)
    ]
call_goes_on before after Refuses is slot generation = omega (arith, ap age (is slot generation))

-- no history of calls takes a key back to an earlier stage
pub goes_on : {V : Type 0} (before after : Stages V) (calls : List (Call V)) →
    IsHistory before calls after → (slot generation : ℕ) →
    age (before slot generation) ≤ age (after slot generation)
goes_on before after [] is slot generation =
    subst (λ s. age (before slot generation) ≤ age s) (sym (is slot generation)) (omega arith)
goes_on before after (call ∷ calls) is slot generation =
    omega (
      arith,
      call_goes_on before is.0 call is.1 slot generation,
      goes_on is.0 after calls is.2 slot generation,
    )

-- a key that was given, and then removed, finds nothing
pub finds_nothing : {V : Type 0} (before after : Stages V) (calls : List (Call V)) →
    IsHistory before calls after → (key : Key) (i : ℕ) →
    0 < age (before key.slot key.generation) → slice_get calls i ≡ Some (Removes key) →
    found (after key.slot key.generation) ≡ None
finds_nothing before after [] is key i some e = absurd (cc)
finds_nothing before after (Inserts value k ∷ calls) is key zero some e = absurd (cc)
finds_nothing before after (Replaces k value ∷ calls) is key zero some e = absurd (cc)
finds_nothing before after (Refuses ∷ calls) is key zero some e = absurd (cc)
finds_nothing before after (Removes k ∷ calls) is key zero some e =
    let same : k ≡ key = cc in
    let own : is_key k key.slot key.generation ≡ true =
    ap (λ (l : Key). is_key l key.slot key.generation) same ∙ is_own key in
    let stage = is.1 key.slot key.generation
    ∙ ap (λ b. cond b (spent (before key.slot key.generation)) (before key.slot key.generation))
    own in
    found_none (after key.slot key.generation) (omega (
      arith,
      ap age stage,
      spent_is (before key.slot key.generation) some,
      goes_on is.0 after calls is.2 key.slot key.generation,
    ))
finds_nothing before after (call ∷ calls) is key (suc i) some e =
    finds_nothing is.0 after calls is.2 key i
    (omega (arith, some, call_goes_on before is.0 call is.1 key.slot key.generation)) e

-- a key that was given is not given later
pub given_before : {V : Type 0} (before after : Stages V) (calls : List (Call V)) →
    IsHistory before calls after → (key : Key) (other : V) (j : ℕ) →
    0 < age (before key.slot key.generation) → slice_get calls j ≡ Some (Inserts other key) → ⊥
given_before before after [] is key other j some e = cc
given_before before after (Removes k ∷ calls) is key other zero some e = cc
given_before before after (Replaces k value ∷ calls) is key other zero some e = cc
given_before before after (Refuses ∷ calls) is key other zero some e = cc
given_before before after (Inserts value k ∷ calls) is key other zero some e =
    let same : k ≡ key = cc in
    let none : age (before key.slot key.generation) ≡ 0 =
    ap (λ (l : Key). age (before l.slot l.generation)) (sym same) ∙ ap age is.1.unused in
    omega arith
given_before before after (call ∷ calls) is key other (suc j) some e =
    given_before is.0 after calls is.2 key other j
    (omega (arith, some, call_goes_on before is.0 call is.1 key.slot key.generation)) e

-- no key is given twice
pub given_once : {V : Type 0} (before after : Stages V) (calls : List (Call V)) →
    IsHistory before calls after → (key : Key) (value other : V) (i j : ℕ) → i < j →
    slice_get calls i ≡ Some (Inserts value key) → slice_get calls j ≡ Some (Inserts other key) →
    ⊥
given_once before after calls is key value other i zero h a b = omega arith
given_once before after [] is key value other i (suc j) h a b = cc
given_once before after (Removes k ∷ calls) is key value other zero (suc j) h a b = cc
given_once before after (Replaces k v ∷ calls) is key value other zero (suc j) h a b = cc
given_once before after (Refuses ∷ calls) is key value other zero (suc j) h a b = cc
given_once before after (Inserts v k ∷ calls) is key value other zero (suc j) h a b =
    let same : k ≡ key = cc in
    let own : is_key k key.slot key.generation ≡ true =
    ap (λ (l : Key). is_key l key.slot key.generation) same ∙ is_own key in
    let stage = is.1.stages key.slot key.generation
    ∙ ap (λ b. cond b (Holds v) (before key.slot key.generation)) own in
    given_before is.0 after calls is.2 key other j (omega (arith, ap age stage)) b
given_once before after (call ∷ calls) is key value other (suc i) (suc j) h a b =
    given_once is.0 after calls is.2 key value other i j (omega arith) a b

-- two keys with the same slot and the same generation are the same key
same_key : (k key : Key) → is_key k key.slot key.generation ≡ true → k ≡ key
same_key k key own =
    let parts = and_parts (key.slot == k.slot) (key.generation == k.generation) own in
    let slot = eqb-true key.slot k.slot parts.0 in
    let generation = eqb-true key.generation k.generation parts.1 in
    sym (λ p. record { slot = slot p; generation = generation p })

-- a key that finds nothing still finds nothing after a removal
removed_none : {V : Type 0} (b : Bool) (stage : Stage V) → found stage ≡ None →
    found (cond b (spent stage) stage) ≡ None
removed_none true stage none = spent_found stage
removed_none false stage none = none

-- a call that does not give a key leaves it finding nothing
stays_none : {V : Type 0} (before after : Stages V) (call : Call V) → IsCall before call after →
    (key : Key) → found (before key.slot key.generation) ≡ None →
    ((value : V) → call ≡ Inserts value key → ⊥) → found (after key.slot key.generation) ≡ None
stays_none before after (Inserts value k) is key none apart =
    elim (cases_Bool (is_key k key.slot key.generation)) [
      | inl own ↦ absurd (apart value (ap (Inserts value) (same_key k key own)))
      | inr other ↦ ap found (is.stages key.slot key.generation
          ∙ ap (λ b. cond b (Holds value) (before key.slot key.generation)) other) ∙ none
    ]
stays_none before after (Removes k) is key none apart =
    ap found (is key.slot key.generation)
    ∙ removed_none (is_key k key.slot key.generation) (before key.slot key.generation) none
stays_none before after (Replaces k value) is key none apart =
    elim (cases_Bool (is_key k key.slot key.generation)) [
      | inl own ↦
          let some = ap (λ (l : Key). found (before l.slot l.generation)) (sym (same_key k key own))
          ∙ ap found is.1.was in absurd (cc)
      | inr other ↦ ap found (is.1.stages key.slot key.generation
          ∙ ap (λ b. cond b (Holds value) (before key.slot key.generation)) other) ∙ none
    ]
stays_none before after Refuses is key none apart = ap found (is key.slot key.generation) ∙ none

-- calls that do not give a key leave it finding nothing
pub not_given : {V : Type 0} (before after : Stages V) (calls : List (Call V)) →
    IsHistory before calls after → (key : Key) →
    found (before key.slot key.generation) ≡ None →
    ((value : V) (i : ℕ) → slice_get calls i ≡ Some (Inserts value key) → ⊥) →
    found (after key.slot key.generation) ≡ None
not_given before after [] is key none apart = ap found (is key.slot key.generation) ∙ none
not_given before after (call ∷ calls) is key none apart =
    not_given is.0 after calls is.2 key
    (stays_none before is.0 call is.1 key none (λ value e. apart value 0 (ap Some e)))
    (λ value i e. apart value (suc i) e)

-- a key that a call gives was given for the calls after it, and finds the call's value
given_holds : {V : Type 0} (before after : Stages V) (value v : V) (k key : Key) →
    IsKeyInserted before v k after → Some (Inserts v k) ≡ Some (Inserts value key) →
    after key.slot key.generation ≡ Holds value
given_holds before after value v k key is e =
    let same : k ≡ key = cc in
    let held : v ≡ value = cc in
    let own : is_key k key.slot key.generation ≡ true =
    ap (λ (l : Key). is_key l key.slot key.generation) same ∙ is_own key in
    is.stages key.slot key.generation
    ∙ ap (λ b. cond b (Holds v) (before key.slot key.generation)) own ∙ ap Holds held

-- a key that a call gives, and a later call removes, finds nothing
pub given_removed : {V : Type 0} (before after : Stages V) (calls : List (Call V)) →
    IsHistory before calls after → (key : Key) (value : V) (i j : ℕ) → i < j →
    slice_get calls i ≡ Some (Inserts value key) → slice_get calls j ≡ Some (Removes key) →
    found (after key.slot key.generation) ≡ None
given_removed before after calls is key value i zero h a b = absurd (omega arith)
given_removed before after [] is key value i (suc j) h a b = absurd (cc)
given_removed before after (Removes k ∷ calls) is key value zero (suc j) h a b = absurd (cc)
given_removed before after (Replaces k v ∷ calls) is key value zero (suc j) h a b = absurd (cc)
given_removed before after (Refuses ∷ calls) is key value zero (suc j) h a b = absurd (cc)
given_removed before after (Inserts v k ∷ calls) is key value zero (suc j) h a b =
    finds_nothing is.0 after calls is.2 key j
    (omega (arith, ap age (given_holds before is.0 value v k key is.1 a))) b
given_removed before after (call ∷ calls) is key value (suc i) (suc j) h a b =
    given_removed is.0 after calls is.2 key value i j (omega arith) a b

-- another key is not the key that a call names
apart_is : (k key : Key) → k ≢ key → is_key k key.slot key.generation ≡ false
apart_is k key apart = elim (cases_Bool (is_key k key.slot key.generation)) [
  | inl own ↦ absurd (apart (same_key k key own))
  | inr other ↦ other
]

-- a call that neither removes a key nor replaces its value leaves it finding its value
stays_found : {V : Type 0} (before after : Stages V) (call : Call V) → IsCall before call after →
    (key : Key) (value : V) → found (before key.slot key.generation) ≡ Some value →
    (call ≡ Removes key → ⊥) → ((other : V) → call ≡ Replaces key other → ⊥) →
    found (after key.slot key.generation) ≡ Some value
stays_found before after (Inserts v k) is key value has removes replaces =
    elim (cases_Bool (is_key k key.slot key.generation)) [
      | inl own ↦
          let none = ap (λ (l : Key). found (before l.slot l.generation)) (sym (same_key k key own))
          ∙ ap found is.unused in absurd (cc)
      | inr other ↦ ap found (is.stages key.slot key.generation
          ∙ ap (λ b. cond b (Holds v) (before key.slot key.generation)) other) ∙ has
    ]
stays_found before after (Removes k) is key value has removes replaces =
    ap found (is key.slot key.generation
    ∙ ap (λ b. cond b (spent (before key.slot key.generation)) (before key.slot key.generation))
    (apart_is k key (λ same. removes (ap Removes same)))) ∙ has
stays_found before after (Replaces k v) is key value has removes replaces =
    ap found (is.1.stages key.slot key.generation
    ∙ ap (λ b. cond b (Holds v) (before key.slot key.generation))
    (apart_is k key (λ same. replaces v (ap (λ l. Replaces l v) same)))) ∙ has
stays_found before after Refuses is key value has removes replaces =
    ap found (is key.slot key.generation) ∙ has

-- calls that neither remove a key nor replace its value leave it finding its value
pub kept : {V : Type 0} (before after : Stages V) (calls : List (Call V)) →
    IsHistory before calls after → (key : Key) (value : V) →
    found (before key.slot key.generation) ≡ Some value → SparesFrom 0 calls key →
    found (after key.slot key.generation) ≡ Some value
kept before after [] is key value has spares = ap found (is key.slot key.generation) ∙ has
kept before after (call ∷ calls) is key value has spares =
    kept is.0 after calls is.2 key value
    (stays_found before is.0 call is.1 key value has
    (λ e. (spares 0 (omega arith)).0 (ap Some e))
    (λ other e. (spares 0 (omega arith)).1 other (ap Some e)))
    (λ j h. spares (suc j) (omega arith))

-- a key finds the value that a call put under it, if no later call removes the key or replaces its
-- value
pub finds_its_value : {V : Type 0} (before after : Stages V) (calls : List (Call V)) →
    IsHistory before calls after → (key : Key) (value : V) (i : ℕ) → PutsAt i calls key value →
    SparesFrom (suc i) calls key → found (after key.slot key.generation) ≡ Some value
finds_its_value before after [] is key value i (inl e) spares = absurd (cc)
finds_its_value before after [] is key value i (inr e) spares = absurd (cc)
finds_its_value before after (Removes k ∷ calls) is key value zero (inl e) spares = absurd (cc)
finds_its_value before after (Removes k ∷ calls) is key value zero (inr e) spares = absurd (cc)
finds_its_value before after (Refuses ∷ calls) is key value zero (inl e) spares = absurd (cc)
finds_its_value before after (Refuses ∷ calls) is key value zero (inr e) spares = absurd (cc)
finds_its_value before after (Inserts v k ∷ calls) is key value zero (inr e) spares = absurd (cc)
finds_its_value before after (Replaces k v ∷ calls) is key value zero (inl e) spares = absurd (cc)
finds_its_value before after (Inserts v k ∷ calls) is key value zero (inl e) spares =
    kept is.0 after calls is.2 key value
    (ap found (given_holds before is.0 value v k key is.1 e))
    (λ j h. spares (suc j) (omega arith))
finds_its_value before after (Replaces k v ∷ calls) is key value zero (inr e) spares =
    let same : k ≡ key = cc in
    let held : v ≡ value = cc in
    let own : is_key k key.slot key.generation ≡ true =
    ap (λ (l : Key). is_key l key.slot key.generation) same ∙ is_own key in
    kept is.0 after calls is.2 key value
    (ap found (is.1.1.stages key.slot key.generation
    ∙ ap (λ b. cond b (Holds v) (before key.slot key.generation)) own ∙ ap Holds held))
    (λ j h. spares (suc j) (omega arith))
finds_its_value before after (call ∷ calls) is key value (suc i) puts spares =
    finds_its_value is.0 after calls is.2 key value i puts
    (λ j h. spares (suc j) (omega arith))
