-- The entities that have each of a list of components.
use Rattle.std.proofs.Common.{◌≡◌, ℕ, zero, suc, ◌+◌, ◌<◌, ◌≤◌, Bool, true, false, cond, ◌&&◌, List}
use Rattle.std.proofs.Common.{[], ◌∷◌, length, take, get_or, inl, inr, refl, sym, ap, subst, ◌∙◌}
use Rattle.std.proofs.Common.{◌↔◌, arith}
use Rattle.std.specs.List.{list_all}
use Rattle.std.proofs.lemmas.Bool.{cases_lt, cases_Bool, le-ltb, and_parts, true≢false}
use Rattle.std.proofs.lemmas.List.Folds.{list_all_more, list_all_at}
use Rattle.bittle.specs.PlainSet.{PlainSet, ascending, ascending_from, empty_set}
use Rattle.bittle.specs.Searches.{NoneIn}
use Rattle.bit_entities.specs.EntityLaws.{VisitsFrom}
use Rattle.bittle.specs.SetOperations.{conjunction_of, combination_has}
use Rattle.bittle.proofs.CallerSets.{combination_within}
use Rattle.bit_entities.specs.Entities.{World, IsWorld, EndsAtCapacity, matching, having}
use Rattle.bit_entities.specs.Entities.{IncludesMatching}

-- the conjunction of a mask and the mask of a component is `having`
pub kept_by_mask : (w : World) (s t : PlainSet) (component : ℕ) → s.capacity ≡ t.capacity →
    EndsAtCapacity s → ((k : ℕ) → t.has k ≡ w.has k component) →
    conjunction_of s t ≡ having w s component
unfolding combination_has
kept_by_mask w s t component same past is =
    λ i. record { capacity = s.capacity; has = λ k. each k i }
  where
    each : (k : ℕ) → combination_has ◌&&◌ s t k ≡ (s.has k && w.has k component)
    each k = elim (cases_lt k s.capacity) [
      | inl l ↦ combination_within ◌&&◌ s t k l (omega (arith, same))
          ∙ ap (λ b. s.has k && b) (is k)
      | inr g ↦
          let out = le-ltb k s.capacity g in
          let none = past k g in rw (out, none) refl
    ]

-- if there is no such component, no entity has it
pub kept_by_none : (w : World) (s : PlainSet) (component c : ℕ) → c ≡ s.capacity →
    ((k : ℕ) → w.has k component ≡ false) → empty_set c ≡ having w s component
kept_by_none w s component c same none =
    λ i. record { capacity = same i; has = λ k. each k i }
  where
    each : (k : ℕ) → false ≡ (s.has k && w.has k component)
    each k = by (s.has k) (w.has k component) (none k)
      where
        by : (a b : Bool) → b ≡ false → false ≡ (a && b)
        by true b e = sym e
        by false b e = refl

-- `matching`, with one more required component
pub matching_more : (w : World) (required : List ℕ) (i d : ℕ) → i < length required →
    having w (matching w (take i required)) (get_or required i d)
    ≡ matching w (take (i + 1) required)
matching_more w required i d h = λ j. record {
  capacity = w.alive.capacity;
  has = λ k. (by (w.alive.has k) (list_all (w.has k) (take i required))
      (w.has k (get_or required i d))
      ∙ ap (λ b. w.alive.has k && b) (sym (list_all_more (w.has k) required i d h))) j;
}
  where
    by : (a b c : Bool) → ((a && b) && c) ≡ (a && (b && c))
    by true b c = refl
    by false b c = refl

-- the mask of a component has the living entities that have this component
pub mask_matches : (w : World) (component : ℕ) (s : PlainSet) → IsWorld w →
    s.capacity ≡ w.alive.capacity → ((k : ℕ) → s.has k ≡ w.has k component) →
    s ≡ matching w (component ∷ [])
mask_matches w component s is same has = λ i. record { capacity = same i; has = λ k. each k i }
  where
    by : (a b : Bool) → (b ≡ true → a ≡ true) → b ≡ (a && (b && true))
    by true true lives = refl
    by true false lives = refl
    by false true lives = absurd (true≢false (sym (lives refl)))
    by false false lives = refl

    each : (k : ℕ) → s.has k ≡ (w.alive.has k && (w.has k component && true))
    each k = has k ∙ by (w.alive.has k) (w.has k component) (is.dead_have_nothing k component)

-- no number past the capacity matches
pub matching_ends : (w : World) (required : List ℕ) → IsWorld w →
    EndsAtCapacity (matching w required)
matching_ends w required is k h = elim (cases_Bool (w.alive.has k)) [
  | inl lives ↦ absurd (omega (arith, h, is.living_are_below k lives))
  | inr dead ↦ ap (λ b. b && list_all (w.has k) required) dead
]

-- each entity that matches is in the mask of the first required component
pub first_leads : (w : World) (required : List ℕ) (component : ℕ) (mask : PlainSet) → IsWorld w →
    0 < length required → get_or required 0 component ≡ component →
    ((k : ℕ) → mask.has k ≡ w.has k component) → IncludesMatching w required mask
first_leads w required component mask is some first has = record {
  has_all = λ k e. elim (cases_Bool (mask.has k)) [
    | inl in_mask ↦ in_mask
    | inr none ↦ absurd (true≢false (
        sym (and_parts (w.alive.has k) (list_all (w.has k) required) e).1
        ∙ list_all_at (w.has k) required 0 component some
        (ap (w.has k) first ∙ sym (has k) ∙ none)
        ))
  ];
  are_alive = λ k e. is.dead_have_nothing k component (sym (has k) ∙ e);
}

-- if there is no such component, no entity matches
pub first_is_none : (w : World) (required : List ℕ) (component : ℕ) → 0 < length required →
    get_or required 0 component ≡ component → ((k : ℕ) → w.has k component ≡ false) → (k : ℕ) →
    (matching w required).has k ≡ false
first_is_none w required component some first none k =
    let no = list_all_at (w.has k) required 0 component some
    (ap (w.has k) first ∙ none k) in
    by (w.alive.has k) (list_all (w.has k) required) no
  where
    by : (a b : Bool) → b ≡ false → (a && b) ≡ false
    by true b e = e
    by false b e = refl

-- the increasing list visits each member from a number on
visits_from : (s : PlainSet) (low from n : ℕ) → low ≤ from → NoneIn s low from →
    from + n ≡ s.capacity → VisitsFrom s low (ascending_from s.has from n)
unfolding ascending_from VisitsFrom
visits_from s low from zero h none e = λ k p q. none k p (omega (arith, e, q))
visits_from s low from (suc n) h none e =
    by (s.has from) refl (λ least l clear. visits_from s least (suc from) n l clear
    (omega (arith, e)))
  where
    further : s.has from ≡ false → NoneIn s low (suc from)
    further lacks k p q = elim (cases_lt k from) [
      | inl l ↦ none k p l
      | inr g ↦ let same : k ≡ from = omega (arith, q, g) in ap s.has same ∙ lacks
    ]

    by : (b : Bool) → s.has from ≡ b → ((least : ℕ) → least ≤ suc from →
        NoneIn s least (suc from) → VisitsFrom s least (ascending_from s.has (suc from) n)) →
        VisitsFrom s low
        (cond b (from ∷ ascending_from s.has (suc from) n) (ascending_from s.has (suc from) n))
    by true is later = (
      (h, omega (arith, e), is, none),
      later (suc from) (omega arith) (λ k p q. absurd (omega (arith, p, q))),
    )
    by false lacks later = later low (omega (arith, h)) (further lacks)

visits_all : (s : PlainSet) → VisitsFrom s 0 (ascending s)
visits_all s = visits_from s 0 0 s.capacity (omega arith)
    (λ k p q. absurd (omega (arith, q))) (omega arith)

-- two lists that visit the members from a number on are the same
visits_once : (s : PlainSet) (from : ℕ) (xs ys : List ℕ) → VisitsFrom s from xs →
    VisitsFrom s from ys → xs ≡ ys
unfolding VisitsFrom
visits_once s from [] [] xs_visit ys_visit = refl
visits_once s from [] (y ∷ ys) none some =
    absurd (true≢false (sym some.0.2 ∙ none y some.0.0 some.0.1))
visits_once s from (x ∷ xs) [] some none =
    absurd (true≢false (sym some.0.2 ∙ none x some.0.0 some.0.1))
visits_once s from (x ∷ xs) (y ∷ ys) ours theirs =
    let same : x ≡ y = elim (cases_lt x y) [
      | inl l ↦ absurd (true≢false (sym ours.0.2 ∙ theirs.0.3 x ours.0.0 l))
      | inr g ↦ elim (cases_lt y x) [
        | inl l ↦ absurd (true≢false (sym theirs.0.2 ∙ ours.0.3 y theirs.0.0 l))
        | inr g' ↦ omega (arith, g, g')
      ]
    ] in
    let rest = visits_once s (suc x) xs ys ours.1
    (subst (λ n. VisitsFrom s (suc n) ys) (sym same) theirs.1) in
    λ i. same i ∷ rest i

-- a list visits all members exactly if it is the increasing list of them
pub visits_exactly : (s : PlainSet) (visited : List ℕ) →
    VisitsFrom s 0 visited ↔ (visited ≡ ascending s)
visits_exactly s visited = (
  λ h. visits_once s 0 visited (ascending s) h (visits_all s),
  λ e. subst (VisitsFrom s 0) (sym e) (visits_all s),
)
