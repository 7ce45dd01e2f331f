-- Sets that another set includes after calls on it, as an allocator's set includes its reserved
-- numbers.
use Rattle.std.proofs.Common.{◌≡◌, ℕ, ◌%◌, ◌<◌, ◌==◌, Bool, true, false, cond, not, ◌&&◌, ◌||◌}
use Rattle.std.proofs.Common.{nat_lt, List, [], ◌∷◌, inl, inr, refl, sym, ap, ◌∙◌, arith}
use Rattle.std.specs.List.{fold}
use Rattle.std.proofs.lemmas.Bool.{and_parts, cases_Bool, lt-ltb, ltb-true, ne_eqb, true≢false}
use Rattle.std.proofs.lemmas.Nat.{mod_below}
use Rattle.std.proofs.Math.Bool.{and-false, or-true}
use Rattle.bittle.specs.PlainSet.{PlainSet, contains, has_changed, has_with, has_without}
use Rattle.bittle.specs.PlainSet.{is_in_span, with_index, with_span, without_index}
use Rattle.bittle_ext.specs.ReservedSpans.{includes}
use Rattle.bittle_ext.proofs.CallerSpans.{each_passes, passes_each}

-- ---- such a set, and its members

pub includes_if_each : (s r : PlainSet) →
    ((k : ℕ) → k < r.capacity → r.has k ≡ true → s.has k ≡ true) → includes s r ≡ true
unfolding includes
includes_if_each s r all = each_passes (λ k. not (r.has k) || s.has k) 0 r.capacity
    (λ k low up. elim (cases_Bool (r.has k)) [
      | inl has ↦ ap (λ b. not (r.has k) || b) (all k (omega (arith, up)) has)
          ∙ or-true (not (r.has k))
      | inr none ↦ ap (λ b. not b || s.has k) none
    ])

pub each_if_includes : (s r : PlainSet) → includes s r ≡ true → (k : ℕ) → k < r.capacity →
    r.has k ≡ true → s.has k ≡ true
unfolding includes
each_if_includes s r kept k below has =
    sym (ap (λ b. not b || s.has k) has)
    ∙ passes_each (λ k. not (r.has k) || s.has k) 0 r.capacity kept k (omega arith)
    (omega (arith, below))

-- ---- what it tells of an index, which may wrap

-- if s includes r, each index of r is a member of s
pub set_if_included : (s r : PlainSet) (i : ℕ) → includes s r ≡ true → r.capacity ≡ s.capacity →
    contains r i ≡ true → contains s i ≡ true
unfolding contains
set_if_included s r i kept same has =
    let parts = and_parts (nat_lt 0 r.capacity) (r.has (i % r.capacity)) has in
    let place : i % r.capacity ≡ i % s.capacity = ap (λ c. i % c) same in
    let some : nat_lt 0 s.capacity ≡ true = ap (λ c. nat_lt 0 c) (sym same) ∙ parts.0 in
    let member : s.has (i % s.capacity) ≡ true =
    ap s.has (sym place)
    ∙ each_if_includes s r kept (i % r.capacity)
    (mod_below i r.capacity (ltb-true 0 r.capacity parts.0)) parts.1 in
    rw (some, member) refl

-- if s includes r, an index that is unset in s is unset in r
pub not_included_if_unset : (s r : PlainSet) (i : ℕ) → includes s r ≡ true →
    r.capacity ≡ s.capacity → contains s i ≡ false → contains r i ≡ false
not_included_if_unset s r i kept same unset = elim (cases_Bool (contains r i)) [
  | inl has ↦ absurd (true≢false (sym (set_if_included s r i kept same has) ∙ unset))
  | inr none ↦ none
]

-- ---- where it stays

-- a set includes itself
pub includes_itself : (s r : PlainSet) → s ≡ r → includes s r ≡ true
includes_itself s r is = includes_if_each s r (λ k below has. ap (λ t. t.has k) is ∙ has)

-- a set still includes r if each of its members stays
stays_included : (s t r : PlainSet) → ((k : ℕ) → s.has k ≡ true → t.has k ≡ true) →
    includes s r ≡ true → includes t r ≡ true
stays_included s t r still kept =
    includes_if_each t r (λ k below has. still k (each_if_includes s r kept k below has))

-- a set still includes r after an index was set
pub includes_after_set : (s t r : PlainSet) (i : ℕ) → t ≡ with_index s i → includes s r ≡ true →
    includes t r ≡ true
unfolding has_with
includes_after_set s t r i is = stays_included s t r (λ k has.
    ap (λ u. u.has k) is ∙ ap (λ b. (nat_lt 0 s.capacity && (k == i % s.capacity)) || b) has
    ∙ or-true (nat_lt 0 s.capacity && (k == i % s.capacity)))

-- a set still includes r after a span was set
pub includes_after_set_span : (s t r : PlainSet) (from to : ℕ) → t ≡ with_span s from to →
    includes s r ≡ true → includes t r ≡ true
unfolding has_changed
includes_after_set_span s t r from to is = stays_included s t r (λ k has.
    ap (λ u. u.has k) is ∙ ap (λ b. cond (is_in_span from to k) true b) has
    ∙ either (is_in_span from to k))
  where
    either : (b : Bool) → cond b true true ≡ true
    either true = refl
    either false = refl

-- a set still includes r after each index of a list was set
pub includes_after_all : (s t r : PlainSet) (xs : List ℕ) → t ≡ fold with_index s xs →
    includes s r ≡ true → includes t r ≡ true
includes_after_all s t r xs is kept = ap (λ u. includes u r) is ∙ after xs s kept
  where
    after : (xs : List ℕ) (s : PlainSet) → includes s r ≡ true →
        includes (fold with_index s xs) r ≡ true
    after [] s kept = kept
    after (x ∷ xs) s kept =
        after xs (with_index s x) (includes_after_set s (with_index s x) r x refl kept)

-- a set still includes r after an index that is not in r was cleared
pub includes_after_clear : (s t r : PlainSet) (i : ℕ) → t ≡ without_index s i →
    r.capacity ≡ s.capacity → contains r i ≡ false → includes s r ≡ true → includes t r ≡ true
unfolding has_without contains
includes_after_clear s t r i is same apart kept = includes_if_each t r (λ k below has.
    ap (λ u. u.has k) is
    ∙ ap (λ b. not (nat_lt 0 s.capacity && b) && s.has k)
    (ne_eqb k (i % s.capacity) (λ here. true≢false (
    sym (rw (
      lt-ltb 0 r.capacity (omega (arith, below)),
      ap r.has (ap (λ c. i % c) same ∙ sym here) ∙ has,
    ) refl) ∙ apart)))
    ∙ ap (λ b. not b && s.has k) (and-false (nat_lt 0 s.capacity))
    ∙ each_if_includes s r kept k below has)
