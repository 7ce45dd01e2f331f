-- The operations on two sets, in each order.
use Rattle.std.proofs.Common.{◌≡◌, ℕ, ◌*◌, ◌<◌, ◌≤◌, Bool, true, false, cond, not, ◌&&◌, ◌||◌}
use Rattle.std.proofs.Common.{nat_lt, inl, inr, refl, sym, ap, ◌∙◌, arith}
use Rattle.std.proofs.Math.Bool.{and-false}
use Rattle.std.proofs.Math.Path.{fun_ext}
use Rattle.std.proofs.lemmas.Bool.{and_parts, cases_lt, lt-ltb, le-ltb, not-true, or_left}
use Rattle.std.proofs.lemmas.Bool.{or_right}
use Rattle.bittle_bits.specs.Orders.{place, read_in}
use Rattle.bittle_bits.specs.PlainSet.{PlainSet}
use Rattle.bittle_bits.specs.Relations.{AreDisjoint, IsSubset}
use Rattle.bittle_bits.specs.SetOperations.{combination_has, combination_of, conjunction_of}
use Rattle.bittle_bits.specs.SetOperations.{difference_of, first_alone, union_of}
use Rattle.bittle_bits.proofs.PlaceLemmas.{place_inside}
use Rattle.bittle_bits.proofs.PlainSets.{members-past, plain_set}

-- an operation decides a number below both capacities
pub combination-below : (f : Bool → Bool → Bool) (s t : PlainSet) (k : ℕ) → k < s.capacity →
    k < t.capacity → combination_has f s t k ≡ f (s.has k) (t.has k)
unfolding combination_has
combination-below f s t k h l = rw (lt-ltb k s.capacity h, lt-ltb k t.capacity l) refl

-- a number from the second set's capacity on stays as it was
pub combination-past : (f : Bool → Bool → Bool) (s t : PlainSet) (k : ℕ) → t.capacity ≤ k →
    combination_has f s t k ≡ s.has k
unfolding combination_has
combination-past f s t k h = rw (le-ltb k t.capacity h, and-false (nat_lt k s.capacity)) refl

-- a number from the first set's capacity on stays as it was
pub combination-outside : (f : Bool → Bool → Bool) (s t : PlainSet) (k : ℕ) → s.capacity ≤ k →
    combination_has f s t k ≡ s.has k
unfolding combination_has
combination-outside f s t k h = rw (le-ltb k s.capacity h) refl

-- an operation on sets of whole words is the same in each order
pub members-combination : (f : Bool → Bool → Bool) (m : Bool) (w : ℕ) (s t : PlainSet) → 0 < w →
    (words : ℕ) × (s.capacity ≡ words * w) → (words : ℕ) × (t.capacity ≡ words * w) →
    read_in m w (combination_of f s t) ≡ combination_of f (read_in m w s) (read_in m w t)
unfolding combination_has
members-combination f m w s t word whole also =
    ap (plain_set s.capacity) (fun_ext λ k.
    ap (λ b. cond b (f (s.has (place m w k)) (t.has (place m w k))) (s.has (place m w k)))
    (ap (λ b. b && nat_lt (place m w k) t.capacity) (inside s whole k)
    ∙ ap (λ b. nat_lt k s.capacity && b) (inside t also k)))
  where
    inside : (u : PlainSet) → (words : ℕ) × (u.capacity ≡ words * w) → (k : ℕ) →
        nat_lt (place m w k) u.capacity ≡ nat_lt k u.capacity
    inside u h k = ap (nat_lt (place m w k)) (h.1) ∙ place_inside m w h.0 k word
        ∙ ap (nat_lt k) (sym (h.1))

-- two sets of one capacity, without members past it, read in an order
module _ (m : Bool) (w c : ℕ) (a b : PlainSet) (word : 0 < w)
    (whole : (words : ℕ) × (c ≡ words * w)) (is : a.capacity ≡ c) (also : b.capacity ≡ c)
    (none : (i : ℕ) → a.capacity ≤ i → a.has i ≡ false)
    (past : (i : ℕ) → b.capacity ≤ i → b.has i ≡ false) where
  abbrev s : PlainSet
  s = read_in m w a

  abbrev t : PlainSet
  t = read_in m w b

  -- an operation decides each number
  decided : (f : Bool → Bool → Bool) → f false false ≡ false → (k : ℕ) →
      combination_has f s t k ≡ f (s.has k) (t.has k)
  decided f nothing k = elim (cases_lt k s.capacity) [
    | inl l ↦ combination-below f s t k l (omega (arith, l, is, also))
    | inr g ↦
        let first = members-past m w a word (whole.0, is ∙ whole.1) none k g in
        let second = members-past m w b word (whole.0, also ∙ whole.1) past k
        (omega (arith, g, is, also)) in
        combination-outside f s t k g ∙ first ∙ sym (rw (first, second) nothing)
  ]

  -- a union has the members of both sets
  pub in_union : IsSubset s (union_of s t) × IsSubset t (union_of s t)
  in_union = (
    λ k has. decided ◌||◌ refl k ∙ or_left (s.has k) (t.has k) has,
    λ k has. decided ◌||◌ refl k ∙ or_right (s.has k) (t.has k) has,
  )

  -- the members of a conjunction are in both sets
  pub conjunction_in : IsSubset (conjunction_of s t) s × IsSubset (conjunction_of s t) t
  conjunction_in = (λ k has. (both k has).0, λ k has. (both k has).1)
    where
      both : (k : ℕ) → combination_has ◌&&◌ s t k ≡ true → (s.has k ≡ true) × (t.has k ≡ true)
      both k has = and_parts (s.has k) (t.has k) (sym (decided ◌&&◌ refl k) ∙ has)

  -- the members of a difference are in the first set, and not in the second
  pub difference_in : IsSubset (difference_of s t) s × AreDisjoint (difference_of s t) t
  difference_in = (λ k has. (alone k has).0, λ k has. not-true (t.has k) (alone k has).1)
    where
      alone : (k : ℕ) → combination_has first_alone s t k ≡ true →
          (s.has k ≡ true) × (not (t.has k) ≡ true)
      alone k has = and_parts (s.has k) (not (t.has k)) (sym (decided first_alone refl k) ∙ has)
