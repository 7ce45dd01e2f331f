-- The sizes of two sets, if one has all members of the other and more.
use Rattle.std.proofs.Common.{◌≡◌, ℕ, ◌<◌, ◌≤◌, Bool, true, false, not, ◌&&◌, ◌||◌, inl, inr, refl}
use Rattle.std.proofs.Common.{sym, ap, ◌∙◌, arith}
use Rattle.std.proofs.Math.Bool.{not-not}
use Rattle.std.proofs.Math.Path.{fun_ext}
use Rattle.std.proofs.lemmas.Bool.{and_right, cases_Bool, cases_lt, lt-ltb, le-ltb, true≢false}
use Rattle.bittle.specs.PlainSet.{PlainSet, count_below, full_set, size, with_span}
use Rattle.bittle.specs.SetOperations.{first_alone}
use Rattle.bittle_bits.proofs.Counts.{count-more, count-same, count-some}
use Rattle.bittle_bits.proofs.PlainSets.{plain_set}
use Rattle.bittle_bits.proofs.Spans.{outside_span, inside_span}
use Rattle.bittle_ext.specs.Between.{has_below, members_to, Differ}
use Rattle.bittle_ext.proofs.CombinedSets.{combined, combined_below}
use Rattle.bittle_ext.proofs.CommonCounts.{all_numbers}

-- of n numbers, those that pass the first test pass the second
abbrev Implies : ℕ → (ℕ → Bool) → (ℕ → Bool) → Type 0
Implies n p q = (k : ℕ) → k < n → p k ≡ true → q k ≡ true

-- a set has as many members as it has in common with one that has all of them
all_common : (s t : PlainSet) → Implies s.capacity s.has t.has →
    count_below s.capacity (λ k. t.has k && s.has k) ≡ size s
all_common s t all =
    count-same s.capacity (λ k. t.has k && s.has k) s.has (λ k l. elim (cases_Bool (s.has k)) [
      | inl here ↦ ap (λ b. b && s.has k) (all k l here)
      | inr gone ↦ and_right (t.has k) (s.has k) gone ∙ sym gone
    ])

-- a set that has all members of s, has its capacity and differs from it at i has more members
more_members : (s t : PlainSet) → t.capacity ≡ s.capacity → Implies s.capacity s.has t.has →
    (i : ℕ) → i < s.capacity → t.has i ≡ not (s.has i) → size s < size t
more_members s t same all i low differs =
    let n = s.capacity in
    let some : 0 < count_below n (λ k. first_alone (t.has k) (s.has k)) =
    elim (cases_Bool (s.has i)) [
      | inl here ↦ absurd (true≢false (sym (all i low here) ∙ differs ∙ ap not here))
      | inr gone ↦ count-some n i (λ k. first_alone (t.has k) (s.has k)) low
          (rw (differs, gone) refl)
    ] in
    rw same (omega (arith, (all_numbers n t.has s.has).0, all_common s t all, some))

module _ (f : Bool → Bool → Bool) (s t u : PlainSet) (keeps : (a b : Bool) → a ≡ true →
    f a b ≡ true) (is : u ≡ combined f s t) where
  -- a set that an operation makes, which removes no member, has each member of the first set
  keeps_first : Implies s.capacity s.has u.has
  keeps_first k l h =
      ap (λ v. v.has k) is ∙ combined_below f s t k l ∙ keeps (s.has k) (t.has k) h

  -- so u has at least as many members as s
  pub never_shrinks : size s ≤ size u
  never_shrinks =
      let same : u.capacity ≡ s.capacity = ap (λ v. v.capacity) is in
      rw same (count-more s.capacity s.has u.has keeps_first)

  -- u has more members if it differs from s
  pub grows : Differ s u → size s < size u
  grows differ =
      more_members s u (ap (λ v. v.capacity) is) keeps_first differ.0 differ.1 differ.2

module _ (f : Bool → Bool → Bool) (s t u : PlainSet) (brings : (a b : Bool) → f a b ≡ true →
    a ≡ true) (is : u ≡ combined f s t) where
  -- a set that an operation makes, which brings none in, has members of the first set only
  from_first : Implies u.capacity u.has s.has
  from_first k l h =
      brings (s.has k) (t.has k)
      (sym (ap (λ v. v.has k) is ∙ combined_below f s t k below) ∙ h)
    where
      below : k < s.capacity
      below = omega (arith, l, ap (λ v. v.capacity) is)

  -- so u has at most as many members as s
  pub never_grows : size u ≤ size s
  never_grows =
      let same : u.capacity ≡ s.capacity = ap (λ v. v.capacity) is in
      rw (sym same) (count-more u.capacity u.has s.has from_first)

  -- u has fewer members if it differs from s
  pub shrinks : Differ s u → size u < size s
  shrinks differ =
      let same : u.capacity ≡ s.capacity = ap (λ v. v.capacity) is in
      more_members u s (sym same) from_first differ.0
      (omega (arith, differ.1, same)) (sym (ap not differ.2 ∙ not-not (s.has differ.0)))

pub either_keeps : (a b : Bool) → a ≡ true → a || b ≡ true
either_keeps true b h = refl
either_keeps false b h = absurd (true≢false (sym h))

pub both_brings : (a b : Bool) → a && b ≡ true → a ≡ true
both_brings true b h = refl
both_brings false b h = h

pub alone_brings : (a b : Bool) → first_alone a b ≡ true → a ≡ true
alone_brings a b h = both_brings a (not b) h

-- the operation that takes the second set's members gives those below the first set's capacity
pub copied : (s t : PlainSet) → combined (λ _ b. b) s t ≡ members_to s.capacity t
unfolding has_below
copied s t = refl

-- a set is full after each index was set
pub all_set : (s : PlainSet) (c : ℕ) → c ≡ s.capacity →
    ((i : ℕ) → s.capacity ≤ i → s.has i ≡ false) → with_span s 0 c ≡ full_set s.capacity
all_set s c same past =
    let set : Bool → Bool = λ _. true in
    ap (plain_set s.capacity) (fun_ext λ k. elim (cases_lt k c) [
      | inl l ↦ inside_span set s 0 c k (omega arith) l
          ∙ sym (lt-ltb k s.capacity (omega (arith, same, l)))
      | inr g ↦ outside_span set s 0 c k (inr g) ∙ past k (omega (arith, same, g))
          ∙ sym (le-ltb k s.capacity (omega (arith, same, g)))
    ])
