-- How many members a copied, shifted, grown or viewed set or a subset has, and how many are below a
-- member.
use Rattle.std.proofs.Common.{◌≡◌, ℕ, zero, suc, cond, Option, Some, None, MatchOption, slice_get}
use Rattle.std.proofs.Common.{length, subst, ◌⊎◌, ◌+◌, ◌-◌, ◌<◌, ◌≤◌, Bool, true, false, ◌&&◌, List}
use Rattle.std.proofs.Common.{[], ◌∷◌, inl, inr, max, refl, sym, ap, ◌∙◌, ◌||◌, arith, is_some, not}
use Rattle.std.proofs.lemmas.Bool.{cases_lt, le-ltb, lt-ltb, or_left, true≢false}
use Rattle.std.proofs.lemmas.Option.{slice_get-get_or}
use Rattle.std.specs.List.{fold}
use Rattle.bittle.specs.PlainSet.{PlainSet, ascending, count_below, is_in_span, members_below, size}
use Rattle.bittle.specs.PlainSet.{complement, lacks, with_index}
use Rattle.bittle.specs.SetOperations.{first_alone}
use Rattle.bittle_bits.proofs.Counts.{count-add, count-more, count-never, count-same}
use Rattle.bittle_bits.proofs.Sizes.{size-le}
use Rattle.bittle_bits.proofs.Spans.{is_in_span-outside}
use Rattle.bittle.proofs.CallerChanges.{size_inserted}
use Rattle.bittle.proofs.CallerLists.{ascending_member}
use Rattle.bittle_ext.specs.Between.{has_below, members_to}
use Rattle.bittle_ext.specs.Combined.{either_of}
use Rattle.bittle_ext.specs.RangeMembers.{members_within}
use Rattle.bittle_ext.specs.Rotations.{has_shifted_down, has_shifted_up, shifted_down, shifted_up}
use Rattle.bittle_ext.specs.SetRelations.{IsFirstAlone, IsSubset}
use Rattle.bittle_ext.specs.Views.{decided_of_first}
use Rattle.bittle_ext.proofs.CommonCounts.{all_numbers}
use Rattle.bittle_ext.proofs.KeptMembers.{Ends}
use Rattle.bittle_ext.proofs.ListedMembers.{ascending_length}
use Rattle.bittle_ext.proofs.RankFacts.{below_next, not_selected, rank_of_item}
use Rattle.bittle_ext.proofs.RotatedSets.{down-inside, down-past, up-before, up-inside}

-- below c, p passes what q passes
count_within : (c n : ℕ) (p q : ℕ → Bool) → c ≤ n → ((k : ℕ) → k < c → p k ≡ q k) →
    count_below c p ≤ count_below n q
count_within c n p q few same =
    let whole : n ≡ c + (n - c) = omega (arith, few) in
    omega (
      arith,
      count-same c p q same,
      ap (λ m. count_below m q) whole,
      count-add c (n - c) q,
    )

-- from n on, q passes nothing
count_past : (c n : ℕ) (q : ℕ → Bool) → n ≤ c → ((k : ℕ) → n ≤ k → q k ≡ false) →
    count_below c q ≡ count_below n q
count_past c n q few none =
    let whole : c ≡ n + (c - n) = omega (arith, few) in
    omega (
      arith,
      ap (λ m. count_below m q) whole,
      count-add n (c - n) q,
      count-same (c - n) (λ k. q (n + k)) (λ _. false) (λ k l. none (n + k) (omega arith)),
      count-never (c - n),
    )

-- a set that is cut off has at most as many members
pub size_cut : (c : ℕ) (t : PlainSet) → Ends t → size (members_to c t) ≤ size t
unfolding has_below
size_cut c t ends =
    let same : (k : ℕ) → k < c → has_below c t k ≡ t.has k =
    λ k l. ap (λ b. b && t.has k) (lt-ltb k c l) in
    elim (cases_lt t.capacity c) [
      | inl l ↦ omega (
        arith,
        count-same c (has_below c t) t.has same,
        count_past c t.capacity t.has (omega (arith, l)) ends,
      )
      | inr g ↦ count_within c t.capacity (has_below c t) t.has g same
    ]

-- a set that is cut off at its capacity or past it keeps its members
pub size_uncut : (c : ℕ) (t : PlainSet) → Ends t → t.capacity ≤ c →
    size (members_to c t) ≡ size t
unfolding has_below
size_uncut c t ends room =
    count-same c (has_below c t) t.has (λ k l. ap (λ b. b && t.has k) (lt-ltb k c l))
    ∙ count_past c t.capacity t.has room ends

-- a shift down drops members, and adds none
pub size_shifted_down : (s : PlainSet) (by : ℕ) → size (shifted_down s by) ≤ size s
size_shifted_down s by = elim (cases_lt s.capacity by) [
  | inl l ↦ omega (
    arith,
    count-same s.capacity (has_shifted_down s by) (λ _. false)
        (λ k below. down-past s by k (omega (arith, l))),
    count-never s.capacity,
  )
  | inr g ↦
      let rest = s.capacity - by in
      let moved : (k : ℕ) → k < rest → has_shifted_down s by k ≡ s.has (by + k) = λ k l.
      let place : k + by ≡ by + k = omega arith in
      down-inside s by k (omega (arith, l, g)) ∙ ap s.has place in
      let emptied : (k : ℕ) → k < by → has_shifted_down s by (rest + k) ≡ false =
      λ k l. down-past s by (rest + k) (omega (arith, g)) in
      let halves : s.capacity ≡ rest + by = omega (arith, g) in
      let others : s.capacity ≡ by + rest = omega (arith, g) in
      omega (
        arith,
        ap (λ c. count_below c (has_shifted_down s by)) halves,
        count-add rest by (has_shifted_down s by),
        count-same rest (has_shifted_down s by) (λ k. s.has (by + k)) moved,
        count-same by (λ k. has_shifted_down s by (rest + k)) (λ _. false) emptied,
        count-never by,
        ap (λ c. count_below c s.has) others,
        count-add by rest s.has,
      )
]

-- a shift up drops members, and adds none
pub size_shifted_up : (s : PlainSet) (by : ℕ) → size (shifted_up s by) ≤ size s
size_shifted_up s by = elim (cases_lt s.capacity by) [
  | inl l ↦ omega (
    arith,
    count-same s.capacity (has_shifted_up s by) (λ _. false)
        (λ k below. up-before s by k (omega (arith, l, below))),
    count-never s.capacity,
  )
  | inr g ↦
      let rest = s.capacity - by in
      let moved : (k : ℕ) → k < rest → has_shifted_up s by (by + k) ≡ s.has k = λ k l.
      let back : by + k - by ≡ k = omega arith in
      up-inside s by (by + k) (omega arith) (omega (arith, l, g)) ∙ ap s.has back in
      let halves : s.capacity ≡ by + rest = omega (arith, g) in
      let others : s.capacity ≡ rest + by = omega (arith, g) in
      omega (
        arith,
        ap (λ c. count_below c (has_shifted_up s by)) halves,
        count-add by rest (has_shifted_up s by),
        count-same by (has_shifted_up s by) (λ _. false) (up-before s by),
        count-never by,
        count-same rest (λ k. has_shifted_up s by (by + k)) s.has moved,
        ap (λ c. count_below c s.has) others,
        count-add rest by s.has,
      )
]

-- setting each index of a list removes no member
pub size_all_set : (xs : List ℕ) (s : PlainSet) → size s ≤ size (fold with_index s xs)
size_all_set [] s = omega arith
size_all_set (x ∷ xs) s =
    let one : size s ≤ size (with_index s x) = elim (cases_lt 0 s.capacity) [
      | inl some ↦ omega (arith, size_inserted s x some)
      | inr none ↦ omega (arith, none, size-le s)
    ] in
    omega (arith, size_all_set xs (with_index s x), one)

-- a test counts one at most
one_at_most : (b : Bool) → cond b 1 0 ≤ 1
one_at_most true = omega arith
one_at_most false = omega arith

-- a test that only numbers of a..b pass passes at most as many
span_most : (n a b : ℕ) (p : ℕ → Bool) → ((k : ℕ) → (k < a) ⊎ (b ≤ k) → p k ≡ false) →
    (count_below n p ≤ n - a) × (count_below n p ≤ b - a)
unfolding count_below
span_most zero a b p out = (omega arith, omega arith)
span_most (suc c) a b p out =
    let below = span_most c a b p out in
    let digit : Bool → ℕ = λ t. cond t 1 0 in
    elim (cases_lt c a) [
      | inl l ↦
          let none : digit (p c) ≡ digit false = ap digit (out c (inl l)) in
          (omega (arith, below.0, none), omega (arith, below.1, none))
      | inr g ↦ elim (cases_lt c b) [
        | inl m ↦ (
          omega (arith, below.0, one_at_most (p c), g),
          omega (arith, below.0, one_at_most (p c), g, m),
        )
        | inr o ↦
            let none : digit (p c) ≡ digit false = ap digit (out c (inr o)) in
            (omega (arith, below.0, none), omega (arith, below.1, none))
      ]
    ]

-- a range has at most as many members as numbers
pub size_within : (s t : PlainSet) (from to : ℕ) → t ≡ members_within s from to →
    size t ≤ to - from
size_within s t from to is =
    let most = span_most s.capacity from to (λ k. is_in_span from to k && s.has k)
    (λ k out. ap (λ b. b && s.has k) (is_in_span-outside from to k out)) in
    omega (arith, ap size is, most.1)

-- what a set has alone, and what it has in common with another, are at most all of its members
pub size_view_alone : (s t u : PlainSet) → u ≡ decided_of_first first_alone s t → size u ≤ size s
size_view_alone s t u is = omega (arith, ap size is, (all_numbers s.capacity s.has t.has).0)

pub size_view_common : (s t u : PlainSet) → u ≡ decided_of_first ◌&&◌ s t → size u ≤ size s
size_view_common s t u is = omega (arith, ap size is, (all_numbers s.capacity s.has t.has).0)

-- a set has at most as many members as its union with another
pub size_view_either : (s t u : PlainSet) → u ≡ either_of s t → size s ≤ size u
size_view_either s t u is =
    let either : ℕ → Bool = λ k. s.has k || t.has k in
    omega (
      arith,
      ap size is,
      count-more s.capacity s.has either (λ k _ has. or_left (s.has k) (t.has k) has),
      count_within s.capacity (max s.capacity t.capacity) either either (omega arith)
          (λ k b. refl),
    )

-- fewer members are below a member than there are in all
pub below_member : (s : PlainSet) (i : ℕ) → Ends s → s.has i ≡ true → members_below s i < size s
below_member s i ends has = elim (cases_lt i s.capacity) [
  | inl l ↦
      let whole = count_within (i + 1) s.capacity s.has s.has (omega (arith, l)) (λ k b. refl) in
      let digit : Bool → ℕ = λ t. cond t 1 0 in
      let one : digit (s.has i) ≡ digit true = ap digit has in
      omega (arith, whole, below_next s i, one)
  | inr g ↦ absurd (true≢false (sym has ∙ ends i g))
]

-- a complement has no member at or past its capacity
pub complement_ends : (s : PlainSet) → Ends (complement s)
unfolding lacks
complement_ends s i past = ap (λ b. b && not (s.has i)) (le-ltb i s.capacity past)

-- if no number was found that the first set has alone, it is a subset of the second
pub none_alone : (s t : PlainSet) (found : Option ℕ) (none : Bool) → is_some found ≡ not none →
    none ≡ true → IsFirstAlone s t found → IsSubset s t
none_alone s t None none e is first = first
none_alone s t (Some i) none e is first = absurd (true≢false (e ∙ ap not is))

-- a subset has at most as many members
pub size_subset : (s t : PlainSet) → Ends t → IsSubset s t → size s ≤ size t
size_subset s t ends each =
    let part = count-more s.capacity s.has t.has (λ k _. each k) in
    elim (cases_lt t.capacity s.capacity) [
      | inl l ↦ omega (
        arith,
        part,
        count_past s.capacity t.capacity t.has (omega (arith, l)) ends,
      )
      | inr g ↦ omega (
        arith,
        part,
        count_within s.capacity t.capacity t.has t.has g (λ k b. refl),
      )
    ]

-- what item n of the increasing list says
pub select_found : (s : PlainSet) (n : ℕ) (r : Option ℕ) → r ≡ slice_get (ascending s) n →
    MatchOption r (size s ≤ n) (λ i. (s.has i ≡ true) × (members_below s i ≡ n))
select_found s n None is = elim (cases_lt n (size s)) [
  | inl l ↦
      let low : n < length (ascending s) = omega (arith, l, ascending_length s) in
      absurd (subst (λ (r : Option ℕ). MatchOption r ⊥ (λ i. s.has i ≡ true))
      (sym (is ∙ slice_get-get_or (ascending s) n 0 low)) (ascending_member s n low))
  | inr g ↦ g
]
select_found s n (Some i) is = (has, rank_of_item s n i (sym is))
  where
    has : s.has i ≡ true
    has = elim (cases_lt n (size s)) [
      | inl l ↦
          let low : n < length (ascending s) = omega (arith, l, ascending_length s) in
          subst (λ (r : Option ℕ). MatchOption r ⊥ (λ i. s.has i ≡ true))
          (sym (is ∙ slice_get-get_or (ascending s) n 0 low)) (ascending_member s n low)
      | inr g ↦ absurd (subst (λ (r : Option ℕ). MatchOption r (0 ≤ 0) (λ i. ⊥))
          (not_selected s n g ∙ sym is) (omega arith))
    ]
