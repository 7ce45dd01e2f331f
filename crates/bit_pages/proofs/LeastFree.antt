-- The least free page, and how a search of the free pages finds it.
use Rattle.std.proofs.Common.{◌≡◌, ℕ, zero, suc, ◌+◌, ◌<◌, ◌≤◌, ◌⊎◌, Bool, true, false, not, ◌&&◌}
use Rattle.std.proofs.Common.{cond, nat_lt, Option, Some, None, inl, inr, refl, sym, ap, ◌∙◌, arith}
use Rattle.std.proofs.lemmas.Bool.{cases_eq, cases_Bool, cases_lt, lt-ltb, ltb-true, not-true}
use Rattle.std.proofs.lemmas.Bool.{not-false, and_parts, true≢false}
use Rattle.std.specs.Prelude.{MatchOption}
use Rattle.bittle.specs.PlainSet.{PlainSet, complement, contains, size}
use Rattle.bittle.specs.Searches.{NoneIn, IsFirstIn}
use Rattle.bittle.proofs.CallerSets.{contains_within, complement_within, size_full}
use Rattle.bit_pages.specs.PageLaws.{IsFree, IsLeastFree}
use Rattle.bit_pages.specs.Pages.{is_taken, is_free_page, least_free_from, least_free}

-- each of the n pages from `from` on is taken
abbrev pub AllTakenFrom : (ℕ → Bool) → ℕ → ℕ → Type 0
AllTakenFrom taken from n = (k : ℕ) → from ≤ k → k < from + n → taken k ≡ true

-- p is the least free page of the n pages from `from` on
pub record IsFoundFrom (taken : ℕ → Bool) (from n p : ℕ) : Type 0 where
  pub from_one_on : from ≤ p
  pub within : p < from + n
  pub is_free : taken p ≡ false
  pub taken_below : (k : ℕ) → from ≤ k → k < p → taken k ≡ true

from_here : (taken : ℕ → Bool) (from end : ℕ) → taken from ≡ true →
    ((k : ℕ) → suc from ≤ k → k < end → taken k ≡ true) → (k : ℕ) → from ≤ k → k < end →
    taken k ≡ true
from_here taken from end here later k p q =
    elim (cases_eq from k) [ inl e ↦ ap taken (sym e) ∙ here | inr n ↦ later k (omega arith) q ]

pub least_free_from-is : (taken : ℕ → Bool) (from n : ℕ) →
    MatchOption (least_free_from taken from n) (AllTakenFrom taken from n)
    (IsFoundFrom taken from n)
unfolding least_free_from
least_free_from-is taken from zero = λ k p q. absurd (omega arith)
least_free_from-is taken from (suc n) = by (cases_Bool (taken from))
    (least_free_from taken (suc from) n) (least_free_from-is taken (suc from) n)
  where
    by : (taken from ≡ true) ⊎ (taken from ≡ false) → (o : Option ℕ) →
        MatchOption o (AllTakenFrom taken (suc from) n) (IsFoundFrom taken (suc from) n) →
        MatchOption (cond (taken from) o (Some from)) (AllTakenFrom taken from (suc n))
        (IsFoundFrom taken from (suc n))
    by (inl here) None all = rw here (from_here taken from (from + suc n) here
        (λ k p q. all k p (omega arith)))
    by (inl here) (Some p) found =
        rw here (record {
          from_one_on = omega (arith, found.from_one_on);
          within = omega (arith, found.within);
          is_free = found.is_free;
          taken_below = from_here taken from p here found.taken_below;
        })
    by (inr here) o rest =
        rw here (record {
          from_one_on = omega arith;
          within = omega arith;
          is_free = here;
          taken_below = λ k p q. absurd (omega arith);
        })

-- `least_free` is the least free page, or None if all pages are taken
pub least_free-is : (s : PlainSet) → MatchOption (least_free s) ((k : ℕ) → k < s.capacity →
    s.has k ≡ true) (IsLeastFree s)
least_free-is s = by (least_free s) (least_free_from-is s.has 0 s.capacity)
  where
    by : (o : Option ℕ) → MatchOption o (AllTakenFrom s.has 0 s.capacity)
        (IsFoundFrom s.has 0 s.capacity) →
        MatchOption o ((k : ℕ) → k < s.capacity → s.has k ≡ true) (IsLeastFree s)
    by None all = λ k h. all k (omega arith) (omega arith)
    by (Some p) found = record {
      within = omega (arith, found.within);
      is_free = found.is_free;
      taken_below = λ k h. found.taken_below k (omega arith) h;
    }

-- there is just one least free page
one_least : (s : PlainSet) (p q : ℕ) → IsLeastFree s p → IsLeastFree s q → p ≡ q
one_least s p q a b =
    elim (cases_lt p q) [
      | inl l ↦ absurd (true≢false (sym (b.taken_below p l) ∙ a.is_free))
      | inr g ↦ elim (cases_lt q p) [
        | inl l ↦
            absurd (true≢false (sym (a.taken_below q l) ∙ b.is_free))
        | inr h ↦ omega arith
      ]
    ]

-- the least free page is what `least_free` finds
pub least_free-found : (s : PlainSet) (p : ℕ) → IsLeastFree s p → least_free s ≡ Some p
least_free-found s p found = by (least_free s) (least_free-is s)
  where
    by : (o : Option ℕ) → MatchOption o ((k : ℕ) → k < s.capacity → s.has k ≡ true)
        (IsLeastFree s) → o ≡ Some p
    by None all = absurd (true≢false (sym (all p found.within) ∙ found.is_free))
    by (Some q) least = ap Some (one_least s q p least found)

-- the first of the free pages is the least one
pub least_free-first : (s : PlainSet) (p : ℕ) → IsFirstIn (complement s) 0 s.capacity (Some p) →
    least_free s ≡ Some p
least_free-first s p first = least_free-found s p (record {
  within = first.1;
  is_free = not-true (s.has p) (sym (complement_within s p first.1) ∙ first.2);
  taken_below = λ k h. not-false (s.has k)
      (sym (complement_within s k (omega (arith, first.1))) ∙ first.3 k (omega arith) h);
})

-- if no page is free, `least_free` is None
pub least_free-none : (s : PlainSet) → NoneIn (complement s) 0 s.capacity → least_free s ≡ None
least_free-none s none = by (least_free s) (least_free-is s)
  where
    by : (o : Option ℕ) → MatchOption o ((k : ℕ) → k < s.capacity → s.has k ≡ true)
        (IsLeastFree s) → o ≡ None
    by None all = refl
    by (Some q) least =
        absurd (true≢false (sym (not-false (s.has q)
        (sym (complement_within s q least.within) ∙ none q (omega arith) least.within))
        ∙ least.is_free))

-- a search over all pages finds the least free page
pub least_free-search : (s : PlainSet) (end : ℕ) (r : Option ℕ) → end ≡ s.capacity →
    IsFirstIn (complement s) 0 end r → least_free s ≡ r
least_free-search s end None e none = least_free-none s (λ k p q. none k p (omega (arith, e, q)))
least_free-search s end (Some p) e first =
    least_free-first s p (first.0, omega (arith, e, first.1), first.2, first.3)

-- a test of the map shows whether a page is taken
pub is_taken-within : (s : PlainSet) (p : ℕ) → p < s.capacity → is_taken s p ≡ contains s p
is_taken-within s p h = ap (λ b. b && s.has p) (lt-ltb p s.capacity h) ∙ sym (contains_within s p h)

-- a number that is taken is a page
pub taken-within : (s : PlainSet) (p : ℕ) → is_taken s p ≡ true → p < s.capacity
taken-within s p h = ltb-true p s.capacity (and_parts (nat_lt p s.capacity) (s.has p) h).0

-- a number that is taken is a member of the set
pub taken-member : (s : PlainSet) (p : ℕ) → is_taken s p ≡ true → s.has p ≡ true
taken-member s p h = (and_parts (nat_lt p s.capacity) (s.has p) h).1

-- a page that is not taken is no member of the set
pub free-member : (s : PlainSet) (p : ℕ) → p < s.capacity → is_taken s p ≡ false →
    s.has p ≡ false
free-member s p h e = sym (ap (λ b. b && s.has p) (lt-ltb p s.capacity h)) ∙ e

-- `is_free_page` is true exactly if the number is a free page
pub free_page : (s : PlainSet) (p : ℕ) → is_free_page s p ≡ true → IsFree s p
free_page s p e =
    let parts = and_parts (nat_lt p s.capacity) (not (s.has p)) e in
    (ltb-true p s.capacity parts.0, not-true (s.has p) parts.1)

pub page_free : (s : PlainSet) (p : ℕ) → IsFree s p → is_free_page s p ≡ true
page_free s p free =
    let within = lt-ltb p s.capacity free.0 in let member = free.1 in rw (within, member) refl

-- if all pages are taken, `least_free` is None
pub least_free-full : (s : PlainSet) → size s ≡ s.capacity → least_free s ≡ None
least_free-full s full = by (least_free s) (least_free-is s)
  where
    by : (o : Option ℕ) → MatchOption o ((k : ℕ) → k < s.capacity → s.has k ≡ true)
        (IsLeastFree s) → o ≡ None
    by None all = refl
    by (Some q) least =
        absurd (true≢false (sym (size_full s full q least.within) ∙ least.is_free))
