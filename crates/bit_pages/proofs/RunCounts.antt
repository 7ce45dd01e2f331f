-- The map after a run of pages is taken or given back: which pages are taken then, and how many.
use Rattle.std.proofs.Common.{◌≡◌, ℕ, ◌+◌, ◌≤◌, Bool, true, false, not, ◌&&◌, cond, nat_lt, refl}
use Rattle.std.proofs.Common.{sym, ap, ◌∙◌, arith}
use Rattle.std.specs.Prelude.{◌↔◌, IsTrue, MatchBool}
use Rattle.std.proofs.lemmas.Bool.{true≢false}
use Rattle.bittle.specs.PlainSet.{PlainSet, complement, has_changed, is_in_span, size, with_span}
use Rattle.bittle.specs.PlainSet.{with_span_changed, without_span}
use Rattle.bittle.specs.Searches.{NoneIn}
use Rattle.bittle.proofs.CallerSets.{complement_within}
use Rattle.bittle_bits.proofs.Spans.{inside_span, outside_span}
use Rattle.bittle_ext.specs.RangeMembers.{HasAllIn, HasSomeIn}
use Rattle.bittle_ext.specs.Runs.{IsRun}
use Rattle.bittle_ext.proofs.RunCounts.{count_run_more, run_is_unset}
use Rattle.bit_pages.specs.Pages.{is_taken}

module _ (s : PlainSet) (n first : ℕ) where
  -- after a run was taken, each of its pages is taken
  pub run_is_taken : IsRun (complement s) n first → IsRun (with_span s first (first + n)) n first
  run_is_taken run = (run.0, λ k p q. inside_span (λ _. true) s first (first + n) k p q)

  -- after a run was given back, each of its pages is free
  pub run_is_given : NoneIn (without_span s first (first + n)) first (first + n)
  run_is_given k p q = inside_span (λ _. false) s first (first + n) k p q

  -- before a run was given back, n more pages were taken
  pub given_counts : IsRun s n first → size s ≡ size (without_span s first (first + n)) + n
  given_counts run =
      count_run_more s.capacity first n (without_span s first (first + n)).has s.has run.0
      (λ k p q. inside_span (λ _. false) s first (first + n) k p q) run.1
      (λ k out. sym (outside_span (λ _. false) s first (first + n) k out))

-- a page outside a run stays as it was when the run is taken or given back
pub others_stay : (change : Bool → Bool) (s t : PlainSet) (first end page : ℕ) →
    t ≡ with_span_changed change s first end → is_in_span first end page ≡ false →
    is_taken t page ≡ is_taken s page
unfolding has_changed
others_stay change s t first end page after out = ap (λ u. is_taken u page) after
    ∙ ap (λ b. nat_lt page s.capacity && cond b (change (s.has page)) (s.has page)) out

-- a test of each page up to the end of a run tells whether the run is taken
pub all_taken : (s : PlainSet) (n first end : ℕ) (b : Bool) → end ≡ first + n →
    end ≤ s.capacity →
    MatchBool b (HasAllIn s first end) (HasSomeIn (complement s) first end) →
    IsTrue b ↔ IsRun s n first
all_taken s n first end true at within all =
    (λ e. (omega (arith, at, within), λ k p q. all k p (omega (arith, at, q))), λ run. refl)
all_taken s n first end false at within some = (
  λ e. absurd (cc),
  λ run. absurd (true≢false (sym some.3 ∙ complement_within s some.0 (omega (arith, some.2, within))
      ∙ ap not (run.1 some.0 some.1 (omega (arith, at, some.2))))),
)

-- a test for a taken page up to the end of a run tells whether the run is free
pub none_taken : (s : PlainSet) (n first end : ℕ) (b : Bool) → end ≡ first + n →
    end ≤ s.capacity → MatchBool b (HasSomeIn s first end) (NoneIn s first end) →
    IsTrue (not b) ↔ IsRun (complement s) n first
none_taken s n first end true at within some = (
  λ e. absurd (cc),
  λ run. absurd (true≢false (sym some.3
      ∙ run_is_unset s n first run some.0 some.1 (omega (arith, at, some.2)))),
)
none_taken s n first end false at within none = (
  λ e. (
    omega (arith, at, within),
    λ k p q. complement_within s k (omega (arith, at, within))
        ∙ ap not (none k p (omega (arith, at, q))),
  ),
  λ run. refl,
)
