-- The runs of a set begin and end, alternately, at the edges of the set.
use Rattle.std.proofs.Common.{◌≡◌, ℕ, zero, suc, ◌+◌, ◌<◌, Bool, true, false, not, IsTrue}
use Rattle.std.proofs.Common.{MatchBool, ◌⊎◌, List, [], ◌∷◌, ◌++◌, inl, inr, refl, sym, ap, ◌∙◌}
use Rattle.std.proofs.Common.{subst, arith}
use Rattle.std.proofs.lemmas.Bool.{cases_Bool, ne_eqb, eq-eqb, true≢false}
use mathlib.Core.Bool.{beq}
use Rattle.std.specs.declared.ops.Range.{Range}
use Rattle.bittle.specs.PlainSet.{PlainSet, ascending, ascending_from}
use Rattle.bittle.specs.SetOperations.{just_one}
use Rattle.bittle.specs.Walk.{ones_or_zeros}
use Rattle.bittle.proofs.CallerSets.{complement_within}
use Rattle.bittle_ext.specs.Edges.{changes_until, paired, Alternate, IsEven}
use Rattle.bittle_ext.specs.Runs.{joined, run, runs, runs_between, runs_from}
use Rattle.bittle_ext.proofs.MaximalRuns.{AreMaximal, runs_maximal}
use Rattle.bittle_ext.proofs.RotatedSets.{up-before, up-inside}

module _ (s : PlainSet) (c : ℕ) (end : c ≡ s.capacity) where
  abbrev has : ℕ → Bool
  has = s.has

  -- whether the number right before k is a member
  abbrev before : ℕ → Bool
  before zero = false
  before (suc k) = has k

  change_is : (k : ℕ) → k < c → (changes_until c s).has k ≡ just_one (has k) (before k)
  change_is zero l = ap (just_one (has zero)) (up-before s 1 zero (omega arith))
  change_is (suc k) l = ap (just_one (has (suc k)))
      (up-inside s 1 (suc k) (omega arith) (omega (arith, l, end)) ∙ ap has (omega arith))

  -- a run may begin one number earlier
  begun_earlier : (k : ℕ) (xs : List ℕ) →
      paired c (k ∷ xs) ≡ joined k (paired c (suc k ∷ xs))
  unfolding paired joined
  begun_earlier k [] = rw (eq-eqb (suc k) (suc k) refl) refl
  begun_earlier k (e ∷ xs) = rw (eq-eqb (suc k) (suc k) refl) refl

  alternates_earlier : (k : ℕ) (xs : List ℕ) → k < c → has k ≡ true → Alternate s (suc k ∷ xs) →
      Alternate s (k ∷ xs)
  alternates_earlier k [] l here h = (omega (arith, l, end), here)
  alternates_earlier k (e ∷ xs) l here h = (omega (arith, l, end), here, h.2, h.3, h.4)

  -- a run of one number joins no run that begins later
  alone : (k to : ℕ) (rs : List (Range ℕ)) → AreMaximal has (suc (suc k)) to rs →
      joined k rs ≡ run k (suc k) ∷ rs
  unfolding joined
  alone k to [] h = refl
  alone k to (r ∷ rs) h = rw (ne_eqb r.start (suc k) (λ e. absurd (omega (arith, e, h.0)))) refl

  -- the list has the edges of the runs, and these are members and no members alternately
  abbrev Pairs : List ℕ → List (Range ℕ) → Type 0
  Pairs xs rs = (paired c xs ≡ rs) × Alternate s xs

  module _ (edge : ℕ → Bool)
      (edge_is : (k : ℕ) → k < c → edge k ≡ just_one (has k) (before k)) where
    -- in the last n numbers: if none or no member comes before them, and if a member does
    pairs : (n : ℕ) →
        ((from : ℕ) → from + n ≡ c → before from ≡ false →
        Pairs (ascending_from edge from n) (runs_from has from n))
        × ((k : ℕ) → suc k + n ≡ c → has k ≡ true →
        Pairs (k ∷ ascending_from edge (suc k) n) (joined k (runs_from has (suc k) n)))
    unfolding paired joined ascending_from runs_from
    pairs zero = (
      λ from at none. (refl, tt),
      λ k at here.
          (ap (λ n. run k n ∷ []) (omega (arith, at)), (omega (arith, at, end), here)),
    )
    pairs (suc n) = (
      λ from at none. elim (cases_Bool (has from)) [
        | inl here ↦ rw (here, edge_is from (omega (arith, at)) ∙ (λ i. just_one (here i) (none i)))
            ((pairs n).1 from (omega (arith, at)) here)
        | inr gone ↦ rw (gone, edge_is from (omega (arith, at)) ∙ (λ i. just_one (gone i) (none i)))
            ((pairs n).0 (suc from) (omega (arith, at)) gone)
      ],
      λ k at here. elim (cases_Bool (has (suc k))) [
        | inl on ↦
            let rest = (pairs n).1 (suc k) (omega (arith, at)) on in
            let next = edge_is (suc k) (omega (arith, at)) ∙ (λ i. just_one (on i) (here i)) in
            rw (on, next) (
              begun_earlier k (ascending_from edge (suc (suc k)) n) ∙ ap (joined k) rest.0,
              alternates_earlier k (ascending_from edge (suc (suc k)) n)
                  (omega (arith, at)) here rest.1,
            )
        | inr off ↦
            let rest = (pairs n).0 (suc (suc k)) (omega (arith, at)) off in
            let next = edge_is (suc k) (omega (arith, at)) ∙ (λ i. just_one (off i) (here i)) in
            rw (off, next) (
              ap (λ rs. run k (suc k) ∷ rs) rest.0
                  ∙ sym (alone k c (runs_from has (suc (suc k)) n)
                  (runs_maximal has (suc (suc k)) n c (omega (arith, at)))),
              (omega (arith, at, end), here, omega (arith, at, end), off, rest.1),
            )
      ],
    )

  -- so the edges are those of the runs
  pub pairs_are_runs : paired c (ascending (changes_until c s)) ≡ runs s
  unfolding runs_between
  pairs_are_runs =
      ((pairs (changes_until c s).has change_is c).0 0 (omega arith) refl).0
      ∙ ap (runs_from has 0) (omega (arith, end))

  pub edges_alternate : Alternate s (ascending (changes_until c s))
  edges_alternate = ((pairs (changes_until c s).has change_is c).0 0 (omega arith) refl).1

-- ---- lists of edges that are taken from the back

-- the last run is open if an even number of edges comes before its start
paired_open : (to : ℕ) (xs : List ℕ) (start : ℕ) → IsEven xs →
    paired to (xs ++ start ∷ []) ≡ paired to xs ++ run start to ∷ []
unfolding paired
paired_open to [] start even = refl
paired_open to (a ∷ []) start even = absurd even
paired_open to (a ∷ b ∷ xs) start even = ap (λ rs. run a b ∷ rs) (paired_open to xs start even)

-- or else the last two edges are those of the last run
paired_closed : (to : ℕ) (xs : List ℕ) (start end : ℕ) → IsEven xs →
    paired to ((xs ++ start ∷ []) ++ end ∷ []) ≡ paired to xs ++ run start end ∷ []
unfolding paired
paired_closed to [] start end even = refl
paired_closed to (a ∷ []) start end even = absurd even
paired_closed to (a ∷ b ∷ xs) start end even =
    ap (λ rs. run a b ∷ rs) (paired_closed to xs start end even)

-- without its last two items, an even list is even
even_without : (xs : List ℕ) (start end : ℕ) → IsEven ((xs ++ start ∷ []) ++ end ∷ []) → IsEven xs
even_without [] start end even = tt
even_without (a ∷ []) start end even = absurd even
even_without (a ∷ b ∷ xs) start end even = even_without xs start end even

-- the last edge begins a run if an even number of edges comes before it, else it ends one
pub record IsLastEdge (s : PlainSet) (xs : List ℕ) (last : ℕ) : Type 0 where
  pub below : last < s.capacity
  pub begins : s.has last ≡ true → IsEven xs
  pub ends : s.has last ≡ false → IsEven (xs ++ last ∷ [])
  pub rest : Alternate s xs

at_end : (s : PlainSet) (xs : List ℕ) (last : ℕ) → Alternate s (xs ++ last ∷ []) →
    IsLastEdge s xs last
at_end s [] last h = record {
  below = h.0;
  begins = λ e. tt;
  ends = λ e. absurd (true≢false (sym h.1 ∙ e));
  rest = tt;
}
at_end s (a ∷ []) last h = record {
  below = h.2;
  begins = λ e. absurd (true≢false (sym e ∙ h.3));
  ends = λ e. tt;
  rest = (h.0, h.1);
}
at_end s (a ∷ b ∷ xs) last h =
    let more = at_end s xs last h.4 in record {
      below = more.below;
      begins = more.begins;
      ends = more.ends;
      rest = (h.0, h.1, h.2, h.3, more.rest);
    }

-- an item was taken from the back of a list of edges
module _ (s : PlainSet) (to : ℕ) (old xs : List ℕ) (last : ℕ) (took : old ≡ xs ++ last ∷ [])
    (alternate : Alternate s old) where
  pub last_edge : IsLastEdge s xs last
  last_edge = at_end s xs last (subst (Alternate s) took alternate)

  -- it is the start of a run that is open
  pub open_run : s.has last ≡ true → paired to old ≡ paired to xs ++ run last to ∷ []
  open_run here = ap (paired to) took ∙ paired_open to xs last (last_edge.begins here)

  -- the list is even if this is known, or if the item ends a run
  pub even_old : (closed : Bool) → (IsTrue closed → IsEven old) →
      IsTrue closed ⊎ (s.has last ≡ false) → IsEven old
  even_old closed known (inl h) = known h
  even_old closed known (inr e) = subst IsEven (sym took) (last_edge.ends e)

  -- or the end of a run, and then one more item is taken: its start
  module _ (even : IsEven old) where
    pub some_left : xs ≡ [] → ⊥
    some_left none = subst IsEven (took ∙ ap (λ ys. ys ++ last ∷ []) none) even

    module _ (ys : List ℕ) (start : ℕ) (more : xs ≡ ys ++ start ∷ []) where
      both : old ≡ (ys ++ start ∷ []) ++ last ∷ []
      both = took ∙ ap (λ zs. zs ++ last ∷ []) more

      pub still_even : IsEven ys
      still_even = even_without ys start last (subst IsEven both even)

      pub closed_run : paired to old ≡ paired to ys ++ run start last ∷ []
      closed_run = ap (paired to) both ∙ paired_closed to ys start last still_even

      pub rest_alternates : Alternate s ys
      rest_alternates = (at_end s ys start (subst (Alternate s) more last_edge.rest)).rest

-- whether a bit has a value tells whether it is of a kind
pub of_kind : (ones : Bool) (s : PlainSet) (i : ℕ) → i < s.capacity → (b : Bool) → b ≡ s.has i →
    (closed : Bool) → MatchBool (beq b ones) ((ones_or_zeros ones s).has i ≡ true)
    (IsTrue closed ⊎ ((ones_or_zeros ones s).has i ≡ false))
of_kind true s i l true e closed = sym e
of_kind true s i l false e closed = inr (sym e)
of_kind false s i l true e closed = inr (complement_within s i l ∙ ap not (sym e))
of_kind false s i l false e closed = complement_within s i l ∙ ap not (sym e)
