-- A step that changes the entry of each member of a set once, in a table that is long enough.
use Rattle.std.proofs.Common.{◌≡◌, ◌≢◌, ℕ, suc, ◌<◌, ◌≤◌, true, false, Some, List, [], ◌∷◌, length}
use Rattle.std.proofs.Common.{set, inl, inr, refl, sym, ap, ◌∙◌, subst, arith}
use Rattle.std.specs.Prelude.{slice_get}
use Rattle.std.proofs.lemmas.Bool.{cases_eq, cases_lt, true≢false}
use Rattle.std.proofs.lemmas.Option.{same_Some}
use Rattle.bittle.specs.PlainSet.{PlainSet}
use Rattle.bit_entities.specs.Entities.{EndsAtCapacity}
use Rattle.bit_entities.specs.EntityLaws.{VisitsFrom}
use Rattle.bittle.proofs.CallerTables.{slice_get_set_same, slice_get_set_other}

module _ {X Y : Type 0} (s : PlainSet) (change : X → Y → X) (before : List X) (other : List Y) where
  -- The members that are left are those from the number `from` on. The entries from there on are as
  -- they were. Below `from`, the entries of members are changed, and all others are as they were.
  pub record IsStepped (left : List ℕ) (now : List X) : Type 0 where
    pub from : ℕ
    pub visits : VisitsFrom s from left
    pub later : (k : ℕ) → from ≤ k → slice_get now k ≡ slice_get before k
    pub others : (k : ℕ) → s.has k ≡ false → slice_get now k ≡ slice_get before k
    pub members : (k : ℕ) (x : X) (y : Y) → k < from → s.has k ≡ true →
        slice_get before k ≡ Some x → slice_get other k ≡ Some y →
        slice_get now k ≡ Some (change x y)

  -- before the first member nothing is changed
  pub none_stepped : (left : List ℕ) → VisitsFrom s 0 left → IsStepped left before
  none_stepped left visits = record {
    from = 0;
    visits = visits;
    later = λ k h. refl;
    others = λ k lacks. refl;
    members = λ k x y h has was there. absurd (omega (arith, h));
  }

  -- the entry of the next member is changed
  one_stepped : (e : ℕ) (left : List ℕ) (now : List X) (a : X) (b : Y) →
      IsStepped (e ∷ left) now → e < length now → slice_get now e ≡ Some a →
      slice_get other e ≡ Some b → IsStepped left (set now e (change a b))
  unfolding VisitsFrom
  one_stepped e left now a b is within at there = record {
    from = suc e;
    visits = is.visits.1;
    later = λ k h. apart k (λ same. absurd (omega (arith, h, same)))
        ∙ is.later k (omega (arith, h, is.visits.0.0));
    others = λ k lacks. elim (cases_eq k e) [
      | inl same ↦ absurd (true≢false (sym is.visits.0.2 ∙ ap s.has (sym same) ∙ lacks))
      | inr n ↦ apart k n ∙ is.others k lacks
    ];
    members = λ k x y h has was own. elim (cases_eq k e) [
      | inl same ↦
          let here = ap (slice_get (set now e (change a b))) same
          ∙ slice_get_set_same now e (change a b) within in
          let stood = is.later e is.visits.0.0 in
          let first : a ≡ x =
          same_Some _ _ (sym at ∙ stood ∙ ap (slice_get before) (sym same) ∙ was) in
          let second : b ≡ y = same_Some _ _ (sym there ∙ ap (slice_get other) (sym same) ∙ own) in
          here ∙ ap (λ v. Some (change v b)) first ∙ ap (λ v. Some (change x v)) second
      | inr n ↦ apart k n ∙ elim (cases_lt k is.from) [
        | inl l ↦ is.members k x y l has was own
        | inr g ↦ absurd (true≢false
            (sym has ∙ is.visits.0.3 k g (below k h n)))
      ]
    ];
  }
    where
      below : (k : ℕ) → k < suc e → k ≢ e → k < e
      below k h n = elim (cases_lt k e) [
        | inl l ↦ l
        | inr g ↦ absurd (n (omega (arith, h, g)))
      ]

      apart : (k : ℕ) → k ≢ e → slice_get (set now e (change a b)) k ≡ slice_get now k
      apart k n = slice_get_set_other now e k (change a b) n

  module _ (all left : List ℕ) (e : ℕ) (now : List X) (is : IsStepped all now)
      (first : all ≡ e ∷ left) where
    -- the next member is below the capacity
    pub next_below : e < s.capacity
    unfolding VisitsFrom
    next_below = below (subst (λ l. IsStepped l now) first is)
      where
        below : IsStepped (e ∷ left) now → e < s.capacity
        below is = is.visits.0.1

    pub next_stepped : (a : X) (b : Y) → e < length now → slice_get now e ≡ Some a →
        slice_get other e ≡ Some b → IsStepped left (set now e (change a b))
    next_stepped a b = one_stepped e left now a b (subst (λ l. IsStepped l now) first is)

  -- after the last member the entry of each member is changed
  all_stepped : (now : List X) → EndsAtCapacity s → IsStepped [] now →
      (k : ℕ) (x : X) (y : Y) → s.has k ≡ true → slice_get before k ≡ Some x →
      slice_get other k ≡ Some y → slice_get now k ≡ Some (change x y)
  unfolding VisitsFrom
  all_stepped now ends is k x y has was own = elim (cases_lt k is.from) [
    | inl l ↦ is.members k x y l has was own
    | inr g ↦ absurd (true≢false (sym has ∙ elim (cases_lt k s.capacity) [
      | inl l ↦ is.visits k g l
      | inr past ↦ ends k past
    ]))
  ]

  pub none_left : (left : List ℕ) (now : List X) → EndsAtCapacity s → IsStepped left now →
      left ≡ [] → (k : ℕ) (x : X) (y : Y) → s.has k ≡ true → slice_get before k ≡ Some x →
      slice_get other k ≡ Some y → slice_get now k ≡ Some (change x y)
  none_left left now ends is none = all_stepped now ends (subst (λ l. IsStepped l now) none is)
