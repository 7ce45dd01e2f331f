-- The least number that is in just one of two increasing lists decides their order.
use Rattle.std.proofs.Common.{◌≡◌, ℕ, zero, suc, ◌+◌, ◌-◌, ◌<◌, ◌≤◌, ◌⊎◌, Bool, true, false, List}
use Rattle.std.proofs.Common.{◌∷◌, refl, sym, ◌∙◌, ap, subst, inl, inr, arith, IsTrue, ◌↔◌}
use Rattle.std.proofs.lemmas.Bool.{cases_eq, cases_Bool, cases_lt, lt-ltb, le-ltb, eq-eqb, ne_eqb}
use Rattle.std.proofs.lemmas.Bool.{true≢false}
use Rattle.std.specs.declared.cmp.Ordering.{Ordering}
use Rattle.std.specs.declared.cmp.Ordering.TheVariants.{Less, Equal, Greater}
use Rattle.std.specs.Ordering.{MatchOrdering, is_eq}
use Rattle.bittle_bits.specs.PlainSet.{PlainSet, ascending, ascending_from}
use Rattle.bittle_bits.proofs.AscendingLists.{ascending-yes, ascending-no, ascending_from-none}
use Rattle.bittle_bits.proofs.FirstItems.{NonePasses, IsLeastPassing, ascending_from-least}
use Rattle.bittle_bits.proofs.FirstItems.{least_or_none, ascending_from-past}
use Rattle.bittle.specs.Comparison.{list_cmp, AreSame, Precedes}

abbrev SameIn : (ℕ → Bool) → (ℕ → Bool) → ℕ → ℕ → Type 0
SameIn A B from to = (i : ℕ) → from ≤ i → i < to → A i ≡ B i

-- `Precedes`, restricted to the numbers of a range
abbrev BeforeIn : (ℕ → Bool) → (ℕ → Bool) → ℕ → ℕ → Type 0
BeforeIn A B from to =
    (d : ℕ) × (from ≤ d) × (d < to) × SameIn A B from d
    × (((A d ≡ true) × (B d ≡ false) × ((m : ℕ) × (d < m) × (B m ≡ true)))
    ⊎ ((A d ≡ false) × (B d ≡ true) × NonePasses A (suc d) to))

abbrev Verdict : (ℕ → Bool) → (ℕ → Bool) → ℕ → ℕ → Ordering → Type 0
Verdict A B from to o = MatchOrdering o (BeforeIn A B from to) (SameIn A B from to)
    (BeforeIn B A from to)

match_map : {P Q R P' Q' R' : Type 0} (o : Ordering) → (P → P') → (Q → Q') → (R → R') →
    MatchOrdering o P Q R → MatchOrdering o P' Q' R'
match_map Less f g h x = f x
match_map Equal f g h x = g x
match_map Greater f g h x = h x

same_head : (x : ℕ) (xs ys : List ℕ) → list_cmp (x ∷ xs) (x ∷ ys) ≡ list_cmp xs ys
same_head x xs ys = rw (le-ltb x x (omega arith), eq-eqb x x refl) refl

less_head : (x y : ℕ) (xs ys : List ℕ) → x < y → list_cmp (x ∷ xs) (y ∷ ys) ≡ Less
less_head x y xs ys h = rw (lt-ltb x y h) refl

more_head : (x y : ℕ) (xs ys : List ℕ) → y < x → list_cmp (x ∷ xs) (y ∷ ys) ≡ Greater
more_head x y xs ys h = rw (le-ltb x y (omega arith), ne_eqb x y (λ e. omega arith)) refl

module _ (A B : ℕ → Bool) where
  same_more : (from to : ℕ) → A from ≡ B from → SameIn A B (suc from) to → SameIn A B from to
  same_more from to e h i p q = at (cases_eq from i)
    where
      at : (from ≡ i) ⊎ (from ≡ i → ⊥) → A i ≡ B i
      at (inl r) = ap A (sym r) ∙ e ∙ ap B r
      at (inr r) = h i (omega arith) q

  before_more : (from to : ℕ) → A from ≡ B from → BeforeIn A B (suc from) to → BeforeIn A B from to
  before_more from to e h = (h.0, omega (arith, h.1), h.2, same_more from h.0 e h.3, h.4)

verdict_more : (A B : ℕ → Bool) (from to : ℕ) (o : Ordering) → A from ≡ B from →
    Verdict A B (suc from) to o → Verdict A B from to o
verdict_more A B from to o e = match_map o (before_more A B from to e) (same_more A B from to e)
    (before_more B A from to (sym e))

-- if only A has the first number, the order depends on whether B has a later member
one_ahead : (A B : ℕ → Bool) (from n : ℕ) → A from ≡ true → B from ≡ false →
    NonePasses B (suc from) (suc from + n)
    ⊎ ((v : ℕ) × IsLeastPassing B (suc from) (suc from + n) v) →
    let ours = ascending_from A from (suc n) in
    let theirs = ascending_from B from (suc n) in
    Verdict A B from (from + suc n) (list_cmp ours theirs)
    × Verdict B A from (from + suc n) (list_cmp theirs ours)
one_ahead A B from n a b (inl none) =
    let ours = ascending-yes A from n a in
    let theirs = ascending-no B from n b ∙ ascending_from-none B (suc from) n none in
    let w : BeforeIn B A from (from + suc n) = (
      from,
      omega arith,
      omega arith,
      (λ i p q. absurd (omega arith)),
      inr (b, a, λ m p q. none m (omega arith) (omega arith)),
    ) in (rw (ours, theirs) w, rw (theirs, ours) w)
one_ahead A B from n a b (inr v) =
    let m = suc from + n - suc v.0 in
    let g : suc from + n ≡ suc v.0 + m = omega (arith, v.1.1) in
    let past : from < v.0 = omega (arith, v.1.0) in
    let ours = ascending-yes A from n a in
    let theirs = ascending-no B from n b
    ∙ ascending_from-least B (suc from) n v.0 m v.1.0 g v.1.2 v.1.3 in
    let xs = ascending_from A (suc from) n in
    let ys = ascending_from B (suc v.0) m in
    let w : BeforeIn A B from (from + suc n) = (
      from,
      omega arith,
      omega arith,
      (λ i p q. absurd (omega arith)),
      inl (a, b, (v.0, past, v.1.2)),
    ) in (
      rw (ours, theirs, less_head from v.0 xs ys past) w,
      rw (theirs, ours, more_head v.0 from ys xs past) w,
    )

decide : (A B : ℕ → Bool) (from n : ℕ) →
    Verdict A B from (from + n) (list_cmp (ascending_from A from n) (ascending_from B from n))
unfolding ascending_from
decide A B from zero = λ i p q. absurd (omega arith)
decide A B from (suc n) = by (decide A B (suc from) n) (cases_Bool (A from)) (cases_Bool (B from))
  where
    more : (e : suc from + n ≡ from + suc n) (o : Ordering) → A from ≡ B from →
        Verdict A B (suc from) (suc from + n) o → Verdict A B from (from + suc n) o
    more e o q h = verdict_more A B from (from + suc n) o q
        (subst (λ t. Verdict A B (suc from) t o) e h)

    by : Verdict A B (suc from) (suc from + n)
        (list_cmp (ascending_from A (suc from) n) (ascending_from B (suc from) n)) →
        (A from ≡ true) ⊎ (A from ≡ false) → (B from ≡ true) ⊎ (B from ≡ false) →
        Verdict A B from (from + suc n) (list_cmp (ascending_from A from (suc n))
        (ascending_from B from (suc n)))
    by h (inl a) (inl b) =
        let e : list_cmp (ascending_from A from (suc n)) (ascending_from B from (suc n))
        ≡ list_cmp (ascending_from A (suc from) n)
        (ascending_from B (suc from) n) = (λ i. list_cmp (ascending-yes A from n a i)
        (ascending-yes B from n b i)) ∙ same_head from (ascending_from A (suc from) n)
        (ascending_from B (suc from) n) in
        subst (Verdict A B from (from + suc n)) (sym e)
        (more (omega arith) (list_cmp (ascending_from A (suc from) n)
        (ascending_from B (suc from) n)) (a ∙ sym b) h)
    by h (inl a) (inr b) = (one_ahead A B from n a b (least_or_none B (suc from) n)).0
    by h (inr a) (inl b) = (one_ahead B A from n b a (least_or_none A (suc from) n)).1
    by h (inr a) (inr b) =
        let e : list_cmp (ascending_from A from (suc n)) (ascending_from B from (suc n))
        ≡ list_cmp (ascending_from A (suc from) n) (ascending_from B (suc from) n) = λ i.
        list_cmp (ascending-no A from n a i) (ascending-no B from n b i) in
        subst (Verdict A B from (from + suc n)) (sym e)
        (more (omega arith) (list_cmp (ascending_from A (suc from) n)
        (ascending_from B (suc from) n)) (a ∙ sym b) h)

-- no member lies past the capacity
abbrev pub EndsAtCapacity : PlainSet → Type 0
EndsAtCapacity s = (i : ℕ) → s.capacity ≤ i → s.has i ≡ false

same_whole : (A B : ℕ → Bool) (to : ℕ) → ((i : ℕ) → to ≤ i → A i ≡ B i) → SameIn A B 0 to →
    (i : ℕ) → A i ≡ B i
same_whole A B to past h i =
    elim (cases_lt i to) [ inl l ↦ h i (omega arith) l | inr g ↦ past i g ]

before_whole : (s t : PlainSet) (to : ℕ) → ((i : ℕ) → to ≤ i → s.has i ≡ false) →
    BeforeIn s.has t.has 0 to → Precedes s t
before_whole s t to past w = (w.0, (λ i p. w.3 i (omega arith) p), by w.4)
  where
    by : (((s.has w.0 ≡ true) × (t.has w.0 ≡ false) × ((m : ℕ) × (w.0 < m) × (t.has m ≡ true)))
        ⊎ ((s.has w.0 ≡ false) × (t.has w.0 ≡ true) × NonePasses s.has (suc w.0) to)) →
        (((s.has w.0 ≡ true) × (t.has w.0 ≡ false) × ((m : ℕ) × (w.0 < m) × (t.has m ≡ true)))
        ⊎ ((s.has w.0 ≡ false) × (t.has w.0 ≡ true) × ((m : ℕ) → w.0 < m → s.has m ≡ false)))
    by (inl x) = inl x
    by (inr x) = inr (
      x.0,
      x.1,
      λ m p. elim (cases_lt m to)
          [ inl l ↦ x.2 m (omega arith) l | inr g ↦ past m g ],
    )

-- the order of two increasing lists is the one that `Precedes` and `AreSame` decide
pub list_cmp-precedes : (s t : PlainSet) → EndsAtCapacity s → EndsAtCapacity t →
    MatchOrdering (list_cmp (ascending s) (ascending t)) (Precedes s t) (AreSame s t) (Precedes t s)
list_cmp-precedes s t ends_s ends_t =
    let to = s.capacity + t.capacity in
    let past_s : (i : ℕ) → to ≤ i → s.has i ≡ false = λ i p. ends_s i (omega arith) in
    let past_t : (i : ℕ) → to ≤ i → t.has i ≡ false = λ i p. ends_t i (omega arith) in
    let e : list_cmp (ascending_from s.has 0 to) (ascending_from t.has 0 to)
    ≡ list_cmp (ascending s) (ascending t) = λ i. list_cmp
    (ascending_from-past s.has 0 s.capacity to (omega arith) (λ k p. ends_s k (omega arith)) i)
    (ascending_from-past t.has 0 t.capacity to (omega arith) (λ k p. ends_t k (omega arith)) i)
    in
    let narrow : Verdict s.has t.has 0 to
    (list_cmp (ascending_from s.has 0 to) (ascending_from t.has 0 to)) = subst
    (λ n. Verdict s.has t.has 0 n (list_cmp (ascending_from s.has 0 to)
    (ascending_from t.has 0 to))) (omega arith) (decide s.has t.has 0 to) in
    subst (λ o. MatchOrdering o (Precedes s t) (AreSame s t) (Precedes t s)) e
    (match_map _ (before_whole s t to past_s)
    (same_whole s.has t.has to (λ i p. past_s i p ∙ sym (past_t i p)))
    (before_whole t s to past_t) narrow)

-- no set precedes a set with the same members
pub not_both : (s t : PlainSet) → Precedes s t → AreSame s t → ⊥
not_both s t w h =
    elim w.2 [
      | inl x ↦ true≢false (sym x.0 ∙ h w.0 ∙ x.1)
      | inr x ↦ true≢false (sym x.1 ∙ sym (h w.0) ∙ x.0)
    ]

-- the order is `Equal` exactly if the two sets are the same
pub equal_iff_same : (s t : PlainSet) (o : Ordering) →
    MatchOrdering o (Precedes s t) (AreSame s t) (Precedes t s) → IsTrue (is_eq o) ↔ AreSame s t
equal_iff_same s t Less h = (λ x. absurd (true≢false (sym x)), λ y. absurd (not_both s t h y))
equal_iff_same s t Equal h = (λ x. h, λ y. refl)
equal_iff_same s t Greater h = (
  λ x. absurd (true≢false (sym x)),
  λ y. absurd (not_both t s h (λ i. sym (y i))),
)
