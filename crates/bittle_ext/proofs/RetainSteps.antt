-- The state of `retain` between calls of its closure: the members asked so far, and those that it
-- keeps.
use Rattle.std.proofs.Common.{◌≡◌, ℕ, suc, ◌+◌, ◌-◌, ◌<◌, ◌≤◌, Bool, true, false, not, ◌&&◌, cond}
use Rattle.std.proofs.Common.{List, [], ◌∷◌, ◌++◌, append_assoc, append-nil, length, Some, refl}
use Rattle.std.proofs.Common.{sym, ap, ◌∙◌, subst, arith}
use Rattle.std.specs.List.{items_where_true}
use Rattle.std.specs.List.Retain.{IsFiltered}
use Rattle.std.proofs.lemmas.Bool.{ne_eqb, eq-eqb}
use Rattle.bittle.specs.PlainSet.{PlainSet, ascending, ascending_from, size, without_index}
use Rattle.bittle.specs.Searches.{IsFirstIn, NoneIn}
use Rattle.bittle.proofs.CallerSets.{without_index_within}
use Rattle.bittle_bits.proofs.AscendingLists.{ascending-length, ascending_from-zero}
use Rattle.bittle_bits.proofs.AscendingLists.{ascending_from-add, ascending_from-same}
use Rattle.bittle_bits.proofs.AscendingLists.{ascending_from-none, ascending-yes, ascending-no}
use Rattle.bittle_bits.proofs.FirstItems.{ascending_from-least}
use Rattle.bittle_ext.specs.Changes.{Retains}
use Rattle.bittle_ext.proofs.PassingMembers.{kept_by_test}

one_item : (p : ℕ → Bool) (i : ℕ) (b : Bool) → p i ≡ b →
    ascending_from p i 1 ≡ cond b (i ∷ []) []
one_item p i true t = ascending-yes p i 0 t ∙ ap (λ xs. i ∷ xs) (ascending_from-zero p (suc i))
one_item p i false f = ascending-no p i 0 f ∙ ascending_from-zero p (suc i)

in_front : (b : Bool) (i : ℕ) (ys : List ℕ) → cond b (i ∷ []) [] ++ ys ≡ cond b (i ∷ ys) ys
in_front true i ys = refl
in_front false i ys = refl

-- p and q agree below i, and p has no number of from..i: the list of q up to i is that of p below
-- `from`, and then i if q has it
grown : (p q : ℕ → Bool) (from i : ℕ) (b : Bool) → from ≤ i → ((k : ℕ) → k < i → q k ≡ p k) →
    ((k : ℕ) → from ≤ k → k < i → p k ≡ false) → q i ≡ b →
    ascending_from q 0 (i + 1) ≡ ascending_from p 0 from ++ cond b (i ∷ []) []
grown p q from i b low same none here =
    let before = ascending_from-same q p 0 i (λ k lo hi. same k (omega arith))
    ∙ ascending_from-add p 0 from (i - from) i from (omega arith) (omega arith)
    ∙ ap (λ xs. ascending_from p 0 from ++ xs)
    (ascending_from-none p from (i - from) (λ k lo hi. none k lo (omega arith)))
    ∙ append-nil (ascending_from p 0 from) in
    ascending_from-add q 0 i 1 (i + 1) i (omega arith) (omega arith)
    ∙ ap (λ xs. xs ++ ascending_from q i 1) before
    ∙ ap (λ xs. ascending_from p 0 from ++ xs) (one_item q i b here)

-- R is a call of the closure
module _ {F : Type 0} (R : F → ℕ → Bool → F → Type 0) where
  filtered_none : (keep : F) → IsFiltered R keep [] []
  filtered_none keep = ([], keep, refl, refl, refl)

  filtered_more : (keep next : F) (i : ℕ) (b : Bool) (xs ys : List ℕ) → R keep i b next →
      IsFiltered R next xs ys → IsFiltered R keep (i ∷ xs) (cond b (i ∷ ys) ys)
  filtered_more keep next i b xs ys called rest = (
    b ∷ rest.0,
    rest.1,
    ap suc rest.2,
    (next, called, rest.3),
    kept b,
  )
    where
      kept : (b : Bool) → cond b (i ∷ ys) ys ≡ items_where_true (b ∷ rest.0) (i ∷ xs)
      kept true = ap (λ zs. i ∷ zs) rest.4
      kept false = rest.4

  -- at most all elements are kept
  picked_length : (bs : List Bool) (xs : List ℕ) → length (items_where_true bs xs) ≤ length xs
  picked_length [] xs = omega arith
  picked_length (b ∷ bs) [] = omega arith
  picked_length (true ∷ bs) (x ∷ xs) = omega (arith, picked_length bs xs)
  picked_length (false ∷ bs) (x ∷ xs) = omega (arith, picked_length bs xs)

  pub at_most_all : (keep : F) (old now : PlainSet) →
      IsFiltered R keep (ascending old) (ascending now) → size now ≤ size old
  at_most_all keep old now filtered = omega (
    arith,
    ascending-length old,
    ascending-length now,
    ap length filtered.4,
    picked_length filtered.0 (ascending old),
  )

  -- the closure was `first`, and is `keep` after its calls with the members of `old` below `from`;
  -- `now` has those of them that it kept, and the later members of `old`
  pub record RetainsBelow (first : F) (old : PlainSet) (keep : F) (now : PlainSet)
      (from : ℕ) : Type 0 where
    pub capacity : now.capacity ≡ old.capacity
    pub within : from ≤ old.capacity
    pub same_on : (k : ℕ) → from ≤ k → now.has k ≡ old.has k
    pub calls : (ys : List ℕ) →
        IsFiltered R keep (ascending_from old.has from (old.capacity - from)) ys →
        IsFiltered R first (ascending old) (ascending_from now.has 0 from ++ ys)

  pub retains_none : (first : F) (old : PlainSet) → RetainsBelow first old first old 0
  retains_none first old = record {
    capacity = refl;
    within = omega arith;
    same_on = λ k h. refl;
    calls = λ ys h.
        let whole : old.capacity - 0 ≡ old.capacity = omega arith in
        rw (ascending_from-zero old.has 0)
        (subst (λ n. IsFiltered R first (ascending_from old.has 0 n) ys) whole h);
  }

  module _ (first : F) (old : PlainSet) (keep : F) (now : PlainSet) (from : ℕ)
      (so_far : RetainsBelow first old keep now from) where
    -- a call at the next member keeps it in the set just if it answers true
    asked : (i : ℕ) (b : Bool) (next : F) (after : PlainSet) →
        IsFirstIn now from now.capacity (Some i) → R keep i b next →
        after.capacity ≡ now.capacity → ((k : ℕ) → (k ≡ i → ⊥) → after.has k ≡ now.has k) →
        after.has i ≡ b → RetainsBelow first old next after (i + 1)
    asked i b next after found called one others here =
        let c = old.capacity in
        let inside : i < c = omega (arith, found.1, so_far.capacity) in
        let is : old.has i ≡ true = sym (so_far.same_on i found.0) ∙ found.2 in
        let next_item = ascending_from-least old.has from (c - from) i (c - suc i) found.0
        (omega (arith, inside, found.0)) is
        (λ k lo hi. sym (so_far.same_on k lo) ∙ found.3 k lo hi) in
        let grows = grown now.has after.has from i b found.0
        (λ k h. others k (λ e. absurd (omega arith))) found.3 here in
        record {
          capacity = one ∙ so_far.capacity;
          within = omega (arith, inside);
          same_on = λ k h. others k (λ e. absurd (omega arith))
              ∙ so_far.same_on k (omega (arith, found.0));
          calls = λ ys h.
              let all = so_far.calls (cond b (i ∷ ys) ys)
              (subst (λ xs. IsFiltered R keep xs (cond b (i ∷ ys) ys)) (sym next_item)
              (filtered_more keep next i b (ascending_from old.has (suc i) (c - suc i)) ys called
              (subst (λ n. IsFiltered R next (ascending_from old.has n (c - n)) ys)
              (omega arith) h))) in
              subst (λ xs. IsFiltered R first (ascending old) xs)
              (sym (ap (λ xs. xs ++ ys) grows
              ∙ append_assoc (ascending_from now.has 0 from) (cond b (i ∷ []) []) ys
              ∙ ap (λ xs. ascending_from now.has 0 from ++ xs) (in_front b i ys))) all;
        }

    -- if it returns true for the next member, that member stays
    pub retains_kept : (i : ℕ) (next : F) → IsFirstIn now from now.capacity (Some i) →
        R keep i true next → RetainsBelow first old next now (i + 1)
    retains_kept i next found called =
        asked i true next now found called refl (λ k h. refl) found.2

    -- if it returns false for the next member, that member is removed
    pub retains_others : (i : ℕ) (next : F) (after : PlainSet) →
        IsFirstIn now from now.capacity (Some i) → R keep i false next →
        after ≡ without_index now i → RetainsBelow first old next after (i + 1)
    retains_others i next after found called is =
        let less = is ∙ without_index_within now i found.1 in
        asked i false next after found called (ap (λ s. s.capacity) less)
        (λ k h. ap (λ (s : PlainSet). s.has k) less ∙ ap (λ b. not b && now.has k) (ne_eqb k i h))
        (ap (λ (s : PlainSet). s.has i) less ∙ ap (λ b. not b && now.has i) (eq-eqb i i refl))

    -- numbers that are no members need no call
    pub retains_on : (to : ℕ) → from ≤ to → to ≤ old.capacity → NoneIn now from to →
        RetainsBelow first old keep now to
    retains_on to ordered inside none =
        let c = old.capacity in
        let passed = ascending_from-add old.has from (to - from) (c - to) (c - from) to
        (omega (arith, ordered, inside)) (omega (arith, ordered))
        ∙ ap (λ xs. xs ++ ascending_from old.has to (c - to)) (ascending_from-none old.has from
        (to - from) (λ k lo hi. sym (so_far.same_on k lo) ∙ none k lo (omega arith))) in
        let grows = ascending_from-add now.has 0 from (to - from) to from (omega (arith, ordered))
        (omega arith)
        ∙ ap (λ xs. ascending_from now.has 0 from ++ xs) (ascending_from-none now.has from
        (to - from) (λ k lo hi. none k lo (omega arith)))
        ∙ append-nil (ascending_from now.has 0 from) in
        record {
          capacity = so_far.capacity;
          within = inside;
          same_on = λ k h. so_far.same_on k (omega (arith, ordered, h));
          calls = λ ys h. subst (λ xs. IsFiltered R first (ascending old) (xs ++ ys)) (sym grows)
              (so_far.calls ys (subst (λ xs. IsFiltered R keep xs ys) (sym passed) h));
        }

    -- if no member is left, the closure was called for each member
    pub retains_all : ((k : ℕ) → old.capacity ≤ k → old.has k ≡ false) →
        ((k : ℕ) → now.capacity ≤ k → now.has k ≡ false) → NoneIn now from now.capacity →
        Retains R first old now
    retains_all past_old past_now none =
        let c = old.capacity in
        let end = retains_on c so_far.within (omega arith)
        (λ k lo hi. none k lo (omega (arith, so_far.capacity, hi))) in
        let left : c - c ≡ 0 = omega arith in
        let rest = ap (ascending_from old.has c) left ∙ ascending_from-zero old.has c in
        let listed = append-nil (ascending_from now.has 0 c)
        ∙ ap (ascending_from now.has 0) (sym so_far.capacity) in
        let asked = subst (λ xs. IsFiltered R first (ascending old) xs) listed
        (end.calls [] (subst (λ xs. IsFiltered R keep xs []) (sym rest) (filtered_none keep))) in
        record {
          capacity = so_far.capacity;
          asked = asked;
          by_test = kept_by_test R first old now past_old past_now so_far.capacity asked;
        }
