-- Facts on joins of slices that callers cite.
use Rattle.std.proofs.Common.{◌≡◌, ℕ, suc, ◌+◌, ◌-◌, ◌<◌, ◌≤◌, List, [], ◌∷◌, ◌++◌, length, drop}
use Rattle.std.proofs.Common.{map, get_or, Option, Some, None, Bor, inl, inr, refl, sym, ap, ◌∙◌}
use Rattle.std.proofs.Common.{subst, arith}
use Rattle.std.specs.Prelude.{slice_get, slice_index}
use Rattle.std.specs.Iterator.{Yields}
use Rattle.std.specs.Option.{option_map, MatchOption}
use Rattle.std.proofs.Math.Seq.{drop-cons}
use Rattle.std.proofs.lemmas.Bool.{cases_lt}
use Rattle.std.proofs.lemmas.Grind.{same_number_lists}
use Rattle.std.proofs.lemmas.List.{drop_all, length-append, length-map, get_or-map}
use Rattle.std.proofs.lemmas.List.{get_or_append_left}
use Rattle.std.proofs.lemmas.Option.{slice_get-map, slice_get-get_or, slice_get_within}
use Rattle.std.proofs.lemmas.Option.{get_or_from_slice_get}
use Rattle.bittle_bits.specs.Join.{IsJoin, EndsAt, Join, join_steps, AnswersItemsAtMembers}
use Rattle.bittle_bits.specs.Join.{EndsAfterMembers}
use Rattle.bittle_bits.specs.PlainSet.{PlainSet, ascending}
use Rattle.bittle_bits.proofs.AscendingLists.{ascending-few}
use Rattle.bittle.proofs.CallerLists.{ascending_below}

-- a join of a slice yields the elements at the members of the mask
module _ {S : Type 0} (rest : S → List ℕ) where
  -- a call of a slice's iterator takes its first element, or returns `None` if none is left
  abbrev pub TakesElement : S → Option (Bor ℕ) → S → Type 0
  TakesElement s r t = MatchOption r ((length (rest s) ≡ 0) × (t ≡ s))
      (λ x. rest s ≡ x.now ∷ rest t)

  -- the items that a slice's iterator yielded are the first elements of the slice
  given_first : (s t : S) (items : List (Bor ℕ)) → Yields TakesElement s items t →
      rest s ≡ map (λ x. x.now) items ++ rest t
  given_first s t [] y = ap rest y
  given_first s t (x ∷ items) y = y.1 ∙ ap (λ r. x.now ∷ r) (given_first y.0 t items y.2)

  -- the item that a join yields for a member of the mask is the element at that index
  item_at : (s t : S) (ms : List ℕ) (items answers : List (Bor ℕ)) → Yields TakesElement s items t →
      IsJoin 0 ms items answers → (k : ℕ) → k < length answers →
      get_or (map (λ x. x.now) answers) k 0 ≡ get_or (rest s) (get_or ms k 0) 0
  item_at s t ms items answers y j k h =
      let now = λ (x : Bor ℕ). x.now in
      let n = get_or ms k 0 in
      let zero_from : n - 0 ≡ n = omega arith in
      let a : slice_get (map now answers) k ≡ Some (get_or (map now answers) k 0) = slice_get-get_or
      (map now answers) k 0 (omega (arith, length-map answers now)) in
      let b : slice_get (map now items) n ≡ Some (get_or (map now answers) k 0) =
      slice_get-map now items n ∙ ap (option_map now)
      (ap (slice_get items) (sym zero_from) ∙ sym (j.given k h))
      ∙ sym (slice_get-map now answers k) ∙ a in
      let c = slice_get_within (map now items) n (get_or (map now answers) k 0) b in
      sym (ap (λ xs. get_or xs n 0) (given_first s t items y) ∙ get_or_append_left (map now items)
      (rest t) 0 n c ∙ get_or_from_slice_get (map now items) n (get_or (map now answers) k 0) 0
      b)

  -- if each member is the index of an element, nothing ends the join before the last member
  ends_after_all : (s : Join S) (t : Join S) (items : List (Bor ℕ)) (m : ℕ) (ms : List ℕ) →
      s.taken ≡ 0 → m < length (rest s.iter) → EndsAt TakesElement s items (m ∷ ms) t → ⊥
  ends_after_all s t items m ms none h e =
      let y = e.1 in
      let all = items ++ e.0 in
      let g = ap length (given_first s.iter y.0 all y.1) in
      let l : length (map (λ (x : Bor ℕ). x.now) all ++ rest y.0)
      ≡ length all + length (rest y.0) = simp (length-append, length-map) in
      omega (arith, g, l, y.2.0, e.2, none, h)

  -- a join that is stepped to its end yields the elements at the members
  answers_at_members : (s t : Join S) (items answers : List (Bor ℕ)) → s.taken ≡ 0 →
      ((k : ℕ) → k < length s.mask.remaining → get_or s.mask.remaining k 0 < length (rest s.iter)) →
      IsJoin s.taken s.mask.remaining items answers →
      EndsAt TakesElement s items (drop (length answers) s.mask.remaining) t →
      map (λ x. x.now) answers ≡ map (λ n. slice_index (rest s.iter) n) s.mask.remaining
  answers_at_members s t items answers none bound j e =
      let ms = s.mask.remaining in
      let n = length answers in
      let ends = λ (d : List ℕ). EndsAt TakesElement s items d t in
      elim (cases_lt n (length ms)) [
        | inl l ↦ absurd (ends_after_all s t items (get_or ms n 0) (drop (suc n) ms) none
            (bound n l) (subst ends (drop-cons ms n 0 l) e))
        | inr g ↦
            let y : Yields TakesElement s.iter items t.iter = subst ends (drop_all n ms g) e in
            let from_zero = subst (λ f. IsJoin f ms items answers) none j in
            let long : length answers ≡ length ms = omega (arith, j.among) in
            let a = length-map answers (λ (x : Bor ℕ). x.now) in
            let b = length-map ms (λ (m : ℕ). slice_index (rest s.iter) m) in
            same_number_lists (map (λ x. x.now) answers) (map (λ m. slice_index (rest s.iter) m) ms)
            (a ∙ long ∙ sym b) (λ k h. item_at s.iter t.iter ms items answers y from_zero k
            (omega (arith, a)) ∙ sym
            (get_or-map (λ m. slice_index (rest s.iter) m) ms k 0 0 (omega (arith, a))))
      ]

  yields_more : {A J : Type 0} (steps : J → Option A → J → Type 0) (s t u : J) (xs : List A)
      (x : A) → Yields steps s xs t → steps t (Some x) u → Yields steps s (xs ++ x ∷ []) u
  yields_more steps s t u [] x y e = (u, subst (λ v. steps v (Some x) u) (sym y) e, refl)
  yields_more steps s t u (z ∷ xs) x y e = (y.0, y.1, yields_more steps y.0 t u xs x y.2 e)

  -- if a join yields one more item, it yielded fewer items before than its mask has members
  pub one_more : (s now next : Join S) (answers : List (Bor ℕ)) (x : Bor ℕ) →
      AnswersItemsAtMembers TakesElement s → Yields (join_steps TakesElement) s answers now →
      join_steps TakesElement now (Some x) next → length answers < length s.mask.remaining
  one_more s now next answers x clause y e =
      let a = clause (answers ++ x ∷ []) next
      (yields_more (join_steps TakesElement) s now next answers x y e) in
      omega (arith, a.2.among, length-append answers (x ∷ []))

  -- the items that a join yields until it returns `None` are the elements at the members
  pub all_answers_at_members : (s now next : Join S) (answers : List (Bor ℕ)) →
      EndsAfterMembers TakesElement s → s.taken ≡ 0 →
      ((k : ℕ) → k < length s.mask.remaining → get_or s.mask.remaining k 0 < length (rest s.iter)) →
      Yields (join_steps TakesElement) s answers now → join_steps TakesElement now None next →
      map (λ x. x.now) answers ≡ map (λ n. slice_index (rest s.iter) n) s.mask.remaining
  all_answers_at_members s now next answers clause none bound y e =
      let a = clause answers next (now, y, e) in
      answers_at_members s next a.0 answers none bound a.1 a.2

-- each member of a set is an index of a row that is at least as long as the capacity
pub members_are_places : (s : PlainSet) (members row : List ℕ) → members ≡ ascending s →
    s.capacity ≤ length row → (k : ℕ) → k < length members → get_or members k 0 < length row
members_are_places s members row is long k h = omega
    (arith, long, ascending_below s k (omega (arith, h, ap length is)), ap (λ xs. get_or xs k 0) is)

-- if a join yields one more item, it yielded fewer items before than the capacity of its mask
pub answers_below : {S : Type 0} (rest : S → List ℕ) (s now next : Join S) (answers : List (Bor ℕ))
    (x : Bor ℕ) (set : PlainSet) (count : ℕ) → s.mask.remaining ≡ ascending set →
    count ≡ length answers → AnswersItemsAtMembers (TakesElement rest) s →
    Yields (join_steps (TakesElement rest)) s answers now →
    join_steps (TakesElement rest) now (Some x) next → count < set.capacity
answers_below rest s now next answers x set count left long clause y e =
    omega (
      arith,
      one_more rest s now next answers x clause y e,
      ap length left,
      ascending-few set,
      long,
    )
