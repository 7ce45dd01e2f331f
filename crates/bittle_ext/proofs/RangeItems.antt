-- The members of a range of a set: their number, and the list of them.
use Rattle.std.proofs.Common.{◌≡◌, ◌⊎◌, ℕ, ◌+◌, ◌-◌, ◌<◌, ◌≤◌, Bool, true, false, ◌&&◌, List}
use Rattle.std.proofs.Common.{length, get_or, inl, inr, sym, ap, ◌∙◌, subst, arith}
use Rattle.std.proofs.lemmas.Bool.{cases_lt, true≢false}
use Rattle.bittle.specs.PlainSet.{PlainSet, ascending, complement, members_below, size}
use Rattle.bittle.specs.Walk.{ones_or_zeros}
use Rattle.bittle_bits.proofs.AscendingLists.{ascending-length}
use Rattle.bittle_bits.proofs.Counts.{count-add, count-never, count-same}
use Rattle.bittle_bits.proofs.MembersBelow.{below_between}
use Rattle.bittle_bits.proofs.Spans.{is_in_span-outside, is_in_span-inside}
use Rattle.bittle.proofs.CallerLists.{ascending_member}
use Rattle.bittle_ext.specs.RangeMembers.{members_within, kind_within, AreWithin, ListsWithin}

module _ (s : PlainSet) (from to : ℕ) where
  abbrev inner : PlainSet
  inner = members_within s from to

  -- no number outside the range is in the set of the members within it
  pub none_outside : (k : ℕ) → (k < from) ⊎ (to ≤ k) → inner.has k ≡ false
  none_outside k out = ap (λ b. b && s.has k) (is_in_span-outside from to k out)

  -- so each that is lies in it
  lies_within : (k : ℕ) → inner.has k ≡ true → (from ≤ k) × (k < to)
  lies_within k h = (
    elim (cases_lt k from) [
      | inl l ↦ absurd (true≢false (sym h ∙ none_outside k (inl l)))
      | inr g ↦ g
    ],
    elim (cases_lt k to) [
      | inl l ↦ l
      | inr g ↦ absurd (true≢false (sym h ∙ none_outside k (inr g)))
    ],
  )

  module _ (ordered : from ≤ to) (inside : to ≤ s.capacity) where
    -- the size of that set is the number of members below the end, minus the number below the start
    pub size_within : size inner ≡ members_below s to - members_below s from
    size_within =
        let n = to - from in
        let rest = s.capacity - to in
        let below : from + n ≡ to = omega arith in
        let whole : to + rest ≡ s.capacity = omega arith in
        let before = count-same from inner.has (λ _. false) (λ k l. none_outside k (inl l))
        ∙ count-never from in
        let among = count-same n (λ k. inner.has (from + k)) (λ k. s.has (from + k))
        (λ k l. ap (λ b. b && s.has (from + k))
        (is_in_span-inside from to (from + k) (omega arith) (omega (arith, below)))) in
        let after = count-same rest (λ k. inner.has (to + k)) (λ _. false)
        (λ k l. none_outside (to + k) (inr (omega arith))) ∙ count-never rest in
        omega (
          arith,
          before,
          among,
          after,
          rw whole at (count-add to rest inner.has),
          rw below at (count-add from n inner.has),
          rw below at (count-add from n s.has),
        )

    lists_within : (xs : List ℕ) → xs ≡ ascending inner → ListsWithin s from to xs
    lists_within xs is =
        let count = ap length is ∙ ascending-length inner ∙ size_within in
        record {
          items = is;
          count = count;
          between = subst (AreWithin from to) (sym is) (
            omega (arith, count, ap length is, (below_between s from to ordered).1),
            λ k h. lies_within (get_or (ascending inner) k 0) (ascending_member inner k h),
          );
        }

-- the increasing list of the bits of a kind in a range is as `ListsWithin` says
pub lists_kind : (ones : Bool) (s : PlainSet) (from to : ℕ) (xs : List ℕ) → from ≤ to →
    to ≤ s.capacity → xs ≡ ascending (kind_within ones s from to) →
    ListsWithin (ones_or_zeros ones s) from to xs
lists_kind true s from to xs ordered inside = lists_within s from to ordered inside xs
lists_kind false s from to xs ordered inside =
    lists_within (complement s) from to ordered inside xs
