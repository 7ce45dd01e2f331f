-- A search or count in a range of a set has the same result in the part of the range below the
-- capacity.
use Rattle.std.proofs.Common.{◌≡◌, ◌⊎◌, ℕ, ◌-◌, ◌<◌, ◌≤◌, false, ◌&&◌, List, Option, Some, None}
use Rattle.std.proofs.Common.{inl, inr, refl, sym, ap, ◌∙◌, arith}
use Rattle.std.proofs.Math.Path.{fun_ext}
use Rattle.std.proofs.lemmas.Bool.{and_right, cases_lt}
use Rattle.bittle.specs.PlainSet.{PlainSet, ascending, is_in_span, members_below}
use Rattle.bittle.specs.Searches.{IsFirstIn, IsLastIn, NoneIn}
use Rattle.bittle_bits.proofs.MembersBelow.{below_between}
use Rattle.bittle_bits.proofs.PlainSets.{plain_set}
use Rattle.bittle_bits.proofs.Spans.{is_in_span-inside, is_in_span-outside}
use Rattle.bittle_ext.specs.RangeMembers.{EndsAt, IsPartBelow, ListsWithin, members_within}
use Rattle.bittle_ext.proofs.RankFacts.{below_past}

module _ {s : PlainSet} {n from to start end : ℕ} (x : EndsAt s n)
    (part : IsPartBelow n from to start end) where
  -- a number of the range lies in the part, or is no member
  in_part : (k : ℕ) → from ≤ k → k < to → ((start ≤ k) × (k < end)) ⊎ (s.has k ≡ false)
  in_part k low high =
      elim (cases_lt k n) [
        | inl l ↦ inl (
          omega (arith, part.start_is, low),
          omega (arith, part.end_is, high, l),
        )
        | inr g ↦ inr (x.past k (omega (arith, x.capacity, g)))
      ]

  pub none_of_part : NoneIn s start end → NoneIn s from to
  none_of_part none k low high =
      elim (in_part k low high) [
        | inl i ↦ none k i.0 i.1
        | inr f ↦ f
      ]

  pub first_of_part : (r : Option ℕ) → IsFirstIn s start end r → IsFirstIn s from to r
  first_of_part None none = none_of_part none
  first_of_part (Some i) first =
      let begin : start ≡ from = omega (arith, part.start_is, part.end_is, first.0, first.1) in (
        omega (arith, begin, first.0),
        omega (arith, part.end_is, first.1),
        first.2,
        λ k low high. first.3 k (omega (arith, begin, low)) high,
      )

  pub last_of_part : (r : Option ℕ) → IsLastIn s start end r → IsLastIn s from to r
  last_of_part None none = none_of_part none
  last_of_part (Some i) last =
      let begin : start ≡ from = omega (arith, part.start_is, part.end_is, last.0, last.1) in (
        omega (arith, begin, last.0),
        omega (arith, part.end_is, last.1),
        last.2,
        λ k low high. elim (in_part k (omega (arith, begin, last.0, low)) high) [
          | inl h ↦ last.3 k low h.1
          | inr f ↦ f
        ],
      )

  -- the part has as many members as the range
  pub count_of_part : members_below s end - members_below s start
      ≡ members_below s to - members_below s from
  count_of_part =
      let all = below_past s s.capacity to end x.past
      (omega (arith, part.end_is, x.capacity)) in
      elim (cases_lt end from) [
        | inl l ↦
            let begin : start ≡ end = omega (arith, part.start_is, l) in
            omega (
              arith,
              all,
              ap (members_below s) begin,
              (below_between s end from (omega (arith, l))).0,
            )
        | inr g ↦
            let begin : start ≡ from = omega (arith, part.start_is, g) in
            omega (arith, all, ap (members_below s) begin)
      ]

  within_at : (k : ℕ) → is_in_span start end k && s.has k ≡ is_in_span from to k && s.has k
  within_at k =
      elim (cases_lt k from) [
        | inl l ↦ elim (cases_lt k end) [
          | inl h ↦ elim (cases_lt k start) [
            | inl b ↦ ap (λ b. b && s.has k) (is_in_span-outside start end k (inl b)
                ∙ sym (is_in_span-outside from to k (inl l)))
            | inr b ↦ absurd (omega (arith, part.start_is, l, h, b))
          ]
          | inr h ↦ ap (λ b. b && s.has k) (is_in_span-outside start end k (inr h)
              ∙ sym (is_in_span-outside from to k (inl l)))
        ]
        | inr low ↦ elim (cases_lt k to) [
          | inl high ↦ elim (in_part k low high) [
            | inl i ↦ ap (λ b. b && s.has k) (is_in_span-inside start end k i.0 i.1
                ∙ sym (is_in_span-inside from to k low high))
            | inr f ↦ ap (λ b. is_in_span start end k && b) f
                ∙ and_right (is_in_span start end k) false refl
                ∙ sym (ap (λ b. is_in_span from to k && b) f
                ∙ and_right (is_in_span from to k) false refl)
          ]
          | inr high ↦ ap (λ b. b && s.has k)
              (is_in_span-outside start end k (inr (omega (arith, part.end_is, high)))
              ∙ sym (is_in_span-outside from to k (inr high)))
        ]
      ]

  -- the members within the part are those within the range
  pub within_part : members_within s start end ≡ members_within s from to
  within_part = ap (plain_set s.capacity) (fun_ext within_at)

  -- a list of the members within the part is a list of those within the range
  pub lists_of_part : (xs : List ℕ) → ListsWithin s start end xs → ListsWithin s from to xs
  lists_of_part xs list =
      let few = list.between.0 in
      record {
        items = list.items ∙ ap ascending within_part;
        count = list.count ∙ count_of_part;
        between = (
          omega (arith, few, part.start_is, part.end_is),
          λ k h. let at = list.between.1 k h in (
            omega (arith, at.0, at.1, part.start_is, part.end_is),
            omega (arith, at.1, part.end_is),
          ),
        );
      }
