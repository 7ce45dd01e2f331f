-- The first run of n members, found word by word.
use Rattle.std.proofs.Common.{◌≡◌, ℕ, ◌+◌, ◌-◌, ◌*◌, ◌/◌, ◌%◌, ◌<◌, ◌≤◌, Bool, true, false, not}
use Rattle.std.proofs.Common.{◌&&◌, nat_lt, Option, Some, None, inl, inr, refl, sym, ap, ◌∙◌, arith}
use Rattle.std.proofs.Common.{bit_and}
use Rattle.std.proofs.Math.Bool.{and_comm}
use Rattle.std.proofs.Math.Nat.{lt_of_mul-lt-mul_right, mul-le-mul_right}
use Rattle.std.proofs.lemmas.Bool.{cases_lt, lt-ltb, le-ltb, and_parts, and_right, true≢false}
use Rattle.std.proofs.lemmas.Bool.{not-false, not-true}
use Rattle.std.proofs.lemmas.Nat.{div-add-mod', mod_below}
use Rattle.bittle.specs.BitPatterns.{bit_has, bit_set}
use Rattle.bittle.specs.Orders.{place, read_in}
use Rattle.bittle.specs.PlainSet.{PlainSet, complement, full_set_from, is_in_span, IsGreatestMember}
use Rattle.bittle.specs.PlainSet.{IsLeastMember}
use Rattle.bittle.specs.Searches.{NoneIn}
use Rattle.bittle.specs.Walk.{ones_or_zeros}
use Rattle.bittle.specs.Words.{word_of}
use Rattle.bittle.proofs.CallerSets.{complement_within}
use Rattle.bittle_bits.proofs.BitSets.{bit_has-and}
use Rattle.bittle_bits.proofs.OnesOrZeros.{ones_or_zeros-members}
use Rattle.bittle_bits.proofs.Spans.{is_in_span-outside, is_in_span-inside}
use Rattle.bittle_bits.proofs.Words.{digit_at}
use Rattle.bittle_ext.specs.RangeMembers.{HasAllIn, members_within}
use Rattle.bittle_ext.specs.Rotations.{IsWindow}
use Rattle.bittle_ext.specs.Runs.{IsRun, NoRunBegins, IsFirstRun}

-- ---- runs of a set

-- a run and one that begins in it or right after it are one run
joined_runs : (s : PlainSet) (n more i : ℕ) → more ≤ n → IsRun s n i → IsRun s n (i + more) →
    IsRun s (n + more) i
joined_runs s n more i few first next = (
  omega (arith, next.0),
  λ k lo hi. elim (cases_lt k (i + n)) [
    | inl l ↦ first.1 k lo l
    | inr g ↦ next.1 k (omega (arith, few)) (omega arith)
  ],
)

-- each part of a run is one
part_of_run : (s : PlainSet) (n m i j : ℕ) → i ≤ j → j + m ≤ i + n → IsRun s n i → IsRun s m j
part_of_run s n m i j lo hi run =
    (omega (arith, run.0), λ k p q. run.1 k (omega arith) (omega arith))

-- of the members from a number on
module _ (s : PlainSet) (from n : ℕ) where
  abbrev since : PlainSet
  since = members_within s from s.capacity

  run_since : (i : ℕ) → from ≤ i → IsRun s n i → IsRun since n i
  run_since i lo run = (
    run.0,
    λ k p q. ap (λ b. b && s.has k)
        (is_in_span-inside from s.capacity k (omega arith) (omega (arith, run.0))) ∙ run.1 k p q,
  )

  begins_since : (i : ℕ) → 0 < n → IsRun since n i → from ≤ i
  begins_since i some run = elim (cases_lt i from) [
    | inl l ↦ absurd (true≢false (sym (run.1 i (omega arith) (omega arith))
        ∙ ap (λ b. b && s.has i) (is_in_span-outside from s.capacity i (inl l))))
    | inr g ↦ g
  ]

  -- the first run from `from` on is the first run of the set of the members from `from` on
  pub first_since : (r : Option ℕ) → 0 < n → IsFirstRun since 0 n r → IsFirstRun s from n r
  first_since None some none = λ k lo run. none k (omega arith) (run_since k lo run)
  first_since (Some i) some first = (
    begins_since i some first.1,
    (first.1.0, λ k lo hi. (and_parts _ (s.has k) (first.1.1 k lo hi)).1),
    λ k lo hi run. first.2 k (omega arith) hi (run_since k lo run),
  )

-- ---- runs of a word

-- the runs of n members of s begin at the members of t
pub record Begin (s : PlainSet) (n : ℕ) (t : PlainSet) : Type 0 where
  pub wide : t.capacity ≡ s.capacity
  pub all : (i : ℕ) → i < s.capacity → t.has i ≡ true → IsRun s n i
  pub only : (i : ℕ) → IsRun s n i → t.has i ≡ true

-- a run of one member begins at each member
pub one_begins : (s : PlainSet) → Begin s 1 s
one_begins s = record {
  wide = omega arith;
  all = λ i l is. (omega arith, λ k lo hi. let e : k ≡ i = omega arith in ap s.has e ∙ is);
  only = λ i run. run.1 i (omega arith) (omega arith);
}

-- a run of n + more members begins where a run of n begins, if another one begins `more` further on
pub more_begin : (w n more : ℕ) (s t zeros moved both : PlainSet) → s.capacity ≡ w →
    both.capacity ≡ w → 0 < more → more ≤ n → Begin s n t → IsWindow w more t zeros moved →
    ((i : ℕ) → zeros.has i ≡ false) → ((i : ℕ) → both.has i ≡ (t.has i && moved.has i)) →
    Begin s (n + more) both
more_begin w n more s t zeros moved both wide keeps some few p is none and = record {
  wide = omega (arith, wide, keeps);
  all = λ i l here.
      let parts = and_parts (t.has i) (moved.has i) (sym (and i) ∙ here) in
      elim (cases_lt (i + more) w) [
        | inl b ↦ joined_runs s n more i few (p.all i l parts.0)
            (p.all (i + more) (omega (arith, wide)) (sym (is.first i b) ∙ parts.1))
        | inr g ↦ absurd (true≢false (sym parts.1 ∙ is.second i (omega (arith, wide)) g
            ∙ none (i + more - w)))
      ];
  only = λ i run.
      and i ∙ ap (λ b. b && moved.has i) (p.only i (part_of_run s (n + more) n i i (omega arith)
      (omega arith) run)) ∙ is.first i (omega (arith, wide, run.0, some, few))
      ∙ p.only (i + more) (part_of_run s (n + more) n i (i + more) (omega arith) (omega arith) run);
}

-- the state of the steps: t has the numbers where runs of `known` members begin
pub record HasBegun (w n known : ℕ) (s t : PlainSet) : Type 0 where
  pub within : n ≤ w
  pub some : 0 < known
  pub most : known ≤ n
  pub begin : Begin s known t

-- the first run begins at the least member of the set of starts
pub first_begins : (s t : PlainSet) (n r : ℕ) → Begin s n t → IsLeastMember t r →
    r < t.capacity → IsFirstRun s 0 n (Some r)
first_begins s t n r p least low = (
  omega arith,
  p.all r (omega (arith, p.wide)) (least.is_member low),
  λ k lo hi run. true≢false (sym (p.only k run) ∙ least.none_below k hi),
)

-- if no run of fewer members begins, no run of more members does
pub none_begins : (s t : PlainSet) (n known r : ℕ) → Begin s known t → known ≤ n → 0 < known →
    IsLeastMember t r → r ≡ t.capacity → IsFirstRun s 0 n None
none_begins s t n known r p few some least end k lo run = true≢false
    (sym (p.only k (part_of_run s n known k k (omega arith) (omega arith) run))
    ∙ least.none_below k (omega (arith, run.0, end, p.wide)))

-- ---- runs over words

-- no run of n members begins before `start`, and all numbers of start..at are members, but fewer
-- than n
pub record IsOpen (s : PlainSet) (n start at : ℕ) : Type 0 where
  pub ordered : start ≤ at
  pub short : at < start + n
  pub members : HasAllIn s start at
  pub none : NoRunBegins s n 0 start

-- word k of the `words` words of a set is read next
pub record IsReadTo (w words n k start : ℕ) (s word : PlainSet) : Type 0 where
  pub element : k < words
  pub whole : s.capacity ≡ words * w
  pub wide : word.capacity ≡ w
  pub before : IsOpen s n start (k * w)
  pub here : (i : ℕ) → i < w → word.has i ≡ s.has (k * w + i)

module _ (w words n k start lead : ℕ) (s word : PlainSet) (p : IsReadTo w words n k start s word)
    (least : IsLeastMember (complement word) lead) where
  -- the word lies below the capacity
  room : k * w + w ≤ s.capacity
  room = omega (arith, p.whole, mul-le-mul_right w p.element)

  -- its first members
  leading : (i : ℕ) → i < lead → s.has (k * w + i) ≡ true
  leading i l =
      let low : i < word.capacity = omega (arith, least.within) in
      sym (p.here i (omega (arith, p.wide)))
      ∙ not-false (word.has i) (sym (complement_within word i low) ∙ least.none_below i l)

  -- and the number after them, which is none
  gap : lead < w → s.has (k * w + lead) ≡ false
  gap l =
      let low : lead < word.capacity = omega (arith, p.wide) in
      sym (p.here lead l)
      ∙ not-true (word.has lead) (sym (complement_within word lead low) ∙ least.is_member low)

  -- if the open run and the word's first members are n numbers or more, the first run begins at
  -- `start`
  pub open_found : n ≤ k * w + lead - start → IsFirstRun s 0 n (Some start)
  open_found long = (
    omega arith,
    (
      omega (arith, long, room, least.within, p.wide, p.before.ordered),
      λ j lo hi. elim (cases_lt j (k * w)) [
        | inl l ↦ p.before.members j lo l
        | inr g ↦
            let e : k * w + (j - k * w) ≡ j = omega arith in
            ap s.has (sym e) ∙ leading (j - k * w) (omega (arith, long, p.before.ordered))
      ],
    ),
    p.before.none,
  )

  -- it is not: then none before the word reaches past its first number that is no member
  module _ (short : k * w + lead - start < n) where
    none_before : lead < w → NoRunBegins s n 0 (k * w)
    none_before l j lo hi run = elim (cases_lt j start) [
      | inl b ↦ p.before.none j lo b run
      | inr g ↦ true≢false (sym (run.1 (k * w + lead) (omega arith) (omega (arith, short))) ∙ gap l)
    ]

    run_in_word : (j : ℕ) → k * w ≤ j → j + n ≤ k * w + w → IsRun s n j → IsRun word n (j - k * w)
    run_in_word j lo hi run = (
      omega (arith, p.wide),
      λ i b e. p.here i (omega arith) ∙ run.1 (k * w + i) (omega arith) (omega arith),
    )

    -- the first run within the word is the first run, if the open run is not long enough
    pub run_in_word_found : (i : ℕ) → IsFirstRun word 0 n (Some i) →
        IsFirstRun s 0 n (Some (k * w + i))
    run_in_word_found i found =
        let inside : i + n ≤ w = omega (arith, found.1.0, p.wide) in (
          omega arith,
          (
            omega (arith, room),
            λ j lo hi.
                let e : k * w + (j - k * w) ≡ j = omega arith in
                ap s.has (sym e) ∙ sym (p.here (j - k * w) (omega arith))
                ∙ found.1.1 (j - k * w) (omega arith) (omega arith),
          ),
          λ j lo hi run. elim (cases_lt j (k * w)) [
            | inl l ↦ none_before (omega (arith, short, p.before.ordered)) j lo l run
            | inr g ↦ found.2 (j - k * w) (omega arith) (omega arith)
                (run_in_word j g (omega arith) run)
          ],
        )

    -- if n is at least the width, no run lies within the word
    pub none_in_word : w ≤ n → IsFirstRun word 0 n None
    none_in_word all i lo run = elim (cases_lt lead w) [
      | inl l ↦ true≢false (sym (run.1 lead (omega (arith, run.0, p.wide, all))
          (omega (arith, run.0, p.wide, all))) ∙ p.here lead l ∙ gap l)
      | inr g ↦ omega (arith, run.0, p.wide, all, short, g, p.before.ordered)
    ]

    -- if each number of the word is a member, the open run goes on past the word
    pub open_stays : lead ≡ w → IsOpen s n start (k * w + w)
    open_stays all = record {
      ordered = omega (arith, p.before.ordered);
      short = omega (arith, short, p.before.ordered);
      members = λ j lo hi. elim (cases_lt j (k * w)) [
        | inl l ↦ p.before.members j lo l
        | inr g ↦
            let e : k * w + (j - k * w) ≡ j = omega arith in
            ap s.has (sym e) ∙ leading (j - k * w) (omega arith)
      ];
      none = p.before.none;
    }

    -- past another word without a run it begins with the last members
    module _ (tail : ℕ) (some : lead < w) (greatest : IsGreatestMember (complement word) tail)
        (none : IsFirstRun word 0 n None) where
      trailing : (i : ℕ) → w - tail ≤ i → i < w → word.has i ≡ true
      trailing i lo hi =
          let up : w - 1 - (w - 1 - i) ≡ i = omega arith in
          let e : word.capacity - 1 - (w - 1 - i) ≡ i = omega (arith, p.wide, up) in
          let low : i < word.capacity = omega (arith, p.wide) in
          not-false (word.has i) (sym (complement_within word i low)
          ∙ ap (complement word).has (sym e) ∙ greatest.none_above (w - 1 - i) (omega arith))

      partly : tail < w
      partly = elim (cases_lt tail w) [
        | inl l ↦ l
        | inr g ↦ absurd (true≢false (sym (trailing lead (omega arith) some) ∙ p.here lead some
            ∙ gap some))
      ]

      last_gap : word.has (w - 1 - tail) ≡ false
      last_gap =
          let e : word.capacity - 1 - tail ≡ w - 1 - tail = omega (arith, p.wide) in
          let low : w - 1 - tail < word.capacity = omega (arith, p.wide, partly) in
          not-true (word.has (w - 1 - tail)) (sym (complement_within word (w - 1 - tail) low)
          ∙ ap (complement word).has (sym e) ∙ greatest.is_member (omega (arith, partly, p.wide)))

      pub open_anew : IsOpen s n (k * w + w - tail) (k * w + w)
      open_anew = record {
        ordered = omega arith;
        short = elim (cases_lt tail n) [
          | inl l ↦ omega (arith, partly)
          | inr g ↦ absurd (none (w - tail) (omega arith) (
            omega (arith, partly, p.wide),
            λ i lo hi. trailing i lo (omega (arith, partly)),
          ))
        ];
        members = λ j lo hi.
            let e : k * w + (j - k * w) ≡ j = omega (arith, partly) in
            ap s.has (sym e) ∙ sym (p.here (j - k * w) (omega (arith, partly)))
            ∙ trailing (j - k * w) (omega arith) (omega (arith, partly));
        none = λ j lo hi run. elim (cases_lt j (k * w)) [
          | inl l ↦ none_before some j lo l run
          | inr g ↦ elim (cases_lt (k * w + w) (j + n)) [
            | inl past ↦
                let gone : s.has (k * w + (w - 1 - tail)) ≡ false =
                sym (p.here (w - 1 - tail) (omega (arith, some))) ∙ last_gap in
                true≢false (sym (run.1 (k * w + (w - 1 - tail)) (omega (arith, partly))
                (omega (arith, partly))) ∙ gone)
            | inr in_word ↦ none (j - k * w) (omega arith) (run_in_word j g in_word run)
          ]
        ];
      }

-- no run is open after numbers that are no members
pub open_after_none : (s : PlainSet) (n start at to : ℕ) → IsOpen s n start at → NoneIn s at to →
    at < to → IsOpen s n to to
open_after_none s n start at to p none far = record {
  ordered = omega arith;
  short = omega (arith, p.ordered, p.short);
  members = λ j lo hi. absurd (omega arith);
  none = λ j lo hi run. elim (cases_lt j start) [
    | inl l ↦ p.none j lo l run
    | inr g ↦ elim (cases_lt j at) [
      | inl b ↦ true≢false (sym (run.1 at (omega arith) (omega (arith, p.short)))
          ∙ none at (omega arith) far)
      | inr a ↦ true≢false (sym (run.1 j (omega arith) (omega (arith, p.ordered, p.short)))
          ∙ none j a hi)
    ]
  ];
}

-- if there are no more members, no run of n members begins
pub open_ended : (s : PlainSet) (n start at : ℕ) → IsOpen s n start at →
    NoneIn s at s.capacity → IsFirstRun s 0 n None
open_ended s n start at p none j lo run = elim (cases_lt at s.capacity) [
  | inl l ↦ (open_after_none s n start at s.capacity p none l).none j lo
      (omega (arith, run.0, p.ordered, p.short)) run
  | inr g ↦ p.none j lo (omega (arith, run.0, p.short)) run
]

-- ---- words of the members from a number on

-- word k of the bits of a kind, read in an order, has the bits of that kind of the set in that
-- order
pub kind_at : (ones m : Bool) (w k d : ℕ) (s : PlainSet) → 0 < w →
    (words : ℕ) × (s.capacity ≡ words * w) → bit_set w d ≡ word_of w (ones_or_zeros ones s) k →
    (i : ℕ) → i < w →
    (read_in m w (bit_set w d)).has i ≡ (ones_or_zeros ones (read_in m w s)).has (k * w + i)
kind_at ones m w k d s word whole is i h = digit_at m w k (ones_or_zeros ones s) d word is i h
    ∙ sym (ap (λ t. t.has (k * w + i)) (ones_or_zeros-members ones m w s word whole))

-- word k of the set's members from `from` on is read next
pub record IsReading (w words from n k start : ℕ) (s word : PlainSet) : Type 0 where
  pub begun : from < k * w + w
  pub read : IsReadTo w words n k start (members_within s from s.capacity) word

-- the search begins with the word of `from`, without the bits before `from`
pub reading_begins : (m : Bool) (w words from n d e : ℕ) (s : PlainSet) → 0 < w → 0 < n →
    s.capacity ≡ words * w → from < s.capacity →
    ((i : ℕ) → i < w → (read_in m w (bit_set w d)).has i ≡ s.has (from / w * w + i)) →
    read_in m w (bit_set w e) ≡ full_set_from w (from % w) →
    IsReading w words from n (from / w) (from / w * w) s (read_in m w (bit_set w (bit_and d e)))
reading_begins m w words from n d e s word some whole low first mask =
    let k = from / w in
    let parts : k * w + from % w ≡ from = div-add-mod' from w in
    let rest : from % w < w = mod_below from w word in
    let in_words : k * w < words * w = omega (arith, parts, low, whole) in
    let element : k < words = lt_of_mul-lt-mul_right w in_words in
    let room : k * w + w ≤ words * w = omega (arith, mul-le-mul_right w element) in
    record {
      begun = omega (arith, parts, rest);
      read = record {
        element = element;
        whole = whole;
        wide = refl;
        before = record {
          ordered = omega arith;
          short = omega arith;
          members = λ j lo hi. absurd (omega arith);
          none = λ j lo hi run. true≢false (sym (run.1 j (omega arith) (omega arith))
              ∙ ap (λ b. b && s.has j)
              (is_in_span-outside from s.capacity j (inl (omega (arith, parts)))));
        };
        here = λ i h.
            let x = k * w + i in
            let same : (nat_lt i w && not (nat_lt i (from % w))) ≡ is_in_span from s.capacity x =
            elim (cases_lt i (from % w)) [
              | inl l ↦ ap (λ b. nat_lt i w && not b) (lt-ltb i (from % w) l)
                  ∙ and_right (nat_lt i w) false refl
                  ∙ sym (is_in_span-outside from s.capacity x (inl (omega (arith, parts))))
              | inr g ↦ ap (λ b. b && not (nat_lt i (from % w))) (lt-ltb i w h)
                  ∙ ap not (le-ltb i (from % w) g)
                  ∙ sym (is_in_span-inside from s.capacity x (omega (arith, parts))
                  (omega (arith, room, whole)))
            ] in
            ap (λ f. f (place m w i)) (bit_has-and w d e)
            ∙ ap (λ b. b && bit_has w e (place m w i)) (first i h)
            ∙ and_comm (s.has x) (bit_has w e (place m w i))
            ∙ ap (λ u. u.has i && s.has x) mask ∙ ap (λ b. b && s.has x) same;
      };
    }

module _ (w words from n k start : ℕ) (s word : PlainSet)
    (p : IsReading w words from n k start s word) where
  -- after word k, a later word is read
  pub reading_on : (next later : ℕ) (v : PlainSet) → k < next → next < words → v.capacity ≡ w →
      IsOpen (members_within s from s.capacity) n later (next * w) →
      ((i : ℕ) → i < w → v.has i ≡ s.has (next * w + i)) →
      IsReading w words from n next later s v
  reading_on next later v on element wide before here =
      let ahead : k * w + w ≤ next * w = omega (arith, mul-le-mul_right w on) in
      let room : next * w + w ≤ words * w = omega (arith, mul-le-mul_right w element) in
      record {
        begun = omega (arith, p.begun, ahead);
        read = record {
          element = element;
          whole = p.read.whole;
          wide = wide;
          before = before;
          here = λ i h. here i h ∙ sym (ap (λ b. b && s.has (next * w + i))
              (is_in_span-inside from s.capacity (next * w + i) (omega (arith, p.begun, ahead))
              (omega (arith, room, p.read.whole))));
        };
      }

  -- numbers that are no members of the set are not among its members from `from` on either
  pub none_since : (a b : ℕ) → NoneIn s a b → NoneIn (members_within s from s.capacity) a b
  none_since a b none j lo hi = and_right (is_in_span from s.capacity j) (s.has j) (none j lo hi)
