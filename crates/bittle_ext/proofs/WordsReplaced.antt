-- A set whose words are replaced one after another.
use Rattle.std.proofs.Common.{◌≡◌, ℕ, ◌+◌, ◌*◌, ◌/◌, ◌%◌, ◌<◌, ◌≤◌, Bool, true, false, cond, nat_lt}
use Rattle.std.proofs.Common.{nat_le, inl, inr, sym, ap, ◌∙◌, arith}
use Rattle.std.proofs.Math.Path.{fun_ext}
use Rattle.std.proofs.Math.Nat.{mul-le-mul_right}
use Rattle.std.proofs.lemmas.Nat.{div-add-mod', div_below, mod_below}
use Rattle.std.proofs.lemmas.Bool.{cases_eq, cases_lt, lt-ltb, le-ltb, lt-leb, le-leb}
use Rattle.bittle.specs.BitPatterns.{bit_set}
use Rattle.bittle.specs.Orders.{read_in}
use Rattle.bittle.specs.PlainSet.{PlainSet}
use Rattle.bittle.specs.Words.{ReplacesWord}
use Rattle.bittle_bits.proofs.PlainSets.{plain_set, members-past}
use Rattle.bittle_bits.proofs.Words.{digit_at, same_word}

-- the set in which g decides the numbers that pass the test `done`, and all others are as in s
abbrev pub replaced_where : (ℕ → Bool) → (ℕ → Bool) → PlainSet → PlainSet
replaced_where done g s =
    record { capacity = s.capacity; has = λ i. cond (done i) (g i) (s.has i) }

-- a number of word k is the start of the word plus its place in the word
pub place_in : (w k i : ℕ) → i / w ≡ k → k * w + i % w ≡ i
place_in w k i e = ap (λ n. n * w + i % w) (sym e) ∙ div-add-mod' i w

-- t is a set of whole words of which word k is replaced
module _ (m : Bool) (w k r : ℕ) (s t : PlainSet) (word : 0 < w)
    (whole : (words : ℕ) × (s.capacity ≡ words * w))
    (past : (i : ℕ) → s.capacity ≤ i → s.has i ≡ false)
    (also : (i : ℕ) → t.capacity ≤ i → t.has i ≡ false)
    (is : ReplacesWord w s k (bit_set w r) t) where
  -- word k of t is the new word
  pub in_word : (i : ℕ) → i / w ≡ k →
      (read_in m w t).has i ≡ (read_in m w (bit_set w r)).has (i % w)
  in_word i e = ap (read_in m w t).has (sym (place_in w k i e))
      ∙ sym (digit_at m w k t r word (sym is.replaced) (i % w) (mod_below i w word))

  -- all other words of t are those of s
  pub in_others : (i : ℕ) → (i / w ≡ k → ⊥) → (read_in m w t).has i ≡ (read_in m w s).has i
  in_others i n =
      elim (cases_lt i s.capacity) [
        | inl l ↦
            let at = div-add-mod' i w in
            ap (read_in m w t).has (sym at) ∙ same_word m w (i / w) t s word
            (is.others (i / w) n (omega (arith, at, l))) (i % w) (mod_below i w word)
            ∙ ap (read_in m w s).has at
        | inr g ↦
            members-past m w t word (whole.0, is.capacity ∙ whole.1) also i
            (omega (arith, is.capacity, g)) ∙ sym (members-past m w s word whole past i g)
      ]

-- the numbers that pass `more` are those of word k, and those that pass `done`
pub record AddsWord (w k : ℕ) (done more : ℕ → Bool) : Type 0 where
  pub here : (o : ℕ) → o < w → more (k * w + o) ≡ true
  pub others : (i : ℕ) → (i / w ≡ k → ⊥) → more i ≡ done i

-- once g decides word k too, the set is the one in which g decides the numbers that pass `more`
pub more_replaced : (m : Bool) (w k r : ℕ) (done more g : ℕ → Bool) (s now after : PlainSet) →
    0 < w → (words : ℕ) × (now.capacity ≡ words * w) →
    ((i : ℕ) → now.capacity ≤ i → now.has i ≡ false) →
    ((i : ℕ) → after.capacity ≤ i → after.has i ≡ false) →
    AddsWord w k done more → ReplacesWord w now k (bit_set w r) after →
    ((o : ℕ) → o < w → (read_in m w (bit_set w r)).has o ≡ g (k * w + o)) →
    read_in m w now ≡ replaced_where done g s → read_in m w after ≡ replaced_where more g s
more_replaced m w k r done more g s now after word whole past also adds is here before =
    let each : (i : ℕ) → (read_in m w after).has i ≡ cond (more i) (g i) (s.has i) = λ i.
    elim (cases_eq (i / w) k) [
      | inl e ↦
          let at = place_in w k i e in
          let low = mod_below i w word in
          in_word m w k r now after word whole past also is i e ∙ here (i % w) low ∙ ap g at
          ∙ sym (ap (λ b. cond b (g i) (s.has i)) (ap more (sym at) ∙ adds.here (i % w) low))
      | inr n ↦ in_others m w k r now after word whole past also is i n
          ∙ ap (λ u. u.has i) before ∙ sym (ap (λ b. cond b (g i) (s.has i)) (adds.others i n))
    ] in
    λ j. plain_set ((is.capacity ∙ ap (λ u. u.capacity) before) j) (λ i. each i j)

-- a number below the end of word k that is not in word k lies before that word
pub word_at_most : (w k i : ℕ) → 0 < w → i < (k + 1) * w → (i / w ≡ k → ⊥) → i < k * w
word_at_most w k i word h n =
    let most = div_below i w (k + 1) word h in
    let up : (i / w + 1) * w ≤ k * w = mul-le-mul_right w (omega (arith, most, n)) in
    omega (arith, up, div-add-mod' i w, mod_below i w word)

-- the numbers below the end of word k are those of the word and those before it
pub adds_upward : (w k : ℕ) → 0 < w →
    AddsWord w k (λ i. nat_lt i (k * w)) (λ i. nat_lt i ((k + 1) * w))
adds_upward w k word = record {
  here = λ o h. lt-ltb (k * w + o) ((k + 1) * w) (omega arith);
  others = λ i n. elim (cases_lt i ((k + 1) * w)) [
    | inl h ↦ lt-ltb i ((k + 1) * w) h ∙ sym (lt-ltb i (k * w) (word_at_most w k i word h n))
    | inr h ↦ le-ltb i ((k + 1) * w) h ∙ sym (le-ltb i (k * w) (omega (arith, h)))
  ];
}

-- the numbers from the start of word k on are those of the word and those past it
pub adds_downward : (w k : ℕ) → 0 < w →
    AddsWord w k (λ i. nat_le ((k + 1) * w) i) (λ i. nat_le (k * w) i)
adds_downward w k word = record {
  here = λ o h. le-leb (k * w) (k * w + o) (omega arith);
  others = λ i n. elim (cases_lt i ((k + 1) * w)) [
    | inl h ↦ lt-leb (k * w) i (word_at_most w k i word h n) ∙ sym (lt-leb ((k + 1) * w) i h)
    | inr h ↦ le-leb (k * w) i (omega (arith, h)) ∙ sym (le-leb ((k + 1) * w) i h)
  ];
}

-- numbers below n that g decides
module _ (n : ℕ) (g : ℕ → Bool) (s : PlainSet) where
  -- if g decides these as s has them, the set is as it was
  pub start_alike : ((i : ℕ) → i < n → s.has i ≡ g i) → s ≡ replaced_where (λ i. nat_lt i n) g s
  start_alike same = ap (plain_set s.capacity) (fun_ext λ i. elim (cases_lt i n) [
    | inl l ↦ same i l ∙ sym (ap (λ b. cond b (g i) (s.has i)) (lt-ltb i n l))
    | inr h ↦ sym (ap (λ b. cond b (g i) (s.has i)) (le-ltb i n h))
  ])

  -- if s has the other numbers as g decides them, it is the set of those that pass g
  pub rest_alike : ((i : ℕ) → n ≤ i → s.has i ≡ g i) →
      replaced_where (λ i. nat_lt i n) g s ≡ plain_set s.capacity g
  rest_alike same = ap (plain_set s.capacity) (fun_ext λ i. elim (cases_lt i n) [
    | inl l ↦ ap (λ b. cond b (g i) (s.has i)) (lt-ltb i n l)
    | inr h ↦ ap (λ b. cond b (g i) (s.has i)) (le-ltb i n h) ∙ same i h
  ])

-- a test of numbers, and a set, of which nothing from the capacity on passes or is a member
module _ (done g : ℕ → Bool) (s : PlainSet) (past : (i : ℕ) → s.capacity ≤ i → s.has i ≡ false)
    (ends : (i : ℕ) → s.capacity ≤ i → g i ≡ false) where
  -- a number past the capacity is none, decided or not
  outside : (b : Bool) (i : ℕ) → s.capacity ≤ i → cond b (g i) (s.has i) ≡ false
  outside true i h = ends i h
  outside false i h = past i h

  -- if no number below the capacity is decided, the set is as it was
  pub none_replaced : ((i : ℕ) → i < s.capacity → done i ≡ false) → s ≡ replaced_where done g s
  none_replaced none = ap (plain_set s.capacity) (fun_ext λ i. elim (cases_lt i s.capacity) [
    | inl l ↦ sym (ap (λ b. cond b (g i) (s.has i)) (none i l))
    | inr h ↦ past i h ∙ sym (outside (done i) i h)
  ])

  -- if all numbers below the capacity are decided, it is the set of those that pass g
  pub all_replaced : ((i : ℕ) → i < s.capacity → done i ≡ true) →
      replaced_where done g s ≡ plain_set s.capacity g
  all_replaced all = ap (plain_set s.capacity) (fun_ext λ i. elim (cases_lt i s.capacity) [
    | inl l ↦ ap (λ b. cond b (g i) (s.has i)) (all i l)
    | inr h ↦ outside (done i) i h ∙ sym (ends i h)
  ])
