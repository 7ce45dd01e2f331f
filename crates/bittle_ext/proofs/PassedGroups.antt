-- Words that a view of two sets skips because the sets say which groups of words have no set bit.
use Rattle.std.proofs.Common.{◌≡◌, ℕ, zero, suc, ◌+◌, ◌-◌, ◌*◌, ◌/◌, ◌%◌, ◌<◌, ◌≤◌, ◌⊎◌, Bool, true}
use Rattle.std.proofs.Common.{false, ◌&&◌, ◌||◌, cond, bit_and, bit_or, subst, inl, inr, Some, None}
use Rattle.std.proofs.Common.{refl, sym, ap, ◌∙◌, arith}
use Rattle.std.proofs.Math.Nat.{mul-le-mul_right}
use Rattle.std.proofs.lemmas.Bool.{cases_lt, and_right, true≢false}
use Rattle.std.proofs.lemmas.Nat.{div-add-mod', mod_below}
use Rattle.bittle.specs.BitPatterns.{bit_has, bit_set}
use Rattle.bittle.specs.Orders.{read_in}
use Rattle.bittle.specs.PlainSet.{PlainSet}
use Rattle.bittle.specs.Searches.{NoneIn, TellsGroups}
use Rattle.bittle.specs.Walk.{ones_or_zeros}
use Rattle.bittle_bits.specs.Ends.{IsEndIn}
use Rattle.bittle_bits.proofs.BitSets.{bit_has-and, bit_has-or}
use Rattle.bittle_bits.proofs.OnesOrZeros.{none_in_order}
use Rattle.bittle_ext.specs.Combined.{both_of}
use Rattle.bittle_ext.specs.Groups.{MovesOver}
use Rattle.bittle_ext.specs.ViewLaws.{whole_words_of}
use Rattle.bittle_ext.specs.Views.{read_back}
use Rattle.bittle_ext.proofs.ViewFacts.{read_back_is}

one_false : (a b : Bool) → a && b ≡ false → (a ≡ false) ⊎ (b ≡ false)
one_false false b none = inl refl
one_false true b none = inr none

both_false : (a b : Bool) → a || b ≡ false → (a ≡ false) × (b ≡ false)
both_false false b none = (refl, none)
both_false true b none = absurd (true≢false none)

-- ---- what is told of two sets

module _ (each w n : ℕ) where
  -- bits told of the groups of a set hold for a set that has no other members
  pub tells_fewer : (word : ℕ) (s t : PlainSet) → ((k : ℕ) → s.has k ≡ false → t.has k ≡ false) →
      TellsGroups each w s n word → TellsGroups each w t n word
  tells_fewer word s t fewer tells = λ i within unset k lo hi.
      fewer k (tells i within unset k lo hi)

  -- bits told of the groups of a set hold for the set in each order
  pub tells_in_order : (m : Bool) (word : ℕ) (s : PlainSet) → 0 < w →
      (words : ℕ) × (s.capacity ≡ words * w) → TellsGroups each w s n word →
      TellsGroups each w (read_in m w s) n word
  tells_in_order m word s positive whole tells = λ i within unset.
      none_in_order true m w ((64 * n + i) * each) ((64 * n + i + 1) * each) s positive whole
      (tells i within unset)

  -- bits told of the groups of a set hold for the set that is read back
  pub tells_read_back : (ones m : Bool) (word : ℕ) (d : PlainSet) → 0 < w → d.capacity % w ≡ 0 →
      ones ≡ true → TellsGroups each w d n word →
      TellsGroups each w (ones_or_zeros ones (read_back m w d)) n word
  tells_read_back ones m word d positive whole is tells =
      subst (λ (t : PlainSet). TellsGroups each w (ones_or_zeros ones t) n word)
      (sym (read_back_is m w d))
      (rw is (tells_in_order m word d positive (whole_words_of w d.capacity whole) tells))

  -- the bits told of two sets, combined by `and`, hold for the set of their common members
  pub tells_both : (a b r : ℕ) (s t : PlainSet) → TellsGroups each w s n a →
      TellsGroups each w t n b → r ≡ bit_and a b → TellsGroups each w (both_of s t) n r
  tells_both a b r s t ours theirs is = λ i within unset.
      let none = sym (ap (λ (p : ℕ → Bool). p i) (bit_has-and 64 a b))
      ∙ sym (ap (λ d. bit_has 64 d i) is) ∙ unset in
      elim (one_false (bit_has 64 a i) (bit_has 64 b i) none) [
        | inl e ↦ λ k lo hi. ap (λ x. x && t.has k) (ours i within e k lo hi)
        | inr e ↦ λ k lo hi. ap (λ x. s.has k && x) (theirs i within e k lo hi)
            ∙ and_right (s.has k) false refl
      ]

  -- the bits told of two sets, combined by `or`, hold for a set that has only members of either
  pub tells_either : (a b r : ℕ) (s t d : PlainSet) →
      ((k : ℕ) → s.has k ≡ false → t.has k ≡ false → d.has k ≡ false) →
      TellsGroups each w s n a → TellsGroups each w t n b → r ≡ bit_or a b →
      TellsGroups each w d n r
  tells_either a b r s t d neither ours theirs is = λ i within unset k lo hi.
      let none = sym (ap (λ (p : ℕ → Bool). p i) (bit_has-or 64 a b))
      ∙ sym (ap (λ d. bit_has 64 d i) is) ∙ unset in
      let parts = both_false (bit_has 64 a i) (bit_has 64 b i) none in
      neither k (ours i within parts.0 k lo hi) (theirs i within parts.1 k lo hi)

-- if the result of an operation lies in both sets, a number that is not in both is not in the
-- result
pub keeps_to_both : (f : Bool → Bool → Bool) → ((b : Bool) → f false b ≡ false) →
    ((a : Bool) → f a false ≡ false) → (a b : Bool) → a && b ≡ false → f a b ≡ false
keeps_to_both f first second false b none = first b
keeps_to_both f first second true b none = ap (f true) none ∙ second true

-- a capacity below `u32::MAX` has fewer than 2 ^ 32 words
pub few_words : (w high c : ℕ) → 0 < w → high * w ≤ c → c < 4294967295 → high < 4294967296
few_words w high c word within fits =
    let up : 1 * high ≤ w * high = mul-le-mul_right high word in omega (arith, up, within, fits)

-- ---- the groups of one word of 64 bits

-- groups whose bits are unset have no member
none_told : (each w n word from d : ℕ) (s : PlainSet) → TellsGroups each w s n word →
    NoneIn (bit_set 64 word) from (from + d) → from + d ≤ 64 →
    NoneIn s ((64 * n + from) * each * w) ((64 * n + (from + d)) * each * w)
none_told each w n word from zero s tells none within = λ k lo hi.
    let e : from + 0 ≡ from = omega arith in absurd (omega (arith, lo, rw e at hi))
none_told each w n word from (suc d) s tells none within = λ k lo hi.
    elim (cases_lt k ((64 * n + (from + d)) * each * w)) [
      | inl l ↦ none_told each w n word from d s tells
          (λ i p q. none i p (omega (arith, q))) (omega (arith, within)) k lo l
      | inr g ↦
          let e : 64 * n + (from + suc d) ≡ 64 * n + (from + d) + 1 = omega arith in
          tells (from + d) (omega (arith, within)) (none (from + d) (omega arith) (omega arith))
          k g (rw e at hi)
    ]

-- so, by the numbers of the groups
none_between : (each w n word from to a b : ℕ) (s : PlainSet) → TellsGroups each w s n word →
    NoneIn (bit_set 64 word) from to → from ≤ to → to ≤ 64 → 64 * n + from ≡ a →
    64 * n + to ≡ b → NoneIn s (a * each * w) (b * each * w)
none_between each w n word from to a b s tells none order within first last =
    let d = to - from in
    let e : from + d ≡ to = omega (arith, order) in
    rw (sym first, sym last, sym e)
    (none_told each w n word from d s tells (rw e none) (omega (arith, e, within)))

-- the end moves to the first group from that end whose bit is set
pub moves_to : (front : Bool) (each w at number word place r : ℕ) (s : PlainSet) →
    0 < at + cond front 1 0 → number ≡ at - cond front 0 1 →
    TellsGroups each w s (number / 64) word →
    IsEndIn front (bit_set 64 word) (cond front (number % 64) 0) (cond front 64 (number % 64 + 1))
    (Some place) → r ≡ number / 64 * 64 + place + cond front 0 1 →
    MovesOver front each w s at r
moves_to true each w at number word place r s some is tells found to =
    let split = div-add-mod' number 64 in (
      omega (arith, is, split, to, found.0),
      none_between each w (number / 64) word (number % 64) place at r s tells found.3 found.0
          (omega (arith, found.1)) (omega (arith, split, is)) (omega (arith, to)),
    )
moves_to false each w at number word place r s some is tells found to =
    let split = div-add-mod' number 64 in
    let low = mod_below number 64 (omega arith) in (
      omega (arith, is, some, split, to, found.1),
      none_between each w (number / 64) word (place + 1) (number % 64 + 1) r at s tells found.3
          (omega (arith, found.1)) (omega (arith, low)) (omega (arith, to))
          (omega (arith, split, is, some)),
    )

-- the end moves to the next multiple of 64 groups if no bit is set
pub moves_past : (front : Bool) (each w at number word r : ℕ) (s : PlainSet) →
    0 < at + cond front 1 0 → number ≡ at - cond front 0 1 →
    TellsGroups each w s (number / 64) word →
    IsEndIn front (bit_set 64 word) (cond front (number % 64) 0) (cond front 64 (number % 64 + 1))
    None → r ≡ number / 64 * 64 + cond front 64 0 →
    MovesOver front each w s at r
moves_past true each w at number word r s some is tells none to =
    let split = div-add-mod' number 64 in
    let low = mod_below number 64 (omega arith) in (
      omega (arith, is, split, low, to),
      none_between each w (number / 64) word (number % 64) 64 at r s tells none
          (omega (arith, low)) (omega arith) (omega (arith, split, is)) (omega (arith, to)),
    )
moves_past false each w at number word r s some is tells none to =
    let split = div-add-mod' number 64 in
    let low = mod_below number 64 (omega arith) in (
      omega (arith, is, some, split, to),
      none_between each w (number / 64) word 0 (number % 64 + 1) r at s tells none
          (omega arith) (omega (arith, low)) (omega (arith, to)) (omega (arith, split, is, some)),
    )
