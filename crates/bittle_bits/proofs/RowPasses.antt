-- Words of a row that are passed over, element by element.
use Rattle.std.proofs.Common.{◌≡◌, ℕ, ◌+◌, ◌-◌, ◌*◌, ◌<◌, ◌≤◌, Bool, true, false, not, cond, min}
use Rattle.std.proofs.Common.{max, inl, inr, List, length, get_or, sym, ap, ◌∙◌, arith}
use Rattle.std.proofs.Math.Nat.{mod-eq_of_lt, mul-le-mul_right, lt_of_mul-lt-mul_right}
use Rattle.std.proofs.Math.Nat.{mul-lt-mul_of_pos_right}
use Rattle.std.proofs.lemmas.Bool.{cases_lt, lt-ltb}
use Rattle.std.proofs.lemmas.Nat.{mul-add-lt}
use Rattle.bittle_bits.specs.PlainSet.{PlainSet, lacks}
use Rattle.bittle_bits.specs.Rows.{row_set, GoesTo}
use Rattle.bittle_bits.specs.Searches.{NoneIn, PassesOver}
use Rattle.bittle_bits.specs.Walk.{ones_or_zeros}
use Rattle.bittle_bits.proofs.RowSets.{elements_has_at, at_element-read}

-- it is allowed to pass over no word
pub passes_none : (front : Bool) (w : ℕ) (s : PlainSet) (low high : ℕ) → low ≤ high →
    PassesOver front w s low high (cond front low high)
passes_none true w s low high order = (omega arith, order, λ k lo hi. absurd (omega arith))
passes_none false w s low high order = (order, omega arith, λ k lo hi. absurd (omega arith))

-- ---- the part of some words that lies in the element at an end

-- the word at an end of low..high is one of these words
end_before : (front : Bool) (low high k : ℕ) → k ≡ cond front low (high - 1) → low < high →
    k < high
end_before true low high k is some = omega (arith, is, some)
end_before false low high k is some = omega (arith, is, some)

-- the word at an end of low..high begins below the capacity of the row
pub end_begins : (front : Bool) (low high k w n : ℕ) → 0 < w → k ≡ cond front low (high - 1) →
    low < high → high * w ≤ n → k * w < n
end_begins front low high k w n word is some within = omega (
  arith,
  within,
  mul-lt-mul_of_pos_right (end_before front low high k is some) word,
)

-- An element begins at word `start` and has `each` words. Its words from..to lie in low..high. Both
-- ranges begin at the same word or, from the back, end at the same word.
pub record IsPart (front : Bool) (low high each start from to : ℕ) : Type 0 where
  pub ordered : from ≤ to
  pub within : to ≤ each
  pub low_is : low ≤ start + from
  pub high_is : start + to ≤ high
  pub same_end : cond front (start + from) (start + to) ≡ cond front low high

-- the words from..to of the element that has the word at the end are such a part of low..high
pub part_at_end : (front : Bool) (low high k at each start from to : ℕ) →
    k ≡ cond front low (high - 1) → low < high → at < each → start + at ≡ k →
    from ≡ max low start - start → to ≡ min (high - start) each →
    IsPart front low high each start from to
part_at_end true low high k at each start from to is some inside begins from_is to_is = record {
  ordered = omega (arith, is, some, inside, begins, from_is, to_is);
  within = omega (arith, to_is);
  low_is = omega (arith, from_is);
  high_is = omega (arith, is, some, begins, to_is);
  same_end = omega (arith, is, begins, from_is);
}
part_at_end false low high k at each start from to is some inside begins from_is to_is = record {
  ordered = omega (arith, is, some, inside, begins, from_is, to_is);
  within = omega (arith, to_is);
  low_is = omega (arith, from_is);
  high_is = omega (arith, is, some, begins, to_is);
  same_end = omega (arith, is, some, inside, begins, to_is);
}

-- where the element of a word begins
pub element_begins : (n c w d k q at : ℕ) → 0 < w → c ≡ d * w → k * w < n * c →
    GoesTo n c (k * w) q (at * w) → (at < d) × (at ≤ k) × ((k - at) * w ≡ q * c)
element_begins n c w d k q at word whole within goes =
    let here : k * w ≡ q * c + at * w = sym (mod-eq_of_lt within) ∙ goes.at in
    let below : at * w < d * w = omega (arith, goes.within, whole) in
    let order : at ≤ k = elim (cases_lt k at)
    [ inl l ↦ absurd (omega (arith, here, mul-lt-mul_of_pos_right l word)) | inr g ↦ g ] in
    let back : (k - at) + at ≡ k = omega (arith, order) in
    let sum : ((k - at) + at) * w ≡ k * w = ap (λ t. t * w) back in (
      lt_of_mul-lt-mul_right w below,
      order,
      omega (arith, here, sum),
    )

-- ---- the words of one element

module _ {X : Type 0} (ones : Bool) (n c w q start : ℕ) (big : X → PlainSet) (xs : List X) (x : X)
    (own : (big x).capacity ≡ c) (element : q < n) (all : n ≡ length xs) (at : x ≡ get_or xs q x)
    (begins : start * w ≡ q * c) where
  abbrev row : PlainSet
  row = ones_or_zeros ones (row_set n c big xs)

  member_at : (i : ℕ) → i < c → (row_set n c big xs).has (q * c + i) ≡ (big x).has i
  member_at i low = elements_has_at n c (λ x. (big x).has) xs q i element low
      ∙ at_element-read (λ x. (big x).has i) xs q x (omega (arith, element, all)) at

  -- a number of the element is of the kind exactly if it is of the kind in the row
  kind_at : (ones : Bool) (i : ℕ) → i < c →
      (ones_or_zeros ones (row_set n c big xs)).has (q * c + i) ≡ (ones_or_zeros ones (big x)).has i
  unfolding lacks
  kind_at true i low = member_at i low
  kind_at false i low =
      let inside : i < (big x).capacity = omega (arith, low, own) in
      let within : q * c + i < n * c = omega (arith, mul-add-lt q c i n element low) in
      rw (lt-ltb (q * c + i) (n * c) within, lt-ltb i (big x).capacity inside)
      (ap not (member_at i low))

  -- if words of the element have no bit of the kind, they have none in the row
  none_in_row : (a b : ℕ) → b * w ≤ c → NoneIn (ones_or_zeros ones (big x)) (a * w) (b * w) →
      NoneIn row ((start + a) * w) ((start + b) * w)
  none_in_row a b within none = λ k lo hi.
      let low : (start + a) * w ≡ q * c + a * w = omega (arith, begins) in
      let high : (start + b) * w ≡ q * c + b * w = omega (arith, begins) in
      let back : q * c + (k - q * c) ≡ k = omega (arith, low, lo) in
      rw back at (kind_at ones (k - q * c) (omega (arith, high, hi, low, lo, within))
      ∙ none (k - q * c) (omega (arith, low, lo)) (omega (arith, low, lo, high, hi)))

  -- words that the element passes over are words that the row passes over
  pub passes_in_row : (front : Bool) (low high from to on : ℕ) → to * w ≤ c → low ≤ start + from →
      start + to ≤ high → cond front (start + from) (start + to) ≡ cond front low high →
      PassesOver front w (ones_or_zeros ones (big x)) from to on →
      PassesOver front w row low high (start + on)
  passes_in_row true low high from to on within lo hi same p = (
    omega (arith, lo, p.0),
    omega (arith, hi, p.1),
    rw same at (none_in_row from on (omega (arith, within, mul-le-mul_right w p.1)) p.2),
  )
  passes_in_row false low high from to on within lo hi same p = (
    omega (arith, lo, p.0),
    omega (arith, hi, p.1),
    rw same at (none_in_row on to within p.2),
  )
