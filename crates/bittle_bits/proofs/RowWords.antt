-- Word k of a row of elements, which lies in one element.
use Rattle.std.proofs.Common.{◌≡◌, ℕ, ◌+◌, ◌*◌, ◌/◌, ◌%◌, ◌<◌, ◌≢◌, ◌&&◌, nat_lt, inl, inr, List}
use Rattle.std.proofs.Common.{length, length-set, get_or, set, refl, sym, ap, ◌∙◌, arith}
use Rattle.std.proofs.Math.Path.{fun_ext}
use Rattle.std.proofs.Math.Nat.{mul-div_left, div-add-mod', mod-eq_of_lt, mul_assoc}
use Rattle.std.proofs.Math.Nat.{lt_of_mul-lt-mul_right, mul-lt-mul_of_pos_right}
use Rattle.std.proofs.lemmas.List.{get_or-set_same, get_or-set_other, get_or_default}
use Rattle.std.proofs.lemmas.Nat.{mod_below, div_below}
use Rattle.std.proofs.lemmas.Bool.{cases_eq, cases_lt, le-ltb}
use Rattle.bittle_bits.specs.BitPatterns.{bit_set}
use Rattle.bittle_bits.specs.PlainSet.{PlainSet}
use Rattle.bittle_bits.specs.Rows.{row_has, row_set, GoesTo}
use Rattle.bittle_bits.specs.Words.{word_has, word_of, ReplacesWord}
use Rattle.bittle_bits.proofs.PlainSets.{plain_set}
use Rattle.bittle_bits.proofs.RowSets.{elements_has_at, at_element-read}
use Rattle.bittle_bits.proofs.Words.{word_ends}

-- if a row has a word, each element has at least one
pub some_words : (n c w d k : ℕ) → c ≡ d * w → k * w < n * c → 0 < d
some_words n c w d k whole within = elim (cases_eq d 0) [
  | inl z ↦
      let none : c ≡ 0 * w = rw z at whole in
      absurd (omega (arith, ap (λ c. n * c) none, within))
  | inr p ↦ omega arith
]

-- if each element has d words, the first index of word k is index k % d * w of element k / d
pub word_goes : (n c w d k : ℕ) → 0 < w → c ≡ d * w → k * w < n * c →
    GoesTo n c (k * w) (k / d) (k % d * w)
word_goes n c w d k word whole within =
    let some = some_words n c w d k whole within in
    let all : k * w < n * d * w = omega
    (arith, within, ap (λ c. n * c) whole, mul_assoc n d w) in
    record {
      is_element = div_below k d n some (lt_of_mul-lt-mul_right w all);
      within = rw whole (mul-lt-mul_of_pos_right (mod_below k d some) word);
      at = mod-eq_of_lt within ∙ ap (λ t. t * w) (sym (div-add-mod' k d))
          ∙ omega (arith, ap (λ t. k / d * t) whole, mul_assoc (k / d) d w);
    }

-- an element of capacity d * w has d words
pub words_each : (bits wide c w d : ℕ) → 0 < w → bits ≡ c → wide ≡ w → c ≡ d * w →
    bits / wide ≡ d
words_each bits wide c w d word b v whole = rw (b, v, whole) (mul-div_left d word)

module _ {X : Type 0} (n c w k q r : ℕ) (big : X → PlainSet) (xs : List X) (word : 0 < w)
    (whole : (d : ℕ) × (c ≡ d * w)) (within : k * w < n * c)
    (goes : GoesTo n c (k * w) q (r * w)) where
  here : k * w ≡ q * c + r * w
  here = sym (mod-eq_of_lt within) ∙ goes.at

  -- word k of the row is the word of the element that it lies in
  pub row_word : (x : X) → n ≡ length xs → x ≡ get_or xs q x →
      word_of w (big x) r ≡ word_of w (row_set n c big xs) k
  unfolding word_has
  row_word x all at =
      ap (plain_set w) (fun_ext λ i. elim (cases_lt i w) [
        | inl l ↦
            let inside : r * w + i < c = omega (arith, word_ends w r c whole goes.within) in
            let place_is : k * w + i ≡ q * c + (r * w + i) = omega (arith, here) in
            ap (λ b. nat_lt i w && b) (sym
            (ap (row_has n c (λ x. (big x).has) xs) place_is
            ∙ elements_has_at n c (λ x. (big x).has) xs q (r * w + i) goes.is_element inside
            ∙ at_element-read (λ x. (big x).has (r * w + i)) xs q x
            (omega (arith, goes.is_element)) at))
        | inr g ↦ rw (le-ltb i w g) refl
      ])

-- if a word of an element is replaced, that word of the row is replaced
module _ {X : Type 0} (n c w k q r : ℕ) (big : X → PlainSet) (xs : List X) (x y : X) (word : 0 < w)
    (whole : (d : ℕ) × (c ≡ d * w)) (within : k * w < n * c)
    (goes : GoesTo n c (k * w) q (r * w)) (all : n ≡ length xs) (at : x ≡ get_or xs q x) where
  abbrev ys : List X
  ys = set xs q y

  now : n ≡ length ys
  now = all ∙ sym (length-set xs q y)

  element : q < length xs
  element = omega (arith, goes.is_element)

  same_word : (j : ℕ) → j * w ≡ k * w → j ≡ k
  same_word j e = sym (mul-div_left j word) ∙ ap (λ t. t / w) e ∙ mul-div_left k word

  -- another word of the same element
  beside : (e : ℕ) → ReplacesWord w (big x) r (bit_set w e) (big y) → (big x).capacity ≡ c →
      (j s : ℕ) → j ≢ k → j * w < n * c → GoesTo n c (j * w) q (s * w) →
      word_of w (row_set n c big ys) j ≡ word_of w (row_set n c big xs) j
  beside e is own j s other l there =
      let apart : s ≢ r = λ low. other (same_word j (here n c w j q s big xs word whole l there
      ∙ ap (λ t. q * c + t * w) low ∙ sym (here n c w k q r big xs word whole within goes))) in
      sym (row_word n c w j q s big ys word whole l there y now
      (sym (get_or-set_same xs q y y element)))
      ∙ is.others s apart (omega (arith, own, there.within))
      ∙ row_word n c w j q s big xs word whole l there x all at

  -- a word of another element
  elsewhere : (j p s : ℕ) → j * w < n * c → GoesTo n c (j * w) p (s * w) → p ≢ q →
      word_of w (row_set n c big ys) j ≡ word_of w (row_set n c big xs) j
  elsewhere j p s l there apart =
      let z = get_or xs p x in
      let same : z ≡ get_or xs p z = get_or_default xs p x z (omega (arith, there.is_element)) in
      sym (row_word n c w j p s big ys word whole l there z now
      (same ∙ sym (get_or-set_other xs q p y z apart)))
      ∙ row_word n c w j p s big xs word whole l there z all same

  pub row_word_replaced : (e : ℕ) → ReplacesWord w (big x) r (bit_set w e) (big y) →
      (big x).capacity ≡ c →
      ReplacesWord w (row_set n c big xs) k (bit_set w e) (row_set n c big ys)
  row_word_replaced e is own = record {
    capacity = refl;
    replaced = sym (row_word n c w k q r big ys word whole within goes y now
        (sym (get_or-set_same xs q y y element))) ∙ is.replaced;
    others = λ j other l.
        let there = word_goes n c w whole.0 j word whole.1 l in
        elim (cases_eq (j / whole.0) q) [
          | inl same ↦ beside e is own j (j % whole.0) other l (rw same at there)
          | inr apart ↦ elsewhere j (j / whole.0) (j % whole.0) l there apart
        ];
  }
