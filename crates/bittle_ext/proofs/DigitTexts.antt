-- The digits of a set, one after another.
use Rattle.std.proofs.Common.{◌≡◌, ℕ, zero, suc, ◌+◌, ◌<◌, Bool, [], ◌++◌, refl, sym, ap, ◌∙◌}
use Rattle.std.proofs.Common.{arith}
use Rattle.std.proofs.lemmas.List.{append_assoc}
use Rattle.bittle_ext.specs.Texts.{digit, digits_below}

-- the digits below n + 1 are the digit of n and then the digits below n
pub digits_next : (p : ℕ → Bool) (n : ℕ) →
    digits_below p (suc n) ≡ digit (p n) ++ digits_below p n
unfolding digits_below
digits_next p n = refl

-- there are no digits below 0
pub digits_none : (p : ℕ → Bool) → digits_below p 0 ≡ []
unfolding digits_below
digits_none p = refl

-- two tests that agree below n have the same digits
pub digits_same : (p q : ℕ → Bool) (n : ℕ) → ((i : ℕ) → i < n → p i ≡ q i) →
    digits_below p n ≡ digits_below q n
digits_same p q zero same = digits_none p ∙ sym (digits_none q)
digits_same p q (suc n) same =
    digits_next p n ∙ ap (λ b. digit b ++ digits_below p n) (same n (omega arith))
    ∙ ap (λ xs. digit (q n) ++ xs) (digits_same p q n (λ i h. same i (omega (arith, h))))
    ∙ sym (digits_next q n)

-- the digits below from + n are those of the n numbers from `from` on, and then those below `from`
pub digits_from : (p : ℕ → Bool) (from n : ℕ) →
    digits_below p (from + n) ≡ digits_below (λ i. p (from + i)) n ++ digits_below p from
digits_from p from zero =
    let none : from + 0 ≡ from = omega arith in
    ap (digits_below p) none
    ∙ sym (ap (λ xs. xs ++ digits_below p from) (digits_none (λ i. p (from + i))))
digits_from p from (suc n) =
    let q : ℕ → Bool = λ i. p (from + i) in
    let next : from + suc n ≡ suc (from + n) = omega arith in
    ap (digits_below p) next ∙ digits_next p (from + n)
    ∙ ap (λ xs. digit (q n) ++ xs) (digits_from p from n)
    ∙ sym (append_assoc (digit (q n)) (digits_below q n) (digits_below p from))
    ∙ sym (ap (λ xs. xs ++ digits_below p from) (digits_next q n))
