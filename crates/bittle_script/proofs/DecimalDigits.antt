-- How the integer parser reads digits.
use Rattle.std.proofs.Common.{◌≡◌, ℕ, ◌<◌, Bool, true, false, List, [], ◌∷◌, length, refl, arith}
use Rattle.std.proofs.Common.{rules, Result, Ok, Err, Some, None}
use Rattle.std.specs.Prelude.{nat_lt, ◌&&◌, if◌then◌else◌}
use Rattle.std.specs.Char.{is_ascii_digit}
use Rattle.std.specs.List.{list_all}
use Rattle.std.specs.Result.{OkIff, result_ok}
use Rattle.std.specs.Str.{IsUtf8, IsAscii}
use Rattle.std.specs.Str.Parse.{digits_value, ParsesUnsigned}
use Rattle.std.proofs.lemmas.Bool.{lt-ltb, ltb-true}
use Rattle.std.proofs.lemmas.Str.{IsUtf8-from_ascii}
use Rattle.std.proofs.lemmas.Str.Ascii.{IsAscii-nil, IsAscii-cons}
use Rattle.std.proofs.lemmas.Str.Parse.{IsNumeralModel, IsDigitsTest, numerals_by_value}
use Rattle.std.proofs.lemmas.Str.Parse.{parse_digits}
use Rattle.bittle_script.specs.Numbers.{number_of}

own_test : IsDigitsTest (λ ds. list_all is_ascii_digit ds ≡ true)
own_test = search rules

own : IsNumeralModel (λ ds. list_all is_ascii_digit ds ≡ true) (digits_value 10)
own = numerals_by_value _ own_test

by_tests : {E : Type 0} (r : Result ℕ E) (n v l : ℕ) (b : Bool) → OkIff r ((0 < n) × (v < l)) v →
    b ≡ true → result_ok r ≡ (if nat_lt 0 n && b && nat_lt v l then Some v else None)
by_tests (Ok x) n v l b h digits = rw (lt-ltb 0 n h.0.0, digits, lt-ltb v l h.0.1, h.1) refl
by_tests (Err e) n v l b h digits = by_refusal (nat_lt 0 n) (nat_lt v l) b v digits
    (λ s f. h (ltb-true 0 n s, ltb-true v l f)) where
      by_refusal : (s f b : Bool) (v : ℕ) → b ≡ true → (s ≡ true → f ≡ true → ⊥) →
          None ≡ (if s && b && f then Some v else None)
      by_refusal false f b v digits no' = refl
      by_refusal true f false v digits no' = refl
      by_refusal true false true v digits no' = refl
      by_refusal true true true v digits no' = absurd (no' refl refl)

-- the parser returns the number that digits say, or an error if the number does not fit
pub number_parsed : {E : Type 0} (bs : List ℕ) (r : Result ℕ E) → ParsesUnsigned 32 10 bs r →
    list_all is_ascii_digit bs ≡ true → result_ok r ≡ number_of bs
number_parsed bs r h digits = by_tests r (length bs) (digits_value 10 bs) 4294967296
    (list_all is_ascii_digit bs) (parse_digits own 32 bs r h digits) digits

-- digits are ASCII
pub ascii_from_digits : (bs : List ℕ) → list_all is_ascii_digit bs ≡ true → IsAscii bs
ascii_from_digits [] digits = IsAscii-nil
ascii_from_digits (b ∷ bs) digits =
    let h = own_test.parts b bs digits in
    IsAscii-cons b bs (omega arith) (ascii_from_digits bs h.1)

-- digits are UTF-8
pub text_from_digits : (bs : List ℕ) → list_all is_ascii_digit bs ≡ true → IsUtf8 bs
text_from_digits bs digits = IsUtf8-from_ascii bs (ascii_from_digits bs digits)
