use Rattle.std.proofs.Common.{◌+◌, ◌-◌, ◌<◌, ◌≡◌, ◌^◌, ◌∙◌, ℕ, inl, inr, arith}
use Rattle.std.proofs.Math.Pow.{pow_mono}
use Rattle.std.proofs.Math.Nat.{pow-suc}
use Rattle.std.proofs.lemmas.Bool.{cases_lt}
use Rattle.bittle_bits.proofs.word.Word.not.Goals as goal

-- if a power of two is below another one, twice the lesser less one is below the greater
below_twice : (n k top : ℕ) → top ≡ 2 ^ k → top < 2 ^ n → top - 1 + top < 2 ^ n
below_twice n k top is fits = elim (cases_lt k n) [
  | inl l ↦ omega (arith, pow_mono l, pow-suc 2 k)
  | inr g ↦ absurd (omega (arith, pow_mono g))
]

pub overflow_add-top : goal.overflow_add-top
overflow_add-top g c =
    let is = c.to_bits-top.ensures.pattern ∙ c.one_at.ensures in
    omega (arith, below_twice 128 _ c.to_bits-top.result is c.to_bits-top.type_inv)
