-- Where a range of numbers lies among pieces of equal length, such as words or elements.
use Rattle.std.specs.Prelude.{◌≡◌, ℕ, ◌+◌, ◌*◌, ◌<◌, ◌≤◌}

-- the first number of the range a..b has offset i in piece p, and the last has offset j in piece q
pub record LiesAt (length a b p i q j : ℕ) : Type 0 where
  pub from : a ≡ p * length + i
  pub begin : i < length
  pub to : b ≡ q * length + j + 1
  pub top : j < length
  pub in_order : p ≤ q
  pub before_last : (k : ℕ) → k < q → (k + 1) * length ≤ q * length
