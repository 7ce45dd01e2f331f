-- The least and the greatest member of a set in a range.
use Rattle.std.specs.Prelude.{◌≡◌, ℕ, ◌+◌, ◌*◌, ◌<◌, ◌≤◌, Bool, true, false, Option, Some, None}
use Rattle.bittle_bits.specs.BitPatterns.{bit_set}
use Rattle.bittle_bits.specs.PlainSet.{PlainSet}

-- no number of the range from..to is a member
abbrev pub NoneIn : PlainSet → ℕ → ℕ → Type 0
NoneIn s from to = (k : ℕ) → from ≤ k → k < to → s.has k ≡ false

-- the result is the least member in the range from..to, or None if there is none
abbrev pub IsFirstIn : PlainSet → ℕ → ℕ → Option ℕ → Type 0
IsFirstIn s from to None = NoneIn s from to
IsFirstIn s from to (Some i) = (from ≤ i) × (i < to) × (s.has i ≡ true) × NoneIn s from i

-- the result is the greatest member in the range from..to, or None if there is none
abbrev pub IsLastIn : PlainSet → ℕ → ℕ → Option ℕ → Type 0
IsLastIn s from to None = NoneIn s from to
IsLastIn s from to (Some i) = (from ≤ i) × (i < to) × (s.has i ≡ true) × NoneIn s (i + 1) to

-- The words of low..high that are passed over (skipped) have no member. From the front these are
-- the words low..r; from the back they are the words r..high.
abbrev pub PassesOver : Bool → ℕ → PlainSet → ℕ → ℕ → ℕ → Type 0
PassesOver true w s low high r = (low ≤ r) × (r ≤ high) × NoneIn s (low * w) (r * w)
PassesOver false w s low high r = (low ≤ r) × (r ≤ high) × NoneIn s (r * w) (high * w)

-- A word holds w numbers, and a group is `each` words. For each i below 64, group 64 * n + i has no
-- member if bit i of `word` is unset.
abbrev pub TellsGroups : ℕ → ℕ → PlainSet → ℕ → ℕ → Type 0
TellsGroups each w s n word = (i : ℕ) → i < 64 → (bit_set 64 word).has i ≡ false →
    NoneIn s ((64 * n + i) * each * w) ((64 * n + i + 1) * each * w)

-- The words p to q come in increasing order for the front, and in decreasing order for the back.
-- The result is a word that comes after word k, and the words between these two have no member. Or
-- the result is None, and no word that comes after word k has a member.
abbrev pub IsNextWord : Bool → ℕ → PlainSet → ℕ → ℕ → ℕ → Option ℕ → Type 0
IsNextWord true w s p q k None = NoneIn s ((k + 1) * w) ((q + 1) * w)
IsNextWord true w s p q k (Some n) = (k < n) × (n ≤ q) × NoneIn s ((k + 1) * w) (n * w)
IsNextWord false w s p q k None = NoneIn s (p * w) (k * w)
IsNextWord false w s p q k (Some n) = (p ≤ n) × (n < k) × NoneIn s ((n + 1) * w) (k * w)
