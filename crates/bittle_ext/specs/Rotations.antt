-- Sets whose members are all moved up or down.
use Rattle.std.specs.Prelude.{◌≡◌, ℕ, ◌+◌, ◌-◌, ◌*◌, ◌%◌, ◌<◌, ◌≤◌, ◌⊎◌, Bool, cond, ◌==◌, ◌&&◌}
use Rattle.std.specs.Prelude.{nat_lt, nat_le}
use Rattle.bittle.specs.PlainSet.{PlainSet, contains, is_in_span}

-- whether k is below the capacity, and k + by, which wraps at the capacity, is a member
unfoldable pub has_rotated : PlainSet → ℕ → ℕ → Bool
has_rotated s by k = nat_lt k s.capacity && contains s (k + by)

-- the set with each member moved down by `by`; a member that would pass index 0 goes on at the last
-- index
abbrev pub rotated_down : PlainSet → ℕ → PlainSet
rotated_down s by = record { capacity = s.capacity; has = has_rotated s by }

-- the set with each member moved up by `by`; a member that would pass the last index goes on at 0
abbrev pub rotated_up : PlainSet → ℕ → PlainSet
rotated_up s by = rotated_down s (s.capacity - by % s.capacity)

-- whether k + by is below the capacity, and a member
unfoldable pub has_shifted_down : PlainSet → ℕ → ℕ → Bool
has_shifted_down s by k = nat_lt (k + by) s.capacity && s.has (k + by)

-- the set with each member moved down by `by`; a member that would pass index 0 is dropped
abbrev pub shifted_down : PlainSet → ℕ → PlainSet
shifted_down s by = record { capacity = s.capacity; has = has_shifted_down s by }

-- whether k is `by` or greater and below the capacity, and k - by is a member
unfoldable pub has_shifted_up : PlainSet → ℕ → ℕ → Bool
has_shifted_up s by k = nat_le by k && nat_lt k s.capacity && s.has (k - by)

-- the set with each member moved up by `by`; a member that would reach the capacity is dropped
abbrev pub shifted_up : PlainSet → ℕ → PlainSet
shifted_up s by = record { capacity = s.capacity; has = has_shifted_up s by }

-- s and t are two words of w bits, one after the other; u is the word of w bits that begins at
-- index `from` of the two
pub record IsWindow (w from : ℕ) (s t u : PlainSet) : Type 0 where
  pub first : (i : ℕ) → i + from < w → u.has i ≡ s.has (i + from)
  pub second : (i : ℕ) → i < w → w ≤ i + from → u.has i ≡ t.has (i + from - w)

-- word `next` comes after word `at` of a set, where a word has w bits; after the last word comes
-- the first
abbrev pub IsWordAfter : ℕ → ℕ → ℕ → ℕ → Type 0
IsWordAfter w capacity at next =
    (((at + 1) * w ≡ capacity) × (next ≡ 0)) ⊎ (((at + 1) * w < capacity) × (next ≡ at + 1))

-- a distance `by` below the capacity is `skipped` whole words and `rest` bits; the capacity is
-- `words` words of w bits
pub record IsDistance (w capacity by words skipped rest : ℕ) : Type 0 where
  pub whole : words * w ≡ capacity
  pub fewer : skipped < words
  pub within : rest < w
  pub parts : skipped * w + rest ≡ by

-- the word u holds w bits of the set s, from index `from` on: index i of u is a member exactly if
-- s contains from + i; an index at or past the capacity of s wraps
abbrev pub IsWordFrom : ℕ → PlainSet → ℕ → PlainSet → Type 0
IsWordFrom w s from u = (i : ℕ) → i < w → u.has i ≡ contains s (from + i)

-- for each k, word k of t has the members of word f k of s, where a word has w bits
pub record HasWordsOf (w : ℕ) (f : ℕ → ℕ) (s t : PlainSet) : Type 0 where
  pub capacity : t.capacity ≡ s.capacity
  pub words : (k i : ℕ) → k * w < s.capacity → i < w → t.has (k * w + i) ≡ s.has (f k * w + i)

-- the number that k becomes if i and j change places
unfoldable pub exchanged : ℕ → ℕ → ℕ → ℕ
exchanged i j k = cond (k == j) i (cond (k == i) j k)

-- the number that k becomes if from..to is reversed
unfoldable pub mirrored_within : ℕ → ℕ → ℕ → ℕ
mirrored_within from to k = cond (is_in_span from to k) (from + to - 1 - k) k
