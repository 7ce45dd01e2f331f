-- One word of a set.
use Rattle.std.specs.Prelude.{◌≡◌, ◌≢◌, ℕ, ◌+◌, ◌*◌, ◌<◌, Bool, ◌&&◌, nat_lt}
use Rattle.bittle_bits.specs.PlainSet.{PlainSet}

-- whether the number i is a member of word k of a set: i is below the width w, and k * w + i is a
-- member of the set
unfoldable pub word_has : ℕ → PlainSet → ℕ → ℕ → Bool
word_has w s k i = nat_lt i w && s.has (k * w + i)

-- word k of a set whose words have w bits; its members are the members of the set in word k, each
-- less k * w
abbrev pub word_of : ℕ → PlainSet → ℕ → PlainSet
word_of w s k = record { capacity = w; has = word_has w s k }

-- t is the set s with word k replaced by `word`; every other word of s stays
pub record ReplacesWord (w : ℕ) (s : PlainSet) (k : ℕ) (word t : PlainSet) : Type 0 where
  pub capacity : t.capacity ≡ s.capacity
  pub replaced : word_of w t k ≡ word
  pub others : (j : ℕ) → j ≢ k → j * w < s.capacity → word_of w t j ≡ word_of w s j
