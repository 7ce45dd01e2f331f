-- Number k is a member of a summary if word k of its map, which is a set too, has a bit of the
-- summary's kind: a set bit if `ones` is true, else an unset bit. The words have w bits.
use Rattle.std.specs.Prelude.{◌≡◌, ℕ, ◌*◌, ◌-◌, ◌<◌, ◌≤◌, Bool, true, false, not, ◌&&◌, ◌==◌}
use Rattle.std.specs.Prelude.{nat_le}
use Rattle.bittle.specs.PlainSet.{PlainSet, empty_set, full_set, size}
use Rattle.bittle.specs.Walk.{ones_or_zeros}
use Rattle.bittle.specs.Words.{word_of}

-- whether word k of s has a bit of the kind: a set bit if `ones` is true, else an unset bit
unfoldable pub some_in_word : Bool → ℕ → PlainSet → ℕ → Bool
some_in_word ones w s k = not (size (ones_or_zeros ones (word_of w s k)) == 0)

-- for each word k of s, the number k is a member of t exactly if the word has a bit of the kind
abbrev pub Summarizes : Bool → ℕ → PlainSet → PlainSet → Type 0
Summarizes ones w s t = (k : ℕ) → k * w < s.capacity → t.has k ≡ some_in_word ones w s k

-- `Summarizes` for each word of s outside the words from..to
abbrev pub SummarizesOutside : Bool → ℕ → PlainSet → PlainSet → ℕ → ℕ → Type 0
SummarizesOutside ones w s t from to = (j : ℕ) → (from ≤ j → to ≤ j) → j * w < s.capacity →
    t.has j ≡ some_in_word ones w s j

-- a search through the words low..high, from the front if the first flag is true and else from the
-- back, stopped at r: at a word with a bit of the kind (from the front word r, from the back word
-- r - 1), or else at the other end
abbrev pub StopsAtBit : Bool → Bool → ℕ → PlainSet → ℕ → ℕ → ℕ → Type 0
StopsAtBit true ones w s low high r = r < high → some_in_word ones w s r ≡ true
StopsAtBit false ones w s low high r = low < r → some_in_word ones w s (r - 1) ≡ true

-- the summary with capacity d of a map in which every word has a bit of the kind (if the flag is
-- true), or no word has one (if it is false)
abbrev pub uniform_summary : Bool → ℕ → PlainSet
uniform_summary true d = full_set d
uniform_summary false d = empty_set d

-- whether a set of capacity d may summarize a map of capacity c: both may be indexed, and the
-- summary has at least one bit for each word of the map
abbrev pub can_summarize : Bool → Bool → ℕ → ℕ → ℕ → Bool
can_summarize map summary c d w = map && (summary && nat_le c (d * w))
