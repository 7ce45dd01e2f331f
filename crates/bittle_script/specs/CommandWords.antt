-- Whether a text is a word, or begins with one.
use Rattle.std.specs.Prelude.{ℕ, List, Bool, nat_eq, length, take}
use Rattle.std.specs.Cmp.Lexicographic.{pointwise}

-- whether a text is this word
abbrev pub is_word : List ℕ → List ℕ → Bool
is_word text word = pointwise nat_eq text word

-- whether a text begins with this word
abbrev pub begins_with : List ℕ → List ℕ → Bool
begins_with text word = is_word (take (length word) text) word
