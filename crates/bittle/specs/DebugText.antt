-- The debug text of a set, as the bytes that are written.
use Rattle.std.specs.Prelude.{ℕ, Bool, List, ◌++◌, codes, if◌then◌else◌}
use Rattle.std.specs.Fmt.{decimal}
use Rattle.std.specs.List.{join_by}
use Rattle.bittle_bits.specs.PlainSet.{PlainSet, ascending}

-- indexes in decimal digits, with a comma and a space between two, all in braces
abbrev pub list_text : List ℕ → List ℕ
list_text indexes = codes "{" ++ (join_by decimal (codes ", ") indexes ++ codes "}")

-- the members in increasing order, in braces
abbrev pub set_text : PlainSet → List ℕ
set_text s = list_text (ascending s)

-- an index in decimal digits, after a comma and a space unless it is the first
abbrev pub index_text : Bool → ℕ → List ℕ
index_text first index = if first then decimal index else codes ", " ++ decimal index
