-- Numbers in decimal digits.
use Rattle.std.specs.Prelude.{ℕ, List, Bool, Option, Some, None, ◌&&◌, nat_lt, length}
use Rattle.std.specs.Prelude.{if◌then◌else◌}
use Rattle.std.specs.Char.{is_ascii_digit}
use Rattle.std.specs.List.{list_all}
use Rattle.std.specs.Str.Parse.{digits_value}

-- whether a text is one or more digits that say a number below 2 ^ 32
abbrev pub is_number : List ℕ → Bool
is_number text = nat_lt 0 (length text) && list_all is_ascii_digit text
    && nat_lt (digits_value 10 text) 4294967296

-- the number below 2 ^ 32 that a text of one or more digits says, or None for any other text
abbrev pub number_of : List ℕ → Option ℕ
number_of text = if is_number text then Some (digits_value 10 text) else None
