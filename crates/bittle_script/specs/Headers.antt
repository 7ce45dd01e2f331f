-- The bit order and the type of the set that a first line names.
use Rattle.std.specs.Prelude.{ℕ, List, Option, Some, None, codes, drop, if◌then◌else◌}
use Rattle.std.specs.Option.{option_map}
use Rattle.bittle_script.specs.declared.header.Header.{Header}
use Rattle.bittle_script.specs.declared.header.Order.{Order}
use Rattle.bittle_script.specs.declared.header.Order.TheVariants.{Big, Little}
use Rattle.bittle_script.specs.declared.header.SetType.{SetType}
use Rattle.bittle_script.specs.declared.header.SetType.TheVariants.{U8, U8x4, U8x2x2, U16x2, I32}
use Rattle.bittle_script.specs.CommandWords.{is_word, begins_with}

-- the type with this name, or None if no type has it
abbrev pub set_type_of : List ℕ → Option SetType
set_type_of name =
    if is_word name (codes "u8") then Some U8
    else (if is_word name (codes "u8x4") then Some U8x4
    else (if is_word name (codes "u8x2x2") then Some U8x2x2
    else (if is_word name (codes "u16x2") then Some U16x2
    else (if is_word name (codes "i32") then Some I32 else None))))

-- the header of an order and a type
abbrev pub header_in_order : Order → SetType → Header
header_in_order order set_type = record { order = order; set_type = set_type }

-- the bit order and the type that a first line names, or None if the line does not name both
abbrev pub header_of : List ℕ → Option Header
header_of line =
    if begins_with line (codes "be ") then option_map (header_in_order Big)
    (set_type_of (drop 3 line))
    else (if begins_with line (codes "le ") then option_map (header_in_order Little)
    (set_type_of (drop 3 line)) else None)

-- how many numbers a set of the type can hold
abbrev pub capacity_of : SetType → ℕ
capacity_of U8 = 8
capacity_of U8x4 = 32
capacity_of U8x2x2 = 32
capacity_of U16x2 = 32
capacity_of I32 = 32
