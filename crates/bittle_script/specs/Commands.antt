-- The command that a line says.
use Rattle.std.specs.Prelude.{ℕ, List, Option, Some, None, codes, drop, if◌then◌else◌}
use Rattle.std.specs.Option.{option_map}
use Rattle.bittle_script.specs.declared.command.Command.{Command}
use Rattle.bittle_script.specs.declared.command.Command.TheVariants.{Set, Clear, Test, Count, Ones}
use Rattle.bittle_script.specs.Numbers.{number_of}
use Rattle.bittle_script.specs.CommandWords.{is_word, begins_with}

-- the command of a line such as `set 5`: a word, one space and an index; None for any other line
abbrev pub indexed_command_of : List ℕ → Option Command
indexed_command_of line =
    if begins_with line (codes "set ") then option_map Set (number_of (drop 4 line))
    else (if begins_with line (codes "clear ") then option_map Clear (number_of (drop 6 line))
    else (if begins_with line (codes "test ") then option_map Test (number_of (drop 5 line)) else
    None))

-- the command that a line says, or None if the line is no command
abbrev pub command_of : List ℕ → Option Command
command_of line =
    if is_word line (codes "count") then Some Count
    else (if is_word line (codes "ones") then Some Ones else indexed_command_of line)
