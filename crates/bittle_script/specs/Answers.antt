-- The answers to a script, line by line. The commands work on a plain set of numbers.
use Rattle.std.specs.Prelude.{ℕ, Bool, List, [], ◌∷◌, ◌++◌, Option, None, Some, length, drop, codes}
use Rattle.std.specs.Prelude.{◌==◌, if◌then◌else◌}
use Rattle.std.specs.List.{enumerate_from, join_by}
use Rattle.std.specs.Fmt.{decimal}
use Rattle.bittle.specs.PlainSet.{PlainSet, empty_set, contains, with_index, without_index, size}
use Rattle.bittle.specs.PlainSet.{ascending}
use Rattle.bittle_script.specs.declared.command.Command.{Command}
use Rattle.bittle_script.specs.declared.command.Command.TheVariants.{Set, Clear, Test, Count, Ones}
use Rattle.bittle_script.specs.declared.header.Header.{Header}
use Rattle.bittle_script.specs.declared.answering.Outcome.{Outcome}
use Rattle.bittle_script.specs.declared.answering.Outcome.TheVariants.{Answered, Refused}
use Rattle.bittle_script.specs.Commands.{command_of}
use Rattle.bittle_script.specs.Headers.{header_of, capacity_of}
use Rattle.bittle_script.specs.Texts.{script_lines}

-- the line that says whether a bit is set: `true` or `false`
abbrev pub line_of_bit : Bool → List ℕ
line_of_bit is_set = if is_set then codes "true\n" else codes "false\n"

-- the line with a number in decimal digits
abbrev pub line_of_number : ℕ → List ℕ
line_of_number n = decimal n ++ codes "\n"

-- the line with the members in increasing order, separated by one space
abbrev pub line_of_members : PlainSet → List ℕ
line_of_members s = join_by decimal (codes " ") (ascending s) ++ codes "\n"

-- the text that is printed for a command; s is the set before it
abbrev pub command_text : PlainSet → Command → List ℕ
command_text s (Set i) = []
command_text s (Clear i) = []
command_text s (Test i) = line_of_bit (contains s i)
command_text s Count = line_of_number (size s)
command_text s Ones = line_of_members s

-- the set after a command
abbrev pub after_command : PlainSet → Command → PlainSet
after_command s (Set i) = with_index s i
after_command s (Clear i) = without_index s i
after_command s (Test i) = s
after_command s Count = s
after_command s Ones = s

-- what is printed for a line that is not understood
abbrev pub refusal_of : ℕ → List ℕ
refusal_of number = codes "line " ++ decimal number ++ codes ": not understood\n"

-- what is printed, and how the run ends
pub record Answers : Type 0 where
  pub text : List ℕ
  pub outcome : Outcome

-- the answers that are just the refusal of line `number`
abbrev pub refusal_at : ℕ → Answers
refusal_at number = record { text = refusal_of number; outcome = Refused }

-- the answers `rest` with `text` put in front
abbrev pub prepend : List ℕ → Answers → Answers
prepend text rest = record { text = text ++ rest.text; outcome = rest.outcome }

-- the answers from line `number` on: just its refusal, if the line is no command; else the text for
-- its command, and then what `rest` answers from the set after the command
abbrev pub command_answers : PlainSet → ℕ → Option Command → (PlainSet → Answers) → Answers
command_answers s number None rest = refusal_at number
command_answers s number (Some command) rest = prepend (command_text s command)
    (rest (after_command s command))

-- the answers to numbered lines; s is the set before the first of them, and empty lines are skipped
abbrev pub line_answers : PlainSet → List (ℕ × List ℕ) → Answers
line_answers s [] = record { text = []; outcome = Answered }
line_answers s (line ∷ lines) = if length line.1 == 0 then line_answers s lines else command_answers
    s line.0 (command_of line.1) (λ t. line_answers t lines)

-- the header that the first line says, or None if there is no line or the line is no header
abbrev pub header_in : List (ℕ × List ℕ) → Option Header
header_in [] = None
header_in (line ∷ lines) = header_of line.1

-- the answers to the lines after the header, from an empty set; without a header, the refusal of
-- line 1
abbrev pub header_answers : Option Header → List (ℕ × List ℕ) → Answers
header_answers None lines = refusal_at 1
header_answers (Some header) lines = line_answers (empty_set (capacity_of header.set_type)) lines

-- the answers to a script
abbrev pub script_answers : List ℕ → Answers
script_answers text = let lines = enumerate_from 1 (script_lines text) in
    header_answers (header_in lines) (drop 1 lines)
