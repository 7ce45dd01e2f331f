-- Lines with their numbers.
use Rattle.std.specs.Prelude.{ℕ, ◌+◌, List}
use Rattle.std.specs.List.{enumerate_from}
use Rattle.bittle_script.specs.declared.lines.Line.{Line}
use Rattle.bittle_script.specs.declared.lines.Lines.{Lines}
use Rattle.bittle_script.specs.Texts.{script_lines}

-- a line's number and text
abbrev pub numbered_line : Line → ℕ × List ℕ
numbered_line line = (line.number, line.text.now)

-- the lines that the iterator has not yielded yet, each with its number
abbrev pub lines_left : Lines → List (ℕ × List ℕ)
lines_left s = enumerate_from (s.taken + 1) (script_lines s.rest.now)
