-- The stones of two players on one board.
use Rattle.std.specs.Prelude.{◌≡◌, ℕ, ◌+◌, false, ◌&&◌}
use Rattle.bittle.specs.PlainSet.{PlainSet, contains, size}

-- no square has a stone of both players
abbrev pub AreApart : PlainSet → PlainSet → Type 0
AreApart s t = (square : ℕ) → (contains s square && contains t square) ≡ false

-- how many stones there are
abbrev pub stones : PlainSet → PlainSet → ℕ
stones s t = size s + size t
