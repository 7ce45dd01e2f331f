-- Which shapes fit: an index of 32 bits reaches each of their bits.
use Rattle.std.specs.Prelude.{ℕ, ◌<◌, Bool, IsTrue}

-- the type of the shape may be indexed, and the capacity is below `u32::MAX`
abbrev pub Fits : Bool → ℕ → Type 0
Fits indexable c = IsTrue indexable × (c < 4294967295)
