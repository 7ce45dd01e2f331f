-- The set that a value stands for.
use Rattle.std.specs.Prelude.{ℕ, ◌/◌, Bool, List, length}
use Rattle.bittle_bits.specs.Orders.{read_in}
use Rattle.bittle_bits.specs.PlainSet.{PlainSet}
use Rattle.bittle_bits.specs.Rows.{row_set}
use Rattle.bittle_bits.specs.Shapes.{Fits}
use Rattle.bittle_bits.specs.Walk.{ones_or_zeros}
use Rattle.bittle_bits.specs.WordSets.{word_mirrored}
use Rattle.bittle_bits.specs.declared.shape.Shape as shape
use Rattle.bittle_bits.specs.declared.endian.Endian as endian
use Rattle.bittle_bits.specs.declared.kind.Kind as kind
use Rattle.bittle_bits.specs.declared.word.Word as word

-- the set of a value, read in an order
abbrev pub set_in : {V W E : Type 0} → shape.Ghosts V W → endian.Ghosts E → V → PlainSet
set_in b e v = read_in e.mirrored b.width (b.big v)

-- the set of a value, mirrored within each word if `mirrored` is true
abbrev pub set_mirrored : {V W : Type 0} → shape.Ghosts V W → Bool → V → PlainSet
set_mirrored b mirrored v = read_in mirrored b.width (b.big v)

-- the bits of a kind of a value, read in an order: the set of the value for ones, its complement
-- for zeros
abbrev pub kind_in : {V W E K : Type 0} → shape.Ghosts V W → endian.Ghosts E → kind.Ghosts K → V →
    PlainSet
kind_in b e k v = ones_or_zeros k.ONES (set_in b e v)

-- the shape of a value fits
abbrev pub ShapeFits : {V W : Type 0} → shape.Ghosts V W → V → Type 0
ShapeFits b v = Fits b.indexable (b.big v).capacity

-- how many words a value has
abbrev pub word_count : {V W : Type 0} → shape.Ghosts V W → V → ℕ
word_count b v = (b.big v).capacity / b.width

-- the set of a word, read in an order
abbrev pub word_in : {W E : Type 0} → word.Ghosts W → endian.Ghosts E → W → PlainSet
word_in t e v = word_mirrored t e.mirrored v

-- the set of a row of elements
abbrev pub row_of : {V W : Type 0} → shape.Ghosts V W → List V → PlainSet
row_of b xs = row_set (length xs) b.type_capacity b.big xs

-- the set of a row of elements, mirrored within each word if `mirrored` is true
abbrev pub row_mirrored : {V W : Type 0} → shape.Ghosts V W → Bool → List V → PlainSet
row_mirrored b mirrored xs = read_in mirrored b.width (row_of b xs)

-- the set of a row of elements, read in an order
abbrev pub row_in : {V W E : Type 0} → shape.Ghosts V W → endian.Ghosts E → List V → PlainSet
row_in b e xs = row_mirrored b e.mirrored xs
