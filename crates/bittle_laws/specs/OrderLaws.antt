-- Laws of the two bit orders, for words of every width. The place of an index is the index that its
-- bit has in big-endian order. A mirrored index is counted from the other end of its word.
use Rattle.std.specs.Prelude.{◌≡◌, ℕ, ◌*◌, ◌%◌, ◌<◌, Bool}
use Rattle.bittle.specs.Orders.{mirror, place, read_in}
use Rattle.bittle.specs.PlainSet.{PlainSet, contains}

-- each index of a word has a place in the word
abbrev pub PlacesAreInTheWord : Bool → Type 0
PlacesAreInTheWord mirrored = (w i : ℕ) → i < w → place mirrored w i < w

-- no two indexes have the same place
abbrev pub PlacesAreDistinct : Bool → Type 0
PlacesAreDistinct mirrored = (w i j : ℕ) → 0 < w → place mirrored w i ≡ place mirrored w j → i ≡ j

-- the place of an index in one order is the place of the mirrored index in the other order
abbrev pub PlacesMirror : Bool → Bool → Type 0
PlacesMirror one other = (w i : ℕ) → 0 < w → place one w i ≡ place other w (mirror w i)

-- an index is a member of the set in one order exactly if the mirrored index is a member of the set
-- in the other order
abbrev pub MembersMirror : Bool → Bool → ℕ → PlainSet → Type 0
MembersMirror one other w s = (i : ℕ) → (read_in one w s).has i
    ≡ (read_in other w s).has (mirror w i)

-- to mirror an index twice gives the index back
abbrev pub MirroringTwiceIsNothing : Type 0
MirroringTwiceIsNothing = (w i : ℕ) → 0 < w → mirror w (mirror w i) ≡ i

-- mirroring takes an index below a capacity of whole words to an index below that capacity
abbrev pub MirroringStaysBelow : Type 0
MirroringStaysBelow = (w words i : ℕ) → 0 < w → i < words * w → mirror w i < words * w

-- each index below a capacity of whole words is the mirrored index of some index below that
-- capacity
abbrev pub MirroringReachesAll : Type 0
MirroringReachesAll = (w words i : ℕ) → 0 < w → i < words * w →
    (j : ℕ) × (j < words * w) × (mirror w j ≡ i)

-- a test of an index has the same result as a test of the index modulo the capacity, if the
-- capacity is not 0
abbrev pub TestingWraps : PlainSet → Type 0
TestingWraps s = (i : ℕ) → 0 < s.capacity → contains s i ≡ contains s (i % s.capacity)
