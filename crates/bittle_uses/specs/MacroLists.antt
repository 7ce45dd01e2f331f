-- The sets that the lists of `macro_lists` name.
use Rattle.std.specs.Prelude.{◌≡◌, ℕ, ◌+◌, Bool, true, false}
use Rattle.bittle.specs.PlainSet.{PlainSet, empty_set, with_index}
use Rattle.bittle.specs.Ranges.{with_wrapped_range}

-- `made` holds what `set!`, `set_le!` and `set_be!` made; each is the set s, if the first is read
-- in the type's own order, the second mirrored (little-endian) and the third not mirrored
-- (big-endian)
abbrev pub AreListed : {V : Type 0} → (Bool → V → PlainSet) → Bool → V × V × V → PlainSet → Type 0
AreListed read own made s = (read own made.0 ≡ s) × (read true made.1 ≡ s)
    × (read false made.2 ≡ s)

-- the set that the list `index, 2..=3, 5..7, 9..4, 14..` names, if its capacity is `capacity`
abbrev pub listed_set : ℕ → ℕ → PlainSet
listed_set capacity index =
    with_wrapped_range (with_wrapped_range (with_wrapped_range (with_wrapped_range
    (with_index (empty_set capacity) index) 2 (3 + 1)) 5 7) 9 4) 14 capacity

-- the set that the list `100.., 2..=3, 70..75, 9, index` names, if its capacity is `capacity`
abbrev pub listed_open_set : ℕ → ℕ → PlainSet
listed_open_set capacity index =
    with_index (with_index (with_wrapped_range (with_wrapped_range (with_wrapped_range
    (empty_set capacity) 100 capacity) 2 (3 + 1)) 70 75) 9) index

-- the set that the list `0..` names, if its capacity is `capacity`
abbrev pub listed_whole_set : ℕ → PlainSet
listed_whole_set capacity = with_wrapped_range (empty_set capacity) 0 capacity

-- the set that a list of two indexes names, if its capacity is `capacity`
abbrev pub listed_two_set : ℕ → ℕ → ℕ → PlainSet
listed_two_set capacity a b = with_index (with_index (empty_set capacity) a) b

-- the set that a list of three indexes names, if its capacity is `capacity`
abbrev pub listed_three_set : ℕ → ℕ → ℕ → ℕ → PlainSet
listed_three_set capacity a b c =
    with_index (with_index (with_index (empty_set capacity) a) b) c

-- the set that a list of four indexes names, if its capacity is `capacity`
abbrev pub listed_four_set : ℕ → ℕ → ℕ → ℕ → ℕ → PlainSet
listed_four_set capacity a b c d =
    with_index (with_index (with_index (with_index (empty_set capacity) a) b) c) d

-- the set that the list `1..=2, 4..=5, 7..9, 10..12` names, if its capacity is `capacity`
abbrev pub listed_ranges_set : ℕ → PlainSet
listed_ranges_set capacity =
    with_wrapped_range (with_wrapped_range (with_wrapped_range (with_wrapped_range
    (empty_set capacity) 1 (2 + 1)) 4 (5 + 1)) 7 9) 10 12
