-- The position of an iterator: two buffered words, and the words between them.
use Rattle.std.specs.Prelude.{◌≡◌, ℕ, ◌+◌, ◌-◌, ◌*◌, ◌≤◌, List, ◌++◌}
use Rattle.bittle_bits.specs.Buffers.{members_between, items_in, buffer_count}
use Rattle.bittle_bits.specs.PlainSet.{PlainSet, ascending}
use Rattle.bittle_bits.specs.Walk.{Walk, IsFresh}
use Rattle.bittle_bits.specs.Values.{kind_in, word_count}
use Rattle.bittle_bits.specs.declared.endian.Endian as endian
use Rattle.bittle_bits.specs.declared.internal.cursor.Cursor.{Cursor}
use Rattle.bittle_bits.specs.declared.kind.Kind as kind
use Rattle.bittle_bits.specs.declared.shape.Shape as shape

-- B is the type of the set, E the order, and W the type of the words
module _ {B E W : Type 0} where
  -- The items that remain: the head's items, the members of the words between, and the tail's
  -- items. If this definition were an `abbrev`, a caller's proof search would expand the buffers of
  -- each iterator.
  unfoldable pub items_left_in : PlainSet → ℕ → Cursor B E W → List ℕ
  items_left_in s w at = items_in at.buffers.head
      ++ (members_between s (at.low * w) (at.high * w) ++ items_in at.buffers.tail)

  -- what contracts see of an iterator over the set s, which has `words` words of w bits
  abbrev pub walk_of : PlainSet → ℕ → ℕ → Cursor B E W → Walk
  walk_of s words w at = record {
    remaining = items_left_in s w at;
    scans = at.buffers.scans;
    items = at.items;
    fetches = at.buffers.fetches;
    unread = at.high - at.low;
    passed = at.passed;
    words = words;
  }

-- Each scan yielded an item or found a word exhausted. Each word was fetched once, or was
-- passed over (skipped unread), or is not fetched yet: then it is between the two buffered words.
pub record IsCounted {B E W : Type 0} (words : ℕ) (at : Cursor B E W) : Type 0 where
  pub ordered : at.low ≤ at.high
  pub within : at.high ≤ words
  pub at_least : at.items ≤ at.buffers.scans
  pub at_most : at.buffers.scans + buffer_count at.buffers.head + (at.high - at.low) + buffer_count
      at.buffers.tail ≤ at.items + words
  pub once : at.buffers.fetches + (at.high - at.low) + at.passed ≡ words

-- the start of an iterator: all items remain, the counts of scans and of yielded items are 0, and
-- at most one word was fetched
pub record IsWalkStart {B E W : Type 0} (s : PlainSet) (words w : ℕ) (t : Cursor B E W) :
    Type 0 where
  pub remaining : items_left_in s w t ≡ ascending s
  pub fresh : IsFresh words (walk_of s words w t)
  pub counted : IsCounted words t

-- what contracts see of an iterator at a position in a value; the iterator goes over the value's
-- bits of a kind, read in an order
abbrev pub walk_at : {V W E K L : Type 0} → shape.Ghosts V W → endian.Ghosts E → kind.Ghosts K → V →
    Cursor V E L → Walk
walk_at b e k v at = walk_of (kind_in b e k v) (word_count b v) b.width at

-- the counts at a position in the words of a value are as `IsCounted` says
abbrev pub IsCountedIn : {V W E L : Type 0} → shape.Ghosts V W → V → Cursor V E L → Type 0
IsCountedIn b v at = IsCounted (word_count b v) at

-- an iterator over the bits of a kind of a value begins at this position
abbrev pub Begins : {V W E K L : Type 0} → shape.Ghosts V W → endian.Ghosts E → kind.Ghosts K → V →
    Cursor V E L → Type 0
Begins b e k v at = IsWalkStart (kind_in b e k v) (word_count b v) b.width at
