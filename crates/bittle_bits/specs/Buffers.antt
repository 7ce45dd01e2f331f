-- Buffered words: the items that remain in each, and what a scan takes.
use Rattle.std.specs.Prelude.{◌≡◌, ◌≢◌, ℕ, ◌+◌, ◌-◌, ◌*◌, ◌<◌, Bool, true, false, cond, List, []}
use Rattle.std.specs.Prelude.{map, Option, Some, None, MatchBool, MatchOption, bit_and}
use Rattle.bittle_bits.specs.BitPatterns.{bit_set}
use Rattle.bittle_bits.specs.Ends.{with_end}
use Rattle.bittle_bits.specs.Orders.{read_in}
use Rattle.bittle_bits.specs.PlainSet.{PlainSet, ascending_from, ascending}
use Rattle.bittle_bits.specs.Values.{kind_in}
use Rattle.bittle_bits.specs.declared.endian.Endian as endian
use Rattle.bittle_bits.specs.declared.internal.buffer.BufferedWord.{BufferedWord}
use Rattle.bittle_bits.specs.declared.kind.Kind as kind
use Rattle.bittle_bits.specs.declared.shape.Shape as shape
use Rattle.bittle_bits.specs.declared.word.Word as word

-- the list of those members of a set that are in from..to, in increasing order
unfoldable pub members_between : PlainSet → ℕ → ℕ → List ℕ
members_between s from to = ascending_from s.has from (to - from)

-- The indexes of the set bits of a word of w bits, read in an order, each plus base. If the word
-- was fetched from a set in which its first bit has the index base, these are the indexes of its
-- set bits in that set.
abbrev pub items_of : Bool → ℕ → PlainSet → ℕ → List ℕ
items_of mirrored w bits base = map (λ i. base + i) (ascending (read_in mirrored w bits))

-- by how much the index of a word's bit of least weight exceeds the index of the word's first bit:
-- 0 in big-endian order, w - 1 in little-endian order
abbrev pub edge_from_first : Bool → ℕ → ℕ
edge_from_first false w = 0
edge_from_first true w = w - 1

-- the bits that are left in a buffered word of w bits: those that are set in the word and in its
-- mask
abbrev pub bits_left : {W : Type 0} → ℕ → (W → ℕ) → BufferedWord W → PlainSet
bits_left w pattern c = bit_set w (bit_and (pattern c.word) (pattern c.mask))

-- the items of a buffered word, or None if no word is loaded
unfoldable pub buffered_items : {W : Type 0} → Bool → ℕ → (W → ℕ) → BufferedWord W → Option (List ℕ)
buffered_items mirrored w pattern c = cond c.is_loaded
    (Some (items_of mirrored w (bits_left w pattern c) (c.edge - edge_from_first mirrored w)))
    None

-- the indexes of a loaded word fit in 32 bits, and a buffer with no word loaded has no item
unfoldable pub IsSound : {W : Type 0} → Bool → ℕ → (W → ℕ) → BufferedWord W → Type 0
IsSound mirrored w pattern c = (c.is_loaded ≡ true →
    (first : ℕ) × (c.edge ≡ first + edge_from_first mirrored w) × (first + w < 4294967296))
    × (c.is_loaded ≡ false → ascending (read_in mirrored w (bits_left w pattern c)) ≡ [])

-- the items of a word if it is word k of a set
abbrev pub word_items : {W E : Type 0} → word.Ghosts W → endian.Ghosts E → W → ℕ → List ℕ
word_items t e v k = items_of e.mirrored t.width (bit_set t.width (t.pattern v)) (k * t.width)

-- the indexes of the bits of a kind (set or unset) in word n of a value, read in an order
abbrev pub members_in_word : {V W E K : Type 0} → shape.Ghosts V W → endian.Ghosts E →
    kind.Ghosts K → V → ℕ → List ℕ
members_in_word b e k v n = members_between (kind_in b e k v) (n * b.width) (n * b.width + b.width)

-- the items of a buffered word, or None if no word is loaded
abbrev pub items_held : {W E : Type 0} → word.Ghosts W → endian.Ghosts E → BufferedWord W →
    Option (List ℕ)
items_held t e c = buffered_items e.mirrored t.width t.pattern c

-- a buffered word is sound, as `IsSound` says
abbrev pub HoldsSound : {W E : Type 0} → word.Ghosts W → endian.Ghosts E → BufferedWord W → Type 0
HoldsSound t e c = IsSound e.mirrored t.width t.pattern c

-- two buffered words: the items that remain in each, and the counts of scans and of fetches
pub record BufferPair : Type 0 where
  pub head : Option (List ℕ)
  pub tail : Option (List ℕ)
  pub scans : ℕ
  pub fetches : ℕ

-- the items of a loaded word, or no items if no word is loaded
abbrev pub items_in : Option (List ℕ) → List ℕ
items_in None = []
items_in (Some xs) = xs

-- 1 if a word is loaded, and else 0
abbrev pub buffer_count : Option (List ℕ) → ℕ
buffer_count None = 0
buffer_count (Some xs) = 1

-- the head (for `true`) or the tail of two buffered words
abbrev pub buffer_of : Bool → BufferPair → Option (List ℕ)
buffer_of true b = b.head
buffer_of false b = b.tail

-- a scan takes the item at one end of a buffered word; or it finds that no word with an item is
-- loaded, and no word is loaded afterwards
abbrev pub ScansFrom : Bool → Option (List ℕ) → Option ℕ → Option (List ℕ) → Type 0
ScansFrom front before r after = MatchOption r ((items_in before ≡ []) × (after ≡ None))
    (λ item. (xs : List ℕ) × (before ≡ Some (with_end front item xs)) × (after ≡ Some xs))

-- r tells whether a buffer has no item; a word without an item is dropped, and a word with an item
-- stays
abbrev pub TellsExhausted : Bool → Option (List ℕ) → Option (List ℕ) → Type 0
TellsExhausted r before after = MatchBool r ((items_in before ≡ []) × (after ≡ None))
    ((items_in before ≢ []) × (after ≡ before))

-- r tells whether a fetched word has an item; if it has one, the word is loaded at an end; if it
-- has none, the test for an item counts as its scan
abbrev pub Refills : Bool → List ℕ → Bool → BufferPair → BufferPair → Type 0
Refills front xs r b c = MatchBool r
    ((xs ≢ []) × (c ≡ record {
      head = cond front (Some xs) b.head;
      tail = cond front b.tail (Some xs);
      scans = b.scans;
      fetches = b.fetches + 1;
    }))
    ((xs ≡ []) × (c ≡ record {
      head = b.head;
      tail = b.tail;
      scans = b.scans + 1;
      fetches = b.fetches + 1;
    }))
