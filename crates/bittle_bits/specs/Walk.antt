-- What contracts see of an iterator: a record that is called a walk here.
use Rattle.std.specs.Prelude.{◌≡◌, ℕ, ◌+◌, ◌<◌, ◌≤◌, Bool, true, false, List, length, slice_index}
use Rattle.std.specs.Prelude.{Option, Some, None}
use Rattle.std.specs.Iterator.{YieldsFirst, YieldsLast}
use Rattle.std.specs.Iterator.Runs.{YieldsInOrder, YieldsInReverse}
use Rattle.bittle_bits.specs.PlainSet.{PlainSet, complement}

-- the set that a walk goes over: the set itself for ones, its complement for zeros
abbrev pub ones_or_zeros : Bool → PlainSet → PlainSet
ones_or_zeros true s = s
ones_or_zeros false s = complement s

-- each number of the list is below c, and there are at most c of them
abbrev pub AreBelow : ℕ → List ℕ → Type 0
AreBelow c xs = (length xs ≤ c) × ((k : ℕ) → k < length xs → slice_index xs k < c)

-- a walk: what contracts see of an iterator
pub record Walk : Type 0 where
  -- the items that remain, in increasing order
  pub remaining : List ℕ
  -- how many scans of words it has made, and how many items it has yielded
  pub scans : ℕ
  pub items : ℕ
  -- How many words it has fetched, how many it has not fetched yet, and how many it never fetches.
  -- It never fetches a word that its set passed over. A clone never fetches a word that its source
  -- had fetched or passed over.
  pub fetches : ℕ
  pub unread : ℕ
  pub passed : ℕ
  -- how many words its set has
  pub words : ℕ

-- There are at least as many scans as items yielded, and at most as many as items and words
-- together. Each word is counted once: as fetched, as unread or as passed over (skipped).
pub record IsScanBounded (w : Walk) : Type 0 where
  pub at_least : w.items ≤ w.scans
  pub at_most : w.scans ≤ w.items + w.words
  pub once : w.fetches + w.unread + w.passed ≡ w.words

-- the count n after a step: one more if the step yielded an item
abbrev pub count_after : ℕ → Option ℕ → ℕ
count_after n None = n
count_after n (Some item) = n + 1

-- a step: it returned what `gives` states, and each word that it fetched or passed over was unread
-- before
pub record Steps (gives : Walk → Option ℕ → Walk → Type 0) (before : Walk) (r : Option ℕ)
    (after : Walk) : Type 0 where
  pub gave : gives before r after
  pub items : after.items ≡ count_after before.items r
  pub scans : before.scans ≤ after.scans
  pub fetches : before.fetches ≤ after.fetches
  pub passed : before.passed ≤ after.passed
  pub unread : after.fetches + after.unread + after.passed
      ≡ before.fetches + before.unread + before.passed
  pub words : after.words ≡ before.words
  pub bounded : IsScanBounded after

-- a part of a step in which no item was yielded: the same items remain, and each word that was
-- fetched or passed over was unread before
pub record Seeks (before after : Walk) : Type 0 where
  pub remaining : after.remaining ≡ before.remaining
  pub items : after.items ≡ before.items
  pub scans : before.scans ≤ after.scans
  pub fetches : before.fetches ≤ after.fetches
  pub passed : before.passed ≤ after.passed
  pub unread : after.fetches + after.unread + after.passed
      ≡ before.fetches + before.unread + before.passed
  pub words : after.words ≡ before.words

-- a step from the front returned the first item that was left, or None if none was left
abbrev pub StepsFront : Walk → Option ℕ → Walk → Type 0
StepsFront = Steps (YieldsFirst (λ w. w.remaining))

-- a step from the back returned the last item that was left, or None if none was left
abbrev pub StepsBack : Walk → Option ℕ → Walk → Type 0
StepsBack = Steps (YieldsLast (λ w. w.remaining))

-- A walk that has not stepped yet, and has fetched at most one word. The last two fields say what
-- runs of steps yield.
pub record IsFresh (words : ℕ) (w : Walk) : Type 0 where
  pub scans : w.scans ≡ 0
  pub items : w.items ≡ 0
  pub fetches : w.fetches ≤ 1
  pub words_are : w.words ≡ words
  pub bounded : IsScanBounded w
  pub in_order : YieldsInOrder StepsFront (λ s. s.remaining)
  pub in_reverse : YieldsInReverse StepsBack (λ s. s.remaining)

-- A clone has the remaining items and the unread words of its source. The words that its source had
-- fetched or passed over count as passed over. The clone's other counts (scans, items, fetches) are
-- 0.
pub record ResumesAs (source clone : Walk) : Type 0 where
  pub remaining : clone.remaining ≡ source.remaining
  pub unread : clone.unread ≡ source.unread
  pub fetches : clone.fetches ≡ 0
  pub fresh : IsFresh source.words clone

-- if an iterator over a list of numbers takes steps from the front, they yield the items in order
abbrev pub ListsInOrder : Type 0
ListsInOrder = YieldsInOrder (YieldsFirst (λ (items : List ℕ). items)) (λ items. items)

-- if an iterator over a list of numbers takes steps from the back, they yield the items in reverse
abbrev pub ListsInReverse : Type 0
ListsInReverse = YieldsInReverse (YieldsLast (λ (items : List ℕ). items)) (λ items. items)
