-- What a join yields: the items of an iterator at the members of a mask.
use Rattle.std.specs.Prelude.{◌≡◌, ℕ, ◌+◌, ◌-◌, ◌<◌, ◌≤◌, Bool, true, false, List, [], ◌∷◌, ◌++◌}
use Rattle.std.specs.Prelude.{length, take, drop, Option, None, MatchOption, slice_get, slice_index}
use Rattle.std.specs.Prelude.{⊤}
use Rattle.std.specs.Iterator.{SkipsThenYields, Yields, YieldsThen}
use Rattle.bittle_bits.specs.Walk.{Walk}

-- each number is above the one before it, and the first is at least `from`
abbrev pub IsAscendingFrom : ℕ → List ℕ → Type 0
IsAscendingFrom from [] = ⊤
IsAscendingFrom from (m ∷ ms) = (from ≤ m) × IsAscendingFrom (m + 1) ms

-- a join, as contracts see it
pub record Join (I : Type 0) : Type 0 where
  -- the iterator over the members of the mask
  pub mask : Walk
  -- the iterator whose items are joined
  pub iter : I
  -- the position of the next item of `iter`, counted from 0 at the start of the join; it is of no
  -- use once the join has returned `None`
  pub taken : ℕ
  -- whether the join has returned `None`
  pub ended : Bool

-- the position after the last of these members, or `from` if there is none
abbrev pub position_after : ℕ → List ℕ → ℕ
position_after from [] = from
position_after from (m ∷ ms) = position_after (m + 1) ms

module _ {I A : Type 0} (steps : I → Option A → I → Type 0) where
  -- If the mask has members left, a call takes the first of them, m, from the mask. It returns the
  -- item at position m of the iterator, counted from the iterator's first item, or `None` if there
  -- is no such item. If no member is left, the call takes nothing and returns `None`.
  abbrev pub JoinsNext : List ℕ → Join I → Option A → Join I → Type 0
  JoinsNext [] s r t = (r ≡ None) × (t.mask.remaining ≡ []) × (t.iter ≡ s.iter)
      × (t.taken ≡ s.taken)
  JoinsNext (m ∷ ms) s r t = (t.mask.remaining ≡ ms) × (t.taken ≡ m + 1)
      × SkipsThenYields steps s.iter
      (m - s.taken) r t.iter

  -- once it has returned `None`, a join returns `None` and steps neither its mask nor its iterator
  abbrev pub join_steps : Join I → Option A → Join I → Type 0
  join_steps s r t = MatchOption r (t.ended ≡ true) (λ _. t.ended ≡ false)
      × (s.ended ≡ true → (r ≡ None) × (t ≡ s))
      × (s.ended ≡ false → JoinsNext s.mask.remaining s r t)

-- The items `taken` were taken from an iterator whose next item was at position `from`. They go up
-- to the position of the last member that has an answer. Answer k is the taken item whose position
-- is member k.
pub record IsJoin {A : Type 0} (from : ℕ) (members : List ℕ) (taken answers : List A) : Type 0 where
  pub among : length answers ≤ length members
  pub given : (k : ℕ) → k < length answers →
      slice_get answers k ≡ slice_get taken (slice_index members k - from)
  pub long : from + length taken ≡ position_after from (take (length answers) members)

module _ {I A : Type 0} (steps : I → Option A → I → Type 0) (s : Join I) where
  -- The items that a join returns before `None` are the iterator's items whose positions are the
  -- members of the mask, in increasing order. The join takes no item past the last of these
  -- positions.
  abbrev pub AnswersItemsAtMembers : Type 0
  AnswersItemsAtMembers = (answers : List A) (t : Join I) → Yields (join_steps steps) s answers t
      → (taken : List A) × Yields steps s.iter taken t.iter
      × IsJoin s.taken s.mask.remaining taken answers
      × (t.mask.remaining ≡ drop (length answers) s.mask.remaining)
      × (t.taken ≡ s.taken + length taken)
      × (t.ended ≡ false)

  -- If no member was left, no further item was taken. Else the iterator ended, and it has no item
  -- at the position of the next member.
  abbrev pub EndsAt : List A → List ℕ → Join I → Type 0
  EndsAt taken [] t = Yields steps s.iter taken t.iter
  EndsAt taken (m ∷ ms) t = (last : List A) × YieldsThen steps s.iter (taken ++ last) None t.iter
      × (s.taken + length (taken ++ last) ≤ m)

  -- A join ends in one of two ways. It ends after the last member, and takes no further item. Or it
  -- ends at the first member for which the iterator has no item, and the iterator has ended too.
  abbrev pub EndsAfterMembers : Type 0
  EndsAfterMembers = (answers : List A) (t : Join I) →
      YieldsThen (join_steps steps) s answers None t
      → (taken : List A) × IsJoin s.taken s.mask.remaining taken answers
      × EndsAt taken (drop (length answers) s.mask.remaining) t
