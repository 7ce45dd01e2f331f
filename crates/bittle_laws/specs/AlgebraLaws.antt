-- The laws of operations on two sets of the same capacity.
use Rattle.std.specs.Prelude.{◌≡◌, ℕ, ◌≤◌, false}
use Rattle.bittle.specs.PlainSet.{PlainSet}

-- a set of capacity c, in which each member is less than c
pub record IsBelow (c : ℕ) (s : PlainSet) : Type 0 where
  pub has_capacity : s.capacity ≡ c
  pub none_past : (k : ℕ) → c ≤ k → s.has k ≡ false

-- the operation gives the same result if the two sets change places
abbrev pub Commutes : (PlainSet → PlainSet → PlainSet) → Type 0
Commutes op = (c : ℕ) (s t : PlainSet) → IsBelow c s → IsBelow c t → op s t ≡ op t s

-- with three sets, it does not matter which two neighbours are combined first
abbrev pub Associates : (PlainSet → PlainSet → PlainSet) → Type 0
Associates op = (c : ℕ) (s t u : PlainSet) → IsBelow c s → IsBelow c t → IsBelow c u →
    op (op s t) u ≡ op s (op t u)

-- the operation on a set and itself gives that set
abbrev pub IsIdempotent : (PlainSet → PlainSet → PlainSet) → Type 0
IsIdempotent op = (s : PlainSet) → op s s ≡ s

-- `op` distributes over `over`, as * distributes over + in a * (b + c) = a * b + a * c
abbrev pub DistributesOver : (PlainSet → PlainSet → PlainSet) → (PlainSet → PlainSet → PlainSet) →
    Type 0
DistributesOver over op = (c : ℕ) (s t u : PlainSet) → IsBelow c s → IsBelow c t → IsBelow c u →
    op s (over t u) ≡ over (op s t) (op s u)

-- the operation made twice with the same second set gives the first set back
abbrev pub UndoesItself : (PlainSet → PlainSet → PlainSet) → Type 0
UndoesItself op = (c : ℕ) (s t : PlainSet) → IsBelow c s → IsBelow c t → op (op s t) t ≡ s
