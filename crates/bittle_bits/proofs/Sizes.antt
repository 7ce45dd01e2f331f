-- How many members a set has.
use Rattle.std.proofs.Common.{◌≡◌, ℕ, ◌+◌, ◌*◌, ◌<◌, ◌≤◌, Bool, true, not, ◌&&◌, nat_lt, sym, ap}
use Rattle.std.proofs.Common.{◌∙◌, arith}
use Rattle.std.proofs.lemmas.Bool.{lt-ltb}
use Rattle.bittle_bits.specs.Orders.{read_in}
use Rattle.bittle_bits.specs.PlainSet.{PlainSet, size, lacks, complement, empty_set, full_set}
use Rattle.bittle_bits.specs.Relations.{IsSubset}
use Rattle.bittle_bits.proofs.Counts.{count-always, count-le, count-more, count-never, count-others}
use Rattle.bittle_bits.proofs.Counts.{count-placed, count-same}

-- the members and the other numbers below the capacity are together as many as the capacity
pub size-complement : (s : PlainSet) → size (complement s) + size s ≡ s.capacity
unfolding lacks
size-complement s =
    ap (λ n. n + size s) (count-same s.capacity (lacks s) (λ k. not (s.has k))
    (λ k l. ap (λ b. b && not (s.has k)) (lt-ltb k s.capacity l)))
    ∙ count-others s.capacity s.has

-- with a capacity of whole words, the size is the same in each order
pub size-members : (m : Bool) (w : ℕ) (s : PlainSet) → 0 < w →
    (words : ℕ) × (s.capacity ≡ words * w) → size (read_in m w s) ≡ size s
size-members m w s h whole = rw (whole.1) (count-placed m w whole.0 s.has h)

-- what holds of the size in big-endian order holds of it in each order
pub size_in_each_order : {A : Type 0} (w : ℕ) (s : PlainSet) (f : ℕ → A) (r : A) → 0 < w →
    (words : ℕ) × (s.capacity ≡ words * w) → r ≡ f (size s) → (m : Bool) →
    r ≡ f (size (read_in m w s))
size_in_each_order w s f r h whole is m = is ∙ ap f (sym (size-members m w s h whole))

-- a set has no more members than its capacity
pub size-le : (s : PlainSet) → size s ≤ s.capacity
size-le s = count-le s.capacity s.has

-- a number that is the size is at most the capacity
pub size-most : (s : PlainSet) (n : ℕ) → n ≡ size s → n ≤ s.capacity
size-most s n e = omega (arith, size-le s)

-- a set without members has size 0
pub size_emptied : (c : ℕ) (t : PlainSet) → t ≡ empty_set c → size t ≡ 0
size_emptied c t is = ap size is ∙ count-never c

-- a set with each number below its capacity has that size
pub size_filled : (c : ℕ) (t : PlainSet) → t ≡ full_set c → size t ≡ c
size_filled c t is = ap size is
    ∙ count-same c (λ k. nat_lt k c) (λ k. true) (λ k l. lt-ltb k c l)
    ∙ count-always c

-- a subset of a set of the same capacity has at most as many members
pub size_of_part : (s t : PlainSet) → t.capacity ≡ s.capacity → IsSubset s t → size s ≤ size t
size_of_part s t same each = rw same (count-more s.capacity s.has t.has (λ k _. each k))
