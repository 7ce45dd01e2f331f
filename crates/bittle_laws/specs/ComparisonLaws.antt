-- Laws of how sets are ordered, tested for equality and hashed, whatever their shapes and bit
-- orders.
use Rattle.std.specs.Prelude.{◌≡◌, true}
use Rattle.std.specs.Cmp.{IsTotalOrder}
use Rattle.std.specs.Ordering.{on, is_eq, ordering_reverse}
use Rattle.bittle.specs.PlainSet.{PlainSet, ascending}
use Rattle.bittle.specs.Comparison.{list_cmp, list_eq, feed}

-- the order of sets, which compares their increasing lists of members, is total
abbrev pub OrderIsTotal : Type 0
OrderIsTotal = IsTotalOrder (on ascending list_cmp)

-- two sets are equal exactly if the comparison of their order gives `Equal`
abbrev pub OrderAgreesWithEquality : Type 0
OrderAgreesWithEquality = (s t : PlainSet) →
    list_eq (ascending s) (ascending t) ≡ is_eq (list_cmp (ascending s) (ascending t))

-- the order of two sets is reversed if the two change places
abbrev pub OrderReverses : Type 0
OrderReverses = (s t : PlainSet) → list_cmp (ascending t) (ascending s)
    ≡ ordering_reverse (list_cmp (ascending s) (ascending t))

-- equality is symmetric
abbrev pub EqualityIsSymmetric : Type 0
EqualityIsSymmetric = (s t : PlainSet) →
    list_eq (ascending t) (ascending s) ≡ list_eq (ascending s) (ascending t)

-- equal sets feed the same numbers to a hasher
abbrev pub EqualSetsFeedAlike : Type 0
EqualSetsFeedAlike = (s t : PlainSet) → list_eq (ascending s) (ascending t) ≡ true →
    feed (ascending s) ≡ feed (ascending t)
