-- Numbers that stay set or unset in a set, such as those past the last page of an allocator.
use Rattle.std.specs.Prelude.{ℕ, zero, suc, ◌-◌, Bool, true, not, ◌&&◌, ◌||◌}
use Rattle.bittle.specs.PlainSet.{PlainSet, complement}

-- whether each of the n numbers from `from` on passes the test p
unfoldable pub each_from : (ℕ → Bool) → ℕ → ℕ → Bool
each_from p from zero = true
each_from p from (suc n) = p from && each_from p (suc from) n

-- whether each number of from..to is a member
unfoldable pub has_span : PlainSet → ℕ → ℕ → Bool
has_span s from to = each_from s.has from (to - from)

-- whether each number of from..to is below the capacity, and no member
unfoldable pub lacks_span : PlainSet → ℕ → ℕ → Bool
lacks_span s from to = has_span (complement s) from to

-- whether each member of the second set is a member of the first
unfoldable pub includes : PlainSet → PlainSet → Bool
includes s r = each_from (λ k. not (r.has k) || s.has k) 0 r.capacity
