-- The list of a set's members is increasing, and contains exactly the members.
use Rattle.std.proofs.Common.{ℕ, zero, suc, ◌<◌, ◌≤◌, Bool, true, false, cond, ◌∷◌, length, get_or}
use Rattle.std.proofs.Common.{arith}
use Rattle.bittle.specs.PlainSet.{ascending_from}
use Rattle.bittle.proofs.CallerLists.{ascending_below, ascending_has}
use Rattle.bittle_laws.specs.ListLaws.{ListsIncrease}

item_from : (p : ℕ → Bool) (from n k : ℕ) → k < length (ascending_from p from n) →
    from ≤ get_or (ascending_from p from n) k 0
unfolding ascending_from
item_from p from zero k h = absurd (omega arith)
item_from p from (suc n) k h = by (p from) (item_from p (suc from) n) k h
  where
    by : (b : Bool) → ((k : ℕ) → k < length (ascending_from p (suc from) n) →
        suc from ≤ get_or (ascending_from p (suc from) n) k 0) → (k : ℕ) →
        k < length (cond b (from ∷ ascending_from p (suc from) n) (ascending_from p (suc from) n)) →
        from ≤ get_or (cond b (from ∷ ascending_from p (suc from) n)
        (ascending_from p (suc from) n)) k 0
    by true later zero l = omega arith
    by true later (suc k) l = let b = later k (omega arith) in omega (arith, b)
    by false later k l = let b = later k l in omega (arith, b)

items_rise : (p : ℕ → Bool) (from n j k : ℕ) → j < k → k < length (ascending_from p from n) →
    get_or (ascending_from p from n) j 0 < get_or (ascending_from p from n) k 0
unfolding ascending_from
items_rise p from zero j k o h = absurd (omega arith)
items_rise p from (suc n) j k o h = by (p from) (item_from p (suc from) n)
    (items_rise p (suc from) n) j k o h
  where
    by : (b : Bool) → ((k : ℕ) → k < length (ascending_from p (suc from) n) →
        suc from ≤ get_or (ascending_from p (suc from) n) k 0) →
        ((j k : ℕ) → j < k → k < length (ascending_from p (suc from) n) →
        get_or (ascending_from p (suc from) n) j 0 < get_or (ascending_from p (suc from) n) k 0) →
        (j k : ℕ) → j < k → k < length (cond b (from ∷ ascending_from p (suc from) n)
        (ascending_from p (suc from) n)) →
        get_or (cond b (from ∷ ascending_from p (suc from) n) (ascending_from p (suc from) n)) j 0 <
        get_or (cond b (from ∷ ascending_from p (suc from) n) (ascending_from p (suc from) n)) k 0
    by true on up j zero o l = absurd (omega arith)
    by true on up zero (suc k) o l = let b = on k (omega arith) in omega (arith, b)
    by true on up (suc j) (suc k) o l = up j k (omega arith) (omega arith)
    by false on up j k o l = up j k o l

-- the list of every set is increasing, and contains exactly its members
pub increases : ListsIncrease
increases s = record {
  rises = items_rise s.has 0 s.capacity;
  below = ascending_below s;
  members = ascending_has s;
}
