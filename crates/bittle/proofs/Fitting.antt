-- All proofs that a shape fits are equal.
use Rattle.std.proofs.Common.{◌≡◌, ℕ, Bool, false, sym, ap, subst}
use Rattle.std.proofs.Math.Bool.{Bool-set}
use Rattle.std.specs.Coded.{le_prop}
use Rattle.bittle_bits.specs.Orders.{read_in}
use Rattle.bittle_bits.specs.PlainSet.{PlainSet}
use Rattle.bittle_bits.specs.Shapes.{Fits}

-- any two proofs that a shape fits are equal
pub fits_one : (indexable : Bool) (c : ℕ) → IsProp (Fits indexable c)
fits_one indexable c = hlevel (Bool-set, le_prop)

-- a set fits if the same set, as read in big-endian order, fits
pub still_fits : (indexable : Bool) (w : ℕ) (s t : PlainSet) → read_in false w s ≡ t →
    Fits indexable t.capacity → Fits indexable s.capacity
still_fits indexable w s t e = subst (Fits indexable) (sym (ap (λ r. r.capacity) e))
