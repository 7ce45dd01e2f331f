-- The laws of operations, stated of what a call returns. Callers name these lemmas.
use Rattle.std.proofs.Common.{◌≡◌, ℕ, Bool, false, ◌||◌, refl, ◌∙◌}
use Rattle.std.proofs.Math.Bool.{or_comm}
use Rattle.bittle.specs.BitPatterns.{bit_set}
use Rattle.bittle.specs.Orders.{read_in}
use Rattle.bittle.specs.SetOperations.{union_of}
use Rattle.bittle_bits.specs.LawProofs.{bit_has-past}
use Rattle.bittle_laws.proofs.AlgebraLaws.{commutes}
use Rattle.bittle_laws.specs.AlgebraLaws.{IsBelow}

-- the bits of a word are numbers below its width
below : (w x : ℕ) → IsBelow w (bit_set w x)
below w x = record { has_capacity = refl; none_past = bit_has-past w x }

-- the union of two words is also the union of the second and the first
pub union_either_way : (w x y z : ℕ) →
    ((mirrored : Bool) → read_in mirrored w (bit_set w z)
    ≡ union_of (read_in mirrored w (bit_set w x)) (read_in mirrored w (bit_set w y))) →
    bit_set w z ≡ union_of (bit_set w y) (bit_set w x)
union_either_way w x y z both =
    both false ∙ commutes ◌||◌ or_comm w (bit_set w x) (bit_set w y) (below w x) (below w y)
