-- A run of calls keeps the capacity.
use Rattle.std.proofs.Common.{◌≡◌, List, refl, sym, ap, ◌∙◌}
use Rattle.bittle_bits.specs.PlainSet.{PlainSet}
use Rattle.bittle.specs.Machine.{set_after, final_set}
use Rattle.bittle.specs.declared.replay.Call.{Call}
use Rattle.bittle.specs.declared.replay.Call.TheVariants.{Test, Put, Clear, ClearAll, CountOnes}
use Rattle.bittle.specs.declared.replay.Call.TheVariants.{CountZeros, AllZeros, AllOnes, Capacity}
use Rattle.bittle.proofs.Replies.{run_keeps}

-- a call keeps the capacity
pub set_after-capacity : (s : PlainSet) (x : Call) → (set_after s x).capacity ≡ s.capacity
set_after-capacity s (Test i) = refl
set_after-capacity s (Put i) = refl
set_after-capacity s (Clear i) = refl
set_after-capacity s ClearAll = refl
set_after-capacity s CountOnes = refl
set_after-capacity s CountZeros = refl
set_after-capacity s AllZeros = refl
set_after-capacity s AllOnes = refl
set_after-capacity s Capacity = refl

-- the set after a run has the capacity of the set before it
pub run-capacity : (s t : PlainSet) (xs : List Call) → t ≡ final_set s xs → s.capacity ≡ t.capacity
unfolding final_set
run-capacity s t xs e = sym (ap (λ p. p.capacity) e
    ∙ run_keeps set_after (λ p. p.capacity) set_after-capacity s xs)
