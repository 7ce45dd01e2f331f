use Rattle.std.proofs.Common.{◌≡◌, ℕ, ◌<◌, ◌≤◌, false}
use Rattle.bittle.specs.BitPatterns.{bit_set}
use Rattle.bittle.specs.PlainSet.{contains}
use Rattle.bittle_ext_uses.proofs.equal_sets.copied.Given as goal

abbrev pub invariant-loop-k : goal.invariant-loop-k
invariant-loop-k l = record {
  below : (j : ℕ) → j < l.k → contains (bit_set 64 l.to) j ≡ contains (bit_set 64 l.from) j;
  past : (j : ℕ) → l.k ≤ j → j < 64 → contains (bit_set 64 l.to) j ≡ false;
}
