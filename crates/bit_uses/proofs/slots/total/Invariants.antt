use Rattle.std.proofs.Common.{◌≡◌, ◌+◌, ◌≤◌, ◌*◌, length, map}
use Rattle.std.specs.Prelude.{sum}
use Rattle.bit_uses.proofs.slots.total.Given as goal

abbrev pub invariant-loop-value : goal.invariant-loop-value
invariant-loop-value g l = record {
  is_sum : l.total + sum (map (λ entry. entry.1) l.value-iterator)
      ≡ sum (map (λ entry. entry.1) l.initial.value-iterator);
  small : l.total ≤ length l.yielded * 4294967295;
}
