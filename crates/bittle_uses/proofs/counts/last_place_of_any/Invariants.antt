use Rattle.std.proofs.Common.{◌≡◌, ◌+◌, ◌-◌, length}
use Rattle.std.specs.Iterator.Adapters.{enumerate_count, enumerate_source}
use Rattle.bittle_uses.proofs.counts.last_place_of_any.Given as goal

abbrev pub invariant-loop-place : goal.invariant-loop-place
invariant-loop-place g l =
    let whole = length (enumerate_source l.initial.place-iterator).remaining in
    record {
      last : l.last ≡ enumerate_count l.place-iterator - 1;
      count : enumerate_count l.place-iterator + length
          (enumerate_source l.place-iterator).remaining
          ≡ whole;
    }
