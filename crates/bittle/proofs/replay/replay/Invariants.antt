use Rattle.std.proofs.Common.{◌≡◌, take}
use Rattle.bittle.specs.Machine.{replies_of, final_set}
use Rattle.bittle.proofs.replay.replay.Given as goal
use Rattle.bittle_bits.specs.Values.{set_in}

abbrev pub invariant-loop-i : goal.invariant-loop-i
invariant-loop-i g l =
    let s = set_in g.B.Shape g.E.Endian l.initial.bits in
    record {
      replies : take l.i l.replies ≡ replies_of s (take l.i l.calls);
      set : set_in g.B.Shape g.E.Endian l.bits
          ≡ final_set s (take l.i l.calls);
      stays : g.B.Shape.loan l.initial.bits ≡ g.B.Shape.loan l.bits;
    }
