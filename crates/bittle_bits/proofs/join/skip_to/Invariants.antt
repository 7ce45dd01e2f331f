use Rattle.std.proofs.Common.{◌≡◌, ◌+◌, List, length}
use Rattle.std.specs.Iterator.{Yields}
use Rattle.bittle_bits.proofs.join.skip_to.Given as goal

abbrev pub invariant-loop-item : goal.invariant-loop-item
invariant-loop-item g l =
    let it = g.I.Iterator in
    it.can_next l.iter
    × ((xs : List g.row.I-Item.Denot) × Yields it.next_gives l.initial.iter xs l.iter
    × (length xs + l.left ≡ l.count))

abbrev pub decreases-loop-item : goal.decreases-loop-item
decreases-loop-item g l = l.left
