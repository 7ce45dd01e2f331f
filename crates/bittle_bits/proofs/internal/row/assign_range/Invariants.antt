use Rattle.std.proofs.Common.{true, ◌≡◌, ◌*◌, ◌≤◌, length}
use Rattle.bittle_bits.specs.Orders.{read_in}
use Rattle.bittle_bits.specs.PlainSet.{with_span_changed}
use Rattle.bittle_bits.specs.Rows.{row_set}
use Rattle.bittle_bits.proofs.internal.row.assign_range.Given as goal

abbrev pub invariant-loop-at : goal.invariant-loop-at
invariant-loop-at g l =
    let m = g.E.Endian.mirrored in
    let w = g.T.Shape.width in
    let c = g.T.Shape.type_capacity in
    let n = length l.fn.elements in
    record {
      same : length l.elements ≡ n;
      begun : l.fn.from ≤ l.at * c;
      set : read_in m w (row_set n c g.T.Shape.big l.elements)
          ≡ with_span_changed (λ b. g.O.Operation.decide b true)
          (read_in m w (row_set n c g.T.Shape.big l.fn.elements)) l.fn.from (l.at * c);
    }
