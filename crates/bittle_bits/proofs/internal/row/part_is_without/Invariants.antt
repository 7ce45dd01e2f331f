use Rattle.std.proofs.Common.{◌≡◌, ℕ, ◌*◌, ◌==◌, ◌<◌, ◌≤◌, true, false, cond, get_or, length}
use Rattle.bittle_bits.specs.PlainSet.{size}
use Rattle.bittle_bits.specs.Rows.{row_set}
use Rattle.bittle_bits.proofs.internal.row.part_is_without.Given as goal

abbrev pub invariant-loop-at : goal.invariant-loop-at
invariant-loop-at g l = record {
  all_without : l.without ≡ true → (k : ℕ) (d : _) → l.from ≤ k → k < l.at →
      size (g.T.Shape.big (get_or l.elements k d)) ≡ cond g.K.Kind.ONES 0 g.T.Shape.type_capacity;
  one_with : l.without ≡ false → (size
      (row_set (length l.elements) g.T.Shape.type_capacity g.T.Shape.big l.elements)
      == cond g.K.Kind.ONES 0 (length l.elements * g.T.Shape.type_capacity)) ≡ false;
}
