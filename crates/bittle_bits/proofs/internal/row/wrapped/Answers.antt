use Rattle.std.proofs.Common.{◌≡◌, ◌*◌, ◌%◌, ◌<◌, inl, inr, sym, arith, ◌∙◌}
use Rattle.std.proofs.lemmas.Bool.{cases_lt}
use Rattle.std.proofs.lemmas.Nat.{mod_below}
use Rattle.std.proofs.Math.Nat.{mod-eq_of_lt}
use Rattle.bittle_bits.proofs.RowCalls.{even_capacity, wraps_nowhere}
use Rattle.bittle_bits.proofs.internal.row.wrapped.Goals as goal

-- an index below the capacity wraps nowhere, and a capacity that does not fit is past every index
pub returns-then-capacity : goal.returns-then-capacity
returns-then-capacity g c =
    let row = c.bits_capacity-capacity.ensures in
    let n = c.args.len * g.T.Shape.type_capacity in
    elim (cases_lt n 4294967295) [
      | inl small ↦
          let all = row.value (c.requires.indexable, small) in
          let below : c.args.index < n = omega (arith, all, small, c.if-capacity.either) in
          (sym (mod-eq_of_lt below), below)
      | inr large ↦
          let even = even_capacity c.args.len _ _ _
          (sym g.met.T.ReadWords.leaf_width ∙ g.met.T.LeafWord.Word.whole_bytes.1)
          g.met.T.FixedCapacity.type_whole_words in
          let same : c.args.index ≡ c.args.index % n =
          wraps_nowhere _ _ even large (omega (arith, c.ranges.index)) in
          (same, omega (arith, same, mod_below c.args.index n c.requires.some))
    ]
