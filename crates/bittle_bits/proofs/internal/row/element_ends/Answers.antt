use Rattle.std.proofs.Common.{arith}
use Rattle.std.proofs.Math.Nat.{lt_of_mul-lt-mul_right}
use Rattle.bittle_bits.proofs.RowSpans.{some_each}
use Rattle.bittle_bits.proofs.internal.row.element_ends.Goals as goal

pub ends-first-requires-clause-some : goal.ends-first-requires-clause-some
ends-first-requires-clause-some g c =
    let fits = c.requires.fits in
    let each = c.fixed_capacity-each.ensures.value (fits, g.met.T.FixedCapacity.type_fits fits) in
    rw each (some_each c.args.to c.args.len _ (omega (arith, c.requires.ordered)) c.requires.within)

pub returns : goal.returns
returns g c =
    let fits = c.requires.fits in
    let each = c.fixed_capacity-each.ensures.value (fits, g.met.T.FixedCapacity.type_fits fits) in
    let at = rw each at c.ends-first.ensures in
    record {
      each = each;
      at = at;
      last = lt_of_mul-lt-mul_right g.T.Shape.type_capacity
          (omega (arith, at.to, c.requires.within));
    }
