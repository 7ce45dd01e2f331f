use Rattle.std.proofs.Common.{◌≡◌, ◌/◌, refl, arith}
use Rattle.bittle_tiers.proofs.Summaries.{word_index}
use Rattle.bittle_tiers.proofs.upkeep.rebuild.Goals as goal

pub refresh_range-requires-clause-others : goal.refresh_range-requires-clause-others
refresh_range-requires-clause-others g c = λ k out within.
    let law = g.met.B.ReadWords in
    let big = g.B.Shape.big c.args.map.now in
    let fits = c.requires.map_fits in
    let bits = c.fixed_capacity.ensures.value (fits, g.met.B.FixedCapacity.type_fits fits) in
    let size = g.met.B.FixedCapacity.one_capacity c.args.map.now in
    let count : c.fixed_capacity.result / c.word_width.result ≡ big.capacity / g.B.Shape.width =
    rw (bits, c.word_width.ensures, size) refl in
    absurd (omega (
      arith,
      count,
      out (omega arith),
      word_index g.B.Shape.width k big.capacity law.width_positive
          (law.whole_words c.args.map.now) within,
    ))
