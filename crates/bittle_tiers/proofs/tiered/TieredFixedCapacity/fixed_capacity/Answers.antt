use Rattle.std.proofs.Common.{◌<◌, ◌*◌, arith}
use Rattle.std.proofs.lemmas.Bool.{le-leb}
use Rattle.bittle_tiers.proofs.Summaries.{whole_reaches}
use Rattle.bittle_tiers.proofs.tiered.TieredFixedCapacity.fixed_capacity.Goals as goal

pub returns-clause-fits : goal.returns-clause-fits
returns-clause-fits g c = λ h.
    let w = g.B.Shape.width in
    let d = g.S.Shape.type_capacity in
    let map = c.fixed_capacity-bits.ensures.fits h in
    let low : c.fixed_capacity-summary.result < 4294967295 =
    omega (arith, c.fixed_capacity-summary.type_inv, c.if-summary.false) in
    let summary = c.fixed_capacity-summary.ensures.fits low in
    let wide = c.word_width.ensures in
    let enough = rw (
      c.fixed_capacity-bits.ensures.value map,
      c.fixed_capacity-summary.ensures.value summary,
      wide,
    ) at c.if-summary-bits.false in
    let reach = whole_reaches w g.B.Shape.type_capacity d g.met.B.ReadWords.width_positive
    g.met.B.FixedCapacity.type_whole_words (omega (arith, enough)) in
    (rw (map.0, summary.0) (le-leb g.B.Shape.type_capacity (d * w) reach), map.1)
