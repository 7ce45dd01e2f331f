use Rattle.std.proofs.Common.{◌≡◌, ◌*◌, ap, ◌∙◌, arith}
use Rattle.bittle.specs.PlainSet.{members_below}
use Rattle.bittle.specs.Values.{set_in}
use Rattle.bittle_ext.proofs.RankFacts.{below_zero, end_of_words}
use Rattle.bittle_ext.proofs.select.word_of_rank.Goals as goal

pub loop-k-init : goal.loop-k-init
loop-k-init g c =
    let s = set_in g.B.Shape g.E.Endian c.args.bits.now in
    let start : 0 * g.B.Shape.width ≡ 0 = omega arith in
    omega (arith, ap (members_below s) start ∙ below_zero s)

pub returns : goal.returns
returns g c =
    let b = g.met.B.ReadWords in
    let s = set_in g.B.Shape g.E.Endian c.args.bits.now in
    let end = end_of_words g.B.Shape.width s.capacity _ _ c.loop-k.k b.width_positive
    (b.whole_words c.args.bits.now) (c.bits_capacity.ensures.value c.requires)
    c.word_width-width.ensures
    (omega (arith, c.loop-k-test.false, c.loop-k.auto.k-end)) in
    omega (arith, c.loop-k.invariant, ap (members_below s) end)
