use Rattle.std.proofs.Common.{◌*◌, ◌/◌, ◌<◌, ◌≤◌, ap, ◌∙◌, arith}
use Rattle.std.proofs.Math.Nat.{div-mul-le_self, mul-le-mul_right}
use Rattle.bittle_bits.specs.Buffers.{buffer_of}
use Rattle.bittle_bits.specs.Values.{set_in}
use Rattle.bittle_bits.specs.Walk.{ones_or_zeros}
use Rattle.bittle_bits.proofs.RowPasses.{end_begins}
use Rattle.bittle_bits.proofs.Steps.{fetched, filled, passed_over, seeks_on}
use Rattle.bittle_bits.proofs.internal.cursor.seek.Goals as goal

pub refill-requires-clause-within : goal.refill-requires-clause-within
refill-requires-clause-within g c =
    let w = g.B.Shape.width in
    let capacity = (g.B.Shape.big c.args.source.now.set.now).capacity in
    let before = c.loop-at.invariant in
    let up : c.loop-at.at.high * w ≤ capacity / w * w = mul-le-mul_right w before.1.within in
    end_begins g.N.End.FRONT c.loop-at.at.low c.loop-at.at.high c.take_word-k.result w capacity
    g.met.B.ReadWords.width_positive c.take_word-k.ensures.number
    (omega (arith, before.1.ordered, c.if-at.false)) (omega (arith, up, div-mul-le_self capacity w))

pub returns-then-refill-clause-sought : goal.returns-then-refill-clause-sought
returns-then-refill-clause-sought g c =
    let s = ones_or_zeros g.K.Kind.ONES (set_in g.B.Shape g.E.Endian c.args.source.now.set.now) in
    let words = (g.B.Shape.big c.args.source.now.set.now).capacity / g.B.Shape.width in
    let before = c.loop-at.invariant in
    let some : c.loop-at.at.low < c.loop-at.at.high =
    omega (arith, before.1.ordered, c.if-at.false) in
    let taken = c.take_word-k.ensures in
    rw taken.taken (seeks_on before.0 (fetched s words g.B.Shape.width g.N.End.FRONT
    c.loop-at.at c.refill.new.self before.1 some (filled _ c.loop-at.at.buffers c.refill.new.self
    g.N.End.FRONT c.refill.result before.2
    (rw (taken.taken, taken.number) at c.refill.ensures))).0)

pub pass_over-requires-clause-counted : goal.pass_over-requires-clause-counted
pass_over-requires-clause-counted g c =
    let s = ones_or_zeros g.K.Kind.ONES (set_in g.B.Shape g.E.Endian c.args.source.now.set.now) in
    let words = (g.B.Shape.big c.args.source.now.set.now).capacity / g.B.Shape.width in
    let before = c.loop-at.invariant in
    let some : c.loop-at.at.low < c.loop-at.at.high =
    omega (arith, before.1.ordered, c.if-at.false) in
    let taken = c.take_word-k.ensures in
    let fills = (rw (taken.taken, taken.number) at c.refill.ensures) in
    rw taken.taken (fetched s words g.B.Shape.width g.N.End.FRONT c.loop-at.at c.refill.new.self
    before.1 some (filled _ c.loop-at.at.buffers c.refill.new.self g.N.End.FRONT c.refill.result
    before.2 fills)).1

pub loop-at-preserved : goal.loop-at-preserved
loop-at-preserved g c =
    let s = ones_or_zeros g.K.Kind.ONES (set_in g.B.Shape g.E.Endian c.args.source.now.set.now) in
    let words = (g.B.Shape.big c.args.source.now.set.now).capacity / g.B.Shape.width in
    let before = c.loop-at.invariant in
    let some : c.loop-at.at.low < c.loop-at.at.high =
    omega (arith, before.1.ordered, c.if-at.false) in
    let taken = c.take_word-k.ensures in
    let fills = (rw (taken.taken, taken.number) at c.refill.ensures) in
    let after = fetched s words g.B.Shape.width g.N.End.FRONT c.loop-at.at c.refill.new.self
    before.1 some (filled _ c.loop-at.at.buffers c.refill.new.self g.N.End.FRONT c.refill.result
    before.2 fills) in
    let passed = c.pass_over.ensures in (
      seeks_on before.0 (seeks_on (rw taken.taken after.0) passed.sought),
      passed.counted,
      ap (buffer_of g.N.End.FRONT) passed.buffers
          ∙ passed_over _ c.loop-at.at.buffers c.refill.new.self g.N.End.FRONT c.refill.result
          before.2 fills c.if-refill.false,
    )
