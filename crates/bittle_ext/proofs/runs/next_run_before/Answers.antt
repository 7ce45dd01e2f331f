use Rattle.std.proofs.Common.{◌*◌, refl, arith}
use Rattle.std.proofs.lemmas.Grind.{div_ceil_times}
use Rattle.bittle.specs.Values.{kind_in, set_in}
use Rattle.bittle_bits.proofs.OnesOrZeros.{ones_or_zeros-capacity}
use Rattle.bittle_ext.proofs.RunFacts.{cut_off_opposite, first_run_before, first_run_past}
use Rattle.bittle_ext.proofs.RunFacts.{no_run_before, words_before, others_opposite, none_left}
use Rattle.bittle_ext.proofs.RunFacts.{no_room, run_found, run_broken}
use Rattle.bittle_ext.proofs.runs.next_run_before.Goals as goal

pub next_short_run-requires-clause-within : goal.next_short_run-requires-clause-within
next_short_run-requires-clause-within g c =
    let law = g.met.B.ReadWords in
    words_before g.B.Shape.width _ c.args.end c.div_ceil.result
    (law.whole_words c.args.bits.now) c.requires.within
    (rw (c.div_ceil.ensures, c.word_width-width.ensures)
    (div_ceil_times c.args.end g.B.Shape.width law.width_positive).1)

pub returns-in_err-start : goal.returns-in_err-start
returns-in_err-start g c =
    let w = g.B.Shape.width in
    let s = kind_in g.B.Shape g.E.Endian g.K.Kind c.args.bits.now in
    rw c.from_residual.ensures (no_run_before s c.args.from c.args.length
    (c.div_ceil.result * w) c.args.end
    (rw (c.div_ceil.ensures, c.word_width-width.ensures)
    (div_ceil_times c.args.end w g.met.B.ReadWords.width_positive).0)
    c.in_err-start.ensures)

pub overflow_add-start : goal.overflow_add-start
overflow_add-start g c =
    let law = g.met.B.ReadWords in
    let whole = words_before g.B.Shape.width _ c.args.end c.div_ceil.result
    (law.whole_words c.args.bits.now) c.requires.within
    (rw (c.div_ceil.ensures, c.word_width-width.ensures)
    (div_ceil_times c.args.end g.B.Shape.width law.width_positive).1) in
    omega (arith, c.in_ok-start.ensures.1.0, whole, c.requires.fits.1)

pub returns-then-start-length : goal.returns-then-start-length
returns-then-start-length g c =
    let w = g.B.Shape.width in
    let s = kind_in g.B.Shape g.E.Endian g.K.Kind c.args.bits.now in
    first_run_before s c.args.from c.args.length (c.div_ceil.result * w) c.args.end
    c.in_ok-start.start
    (rw (c.div_ceil.ensures, c.word_width-width.ensures)
    (div_ceil_times c.args.end w g.met.B.ReadWords.width_positive).0)
    c.in_ok-start.ensures c.if-start-length.true

pub returns-else-start-length : goal.returns-else-start-length
returns-else-start-length g c =
    let w = g.B.Shape.width in
    let s = kind_in g.B.Shape g.E.Endian g.K.Kind c.args.bits.now in
    first_run_past s c.args.from c.args.length (c.div_ceil.result * w) c.args.end
    c.in_ok-start.start
    (rw (c.div_ceil.ensures, c.word_width-width.ensures)
    (div_ceil_times c.args.end w g.met.B.ReadWords.width_positive).0)
    c.in_ok-start.ensures (omega (arith, c.if-start-length.false))

pub loop-start-init : goal.loop-start-init
loop-start-init g c = record {
  ordered = omega arith;
  within = omega (arith, c.if-end-from.false);
  whole = refl;
  some = omega (arith, c.if-length-eq0.false);
  none_before = λ k h l run. omega arith;
}

pub returns-then-end-start : goal.returns-then-end-start
returns-then-end-start g c =
    no_room c.loop-start.invariant c.in-Some.start c.in-Some.ensures c.if-end-start.true

pub returns-in_default-end_in : goal.returns-in_default-end_in
returns-in_default-end_in g c =
    let s = set_in g.B.Shape g.E.Endian c.args.bits.now in
    run_found c.loop-start.invariant (cut_off_opposite (others_opposite g.K.Kind.ONES s) c.args.end
    (omega (arith, c.requires.within, ones_or_zeros-capacity g.K.Kind.ONES s))) c.in-Some.start
    c.in-Some.ensures (omega (arith, c.if-end-start.false)) c.in_default-end_in.ensures

pub loop-start-preserved : goal.loop-start-preserved
loop-start-preserved g c =
    let s = set_in g.B.Shape g.E.Endian c.args.bits.now in
    run_broken c.loop-start.invariant (cut_off_opposite (others_opposite g.K.Kind.ONES s) c.args.end
    (omega (arith, c.requires.within, ones_or_zeros-capacity g.K.Kind.ONES s))) c.in-Some.start
    c.in-Some-end_in.gap c.in-Some.ensures (omega (arith, c.if-end-start.false))
    c.in-Some-end_in.ensures

pub returns : goal.returns
returns g c = none_left c.loop-start.invariant c.in_default.ensures
