use Rattle.std.proofs.Common.{inl, inr, arith}
use Rattle.bittle.specs.Values.{set_in}
use Rattle.bittle_ext.proofs.RunFacts.{first_of_kind_within, run_of_kind_inside}
use Rattle.bittle_ext.proofs.runs.run_in_range.Goals.{then-length-eq0, else-length-eq0}
use Rattle.bittle_ext.proofs.runs.run_in_range.Goals as goal

pub returns-clause-run : goal.returns-clause-run
returns-clause-run g c =
    let s = set_in g.B.Shape g.E.Endian c.args.bits.now in
    let capacity = c.bits_capacity-capacity.ensures.value c.requires in
    first_of_kind_within g.K.Kind.ONES s c.args.from c.args.to c.args.length c.if-length-eq0.end
    c.next_run_before.result
    (elim c.if-length-eq0.branch [
      | then-length-eq0 w ↦ inl (w.if-length-eq0.true, omega (arith, w.end-is, capacity))
      | else-length-eq0 w ↦ inr (
        omega (arith, w.if-length-eq0.false),
        omega (arith, w.end-is, w.min-end.ensures, capacity),
      )
    ])
    c.next_run_before.ensures

pub returns-clause-inside : goal.returns-clause-inside
returns-clause-inside g c = run_of_kind_inside g.K.Kind.ONES _ c.args.from c.args.to c.args.length
    c.next_run_before.result (returns-clause-run g c)
