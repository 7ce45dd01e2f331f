use Rattle.std.proofs.Common.{◌∙◌, ap, sym, subst}
use Rattle.std.proofs.iter.runs.Made.{run_of_exit}
use Rattle.std.specs.List.{fold}
use Rattle.bittle.specs.PlainSet.{with_index}
use Rattle.bittle.specs.Values.{set_in}
use Rattle.bittle_ext.proofs.inserted.insert_each.Goals as goal

pub returns-clause-runs : goal.returns-clause-runs
returns-clause-runs g c =
    let l = c.loop-index in
    let run = run_of_exit g.I.Iterator.next_gives _ l.yielded l.rest l.yielded_by c.next.new.self
    (subst (λ r. g.I.Iterator.next_gives l.rest r c.next.new.self) c.in_default.is
    c.next.ensures.steps) in (
      run.0,
      run.1,
      run.2,
      l.invariant.inserted
          ∙ ap (fold with_index (set_in g.B.Shape g.E.Endian c.args.set.now)) (sym run.3.0),
    )
