use Rattle.std.proofs.Common.{rules, [], ◌++◌, refl, sym, ap, ◌∙◌}
use Rattle.std.specs.Prelude.{codes}
use Rattle.bittle_script.proofs.Beginnings.{begun-nothing}
use Rattle.bittle_script.proofs.Outputs.{put-more, put-more_failed, put-rest, puts-failed}
use Rattle.bittle_script.proofs.MemberLines.{spaced_numbers, join_by-spaced_numbers}
use Rattle.bittle_script.proofs.MemberLines.{spaced_numbers-more}
use Rattle.bittle_script.proofs.answering.print_members.Goals as goal

pub loop-member-init : goal.loop-member-init
loop-member-init g c =
    let left = sym c.iter_ones_in-member-items.ensures.remaining
    ∙ ap (λ w. w.remaining) (sym c.into_iter-member-iterator.ensures.into_iter_gives) in
    let line = ap (λ l. l ++ codes "\n")
    (join_by-spaced_numbers _ ∙ ap (spaced_numbers []) left) in
    record {
      same_writer = refl;
      begun = begun-nothing _ _ _ (ap (λ l. c.args.output.now.waiting ++ l) line);
    }

pub loop-member-preserved : goal.loop-member-preserved
loop-member-preserved g c =
    let next = spaced_numbers-more c.loop-member.space.now _
    (codes "\n") _ _ c.in-Some.ensures.steps.gave in
    record {
      same_writer = search rules;
      begun = put-more _ _ _ c.args.output.now.waiting c.loop-member.output.waiting _ _ _ _ _
          c.loop-member.invariant.begun next c.in_ok-put_after.ensures.puts;
    }

pub returns-in_err-put_after-clause-prints : goal.returns-in_err-put_after-clause-prints
returns-in_err-put_after-clause-prints g c =
    let next = spaced_numbers-more c.loop-member.space.now _
    (codes "\n") _ _ c.in-Some.ensures.steps.gave in
    puts-failed _ _ c.from_residual.result _ _ c.from_residual.ensures.0
    (put-more_failed _ _ _ c.args.output.now.waiting c.loop-member.output.waiting _ _ _ _
    c.loop-member.invariant.begun next c.in_err-put_after.ensures.puts)

pub returns-clause-prints : goal.returns-clause-prints
returns-clause-prints g c =
    let last = rw c.in-None.ensures.steps.gave.0 at c.loop-member.invariant.begun in
    put-rest _ _ _ c.put.result _ _ _ last c.put.ensures.puts
