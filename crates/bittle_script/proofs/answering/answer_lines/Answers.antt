use Rattle.std.proofs.Common.{rules, refl, sym, subst, ◌∙◌}
use Rattle.bittle_script.specs.GivenAnswers.{IsGiven}
use Rattle.bittle_script.proofs.AnswerWriting.{answers_step, answers_refused, IsGiven-after}
use Rattle.bittle_script.proofs.AnswerWriting.{IsGiven-failed_at, under_way-after, under_way-begins}
use Rattle.bittle_script.proofs.answering.answer_lines.Goals as goal

pub loop-line-init : goal.loop-line-init
loop-line-init g c = record {
  same_writer = refl;
  under_way = under_way-begins g.W.Write.contents c.args.output.now _ _ (rw
      (c.into_iter-line-iterator.ensures.into_iter_gives, c.zeros-bits.ensures.in_each_order) refl);
}

pub returns-in_default-clause-answers : goal.returns-in_default-clause-answers
returns-in_default-clause-answers g c =
    let some = sym c.is_empty.ensures ∙ c.if-is_empty.false in
    let refused = answers_refused _ _ _ _ _ c.in-Some.ensures.steps some
    (sym c.in_default.ensures) in
    let output = c.loop-line.output in
    let new = c.refuse.new.output in
    IsGiven-after g.W.Write.contents c.args.output.now output new c.refuse.result _ _
    c.loop-line.invariant.under_way
    (subst (IsGiven g.W.Write.contents output new c.refuse.result) (sym refused)
    c.refuse.ensures.refused)

pub loop-line-preserved : goal.loop-line-preserved
loop-line-preserved g c =
    let some = sym c.is_empty.ensures ∙ c.if-is_empty.false in
    let step = answers_step _ _ _ _ _ _ c.in-Some-parse.command c.in-Some.ensures.steps some
    (sym c.in-Some-parse.ensures) c.in_ok-obey.ensures.set in
    record {
      same_writer = search rules;
      under_way = under_way-after g.W.Write.contents c.args.output.now c.loop-line.output
          c.obey.new.output _ _ _ _ c.loop-line.invariant.under_way step
          c.in_ok-obey.ensures.prints;
    }

pub returns-in_err-obey-clause-answers : goal.returns-in_err-obey-clause-answers
returns-in_err-obey-clause-answers g c =
    let some = sym c.is_empty.ensures ∙ c.if-is_empty.false in
    let step = answers_step _ _ _ _ _ _ c.in-Some-parse.command c.in-Some.ensures.steps some
    (sym c.in-Some-parse.ensures) c.in_err-obey.ensures.set in
    let output = c.loop-line.output in
    let new = c.obey.new.output in
    let failed = IsGiven-failed_at g.W.Write.contents output new c.from_residual.result _ _ _
    c.from_residual.ensures.0 step c.in_err-obey.ensures.prints in
    IsGiven-after g.W.Write.contents c.args.output.now output new c.from_residual.result _ _
    c.loop-line.invariant.under_way failed
