use Rattle.std.proofs.Common.{refl, ap, Err}
use Rattle.bittle_script.specs.ProgramRuns.{refusal_answers}
use Rattle.bittle_script.proofs.ProgramRuns.{refusal_allowed}
use Rattle.bittle_script.proofs.AnswerWriting.{IsGiven-failed}
use Rattle.bittle_script.proofs.Outputs.{puts-failed}
use Rattle.bittle_script.proofs.answer_input.Goals as goal

pub returns-in_err-put-in-Err-clause-answered : goal.returns-in_err-put-in-Err-clause-answered
returns-in_err-put-in-Err-clause-answered g c =
    let given = refusal_answers c.in-Err.refusal in
    let r = c.from_residual.result in
    let failed = c.from_residual.ensures.0 in
    let new = c.put.new.self in
    let written = rw c.message.ensures at c.in_err-put-in-Err.ensures.puts in (
      given,
      refusal_allowed _ c.in-Err.refusal (λ e. c.in-Err.ensures.longer (ap Err e)),
      IsGiven-failed g.W.Write.contents c.args.output.now new r given failed
          (puts-failed _ _ r _ new.waiting failed written),
    )

pub returns-in_ok-put-in-Err-clause-answered : goal.returns-in_ok-put-in-Err-clause-answered
returns-in_ok-put-in-Err-clause-answered g c = (
  refusal_answers c.in-Err.refusal,
  refusal_allowed _ c.in-Err.refusal (λ e. c.in-Err.ensures.longer (ap Err e)),
  (refl, rw (← c.message.ensures) c.in_ok-put-in-Err.ensures.puts),
)
