use Rattle.bittle_script.proofs.AnswerWriting.{IsGiven-failed}
use Rattle.bittle_script.proofs.Beginnings.{begun-all, begun-failed}
use Rattle.bittle_script.proofs.Outputs.{puts-failed}
use Rattle.bittle_script.proofs.answer_and_flush.Goals as goal

pub returns-in_err-flush-clause-answered : goal.returns-in_err-flush-clause-answered
returns-in_err-flush-clause-answered g c =
    let (given, allowed, put) = c.in_ok-outcome.ensures.answered in
    let r = c.from_residual-in_err-flush.result in
    let failed = c.from_residual-in_err-flush.ensures.0 in
    let new = c.flush.new.self in (
      given,
      allowed,
      IsGiven-failed g.W.Write.contents c.args.output.now new r given failed
          (puts-failed _ _ r _ new.waiting failed
          (begun-failed _ _ _ _ _ put.1 c.in_err-flush.ensures.bytes)),
    )

pub returns-clause-answered : goal.returns-clause-answered
returns-clause-answered g c =
    let (given, allowed, put) = c.in_ok-outcome.ensures.answered in (
      given,
      allowed,
      (
        put.0,
        rw c.in_ok-flush.ensures.empty
            (begun-all _ _ _ _ _ put.1 c.in_ok-flush.ensures.bytes),
      ),
    )
