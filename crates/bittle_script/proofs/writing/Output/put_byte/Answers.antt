use Rattle.std.proofs.Common.{[], ◌∷◌}
use Rattle.bittle_script.proofs.Beginnings.{begins-before}
use Rattle.bittle_script.proofs.Outputs.{puts-failed}
use Rattle.bittle_script.proofs.writing.Output.put_byte.Goals as goal

pub returns-in_err-send-clause-puts : goal.returns-in_err-send-clause-puts
returns-in_err-send-clause-puts g c = puts-failed _ _ c.from_residual.result _ _
    c.from_residual.ensures.0 (begins-before _ _ _ (c.args.byte ∷ []) c.in_err-send.ensures.bytes)
