use Rattle.std.proofs.Common.{[], ◌∷◌, refl}
use Rattle.bittle_script.proofs.Outputs.{puts-after, puts-failed_before}
use Rattle.bittle_script.proofs.answering.print_number.Goals as goal

pub returns-in_err-put_number-clause-prints : goal.returns-in_err-put_number-clause-prints
returns-in_err-put_number-clause-prints g c =
    puts-failed_before _ _ c.from_residual.result c.args.output.now.waiting _ _
    (10 ∷ []) _ refl c.from_residual.ensures.0 c.in_err-put_number.ensures.puts

pub returns-clause-prints : goal.returns-clause-prints
returns-clause-prints g c =
    puts-after _ _ _ c.put.result c.args.output.now.waiting _ _ _ _
    (10 ∷ []) refl c.in_ok-put_number.ensures.puts c.put.ensures.puts
