use Rattle.std.proofs.Common.{refl}
use Rattle.std.specs.Fmt.{decimal}
use Rattle.bittle_script.proofs.Outputs.{puts-after, puts-failed_before}
use Rattle.bittle_script.proofs.writing.Output.put_after.Goals as goal

pub returns-in_err-put-clause-puts : goal.returns-in_err-put-clause-puts
returns-in_err-put-clause-puts g c = puts-failed_before _ _ c.from_residual.result
    c.args.self.now.waiting _ _ (decimal c.args.number) _ refl c.from_residual.ensures.0
    c.in_err-put.ensures.puts

pub returns-clause-puts : goal.returns-clause-puts
returns-clause-puts g c = puts-after _ _ _ c.put_number.result c.args.self.now.waiting
    c.put.new.self.waiting _ _ _ (decimal c.args.number) refl c.in_ok-put.ensures.puts
    c.put_number.ensures.puts
