use Rattle.std.proofs.Common.{◌≡◌, ℕ, ◌+◌, ◌%◌, ◌<◌, [], ◌∷◌, sym, ap, ◌∙◌, arith}
use Rattle.std.specs.Fmt.{decimal}
use Rattle.std.proofs.lemmas.Fmt.{decimal_step, decimal_digit}
use Rattle.bittle_script.proofs.Outputs.{puts-after, puts-failed_before}
use Rattle.bittle_script.proofs.writing.Output.+put_number.Goals as goal
use Rattle.bittle_script.proofs.writing.Output.+put_number.Goals.{then-number-ge10+in_ok-put_number}
use Rattle.bittle_script.proofs.writing.Output.+put_number.Goals.{else-number-ge10}

only_digit : (n : ℕ) → n < 10 → decimal n ≡ (48 + n % 10) ∷ []
only_digit n short = let e : 48 + n % 10 ≡ 48 + n = omega arith in
    decimal_digit n short ∙ ap (λ d. d ∷ []) (sym e)

pub returns-in_err-put_number-clause-puts : goal.returns-in_err-put_number-clause-puts
returns-in_err-put_number-clause-puts g t c =
    let n = c.args.number in
    puts-failed_before _ _ c.from_residual.result c.args.self.now.waiting (decimal n) _
    ((48 + n % 10) ∷ []) _ (decimal_step n (omega arith) (omega arith)) c.from_residual.ensures.0
    c.in_err-put_number.ensures.puts

pub returns-clause-puts : goal.returns-clause-puts
returns-clause-puts g t c =
    let n = c.args.number in
    elim c.if-number-ge10.branch [
      | then-number-ge10+in_ok-put_number w ↦
          let last = rw w.self-is at c.put_byte.ensures.puts in
          puts-after _ _ _ c.put_byte.result c.args.self.now.waiting w.put_number.new.self.waiting _
          (decimal n) _ ((48 + n % 10) ∷ []) (decimal_step n (omega arith) (omega arith))
          w.in_ok-put_number.ensures.puts last
      | else-number-ge10 w ↦
          let last = rw w.self-is at c.put_byte.ensures.puts in
          rw (only_digit n (omega arith)) last
    ]
