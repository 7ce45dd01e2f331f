use Rattle.std.proofs.Common.{refl}
use Rattle.std.specs.Prelude.{codes, ◌++◌}
use Rattle.std.specs.Fmt.{decimal}
use Rattle.bittle_script.specs.Answers.{refusal_at, refusal_of}
use Rattle.bittle_script.proofs.Beginnings.{begun-then}
use Rattle.bittle_script.proofs.AnswerWriting.{IsGiven-failed}
use Rattle.bittle_script.proofs.Outputs.{put-first, puts-after, puts-failed, puts-failed_before}
use Rattle.bittle_script.proofs.answering.refuse.Goals as goal

pub returns-in_err-put_after-clause-refused : goal.returns-in_err-put_after-clause-refused
returns-in_err-put_after-clause-refused g c =
    let n = c.args.number in
    let output = c.args.output.now in
    let new = c.put_after.new.self in
    let r = c.from_residual.result in
    let failed = c.from_residual.ensures.0 in
    IsGiven-failed g.W.Write.contents output new r (refusal_at n) failed
    (puts-failed_before _ _ r output.waiting (refusal_of n) (codes "line " ++ decimal n)
    (codes ": not understood\n") new.waiting refl failed c.in_err-put_after.ensures.puts)

pub returns-in_err-put-clause-refused : goal.returns-in_err-put-clause-refused
returns-in_err-put-clause-refused g c =
    let n = c.args.number in
    let output = c.args.output.now in
    let new = c.put.new.self in
    let r = c.from_residual-in_err-put.result in
    let failed = c.from_residual-in_err-put.ensures.0 in
    IsGiven-failed g.W.Write.contents output new r (refusal_at n) failed
    (puts-after _ _ _ r output.waiting c.put_after.new.self.waiting new.waiting (refusal_of n)
    (codes "line " ++ decimal n) (codes ": not understood\n") refl c.in_ok-put_after.ensures.puts
    (puts-failed _ _ r _ _ failed c.in_err-put.ensures.puts))

pub returns-clause-refused : goal.returns-clause-refused
returns-clause-refused g c =
    let n = c.args.number in (
      refl,
      begun-then _ _ _ _ _ _ (put-first _ _ c.args.output.now.waiting c.put_after.new.self.waiting
          (refusal_of n) (codes "line " ++ decimal n) (codes ": not understood\n") refl
          c.in_ok-put_after.ensures.puts) c.in_ok-put.ensures.puts,
    )
