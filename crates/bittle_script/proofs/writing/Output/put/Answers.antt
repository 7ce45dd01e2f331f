use Rattle.std.proofs.Common.{rules, arith, ◌≡◌, ℕ, ◌+◌, ◌<◌, List, [], ◌∷◌, ◌++◌, length, drop}
use Rattle.std.proofs.Common.{get_or, drop-cons}
use Rattle.bittle_script.proofs.Outputs.{put-more, put-more_failed, puts-failed}
use Rattle.bittle_script.proofs.writing.Output.put.Goals as goal

next : (bytes : List ℕ) (i : ℕ) → i < length bytes →
    drop i bytes ≡ (get_or bytes i 0 ∷ []) ++ drop (i + 1) bytes
next bytes i within = grind (arith, drop-cons)

pub returns-in_err-put_byte-clause-puts : goal.returns-in_err-put_byte-clause-puts
returns-in_err-put_byte-clause-puts g c =
    let bytes = c.args.bytes.now in
    puts-failed _ _ c.from_residual.result _ _ c.from_residual.ensures.0
    (put-more_failed _ _ _ c.args.self.now.waiting c.loop-byte.self.waiting bytes _ _ _
    c.loop-byte.invariant.begun (next bytes c.loop-byte.byte-index (search rules))
    c.in_err-put_byte.ensures.puts)

pub loop-byte-preserved : goal.loop-byte-preserved
loop-byte-preserved g c =
    let bytes = c.args.bytes.now in
    record {
      same_writer = search rules;
      interrupted = search rules;
      begun = put-more _ _ _ c.args.self.now.waiting c.loop-byte.self.waiting
          c.put_byte.new.self.waiting bytes _ _ _ c.loop-byte.invariant.begun
          (next bytes c.loop-byte.byte-index (search rules)) c.in_ok-put_byte.ensures.puts;
    }
