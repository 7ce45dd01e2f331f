-- How much of the answers an output received.
use Rattle.std.specs.Prelude.{◌≡◌, List, ℕ, Option, Result, IfOk}
use Rattle.bittle_script.specs.declared.answering.Outcome.{Outcome}
use Rattle.bittle_script.specs.declared.writing.Output.{Output}
use Rattle.bittle_script.specs.Answers.{Answers}
use Rattle.bittle_script.specs.Outputs.{Puts}
use Rattle.bittle_script.specs.ProgramRuns.{MayBeAnswered}

-- at `Ok` an output received all of the answers `given`, and the outcome is theirs; at `Err` a
-- beginning of what it had to write was written
abbrev pub IsGiven : {W E : Type 0} → (W → Option (List ℕ)) → Output W → Output W →
    Result Outcome E → Answers → Type 0
IsGiven contents old new r given = IfOk r (λ outcome. outcome ≡ given.outcome)
    × Puts contents old new r given.text

-- `IsGiven` for some answers that are possible for the input
abbrev pub IsAnswered : {W E : Type 0} → Option (List ℕ) → (W → Option (List ℕ)) → Output W →
    Output W → Result Outcome E → Type 0
IsAnswered remaining contents old new r = (given : Answers) × MayBeAnswered remaining given
    × IsGiven contents old new r given
