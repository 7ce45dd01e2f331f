-- What a run writes, depending on what it reads.
use Rattle.std.specs.Prelude.{◌≡◌, ℕ, List, Option, ◌⊎◌, IfSome, nat_lt, length, if◌then◌else◌}
use Rattle.std.specs.Io.KnownBytes.{Appends}
use Rattle.bittle_script.specs.declared.answering.Outcome.{Outcome}
use Rattle.bittle_script.specs.declared.answering.Outcome.TheVariants.{Answered, Refused}
use Rattle.bittle_script.specs.declared.reading.Refusal.{Refusal}
use Rattle.bittle_script.specs.declared.reading.Refusal.TheVariants.{TooLong, ReadFailed}
use Rattle.bittle_script.specs.Answers.{Answers, script_answers}
use Rattle.bittle_script.specs.Beginnings.{AppendsBeginning}
use Rattle.bittle_script.specs.Refusals.{message_of}

-- the answers to an input that is refused as a whole: just the message of the refusal
abbrev pub refusal_answers : Refusal → Answers
refusal_answers refusal = record { text = message_of refusal; outcome = Refused }

-- the answers to an input
abbrev pub input_answers : List ℕ → Answers
input_answers text = if nat_lt 4096 (length text) then refusal_answers TooLong else script_answers
    text

-- `given` are the answers to the bytes that the reader has left, or the refusal because a read
-- failed
abbrev pub MayBeAnswered : Option (List ℕ) → Answers → Type 0
MayBeAnswered remaining given = ((text : List ℕ) × IfSome remaining (λ all. text ≡ all)
    × (given ≡ input_answers text)) ⊎ (given ≡ refusal_answers ReadFailed)

-- the exit status of an outcome
abbrev pub status_of : Outcome → ℕ
status_of Answered = 0
status_of Refused = 2

-- either the answers were written whole and the status is that of their outcome, or a beginning of
-- them was written and the status is 1
pub record IsRun (remaining old new : Option (List ℕ)) (status : ℕ) : Type 0 where
  pub given : Answers
  pub allowed : MayBeAnswered remaining given
  pub written : ((status ≡ status_of given.outcome) × Appends old new given.text)
      ⊎ ((status ≡ 1) × AppendsBeginning old new given.text)
