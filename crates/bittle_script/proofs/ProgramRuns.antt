-- What may be answered to an input that is refused.
use Rattle.std.proofs.Common.{◌≡◌, ℕ, ◌<◌, List, length, replicate, Some, None, refl, inl, inr}
use Rattle.std.proofs.Common.{arith}
use Rattle.std.specs.Prelude.{Option, IfSome}
use Rattle.std.proofs.lemmas.Bool.{lt-ltb}
use Rattle.std.proofs.Math.ListN.{length-replicate}
use Rattle.bittle_script.specs.declared.reading.Refusal.{Refusal}
use Rattle.bittle_script.specs.declared.reading.Refusal.TheVariants.{TooLong, ReadFailed}
use Rattle.bittle_script.specs.ProgramRuns.{MayBeAnswered, refusal_answers, input_answers}

too_long : (text : List ℕ) → 4096 < length text → refusal_answers TooLong ≡ input_answers text
too_long text long = rw (lt-ltb 4096 (length text) long) refl

-- each refusal is allowed, but `TooLong` only if the text is that long
pub refusal_allowed : (remaining : Option (List ℕ)) (refusal : Refusal) →
    (refusal ≡ TooLong → IfSome remaining (λ text. 4096 < length text)) →
    MayBeAnswered remaining (refusal_answers refusal)
refusal_allowed remaining ReadFailed long = inr refl
refusal_allowed None TooLong long = inl (
  replicate 4097 0,
  tt,
  too_long (replicate 4097 0) (omega (arith, length-replicate {A = ℕ} 4097 0)),
)
refusal_allowed (Some text) TooLong long = inl (text, refl, too_long text (long refl))
