-- How many of the answers an output got: all, or a beginning of them.
use Rattle.std.proofs.Common.{◌≡◌, ℕ, List, ◌∷◌, ◌++◌, length, sym, ap, ◌∙◌, false, refl}
use Rattle.std.proofs.Common.{true≢false, Result, Ok, Err, Some, None}
use Rattle.std.specs.Prelude.{Option, IsErr, ◌==◌, if◌then◌else◌}
use Rattle.bittle.specs.PlainSet.{PlainSet}
use Rattle.bittle_script.specs.declared.answering.Outcome.{Outcome}
use Rattle.bittle_script.specs.declared.command.Command.{Command}
use Rattle.bittle_script.specs.declared.writing.Output.{Output}
use Rattle.bittle_script.specs.Answers.{Answers, line_answers, command_answers, refusal_at, prepend}
use Rattle.bittle_script.specs.Answers.{command_text, after_command}
use Rattle.bittle_script.specs.Beginnings.{AppendsBeginning, HasBegun}
use Rattle.bittle_script.specs.Commands.{command_of}
use Rattle.bittle_script.specs.GivenAnswers.{IsGiven}
use Rattle.bittle_script.specs.Outputs.{HasPut, Puts}
use Rattle.bittle_script.proofs.Beginnings.{begun-nothing, begun-then, begun-failed}
use Rattle.bittle_script.proofs.Outputs.{put-more, puts-failed_before}

-- an output may fail after a beginning of the answers
pub IsGiven-failed : {W E : Type 0} (contents : W → Option (List ℕ)) (a b : Output W)
    (r : Result Outcome E) (given : Answers) → IsErr r → Puts contents a b r given.text →
    IsGiven contents a b r given
IsGiven-failed contents a b (Ok outcome) given failed h = absurd (true≢false (sym failed))
IsGiven-failed contents a b (Err e) given failed h = (tt, h)

-- an output got the first answers of `all`, and `left` has the rest
pub record IsUnderWay {W : Type 0} (contents : W → Option (List ℕ)) (a b : Output W)
    (all left : Answers) : Type 0 where
  pub text : HasPut contents a b all.text left.text
  pub outcome : all.outcome ≡ left.outcome

-- at first an output got nothing, and all the answers are left
pub under_way-begins : {W : Type 0} (contents : W → Option (List ℕ)) (a : Output W)
    (all left : Answers) → all ≡ left → IsUnderWay contents a a all left
under_way-begins contents a all left e = record {
  text = begun-nothing _ _ _ (ap (λ given. a.waiting ++ given.text) e);
  outcome = ap (λ given. given.outcome) e;
}

-- once a reply is put, the answers after it are left
pub under_way-after : {W : Type 0} (contents : W → Option (List ℕ)) (a b c : Output W)
    (all left rest : Answers) (reply : List ℕ) → IsUnderWay contents a b all left → left
    ≡ prepend reply rest →
    HasBegun (contents b.writer.now) (contents c.writer.now) (b.waiting ++ reply)
    c.waiting → IsUnderWay contents a c all rest
under_way-after contents a b c all left rest reply h is k = record {
  text = put-more _ _ _ a.waiting b.waiting c.waiting all.text left.text reply rest.text h.text
      (ap (λ given. given.text) is) k;
  outcome = h.outcome ∙ ap (λ given. given.outcome) is;
}

-- an output that gets the answers that are left gets all of them
pub IsGiven-after : {W E : Type 0} (contents : W → Option (List ℕ)) (a b c : Output W)
    (r : Result Outcome E) (all left : Answers) → IsUnderWay contents a b all left →
    IsGiven contents b c r left → IsGiven contents a c r all
IsGiven-after contents a b c (Ok outcome) all left h
    k = (k.0 ∙ sym h.outcome, begun-then _ _ _ _ _ _ h.text k.1)
IsGiven-after contents a b c (Err e) all left h k = (tt, begun-failed _ _ _ _ _ h.text k.1)

-- the output failed at the next reply
pub IsGiven-failed_at : {W E : Type 0} (contents : W → Option (List ℕ)) (a b : Output W)
    (r : Result Outcome E) (left rest : Answers) (reply : List ℕ) → IsErr r →
    left ≡ prepend reply rest → AppendsBeginning (contents a.writer.now)
    (contents b.writer.now) (a.waiting ++ reply) → IsGiven contents a b r left
IsGiven-failed_at contents a b r left rest reply failed is h = rw is
    (IsGiven-failed contents a b r (prepend reply rest) failed
    (puts-failed_before _ _ r a.waiting (reply ++ rest.text) reply rest.text b.waiting
    refl failed h))

-- a line that is a command is answered, and then the lines after it, from the set that the command
-- leaves
pub answers_step : (s t : PlainSet) (all lines : List (ℕ × List ℕ)) (number : ℕ) (line : List ℕ)
    (command : Command)
    → all ≡ (number, line) ∷ lines → (length line == 0) ≡ false → command_of line ≡ Some command →
    t ≡ after_command s command
    → line_answers s all ≡ prepend (command_text s command) (line_answers t lines)
answers_step s t all lines number line command is some says after =
    ap (line_answers s) is
    ∙ ap (λ b. if b then line_answers s lines else command_answers s number (command_of line)
    (λ t. line_answers t lines)) some
    ∙ ap (λ c. command_answers s number c (λ t. line_answers t lines)) says
    ∙ ap (λ m. prepend (command_text s command) (line_answers m lines)) (sym after)

-- a line that is no command is refused, and nothing after it is answered
pub answers_refused : (s : PlainSet) (all lines : List (ℕ × List ℕ)) (number : ℕ) (line : List ℕ)
    → all ≡ (number, line) ∷ lines → (length line == 0) ≡ false → command_of line ≡ None →
    line_answers s all ≡ refusal_at number
answers_refused s all lines number line is some says =
    ap (line_answers s) is
    ∙ ap (λ b. if b then line_answers s lines else command_answers s number (command_of line)
    (λ t. line_answers t lines)) some
    ∙ ap (λ c. command_answers s number c (λ t. line_answers t lines)) says
