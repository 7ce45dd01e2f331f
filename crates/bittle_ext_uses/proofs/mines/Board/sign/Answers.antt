use Rattle.std.proofs.Common.{refl, sym, ◌∙◌}
use Rattle.std.proofs.lemmas.Bool.{true≢false}
use Rattle.bittle_lemmas.proofs.ExcludedSets.{unset_if_excluding}
use Rattle.bittle_ext_uses.proofs.mines.Board.sign.Goals as goal

-- a square that is shown has no mine
pub returns-then-test_bit-clause-mine : goal.returns-then-test_bit-clause-mine
returns-then-test_bit-clause-mine c mined = absurd (true≢false (sym mined
    ∙ unset_if_excluding _ _ c.args.square c.args.self.now.apart refl
    (sym c.if-test_bit.ensures.value)))

-- after the first test the square is not shown
pub returns-then-test_bit-2-clause-shown : goal.returns-then-test_bit-2-clause-shown
returns-then-test_bit-2-clause-shown c shown =
    absurd (true≢false (sym shown ∙ sym c.if-test_bit.ensures.value))

pub returns-else-test_bit-2-clause-shown : goal.returns-else-test_bit-2-clause-shown
returns-else-test_bit-2-clause-shown c shown =
    absurd (true≢false (sym shown ∙ sym c.if-test_bit.ensures.value))

pub returns-else-test_bit-2-clause-mine : goal.returns-else-test_bit-2-clause-mine
returns-else-test_bit-2-clause-mine c mined =
    absurd (true≢false (sym mined ∙ sym c.if-test_bit-2.ensures.value))
