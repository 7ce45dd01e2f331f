use Rattle.std.proofs.Common.{sym, ◌∙◌}
use Rattle.bittle_bits.proofs.one_word.from_end.Goals as goal

pub returns-then-FRONT-clause-member : goal.returns-then-FRONT-clause-member
returns-then-FRONT-clause-member g c = rw (sym c.FRONT.ensures ∙ c.if-FRONT.true) c.zeros.ensures

pub returns-else-FRONT-clause-member : goal.returns-else-FRONT-clause-member
returns-else-FRONT-clause-member g c =
    rw (sym c.FRONT.ensures ∙ c.if-FRONT.false) c.zeros_rev.ensures
