use Rattle.std.proofs.Common.{true, false, sym, ap, ◌∙◌, arith}
use Rattle.std.proofs.Math.Nat.{mod-eq_of_lt}
use Rattle.bittle_tiers.proofs.Summaries.{bit_here, bit_elsewhere}
use Rattle.bittle_tiers.proofs.upkeep.assign_number.Goals as goal

pub returns-then-some-clause-here : goal.returns-then-some-clause-here
returns-then-some-clause-here g c = ap (λ s. s.has c.args.k) c.set_bit_in.ensures.set
    ∙ bit_here true (g.S.Shape.big c.args.summary.now) c.args.k c.requires.within
    ∙ sym c.if-some.true

pub returns-then-some-clause-others : goal.returns-then-some-clause-others
returns-then-some-clause-others g c = λ j n. ap (λ s. s.has j) c.set_bit_in.ensures.set
    ∙ bit_elsewhere true (g.S.Shape.big c.args.summary.now) c.args.k j
    (omega (arith, c.requires.within)) (rw (mod-eq_of_lt c.requires.within) n)

pub returns-else-some-clause-here : goal.returns-else-some-clause-here
returns-else-some-clause-here g c = ap (λ s. s.has c.args.k) c.clear_bit_in.ensures.set
    ∙ bit_here false (g.S.Shape.big c.args.summary.now) c.args.k c.requires.within
    ∙ sym c.if-some.false

pub returns-else-some-clause-others : goal.returns-else-some-clause-others
returns-else-some-clause-others g c = λ j n. ap (λ s. s.has j) c.clear_bit_in.ensures.set
    ∙ bit_elsewhere false (g.S.Shape.big c.args.summary.now) c.args.k j
    (omega (arith, c.requires.within)) (rw (mod-eq_of_lt c.requires.within) n)
