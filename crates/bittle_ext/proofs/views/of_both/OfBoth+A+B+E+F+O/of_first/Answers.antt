use Rattle.std.proofs.Common.{◌%◌, ap, sym, ◌∙◌, arith}
use Rattle.bittle.specs.PlainSet.{PlainSet, ascending}
use Rattle.bittle.specs.Values.{set_in}
use Rattle.bittle_ext.specs.Views.{decided_until}
use Rattle.bittle_ext.proofs.ViewFacts.{ascending_longer, holds_first, multiple}
use Rattle.bittle_ext.proofs.views.of_both.OfBoth+A+B+E+F+O.of_first.Goals as goal

pub until-requires-clause-holds : goal.until-requires-clause-holds
until-requires-clause-holds g c =
    let a = g.met.A.ReadWords in
    let ends = c.capacity_of.ensures.ends in
    holds_first g.O.Operation.decide ends (set_in g.B.Shape g.F.Endian c.args.right.now)
    g.A.Shape.width g.met.O.FirstOperation.keeps_first
    (omega (arith, ends.capacity, c.requires.left_fits.1))
    (ap (λ n. n % g.A.Shape.width) ends.capacity
    ∙ multiple g.A.Shape.width _ (a.whole_words c.args.left.now))

pub returns-clause-items : goal.returns-clause-items
returns-clause-items g c =
    let s = set_in g.A.Shape g.E.Endian c.args.left.now in
    let t = set_in g.B.Shape g.F.Endian c.args.right.now in
    let f = g.O.Operation.decide in
    let ends = c.capacity_of.ensures.ends in
    ap (λ (u : PlainSet). ascending u) c.until.ensures.set
    ∙ sym (ascending_longer (λ i. f (s.has i) (t.has i)) c.capacity_of.result _
    (omega (arith, ends.capacity)) (λ i h.
    ap (λ b. f b (t.has i)) (ends.past i (omega (arith, h, ends.capacity)))
    ∙ g.met.O.FirstOperation.keeps_first (t.has i)))

pub returns-clause-set : goal.returns-clause-set
returns-clause-set g c = c.until.ensures.set ∙ ap (λ n. decided_until g.O.Operation.decide n
    (set_in g.A.Shape g.E.Endian c.args.left.now) (set_in g.B.Shape g.F.Endian c.args.right.now))
    c.capacity_of.ensures.ends.capacity
