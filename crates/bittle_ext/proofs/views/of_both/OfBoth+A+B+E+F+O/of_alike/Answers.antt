use Rattle.std.proofs.Common.{◌%◌, max, ap, ◌∙◌, arith}
use Rattle.bittle.specs.PlainSet.{PlainSet, ascending}
use Rattle.bittle.specs.Values.{set_in}
use Rattle.bittle_ext.specs.Views.{decided_until}
use Rattle.bittle_ext.proofs.ViewFacts.{holds_either, multiple, whole_greater}
use Rattle.bittle_ext.proofs.views.of_both.OfBoth+A+B+E+F+O.of_alike.Goals as goal

pub until-requires-clause-holds : goal.until-requires-clause-holds
until-requires-clause-holds g c =
    let w = g.A.Shape.width in
    let a = g.met.A.ReadWords in
    let b = g.met.B.ReadWords in
    let ours = c.capacity_of.ensures.ends in
    let theirs = c.capacity_of-2.ensures.ends in
    let whole = whole_greater _ w g.B.Shape.width a.leaf_width (a.leaf_width ∙ c.requires.width)
    (a.whole_words c.args.left.now) (b.whole_words c.args.right.now) in
    holds_either g.O.Operation.decide ours theirs w g.met.O.EitherOperation.takes_second
    c.max-end.result (omega (
      arith,
      c.max-end.ensures,
      ours.capacity,
      theirs.capacity,
      c.requires.left_fits.1,
      c.requires.right_fits.1,
    ))
    (ap (λ n. n % w) (c.max-end.ensures ∙ (λ i. max (ours.capacity i) (theirs.capacity i)))
    ∙ multiple w _ whole) (omega (arith, c.max-end.ensures))

pub returns-clause-set : goal.returns-clause-set
returns-clause-set g c =
    let ours = c.capacity_of.ensures.ends in
    let theirs = c.capacity_of-2.ensures.ends in
    c.until.ensures.set ∙ ap (λ n. decided_until g.O.Operation.decide n
    (set_in g.A.Shape g.E.Endian c.args.left.now) (set_in g.B.Shape g.F.Endian c.args.right.now))
    (c.max-end.ensures ∙ (λ i. max (ours.capacity i) (theirs.capacity i)))

pub returns-clause-items : goal.returns-clause-items
returns-clause-items g c = ap (λ (u : PlainSet). ascending u) (returns-clause-set g c)
