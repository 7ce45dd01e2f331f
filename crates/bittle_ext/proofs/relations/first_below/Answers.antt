use Rattle.std.proofs.Common.{arith}
use Rattle.bittle.specs.Values.{set_in}
use Rattle.bittle_ext.proofs.RelationFacts.{IsNext, swapped, met}
use Rattle.bittle_ext.proofs.relations.first_below.Given.{Over}
use Rattle.bittle_ext.proofs.relations.first_below.Goals.{In-Some}
use Rattle.bittle_ext.proofs.relations.first_below.Goals as goal

-- where the search of the first set has found an index
next : (g : Over) (c : goal.In-Some g) → IsNext g.K.Kind.ONES
    (set_in g.A.Shape g.E.Endian c.args.left.now) (set_in g.B.Shape g.F.Endian c.args.right.now)
    c.loop-ours.from c.args.end c.in-Some.ours
next g c = record {
  within = omega (arith, c.requires.least);
  before = c.loop-ours.invariant.before;
  first = c.in-Some.ensures;
}

pub returns-in_default-end_in : goal.returns-in_default-end_in
returns-in_default-end_in g c =
    swapped (next g (goal.at.returns-in_default-end_in g c).In-Some) c.args.end (omega arith)
    c.in_default-end_in.ensures

pub returns-then-theirs-ours : goal.returns-then-theirs-ours
returns-then-theirs-ours g c =
    met (next g (goal.at.returns-then-theirs-ours g c).In-Some) c.in-Some-end_in.theirs
    c.in-Some-end_in.ensures c.if-theirs-ours.true

pub loop-ours-preserved : goal.loop-ours-preserved
loop-ours-preserved g c =
    let found = c.in-Some-end_in.ensures in
    record {
      within = omega (arith, found.1);
      before = swapped (next g (goal.at.loop-ours-preserved g c).In-Some)
          c.in-Some-end_in.theirs (omega (arith, found.1)) found.3;
    }
