use Rattle.std.proofs.Common.{sym, ap, ◌∙◌}
use Rattle.std.proofs.lemmas.Bool.{true≢false}
use Rattle.bittle.specs.PlainSet.{ascending}
use Rattle.bittle.specs.Values.{kind_in, set_in}
use Rattle.bittle_bits.proofs.OnesOrZeros.{ones_or_zeros-capacity}
use Rattle.bittle_ext.specs.Edges.{paired}
use Rattle.bittle_ext.proofs.EdgeRuns.{pairs_are_runs, edges_alternate}
use Rattle.bittle_ext.proofs.RunLists.{are_runs_below, runs_in_order, runs_in_reverse}
use Rattle.bittle_ext.proofs.run_iterators.IterRuns.new.Goals as goal

pub invariant_of-result : goal.invariant_of-result
invariant_of-result g c =
    let ours = set_in g.B.Shape g.E.Endian c.args.bits.now in
    let items = (rw c.new.ensures at c.new-2.ensures.remaining) ∙ ap ascending c.of.ensures.set in (
      c.requires,
      c.bits_capacity.ensures.value c.requires,
      rw items (edges_alternate (kind_in g.B.Shape g.E.Endian g.K.Kind
          c.args.bits.now) ours.capacity
          (sym (ones_or_zeros-capacity g.K.Kind.ONES ours))),
      λ h. absurd (true≢false (sym h)),
    )

pub returns-clause-items : goal.returns-clause-items
returns-clause-items g c =
    let ours = set_in g.B.Shape g.E.Endian c.args.bits.now in
    let items = (rw c.new.ensures at c.new-2.ensures.remaining) ∙ ap ascending c.of.ensures.set in
    (λ i. paired (c.bits_capacity.ensures.value c.requires i) (items i))
    ∙ pairs_are_runs (kind_in g.B.Shape g.E.Endian g.K.Kind c.args.bits.now) ours.capacity
    (sym (ones_or_zeros-capacity g.K.Kind.ONES ours))

pub returns-clause-below : goal.returns-clause-below
returns-clause-below g c =
    let ours = set_in g.B.Shape g.E.Endian c.args.bits.now in
    are_runs_below (kind_in g.B.Shape g.E.Endian g.K.Kind c.args.bits.now) _ _
    (ones_or_zeros-capacity g.K.Kind.ONES ours) (returns-clause-items g c)

pub returns-clause-in_order : goal.returns-clause-in_order
returns-clause-in_order g c = runs_in_order

pub returns-clause-in_reverse : goal.returns-clause-in_reverse
returns-clause-in_reverse g c = runs_in_reverse
