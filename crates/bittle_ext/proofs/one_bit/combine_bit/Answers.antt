use Rattle.std.proofs.Common.{◌≡◌, ◌∙◌, ◌%◌, ap}
use Rattle.std.proofs.Math.Nat.{mod-mod}
use Rattle.bittle.specs.Values.{set_in}
use Rattle.bittle_ext.proofs.OneBit.{combined_as}
use Rattle.bittle_ext.proofs.RotatedSets.{contains_as}
use Rattle.bittle_ext.proofs.one_bit.combine_bit.Goals.{then-index-capacity, else-index-capacity}
use Rattle.bittle_ext.proofs.one_bit.combine_bit.Given.{Over}
use Rattle.bittle_ext.proofs.one_bit.combine_bit.Goals as goal

-- the index that is combined wraps to the same one as the index that was given
abbrev wraps : (g : Over) (c : goal.After-combine_within g) →
    c.if-index-capacity.index % (g.B.Shape.big c.args.set.now).capacity
    ≡ c.args.index % (g.B.Shape.big c.args.set.now).capacity
wraps g c =
    let n = (g.B.Shape.big c.args.set.now).capacity in
    elim c.if-index-capacity.branch [
      | then-index-capacity w ↦ ap (λ i. i % n) w.index-is
      | else-index-capacity w ↦ ap (λ i. i % n) w.index-is
          ∙ rw (c.bits_capacity-capacity.ensures.value c.requires.fits) (mod-mod c.args.index n)
    ]

pub returns-clause-was_set : goal.returns-clause-was_set
returns-clause-was_set g c = c.combine_within.ensures.was_set
    ∙ contains_as (set_in g.B.Shape g.E.Endian c.args.set.now) _ _ (wraps g c)

pub returns-clause-set : goal.returns-clause-set
returns-clause-set g c = c.combine_within.ensures.set
    ∙ combined_as g.O.Operation.decide (set_in g.B.Shape g.E.Endian c.args.set.now) _ _ (wraps g c)
