use Rattle.std.proofs.Common.{◌-◌, ◌%◌, ap, ◌∙◌, arith}
use Rattle.bittle.specs.Values.{set_in}
use Rattle.bittle_ext.specs.Rotations.{rotated_down}
use Rattle.bittle_ext.proofs.RotatedWords.{rotated_nothing, rotated_wrapped}
use Rattle.bittle_ext.proofs.in_place_rotations.rotate_up.Goals as goal

pub returns-then-capacity-gt0-clause-set : goal.returns-then-capacity-gt0-clause-set
returns-then-capacity-gt0-clause-set g c =
    let s = set_in g.B.Shape g.E.Endian c.args.set.now in
    let by = c.args.by in
    c.rotate_within.ensures.set ∙ ap (rotated_down s) c.opposite.ensures.wrapped
    ∙ ap (λ n. rotated_down s ((n - by % n) % n)) c.capacity_of-capacity.ensures.ends.capacity
    ∙ rotated_wrapped s (s.capacity - by % s.capacity)

pub returns-else-capacity-gt0-clause-set : goal.returns-else-capacity-gt0-clause-set
returns-else-capacity-gt0-clause-set g c =
    let ends = c.capacity_of-capacity.ensures.ends in
    rotated_nothing _ _ (omega (arith, ends.capacity, c.if-capacity-gt0.false)) ends.past
