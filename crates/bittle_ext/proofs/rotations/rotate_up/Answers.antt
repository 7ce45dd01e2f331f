use Rattle.std.proofs.Common.{◌-◌, ◌%◌, ap, ◌∙◌, arith}
use Rattle.bittle.specs.Values.{set_in}
use Rattle.bittle_ext.specs.Rotations.{rotated_down}
use Rattle.bittle_ext.proofs.RotatedWords.{rotated_nothing, rotated_wrapped}
use Rattle.bittle_ext.proofs.rotations.rotate_up.Goals as goal

pub returns-then-capacity-eq0 : goal.returns-then-capacity-eq0
returns-then-capacity-eq0 g c =
    let ends = c.capacity_of-capacity.ensures.ends in
    rotated_nothing _ _ (omega (arith, ends.capacity, c.if-capacity-eq0.true)) ends.past

pub returns : goal.returns
returns g c =
    let s = set_in g.B.Shape g.E.Endian c.args.set.now in
    let by = c.args.by in
    c.rotate_within.ensures ∙ ap (rotated_down s) c.opposite.ensures.wrapped
    ∙ ap (λ n. rotated_down s ((n - by % n) % n)) c.capacity_of-capacity.ensures.ends.capacity
    ∙ rotated_wrapped s (s.capacity - by % s.capacity)
