use Rattle.std.proofs.Common.{◌*◌, ap, ◌∙◌}
use Rattle.bittle.specs.Values.{set_in}
use Rattle.bittle_ext.specs.Rotations.{rotated_down}
use Rattle.bittle_ext.proofs.RotatedWords.{rotated_twice}
use Rattle.bittle_ext.proofs.in_place_rotations.rotate_within.Goals as goal

pub returns-else-words-skipped-le2-clause-set : goal.returns-else-words-skipped-le2-clause-set
returns-else-words-skipped-le2-clause-set g c =
    let s = set_in g.B.Shape g.E.Endian c.args.set.now in
    let rest = c.distance-words.result.2 in
    c.rotate_bits-else-words-skipped-le2.ensures.set
    ∙ ap (λ u. rotated_down u rest) c.rotate_words.ensures.set
    ∙ rotated_twice s (c.distance-words.result.1 * g.B.Shape.width) rest
    ∙ ap (rotated_down s) c.distance-words.ensures.parts
