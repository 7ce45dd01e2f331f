use Rattle.std.proofs.Common.{◌≡◌, ◌*◌, ap, ◌∙◌, arith}
use Rattle.bittle.specs.Values.{set_in}
use Rattle.bittle_bits.proofs.PlainSets.{members-past}
use Rattle.bittle_ext.specs.Rotations.{rotated_down}
use Rattle.bittle_ext.proofs.RotatedWords.{rotated_none, thrice_reversed}
use Rattle.bittle_ext.proofs.in_place_rotations.rotate_words.Goals as goal

pub returns-then-by-eq0-clause-set : goal.returns-then-by-eq0-clause-set
returns-then-by-eq0-clause-set g c =
    let b = g.met.B.ReadWords in
    let w = g.B.Shape.width in
    let set = c.args.set.now in
    let none : 0 ≡ c.args.by * w = rw (c.if-by-eq0.true) (omega arith) in
    rotated_none _ (members-past g.E.Endian.mirrored w _ b.width_positive (b.whole_words set)
    (b.none_past set)) ∙ ap (rotated_down (set_in g.B.Shape g.E.Endian set)) none

pub returns-clause-set : goal.returns-clause-set
returns-clause-set g c =
    let b = g.met.B.ReadWords in
    let w = g.B.Shape.width in
    let new = c.reverse_words-3.new.set in
    thrice_reversed w c.args.by c.args.words _ _ _ _ b.width_positive c.requires.whole
    c.requires.fewer (members-past g.E.Endian.mirrored w _ b.width_positive (b.whole_words new)
    (b.none_past new)) c.reverse_words.ensures.words c.reverse_words-2.ensures.words
    c.reverse_words-3.ensures.words
