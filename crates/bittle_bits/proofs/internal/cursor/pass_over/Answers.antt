use Rattle.bittle_bits.proofs.Steps.{moved_past}
use Rattle.bittle_bits.proofs.internal.cursor.pass_over.Goals as goal

pub returns-clause-sought : goal.returns-clause-sought
returns-clause-sought g c = rw (c.move_end.ensures, c.pass_over-on.ensures.passed)
    (moved_past _ _ _ g.N.End.FRONT c.args.at.now c.pass_over-on.result c.requires.counted
    (c.pass_over-on.ensures.in_each_order g.E.Endian.mirrored)).0

pub returns-clause-counted : goal.returns-clause-counted
returns-clause-counted g c = rw (c.move_end.ensures, c.pass_over-on.ensures.passed)
    (moved_past _ _ _ g.N.End.FRONT c.args.at.now c.pass_over-on.result c.requires.counted
    (c.pass_over-on.ensures.in_each_order g.E.Endian.mirrored)).1
