use Rattle.std.proofs.Common.{◌+◌, ◌-◌, ◌*◌, ◌/◌, ◌^◌, ap}
use Rattle.bittle.specs.PlainSet.{PlainSet}
use Rattle.bittle.specs.Values.{set_in}
use Rattle.bittle_ext.specs.Combined.{both_of}
use Rattle.bittle_ext.proofs.PassedGroups.{moves_past, moves_to}
use Rattle.bittle_ext.proofs.views.by_groups.moved.Goals as goal

pub returns-in-Some-clause-over : goal.returns-in-Some-clause-over
returns-in-Some-clause-over g c =
    let s : PlainSet = both_of (set_in g.A.Shape g.E.Endian c.args.left.now)
    (set_in g.B.Shape g.F.Endian c.args.right.now) in
    let number = c.args.at - c.words_at_end.result in
    moves_to g.N.End.FRONT (64 ^ c.args.level) g.A.Shape.width c.args.at number
    c.told_of_both-told.result c.in-Some.place _ s c.requires.some
    (ap (λ x. c.args.at - x) c.words_at_end.ensures) c.told_of_both-told.ensures
    (rw (c.words_at_end-from.ensures, c.words_at_end-to.ensures, c.in-Some.is) at c.end_in.ensures)
    (ap (λ x. number / 64 * 64 + c.in-Some.place + x) c.words_at_end-in-Some.ensures)

pub returns-in-None-clause-over : goal.returns-in-None-clause-over
returns-in-None-clause-over g c =
    let s : PlainSet = both_of (set_in g.A.Shape g.E.Endian c.args.left.now)
    (set_in g.B.Shape g.F.Endian c.args.right.now) in
    let number = c.args.at - c.words_at_end.result in
    moves_past g.N.End.FRONT (64 ^ c.args.level) g.A.Shape.width c.args.at number
    c.told_of_both-told.result _ s c.requires.some
    (ap (λ x. c.args.at - x) c.words_at_end.ensures) c.told_of_both-told.ensures
    (rw (c.words_at_end-from.ensures, c.words_at_end-to.ensures, c.in-None.is) at c.end_in.ensures)
    (ap (λ x. number / 64 * 64 + x) c.words_at_end-in-None.ensures)
