use Rattle.std.proofs.Common.{◌^◌, refl, sym, subst}
use Rattle.bittle.specs.PlainSet.{PlainSet}
use Rattle.bittle.specs.Searches.{TellsGroups}
use Rattle.bittle.specs.Values.{set_in}
use Rattle.bittle_ext.proofs.PassedGroups.{tells_both, tells_in_order}
use Rattle.bittle_ext.proofs.views.by_groups.told_of_both.Goals as goal

pub returns : goal.returns
returns g c =
    let a = g.met.A.ReadWords in
    let b = g.met.B.ReadWords in
    let each = 64 ^ c.args.level in
    let n = c.args.n in
    let s : PlainSet = set_in g.A.Shape g.E.Endian c.args.left.now in
    let t : PlainSet = set_in g.B.Shape g.F.Endian c.args.right.now in
    tells_both each g.A.Shape.width n c.groups_told.result c.groups_told-2.result _ s t
    (tells_in_order each g.A.Shape.width n g.E.Endian.mirrored c.groups_told.result
    (g.A.Shape.big c.args.left.now) a.width_positive (a.whole_words c.args.left.now)
    c.groups_told.ensures)
    (subst (λ v. TellsGroups each v t n c.groups_told-2.result) (sym c.requires.width)
    (tells_in_order each g.B.Shape.width n g.F.Endian.mirrored c.groups_told-2.result
    (g.B.Shape.big c.args.right.now) b.width_positive (b.whole_words c.args.right.now)
    c.groups_told-2.ensures))
    refl
