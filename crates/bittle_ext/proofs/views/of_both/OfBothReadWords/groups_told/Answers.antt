use Rattle.std.proofs.Common.{◌≡◌, ◌^◌, true, false, refl, sym, ap, ◌∙◌, subst}
use Rattle.bittle.specs.PlainSet.{PlainSet}
use Rattle.bittle.specs.Searches.{TellsGroups}
use Rattle.bittle.specs.Values.{set_in}
use Rattle.bittle.specs.Walk.{ones_or_zeros}
use Rattle.bittle_bits.proofs.WordGroups.{none_told}
use Rattle.bittle_ext.specs.Combined.{both_of}
use Rattle.bittle_ext.specs.Views.{decided_until, read_back}
use Rattle.bittle_ext.proofs.PassedGroups.{keeps_to_both, tells_either, tells_fewer, tells_in_order}
use Rattle.bittle_ext.proofs.PassedGroups.{tells_read_back}
use Rattle.bittle_ext.proofs.views.of_both.OfBothReadWords.groups_told.Goals as goal

pub returns-then-not-ONES : goal.returns-then-not-ONES
returns-then-not-ONES g c =
    let v = c.args.self.now in
    let d : PlainSet = decided_until g.O.Operation.decide v.end
    (set_in g.A.Shape g.E.Endian v.left.now) (set_in g.B.Shape g.F.Endian v.right.now) in
    none_told (64 ^ c.args.level) g.A.Shape.width c.args.n _
    (ones_or_zeros g.K.Kind.ONES (read_back g.E.Endian.mirrored g.A.Shape.width d)) refl

pub returns-then-keeps_to_second : goal.returns-then-keeps_to_second
returns-then-keeps_to_second g c =
    let v = c.args.self.now in
    let f = g.O.Operation.decide in
    let w = g.A.Shape.width in
    let each = 64 ^ c.args.level in
    let s : PlainSet = set_in g.A.Shape g.E.Endian v.left.now in
    let t : PlainSet = set_in g.B.Shape g.F.Endian v.right.now in
    let d : PlainSet = decided_until f v.end s t in
    let first = c.keeps_to_first.ensures c.if-keeps_to_first.true in
    let second = c.keeps_to_second.ensures c.if-keeps_to_second.true in
    let ones : g.K.Kind.ONES ≡ true = sym c.ONES.ensures ∙ c.if-not-ONES.false in
    tells_read_back each w c.args.n g.K.Kind.ONES g.E.Endian.mirrored c.told_of_both.result d
    g.met.A.ReadWords.width_positive v.holds.whole ones
    (tells_fewer each w c.args.n c.told_of_both.result (both_of s t) d
    (λ k e. keeps_to_both f first second (s.has k) (t.has k) e) c.told_of_both.ensures)

pub returns-then-keeps_to_first-2 : goal.returns-then-keeps_to_first-2
returns-then-keeps_to_first-2 g c =
    let v = c.args.self.now in
    let a = g.met.A.ReadWords in
    let f = g.O.Operation.decide in
    let w = g.A.Shape.width in
    let m = g.E.Endian.mirrored in
    let each = 64 ^ c.args.level in
    let told = c.groups_told-ours.result in
    let s : PlainSet = set_in g.A.Shape g.E.Endian v.left.now in
    let t : PlainSet = set_in g.B.Shape g.F.Endian v.right.now in
    let d : PlainSet = decided_until f v.end s t in
    let first = c.keeps_to_first-2.ensures c.if-keeps_to_first-2.true in
    let ones : g.K.Kind.ONES ≡ true = sym c.ONES.ensures ∙ c.if-not-ONES.false in
    tells_read_back each w c.args.n g.K.Kind.ONES m told d a.width_positive v.holds.whole ones
    (tells_fewer each w c.args.n told s d (λ k e. ap (λ b. f b (t.has k)) e ∙ first (t.has k))
    (tells_in_order each w c.args.n m told (g.A.Shape.big v.left.now) a.width_positive
    (a.whole_words v.left.now) c.groups_told-ours.ensures))

pub returns : goal.returns
returns g c =
    let v = c.args.self.now in
    let a = g.met.A.ReadWords in
    let b = g.met.B.ReadWords in
    let f = g.O.Operation.decide in
    let w = g.A.Shape.width in
    let m = g.E.Endian.mirrored in
    let n = c.args.n in
    let each = 64 ^ c.args.level in
    let ours = c.groups_told-ours.result in
    let theirs = c.groups_told.result in
    let s : PlainSet = set_in g.A.Shape g.E.Endian v.left.now in
    let t : PlainSet = set_in g.B.Shape g.F.Endian v.right.now in
    let d : PlainSet = decided_until f v.end s t in
    let same : w ≡ g.B.Shape.width = sym c.word_width.ensures ∙ c.if-word_width.false
    ∙ c.word_width-else-not-ONES.ensures in
    let ones : g.K.Kind.ONES ≡ true = sym c.ONES.ensures ∙ c.if-not-ONES.false in
    tells_read_back each w n g.K.Kind.ONES m _ d a.width_positive v.holds.whole ones
    (tells_either each w n ours theirs _ s t d
    (λ k e h. ap (λ x. f x (t.has k)) e ∙ ap (f false) h ∙ g.met.O.ViewOperation.keeps_empty)
    (tells_in_order each w n m ours (g.A.Shape.big v.left.now) a.width_positive
    (a.whole_words v.left.now) c.groups_told-ours.ensures)
    (subst (λ u. TellsGroups each u t n theirs) (sym same)
    (tells_in_order each g.B.Shape.width n g.F.Endian.mirrored theirs (g.B.Shape.big v.right.now)
    b.width_positive (b.whole_words v.right.now) c.groups_told.ensures))
    refl)
