use Rattle.std.proofs.Common.{◌≡◌, true, false, sym, ap, ◌∙◌, subst}
use Rattle.bittle.specs.Values.{set_in}
use Rattle.bittle.specs.PlainSet.{PlainSet}
use Rattle.bittle.specs.Searches.{PassesOver}
use Rattle.bittle_bits.proofs.OnesOrZeros.{passes_in_order}
use Rattle.bittle_ext.specs.Combined.{both_of}
use Rattle.bittle_ext.specs.Views.{decided_until}
use Rattle.bittle_ext.proofs.PassedGroups.{few_words, keeps_to_both}
use Rattle.bittle_ext.proofs.PassedWords.{passes_fewer, passes_from, passes_back, passes_nearer}
use Rattle.bittle_ext.proofs.PassedWords.{passes_later, passes_read_back}
use Rattle.bittle_ext.proofs.views.of_both.OfBothReadWords.pass_over.Goals as goal

pub passed_by_groups-requires-clause-small : goal.passed_by_groups-requires-clause-small
passed_by_groups-requires-clause-small g c = few_words g.A.Shape.width c.args.high _
    g.met.A.ReadWords.width_positive c.requires.within c.args.self.now.holds.fits

pub returns-then-combines_groups : goal.returns-then-combines_groups
returns-then-combines_groups g c =
    let v = c.args.self.now in
    let f = g.O.Operation.decide in
    let w = g.A.Shape.width in
    let s : PlainSet = set_in g.A.Shape g.E.Endian v.left.now in
    let t : PlainSet = set_in g.B.Shape g.F.Endian v.right.now in
    let d : PlainSet = decided_until f v.end s t in
    let first = c.combines_groups.ensures.first c.if-combines_groups.true in
    let second = c.combines_groups.ensures.second c.if-combines_groups.true in
    let ones : g.K.Kind.ONES ≡ true = sym c.ONES.ensures ∙ c.if-not-ONES.false in
    passes_read_back g.N.End.FRONT g.K.Kind.ONES g.E.Endian.mirrored w c.args.low c.args.high
    c.passed_by_groups.result d g.met.A.ReadWords.width_positive v.holds.whole ones
    (passes_fewer g.N.End.FRONT w c.args.low c.args.high c.passed_by_groups.result (both_of s t) d
    (λ k e. keeps_to_both f first second (s.has k) (t.has k) e) c.passed_by_groups.ensures)

pub returns-then-not-alike : goal.returns-then-not-alike
returns-then-not-alike g c =
    let v = c.args.self.now in
    let a = g.met.A.ReadWords in
    let f = g.O.Operation.decide in
    let w = g.A.Shape.width in
    let m = g.E.Endian.mirrored in
    let s : PlainSet = set_in g.A.Shape g.E.Endian v.left.now in
    let t : PlainSet = set_in g.B.Shape g.F.Endian v.right.now in
    let d : PlainSet = decided_until f v.end s t in
    let first = c.keeps_to_first.ensures c.if-keeps_to_first.true in
    let ones : g.K.Kind.ONES ≡ true = sym c.ONES.ensures ∙ c.if-not-ONES.false in
    let ours = passes_in_order g.N.End.FRONT true m w c.args.low c.args.high c.passed-ours.result
    (g.A.Shape.big v.left.now) a.width_positive (a.whole_words v.left.now) c.passed-ours.ensures in
    passes_read_back g.N.End.FRONT g.K.Kind.ONES m w c.args.low c.args.high c.passed-ours.result d
    a.width_positive v.holds.whole ones (passes_fewer g.N.End.FRONT w c.args.low c.args.high
    c.passed-ours.result s d (λ k e. ap (λ b. f b (t.has k)) e ∙ first (t.has k)) ours)

pub returns-then-FRONT-2 : goal.returns-then-FRONT-2
returns-then-FRONT-2 g c =
    let v = c.args.self.now in
    let a = g.met.A.ReadWords in
    let b = g.met.B.ReadWords in
    let f = g.O.Operation.decide in
    let w = g.A.Shape.width in
    let m = g.E.Endian.mirrored in
    let s : PlainSet = set_in g.A.Shape g.E.Endian v.left.now in
    let t : PlainSet = set_in g.B.Shape g.F.Endian v.right.now in
    let d : PlainSet = decided_until f v.end s t in
    let ones : g.K.Kind.ONES ≡ true = sym c.ONES.ensures ∙ c.if-not-ONES.false in
    let same : g.A.Shape.width ≡ g.B.Shape.width = sym c.word_width.ensures
    ∙ c.if-not-alike.false ∙ c.word_width-2.ensures in
    let front : g.N.End.FRONT ≡ true = sym c.FRONT-then-keeps_to_first.ensures
    ∙ c.if-FRONT-2.true in
    let first = c.keeps_to_first.ensures c.if-keeps_to_first.true in
    let second = c.keeps_to_second.ensures c.if-not-keeps_to_second.false in
    let ours : PassesOver true w s c.args.low c.args.high c.passed-ours.result =
    passes_in_order true true m w c.args.low c.args.high c.passed-ours.result
    (g.A.Shape.big v.left.now) a.width_positive (a.whole_words v.left.now)
    (rw front at c.passed-ours.ensures) in
    let theirs : PassesOver true w t c.passed-ours.result c.args.high c.passed.result =
    subst (λ u. PassesOver true u t c.passed-ours.result c.args.high c.passed.result) (sym same)
    (passes_in_order true true g.F.Endian.mirrored g.B.Shape.width c.passed-ours.result c.args.high
    c.passed.result
    (g.B.Shape.big v.right.now) b.width_positive (b.whole_words v.right.now)
    (rw front at c.passed.ensures)) in
    rw front (passes_read_back true g.K.Kind.ONES m w c.args.low c.args.high c.passed.result d
    a.width_positive v.holds.whole ones (passes_from w c.args.low c.args.high c.passed-ours.result
    c.passed.result d
    (passes_fewer true w c.args.low c.args.high c.passed-ours.result s d
    (λ k e. ap (λ x. f x (t.has k)) e ∙ first (t.has k)) ours)
    (passes_fewer true w c.passed-ours.result c.args.high c.passed.result t d
    (λ k e. ap (λ x. f (s.has k) x) e ∙ second (s.has k)) theirs)))

pub returns-else-FRONT-2 : goal.returns-else-FRONT-2
returns-else-FRONT-2 g c =
    let v = c.args.self.now in
    let a = g.met.A.ReadWords in
    let b = g.met.B.ReadWords in
    let f = g.O.Operation.decide in
    let w = g.A.Shape.width in
    let m = g.E.Endian.mirrored in
    let s : PlainSet = set_in g.A.Shape g.E.Endian v.left.now in
    let t : PlainSet = set_in g.B.Shape g.F.Endian v.right.now in
    let d : PlainSet = decided_until f v.end s t in
    let ones : g.K.Kind.ONES ≡ true = sym c.ONES.ensures ∙ c.if-not-ONES.false in
    let same : g.A.Shape.width ≡ g.B.Shape.width = sym c.word_width.ensures
    ∙ c.if-not-alike.false ∙ c.word_width-2.ensures in
    let back : g.N.End.FRONT ≡ false = sym c.FRONT-then-keeps_to_first.ensures
    ∙ c.if-FRONT-2.false in
    let first = c.keeps_to_first.ensures c.if-keeps_to_first.true in
    let second = c.keeps_to_second.ensures c.if-not-keeps_to_second.false in
    let ours : PassesOver false w s c.args.low c.args.high c.passed-ours.result =
    passes_in_order false true m w c.args.low c.args.high c.passed-ours.result
    (g.A.Shape.big v.left.now) a.width_positive (a.whole_words v.left.now)
    (rw back at c.passed-ours.ensures) in
    let theirs : PassesOver false w t c.args.low c.passed-ours.result c.passed-else-FRONT-2.result =
    subst (λ u. PassesOver false u t c.args.low c.passed-ours.result
    c.passed-else-FRONT-2.result) (sym same)
    (passes_in_order false true g.F.Endian.mirrored g.B.Shape.width c.args.low c.passed-ours.result
    c.passed-else-FRONT-2.result
    (g.B.Shape.big v.right.now) b.width_positive (b.whole_words v.right.now)
    (rw back at c.passed-else-FRONT-2.ensures)) in
    rw back (passes_read_back false g.K.Kind.ONES m w c.args.low c.args.high
    c.passed-else-FRONT-2.result d a.width_positive v.holds.whole ones
    (passes_back w c.args.low c.args.high c.passed-ours.result c.passed-else-FRONT-2.result d
    (passes_fewer false w c.args.low c.args.high c.passed-ours.result s d
    (λ k e. ap (λ x. f x (t.has k)) e ∙ first (t.has k)) ours)
    (passes_fewer false w c.args.low c.passed-ours.result c.passed-else-FRONT-2.result t d
    (λ k e. ap (λ x. f (s.has k) x) e ∙ second (s.has k)) theirs)))

pub returns-then-FRONT-4 : goal.returns-then-FRONT-4
returns-then-FRONT-4 g c =
    let v = c.args.self.now in
    let a = g.met.A.ReadWords in
    let b = g.met.B.ReadWords in
    let f = g.O.Operation.decide in
    let w = g.A.Shape.width in
    let m = g.E.Endian.mirrored in
    let s : PlainSet = set_in g.A.Shape g.E.Endian v.left.now in
    let t : PlainSet = set_in g.B.Shape g.F.Endian v.right.now in
    let d : PlainSet = decided_until f v.end s t in
    let ones : g.K.Kind.ONES ≡ true = sym c.ONES.ensures ∙ c.if-not-ONES.false in
    let same : g.A.Shape.width ≡ g.B.Shape.width = sym c.word_width.ensures
    ∙ c.if-not-alike-2.false ∙ c.word_width-2.ensures in
    let front : g.N.End.FRONT ≡ true = sym c.FRONT-2.ensures ∙ c.if-FRONT-4.true in
    let ours : PassesOver true w s c.args.low c.args.high c.passed-ours.result =
    passes_in_order true true m w c.args.low c.args.high c.passed-ours.result
    (g.A.Shape.big v.left.now) a.width_positive (a.whole_words v.left.now)
    (rw front at c.passed-ours.ensures) in
    let theirs : PassesOver true w t c.args.low c.args.high c.passed-theirs.result =
    subst (λ u. PassesOver true u t c.args.low c.args.high c.passed-theirs.result) (sym same)
    (passes_in_order true true g.F.Endian.mirrored g.B.Shape.width c.args.low c.args.high
    c.passed-theirs.result
    (g.B.Shape.big v.right.now) b.width_positive (b.whole_words v.right.now)
    (rw front at c.passed-theirs.ensures)) in
    rw front (passes_read_back true g.K.Kind.ONES m w c.args.low c.args.high c.min.result d
    a.width_positive v.holds.whole ones (passes_nearer w c.args.low c.args.high
    c.passed-ours.result c.passed-theirs.result c.min.result s t d
    (λ k e h. ap (λ x. f x (t.has k)) e ∙ ap (f false) h ∙ g.met.O.ViewOperation.keeps_empty)
    ours theirs c.min.ensures))

pub returns-else-FRONT-4 : goal.returns-else-FRONT-4
returns-else-FRONT-4 g c =
    let v = c.args.self.now in
    let a = g.met.A.ReadWords in
    let b = g.met.B.ReadWords in
    let f = g.O.Operation.decide in
    let w = g.A.Shape.width in
    let m = g.E.Endian.mirrored in
    let s : PlainSet = set_in g.A.Shape g.E.Endian v.left.now in
    let t : PlainSet = set_in g.B.Shape g.F.Endian v.right.now in
    let d : PlainSet = decided_until f v.end s t in
    let ones : g.K.Kind.ONES ≡ true = sym c.ONES.ensures ∙ c.if-not-ONES.false in
    let same : g.A.Shape.width ≡ g.B.Shape.width = sym c.word_width.ensures
    ∙ c.if-not-alike-2.false ∙ c.word_width-2.ensures in
    let back : g.N.End.FRONT ≡ false = sym c.FRONT-2.ensures ∙ c.if-FRONT-4.false in
    let ours : PassesOver false w s c.args.low c.args.high c.passed-ours.result =
    passes_in_order false true m w c.args.low c.args.high c.passed-ours.result
    (g.A.Shape.big v.left.now) a.width_positive (a.whole_words v.left.now)
    (rw back at c.passed-ours.ensures) in
    let theirs : PassesOver false w t c.args.low c.args.high c.passed-theirs.result =
    subst (λ u. PassesOver false u t c.args.low c.args.high c.passed-theirs.result) (sym same)
    (passes_in_order false true g.F.Endian.mirrored g.B.Shape.width c.args.low c.args.high
    c.passed-theirs.result
    (g.B.Shape.big v.right.now) b.width_positive (b.whole_words v.right.now)
    (rw back at c.passed-theirs.ensures)) in
    rw back (passes_read_back false g.K.Kind.ONES m w c.args.low c.args.high c.max.result d
    a.width_positive v.holds.whole ones (passes_later w c.args.low c.args.high
    c.passed-ours.result c.passed-theirs.result c.max.result s t d
    (λ k e h. ap (λ x. f x (t.has k)) e ∙ ap (f false) h ∙ g.met.O.ViewOperation.keeps_empty)
    ours theirs c.max.ensures))
