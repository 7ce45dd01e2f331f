use Rattle.std.proofs.Common.{sym, ap, subst, ◌∙◌, ◌↔◌, IsTrue}
use Rattle.std.specs.Cmp.Lexicographic.{texts_ties}
use Rattle.std.specs.Ordering.{is_eq}
use Rattle.bittle_bits.specs.PlainSet.{ascending}
use Rattle.bittle_bits.specs.Values.{set_in, set_mirrored}
use Rattle.bittle_bits.proofs.PlainSets.{members-past}
use Rattle.bittle.specs.Comparison.{AreSame, TellsFirstDifference}
use Rattle.bittle.proofs.FirstDifference.{none_is, none_equal, none_decides}
use Rattle.bittle.proofs.ListComparison.{equal_iff_same}
use Rattle.bittle.proofs.set.compare.are_equal.Given.{Over}
use Rattle.bittle.proofs.set.compare.are_equal.Goals.{After-first_difference}
use Rattle.bittle.proofs.set.compare.are_equal.Goals as goal

-- the first difference, with each side read in its own order
difference : (g : Over) (c : After-first_difference g) →
    TellsFirstDifference (set_in g.A.Shape g.E.Endian c.args.left.now)
    (set_in g.B.Shape g.F.Endian c.args.right.now) c.first_difference.result
difference g c =
    subst (λ m. TellsFirstDifference (set_in g.A.Shape g.E.Endian c.args.left.now)
    (set_mirrored g.B.Shape m c.args.right.now) c.first_difference.result)
    (c.are_alike.ensures.0 c.if-are_alike.true).1 c.first_difference.ensures

pub returns-then-are_alike-clause-value : goal.returns-then-are_alike-clause-value
returns-then-are_alike-clause-value g c =
    let x = c.args.left.now in
    let y = c.args.right.now in
    let a = g.met.A.ReadWords in
    let b = g.met.B.ReadWords in
    let ours = set_in g.A.Shape g.E.Endian x in
    let theirs = set_in g.B.Shape g.F.Endian y in
    none_is c.first_difference.result _ c.is_none.ensures
    ∙ none_equal ours theirs
    (members-past g.E.Endian.mirrored _ _ a.width_positive (a.whole_words x) (a.none_past x))
    (members-past g.F.Endian.mirrored _ _ b.width_positive (b.whole_words y) (b.none_past y))
    c.first_difference.result
    (difference g (goal.at.returns-then-are_alike-clause-value g c).After-first_difference)
    ∙ sym (texts_ties (ascending ours) (ascending theirs))

pub returns-then-are_alike-clause-decided : goal.returns-then-are_alike-clause-decided
returns-then-are_alike-clause-decided g c =
    let ours = set_in g.A.Shape g.E.Endian c.args.left.now in
    let theirs = set_in g.B.Shape g.F.Endian c.args.right.now in
    subst (λ r. IsTrue r ↔ AreSame ours theirs)
    (sym (none_is c.first_difference.result _ c.is_none.ensures))
    (none_decides ours theirs c.first_difference.result
    (difference g (goal.at.returns-then-are_alike-clause-decided g c).After-first_difference))

pub returns-else-are_alike-clause-value : goal.returns-else-are_alike-clause-value
returns-else-are_alike-clause-value g c =
    c.is_eq.ensures ∙ ap is_eq c.compare.ensures.value ∙ sym (texts_ties
    (ascending (set_in g.A.Shape g.E.Endian c.args.left.now))
    (ascending (set_in g.B.Shape g.F.Endian c.args.right.now)))

pub returns-else-are_alike-clause-decided : goal.returns-else-are_alike-clause-decided
returns-else-are_alike-clause-decided g c =
    let ours = set_in g.A.Shape g.E.Endian c.args.left.now in
    let theirs = set_in g.B.Shape g.F.Endian c.args.right.now
    in subst (λ x. IsTrue x ↔ AreSame ours theirs) (sym c.is_eq.ensures)
    (equal_iff_same ours theirs c.compare.result c.compare.ensures.decided)
