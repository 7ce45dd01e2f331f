use Rattle.std.proofs.Common.{◌≡◌, refl, sym, ap, subst, ◌∙◌}
use Rattle.std.proofs.lemmas.Iterator.Search.{cmp_from_yields_List}
use Rattle.std.specs.Ordering.{nat_cmp, MatchOrdering}
use Rattle.bittle_bits.specs.Values.{set_mirrored}
use Rattle.bittle_bits.proofs.PlainSets.{members-past}
use Rattle.bittle.specs.Comparison.{AreSame, Precedes}
use Rattle.bittle.proofs.FirstDifference.{cmp_decided}
use Rattle.bittle.proofs.ListComparison.{EndsAtCapacity, list_cmp-precedes}
use Rattle.bittle.proofs.CallerWalks.{walk_yields}
use Rattle.bittle.proofs.set.compare.compare.Given.{Over}
use Rattle.bittle.proofs.set.compare.compare.Goals.{Start}
use Rattle.bittle.proofs.set.compare.compare.Goals as goal

ends : (g : Over) (c : Start g) →
    EndsAtCapacity (set_mirrored g.A.Shape g.E.Endian.mirrored c.args.left.now)
    × EndsAtCapacity (set_mirrored g.B.Shape g.F.Endian.mirrored c.args.right.now)
ends g c =
    let x = c.args.left.now in
    let y = c.args.right.now in
    let a = g.met.A.ReadWords in
    let b = g.met.B.ReadWords in (
      members-past g.E.Endian.mirrored _ _ a.width_positive (a.whole_words x) (a.none_past x),
      members-past g.F.Endian.mirrored _ _ b.width_positive (b.whole_words y) (b.none_past y),
    )

pub returns-then-are_alike-clause-decided : goal.returns-then-are_alike-clause-decided
returns-then-are_alike-clause-decided g c =
    let ours = set_mirrored g.A.Shape g.E.Endian.mirrored c.args.left.now in
    subst (λ n. let theirs = set_mirrored g.B.Shape n c.args.right.now in
    MatchOrdering c.compare_words.result (Precedes ours theirs) (AreSame ours theirs)
    (Precedes theirs ours)) (c.are_alike.ensures.0 c.if-are_alike.true).1 c.compare_words.ensures

pub returns-then-are_alike-clause-value : goal.returns-then-are_alike-clause-value
returns-then-are_alike-clause-value g c =
    let both = ends g (goal.at.returns-then-are_alike-clause-value g c).Start in
    cmp_decided (set_mirrored g.A.Shape g.E.Endian.mirrored c.args.left.now)
    (set_mirrored g.B.Shape g.F.Endian.mirrored c.args.right.now) both.0 both.1 _
    (returns-then-are_alike-clause-decided g c)

pub returns-else-are_alike-clause-value : goal.returns-else-are_alike-clause-value
returns-else-are_alike-clause-value g c =
    cmp_from_yields_List (λ x y. y ≡ x) _ nat_cmp _ c.cmp.ensures.ran
    (walk_yields c.iter_ones_in.result _ c.iter_ones_in.ensures.remaining)
    (λ it e. walk_yields it _
    (ap (λ w. w.remaining) e ∙ c.iter_ones_in-else-are_alike.ensures.remaining))
    (λ x y. refl)

pub returns-else-are_alike-clause-decided : goal.returns-else-are_alike-clause-decided
returns-else-are_alike-clause-decided g c =
    let both = ends g (goal.at.returns-else-are_alike-clause-decided g c).Start in
    let ours = set_mirrored g.A.Shape g.E.Endian.mirrored c.args.left.now in
    let theirs = set_mirrored g.B.Shape g.F.Endian.mirrored c.args.right.now in
    subst (λ o. MatchOrdering o (Precedes ours theirs) (AreSame ours theirs) (Precedes theirs ours))
    (sym (returns-else-are_alike-clause-value g c))
    (list_cmp-precedes ours theirs both.0 both.1)
