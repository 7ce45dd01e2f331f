use Rattle.std.proofs.Common.{◌≡◌, ℕ, ◌≤◌, false, arith}
use Rattle.std.proofs.lemmas.Bool.{le-ltb}
use Rattle.bittle_bits.proofs.PlainSets.{members-past}
use Rattle.bittle.proofs.FirstDifference.{past_found}
use Rattle.bittle.proofs.set.compare.has_past.Given.{Over}
use Rattle.bittle.proofs.set.compare.has_past.Goals.{Start}
use Rattle.bittle.proofs.set.compare.has_past.Goals as goal
use Rattle.bittle_bits.specs.Values.{set_in}

past : (g : Over) (c : Start g) (i : ℕ) → c.args.capacity ≤ i →
    (set_in g.B.Shape g.E.Endian c.args.bits.now).has i ≡ false
past g c i h =
    let b = g.met.B.ReadWords in
    members-past g.E.Endian.mirrored _ _ b.width_positive (b.whole_words c.args.bits.now)
    (b.none_past c.args.bits.now) i (omega (arith, c.requires.capacity, h))

pub returns-then-index-capacity : goal.returns-then-index-capacity
returns-then-index-capacity g c =
    rw c.is_some.ensures (past_found (set_in g.B.Shape g.E.Endian c.args.bits.now)
    c.args.index c.args.capacity c.first_one_in.result c.requires.lacks
    (past g (goal.at.returns-then-index-capacity g c).Start) c.first_one_in.ensures)

pub returns-else-index-capacity : goal.returns-else-index-capacity
returns-else-index-capacity g c =
    rw (le-ltb _ _ c.if-index-capacity.false)
    (λ i h. past g (goal.at.returns-else-index-capacity g c).Start i
    (omega (arith, h, c.if-index-capacity.false)))
