use Rattle.std.proofs.Common.{◌≡◌, suc, ◌+◌, ◌-◌, ◌*◌, ap, arith}
use Rattle.bittle_bits.specs.Searches.{IsFirstIn}
use Rattle.bittle_bits.specs.Values.{kind_in}
use Rattle.bittle_bits.proofs.FirstOnes.{first_widened}
use Rattle.bittle_bits.proofs.internal.by_fours.first_in_words.Given.{Over}
use Rattle.bittle_bits.proofs.internal.by_fours.first_in_words.Goals.{After-pass_over-low}
use Rattle.bittle_bits.proofs.internal.by_fours.first_in_words.Goals as goal

-- the first member from the words that are left on is the first of all words
from_low : (g : Over) (c : After-pass_over-low g) (r : _) →
    IsFirstIn (kind_in g.B.Shape g.E.Endian g.K.Kind c.args.bits.now)
    (c.pass_over-low.result * g.B.Shape.width) (c.args.words * g.B.Shape.width) r →
    IsFirstIn (kind_in g.B.Shape g.E.Endian g.K.Kind c.args.bits.now) 0
    (c.args.words * g.B.Shape.width) r
from_low g c r first =
    let w = g.B.Shape.width in
    let low = c.pass_over-low.ensures.in_each_order g.E.Endian.mirrored in
    let start : 0 * w ≡ 0 = omega arith in
    first_widened (kind_in g.B.Shape g.E.Endian g.K.Kind c.args.bits.now) 0
    (c.pass_over-low.result * w) (c.args.words * w) (c.args.words * w) r (omega arith)
    (omega arith) (rw start at low.2) (λ i lo hi. absurd (omega (arith, lo, hi))) first

pub returns-then-low-words : goal.returns-then-low-words
returns-then-low-words g c =
    let w = g.B.Shape.width in
    let some : suc (c.args.words - 1) ≡ c.args.words = omega (arith, c.if-low-words.true) in
    let end : (c.args.words - 1) * w + w ≡ c.args.words * w = omega (arith, ap (λ n. n * w) some) in
    let start : c.pass_over-low.result * w + 0 ≡ c.pass_over-low.result * w = omega arith in
    from_low g (goal.at.returns-then-low-words g c).After-pass_over-low _
    (rw (start, end) at c.end_in_words.ensures)

pub returns : goal.returns
returns g c = from_low g (goal.at.returns g c).After-pass_over-low _ c.first_by_fours.ensures
