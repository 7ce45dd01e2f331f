use Rattle.std.proofs.Common.{◌≡◌, ◌+◌, ◌*◌, arith}
use Rattle.bittle_bits.specs.Orders.{read_in}
use Rattle.bittle_bits.proofs.MembersBelow.{below_at_most}
use Rattle.bittle_bits.proofs.internal.range_count.count_ones.Goals as goal

pub count_in_word-requires-clause-word : goal.count_in_word-requires-clause-word
count_in_word-requires-clause-word g c =
    let wide = c.word_width-width.ensures in
    omega (arith, rw (wide, ← c.if-first-last.true) at c.ends-first.ensures.to, c.requires.within)

pub count_in_word-requires-clause-ordered : goal.count_in_word-requires-clause-ordered
count_in_word-requires-clause-ordered g c =
    let to = rw (← c.if-first-last.true) at c.ends-first.ensures.to in
    omega (arith, c.ends-first.ensures.from, to, c.requires.ordered)

pub returns-then-first-last : goal.returns-then-first-last
returns-then-first-last g c =
    let w = g.B.Shape.width in
    let wide = c.word_width-width.ensures in
    let at = c.ends-first.result in
    let start : at.0 * w + at.1 ≡ c.args.from = omega
    (arith, rw wide at c.ends-first.ensures.from) in
    let end : at.0 * w + (at.3 + 1) ≡ c.args.to = omega
    (arith, rw (wide, ← c.if-first-last.true) at c.ends-first.ensures.to) in
    rw (start, end) at c.count_in_word.ensures

pub count_in_word-count-requires-clause-word : goal.count_in_word-count-requires-clause-word
count_in_word-count-requires-clause-word g c =
    let wide = c.word_width-width.ensures in
    omega (arith, rw wide at c.ends-first.ensures.from, c.requires.within)

pub loop-k-init : goal.loop-k-init
loop-k-init g c =
    let w = g.B.Shape.width in
    let wide = c.word_width-width.ensures in
    let at = c.ends-first.result in
    let start : at.0 * w + at.1 ≡ c.args.from = omega
    (arith, rw wide at c.ends-first.ensures.from) in
    let next : at.0 * w + w ≡ (at.0 + 1) * w = omega arith in
    rw (wide, start, next) at c.count_in_word-count.ensures

pub count_in_word-count-requires-in-loop-k-clause-word :
    goal.count_in_word-count-requires-in-loop-k-clause-word
count_in_word-count-requires-in-loop-k-clause-word g c =
    let wide = c.word_width-width.ensures in
    let ends = c.ends-first.ensures in
    let up = rw wide at (ends.before_last c.loop-k.k c.loop-k-test.true) in
    omega (arith, up, rw wide at ends.to, c.requires.within)

pub loop-k-preserved : goal.loop-k-preserved
loop-k-preserved g c =
    let w = g.B.Shape.width in
    let k = c.loop-k.k in
    let wide = c.word_width-width.ensures in
    let start : k * w + 0 ≡ k * w = omega arith in
    let next : k * w + w ≡ (k + 1) * w = omega arith in
    let one = rw (wide, start, next) at c.count_in_word-count-in-loop-k.ensures in
    omega (arith, c.loop-k.invariant, one)

pub overflow_add-count : goal.overflow_add-count
overflow_add-count g c =
    let wide = c.word_width-width.ensures in
    let w = g.B.Shape.width in
    let ends = c.ends-first.ensures in
    let up = rw wide at (ends.before_last c.loop-k.k c.loop-k-test.true) in
    let most = below_at_most (read_in g.E.Endian.mirrored w (g.B.Shape.big c.args.bits.now))
    ((c.loop-k.k + 1) * w) in
    omega (
      arith,
      loop-k-preserved g c,
      most,
      up,
      rw wide at ends.to,
      c.requires.within,
      c.requires.fits.1,
    )

pub count_in_word-requires-2-clause-word : goal.count_in_word-requires-2-clause-word
count_in_word-requires-2-clause-word g c =
    let wide = c.word_width-width.ensures in
    omega (arith, rw wide at c.ends-first.ensures.to, c.requires.within)

pub returns : goal.returns
returns g c =
    let w = g.B.Shape.width in
    let wide = c.word_width-width.ensures in
    let at = c.ends-first.result in
    let last : c.loop-k.k ≡ at.2 = omega (arith, c.ends-first.ensures.in_order) in
    let start : at.2 * w + 0 ≡ at.2 * w = omega arith in
    let end : at.2 * w + (at.3 + 1) ≡ c.args.to = omega
    (arith, rw wide at c.ends-first.ensures.to) in
    omega (arith, rw last at c.loop-k.invariant, rw (start, end) at c.count_in_word-2.ensures)

pub overflow_add-result : goal.overflow_add-result
overflow_add-result g c =
    let ours = read_in g.E.Endian.mirrored g.B.Shape.width (g.B.Shape.big c.args.bits.now) in
    let most = below_at_most ours c.args.to in
    omega (arith, returns g c, most, c.requires.within, c.requires.fits.1)
