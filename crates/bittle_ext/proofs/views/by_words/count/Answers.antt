use Rattle.std.proofs.Common.{◌≡◌, ◌*◌, ◌+◌, sym, ap, ◌∙◌, arith}
use Rattle.bittle.specs.PlainSet.{members_below}
use Rattle.bittle_bits.proofs.MembersBelow.{below_at_most}
use Rattle.bittle_bits.proofs.Sizes.{size-most, size_in_each_order}
use Rattle.bittle_ext.proofs.CommonCounts.{word_inside}
use Rattle.bittle_ext.proofs.RankFacts.{below_zero, end_of_words}
use Rattle.bittle_ext.proofs.views.by_words.count.Goals as goal

pub loop-k-init : goal.loop-k-init
loop-k-init g c =
    let s = g.B.Shape.big c.args.bits.now in
    let start : 0 * g.B.Shape.width ≡ 0 = omega arith in
    sym (ap (members_below s) start ∙ below_zero s)

pub overflow_add-count : goal.overflow_add-count
overflow_add-count g c =
    let inside = word_inside g.B.Shape.width c.word_width.result c.capacity.result c.loop-k.k
    c.word_width.ensures c.loop-k-test.true in
    let s = g.B.Shape.big c.args.bits.now in
    let counted : members_below s (c.loop-k.k * g.B.Shape.width) + c.count_word-count.result
    ≡ members_below s ((c.loop-k.k + 1) * g.B.Shape.width) = c.count_word-count.ensures in
    omega (
      arith,
      inside,
      c.loop-k.invariant,
      counted,
      below_at_most s ((c.loop-k.k + 1) * g.B.Shape.width),
      c.capacity.ensures.value c.requires,
      c.requires.1,
    )

pub returns-clause-value : goal.returns-clause-value
returns-clause-value g c =
    let b = g.met.B.ReadWords in
    let s = g.B.Shape.big c.args.bits.now in
    c.loop-k.invariant ∙ ap (members_below s) (end_of_words g.B.Shape.width s.capacity
    c.capacity.result c.word_width.result c.loop-k.k b.width_positive
    (b.whole_words c.args.bits.now)
    (c.capacity.ensures.value c.requires) c.word_width.ensures
    (omega (arith, c.loop-k-test.false, c.loop-k.auto.k-end)))

pub returns-clause-at_most : goal.returns-clause-at_most
returns-clause-at_most g c = size-most _ _ (returns-clause-value g c)

pub returns-clause-in_each_order : goal.returns-clause-in_each_order
returns-clause-in_each_order g c = size_in_each_order _ _ (λ n. n) _
    g.met.B.ReadWords.width_positive (g.met.B.ReadWords.whole_words c.args.bits.now)
    (returns-clause-value g c)
