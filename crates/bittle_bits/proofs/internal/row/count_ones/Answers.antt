use Rattle.std.proofs.Common.{ap, arith}
use Rattle.std.proofs.lemmas.List.Sums.{sum_by_more}
use Rattle.bittle_bits.specs.PlainSet.{size}
use Rattle.bittle_bits.specs.RowLawProofs.{words_of}
use Rattle.bittle_bits.proofs.RowSizes.{row_count_fits, row_count_all}
use Rattle.bittle_bits.proofs.Sizes.{size-most, size_in_each_order}
use Rattle.bittle_bits.proofs.internal.row.count_ones.Goals as goal

pub overflow_add-total : goal.overflow_add-total
overflow_add-total g c =
    let x = c.element-item.result in
    let b = row_count_fits g.T.Shape.type_capacity g.T.Shape.big c.args.elements.now
    g.met.T.FixedCapacity.one_capacity c.loop-element.element-index c.loop-element.total
    c.count_ones-total.result x c.count_ones-total.ensures.value c.element-item.is
    (omega arith) c.loop-element.invariant in
    omega (arith, b, c.requires.1)

pub loop-element-preserved : goal.loop-element-preserved
loop-element-preserved g c =
    let f = λ (x : g.row.T.Denot). size (g.T.Shape.big x) in
    omega (
      arith,
      c.loop-element.invariant,
      c.count_ones-total.ensures.value,
      ap f c.element-item.is,
      sum_by_more f c.args.elements.now c.loop-element.element-index c.element-item.result
          (omega arith),
    )

pub returns-clause-value : goal.returns-clause-value
returns-clause-value g c = row_count_all _ _ _ g.met.T.FixedCapacity.one_capacity
    c.loop-element.element-index _ (omega arith) c.loop-element.invariant

pub returns-clause-at_most : goal.returns-clause-at_most
returns-clause-at_most g c = size-most _ _ (returns-clause-value g c)

pub returns-clause-in_each_order : goal.returns-clause-in_each_order
returns-clause-in_each_order g c = size_in_each_order _ _ (λ n. n) _
    g.met.T.ReadWords.width_positive
    (words_of _ _ _ g.met.T.FixedCapacity.type_whole_words) (returns-clause-value g c)
