use Rattle.std.proofs.Common.{◌≡◌, ◌-◌, ◌*◌, ◌<◌, ◌≤◌, length, refl, arith}
use Rattle.std.proofs.Math.Nat.{mul-le-mul_right}
use Rattle.bittle_bits.proofs.RowPasses.{end_begins, part_at_end, element_begins, passes_in_row}
use Rattle.bittle_bits.proofs.RowPasses.{IsPart}
use Rattle.bittle_bits.proofs.RowWords.{words_each}
use Rattle.bittle_bits.proofs.internal.row.pass_over_in_element.Given.{Over}
use Rattle.bittle_bits.proofs.internal.row.pass_over_in_element.Goals.{After-min-to}
use Rattle.bittle_bits.proofs.internal.row.pass_over_in_element.Goals as goal

-- where the element begins
begins : (g : Over) (c : After-min-to g) →
    let k = c.words_at_end-word.result in
    let at = c.locate_word-element.result.1 in
    (at < g.met.T.FixedCapacity.type_whole_words.0) × (at ≤ k)
    × ((k - at) * g.T.Shape.width ≡ c.locate_word-element.result.0 * g.T.Shape.type_capacity)
begins g c =
    let whole = g.met.T.FixedCapacity.type_whole_words in
    element_begins (length c.args.elements.now) _ g.T.Shape.width whole.0 _ _ _
    g.met.T.ReadWords.width_positive whole.1
    (end_begins g.N.End.FRONT _ _ _ _ _ g.met.T.ReadWords.width_positive c.words_at_end-word.ensures
    c.requires.some c.requires.within) c.locate_word-element.ensures

-- which of its words are in the range
part : (g : Over) (c : After-min-to g) →
    let start = c.words_at_end-word.result - c.locate_word-element.result.1 in
    IsPart g.N.End.FRONT c.args.low c.args.high g.met.T.FixedCapacity.type_whole_words.0 start
    (c.max.result - start) c.min-to.result
part g c =
    let whole = g.met.T.FixedCapacity.type_whole_words in
    let each = words_each _ _ _ _ whole.0 g.met.T.ReadWords.width_positive
    (c.fixed_capacity.ensures.value
    (c.requires.fits.0, g.met.T.FixedCapacity.type_fits c.requires.fits.0))
    c.word_width.ensures whole.1 in
    let at = begins g c in
    part_at_end g.N.End.FRONT _ _ _ c.locate_word-element.result.1 _ _ _ _
    c.words_at_end-word.ensures c.requires.some at.0 (omega (arith, at.1))
    (omega (arith, c.max.ensures)) (rw each at c.min-to.ensures)

pub locate_word-element-requires-clause-within : goal.locate_word-element-requires-clause-within
locate_word-element-requires-clause-within g c = end_begins g.N.End.FRONT _ _ _ _ _
    g.met.T.ReadWords.width_positive c.words_at_end-word.ensures c.requires.some c.requires.within

pub pass_over-on-requires-clause-ordered : goal.pass_over-on-requires-clause-ordered
pass_over-on-requires-clause-ordered g c =
    (part g (goal.at.pass_over-on-requires-clause-ordered g c).After-min-to).ordered

pub returns : goal.returns
returns g c =
    let of = (goal.at.returns g c).After-min-to in
    let is = part g of in
    let less = mul-le-mul_right g.T.Shape.width is.within in
    passes_in_row g.K.Kind.ONES (length c.args.elements.now) g.T.Shape.type_capacity g.T.Shape.width
    c.locate_word-element.result.0 _ g.T.Shape.big c.args.elements.now
    c.index-elements-element.result
    (g.met.T.FixedCapacity.one_capacity _) c.locate_word-element.ensures.is_element refl
    c.index-elements-element.is (begins g of).2 g.N.End.FRONT c.args.low c.args.high _ _ _
    (omega (arith, less, g.met.T.FixedCapacity.type_whole_words.1)) is.low_is is.high_is is.same_end
    c.pass_over-on.ensures
