use Rattle.std.proofs.Common.{refl, ap, true, length, get_or}
use Rattle.bittle_bits.proofs.RowSpans.{row_changed}
use Rattle.bittle_bits.proofs.internal.row.assign_in_element.Goals as goal

pub returns-clause-set : goal.returns-clause-set
returns-clause-set g c =
    let xs = c.args.elements.now in
    let x = get_or xs c.args.at c.index-elements-at.result in
    row_changed (λ b. g.O.Operation.decide b true) g.E.Endian.mirrored g.T.Shape.width
    g.T.Shape.type_capacity (length xs) c.args.at g.T.Shape.big xs x
    c.assign_range_by_operation.new.self g.met.T.ReadWords.width_positive
    g.met.T.FixedCapacity.type_whole_words c.requires.element refl
    (ap (λ (d : g.row.T.Denot). get_or xs c.args.at d) c.index-elements-at.is) c.args.from c.args.to
    c.requires.within c.assign_range_by_operation.ensures.set
