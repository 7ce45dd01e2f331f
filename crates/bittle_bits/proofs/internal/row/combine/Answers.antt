use Rattle.std.proofs.Common.{◌≡◌, ℕ, Bool, List, length, min, ap, ◌∙◌, arith}
use Rattle.bittle_bits.specs.Orders.{read_in}
use Rattle.bittle_bits.specs.RowLawProofs.{words_of}
use Rattle.bittle_bits.specs.Rows.{row_set, IsCombinedBelow}
use Rattle.bittle_bits.specs.SetOperations.{combination_of}
use Rattle.bittle_bits.proofs.RowOperations.{row_combined}
use Rattle.bittle_bits.proofs.SetOperations.{members-combination}
use Rattle.bittle_bits.proofs.internal.row.combine.Given.{Over}
use Rattle.bittle_bits.proofs.internal.row.combine.Goals as goal

-- if the elements that both rows have are combined, the rows are combined, in each order
rows : (g : Over) (xs ys zs : List g.row.T.Denot) (common : ℕ) (mirrored : Bool) →
    common ≡ min (length xs) (length ys) →
    IsCombinedBelow g.O.Operation.decide g.T.Shape.big xs ys zs common →
    let row = λ (us : List g.row.T.Denot). read_in mirrored g.T.Shape.width
    (row_set (length us) g.T.Shape.type_capacity g.T.Shape.big us) in
    row zs ≡ combination_of g.O.Operation.decide (row xs) (row ys)
rows g xs ys zs common mirrored least all =
    let T = g.met.T in
    let whole = T.FixedCapacity.type_whole_words in
    ap (read_in mirrored g.T.Shape.width) (row_combined g.O.Operation.decide
    g.T.Shape.type_capacity g.T.Shape.big xs ys zs T.FixedCapacity.one_capacity all.same
    (λ k d a b. all.done k d (omega arith)) (λ k d b. all.rest k d (omega arith)))
    ∙ members-combination _ mirrored _ _ _ T.ReadWords.width_positive
    (words_of (length xs) _ _ whole) (words_of (length ys) _ _ whole)

pub returns-then-width-ge32 : goal.returns-then-width-ge32
returns-then-width-ge32 g c mirrored =
    rows g _ _ _ _ mirrored (omega arith) c.combine_by_fours.ensures

pub returns-else-fixed_capacity-width : goal.returns-else-fixed_capacity-width
returns-else-fixed_capacity-width g c mirrored =
    rows g _ _ _ _ mirrored (omega arith) c.combine_each.ensures
