use Rattle.std.proofs.Common.{◌*◌, ◌==◌, cond, length}
use Rattle.bittle_bits.specs.RowLawProofs.{words_of}
use Rattle.bittle_bits.proofs.Sizes.{size_in_each_order}
use Rattle.bittle_bits.proofs.internal.row.is_without.Goals as goal

pub returns-then-at_once-clause-in_each_order : goal.returns-then-at_once-clause-in_each_order
returns-then-at_once-clause-in_each_order g c = size_in_each_order _ _
    (λ n. n == cond g.K.Kind.ONES 0 (length c.args.elements.now * g.T.Shape.type_capacity)) _
    g.met.T.ReadWords.width_positive (words_of _ _ _ g.met.T.FixedCapacity.type_whole_words)
    c.is_without_at_once.ensures

pub returns-clause-in_each_order : goal.returns-clause-in_each_order
returns-clause-in_each_order g c = size_in_each_order _ _
    (λ n. n == cond g.K.Kind.ONES 0 (length c.args.elements.now * g.T.Shape.type_capacity)) _
    g.met.T.ReadWords.width_positive (words_of _ _ _ g.met.T.FixedCapacity.type_whole_words)
    c.is_without_by_turns.ensures
