use Rattle.std.proofs.Common.{refl, sym, length}
use Rattle.bittle_bits.proofs.PlainSets.{contains-none}
use Rattle.bittle_bits.proofs.RowCalls.{row_tested}
use Rattle.bittle_bits.proofs.internal.row.test_bit.Goals as goal

pub returns-in-Some : goal.returns-in-Some
returns-in-Some g c = row_tested g.E.Endian.mirrored g.T.Shape.width g.T.Shape.type_capacity
    (length c.args.elements.now) c.args.index _ _ g.T.Shape.big c.args.elements.now _
    g.met.T.ReadWords.width_positive g.met.T.FixedCapacity.type_whole_words c.in-Some.ensures
    (g.met.T.FixedCapacity.one_capacity _) refl c.index-elements-element.is _ c.test_bit_in.ensures

pub returns-in-None : goal.returns-in-None
returns-in-None g c = sym (contains-none _ _ c.in-None.ensures)
