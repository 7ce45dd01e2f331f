use Rattle.std.proofs.Common.{sym, ◌∙◌, arith}
use Rattle.bittle_bits.proofs.AscendingLists.{ascending-length}
use Rattle.bittle_bits.proofs.Sizes.{size-members}
use Rattle.bittle_bits.proofs.number.Iter.len.Goals as goal

pub returns : goal.returns
returns g c =
    rw (← c.self.view_is) (c.count_ones.ensures.value
    ∙ sym (ascending-length _ ∙ size-members g.E.Endian.mirrored _ _
    g.met.T.Word.width_positive (1, omega arith)))
