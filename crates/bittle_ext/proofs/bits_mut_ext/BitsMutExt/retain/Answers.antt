use Rattle.bittle_bits.proofs.PlainSets.{members-past}
use Rattle.bittle_ext.proofs.KeptMembers.{retained_before}
use Rattle.bittle_ext.proofs.RetainSteps.{at_most_all}
use Rattle.bittle_ext.proofs.bits_mut_ext.BitsMutExt.retain.Goals as goal

pub returns-clause-at_most : goal.returns-clause-at_most
returns-clause-at_most g c = at_most_all _ _ _ _ c.retain.ensures.set.asked

pub returns-clause-subset : goal.returns-clause-subset
returns-clause-subset g c = retained_before _ _ _ _
    (members-past g.Self.Order.Endian.mirrored _ _ g.met.Self.ReadWords.width_positive
    (g.met.Self.ReadWords.whole_words c.retain.new.bits)
    (g.met.Self.ReadWords.none_past c.retain.new.bits)) c.retain.ensures.set
