use Rattle.bittle_ext.proofs.GrownSets.{never_grows, shrinks, alone_brings}
use Rattle.bittle_ext.proofs.KeptMembers.{alone_in_first, alone_apart}
use Rattle.bittle_ext.proofs.bits_combine_ext.BitsCombineExt.difference_with.Goals as goal

pub returns-clause-shrank : goal.returns-clause-shrank
returns-clause-shrank g c told = shrinks _ _ _ _ alone_brings c.combine_with.ensures.combined.set
    (c.combine_with.ensures.combined.changed.0 told)

pub returns-clause-at_most : goal.returns-clause-at_most
returns-clause-at_most g c = never_grows _ _ _ _ alone_brings c.combine_with.ensures.combined.set

pub returns-clause-subset : goal.returns-clause-subset
returns-clause-subset g c = alone_in_first _ _ _ c.combine_with.ensures.combined.set

pub returns-clause-apart : goal.returns-clause-apart
returns-clause-apart g c = alone_apart _ _ _ c.combine_with.ensures.combined.set
