use Rattle.bittle_ext.proofs.GrownSets.{never_grows, shrinks, both_brings}
use Rattle.bittle_ext.proofs.KeptMembers.{both_in_first, both_in_second}
use Rattle.bittle_ext.proofs.bits_combine_ext.BitsCombineExt.intersect_with.Goals as goal

pub returns-clause-shrank : goal.returns-clause-shrank
returns-clause-shrank g c told = shrinks _ _ _ _ both_brings c.combine_with.ensures.combined.set
    (c.combine_with.ensures.combined.changed.0 told)

pub returns-clause-at_most : goal.returns-clause-at_most
returns-clause-at_most g c = never_grows _ _ _ _ both_brings c.combine_with.ensures.combined.set

pub returns-clause-subset : goal.returns-clause-subset
returns-clause-subset g c = both_in_first _ _ _ c.combine_with.ensures.combined.set

pub returns-clause-within : goal.returns-clause-within
returns-clause-within g c = both_in_second _ _ _ c.combine_with.ensures.combined.set
