use Rattle.std.proofs.Common.{inl, inr}
use Rattle.bittle_ext.proofs.CopiedRanges.{number_copied, number_outside}
use Rattle.bittle_ext.proofs.bits_number_ext.BitsNumberMutExt.store.Goals as goal

pub returns-clause-value : goal.returns-clause-value
returns-clause-value g c =
    number_copied _ _ 64 c.args.first c.args.count c.args.value c.put_value.ensures.set
    c.requires.within

pub returns-clause-before : goal.returns-clause-before
returns-clause-before g c at n h =
    number_outside _ _ _ c.args.first c.args.count 0 at n c.put_value.ensures.set (inl h)

pub returns-clause-after : goal.returns-clause-after
returns-clause-after g c at n h =
    number_outside _ _ _ c.args.first c.args.count 0 at n c.put_value.ensures.set (inr h)
