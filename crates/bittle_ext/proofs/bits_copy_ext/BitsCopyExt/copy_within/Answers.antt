use Rattle.std.proofs.Common.{◌-◌, inl, inr, arith}
use Rattle.bittle_ext.proofs.CopiedRanges.{copied_each, kept_each}
use Rattle.bittle_ext.proofs.bits_copy_ext.BitsCopyExt.copy_within.Goals as goal

pub returns-clause-copied : goal.returns-clause-copied
returns-clause-copied g c =
    copied_each _ _ _ c.args.at (c.args.to - c.args.from) c.args.from c.copy_within.ensures.set
    c.requires.within

pub returns-clause-before : goal.returns-clause-before
returns-clause-before g c i h =
    kept_each _ _ _ c.args.at (c.args.to - c.args.from) c.args.from c.copy_within.ensures.set i
    (omega (arith, h, c.requires.within)) (inl h)

pub returns-clause-after : goal.returns-clause-after
returns-clause-after g c i h l =
    kept_each _ _ _ c.args.at (c.args.to - c.args.from) c.args.from c.copy_within.ensures.set i l
    (inr h)
