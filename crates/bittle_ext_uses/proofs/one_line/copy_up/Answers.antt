use Rattle.bittle_ext_uses.proofs.one_line.copy_up.Goals as goal

pub returns : goal.returns
returns c i below = c.copy_within.ensures.copied i below
