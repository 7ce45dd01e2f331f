use Rattle.std.proofs.Common.{refl}
use Rattle.bittle_ext.proofs.CallerMembers.{contains_other_after_clear, contains_other_after_set}
use Rattle.bittle_ext_uses.proofs.word_changes.move_mark.Goals as goal

pub returns : goal.returns
returns c = λ k below left apart.
    contains_other_after_set _ _ c.args.to k _ c.set_bit.ensures.set apart c.requires.to below
    (contains_other_after_clear _ _ c.args.from k _ c.clear_bit.ensures.set left c.requires.from
    below refl)
