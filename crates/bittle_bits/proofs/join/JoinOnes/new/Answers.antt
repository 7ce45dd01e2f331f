use Rattle.std.proofs.Common.{refl}
use Rattle.bittle_bits.proofs.Joins.{ascending-ascends, join_answers, join_end}
use Rattle.bittle_bits.proofs.join.JoinOnes.new.Goals as goal

pub invariant_of-result : goal.invariant_of-result
invariant_of-result g c = rw c.iter_ones_in-mask.ensures.remaining (ascending-ascends _ 0 _)

pub returns-clause-answers : goal.returns-clause-answers
returns-clause-answers g c answers t ran = join_answers g.I.Iterator.next_gives _ answers t
    (rw c.iter_ones_in-mask.ensures.remaining (ascending-ascends _ 0 _)) refl ran

pub returns-clause-end : goal.returns-clause-end
returns-clause-end g c answers t ran = join_end g.I.Iterator.next_gives _ answers t
    (rw c.iter_ones_in-mask.ensures.remaining (ascending-ascends _ 0 _)) refl ran
