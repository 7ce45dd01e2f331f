use Rattle.std.proofs.Common.{ap, arith}
use Rattle.bit_queue.specs.RoundRobin.{round_at}
use Rattle.bit_queue.proofs.Urgency.{is_removed, removed_rests, removed_is_counted}
use Rattle.bit_queue.proofs.Urgency.{removes_no_other}
use Rattle.bit_queue.proofs.round_robin.RoundRobin.remove.Goals as goal

pub returns-clause-rests : goal.returns-clause-rests
returns-clause-rests g c =
    removed_rests _ _ c.args.task c.if-not-is_ready.ensures.value c.clear_bit.ensures.set

pub returns-clause-count : goal.returns-clause-count
returns-clause-count g c =
    removed_is_counted _ _ c.args.task c.if-not-is_ready.ensures.value c.clear_bit.ensures.set

pub returns-clause-at_least : goal.returns-clause-at_least
returns-clause-at_least g c = omega (arith, returns-clause-count g c)

pub returns-clause-at_most : goal.returns-clause-at_most
returns-clause-at_most g c = omega (arith, returns-clause-count g c)

pub returns-clause-others : goal.returns-clause-others
returns-clause-others g c =
    removes_no_other _ _ c.args.task c.if-not-is_ready.ensures.value c.clear_bit.ensures.set

pub returns-clause-round : goal.returns-clause-round
returns-clause-round g c = ap (λ s. round_at s c.args.self.now.turn)
    (is_removed _ _ c.args.task c.if-not-is_ready.ensures.value c.clear_bit.ensures.set)
