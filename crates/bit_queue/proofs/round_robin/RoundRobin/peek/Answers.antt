use Rattle.std.proofs.Common.{Some, sym, ◌∙◌, arith}
use Rattle.bittle.specs.PlainSet.{PlainSet}
use Rattle.bittle.specs.Values.{set_in}
use Rattle.bit_queue.specs.RoundRobin.{round_at}
use Rattle.bit_queue.specs.RoundRobinLaws.{IsNextInTurn}
use Rattle.bit_queue.proofs.Urgency.{found_counts, found_if_any}
use Rattle.bit_queue.proofs.Turns.{found_from_turn, found_before_turn, next_found}
use Rattle.bit_queue.proofs.round_robin.RoundRobin.peek.Goals as goal

pub returns-in-Some-clause-task : goal.returns-in-Some-clause-task
returns-in-Some-clause-task g c =
    let capacity = g.met.B.FixedCapacity.one_capacity c.args.self.now.ready in
    let bits = c.bits.ensures.value c.args.self.now.fits in
    found_from_turn _ c.args.self.now.turn _ c.in-Some.task (bits ∙ sym capacity) c.in-Some.ensures

pub returns-in-None-clause-task : goal.returns-in-None-clause-task
returns-in-None-clause-task g c =
    let capacity = g.met.B.FixedCapacity.one_capacity c.args.self.now.ready in
    let bits = c.bits.ensures.value c.args.self.now.fits in
    found_before_turn _ c.args.self.now.turn _ _ (bits ∙ sym capacity)
    (omega (arith, bits, c.args.self.now.within)) c.in-None.ensures
    c.first_one_in-in-None.ensures

pub returns-in-Some-clause-next : goal.returns-in-Some-clause-next
returns-in-Some-clause-next g c =
    let capacity = g.met.B.FixedCapacity.one_capacity c.args.self.now.ready in
    next_found _ c.args.self.now.turn _ (Some c.in-Some.task) (sym capacity)
    (returns-in-Some-clause-task g c)

pub returns-in-None-clause-next : goal.returns-in-None-clause-next
returns-in-None-clause-next g c =
    let capacity = g.met.B.FixedCapacity.one_capacity c.args.self.now.ready in
    next_found _ c.args.self.now.turn _ c.first_one_in-in-None.result (sym capacity)
    (returns-in-None-clause-task g c)

pub returns-in-Some-clause-some : goal.returns-in-Some-clause-some
returns-in-Some-clause-some g c =
    let s : PlainSet = set_in g.B.Shape g.B.Order.Endian c.args.self.now.ready in
    let capacity = g.met.B.FixedCapacity.one_capacity c.args.self.now.ready in
    found_counts s _ (Some c.in-Some.task) (IsNextInTurn (round_at s c.args.self.now.turn))
    (sym capacity) (λ k next. (next.within, next.is_ready)) (returns-in-Some-clause-next g c)

pub returns-in-None-clause-some : goal.returns-in-None-clause-some
returns-in-None-clause-some g c =
    let s : PlainSet = set_in g.B.Shape g.B.Order.Endian c.args.self.now.ready in
    let capacity = g.met.B.FixedCapacity.one_capacity c.args.self.now.ready in
    found_counts s _ c.first_one_in-in-None.result
    (IsNextInTurn (round_at s c.args.self.now.turn)) (sym capacity)
    (λ k next. (next.within, next.is_ready)) (returns-in-None-clause-next g c)

pub returns-in-None-clause-succeeds : goal.returns-in-None-clause-succeeds
returns-in-None-clause-succeeds g c =
    found_if_any _ c.first_one_in-in-None.result (returns-in-None-clause-some g c)
