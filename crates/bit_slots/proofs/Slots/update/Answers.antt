use Rattle.std.specs.Fn.{FnOnceReturnsAtMut}
use Rattle.bit_slots.specs.Keys.{stages}
use Rattle.bit_slots.proofs.KeyHistories.{update_finds, update_makes, update_stays}
use Rattle.bit_slots.proofs.Slots.update.Goals as goal

pub returns-clause-found : goal.returns-clause-found
returns-clause-found g c =
    update_finds (λ old new. FnOnceReturnsAtMut g.F.FnOnce c.args.change old tt new)
    (stages c.args.self.now.row.now) (stages c.update.new.row)
    c.args.key c.update.result c.update.ensures.stages

pub returns-clause-stays : goal.returns-clause-stays
returns-clause-stays g c =
    update_stays (λ old new. FnOnceReturnsAtMut g.F.FnOnce c.args.change old tt new)
    (stages c.args.self.now.row.now) (stages c.update.new.row)
    c.args.key c.update.result c.update.ensures.stages

pub returns-clause-value : goal.returns-clause-value
returns-clause-value g c =
    update_makes (λ old new. FnOnceReturnsAtMut g.F.FnOnce c.args.change old tt new)
    (stages c.args.self.now.row.now) (stages c.update.new.row)
    c.args.key c.update.result c.update.ensures.stages
