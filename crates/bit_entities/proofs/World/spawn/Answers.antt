use Rattle.std.proofs.Common.{ℕ, ◌<◌, true, Some, None, sym, ap, ◌∙◌, subst, arith}
use Rattle.bittle.specs.PlainSet.{PlainSet, complement, size}
use Rattle.bittle.specs.Searches.{IsFirstIn}
use Rattle.bittle.specs.Values.{set_in}
use Rattle.bittle.proofs.CallerChanges.{size_with}
use Rattle.bit_entities.specs.Entities.{World, IsWorld, world_of, with_spawned}
use Rattle.bit_entities.proofs.Counts.{none_is_full, free_is_room}
use Rattle.bit_entities.proofs.LeastDead.{first_listed, least_outside, outside}
use Rattle.bit_entities.proofs.Masks.{put_in, number_now}
use Rattle.bit_entities.proofs.Others.{number_other}
use Rattle.bit_entities.proofs.Worlds.{now_lives, living_is_world, dead_lacks}
use Rattle.bit_entities.proofs.World.spawn.Goals as goal

pub returns-in_err-entity-clause-entity : goal.returns-in_err-entity-clause-entity
returns-in_err-entity-clause-entity g c =
    let alive : PlainSet = set_in g.B.Shape g.B.Order.Endian c.args.self.now.alive in
    let capacity = g.met.B.FixedCapacity.one_capacity c.args.self.now.alive in
    let bits = c.bits.ensures.value c.args.self.now.fits in
    c.from_residual.ensures
    ∙ first_listed (complement alive) _ None (bits ∙ sym capacity) c.in_err-entity.ensures

pub returns-in_err-entity-clause-world : goal.returns-in_err-entity-clause-world
returns-in_err-entity-clause-world g c =
    let w : World = world_of g.row.N (set_in g.B.Shape g.B.Order.Endian) c.args.self.now.alive
    c.args.self.now.components in
    let capacity = g.met.B.FixedCapacity.one_capacity c.args.self.now.alive in
    let bits = c.bits.ensures.value c.args.self.now.fits in
    ap (with_spawned w)
    (first_listed (complement w.alive) _ None (bits ∙ sym capacity) c.in_err-entity.ensures)

pub invariant_of-self-clause-sound : goal.invariant_of-self-clause-sound
invariant_of-self-clause-sound g c =
    let w : World = world_of g.row.N (set_in g.B.Shape g.B.Order.Endian) c.args.self.now.alive
    c.args.self.now.components in
    let entity = c.in_ok-entity.entity in
    let capacity = g.met.B.FixedCapacity.one_capacity c.args.self.now.alive in
    let bits = c.bits.ensures.value c.args.self.now.fits in
    let below : entity < w.alive.capacity =
    omega (arith, capacity, bits, c.in_ok-entity.ensures.1) in
    subst IsWorld (sym (now_lives w entity _ (c.set_bit.ensures.set ∙ put_in w.alive entity below)))
    (living_is_world w entity c.args.self.now.sound below)

pub returns-clause-entity : goal.returns-clause-entity
returns-clause-entity g c =
    let alive : PlainSet = set_in g.B.Shape g.B.Order.Endian c.args.self.now.alive in
    let capacity = g.met.B.FixedCapacity.one_capacity c.args.self.now.alive in
    let bits = c.bits.ensures.value c.args.self.now.fits in
    first_listed (complement alive) _ (Some c.in_ok-entity.entity) (bits ∙ sym capacity)
    c.in_ok-entity.ensures

pub returns-clause-world : goal.returns-clause-world
returns-clause-world g c =
    let w : World = world_of g.row.N (set_in g.B.Shape g.B.Order.Endian) c.args.self.now.alive
    c.args.self.now.components in
    let entity = c.in_ok-entity.entity in
    let capacity = g.met.B.FixedCapacity.one_capacity c.args.self.now.alive in
    let bits = c.bits.ensures.value c.args.self.now.fits in
    now_lives w entity _ (c.set_bit.ensures.set
    ∙ put_in w.alive entity (omega (arith, capacity, bits, c.in_ok-entity.ensures.1)))
    ∙ ap (with_spawned w) (returns-clause-entity g c)

pub returns-clause-lives : goal.returns-clause-lives
returns-clause-lives g c =
    let alive : PlainSet = set_in g.B.Shape g.B.Order.Endian c.args.self.now.alive in
    let entity = c.in_ok-entity.entity in
    let below = outside alive entity c.in_ok-entity.ensures.2 in
    number_now alive entity true _ (c.set_bit.ensures.set ∙ put_in alive entity below.0)

pub returns-clause-bare : goal.returns-clause-bare
returns-clause-bare g c =
    let w : World = world_of g.row.N (set_in g.B.Shape g.B.Order.Endian) c.args.self.now.alive
    c.args.self.now.components in
    let entity = c.in_ok-entity.entity in
    dead_lacks w entity c.args.self.now.sound (outside w.alive entity c.in_ok-entity.ensures.2).1

pub returns-clause-was_dead : goal.returns-clause-was_dead
returns-clause-was_dead g c =
    let alive : PlainSet = set_in g.B.Shape g.B.Order.Endian c.args.self.now.alive in
    (outside alive c.in_ok-entity.entity c.in_ok-entity.ensures.2).1

pub returns-clause-others : goal.returns-clause-others
returns-clause-others g c other apart =
    let alive : PlainSet = set_in g.B.Shape g.B.Order.Endian c.args.self.now.alive in
    let entity = c.in_ok-entity.entity in
    let below = outside alive entity c.in_ok-entity.ensures.2 in
    number_other alive entity true _ (c.set_bit.ensures.set ∙ put_in alive entity below.0) other
    (λ same. apart (ap Some (sym same)))

pub returns-clause-count : goal.returns-clause-count
returns-clause-count g c =
    let alive : PlainSet = set_in g.B.Shape g.B.Order.Endian c.args.self.now.alive in
    let entity = c.in_ok-entity.entity in
    let found = outside alive entity c.in_ok-entity.ensures.2 in
    ap size c.set_bit.ensures.set ∙ size_with alive entity found.0 found.1

pub returns-in_err-entity-clause-room : goal.returns-in_err-entity-clause-room
returns-in_err-entity-clause-room g c =
    let alive : PlainSet = set_in g.B.Shape g.B.Order.Endian c.args.self.now.alive in
    let capacity = g.met.B.FixedCapacity.one_capacity c.args.self.now.alive in
    let bits = c.bits.ensures.value c.args.self.now.fits in
    rw (c.from_residual.ensures) (none_is_full alive
    (λ k p h. c.in_err-entity.ensures k p (omega (arith, capacity, bits, h))) ∙ capacity)

pub returns-clause-room : goal.returns-clause-room
returns-clause-room g c =
    let alive : PlainSet = set_in g.B.Shape g.B.Order.Endian c.args.self.now.alive in
    let capacity = g.met.B.FixedCapacity.one_capacity c.args.self.now.alive in
    let room = free_is_room alive c.in_ok-entity.entity c.in_ok-entity.ensures.2 in
    omega (arith, capacity, room)

pub returns-in_err-entity-clause-least_dead : goal.returns-in_err-entity-clause-least_dead
returns-in_err-entity-clause-least_dead g c other below dead =
    let alive : PlainSet = set_in g.B.Shape g.B.Order.Endian c.args.self.now.alive in
    let capacity = g.met.B.FixedCapacity.one_capacity c.args.self.now.alive in
    let bits = c.bits.ensures.value c.args.self.now.fits in
    rw c.from_residual.ensures
    (least_outside alive None
    (subst (λ (n : ℕ). IsFirstIn (complement alive) 0 n None) (bits ∙ sym capacity)
    c.in_err-entity.ensures)
    other (omega (arith, below, capacity)) dead)

pub returns-clause-least_dead : goal.returns-clause-least_dead
returns-clause-least_dead g c other below dead =
    let alive : PlainSet = set_in g.B.Shape g.B.Order.Endian c.args.self.now.alive in
    let capacity = g.met.B.FixedCapacity.one_capacity c.args.self.now.alive in
    let bits = c.bits.ensures.value c.args.self.now.fits in
    least_outside alive (Some c.in_ok-entity.entity)
    (subst (λ (n : ℕ). IsFirstIn (complement alive) 0 n (Some c.in_ok-entity.entity))
    (bits ∙ sym capacity) c.in_ok-entity.ensures)
    other (omega (arith, below, capacity)) dead

pub returns-in_err-entity-clause-succeeds : goal.returns-in_err-entity-clause-succeeds
returns-in_err-entity-clause-succeeds g c room =
    let alive : PlainSet = set_in g.B.Shape g.B.Order.Endian c.args.self.now.alive in
    let capacity = g.met.B.FixedCapacity.one_capacity c.args.self.now.alive in
    let bits = c.bits.ensures.value c.args.self.now.fits in
    let full = none_is_full alive
    (λ k p h. c.in_err-entity.ensures k p (omega (arith, capacity, bits, h))) in
    absurd (omega (arith, room, capacity, full))
