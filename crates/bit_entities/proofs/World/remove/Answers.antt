use Rattle.std.proofs.Common.{◌≡◌, ◌+◌, true, false, cond, sym, ap, ◌∙◌, subst, arith}
use Rattle.bittle.specs.PlainSet.{size, without_index}
use Rattle.bittle.specs.Values.{set_in}
use Rattle.bittle.proofs.CallerChanges.{size_without}
use Rattle.bittle.proofs.CallerSets.{size_at_most}
use Rattle.bit_entities.specs.Entities.{World, IsWorld, world_of, without_components}
use Rattle.bit_entities.specs.Entities.{without_entity}
use Rattle.bit_entities.proofs.Masks.{taken_out, number_now}
use Rattle.bit_entities.proofs.Others.{keeps_nothing, other_lives, other_keeps}
use Rattle.bit_entities.proofs.Worlds.{going_is_world, now_gone}
use Rattle.bit_entities.proofs.World.remove.Given.{Over}
use Rattle.bit_entities.proofs.World.remove.Goals.{After-clear_bit}
use Rattle.bit_entities.proofs.World.remove.Goals as goal

-- the entity is gone
gone : (g : Over) (c : After-clear_bit g) →
    world_of g.row.N (set_in g.B.Shape g.B.Order.Endian) c.clear_bit.new.self
    c.detach_all.new.self.components
    ≡ without_entity (world_of g.row.N (set_in g.B.Shape g.B.Order.Endian) c.args.self.now.alive
    c.args.self.now.components) c.args.entity
gone g c =
    let w : World = world_of g.row.N (set_in g.B.Shape g.B.Order.Endian) c.args.self.now.alive
    c.args.self.now.components in
    let entity = c.args.entity in
    let bare = c.detach_all.new.self in
    let t : World = world_of g.row.N (set_in g.B.Shape g.B.Order.Endian) bare.alive
    bare.components in
    let capacity = g.met.B.FixedCapacity.one_capacity bare.alive in
    let all = g.met.B.FixedCapacity.one_capacity c.args.self.now.alive in
    let lives : w.alive.has entity ≡ true = sym c.detach_all.ensures.done ∙ cc in
    let below = c.args.self.now.sound.living_are_below entity lives in
    let lost = c.detach_all.ensures.world
    ∙ ap (λ b. cond b (without_components w entity) w) lives in
    now_gone w entity t lost _
    (c.clear_bit.ensures.set ∙ taken_out t.alive entity (omega (arith, capacity, all, below)))

pub returns-clause-world : goal.returns-clause-world
returns-clause-world g c =
    let w : World = world_of g.row.N (set_in g.B.Shape g.B.Order.Endian) c.args.self.now.alive
    c.args.self.now.components in
    let lives : w.alive.has c.args.entity ≡ true = sym c.detach_all.ensures.done ∙ cc in
    gone g (goal.at.returns-clause-world g c).After-clear_bit
    ∙ ap (λ b. cond b (without_entity w c.args.entity) w) (sym lives)

pub invariant_of-self-clause-sound : goal.invariant_of-self-clause-sound
invariant_of-self-clause-sound g c =
    let w : World = world_of g.row.N (set_in g.B.Shape g.B.Order.Endian) c.args.self.now.alive
    c.args.self.now.components in
    subst IsWorld (sym (gone g (goal.at.invariant_of-self-clause-sound g c).After-clear_bit))
    (going_is_world w c.args.entity c.args.self.now.sound)

pub returns-clause-gone : goal.returns-clause-gone
returns-clause-gone g c =
    let w : World = world_of g.row.N (set_in g.B.Shape g.B.Order.Endian) c.args.self.now.alive
    c.args.self.now.components in
    number_now w.alive c.args.entity false _
    (ap (λ t. t.alive) (gone g (goal.at.returns-clause-gone g c).After-clear_bit))

pub returns-clause-others : goal.returns-clause-others
returns-clause-others g c =
    let w : World = world_of g.row.N (set_in g.B.Shape g.B.Order.Endian) c.args.self.now.alive
    c.args.self.now.components in
    other_lives w _ c.args.entity (gone g (goal.at.returns-clause-others g c).After-clear_bit)

pub returns-clause-components : goal.returns-clause-components
returns-clause-components g c =
    let w : World = world_of g.row.N (set_in g.B.Shape g.B.Order.Endian) c.args.self.now.alive
    c.args.self.now.components in
    other_keeps w _ c.args.entity
    (ap (λ t. t.has) (gone g (goal.at.returns-clause-components g c).After-clear_bit))

pub returns-clause-bare : goal.returns-clause-bare
returns-clause-bare g c component =
    let w : World = world_of g.row.N (set_in g.B.Shape g.B.Order.Endian) c.args.self.now.alive
    c.args.self.now.components in
    keeps_nothing w _ c.args.entity
    (ap (λ t. t.has) (gone g (goal.at.returns-clause-bare g c).After-clear_bit)) component

pub returns-clause-count : goal.returns-clause-count
returns-clause-count g c =
    let w : World = world_of g.row.N (set_in g.B.Shape g.B.Order.Endian) c.args.self.now.alive
    c.args.self.now.components in
    let entity = c.args.entity in
    let set_of = set_in g.B.Shape g.B.Order.Endian in
    let same = ap set_of c.detach_all.ensures.living in
    let lives : w.alive.has entity ≡ true = sym c.detach_all.ensures.done ∙ cc in
    let within = c.args.self.now.sound.living_are_below entity lives in
    size_without w.alive entity within lives
    ∙ sym (ap (λ t. size t + 1) (c.clear_bit.ensures.set ∙ ap (λ s. without_index s entity) same))

pub returns-clause-room : goal.returns-clause-room
returns-clause-room g c done =
    let w : World = world_of g.row.N (set_in g.B.Shape g.B.Order.Endian) c.args.self.now.alive
    c.args.self.now.components in
    let all = g.met.B.FixedCapacity.one_capacity c.args.self.now.alive in
    omega (
      arith,
      returns-clause-count g c,
      size_at_most w.alive,
      all,
    )
