use Rattle.std.proofs.Common.{◌≡◌, ◌+◌, ◌<◌, true, false, cond, get_or, set, length, sym, ap, ◌∙◌}
use Rattle.std.proofs.Common.{subst, arith}
use Rattle.std.proofs.lemmas.Option.{slice_get-get_or}
use Rattle.bittle.specs.Values.{set_in}
use Rattle.bit_entities.specs.Entities.{World, IsWorld, world_of, with_component, without_first}
use Rattle.bit_entities.specs.Entities.{without_components}
use Rattle.bit_entities.proofs.Masks.{taken_out, row_changed, one_more_lost}
use Rattle.bit_entities.proofs.Others.{keeps_nothing, other_keeps}
use Rattle.bit_entities.proofs.Worlds.{losing_is_world, all_lost}
use Rattle.bit_entities.proofs.World.detach_all.Given.{Over}
use Rattle.bit_entities.proofs.World.detach_all.Goals.{After-clear_bit, After-loop-component}
use Rattle.bit_entities.proofs.World.detach_all.Goals as goal

-- one more component is lost
lost_next : (g : Over) (c : After-clear_bit g) →
    world_of g.row.N (set_in g.B.Shape g.B.Order.Endian) c.loop-component.self.alive
    (set c.loop-component.self.components c.loop-component.component c.clear_bit.new.self)
    ≡ without_first (world_of g.row.N (set_in g.B.Shape g.B.Order.Endian) c.args.self.now.alive
    c.args.self.now.components) c.args.entity (c.loop-component.component + 1)
lost_next g c =
    let w : World = world_of g.row.N (set_in g.B.Shape g.B.Order.Endian) c.args.self.now.alive
    c.args.self.now.components in
    let entity = c.args.entity in
    let k = c.loop-component.component in
    let now = c.loop-component.self in
    let mask = get_or now.components k c.index-self-component.result in
    let capacity = g.met.B.FixedCapacity.one_capacity mask in
    let all = g.met.B.FixedCapacity.one_capacity c.args.self.now.alive in
    let inside : k < length now.components = omega arith in
    let lives : w.alive.has entity ≡ true = sym c.is_alive.ensures.value ∙ cc in
    let below = c.args.self.now.sound.living_are_below entity lives in
    row_changed g.row.N (set_in g.B.Shape g.B.Order.Endian) now.alive now.components entity k false
    mask c.clear_bit.new.self inside
    (slice_get-get_or now.components k c.index-self-component.result inside)
    (c.clear_bit.ensures.set ∙ taken_out _ entity (omega (arith, capacity, all, below)))
    ∙ ap (λ t. with_component t entity k false) c.loop-component.invariant.lost
    ∙ one_more_lost w entity k

pub loop-component-preserved : goal.loop-component-preserved
loop-component-preserved g c = record {
  alive = c.loop-component.invariant.alive;
  lost = lost_next g (goal.at.loop-component-preserved g c).After-clear_bit;
}

pub invariant_of-self-clause-sound : goal.invariant_of-self-clause-sound
invariant_of-self-clause-sound g c =
    let w : World = world_of g.row.N (set_in g.B.Shape g.B.Order.Endian) c.args.self.now.alive
    c.args.self.now.components in
    subst IsWorld (sym (lost_next g (goal.at.invariant_of-self-clause-sound g c).After-clear_bit))
    (losing_is_world w c.args.entity (c.loop-component.component + 1) c.args.self.now.sound)

-- the entity has no component
lost : (g : Over) (c : After-loop-component g) →
    world_of g.row.N (set_in g.B.Shape g.B.Order.Endian) c.loop-component.self.alive
    c.loop-component.self.components
    ≡ without_components (world_of g.row.N (set_in g.B.Shape g.B.Order.Endian)
    c.args.self.now.alive c.args.self.now.components) c.args.entity
lost g c =
    let w : World = world_of g.row.N (set_in g.B.Shape g.B.Order.Endian) c.args.self.now.alive
    c.args.self.now.components in
    let end : c.loop-component.component ≡ g.row.N = omega arith in
    c.loop-component.invariant.lost ∙ ap (without_first w c.args.entity) end
    ∙ all_lost w c.args.entity c.args.self.now.sound

pub returns-clause-world : goal.returns-clause-world
returns-clause-world g c =
    let w : World = world_of g.row.N (set_in g.B.Shape g.B.Order.Endian) c.args.self.now.alive
    c.args.self.now.components in
    let lives : w.alive.has c.args.entity ≡ true = sym c.is_alive.ensures.value ∙ cc in
    lost g (goal.at.returns-clause-world g c).After-loop-component
    ∙ ap (λ b. cond b (without_components w c.args.entity) w) (sym lives)

pub returns-clause-bare : goal.returns-clause-bare
returns-clause-bare g c component =
    let w : World = world_of g.row.N (set_in g.B.Shape g.B.Order.Endian) c.args.self.now.alive
    c.args.self.now.components in
    keeps_nothing w _ c.args.entity
    (ap (λ t. t.has) (lost g (goal.at.returns-clause-bare g c).After-loop-component)) component

pub returns-clause-others : goal.returns-clause-others
returns-clause-others g c =
    let w : World = world_of g.row.N (set_in g.B.Shape g.B.Order.Endian) c.args.self.now.alive
    c.args.self.now.components in
    other_keeps w _ c.args.entity
    (ap (λ t. t.has) (lost g (goal.at.returns-clause-others g c).After-loop-component))
