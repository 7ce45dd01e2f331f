use Rattle.std.proofs.Common.{◌≡◌, ◌<◌, true, false, cond, get_or, set, length, sym, ap, ◌∙◌, subst}
use Rattle.std.proofs.Common.{arith}
use Rattle.std.proofs.lemmas.Option.{slice_get-get_or}
use Rattle.bittle.specs.Values.{set_in}
use Rattle.bit_entities.specs.Entities.{World, IsWorld, world_of, may_have, with_component}
use Rattle.bit_entities.proofs.Masks.{taken_out, row_changed}
use Rattle.bit_entities.proofs.Others.{same_entity, same_component}
use Rattle.bit_entities.proofs.Worlds.{may_parts, having_is_world, has_now}
use Rattle.bit_entities.proofs.World.detach.Given.{Over}
use Rattle.bit_entities.proofs.World.detach.Goals.{After-clear_bit}
use Rattle.bit_entities.proofs.World.detach.Goals as goal

-- the entity has the component no longer
detached : (g : Over) (c : After-clear_bit g) →
    world_of g.row.N (set_in g.B.Shape g.B.Order.Endian) c.args.self.now.alive
    (set c.args.self.now.components c.args.component c.clear_bit.new.self)
    ≡ with_component (world_of g.row.N (set_in g.B.Shape g.B.Order.Endian) c.args.self.now.alive
    c.args.self.now.components) c.args.entity c.args.component false
detached g c =
    let masks = c.args.self.now.components in
    let w : World = world_of g.row.N (set_in g.B.Shape g.B.Order.Endian) c.args.self.now.alive
    masks in
    let mask = get_or masks c.args.component c.index-self-component.result in
    let capacity = g.met.B.FixedCapacity.one_capacity mask in
    let all = g.met.B.FixedCapacity.one_capacity c.args.self.now.alive in
    let may = may_parts w c.args.entity c.args.component (sym c.may_have.ensures.value ∙ cc) in
    let inside : c.args.component < length masks = omega (arith, may.0) in
    let below = c.args.self.now.sound.living_are_below c.args.entity may.1 in
    row_changed g.row.N (set_in g.B.Shape g.B.Order.Endian) c.args.self.now.alive masks
    c.args.entity c.args.component false mask c.clear_bit.new.self inside
    (slice_get-get_or masks c.args.component c.index-self-component.result inside)
    (c.clear_bit.ensures.set ∙ taken_out _ c.args.entity (omega (arith, capacity, all, below)))

pub invariant_of-self-clause-sound : goal.invariant_of-self-clause-sound
invariant_of-self-clause-sound g c =
    let w : World = world_of g.row.N (set_in g.B.Shape g.B.Order.Endian) c.args.self.now.alive
    c.args.self.now.components in
    let may = may_parts w c.args.entity c.args.component (sym c.may_have.ensures.value ∙ cc) in
    subst IsWorld (sym (detached g (goal.at.invariant_of-self-clause-sound g c).After-clear_bit))
    (having_is_world w c.args.entity c.args.component false c.args.self.now.sound may.0 may.1)

pub returns-clause-world : goal.returns-clause-world
returns-clause-world g c =
    let w : World = world_of g.row.N (set_in g.B.Shape g.B.Order.Endian) c.args.self.now.alive
    c.args.self.now.components in
    let may : may_have w c.args.entity c.args.component
    ≡ true = sym c.may_have.ensures.value ∙ cc in
    detached g (goal.at.returns-clause-world g c).After-clear_bit
    ∙ ap (λ b. cond b (with_component w c.args.entity c.args.component false) w) (sym may)

pub returns-clause-lacks : goal.returns-clause-lacks
returns-clause-lacks g c =
    has_now _ c.args.entity c.args.component false _
    (detached g (goal.at.returns-clause-lacks g c).After-clear_bit)

pub returns-clause-others : goal.returns-clause-others
returns-clause-others g c =
    let w : World = world_of g.row.N (set_in g.B.Shape g.B.Order.Endian) c.args.self.now.alive
    c.args.self.now.components in
    same_entity w _ c.args.entity c.args.component false
    (detached g (goal.at.returns-clause-others g c).After-clear_bit)

pub returns-clause-components : goal.returns-clause-components
returns-clause-components g c =
    let w : World = world_of g.row.N (set_in g.B.Shape g.B.Order.Endian) c.args.self.now.alive
    c.args.self.now.components in
    same_component w _ c.args.entity c.args.component false
    (detached g (goal.at.returns-clause-components g c).After-clear_bit)
