use Rattle.std.proofs.Common.{◌<◌, ◌∷◌, [], length, get_or, refl, ap, ◌∙◌, arith}
use Rattle.std.specs.Prelude.{pos}
use Rattle.std.specs.Int.{int_wrapping_add, w32}
use Rattle.std.proofs.lemmas.List.{length-set}
use Rattle.std.proofs.lemmas.Option.{slice_get-get_or}
use Rattle.bittle.specs.PlainSet.{PlainSet, ascending}
use Rattle.bittle.specs.Values.{set_in}
use Rattle.bit_entities.specs.Entities.{matching, world_of}
use Rattle.bit_entities.proofs.Matches.{matching_ends, visits_exactly}
use Rattle.bit_uses.proofs.Steps.{none_stepped, next_below, next_stepped, none_left}
use Rattle.bit_uses.proofs.entities.step.Given.{Over}
use Rattle.bit_uses.proofs.entities.step.Goals.{In-Some}
use Rattle.bit_uses.proofs.entities.step.Goals as goal

pub loop-entity-init : goal.loop-entity-init
loop-entity-init g c =
    let world = c.args.world.now in
    let movers : PlainSet = matching (world_of g.row.N (set_in g.B.Shape g.B.Order.Endian)
    world.alive world.components) (0 ∷ 1 ∷ []) in
    let all = ap (λ w. w.remaining) c.into_iter-entity-iterator.ensures.into_iter_gives
    ∙ c.iter_ones-entity-items.ensures.remaining ∙ ap ascending c.matching-movers.ensures.mask in
    record {
      places = refl;
      stepped = none_stepped movers (int_wrapping_add w32) c.args.places.now c.args.speeds.now _
          ((visits_exactly movers _).1 all);
    }

-- the entity is an index of both tables
within : (g : Over) (c : In-Some g) → c.in-Some.entity < g.B.Shape.type_capacity
within g c = omega (
  arith,
  g.met.B.FixedCapacity.one_capacity c.args.world.now.alive,
  next_below _ _ _ _ _ _ _ _ c.loop-entity.invariant.stepped c.in-Some.ensures.steps.gave,
)

pub slice_copy_out-places : goal.slice_copy_out-places
slice_copy_out-places g c =
    omega (arith, within g c, c.requires.places, c.loop-entity.invariant.places)

pub bounds-speeds-entity : goal.bounds-speeds-entity
bounds-speeds-entity g c = omega (
  arith,
  within g (goal.at.bounds-speeds-entity g c).In-Some,
  c.requires.speeds,
)

pub bounds-places-entity : goal.bounds-places-entity
bounds-places-entity g c = omega (
  arith,
  within g (goal.at.bounds-places-entity g c).In-Some,
  c.requires.places,
  c.loop-entity.invariant.places,
)

pub loop-entity-preserved : goal.loop-entity-preserved
loop-entity-preserved g c =
    let places = c.loop-entity.places in
    let entity = c.in-Some.entity in
    let below = within g (goal.at.loop-entity-preserved g c).In-Some in
    let here : entity < length places =
    omega (arith, below, c.requires.places, c.loop-entity.invariant.places) in
    let there : entity < length c.args.speeds.now = omega (arith, below, c.requires.speeds) in
    record {
      places = length-set places entity _ ∙ c.loop-entity.invariant.places;
      stepped = next_stepped _ _ _ _ _ _ _ _ c.loop-entity.invariant.stepped
          c.in-Some.ensures.steps.gave (get_or places entity (pos 0))
          (get_or c.args.speeds.now entity (pos 0)) here
          (slice_get-get_or places entity (pos 0) here)
          (slice_get-get_or c.args.speeds.now entity (pos 0) there);
    }

pub returns-clause-once : goal.returns-clause-once
returns-clause-once g c =
    none_left _ _ _ _ _ _ (matching_ends _ (0 ∷ 1 ∷ []) c.args.world.now.sound)
    c.loop-entity.invariant.stepped c.in-None.ensures.steps.gave.0
