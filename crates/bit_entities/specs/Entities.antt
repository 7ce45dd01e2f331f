-- The entity machine: its state tells which entities are alive and which components each entity
-- has, and each event has an answer and a next state. Entities and components are numbers.
use Rattle.std.specs.List.{fold, scan, list_all}
use Rattle.std.specs.Prelude.{◌≡◌, ℕ, ◌<◌, ◌≤◌, Bool, true, false, ◌&&◌, ◌==◌, nat_lt}
use Rattle.std.specs.Prelude.{if◌then◌else◌}
use Rattle.std.specs.Prelude.{Option, Some, None, List, slice_get}
use Rattle.bittle.specs.PlainSet.{PlainSet, ascending, complement, empty_set}
use Rattle.bit_entities.specs.declared.Event.{Event}
use Rattle.bit_entities.specs.declared.Event.TheVariants.{Spawn, Remove, Attach, Detach, DetachAll}
use Rattle.bit_entities.specs.declared.Answer.{Answer}
use Rattle.bit_entities.specs.declared.Answer.TheVariants.{Spawned, Full, Done, Refused}

-- the entities that are alive, how many components there are, and whether an entity has a component
pub record World : Type 0 where
  pub alive : PlainSet
  pub components : ℕ
  pub has : ℕ → ℕ → Bool

-- no dead entity has a component; each component is below the number of components, and each living
-- entity is below the capacity
pub record IsWorld (w : World) : Type 0 where
  pub dead_have_nothing : (entity component : ℕ) → w.has entity component ≡ true →
      w.alive.has entity ≡ true
  pub living_are_below : (entity : ℕ) → w.alive.has entity ≡ true → entity < w.alive.capacity
  pub components_are_below : (entity component : ℕ) → w.has entity component ≡ true →
      component < w.components

-- the least number that is not alive, or None if all are
abbrev pub least_dead : World → Option ℕ
least_dead w = slice_get (ascending (complement w.alive)) 0

-- whether an entity may be given the component: it is alive, and there is such a component
abbrev pub may_have : World → ℕ → ℕ → Bool
may_have w entity component = nat_lt component w.components && w.alive.has entity

-- the set s with the number i if `is` is true, and else without this number
abbrev pub with_number : PlainSet → ℕ → Bool → PlainSet
with_number s i is = record { capacity = s.capacity; has = λ k. if k == i then is else s.has k }

-- the world in which the entity `entity` is alive too; no component changes
abbrev pub with_living : World → ℕ → World
with_living w entity = record {
  alive = with_number w.alive entity true;
  components = w.components;
  has = w.has;
}

-- the world in which an entity has lost each of its components below `many`
abbrev pub without_first : World → ℕ → ℕ → World
without_first w entity many = record {
  alive = w.alive;
  components = w.components;
  has = λ k c. if (k == entity) && nat_lt c many then false else w.has k c;
}

-- the world in which an entity has no component; no life changes
abbrev pub without_components : World → ℕ → World
without_components w entity = record {
  alive = w.alive;
  components = w.components;
  has = λ k c. if k == entity then false else w.has k c;
}

-- the world without an entity and its components
abbrev pub without_entity : World → ℕ → World
without_entity w entity = record {
  alive = with_number w.alive entity false;
  components = w.components;
  has = λ k c. if k == entity then false else w.has k c;
}

-- the world in which an entity has a component if `is` is true, and else lacks this component
abbrev pub with_component : World → ℕ → ℕ → Bool → World
with_component w entity component is = record {
  alive = w.alive;
  components = w.components;
  has = λ k c. if (k == entity) && (c == component) then is else w.has k c;
}

-- the answer to a spawn: the entity that was found, or Full if none was found
abbrev pub spawned_or_full : Option ℕ → Answer
spawned_or_full None = Full
spawned_or_full (Some entity) = Spawned entity

-- the world after a spawn: the entity that was found, if any, is alive too
abbrev pub with_spawned : World → Option ℕ → World
with_spawned w None = w
with_spawned w (Some entity) = with_living w entity

-- the answer to an event
abbrev pub answer_to : World → Event → Answer
answer_to w Spawn = spawned_or_full (least_dead w)
answer_to w (Remove entity) = if w.alive.has entity then Done else Refused
answer_to w (Attach entity component) = if may_have w entity component then Done else Refused
answer_to w (Detach entity component) = if may_have w entity component then Done else Refused
answer_to w (DetachAll entity) = if w.alive.has entity then Done else Refused

-- the world after an event
abbrev pub world_after : World → Event → World
world_after w Spawn = with_spawned w (least_dead w)
world_after w (Remove entity) = if w.alive.has entity then without_entity w entity else w
world_after w (Attach entity component) = if may_have w entity component
    then with_component w entity component true
    else w
world_after w (Detach entity component) = if may_have w entity component
    then with_component w entity component false
    else w
world_after w (DetachAll entity) = if w.alive.has entity then without_components w entity else w

-- the answers to a list of events
unfoldable pub event_answers : World → List Event → List Answer
event_answers w events = scan world_after answer_to w events

-- the world after a list of events
unfoldable pub final_world : World → List Event → World
final_world w events = fold world_after w events

-- the living entities that have each of the required components
abbrev pub matching : World → List ℕ → PlainSet
matching w required = record {
  capacity = w.alive.capacity;
  has = λ entity. w.alive.has entity && list_all (w.has entity) required;
}

-- each living entity that has the required components is in the mask, and each entity in the mask
-- is alive
pub record IncludesMatching (w : World) (required : List ℕ) (mask : PlainSet) : Type 0 where
  pub has_all : (entity : ℕ) → (matching w required).has entity ≡ true → mask.has entity ≡ true
  pub are_alive : (entity : ℕ) → mask.has entity ≡ true → w.alive.has entity ≡ true

-- no number at or past the capacity is a member
abbrev pub EndsAtCapacity : PlainSet → Type 0
EndsAtCapacity s = (k : ℕ) → s.capacity ≤ k → s.has k ≡ false

-- the numbers of a mask that have a component
abbrev pub having : World → PlainSet → ℕ → PlainSet
having w mask component = record {
  capacity = mask.capacity;
  has = λ entity. mask.has entity && w.has entity component;
}

-- whether a mask exists and has the entity as a member
abbrev pub is_in : {X : Type 0} → (X → PlainSet) → Option X → ℕ → Bool
is_in set None entity = false
is_in set (Some mask) entity = (set mask).has entity

-- the world given by a mask of the living entities and a row of masks, one for each component
abbrev pub world_of : {X : Type 0} → ℕ → (X → PlainSet) → X → List X → World
world_of count set alive components = record {
  alive = set alive;
  components = count;
  has = λ entity component. is_in set (slice_get components component) entity;
}

-- the world in which these entities are alive, and have no component
abbrev pub bare_world : PlainSet → ℕ → World
bare_world alive count = record {
  alive = alive;
  components = count;
  has = λ entity component. false;
}

-- the world in which no entity is alive
abbrev pub empty_world : ℕ → ℕ → World
empty_world capacity count = bare_world (empty_set capacity) count
