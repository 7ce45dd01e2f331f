-- Laws of the entity machine, for all events.
use Rattle.std.specs.Prelude.{◌≡◌, ◌≢◌, ℕ, suc, ◌+◌, ◌<◌, ◌⊎◌, ◌↔◌, Bool, true, false, ◌==◌, Some}
use Rattle.std.specs.Prelude.{List, [], ◌∷◌, slice_get}
use Rattle.bittle.specs.PlainSet.{PlainSet, ascending, size}
use Rattle.bittle.specs.Searches.{NoneIn, IsFirstIn}
use Rattle.bit_histories.specs.Histories.{total}
use Rattle.bit_entities.specs.Entities.{World, IsWorld, empty_world, answer_to, world_after}
use Rattle.bit_entities.specs.Entities.{event_answers, final_world, matching}
use Rattle.bit_entities.specs.declared.Event.{Event}
use Rattle.bit_entities.specs.declared.Event.TheVariants.{Spawn, Remove, Attach, Detach, DetachAll}
use Rattle.bit_entities.specs.declared.Answer.{Answer}
use Rattle.bit_entities.specs.declared.Answer.TheVariants.{Spawned, Full, Done, Refused}

-- a world stays as `IsWorld` says after any events
abbrev pub WorldsStayWorlds : Type 0
WorldsStayWorlds = (w : World) (events : List Event) → IsWorld w → IsWorld (final_world w events)

-- in a world that began as a new world, no dead entity ever has a component
abbrev pub DeadHaveNothing : Type 0
DeadHaveNothing =
    (capacity count : ℕ) (events : List Event)
    → IsWorld (final_world (empty_world capacity count) events)

-- the number is below the capacity, it is not alive, and each number below it is alive
pub record IsLeastDead (w : World) (entity : ℕ) : Type 0 where
  pub below : entity < w.alive.capacity
  pub is_dead : w.alive.has entity ≡ false
  pub least : (k : ℕ) → k < entity → w.alive.has k ≡ true

-- an entity is spawned exactly if an entity is asked for, and it is the least number that is not
-- alive
abbrev pub SpawnedExactlyIfLeast : Type 0
SpawnedExactlyIfLeast =
    (w : World) (event : Event) (entity : ℕ)
    → (answer_to w event ≡ Spawned entity) ↔ ((event ≡ Spawn) × IsLeastDead w entity)

-- an entity is new: an entity was asked for, this one is the least number that was not alive
-- before, and now it is alive and has no component
pub record IsNew (before : World) (event : Event) (after : World) (entity : ℕ) : Type 0 where
  pub asked : event ≡ Spawn
  pub first : IsLeastDead before entity
  pub lives : after.alive.has entity ≡ true
  pub has_nothing : (component : ℕ) → after.has entity component ≡ false

abbrev pub SpawnedAreNew : Type 0
SpawnedAreNew =
    (w : World) (event : Event) (entity : ℕ)
    → IsWorld w
    → answer_to w event ≡ Spawned entity
    → IsNew w event (world_after w event) entity

-- Full is answered exactly if an entity is asked for and each number is alive
abbrev pub FullExactlyIfAllAreAlive : Type 0
FullExactlyIfAllAreAlive =
    (w : World) (event : Event)
    → (answer_to w event ≡ Full)
    ↔ ((event ≡ Spawn) × ((k : ℕ) → k < w.alive.capacity → w.alive.has k ≡ true))

-- the event is answered by Done exactly if it may take effect, and else by Refused
pub record IsDoneExactlyIf (w : World) (event : Event) (may : Type 0) : Type 0 where
  pub done : (answer_to w event ≡ Done) ↔ may
  pub refused : (answer_to w event ≡ Refused) ↔ (answer_to w event ≢ Done)

-- a living entity may be removed, and may lose all its components; it may get and lose each
-- component that there is
abbrev pub DoneExactlyIfPossible : Type 0
DoneExactlyIfPossible =
    (w : World) (entity component : ℕ)
    → let lives = w.alive.has entity ≡ true in
    let there = component < w.components in
    IsDoneExactlyIf w (Remove entity) lives
    × IsDoneExactlyIf w (Attach entity component) (lives × there)
    × IsDoneExactlyIf w (Detach entity component) (lives × there)
    × IsDoneExactlyIf w (DetachAll entity) lives

-- an event that is answered by Refused or Full changes nothing
abbrev pub RefusedChangesNothing : Type 0
RefusedChangesNothing =
    (w : World) (event : Event)
    → (answer_to w event ≡ Refused) ⊎ (answer_to w event ≡ Full)
    → world_after w event ≡ w

-- whether the event names the entity
abbrev pub names : Event → ℕ → Bool
names Spawn entity = false
names (Remove named) entity = entity == named
names (Attach named component) entity = entity == named
names (Detach named component) entity = entity == named
names (DetachAll named) entity = entity == named

-- an entity is alive after a change exactly if it was alive before, and has the same components
pub record IsUnchanged (before after : World) (entity : ℕ) : Type 0 where
  pub life : after.alive.has entity ≡ before.alive.has entity
  pub components : (component : ℕ) → after.has entity component ≡ before.has entity component

-- an event changes no entity that it neither names nor spawns
abbrev pub OthersAreUnchanged : Type 0
OthersAreUnchanged =
    (w : World) (event : Event) (other : ℕ)
    → names event other ≡ false
    → answer_to w event ≢ Spawned other
    → IsUnchanged w (world_after w event) other

-- an event that gives or takes one component changes no other component, and no life
abbrev pub OtherComponentsStay : Type 0
OtherComponentsStay =
    (w : World) (event : Event) (entity component : ℕ)
    → (event ≡ Attach entity component) ⊎ (event ≡ Detach entity component)
    → ((world_after w event).alive ≡ w.alive)
    × ((each other : ℕ) → other ≢ component → (world_after w event).has each other
    ≡ w.has each other)

-- no list of events changes how many numbers and how many components there are
abbrev pub SizesStay : Type 0
SizesStay =
    (w : World) (events : List Event)
    → ((final_world w events).alive.capacity ≡ w.alive.capacity)
    × ((final_world w events).components ≡ w.components)

-- how many entities an event with this answer spawned: 1 or 0
abbrev pub spawned_by : Event → Answer → ℕ
spawned_by event (Spawned entity) = 1
spawned_by event Full = 0
spawned_by event Done = 0
spawned_by event Refused = 0

-- how many entities an event removes if it is done: 1 or 0
abbrev pub removals : Event → ℕ
removals Spawn = 0
removals (Remove entity) = 1
removals (Attach entity component) = 0
removals (Detach entity component) = 0
removals (DetachAll entity) = 0

-- how many entities an event with this answer removed: 1 or 0
abbrev pub removed_by : Event → Answer → ℕ
removed_by event (Spawned entity) = 0
removed_by event Full = 0
removed_by event Done = removals event
removed_by event Refused = 0

-- the number of entities alive after a list of events, plus the number that the list removed, is
-- the number alive before the list, plus the number that the list spawned
abbrev pub LivingAreCounted : Type 0
LivingAreCounted =
    (w : World) (events : List Event)
    → IsWorld w
    → size (final_world w events).alive + total removed_by events (event_answers w events)
    ≡ size w.alive + total spawned_by events (event_answers w events)

-- event k of a list removed the entity
pub record IsRemoved (w : World) (events : List Event) (k entity : ℕ) : Type 0 where
  pub asked : slice_get events k ≡ Some (Remove entity)
  pub answered : slice_get (event_answers w events) k ≡ Some Done

-- an entity that is alive before a list of events is spawned in it only after a removal
abbrev pub LivingAreRemovedFirst : Type 0
LivingAreRemovedFirst =
    (w : World) (events : List Event) (entity j : ℕ)
    → w.alive.has entity ≡ true
    → slice_get (event_answers w events) j ≡ Some (Spawned entity)
    → (k : ℕ) × (k < j) × IsRemoved w events k entity

-- a number that is spawned again was removed since it was last spawned
abbrev pub SpawnedAreRemovedBetween : Type 0
SpawnedAreRemovedBetween =
    (w : World) (events : List Event) (entity i j : ℕ)
    → i < j
    → slice_get (event_answers w events) i ≡ Some (Spawned entity)
    → slice_get (event_answers w events) j ≡ Some (Spawned entity)
    → (k : ℕ) × (i < k) × (k < j) × IsRemoved w events k entity

-- event k of a list spawned the entity, and no later event removed it
pub record LivesFrom (w : World) (events : List Event) (entity k : ℕ) : Type 0 where
  pub spawned : slice_get (event_answers w events) k ≡ Some (Spawned entity)
  pub not_removed : (j : ℕ) → k < j → slice_get events j ≢ Some (Remove entity)

-- an entity is alive after a list of events exactly if it was alive before and no event removes it,
-- or an event spawns it and no later event removes it
abbrev pub LivingAreThoseKept : Type 0
LivingAreThoseKept =
    (w : World) (events : List Event) (entity : ℕ)
    → ((final_world w events).alive.has entity ≡ true)
    ↔ (((w.alive.has entity ≡ true) × ((j : ℕ) → slice_get events j ≢ Some (Remove entity)))
    ⊎ ((k : ℕ) × LivesFrom w events entity k))

-- event k of a list gave the entity the component, and no later event removed the entity, or took
-- the component or all components away
pub record IsKeptFrom (w : World) (events : List Event) (entity component k : ℕ) : Type 0 where
  pub asked : slice_get events k ≡ Some (Attach entity component)
  pub done : slice_get (event_answers w events) k ≡ Some Done
  pub not_removed : (j : ℕ) → k < j → slice_get events j ≢ Some (Remove entity)
  pub not_detached : (j : ℕ) → k < j → slice_get events j ≢ Some (Detach entity component)
  pub not_all_detached : (j : ℕ) → k < j → slice_get events j ≢ Some (DetachAll entity)

-- an entity has a component after a list of events exactly if it had the component before and no
-- event takes it away, or an event gives it and no later event takes it away; a removal takes all
-- components away
abbrev pub ComponentsAreThoseKept : Type 0
ComponentsAreThoseKept =
    (w : World) (events : List Event) (entity component : ℕ)
    → IsWorld w
    → ((final_world w events).has entity component ≡ true)
    ↔ (((w.has entity component ≡ true)
    × ((j : ℕ) → (slice_get events j ≢ Some (Remove entity))
    × (slice_get events j ≢ Some (Detach entity component))
    × (slice_get events j ≢ Some (DetachAll entity))))
    ⊎ ((k : ℕ) × IsKeptFrom w events entity component k))

-- the list visits the members that are at least `from`: first the least of them, and then the
-- members past it
unfoldable pub VisitsFrom : PlainSet → ℕ → List ℕ → Type 0
VisitsFrom s from [] = NoneIn s from s.capacity
VisitsFrom s from (entity ∷ rest) =
    IsFirstIn s from s.capacity (Some entity) × VisitsFrom s (suc entity) rest

-- a list visits the living entities that have the components exactly if it is their increasing list
abbrev pub QueriesVisitEachOnce : Type 0
QueriesVisitEachOnce =
    (w : World) (required visited : List ℕ)
    → VisitsFrom (matching w required) 0 visited
    ↔ (visited ≡ ascending (matching w required))
