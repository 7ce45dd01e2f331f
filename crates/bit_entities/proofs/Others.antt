-- What a change of a world, or an event, leaves as it was.
use Rattle.std.proofs.Common.{◌≡◌, ◌≢◌, ℕ, ◌<◌, ◌⊎◌, Bool, true, false, cond, ◌&&◌, ◌==◌, Option}
use Rattle.std.proofs.Common.{Some, None, List, [], ◌∷◌, inl, inr, refl, sym, ap, ◌∙◌, subst}
use Rattle.std.proofs.lemmas.Bool.{eq-eqb, ne_eqb}
use Rattle.std.specs.Prelude.{slice_get}
use Rattle.bittle.specs.PlainSet.{PlainSet}
use Rattle.bit_histories.proofs.Histories.{each_answer}
use Rattle.bit_entities.specs.Entities.{World, least_dead, may_have, with_number}
use Rattle.bit_entities.specs.Entities.{without_components, without_entity}
use Rattle.bit_entities.specs.Entities.{with_component, spawned_or_full, with_spawned, answer_to}
use Rattle.bit_entities.specs.Entities.{world_after, event_answers, final_world}
use Rattle.bit_entities.specs.EntityLaws.{names, IsUnchanged}
use Rattle.bit_entities.specs.declared.Event.{Event}
use Rattle.bit_entities.specs.declared.Event.TheVariants.{Spawn, Remove, Attach, Detach, DetachAll}
use Rattle.bit_entities.specs.declared.Answer.TheVariants.{Spawned}
use Rattle.bit_entities.proofs.EntityLaws.{spawned_is}

-- `with_number` changes the test of no other number
pub number_other : (s : PlainSet) (i : ℕ) (is : Bool) (t : PlainSet) → t ≡ with_number s i is →
    (k : ℕ) → k ≢ i → t.has k ≡ s.has k
number_other s i is t e k apart =
    ap (λ u. u.has k) e ∙ ap (λ b. cond b is (s.has k)) (ne_eqb k i apart)

-- the removal of an entity changes no other entity
pub other_lives : (w t : World) (entity : ℕ) → t ≡ without_entity w entity → (k : ℕ) →
    k ≢ entity → t.alive.has k ≡ w.alive.has k
other_lives w t entity e = number_other w.alive entity false t.alive (ap (λ u. u.alive) e)

-- if an entity lost all its components, no other entity changed
pub other_keeps : (w : World) (has : ℕ → ℕ → Bool) (entity : ℕ) →
    has ≡ (without_components w entity).has → (k c : ℕ) → k ≢ entity → has k c ≡ w.has k c
other_keeps w has entity e k c apart =
    ap (λ h. h k c) e ∙ ap (λ b. cond b false (w.has k c)) (ne_eqb k entity apart)

-- it has no component
pub keeps_nothing : (w : World) (has : ℕ → ℕ → Bool) (entity : ℕ) →
    has ≡ (without_components w entity).has → (c : ℕ) → has entity c ≡ false
keeps_nothing w has entity e c = ap (λ h. h entity c) e
    ∙ ap (λ b. cond b false (w.has entity c)) (eq-eqb entity entity refl)

-- a change of a component of one entity changes no other entity, and no other component
module _ (w t : World) (entity component : ℕ) (is : Bool)
    (e : t ≡ with_component w entity component is) where
  pub same_entity : (k c : ℕ) → k ≢ entity → t.has k c ≡ w.has k c
  same_entity k c apart = ap (λ u. u.has k c) e
      ∙ ap (λ b. cond (b && (c == component)) is (w.has k c)) (ne_eqb k entity apart)

  pub same_component : (k c : ℕ) → c ≢ component → t.has k c ≡ w.has k c
  same_component k c apart =
      ap (λ u. u.has k c) e ∙ by (k == entity) (c == component) (ne_eqb c component apart)
    where
      by : (a b : Bool) → b ≡ false → cond (a && b) is (w.has k c) ≡ w.has k c
      by true b off = ap (λ a. cond a is (w.has k c)) off
      by false b off = refl

-- if a component is given or taken, no other entity changes
component_elsewhere : (w : World) (entity component other : ℕ) (is : Bool) →
    (other == entity) ≡ false → (b : Bool) →
    IsUnchanged w (cond b (with_component w entity component is) w) other
component_elsewhere w entity component other is named false =
    record { life = refl; components = λ c. refl }
component_elsewhere w entity component other is named true = record {
  life = refl;
  components = λ c. ap (λ b. cond (b && (c == component)) is (w.has other c)) named;
}

other_component : (w : World) (entity component : ℕ) (is b : Bool) →
    ((cond b (with_component w entity component is) w).alive ≡ w.alive)
    × ((each other : ℕ) → other ≢ component →
    (cond b (with_component w entity component is) w).has each other ≡ w.has each other)
other_component w entity component is false = (refl, λ each other apart. refl)
other_component w entity component is true =
    (refl, same_component w _ entity component is refl)

same_sizes : (w t : World) (b : Bool) →
    (t.alive.capacity ≡ w.alive.capacity) × (t.components ≡ w.components) →
    ((cond b t w).alive.capacity ≡ w.alive.capacity) × ((cond b t w).components ≡ w.components)
same_sizes w t true same = same
same_sizes w t false same = (refl, refl)

-- an event changes no entity that it neither names nor spawns
pub unchanged : (w : World) (event : Event) (other : ℕ) → names event other ≡ false →
    answer_to w event ≢ Spawned other → IsUnchanged w (world_after w event) other
unchanged w Spawn other named apart = by (least_dead w) apart
  where
    by : (o : Option ℕ) → spawned_or_full o ≢ Spawned other →
        IsUnchanged w (with_spawned w o) other
    by None apart = record { life = refl; components = λ c. refl }
    by (Some k) apart = record {
      life = ap (λ b. cond b true (w.alive.has other))
          (ne_eqb other k (λ same. apart (ap Spawned (sym same))));
      components = λ c. refl;
    }
unchanged w (Remove entity) other named apart = by (w.alive.has entity)
  where
    by : (b : Bool) → IsUnchanged w (cond b (without_entity w entity) w) other
    by false = record { life = refl; components = λ c. refl }
    by true = record {
      life = ap (λ b. cond b false (w.alive.has other)) named;
      components = λ c. ap (λ b. cond b false (w.has other c)) named;
    }
unchanged w (Attach entity component) other named apart =
    component_elsewhere w entity component other true named (may_have w entity component)
unchanged w (Detach entity component) other named apart =
    component_elsewhere w entity component other false named (may_have w entity component)
unchanged w (DetachAll entity) other named apart = by (w.alive.has entity)
  where
    by : (b : Bool) → IsUnchanged w (cond b (without_components w entity) w) other
    by false = record { life = refl; components = λ c. refl }
    by true = record {
      life = refl;
      components = λ c. ap (λ b. cond b false (w.has other c)) named;
    }

-- an event that gives or takes one component changes no other component, and no life
pub components_stay : (w : World) (event : Event) (entity component : ℕ) →
    (event ≡ Attach entity component) ⊎ (event ≡ Detach entity component) →
    ((world_after w event).alive ≡ w.alive) × ((each other : ℕ) → other ≢ component →
    (world_after w event).has each other ≡ w.has each other)
components_stay w event entity component (inl e) =
    subst (λ v. ((world_after w v).alive ≡ w.alive) × ((each other : ℕ) → other ≢ component →
    (world_after w v).has each other ≡ w.has each other)) (sym e)
    (other_component w entity component true (may_have w entity component))
components_stay w event entity component (inr e) =
    subst (λ v. ((world_after w v).alive ≡ w.alive) × ((each other : ℕ) → other ≢ component →
    (world_after w v).has each other ≡ w.has each other)) (sym e)
    (other_component w entity component false (may_have w entity component))

-- no event changes how many numbers and how many components there are
one_keeps_sizes : (w : World) (event : Event) →
    ((world_after w event).alive.capacity ≡ w.alive.capacity)
    × ((world_after w event).components ≡ w.components)
one_keeps_sizes w Spawn = by (least_dead w)
  where
    by : (o : Option ℕ) → ((with_spawned w o).alive.capacity ≡ w.alive.capacity)
        × ((with_spawned w o).components ≡ w.components)
    by None = (refl, refl)
    by (Some k) = (refl, refl)
one_keeps_sizes w (Remove entity) =
    same_sizes w (without_entity w entity) (w.alive.has entity) (refl, refl)
one_keeps_sizes w (Attach entity component) =
    same_sizes w (with_component w entity component true) (may_have w entity component) (refl, refl)
one_keeps_sizes w (Detach entity component) =
    same_sizes w (with_component w entity component false)
    (may_have w entity component) (refl, refl)
one_keeps_sizes w (DetachAll entity) =
    same_sizes w (without_components w entity) (w.alive.has entity) (refl, refl)

-- no list of events changes how many numbers and how many components there are
pub sizes_stay : (w : World) (events : List Event) →
    ((final_world w events).alive.capacity ≡ w.alive.capacity)
    × ((final_world w events).components ≡ w.components)
unfolding final_world
sizes_stay w [] = (refl, refl)
sizes_stay w (event ∷ events) =
    let one = one_keeps_sizes w event in
    let later = sizes_stay (world_after w event) events in
    (later.0 ∙ one.0, later.1 ∙ one.1)

-- each entity that a list of events spawns is below the capacity
pub spawned_are_below : (w : World) (events : List Event) (i entity : ℕ) →
    slice_get (event_answers w events) i ≡ Some (Spawned entity) → entity < w.alive.capacity
unfolding event_answers
spawned_are_below w events i entity e = each_answer answer_to world_after (λ v. v.alive.capacity)
    (λ c given. (k : ℕ) → given ≡ Spawned k → k < c) (λ v event. (one_keeps_sizes v event).0)
    (λ v event k is. (spawned_is v event k is).0.1) w events i (Spawned entity) e entity refl
