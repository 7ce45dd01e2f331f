-- What follows from the entity machine for each event, and for each list of them.
use Rattle.std.proofs.Common.{◌≡◌, ◌≢◌, ℕ, ◌<◌, ◌⊎◌, ◌↔◌, Bool, true, false, not, cond, Option}
use Rattle.std.proofs.Common.{Some, None, List, [], ◌∷◌, inl, inr, refl, sym, ap, ◌∙◌, arith}
use Rattle.std.proofs.lemmas.Bool.{cases_lt, lt-ltb, true≢false}
use Rattle.bittle.specs.PlainSet.{PlainSet, complement, empty_set}
use Rattle.bittle.specs.Searches.{IsFirstIn}
use Rattle.bittle.proofs.CallerSets.{complement_within}
use Rattle.bit_entities.specs.Entities.{World, IsWorld, empty_world, least_dead, may_have}
use Rattle.bit_entities.specs.Entities.{with_living, without_components, without_entity}
use Rattle.bit_entities.specs.Entities.{with_component}
use Rattle.bit_entities.specs.Entities.{spawned_or_full, with_spawned, answer_to, world_after}
use Rattle.bit_entities.specs.Entities.{final_world}
use Rattle.bit_entities.specs.EntityLaws.{IsLeastDead, IsNew, IsDoneExactlyIf}
use Rattle.bit_entities.specs.declared.Event.{Event}
use Rattle.bit_entities.specs.declared.Event.TheVariants.{Spawn, Remove, Attach, Detach, DetachAll}
use Rattle.bit_entities.specs.declared.Answer.TheVariants.{Spawned, Full, Done, Refused}
use Rattle.bit_entities.proofs.LeastDead.{listed_first, outside}
use Rattle.bit_entities.proofs.Masks.{number_now}
use Rattle.bit_entities.proofs.Worlds.{may_parts, bare_is_world, dead_lacks, living_is_world}
use Rattle.bit_entities.proofs.Worlds.{losing_all_is_world, going_is_world, having_is_world}

-- `IsWorld` still holds after a change of a component
changed_is_world : (w : World) (entity component : ℕ) (is : Bool) → IsWorld w → IsWorld
    (cond (may_have w entity component) (with_component w entity component is) w)
changed_is_world w entity component is so = by (may_have w entity component) refl
  where
    by : (b : Bool) → may_have w entity component ≡ b →
        IsWorld (cond b (with_component w entity component is) w)
    by true e = let may = may_parts w entity component e in
        having_is_world w entity component is so may.0 may.1
    by false e = so

pub one_stays : (w : World) (event : Event) → IsWorld w → IsWorld (world_after w event)
one_stays w Spawn is = by (least_dead w) refl
  where
    by : (o : Option ℕ) → least_dead w ≡ o → IsWorld (with_spawned w o)
    by None e = is
    by (Some entity) e = living_is_world w entity is
        (outside w.alive entity (listed_first (complement w.alive) (Some entity) e).2).0
one_stays w (Remove entity) is = by (w.alive.has entity)
  where
    by : (b : Bool) → IsWorld (cond b (without_entity w entity) w)
    by true = going_is_world w entity is
    by false = is
one_stays w (Attach entity component) is = changed_is_world w entity component true is
one_stays w (Detach entity component) is = changed_is_world w entity component false is
one_stays w (DetachAll entity) is = by (w.alive.has entity)
  where
    by : (b : Bool) → IsWorld (cond b (without_components w entity) w)
    by true = losing_all_is_world w entity is
    by false = is

-- `IsWorld` still holds after every list of events
pub stay_worlds : (w : World) (events : List Event) → IsWorld w → IsWorld (final_world w events)
unfolding final_world
stay_worlds w [] is = is
stay_worlds w (event ∷ events) is =
    stay_worlds (world_after w event) events (one_stays w event is)

-- `IsWorld` holds after every list of events that begins with a new world
pub new_worlds : (capacity count : ℕ) (events : List Event) →
    IsWorld (final_world (empty_world capacity count) events)
new_worlds capacity count events =
    stay_worlds (empty_world capacity count) events
    (bare_is_world (empty_set capacity) count (λ k h. refl))

no_spawn : (b : Bool) (entity : ℕ) → cond b Done Refused ≡ Spawned entity → ⊥
no_spawn true entity e = cc
no_spawn false entity e = cc

not_full : (b : Bool) → cond b Done Refused ≡ Full → ⊥
not_full true e = cc
not_full false e = cc

-- a spawned entity is the first number that was not alive, and then is alive
pub spawned_is : (w : World) (event : Event) (entity : ℕ) → answer_to w event ≡ Spawned entity →
    IsFirstIn (complement w.alive) 0 w.alive.capacity (Some entity)
    × (world_after w event ≡ with_living w entity)
spawned_is w Spawn entity e = by (least_dead w) refl e
  where
    by : (o : Option ℕ) → least_dead w ≡ o → spawned_or_full o ≡ Spawned entity →
        IsFirstIn (complement w.alive) 0 w.alive.capacity (Some entity)
        × (with_spawned w o ≡ with_living w entity)
    by None l e = absurd (cc)
    by (Some k) l e =
        let same : k ≡ entity = cc in (
          listed_first (complement w.alive) (Some entity) (l ∙ ap Some same),
          ap (with_living w) same,
        )
spawned_is w (Remove other) entity e = absurd (no_spawn (w.alive.has other) entity e)
spawned_is w (Attach other component) entity e =
    absurd (no_spawn (may_have w other component) entity e)
spawned_is w (Detach other component) entity e =
    absurd (no_spawn (may_have w other component) entity e)
spawned_is w (DetachAll other) entity e = absurd (no_spawn (w.alive.has other) entity e)

-- a number below the capacity that is not in the complement is a member
pub in_it : (s : PlainSet) (k : ℕ) → k < s.capacity → (complement s).has k ≡ false →
    s.has k ≡ true
in_it s k h e = by (s.has k) (sym (complement_within s k h) ∙ e)
  where
    by : (b : Bool) → not b ≡ false → b ≡ true
    by true e = refl
    by false e = absurd (true≢false e)

-- the first member of the complement is the least number that is not alive
least_is : (w : World) (entity : ℕ) →
    IsFirstIn (complement w.alive) 0 w.alive.capacity (Some entity) → IsLeastDead w entity
least_is w entity found =
    let out = outside w.alive entity found.2 in record {
      below = out.0;
      is_dead = out.1;
      least = λ k h. in_it w.alive k (omega (arith, h, out.0)) (found.3 k (omega arith) h);
    }

pub spawned_iff : (w : World) (event : Event) (entity : ℕ) →
    (answer_to w event ≡ Spawned entity) ↔ ((event ≡ Spawn) × IsLeastDead w entity)
spawned_iff w Spawn entity = (
  λ e. (refl, least_is w entity (spawned_is w Spawn entity e).0),
  λ least. from (least_dead w) refl least.1,
)
  where
    from : (o : Option ℕ) → least_dead w ≡ o → IsLeastDead w entity →
        spawned_or_full o ≡ Spawned entity
    from None l least = absurd (true≢false (sym
        (in_it w.alive entity least.below
        (listed_first (complement w.alive) None l entity (omega arith) least.below))
        ∙ least.is_dead))
    from (Some k) l least =
        let found = least_is w k (listed_first (complement w.alive) (Some k) l) in
        elim (cases_lt k entity) [
          | inl before ↦ absurd (true≢false (sym (least.least k before) ∙ found.is_dead))
          | inr g ↦ elim (cases_lt entity k) [
            | inl before ↦ absurd (true≢false (sym (found.least entity before) ∙ least.is_dead))
            | inr h ↦ let same : k ≡ entity = omega (arith, g, h) in ap Spawned same
          ]
        ]
spawned_iff w (Remove other) entity =
    (λ e. absurd (no_spawn (w.alive.has other) entity e), λ all. let is = all.0 in absurd (cc))
spawned_iff w (Attach other component) entity = (
  λ e. absurd (no_spawn (may_have w other component) entity e),
  λ all. let is = all.0 in absurd (cc),
)
spawned_iff w (Detach other component) entity = (
  λ e. absurd (no_spawn (may_have w other component) entity e),
  λ all. let is = all.0 in absurd (cc),
)
spawned_iff w (DetachAll other) entity =
    (λ e. absurd (no_spawn (w.alive.has other) entity e), λ all. let is = all.0 in absurd (cc))

pub spawned_new : (w : World) (event : Event) (entity : ℕ) → IsWorld w →
    answer_to w event ≡ Spawned entity → IsNew w event (world_after w event) entity
spawned_new w event entity is e =
    let found = spawned_is w event entity e in
    let least = (spawned_iff w event entity).0 e in
    record {
      asked = least.0;
      first = least.1;
      lives = number_now w.alive entity true _ (ap (λ t. t.alive) found.1);
      has_nothing = λ component. ap (λ t. t.has entity component) found.1
          ∙ dead_lacks w entity is least.1.is_dead component;
    }

pub full_iff_all : (w : World) (event : Event) → (answer_to w event ≡ Full)
    ↔ ((event ≡ Spawn) × ((k : ℕ) → k < w.alive.capacity → w.alive.has k ≡ true))
full_iff_all w Spawn = (to (least_dead w) refl, λ all. from (least_dead w) refl all.1)
  where
    to : (o : Option ℕ) → least_dead w ≡ o → spawned_or_full o ≡ Full →
        (Spawn ≡ Spawn) × ((k : ℕ) → k < w.alive.capacity → w.alive.has k ≡ true)
    to None l e = (
      refl,
      λ k h. in_it w.alive k h (listed_first (complement w.alive) None l k (omega arith) h),
    )
    to (Some k) l e = absurd (cc)

    from : (o : Option ℕ) → least_dead w ≡ o →
        ((k : ℕ) → k < w.alive.capacity → w.alive.has k ≡ true) → spawned_or_full o ≡ Full
    from None l all = refl
    from (Some k) l all =
        let out = outside w.alive k (listed_first (complement w.alive) (Some k) l).2 in
        absurd (true≢false (sym (all k out.0) ∙ out.1))
full_iff_all w (Remove entity) =
    (λ e. absurd (not_full (w.alive.has entity) e), λ all. let is = all.0 in absurd (cc))
full_iff_all w (Attach entity component) =
    (λ e. absurd (not_full (may_have w entity component) e), λ all. let is = all.0 in absurd (cc))
full_iff_all w (Detach entity component) =
    (λ e. absurd (not_full (may_have w entity component) e), λ all. let is = all.0 in absurd (cc))
full_iff_all w (DetachAll entity) =
    (λ e. absurd (not_full (w.alive.has entity) e), λ all. let is = all.0 in absurd (cc))

-- if the answer is `Refused` or `Full`, the world is as it was
not_done : (b : Bool) (t w : World) →
    (cond b Done Refused ≡ Refused) ⊎ (cond b Done Refused ≡ Full) → cond b t w ≡ w
not_done true t w (inl e) = absurd (cc)
not_done true t w (inr e) = absurd (cc)
not_done false t w _ = refl

pub refused_nothing : (w : World) (event : Event) →
    (answer_to w event ≡ Refused) ⊎ (answer_to w event ≡ Full) → world_after w event ≡ w
refused_nothing w Spawn h = by (least_dead w) h
  where
    by : (o : Option ℕ) → (spawned_or_full o ≡ Refused) ⊎ (spawned_or_full o ≡ Full) →
        with_spawned w o ≡ w
    by None _ = refl
    by (Some k) (inl e) = absurd (cc)
    by (Some k) (inr e) = absurd (cc)
refused_nothing w (Remove entity) h = not_done (w.alive.has entity) (without_entity w entity) w h
refused_nothing w (Attach entity component) h =
    not_done (may_have w entity component) (with_component w entity component true) w h
refused_nothing w (Detach entity component) h =
    not_done (may_have w entity component) (with_component w entity component false) w h
refused_nothing w (DetachAll entity) h =
    not_done (w.alive.has entity) (without_components w entity) w h

-- `Done` is answered if the test is true, and else `Refused`
is_done : (b : Bool) → (cond b Done Refused ≡ Done) ↔ (b ≡ true)
is_done true = (λ e. refl, λ e. refl)
is_done false = (λ e. absurd (cc), λ e. absurd (cc))

is_refused : (b : Bool) → (cond b Done Refused ≡ Refused) ↔ (cond b Done Refused ≢ Done)
is_refused true = (λ e. absurd (cc), λ none. absurd (none refl))
is_refused false = (λ e d. cc, λ none. refl)

pub done_if : (w : World) (entity component : ℕ) →
    let lives = w.alive.has entity ≡ true in
    let there = component < w.components in
    IsDoneExactlyIf w (Remove entity) lives
    × IsDoneExactlyIf w (Attach entity component) (lives × there)
    × IsDoneExactlyIf w (Detach entity component) (lives × there)
    × IsDoneExactlyIf w (DetachAll entity) lives
done_if w entity component = (
  record { done = is_done (w.alive.has entity); refused = is_refused (w.alive.has entity) },
  record { done = both; refused = is_refused (may_have w entity component) },
  record { done = both; refused = is_refused (may_have w entity component) },
  record { done = is_done (w.alive.has entity); refused = is_refused (w.alive.has entity) },
)
  where
    both : (cond (may_have w entity component) Done Refused ≡ Done)
        ↔ ((w.alive.has entity ≡ true) × (component < w.components))
    both = (
      λ e. let may = may_parts w entity component ((is_done (may_have w entity component)).0 e) in
          (may.1, may.0),
      λ all.
          let there = lt-ltb component w.components all.1 in
          let lives = all.0 in
          let may : may_have w entity component ≡ true = rw (there, lives) refl in
          (is_done (may_have w entity component)).1 may,
    )
