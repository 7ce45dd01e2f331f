-- How many entities are alive: after each event, after a list of events, and if a search finds no
-- free number.
use Rattle.std.proofs.Common.{◌≡◌, ℕ, ◌+◌, ◌<◌, Bool, true, false, cond, Option, Some, None, List}
use Rattle.std.proofs.Common.{[], ◌∷◌, refl, ap, arith}
use Rattle.bittle.specs.PlainSet.{PlainSet, complement, size, with_index}
use Rattle.bittle.specs.Searches.{NoneIn}
use Rattle.bittle.proofs.CallerChanges.{size_with, size_without}
use Rattle.bittle.proofs.CallerSets.{size_at_most, size_whole}
use Rattle.bit_entities.specs.Entities.{World, IsWorld, least_dead, may_have, without_components}
use Rattle.bit_entities.specs.Entities.{without_entity}
use Rattle.bit_entities.specs.Entities.{with_component, spawned_or_full, with_spawned, answer_to}
use Rattle.bit_entities.specs.Entities.{world_after, event_answers, final_world}
use Rattle.bit_histories.specs.Histories.{total}
use Rattle.bit_entities.specs.EntityLaws.{spawned_by, removed_by}
use Rattle.bit_entities.specs.declared.Event.{Event}
use Rattle.bit_entities.specs.declared.Event.TheVariants.{Spawn, Remove, Attach, Detach, DetachAll}
use Rattle.bit_entities.specs.declared.Answer.TheVariants.{Done, Refused}
use Rattle.bit_entities.proofs.EntityLaws.{in_it, one_stays}
use Rattle.bit_entities.proofs.LeastDead.{listed_first, outside}
use Rattle.bit_entities.proofs.Masks.{put_in, taken_out}

-- if no number is free, as many numbers are members as there are
pub none_is_full : (s : PlainSet) → NoneIn (complement s) 0 s.capacity → size s ≡ s.capacity
none_is_full s none = size_whole s (λ k h. in_it s k h (none k (omega arith) h))

-- if a number is free, fewer numbers are members than there are
pub free_is_room : (s : PlainSet) (k : ℕ) → (complement s).has k ≡ true → size s < s.capacity
free_is_room s k free =
    let out = outside s k free in
    omega (arith, size_with s k out.0 out.1, size_at_most (with_index s k))

-- how many entities are alive after an event
one_counted : (w : World) (event : Event) → IsWorld w →
    size (world_after w event).alive + removed_by event (answer_to w event)
    ≡ size w.alive + spawned_by event (answer_to w event)
one_counted w Spawn is = by (least_dead w) refl
  where
    by : (o : Option ℕ) → least_dead w ≡ o →
        size (with_spawned w o).alive + removed_by Spawn (spawned_or_full o)
        ≡ size w.alive + spawned_by Spawn (spawned_or_full o)
    by None e = refl
    by (Some k) e =
        let out = outside w.alive k (listed_first (complement w.alive) (Some k) e).2 in
        omega (arith, ap size (put_in w.alive k out.0), size_with w.alive k out.0 out.1)
one_counted w (Remove entity) is = by (w.alive.has entity) refl
  where
    by : (b : Bool) → w.alive.has entity ≡ b →
        size (cond b (without_entity w entity) w).alive
        + removed_by (Remove entity) (cond b Done Refused)
        ≡ size w.alive + spawned_by (Remove entity) (cond b Done Refused)
    by true lives =
        let below = is.living_are_below entity lives in
        omega (
          arith,
          ap size (taken_out w.alive entity below),
          size_without w.alive entity below lives,
        )
    by false dead = refl
one_counted w (Attach entity component) is = by (may_have w entity component)
  where
    by : (b : Bool) → size (cond b (with_component w entity component true) w).alive
        + removed_by (Attach entity component) (cond b Done Refused)
        ≡ size w.alive + spawned_by (Attach entity component) (cond b Done Refused)
    by true = refl
    by false = refl
one_counted w (Detach entity component) is = by (may_have w entity component)
  where
    by : (b : Bool) → size (cond b (with_component w entity component false) w).alive
        + removed_by (Detach entity component) (cond b Done Refused)
        ≡ size w.alive + spawned_by (Detach entity component) (cond b Done Refused)
    by true = refl
    by false = refl
one_counted w (DetachAll entity) is = by (w.alive.has entity)
  where
    by : (b : Bool) → size (cond b (without_components w entity) w).alive
        + removed_by (DetachAll entity) (cond b Done Refused)
        ≡ size w.alive + spawned_by (DetachAll entity) (cond b Done Refused)
    by true = refl
    by false = refl

-- how many entities are alive after a list of events, as `LivingAreCounted` states
pub counted : (w : World) (events : List Event) → IsWorld w →
    size (final_world w events).alive + total removed_by events (event_answers w events)
    ≡ size w.alive + total spawned_by events (event_answers w events)
unfolding event_answers final_world total
counted w [] is = refl
counted w (event ∷ events) is = omega (
  arith,
  one_counted w event is,
  counted (world_after w event) events (one_stays w event is),
)
