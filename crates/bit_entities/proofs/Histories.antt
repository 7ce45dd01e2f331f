-- What holds of every list of events: which answers it has, when a number is spawned again, which
-- entities live, and which components are kept.
use Rattle.std.proofs.Common.{◌≡◌, ◌≢◌, ℕ, zero, suc, ◌<◌, ◌⊎◌, ◌↔◌, Bool, true, false, cond, ◌&&◌}
use Rattle.std.proofs.Common.{◌==◌, Option, Some, None, List, [], ◌∷◌, inl, inr, refl, sym, ap, ◌∙◌}
use Rattle.std.proofs.Common.{arith}
use Rattle.std.specs.Prelude.{slice_get}
use Rattle.std.proofs.lemmas.Bool.{cases_eq, cases_Bool, eq-eqb, ne_eqb, eqb-true, lt-ltb}
use Rattle.std.proofs.lemmas.Bool.{and_parts, true≢false}
use Rattle.bit_entities.specs.Entities.{World, IsWorld, least_dead, may_have}
use Rattle.bit_entities.specs.Entities.{without_components, without_entity}
use Rattle.bit_entities.specs.Entities.{with_component, spawned_or_full, with_spawned, answer_to}
use Rattle.bit_entities.specs.Entities.{world_after, event_answers, final_world}
use Rattle.bit_entities.specs.EntityLaws.{IsKeptFrom, IsRemoved, LivesFrom}
use Rattle.bit_entities.specs.declared.Event.{Event}
use Rattle.bit_entities.specs.declared.Event.TheVariants.{Spawn, Remove, Attach, Detach, DetachAll}
use Rattle.bit_entities.specs.declared.Answer.TheVariants.{Spawned, Done, Refused}
use Rattle.bit_entities.proofs.EntityLaws.{one_stays, spawned_is}
use Rattle.bit_entities.proofs.LeastDead.{outside}
use Rattle.bit_entities.proofs.Masks.{number_now}
use Rattle.bit_entities.proofs.Worlds.{dead_lacks, left, has_now}

-- an entity lives on until it is removed
lives_on : (w : World) (event : Event) (entity : ℕ) → w.alive.has entity ≡ true →
    ((world_after w event).alive.has entity ≡ true) ⊎ (event ≡ Remove entity)
lives_on w Spawn entity lives = inl (by (least_dead w))
  where
    more : (a b : Bool) → b ≡ true → cond a true b ≡ true
    more true b e = refl
    more false b e = e

    by : (o : Option ℕ) → (with_spawned w o).alive.has entity ≡ true
    by None = lives
    by (Some k) = more (entity == k) (w.alive.has entity) lives
lives_on w (Remove other) entity lives = elim (cases_eq entity other) [
  | inl same ↦ inr (ap Remove (sym same))
  | inr apart ↦ inl (by (w.alive.has other) apart)
]
  where
    by : (b : Bool) → entity ≢ other → (cond b (without_entity w other) w).alive.has entity ≡ true
    by true apart = ap (λ t. cond t false (w.alive.has entity)) (ne_eqb entity other apart) ∙ lives
    by false apart = lives
lives_on w (Attach other component) entity lives = inl (by (may_have w other component))
  where
    by : (b : Bool) →
        (cond b (with_component w other component true) w).alive.has entity ≡ true
    by true = lives
    by false = lives
lives_on w (Detach other component) entity lives = inl (by (may_have w other component))
  where
    by : (b : Bool) →
        (cond b (with_component w other component false) w).alive.has entity ≡ true
    by true = lives
    by false = lives
lives_on w (DetachAll other) entity lives = inl (by (w.alive.has other))
  where
    by : (b : Bool) → (cond b (without_components w other) w).alive.has entity ≡ true
    by true = lives
    by false = lives

-- what event k of a list removes, event k + 1 removes once another event comes first
after_one : (w : World) (event : Event) (events : List Event) (entity k : ℕ) →
    IsRemoved (world_after w event) events k entity → IsRemoved w (event ∷ events) (suc k) entity
unfolding event_answers
after_one w event events entity k removed = record {
  asked = removed.asked;
  answered = removed.answered;
}

-- a living entity is spawned again only after its removal
pub removed_first : (w : World) (events : List Event) (entity j : ℕ) → w.alive.has entity ≡ true →
    slice_get (event_answers w events) j ≡ Some (Spawned entity) →
    (k : ℕ) × (k < j) × IsRemoved w events k entity
unfolding event_answers
removed_first w [] entity j lives e = absurd (cc)
removed_first w (event ∷ events) entity zero lives e =
    let is : answer_to w event ≡ Spawned entity = cc in
    absurd (true≢false (sym lives
    ∙ (outside w.alive entity (spawned_is w event entity is).0.2).1))
removed_first w (event ∷ events) entity (suc j) lives e =
    elim (lives_on w event entity lives) [
      | inl on ↦
          let later = removed_first (world_after w event) events entity j on e in
          (suc later.0, omega (arith, later.1), after_one w event events entity later.0 later.2)
      | inr removed ↦ (
        zero,
        omega arith,
        record {
          asked = ap Some removed;
          answered = ap Some (ap (answer_to w) removed ∙ ap (λ b. cond b Done Refused) lives);
        },
      )
    ]

pub removed_between : (w : World) (events : List Event) (entity i j : ℕ) → i < j →
    slice_get (event_answers w events) i ≡ Some (Spawned entity) →
    slice_get (event_answers w events) j ≡ Some (Spawned entity) →
    (k : ℕ) × (i < k) × (k < j) × IsRemoved w events k entity
unfolding event_answers
removed_between w events entity i zero h a b = absurd (omega arith)
removed_between w [] entity i (suc j) h a b = absurd (cc)
removed_between w (event ∷ events) entity zero (suc j) h a b =
    let is : answer_to w event ≡ Spawned entity = cc in
    let lives = number_now w.alive entity true _
    (ap (λ t. t.alive) (spawned_is w event entity is).1) in
    let later = removed_first (world_after w event) events entity j lives b in (
      suc later.0,
      omega arith,
      omega (arith, later.1),
      after_one w event events entity later.0 later.2,
    )
removed_between w (event ∷ events) entity (suc i) (suc j) h a b =
    let later = removed_between (world_after w event) events entity i j (omega arith) a b in (
      suc later.0,
      omega (arith, later.1),
      omega (arith, later.2),
      after_one w event events entity later.0 later.3,
    )

module _ (entity : ℕ) where
  -- an entity that is removed is not alive
  gone : (w : World) → (world_after w (Remove entity)).alive.has entity ≡ false
  gone w = by (w.alive.has entity) refl
    where
      by : (b : Bool) → w.alive.has entity ≡ b →
          (cond b (without_entity w entity) w).alive.has entity ≡ false
      by true e = ap (λ t. cond t false (w.alive.has entity)) (eq-eqb entity entity refl)
      by false e = e

  removes_or_not : (event : Event) → (event ≡ Remove entity) ⊎ (event ≢ Remove entity)
  removes_or_not Spawn = inr (λ e. cc)
  removes_or_not (Attach other another) = inr (λ e. cc)
  removes_or_not (Detach other another) = inr (λ e. cc)
  removes_or_not (DetachAll other) = inr (λ e. cc)
  removes_or_not (Remove other) = elim (cases_eq other entity) [
    | inl same ↦ inl (ap Remove same)
    | inr apart ↦ inr (λ e. apart (cc))
  ]

  -- if an event makes an entity alive, it spawned the entity
  begun : (w : World) (event : Event) → w.alive.has entity ≡ false →
      (world_after w event).alive.has entity ≡ true → answer_to w event ≡ Spawned entity
  begun w Spawn dead lives = by (least_dead w) lives
    where
      by : (o : Option ℕ) → (with_spawned w o).alive.has entity ≡ true →
          spawned_or_full o ≡ Spawned entity
      by None e = absurd (true≢false (sym e ∙ dead))
      by (Some k) e = elim (cases_eq entity k) [
        | inl same ↦ ap Spawned (sym same)
        | inr apart ↦ absurd (true≢false (sym e
            ∙ ap (λ t. cond t true (w.alive.has entity)) (ne_eqb entity k apart) ∙ dead))
      ]
  begun w (Remove other) dead lives =
      absurd (true≢false (sym (by (w.alive.has other) lives) ∙ dead))
    where
      by : (b : Bool) → (cond b (without_entity w other) w).alive.has entity ≡ true →
          w.alive.has entity ≡ true
      by true e = (left (entity == other) (w.alive.has entity) e).1
      by false e = e
  begun w (Attach other another) dead lives =
      absurd (true≢false (sym (by (may_have w other another) lives) ∙ dead))
    where
      by : (b : Bool) →
          (cond b (with_component w other another true) w).alive.has entity ≡ true →
          w.alive.has entity ≡ true
      by true e = e
      by false e = e
  begun w (Detach other another) dead lives =
      absurd (true≢false (sym (by (may_have w other another) lives) ∙ dead))
    where
      by : (b : Bool) →
          (cond b (with_component w other another false) w).alive.has entity ≡ true →
          w.alive.has entity ≡ true
      by true e = e
      by false e = e
  begun w (DetachAll other) dead lives =
      absurd (true≢false (sym (by (w.alive.has other) lives) ∙ dead))
    where
      by : (b : Bool) → (cond b (without_components w other) w).alive.has entity ≡ true →
          w.alive.has entity ≡ true
      by true e = e
      by false e = e

  abbrev NoneRemoves : List Event → Type 0
  NoneRemoves events = (j : ℕ) → slice_get events j ≢ Some (Remove entity)

  -- an entity lives to the end of a list in which no event removes it
  lives_to_end : (w : World) (events : List Event) → w.alive.has entity ≡ true →
      NoneRemoves events → (final_world w events).alive.has entity ≡ true
  unfolding final_world
  lives_to_end w [] lives none = lives
  lives_to_end w (event ∷ events) lives none = elim (lives_on w event entity lives) [
    | inl on ↦ lives_to_end (world_after w event) events on (λ j. none (suc j))
    | inr removed ↦ absurd (none zero (ap Some removed))
  ]

  lives_from : (w : World) (events : List Event) (k : ℕ) → LivesFrom w events entity k →
      (final_world w events).alive.has entity ≡ true
  unfolding final_world event_answers
  lives_from w [] k from = let spawned = from.spawned in absurd (cc)
  lives_from w (event ∷ events) zero from =
      let was = from.spawned in
      let is : answer_to w event ≡ Spawned entity = cc in
      lives_to_end (world_after w event) events
      (number_now w.alive entity true _ (ap (λ t. t.alive) (spawned_is w event entity is).1))
      (λ j. from.not_removed (suc j) (omega arith))
  lives_from w (event ∷ events) (suc k) from =
      lives_from (world_after w event) events k (record {
        spawned = from.spawned;
        not_removed = λ j h. from.not_removed (suc j) (omega (arith, h));
      })

  -- if an entity is alive at the end, it was alive at first or was spawned, and no event removed it
  -- since
  lived_or_spawned : (w : World) (events : List Event) →
      (final_world w events).alive.has entity ≡ true →
      ((w.alive.has entity ≡ true) × NoneRemoves events)
      ⊎ ((k : ℕ) × LivesFrom w events entity k)
  unfolding final_world event_answers
  lived_or_spawned w [] lives = inl (lives, λ j e. absurd (cc))
  lived_or_spawned w (event ∷ events) lives =
      by (lived_or_spawned (world_after w event) events lives)
      (removes_or_not event) (cases_Bool (w.alive.has entity))
    where
      after : (k : ℕ) → ((j : ℕ) → k < j → slice_get events j ≢ Some (Remove entity)) → (j : ℕ) →
          suc k < j → slice_get (event ∷ events) j ≢ Some (Remove entity)
      after k none zero h = absurd (omega arith)
      after k none (suc j) h = none j (omega arith)

      rest : NoneRemoves events → (j : ℕ) → 0 < j →
          slice_get (event ∷ events) j ≢ Some (Remove entity)
      rest none zero h = absurd (omega arith)
      rest none (suc j) h = none j

      none_yet : (event ≢ Remove entity) → NoneRemoves events → NoneRemoves (event ∷ events)
      none_yet leaves none zero = λ e. leaves (cc)
      none_yet leaves none (suc j) = none j

      by : (((world_after w event).alive.has entity ≡ true) × NoneRemoves events)
          ⊎ ((k : ℕ) × LivesFrom (world_after w event) events entity k) →
          (event ≡ Remove entity) ⊎ (event ≢ Remove entity) →
          (w.alive.has entity ≡ true) ⊎ (w.alive.has entity ≡ false) →
          ((w.alive.has entity ≡ true) × NoneRemoves (event ∷ events))
          ⊎ ((k : ℕ) × LivesFrom w (event ∷ events) entity k)
      by (inr (k, from)) _ _ = inr (
        suc k,
        record { spawned = from.spawned; not_removed = after k from.not_removed },
      )
      by (inl now) (inl removes) _ = absurd (true≢false (sym now.0
          ∙ ap (λ v. (world_after w v).alive.has entity) removes ∙ gone w))
      by (inl now) (inr leaves) (inl lived) = inl (lived, none_yet leaves now.1)
      by (inl now) (inr leaves) (inr dead) = inr (
        zero,
        record { spawned = ap Some (begun w event dead now.0); not_removed = rest now.1 },
      )

  pub lives_iff : (w : World) (events : List Event) →
      ((final_world w events).alive.has entity ≡ true)
      ↔ (((w.alive.has entity ≡ true) × ((j : ℕ) → slice_get events j ≢ Some (Remove entity)))
      ⊎ ((k : ℕ) × LivesFrom w events entity k))
  lives_iff w events = (lived_or_spawned w events, from)
    where
      from : ((w.alive.has entity ≡ true) × NoneRemoves events)
          ⊎ ((k : ℕ) × LivesFrom w events entity k) →
          (final_world w events).alive.has entity ≡ true
      from (inl lived) = lives_to_end w events lived.0 lived.1
      from (inr spawned) = lives_from w events spawned.0 spawned.1

module _ (entity component : ℕ) where
  -- the event removes the entity, or detaches the component or all components from it
  abbrev Takes : Event → Type 0
  Takes event = (event ≡ Remove entity)
      ⊎ ((event ≡ Detach entity component) ⊎ (event ≡ DetachAll entity))

  abbrev Leaves : Event → Type 0
  Leaves event = (event ≢ Remove entity) × (event ≢ Detach entity component)
      × (event ≢ DetachAll entity)

  takes_or_leaves : (event : Event) → Takes event ⊎ Leaves event
  takes_or_leaves Spawn = inr (λ e. cc, λ e. cc, λ e. cc)
  takes_or_leaves (Attach other another) = inr (λ e. cc, λ e. cc, λ e. cc)
  takes_or_leaves (Remove other) = elim (cases_eq other entity) [
    | inl same ↦ inl (inl (ap Remove same))
    | inr apart ↦ inr (λ e. apart (cc), λ e. cc, λ e. cc)
  ]
  takes_or_leaves (Detach other another) =
      elim (cases_eq other entity) [
        | inr apart ↦ inr (λ e. cc, λ e. apart (cc), λ e. cc)
        | inl same ↦ elim (cases_eq another component) [
          | inl one ↦
              inl (inr (inl (ap (λ k. Detach k another) same ∙ ap (Detach entity) one)))
          | inr apart ↦ inr (λ e. cc, λ e. apart (cc), λ e. cc)
        ]
      ]
  takes_or_leaves (DetachAll other) = elim (cases_eq other entity) [
    | inl same ↦ inl (inr (inr (ap DetachAll same)))
    | inr apart ↦ inr (λ e. cc, λ e. cc, λ e. apart (cc))
  ]

  -- after an event that takes the component, the entity does not have it
  taken : (w : World) (event : Event) → IsWorld w → Takes event →
      (world_after w event).has entity component ≡ false
  taken w event is (inl e) =
      ap (λ v. (world_after w v).has entity component) e ∙ by (w.alive.has entity) refl
    where
      by : (b : Bool) → w.alive.has entity ≡ b →
          (cond b (without_entity w entity) w).has entity component ≡ false
      by true l = ap (λ t. cond t false (w.has entity component)) (eq-eqb entity entity refl)
      by false l = dead_lacks w entity is l component
  taken w event is (inr (inr e)) =
      ap (λ v. (world_after w v).has entity component) e ∙ by (w.alive.has entity) refl
    where
      by : (b : Bool) → w.alive.has entity ≡ b →
          (cond b (without_components w entity) w).has entity component ≡ false
      by true l = ap (λ t. cond t false (w.has entity component)) (eq-eqb entity entity refl)
      by false l = dead_lacks w entity is l component
  taken w event is (inr (inl e)) =
      ap (λ v. (world_after w v).has entity component) e
      ∙ by (may_have w entity component) refl (cases_Bool (w.has entity component))
    where
      by : (b : Bool) → may_have w entity component ≡ b →
          (w.has entity component ≡ true) ⊎ (w.has entity component ≡ false) →
          (cond b (with_component w entity component false) w).has entity component ≡ false
      by true m _ = has_now w entity component false _ refl
      by false m (inr lacks) = lacks
      by false m (inl has) =
          let lives = is.dead_have_nothing entity component has in
          let there = lt-ltb component w.components
          (is.components_are_below entity component has) in
          let may : may_have w entity component ≡ true = rw (there, lives) refl in
          absurd (true≢false (sym may ∙ m))

  -- if an entity gets a component that it did not have, the event attached the component
  given : (w : World) (event : Event) → w.has entity component ≡ false →
      (world_after w event).has entity component ≡ true →
      (event ≡ Attach entity component) × (answer_to w event ≡ Done)
  given w Spawn lacks has = absurd (true≢false (sym (by (least_dead w) has) ∙ lacks))
    where
      by : (o : Option ℕ) → (with_spawned w o).has entity component ≡ true →
          w.has entity component ≡ true
      by None e = e
      by (Some k) e = e
  given w (Remove other) lacks has =
      absurd (true≢false (sym (by (w.alive.has other) has) ∙ lacks))
    where
      by : (b : Bool) → (cond b (without_entity w other) w).has entity component ≡ true →
          w.has entity component ≡ true
      by true e = (left (entity == other) (w.has entity component) e).1
      by false e = e
  given w (Detach other another) lacks has =
      absurd (true≢false (sym (by (may_have w other another) has) ∙ lacks))
    where
      by : (b : Bool) →
          (cond b (with_component w other another false) w).has entity component ≡ true →
          w.has entity component ≡ true
      by true e =
          (left ((entity == other) && (component == another)) (w.has entity component) e).1
      by false e = e
  given w (DetachAll other) lacks has =
      absurd (true≢false (sym (by (w.alive.has other) has) ∙ lacks))
    where
      by : (b : Bool) → (cond b (without_components w other) w).has entity component ≡ true →
          w.has entity component ≡ true
      by true e = (left (entity == other) (w.has entity component) e).1
      by false e = e
  given w (Attach other another) lacks has = by (may_have w other another) has
    where
      asked : (a r : Bool) → r ≡ false → cond a true r ≡ true → a ≡ true
      asked true r no_more e = refl
      asked false r no_more e = absurd (true≢false (sym e ∙ no_more))

      by : (b : Bool) →
          (cond b (with_component w other another true) w).has entity component ≡ true →
          (Attach other another ≡ Attach entity component) × (cond b Done Refused ≡ Done)
      by true e =
          let parts = and_parts (entity == other) (component == another)
          (asked ((entity == other) && (component == another)) (w.has entity component) lacks e) in
          let one = eqb-true entity other parts.0 in
          let same = eqb-true component another parts.1 in
          (ap (λ k. Attach k another) (sym one) ∙ ap (Attach entity) (sym same), refl)
      by false e = absurd (true≢false (sym e ∙ lacks))

  -- an entity keeps a component that the event does not take
  kept : (w : World) (event : Event) → w.has entity component ≡ true → Leaves event →
      (world_after w event).has entity component ≡ true
  kept w Spawn has leaves = by (least_dead w)
    where
      by : (o : Option ℕ) → (with_spawned w o).has entity component ≡ true
      by None = has
      by (Some k) = has
  kept w (Remove other) has leaves = by (w.alive.has other)
    where
      apart : entity ≢ other
      apart e = leaves.0 (ap Remove (sym e))

      by : (b : Bool) → (cond b (without_entity w other) w).has entity component ≡ true
      by true = ap (λ t. cond t false (w.has entity component)) (ne_eqb entity other apart) ∙ has
      by false = has
  kept w (Attach other another) has leaves = by (may_have w other another)
    where
      more : (a b : Bool) → b ≡ true → cond a true b ≡ true
      more true b e = refl
      more false b e = e

      by : (b : Bool) →
          (cond b (with_component w other another true) w).has entity component ≡ true
      by true = more ((entity == other) && (component == another)) (w.has entity component) has
      by false = has
  kept w (Detach other another) has leaves = by (may_have w other another)
    where
      same : (a b r : Bool) → (a ≡ true → b ≡ true → ⊥) → r ≡ true → cond (a && b) false r ≡ true
      same true true r none e = absurd (none refl refl)
      same true false r none e = e
      same false b r none e = e

      apart : (entity == other) ≡ true → (component == another) ≡ true → ⊥
      apart e d = leaves.1 (ap (λ k. Detach k another) (sym (eqb-true entity other e))
          ∙ ap (Detach entity) (sym (eqb-true component another d)))

      by : (b : Bool) →
          (cond b (with_component w other another false) w).has entity component ≡ true
      by true = same (entity == other) (component == another) (w.has entity component) apart has
      by false = has
  kept w (DetachAll other) has leaves = by (w.alive.has other)
    where
      apart : entity ≢ other
      apart e = leaves.2 (ap DetachAll (sym e))

      by : (b : Bool) → (cond b (without_components w other) w).has entity component ≡ true
      by true = ap (λ t. cond t false (w.has entity component)) (ne_eqb entity other apart) ∙ has
      by false = has

  abbrev NoneTakes : List Event → Type 0
  NoneTakes events = (j : ℕ) → (slice_get events j ≢ Some (Remove entity))
      × (slice_get events j ≢ Some (Detach entity component))
      × (slice_get events j ≢ Some (DetachAll entity))

  -- an entity keeps a component to the end of a list in which no event takes it
  kept_to_end : (w : World) (events : List Event) → w.has entity component ≡ true →
      NoneTakes events → (final_world w events).has entity component ≡ true
  unfolding final_world
  kept_to_end w [] has none = has
  kept_to_end w (event ∷ events) has none =
      kept_to_end (world_after w event) events
      (kept w event has (
        λ e. (none zero).0 (ap Some e),
        λ e. (none zero).1 (ap Some e),
        λ e. (none zero).2 (ap Some e),
      ))
      (λ j. none (suc j))

  kept_from : (w : World) (events : List Event) (k : ℕ) →
      IsKeptFrom w events entity component k → (final_world w events).has entity component ≡ true
  unfolding final_world event_answers
  kept_from w [] k from = let asked = from.asked in absurd (cc)
  kept_from w (event ∷ events) zero from =
      kept_to_end (world_after w event) events
      (ap (λ v. (world_after w v).has entity component) is
      ∙ by (may_have w entity component) (sym (ap (answer_to w) is) ∙ done))
      (λ j. (
        from.not_removed (suc j) (omega arith),
        from.not_detached (suc j) (omega arith),
        from.not_all_detached (suc j) (omega arith),
      ))
    where
      is : event ≡ Attach entity component
      is = let asked = from.asked in cc

      done : answer_to w event ≡ Done
      done = let was = from.done in cc

      by : (b : Bool) → cond b Done Refused ≡ Done →
          (cond b (with_component w entity component true) w).has entity component ≡ true
      by true e = has_now w entity component true _ refl
      by false e = absurd (cc)
  kept_from w (event ∷ events) (suc k) from =
      kept_from (world_after w event) events k (record {
        asked = from.asked;
        done = from.done;
        not_removed = λ j h. from.not_removed (suc j) (omega (arith, h));
        not_detached = λ j h. from.not_detached (suc j) (omega (arith, h));
        not_all_detached = λ j h. from.not_all_detached (suc j) (omega (arith, h));
      })

  -- if an entity has a component at the end, it had it at first or was given it, and no event took
  -- it since
  had_or_given : (w : World) (events : List Event) → IsWorld w →
      (final_world w events).has entity component ≡ true →
      ((w.has entity component ≡ true) × NoneTakes events)
      ⊎ ((k : ℕ) × IsKeptFrom w events entity component k)
  unfolding final_world event_answers
  had_or_given w [] is has = inl (has, λ j. (λ e. absurd (cc), λ e. absurd (cc), λ e. absurd (cc)))
  had_or_given w (event ∷ events) is has =
      by (had_or_given (world_after w event) events (one_stays w event is) has)
      (takes_or_leaves event) (cases_Bool (w.has entity component))
    where
      after : (v : Event) (k : ℕ) → ((j : ℕ) → k < j → slice_get events j ≢ Some v) → (j : ℕ) →
          suc k < j → slice_get (event ∷ events) j ≢ Some v
      after v k none zero h = absurd (omega arith)
      after v k none (suc j) h = none j (omega arith)

      rest : (v : Event) → ((j : ℕ) → slice_get events j ≢ Some v) → (j : ℕ) → 0 < j →
          slice_get (event ∷ events) j ≢ Some v
      rest v none zero h = absurd (omega arith)
      rest v none (suc j) h = none j

      none_yet : Leaves event → NoneTakes events → NoneTakes (event ∷ events)
      none_yet leaves none zero = (λ e. leaves.0 (cc), λ e. leaves.1 (cc), λ e. leaves.2 (cc))
      none_yet leaves none (suc j) = none j

      by : (((world_after w event).has entity component ≡ true) × NoneTakes events)
          ⊎ ((k : ℕ) × IsKeptFrom (world_after w event) events entity component k) →
          Takes event ⊎ Leaves event →
          (w.has entity component ≡ true) ⊎ (w.has entity component ≡ false) →
          ((w.has entity component ≡ true) × NoneTakes (event ∷ events))
          ⊎ ((k : ℕ) × IsKeptFrom w (event ∷ events) entity component k)
      by (inr (k, from)) _ _ = inr (
        suc k,
        record {
          asked = from.asked;
          done = from.done;
          not_removed = after (Remove entity) k from.not_removed;
          not_detached = after (Detach entity component) k from.not_detached;
          not_all_detached = after (DetachAll entity) k from.not_all_detached;
        },
      )
      by (inl now) (inl takes) _ = absurd (true≢false (sym now.0 ∙ taken w event is takes))
      by (inl now) (inr leaves) (inl had) = inl (had, none_yet leaves now.1)
      by (inl now) (inr leaves) (inr lacks) =
          let gift = given w event lacks now.0 in inr (
            zero,
            record {
              asked = ap Some gift.0;
              done = ap Some gift.1;
              not_removed = rest (Remove entity) (λ j. (now.1 j).0);
              not_detached = rest (Detach entity component) (λ j. (now.1 j).1);
              not_all_detached = rest (DetachAll entity) (λ j. (now.1 j).2);
            },
          )

pub kept_iff : (w : World) (events : List Event) (entity component : ℕ) → IsWorld w →
    ((final_world w events).has entity component ≡ true)
    ↔ (((w.has entity component ≡ true)
    × ((j : ℕ) → (slice_get events j ≢ Some (Remove entity))
    × (slice_get events j ≢ Some (Detach entity component))
    × (slice_get events j ≢ Some (DetachAll entity))))
    ⊎ ((k : ℕ) × IsKeptFrom w events entity component k))
kept_iff w events entity component is = (had_or_given entity component w events is, from)
  where
    from : ((w.has entity component ≡ true) × NoneTakes entity component events)
        ⊎ ((k : ℕ) × IsKeptFrom w events entity component k) →
        (final_world w events).has entity component ≡ true
    from (inl had) = kept_to_end entity component w events had.0 had.1
    from (inr given) = kept_from entity component w events given.0 given.1
