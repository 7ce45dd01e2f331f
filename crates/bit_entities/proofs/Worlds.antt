-- What each change keeps of a world: no dead entity has a component, and each living entity is
-- below the capacity.
use Rattle.std.proofs.Common.{◌≡◌, ℕ, zero, suc, ◌<◌, ◌≤◌, Bool, true, false, cond, ◌&&◌, ◌==◌}
use Rattle.std.proofs.Common.{nat_lt, inl, inr, refl, sym, ap, ◌∙◌, arith}
use Rattle.std.proofs.Math.ListN.{replicate}
use Rattle.std.specs.Prelude.{slice_get}
use Rattle.std.proofs.lemmas.Bool.{cases_Bool, cases_eq, cases_lt, eq-eqb, ne_eqb, lt-ltb, ltb-true}
use Rattle.std.proofs.lemmas.Bool.{and_parts, true≢false}
use Rattle.bittle.specs.PlainSet.{PlainSet}
use Rattle.bit_entities.specs.Entities.{World, IsWorld, EndsAtCapacity, is_in, world_of, bare_world}
use Rattle.bit_entities.specs.Entities.{may_have, with_number, with_living, without_first}
use Rattle.bit_entities.specs.Entities.{without_components, without_entity, with_component}

-- a world with other living entities
abbrev pub with_alive : World → PlainSet → World
with_alive w alive = record { alive = alive; components = w.components; has = w.has }

-- a change of the test at the number i keeps the test of every other number
test_other : (k i : ℕ) (is r : Bool) → cond (k == i) is r ≡ true → (k ≡ i → ⊥) → r ≡ true
test_other k i is r e apart = sym (ap (λ b. cond b is r) (ne_eqb k i apart)) ∙ e

-- what is left was not taken, and was there before
pub left : (a r : Bool) → cond a false r ≡ true → (a ≡ false) × (r ≡ true)
left true r e = absurd (true≢false (sym e))
left false r e = (refl, e)

-- a dead entity lacks each component
pub dead_lacks : (w : World) (entity : ℕ) → IsWorld w → w.alive.has entity ≡ false →
    (component : ℕ) → w.has entity component ≡ false
dead_lacks w entity is dead component = elim (cases_Bool (w.has entity component)) [
  | inl has ↦ absurd (true≢false (sym (is.dead_have_nothing entity component has) ∙ dead))
  | inr lacks ↦ lacks
]

-- each entity lacks a number that is no component
pub no_other : (w : World) → IsWorld w → (entity component : ℕ) → w.components ≤ component →
    w.has entity component ≡ false
no_other w is entity component h = elim (cases_Bool (w.has entity component)) [
  | inl has ↦ absurd (omega (arith, h, is.components_are_below entity component has))
  | inr lacks ↦ lacks
]

-- a row of empty masks gives no entity a component
nothing_in : {X : Type 0} (set_of : X → PlainSet) (none : X) (entity : ℕ) →
    (set_of none).has entity ≡ false → (count component : ℕ) →
    is_in set_of (slice_get (replicate count none) component) entity ≡ false
nothing_in set_of none entity empty zero component = refl
nothing_in set_of none entity empty (suc count) zero = empty
nothing_in set_of none entity empty (suc count) (suc component) =
    nothing_in set_of none entity empty count component

-- in the world of a row of empty masks no entity has a component
pub bare_is : {X : Type 0} (count : ℕ) (set_of : X → PlainSet) (alive none : X) →
    ((k : ℕ) → (set_of none).has k ≡ false) →
    world_of count set_of alive (replicate count none) ≡ bare_world (set_of alive) count
bare_is count set_of alive none empty = λ i. record {
  alive = set_of alive;
  components = count;
  has = λ k c. nothing_in set_of none k (empty k) count c i;
}

-- `IsWorld` holds for a bare world if no number past the capacity is alive
pub bare_is_world : (alive : PlainSet) (count : ℕ) → EndsAtCapacity alive →
    IsWorld (bare_world alive count)
bare_is_world alive count ends = record {
  dead_have_nothing = λ k c e. absurd (true≢false (sym e));
  living_are_below = λ k e. elim (cases_lt k alive.capacity) [
    | inl l ↦ l
    | inr g ↦ absurd (true≢false (sym e ∙ ends k g))
  ];
  components_are_below = λ k c e. absurd (true≢false (sym e));
}

-- `IsWorld` still holds after an entity below the capacity becomes alive
pub living_is_world : (w : World) (entity : ℕ) → IsWorld w → entity < w.alive.capacity →
    IsWorld (with_living w entity)
living_is_world w entity is below = record {
  dead_have_nothing = λ k c has. by (k == entity) (w.alive.has k) (is.dead_have_nothing k c has);
  living_are_below = λ k e. elim (cases_eq k entity) [
    | inl same ↦ omega (arith, same, below)
    | inr apart ↦ is.living_are_below k (test_other k entity true (w.alive.has k) e apart)
  ];
  components_are_below = is.components_are_below;
}
  where
    by : (a b : Bool) → b ≡ true → cond a true b ≡ true
    by true b e = refl
    by false b e = e

-- `IsWorld` still holds after an entity loses components
pub losing_is_world : (w : World) (entity many : ℕ) → IsWorld w →
    IsWorld (without_first w entity many)
losing_is_world w entity many is = record {
  dead_have_nothing = λ k c e. is.dead_have_nothing k c
      (left ((k == entity) && nat_lt c many) (w.has k c) e).1;
  living_are_below = is.living_are_below;
  components_are_below = λ k c e. is.components_are_below k c
      (left ((k == entity) && nat_lt c many) (w.has k c) e).1;
}

pub losing_all_is_world : (w : World) (entity : ℕ) → IsWorld w →
    IsWorld (without_components w entity)
losing_all_is_world w entity is = record {
  dead_have_nothing = λ k c e. is.dead_have_nothing k c (left (k == entity) (w.has k c) e).1;
  living_are_below = is.living_are_below;
  components_are_below = λ k c e. is.components_are_below k c (left (k == entity) (w.has k c) e).1;
}

-- `IsWorld` still holds after an entity is removed with its components
pub going_is_world : (w : World) (entity : ℕ) → IsWorld w → IsWorld (without_entity w entity)
going_is_world w entity is = record {
  dead_have_nothing = λ k c e.
      let rest = left (k == entity) (w.has k c) e in
      ap (λ b. cond b false (w.alive.has k)) rest.0 ∙ is.dead_have_nothing k c rest.1;
  living_are_below = λ k e.
      is.living_are_below k (left (k == entity) (w.alive.has k) e).1;
  components_are_below = λ k c e.
      is.components_are_below k c (left (k == entity) (w.has k c) e).1;
}

-- `IsWorld` still holds after a living entity gets or loses a component
pub having_is_world : (w : World) (entity component : ℕ) (has : Bool) → IsWorld w →
    component < w.components → w.alive.has entity ≡ true →
    IsWorld (with_component w entity component has)
having_is_world w entity component has is below lives = record {
  dead_have_nothing = λ k c e. elim (cases_eq k entity) [
    | inl same ↦ ap w.alive.has same ∙ lives
    | inr apart ↦ is.dead_have_nothing k c
        (sym (ap (λ b. cond (b && (c == component)) has (w.has k c)) (ne_eqb k entity apart)) ∙ e)
  ];
  living_are_below = is.living_are_below;
  components_are_below = λ k c e. elim (cases_eq c component) [
    | inl same ↦ omega (arith, same, below)
    | inr apart ↦ is.components_are_below k c
        (elsewhere (k == entity) (c == component) (w.has k c) (ne_eqb c component apart) e)
  ];
}
  where
    elsewhere : (a b r : Bool) → b ≡ false → cond (a && b) has r ≡ true → r ≡ true
    elsewhere true b r off e = sym (ap (λ t. cond t has r) off) ∙ e
    elsewhere false b r off e = e

-- an entity that lost each component has none
pub all_lost : (w : World) (entity : ℕ) → IsWorld w →
    without_first w entity w.components ≡ without_components w entity
all_lost w entity is = λ i. record {
  alive = w.alive;
  components = w.components;
  has = λ k c. by k c i;
}
  where
    by : (k c : ℕ) → cond ((k == entity) && nat_lt c w.components) false (w.has k c)
        ≡ cond (k == entity) false (w.has k c)
    by k c = elim (cases_lt c w.components) [
      | inl l ↦ within (k == entity) (nat_lt c w.components) (w.has k c) (lt-ltb c w.components l)
      | inr g ↦ past ((k == entity) && nat_lt c w.components) (k == entity) (w.has k c)
          (no_other w is k c g)
    ]
      where
        within : (a b r : Bool) → b ≡ true → cond (a && b) false r ≡ cond a false r
        within true b r e = ap (λ t. cond t false r) e
        within false b r e = refl

        past : (a b r : Bool) → r ≡ false → cond a false r ≡ cond b false r
        past a b r e = nothing a r e ∙ sym (nothing b r e)
          where
            nothing : (a r : Bool) → r ≡ false → cond a false r ≡ false
            nothing true r e = refl
            nothing false r e = e

-- an entity that has no component and is no longer alive is gone
pub now_gone : (w : World) (entity : ℕ) (t : World) → t ≡ without_components w entity →
    (alive : PlainSet) → alive ≡ with_number t.alive entity false →
    with_alive t alive ≡ without_entity w entity
now_gone w entity t lost alive gone = ap (with_alive t) gone
    ∙ ap (λ u. with_alive u (with_number u.alive entity false)) lost

-- the world after an entity was put among the living
pub now_lives : (w : World) (entity : ℕ) (alive : PlainSet) →
    alive ≡ with_number w.alive entity true →
    with_alive w alive ≡ with_living w entity
now_lives w entity alive e = ap (with_alive w) e

-- the parts of `may_have`: there is such a component, and the entity is alive
pub may_parts : (w : World) (entity component : ℕ) → may_have w entity component ≡ true →
    (component < w.components) × (w.alive.has entity ≡ true)
may_parts w entity component e =
    let parts = and_parts (nat_lt component w.components) (w.alive.has entity) e in
    (ltb-true component w.components parts.0, parts.1)

-- after `with_component`, the test of the component is `is`
pub has_now : (w : World) (entity component : ℕ) (is : Bool) (t : World) →
    t ≡ with_component w entity component is → t.has entity component ≡ is
has_now w entity component is t e =
    let same = eq-eqb entity entity refl in
    let it = eq-eqb component component refl in
    let both : ((entity == entity) && (component == component)) ≡ true = rw (same, it) refl in
    ap (λ u. u.has entity component) e ∙ ap (λ b. cond b is (w.has entity component)) both
