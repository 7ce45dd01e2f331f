-- A change of one mask, alone or in a row of masks, and the world after it.
use Rattle.std.proofs.Common.{◌≡◌, ℕ, ◌+◌, ◌<◌, Bool, true, false, not, cond, ◌&&◌, ◌||◌, ◌==◌}
use Rattle.std.proofs.Common.{nat_lt, Some, List, length, set, inl, inr, refl, sym, ap, ◌∙◌, arith}
use Rattle.std.specs.Prelude.{slice_get}
use Rattle.std.proofs.lemmas.Bool.{cases_eq, cases_lt, eq-eqb, ne_eqb, lt-ltb, le-ltb}
use Rattle.bittle.specs.PlainSet.{PlainSet, with_index, without_index}
use Rattle.bittle.proofs.CallerSets.{with_index_within, without_index_within}
use Rattle.bittle.proofs.CallerTables.{slice_get_set_same, slice_get_set_other}
use Rattle.bit_entities.specs.Entities.{World, world_of, is_in, with_number, with_component}
use Rattle.bit_entities.specs.Entities.{without_first}

-- below the capacity, `with_index` and `without_index` are `with_number`
pub put_in : (s : PlainSet) (i : ℕ) → i < s.capacity → with_index s i ≡ with_number s i true
put_in s i h = with_index_within s i h ∙ (λ j. record {
  capacity = s.capacity;
  has = λ k. by (k == i) (s.has k) j;
})
  where
    by : (a b : Bool) → (a || b) ≡ cond a true b
    by true b = refl
    by false b = refl

pub taken_out : (s : PlainSet) (i : ℕ) → i < s.capacity → without_index s i ≡ with_number s i false
taken_out s i h = without_index_within s i h ∙ (λ j. record {
  capacity = s.capacity;
  has = λ k. by (k == i) (s.has k) j;
})
  where
    by : (a b : Bool) → (not a && b) ≡ cond a false b
    by true b = refl
    by false b = refl

-- after `with_number`, the test of the number is `is`
pub number_now : (s : PlainSet) (i : ℕ) (is : Bool) (t : PlainSet) → t ≡ with_number s i is →
    t.has i ≡ is
number_now s i is t e =
    ap (λ u. u.has i) e ∙ ap (λ b. cond b is (s.has i)) (eq-eqb i i refl)

-- the world of a row of masks after an entity was put into one mask, or taken out of it
module _ {X : Type 0} (count : ℕ) (set_of : X → PlainSet) (alive : X) (masks : List X)
    (entity component : ℕ) (is : Bool) (x y : X) (inside : component < length masks)
    (at : slice_get masks component ≡ Some x)
    (after : set_of y ≡ with_number (set_of x) entity is) where
  each : (k c : ℕ) → is_in set_of (slice_get (set masks component y) c) k
      ≡ cond ((k == entity) && (c == component)) is (is_in set_of (slice_get masks c) k)
  each k c = elim (cases_eq c component) [
    | inl same ↦
        ap (λ i. is_in set_of (slice_get (set masks component y) i) k) same
        ∙ ap (λ o. is_in set_of o k) (slice_get_set_same masks component y inside)
        ∙ ap (λ s. s.has k) after
        ∙ ap (λ o. cond (k == entity) is (is_in set_of o k)) (sym at)
        ∙ ap (λ i. cond (k == entity) is (is_in set_of (slice_get masks i) k)) (sym same)
        ∙ there (k == entity) (c == component) _ (eq-eqb c component same)
    | inr apart ↦
        ap (λ o. is_in set_of o k) (slice_get_set_other masks component c y apart)
        ∙ elsewhere (k == entity) (c == component) _ (ne_eqb c component apart)
  ]
    where
      there : (a b r : Bool) → b ≡ true → cond a is r ≡ cond (a && b) is r
      there true b r e = ap (λ t. cond t is r) (sym e)
      there false b r e = refl

      elsewhere : (a b r : Bool) → b ≡ false → r ≡ cond (a && b) is r
      elsewhere true b r e = ap (λ t. cond t is r) (sym e)
      elsewhere false b r e = refl

  pub row_changed : world_of count set_of alive (set masks component y)
      ≡ with_component (world_of count set_of alive masks) entity component is
  row_changed = λ i. record {
    alive = set_of alive;
    components = count;
    has = λ k c. each k c i;
  }

-- an entity that has lost its first components, and then loses the next one
pub one_more_lost : (w : World) (entity many : ℕ) →
    with_component (without_first w entity many) entity many false
    ≡ without_first w entity (many + 1)
one_more_lost w entity many = λ i. record {
  alive = w.alive;
  components = w.components;
  has = λ k c. by (k == entity) c (w.has k c) i;
}
  where
    by : (a : Bool) (c : ℕ) (r : Bool) →
        cond (a && (c == many)) false (cond (a && nat_lt c many) false r)
        ≡ cond (a && nat_lt c (many + 1)) false r
    by false c r = refl
    by true c r = elim (cases_lt c many) [
      | inl l ↦
          let is = lt-ltb c many l in
          let apart = ne_eqb c many (λ e. absurd (omega arith)) in
          let now = lt-ltb c (many + 1) (omega arith) in rw (is, apart, now) refl
      | inr g ↦ elim (cases_eq c many) [
        | inl same ↦
            let it = eq-eqb c many same in
            let now = lt-ltb c (many + 1) (omega arith) in rw (it, now) refl
        | inr apart ↦
            let no = ne_eqb c many apart in
            let not_yet = le-ltb c many g in
            let still = le-ltb c (many + 1) (omega arith) in rw (no, not_yet, still) refl
      ]
    ]
