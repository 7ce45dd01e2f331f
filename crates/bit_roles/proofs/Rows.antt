-- A row after a write to one place, and the roles that it stands for then.
use Rattle.std.proofs.Common.{◌≡◌, ℕ, zero, suc, ◌<◌, Bool, true, false, not, cond, ◌&&◌, ◌||◌}
use Rattle.std.proofs.Common.{◌==◌, nat_lt, Option, Some, None, List, length, set, inl, inr, refl}
use Rattle.std.proofs.Common.{sym, ap, ◌∙◌, arith}
use Rattle.std.proofs.Math.ListN.{replicate}
use Rattle.std.specs.Prelude.{slice_get, IfSome}
use Rattle.bittle.specs.PlainSet.{PlainSet, contains, with_index, without_index}
use Rattle.bittle.proofs.CallerSets.{contains_within, with_index_within, without_index_within}
use Rattle.bittle.proofs.CallerTables.{slice_get_set, slice_get_set_same, slice_get_set_other}
use Rattle.bit_roles.specs.Roles.{Roles, bare_roles, roles_of, has_permission, parent_in}
use Rattle.bit_roles.specs.Roles.{with_granted, with_parent}
use Rattle.bit_roles.proofs.RoleLaws.{changed, less_both}
use Rattle.std.proofs.lemmas.Bool.{and_right, cases_eq, eq-eqb, ne_eqb, lt-ltb}

-- a test of the set shows whether a permission is in it
pub permission_within : {X : Type 0} (set : X → PlainSet) (place : Option X) (x : X)
    (permission : ℕ) → place ≡ Some x → permission < (set x).capacity →
    contains (set x) permission ≡ has_permission set place permission
permission_within set place x permission is h =
    contains_within (set x) permission h
    ∙ ap (λ b. b && (set x).has permission) (sym (lt-ltb permission (set x).capacity h))
    ∙ ap (λ o. has_permission set o permission) (sym is)

-- a number that is no place of the row has no permission
pub permission_none : {X : Type 0} (set : X → PlainSet) (place : Option X) (permission : ℕ) →
    place ≡ None → false ≡ has_permission set place permission
permission_none set place permission is = ap (λ o. has_permission set o permission) (sym is)

-- if each parent has a lesser number than its role, so has a parent that was found
pub lesser_found : (parents : List (Option ℕ)) (role : ℕ) (found : Option ℕ) →
    slice_get parents role ≡ Some found →
    ((k parent : ℕ) → parent_in (slice_get parents k) ≡ Some parent → parent < k) →
    IfSome found (λ parent. parent < role)
lesser_found parents role None is lesser = tt
lesser_found parents role (Some parent) is lesser = lesser role parent (ap parent_in is)

-- a set after one number was put in (`has` is true) or taken out (false)
abbrev pub set_changed : PlainSet → ℕ → Bool → PlainSet
set_changed s i has = record { capacity = s.capacity; has = λ k. cond (k == i) has (s.has k) }

or_cond : (a b : Bool) → (a || b) ≡ cond a true b
or_cond true b = refl
or_cond false b = refl

and_cond : (a b : Bool) → (not a && b) ≡ cond a false b
and_cond true b = refl
and_cond false b = refl

pub set_put_in : (s t : PlainSet) (i : ℕ) → i < s.capacity → t ≡ with_index s i →
    t ≡ set_changed s i true
set_put_in s t i h after = after ∙ with_index_within s i h
    ∙ (λ j. record { capacity = s.capacity; has = λ k. or_cond (k == i) (s.has k) j })

pub set_taken_out : (s t : PlainSet) (i : ℕ) → i < s.capacity → t ≡ without_index s i →
    t ≡ set_changed s i false
set_taken_out s t i h after = after ∙ without_index_within s i h
    ∙ (λ j. record { capacity = s.capacity; has = λ k. and_cond (k == i) (s.has k) j })

-- a row of sets after one place got or lost a permission: it had the set x, and has the set y now
module _ {X : Type 0} (count permissions : ℕ) (set_of : X → PlainSet) (granted : List X)
    (parents : List (Option ℕ)) (role permission : ℕ) (has : Bool) (x y : X)
    (inside : role < length granted) (at : slice_get granted role ≡ Some x)
    (capacity : (set_of x).capacity ≡ permissions) (below : permission < permissions)
    (is_role : role < count) (after : set_of y ≡ set_changed (set_of x) permission has) where
  abbrev pub before : Roles
  before = roles_of count permissions set_of granted parents

  one_place : (p : ℕ) → (nat_lt p (set_of x).capacity
      && cond (p == permission) has ((set_of x).has p))
      ≡ cond (true && (p == permission)) has (nat_lt p (set_of x).capacity && (set_of x).has p)
  one_place p = elim (cases_eq p permission) [
    | inl same ↦
        let is = eq-eqb p permission same in
        let within = lt-ltb p (set_of x).capacity (omega (arith, same, below, capacity)) in
        rw (is, within) refl
    | inr apart ↦ let no = ne_eqb p permission apart in rw no refl
  ]

  each : (k p : ℕ) → has_permission set_of (slice_get (set granted role y) k) p
      ≡ cond ((k == role) && (p == permission)) has (has_permission set_of (slice_get granted k) p)
  each k p = elim (cases_eq k role) [
    | inl same ↦
        ap (λ i. has_permission set_of (slice_get (set granted role y) i) p) same
        ∙ ap (λ o. has_permission set_of o p) (slice_get_set_same granted role y inside)
        ∙ ap (λ s. nat_lt p s.capacity && s.has p) after
        ∙ one_place p
        ∙ ap (λ o. cond (true && (p == permission)) has (has_permission set_of o p)) (sym at)
        ∙ ap (λ i. cond (true && (p == permission)) has
        (has_permission set_of (slice_get granted i) p)) (sym same)
        ∙ ap (λ b. cond (b && (p == permission)) has
        (has_permission set_of (slice_get granted k) p)) (sym (eq-eqb k role same))
    | inr apart ↦
        ap (λ o. has_permission set_of o p) (slice_get_set_other granted role k y apart)
        ∙ ap (λ b. cond (b && (p == permission)) has
        (has_permission set_of (slice_get granted k) p)) (sym (ne_eqb k role apart))
  ]

  pub row_changed : roles_of count permissions set_of (set granted role y) parents
      ≡ changed before role permission has
  row_changed = (λ i. record {
    count = count;
    permissions = permissions;
    granted = λ k p. each k p i;
    parent = before.parent;
  }) ∙ ap (λ b. cond b (with_granted before role permission has) before)
      (sym (less_both role count permission permissions (is_role, below)))

-- a row of empty sets grants no permission
granted_nothing : {X : Type 0} (set_of : X → PlainSet) (none : X) (permission : ℕ) →
    (set_of none).has permission ≡ false → (count role : ℕ) →
    has_permission set_of (slice_get (replicate count none) role) permission ≡ false
granted_nothing set_of none permission empty zero role = refl
granted_nothing set_of none permission empty (suc count) zero =
    rw empty (and_right (nat_lt permission (set_of none).capacity) false refl)
granted_nothing set_of none permission empty (suc count) (suc role) =
    granted_nothing set_of none permission empty count role

-- in a row of `None`, no role has a parent
no_parent : (count role : ℕ) →
    parent_in (slice_get (replicate {A = Option ℕ} count None) role) ≡ None
no_parent zero role = refl
no_parent (suc count) zero = refl
no_parent (suc count) (suc role) = no_parent count role

-- with a row of empty sets and a row of `None`, no role has a permission or a parent
pub rows_are_bare : {X : Type 0} (count permissions : ℕ) (set_of : X → PlainSet) (none : X) →
    ((p : ℕ) → (set_of none).has p ≡ false) →
    roles_of count permissions set_of (replicate count none) (replicate {A = Option ℕ} count None)
    ≡ bare_roles count permissions
rows_are_bare count permissions set_of none empty = λ i. record {
  count = count;
  permissions = permissions;
  granted = λ k p. granted_nothing set_of none p (empty p) count k i;
  parent = λ k. no_parent count k i;
}

-- in a row of `None`, each parent is lesser than its role, since there is no parent
pub none_lesser : (count role parent : ℕ) →
    parent_in (slice_get (replicate {A = Option ℕ} count None) role) ≡ Some parent → parent < role
none_lesser count role parent is = let no = no_parent count role in absurd (cc)

-- a row of parents after one role was given another parent, or none
module _ (parents : List (Option ℕ)) (role : ℕ) (parent : Option ℕ)
    (inside : role < length parents) where
  parents_written : (k : ℕ) → parent_in (slice_get (set parents role parent) k)
      ≡ cond (k == role) parent (parent_in (slice_get parents k))
  parents_written k =
      ap parent_in (slice_get_set parents role parent inside k) ∙ by (k == role)
    where
      by : (b : Bool) → parent_in (cond b (Some parent) (slice_get parents k))
          ≡ cond b parent (parent_in (slice_get parents k))
      by true = refl
      by false = refl

  -- each parent still has a lesser number than its role
  pub lesser_written : ((p : ℕ) → parent ≡ Some p → p < role) →
      ((k other : ℕ) → parent_in (slice_get parents k) ≡ Some other → other < k) →
      (k other : ℕ) → parent_in (slice_get (set parents role parent) k) ≡ Some other → other < k
  lesser_written below lesser k other is = elim (cases_eq k role) [
    | inl same ↦
        let own : parent ≡ Some other =
        sym (parents_written k ∙ ap (λ b. cond b parent (parent_in (slice_get parents k)))
        (eq-eqb k role same)) ∙ is in
        omega (arith, same, below other own)
    | inr apart ↦ lesser k other (sym (parents_written k
        ∙ ap (λ b. cond b parent (parent_in (slice_get parents k))) (ne_eqb k role apart)) ∙ is)
  ]

  -- the role has the parent that it was given
  pub parent_written : parent_in (slice_get (set parents role parent) role) ≡ parent
  parent_written =
      ap parent_in (slice_get_set_same parents role parent inside)

  -- the roles of that row are those after the request
  module _ {X : Type 0} (count permissions : ℕ) (set_of : X → PlainSet) (granted : List X)
      (may : Bool) (is : may ≡ true) where
    abbrev pub whole : Roles
    whole = roles_of count permissions set_of granted parents

    pub row_with_parent : roles_of count permissions set_of granted (set parents role parent)
        ≡ cond may (with_parent whole role parent) whole
    row_with_parent = (λ i. record {
      count = count;
      permissions = permissions;
      granted = whole.granted;
      parent = λ k. parents_written k i;
    }) ∙ ap (λ b. cond b (with_parent whole role parent) whole) (sym is)
