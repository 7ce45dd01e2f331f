-- The role machine: its state tells which permissions each role was granted and which parent the
-- role has, and each request has an answer and a next state. Roles and permissions are numbers.
use Rattle.std.specs.List.{fold, scan}
use Rattle.std.specs.Prelude.{◌≡◌, ◌≢◌, ℕ, zero, suc, ◌<◌, Bool, true, false, ◌&&◌, ◌==◌, nat_lt}
use Rattle.std.specs.Prelude.{if◌then◌else◌}
use Rattle.std.specs.Prelude.{Option, Some, None, List, slice_get}
use Rattle.bittle.specs.PlainSet.{PlainSet}
use Rattle.bit_roles.specs.declared.Request.{Request}
use Rattle.bit_roles.specs.declared.Request.TheVariants.{Grant, Revoke, Inherit, ClearParent}
use Rattle.bit_roles.specs.declared.Answer.{Answer}
use Rattle.bit_roles.specs.declared.Answer.TheVariants.{Done, Refused}

-- how many roles and how many permissions there are, whether a role was granted a permission that
-- was not taken back since, and the parent of each role
pub record Roles : Type 0 where
  pub count : ℕ
  pub permissions : ℕ
  pub granted : ℕ → ℕ → Bool
  pub parent : ℕ → Option ℕ

-- the parent of a role, or `None` if there is no such role or it has no parent
abbrev pub parent_of : Roles → Option ℕ → Option ℕ
parent_of r None = None
parent_of r (Some role) = r.parent role

-- the role that a chain of n parents leads to from `role`, or None if the chain is shorter
unfoldable pub ancestor : Roles → ℕ → ℕ → Option ℕ
ancestor r role zero = Some role
ancestor r role (suc n) = parent_of r (ancestor r role n)

-- a chain of parents leads from one role to the other, or both are the same role; the proof of a
-- caller takes it whole
unfoldable pub LeadsTo : Roles → ℕ → ℕ → Type 0
LeadsTo r role other = (n : ℕ) × (ancestor r role n ≡ Some other)

-- the role itself, or a role that a chain of its parents leads to, was granted the permission; the
-- proof of a caller takes it whole
unfoldable pub Allows : Roles → ℕ → ℕ → Type 0
Allows r role permission =
    (n : ℕ) × (other : ℕ) × (ancestor r role n ≡ Some other) × (r.granted other permission ≡ true)

-- the role itself, or a role that a chain of its parents leads to, was granted the permission, and
-- the chain does not go past the role `last`
abbrev pub AllowsUpTo : Roles → ℕ → ℕ → ℕ → Type 0
AllowsUpTo r last role permission =
    (n : ℕ) × (other : ℕ) × (ancestor r role n ≡ Some other) × (r.granted other permission ≡ true)
    × ((m : ℕ) → m < n → ancestor r role m ≢ Some last)

-- each parent has a lesser number than its role
abbrev pub HasLesserParents : Roles → Type 0
HasLesserParents r = (role parent : ℕ) → r.parent role ≡ Some parent → parent < role

-- whether there are such a role and such a permission
abbrev pub are_there : Roles → ℕ → ℕ → Bool
are_there r role permission = nat_lt role r.count && nat_lt permission r.permissions

-- whether there is such a role, and the parent is less than the role
abbrev pub may_inherit : Roles → ℕ → ℕ → Bool
may_inherit r role parent = nat_lt role r.count && nat_lt parent role

-- the roles after one role was granted one permission (`has` is true), or lost it (false)
abbrev pub with_granted : Roles → ℕ → ℕ → Bool → Roles
with_granted r role permission has = record {
  count = r.count;
  permissions = r.permissions;
  granted = λ k p. if (k == role) && (p == permission) then has else r.granted k p;
  parent = r.parent;
}

-- the roles after a role was given a parent, or lost its parent (None)
abbrev pub with_parent : Roles → ℕ → Option ℕ → Roles
with_parent r role parent = record {
  count = r.count;
  permissions = r.permissions;
  granted = r.granted;
  parent = λ k. if k == role then parent else r.parent k;
}

-- the answer to a request
abbrev pub answer_to : Roles → Request → Answer
answer_to r (Grant role permission) = if are_there r role permission then Done else Refused
answer_to r (Revoke role permission) = if are_there r role permission then Done else Refused
answer_to r (Inherit role parent) = if may_inherit r role parent then Done else Refused
answer_to r (ClearParent role) = if nat_lt role r.count then Done else Refused

-- the roles after the request
abbrev pub roles_after : Roles → Request → Roles
roles_after r (Grant role permission) = if are_there r role permission
    then with_granted r role permission true
    else r
roles_after r (Revoke role permission) = if are_there r role permission
    then with_granted r role permission false
    else r
roles_after r (Inherit role parent) = if may_inherit r role parent
    then with_parent r role (Some parent)
    else r
roles_after r (ClearParent role) = if nat_lt role r.count then with_parent r role None else r

-- the answers to a list of requests
unfoldable pub request_answers : Roles → List Request → List Answer
request_answers r requests = scan roles_after answer_to r requests

-- the roles after a list of requests
unfoldable pub final_roles : Roles → List Request → Roles
final_roles r requests = fold roles_after r requests

-- whether a set of permissions exists and has the permission as a member
abbrev pub has_permission : {X : Type 0} → (X → PlainSet) → Option X → ℕ → Bool
has_permission set None permission = false
has_permission set (Some x) permission =
    nat_lt permission (set x).capacity && (set x).has permission

-- the parent in an entry of a row, or None if there is no such entry
abbrev pub parent_in : Option (Option ℕ) → Option ℕ
parent_in None = None
parent_in (Some parent) = parent

-- the roles given by two rows: for each role, `granted` has a set of permissions, and `parents` has
-- a parent or None
abbrev pub roles_of : {X : Type 0} → ℕ → ℕ → (X → PlainSet) → List X → List (Option ℕ) → Roles
roles_of count permissions set granted parents = record {
  count = count;
  permissions = permissions;
  granted = λ role permission. has_permission set (slice_get granted role) permission;
  parent = λ role. parent_in (slice_get parents role);
}

-- the roles with no permission and no parent
abbrev pub bare_roles : ℕ → ℕ → Roles
bare_roles count permissions = record {
  count = count;
  permissions = permissions;
  granted = λ role permission. false;
  parent = λ role. None;
}
