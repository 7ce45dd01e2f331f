-- Laws of the role machine, for all requests.
use Rattle.std.specs.Prelude.{◌≡◌, ℕ, suc, ◌+◌, ◌<◌, ◌≤◌, ◌↔◌, ◌⊎◌, true, Option, Some, None, List}
use Rattle.std.specs.Prelude.{slice_get}
use Rattle.bit_roles.specs.Roles.{Roles, ancestor, LeadsTo, Allows, AllowsUpTo, HasLesserParents}
use Rattle.bit_roles.specs.Roles.{answer_to, roles_after, request_answers, final_roles, bare_roles}
use Rattle.bit_roles.specs.declared.Request.{Request}
use Rattle.bit_roles.specs.declared.Request.TheVariants.{Grant, Revoke, Inherit, ClearParent}
use Rattle.bit_roles.specs.declared.Answer.{Answer}
use Rattle.bit_roles.specs.declared.Answer.TheVariants.{Done, Refused}

-- there is the role of the request, and a `Grant` or `Revoke` names a permission that exists, an
-- `Inherit` a parent that is less than the role
abbrev pub IsPossible : Roles → Request → Type 0
IsPossible r (Grant role permission) = (role < r.count) × (permission < r.permissions)
IsPossible r (Revoke role permission) = (role < r.count) × (permission < r.permissions)
IsPossible r (Inherit role parent) = (role < r.count) × (parent < role)
IsPossible r (ClearParent role) = role < r.count

-- a request is answered by Done exactly if it is possible
abbrev pub DoneExactlyIfPossible : Type 0
DoneExactlyIfPossible =
    (r : Roles) (request : Request) → (answer_to r request ≡ Done) ↔ IsPossible r request

-- a request that is refused changes nothing
abbrev pub RefusedChangesNothing : Type 0
RefusedChangesNothing =
    (r : Roles) (request : Request) → answer_to r request ≡ Refused → roles_after r request ≡ r

-- requests keep how many roles and permissions there are
abbrev pub NumbersStay : Type 0
NumbersStay =
    (r : Roles) (requests : List Request)
    → ((final_roles r requests).count ≡ r.count)
    × ((final_roles r requests).permissions ≡ r.permissions)

-- a role allows just the permissions that it was granted and those that its parent allows
abbrev pub AllowsOwnAndParents : Type 0
AllowsOwnAndParents =
    (r : Roles) (role permission : ℕ)
    → Allows r role permission
    ↔ ((r.granted role permission ≡ true)
    ⊎ ((parent : ℕ) × (r.parent role ≡ Some parent) × Allows r parent permission))

-- request i of a list is the one named, and its answer is Done
abbrev pub IsDone : List Request → List Answer → Request → ℕ → Type 0
IsDone requests answers request i =
    (slice_get requests i ≡ Some request) × (slice_get answers i ≡ Some Done)

-- request k of a list grants the role the permission, and no later request takes it back
pub record IsKeptFrom (r : Roles) (requests : List Request) (role permission k : ℕ) : Type 0 where
  pub granted : IsDone requests (request_answers r requests) (Grant role permission) k
  pub not_revoked : (j : ℕ) → k < j
      → IsDone requests (request_answers r requests) (Revoke role permission) j
      → ⊥

-- after a list of requests a role has a permission exactly if it was granted the permission before
-- the list and no request takes it back, or a request grants it and no later request takes it back
abbrev pub GrantsAreThoseKept : Type 0
GrantsAreThoseKept =
    (r : Roles) (requests : List Request) (role permission : ℕ)
    → ((final_roles r requests).granted role permission ≡ true)
    ↔ (((r.granted role permission ≡ true)
    × ((j : ℕ) → IsDone requests (request_answers r requests) (Revoke role permission) j → ⊥))
    ⊎ ((k : ℕ) × IsKeptFrom r requests role permission k))

-- a role that allows a permission still allows it after any grant
abbrev pub GrantingTakesNothingAway : Type 0
GrantingTakesNothingAway =
    (r : Roles) (role permission other allowed : ℕ)
    → Allows r other allowed
    → Allows (roles_after r (Grant role permission)) other allowed

-- roles with no permission and no parent allow nothing
abbrev pub NothingIsAllowedAtFirst : Type 0
NothingIsAllowedAtFirst =
    (count permissions role permission : ℕ)
    → Allows (bare_roles count permissions) role permission
    → ⊥

-- a grant that is done gives its permission to its role and to those that a chain of parents leads
-- to it from, and gives and takes nothing else
abbrev pub GrantsGiveJustTheirPermission : Type 0
GrantsGiveJustTheirPermission =
    (r : Roles) (role permission other allowed : ℕ)
    → answer_to r (Grant role permission) ≡ Done
    → Allows (roles_after r (Grant role permission)) other allowed
    ↔ (Allows r other allowed ⊎ ((allowed ≡ permission) × LeadsTo r other role))

-- after a `Revoke` that is done each role allows what it or a role of its chain of parents holds,
-- other than the permission that was taken from the role of the `Revoke` itself
abbrev pub RevokesTakeJustTheirPermission : Type 0
RevokesTakeJustTheirPermission =
    (r : Roles) (role permission other allowed : ℕ)
    → answer_to r (Revoke role permission) ≡ Done
    → Allows (roles_after r (Revoke role permission)) other allowed
    ↔ ((holder : ℕ) × LeadsTo r other holder × (r.granted holder allowed ≡ true)
    × ((holder ≡ role) × (allowed ≡ permission) → ⊥))

-- if each parent has a lesser number than its role, a role that was just given a parent allows what
-- it was granted and what the parent allowed before
abbrev pub InheritsWhatTheParentAllowed : Type 0
InheritsWhatTheParentAllowed =
    (r : Roles) (role parent allowed : ℕ)
    → HasLesserParents r
    → answer_to r (Inherit role parent) ≡ Done
    → Allows (roles_after r (Inherit role parent)) role allowed
    ↔ ((r.granted role allowed ≡ true) ⊎ Allows r parent allowed)

-- if each parent has a lesser number than its role, after an `Inherit` that is done each role
-- allows what it allowed before by a chain of parents that does not go past the role that inherits,
-- and, if its chain leads there, what the new parent allowed before
abbrev pub InheritsReplaceWhatWasInherited : Type 0
InheritsReplaceWhatWasInherited =
    (r : Roles) (role parent other allowed : ℕ)
    → HasLesserParents r
    → answer_to r (Inherit role parent) ≡ Done
    → Allows (roles_after r (Inherit role parent)) other allowed
    ↔ (AllowsUpTo r role other allowed ⊎ (LeadsTo r other role × Allows r parent allowed))

-- if each parent has a lesser number than its role, an `Inherit` gives a role only what the new
-- parent allowed before, and takes from a role only what the role that inherits allowed before; and
-- it does so only if a chain of parents leads from the one role to the other
abbrev pub InheritsChangeOnlyWhatIsInherited : Type 0
InheritsChangeOnlyWhatIsInherited =
    (r : Roles) (role parent other allowed : ℕ)
    → HasLesserParents r
    → let after = roles_after r (Inherit role parent) in
    (Allows after other allowed
    → Allows r other allowed ⊎ (LeadsTo r other role × Allows r parent allowed))
    × (Allows r other allowed
    → Allows after other allowed ⊎ (LeadsTo r other role × Allows r role allowed))

-- a new parent of a role changes nothing for a role that no chain of parents leads to it from
abbrev pub InheritingChangesOnlyDescendants : Type 0
InheritingChangesOnlyDescendants =
    (r : Roles) (role parent other allowed : ℕ)
    → (LeadsTo r other role → ⊥)
    → Allows (roles_after r (Inherit role parent)) other allowed ↔ Allows r other allowed

-- after a `ClearParent` that is done each role allows just what it allowed before by a chain of
-- parents that does not go past the role that lost its parent
abbrev pub ClearingAParentTakesWhatWasInherited : Type 0
ClearingAParentTakesWhatWasInherited =
    (r : Roles) (role other allowed : ℕ)
    → answer_to r (ClearParent role) ≡ Done
    → Allows (roles_after r (ClearParent role)) other allowed ↔ AllowsUpTo r role other allowed

-- the request that gives the role this parent, or takes its parent away (None)
abbrev pub parent_request : ℕ → Option ℕ → Request
parent_request role None = ClearParent role
parent_request role (Some parent) = Inherit role parent

-- no request from number `from` on gives the role a parent or takes its parent away
abbrev pub SetsNoParentFrom : List Request → List Answer → ℕ → ℕ → Type 0
SetsNoParentFrom requests answers role from =
    (i : ℕ) (parent : Option ℕ) → from ≤ i
    → IsDone requests answers (parent_request role parent) i
    → ⊥

-- after a list of requests a role has the parent that the list gave it last, or none if the list
-- took its parent away since
abbrev pub ParentsAreThoseLastGiven : Type 0
ParentsAreThoseLastGiven =
    (r : Roles) (requests : List Request) (role : ℕ) (parent : Option ℕ) (i : ℕ)
    → IsDone requests (request_answers r requests) (parent_request role parent) i
    → SetsNoParentFrom requests (request_answers r requests) role (i + 1)
    → (final_roles r requests).parent role ≡ parent

-- a role that a list of requests neither gives a parent nor takes its parent from has the parent
-- that it had before the list
abbrev pub ParentsStayIfNoneIsGiven : Type 0
ParentsStayIfNoneIsGiven =
    (r : Roles) (requests : List Request) (role : ℕ)
    → SetsNoParentFrom requests (request_answers r requests) role 0
    → (final_roles r requests).parent role ≡ r.parent role

-- if each parent has a lesser number than its role, this stays so after any requests
abbrev pub ParentsStayLesser : Type 0
ParentsStayLesser =
    (r : Roles) (requests : List Request)
    → HasLesserParents r
    → HasLesserParents (final_roles r requests)

-- if each parent has a lesser number than its role, no chain of parents leads back to the role at
-- which it began
abbrev pub NoChainComesBack : Type 0
NoChainComesBack =
    (r : Roles) (role n : ℕ)
    → HasLesserParents r
    → ancestor r role (suc n) ≡ Some role
    → ⊥
