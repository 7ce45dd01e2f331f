-- What a list of requests leaves: the permissions that were granted and kept, and the parents.
use Rattle.std.proofs.Common.{◌≡◌, ℕ, zero, suc, ◌+◌, ◌<◌, ◌↔◌, ◌⊎◌, Bool, true, false, cond, ◌&&◌}
use Rattle.std.proofs.Common.{◌==◌, nat_lt, Option, Some, None, List, [], ◌∷◌, inl, inr, refl, sym}
use Rattle.std.proofs.Common.{ap, ◌∙◌, arith}
use Rattle.std.proofs.lemmas.Bool.{cases_eq, eq-eqb, ne_eqb, and_right, true≢false}
use Rattle.std.proofs.lemmas.Option.{same_Some}
use Rattle.bit_roles.specs.Roles.{Roles, are_there, may_inherit, with_granted, with_parent}
use Rattle.bit_roles.specs.Roles.{answer_to, roles_after, request_answers, final_roles}
use Rattle.bit_roles.specs.RoleLaws.{IsDone, IsKeptFrom, parent_request, SetsNoParentFrom}
use Rattle.bit_roles.specs.declared.Request.{Request}
use Rattle.bit_roles.specs.declared.Request.TheVariants.{Grant, Revoke, Inherit, ClearParent}
use Rattle.bit_roles.specs.declared.Answer.{Answer}
use Rattle.bit_roles.specs.declared.Answer.TheVariants.{Done, Refused}
use Rattle.bit_roles.proofs.RoleLaws.{other_parents_keep, parent_now}

-- a permission of a role, over a list of requests
module _ (role permission : ℕ) where
  -- a request is the one named, and is done
  abbrev Does : Request → Answer → Request → Type 0
  Does request answer named = (request ≡ named) × (answer ≡ Done)

  -- what a request does to the permission: it grants it, takes it back, or leaves it as it was
  abbrev Outcome : Bool → Request → Answer → Bool → Type 0
  Outcome before request answer after =
      (Does request answer (Grant role permission) × (after ≡ true))
      ⊎ ((Does request answer (Revoke role permission) × (after ≡ false))
      ⊎ ((Does request answer (Grant role permission) → ⊥)
      × (Does request answer (Revoke role permission) → ⊥) × (after ≡ before)))

  -- the place where a grant or a revoke writes is that of the permission, or another place
  at_place : (k p : ℕ) → ((role ≡ k) × (permission ≡ p)
      × (((role == k) && (permission == p)) ≡ true))
      ⊎ (((role ≡ k) × (permission ≡ p) → ⊥) × (((role == k) && (permission == p)) ≡ false))
  at_place k p = by (cases_eq role k) (cases_eq permission p)
    where
      by : (role ≡ k) ⊎ (role ≡ k → ⊥) → (permission ≡ p) ⊎ (permission ≡ p → ⊥) →
          ((role ≡ k) × (permission ≡ p) × (((role == k) && (permission == p)) ≡ true))
          ⊎ (((role ≡ k) × (permission ≡ p) → ⊥)
          × (((role == k) && (permission == p)) ≡ false))
      by (inl same) (inl one) =
          let is = eq-eqb role k same in
          let it = eq-eqb permission p one in inl (same, one, rw (is, it) refl)
      by (inl same) (inr apart) = inr (
        λ both. apart both.1,
        and_right (role == k) (permission == p) (ne_eqb permission p apart),
      )
      by (inr apart) _ = inr (
        λ both. apart both.0,
        ap (λ b. b && (permission == p)) (ne_eqb role k apart),
      )

  outcome : (r : Roles) (request : Request) → Outcome (r.granted role permission) request
      (answer_to r request) ((roles_after r request).granted role permission)
  outcome r (Grant k p) = by (are_there r k p)
    where
      by : (b : Bool) → Outcome (r.granted role permission) (Grant k p) (cond b Done Refused)
          ((cond b (with_granted r k p true) r).granted role permission)
      by false = inr (inr (λ d. absurd (cc (d.1)), λ d. absurd (cc (d.1)), refl))
      by true = elim (at_place k p) [
        | inl here ↦ inl (
          (ap (λ i. Grant i p) (sym here.0) ∙ ap (Grant role) (sym here.1), refl),
          ap (λ b. cond b true (r.granted role permission)) here.2,
        )
        | inr apart ↦ inr (inr (
          λ d.
              let one : role ≡ k = cc (d.0) in
              let same : permission ≡ p = cc (d.0) in
              apart.0 (one, same),
          λ d. absurd (cc (d.0)),
          ap (λ b. cond b true (r.granted role permission)) apart.1,
        ))
      ]
  outcome r (Revoke k p) = by (are_there r k p)
    where
      by : (b : Bool) → Outcome (r.granted role permission) (Revoke k p) (cond b Done Refused)
          ((cond b (with_granted r k p false) r).granted role permission)
      by false = inr (inr (λ d. absurd (cc (d.1)), λ d. absurd (cc (d.1)), refl))
      by true = elim (at_place k p) [
        | inl here ↦ inr (inl (
          (ap (λ i. Revoke i p) (sym here.0) ∙ ap (Revoke role) (sym here.1), refl),
          ap (λ b. cond b false (r.granted role permission)) here.2,
        ))
        | inr apart ↦ inr (inr (
          λ d. absurd (cc (d.0)),
          λ d.
              let one : role ≡ k = cc (d.0) in
              let same : permission ≡ p = cc (d.0) in
              apart.0 (one, same),
          ap (λ b. cond b false (r.granted role permission)) apart.1,
        ))
      ]
  outcome r (Inherit k parent) = by (may_inherit r k parent)
    where
      by : (b : Bool) → Outcome (r.granted role permission) (Inherit k parent)
          (cond b Done Refused)
          ((cond b (with_parent r k (Some parent)) r).granted role permission)
      by true = inr (inr (λ d. absurd (cc (d.0)), λ d. absurd (cc (d.0)), refl))
      by false = inr (inr (λ d. absurd (cc (d.0)), λ d. absurd (cc (d.0)), refl))
  outcome r (ClearParent k) = by (nat_lt k r.count)
    where
      by : (b : Bool) → Outcome (r.granted role permission) (ClearParent k) (cond b Done Refused)
          ((cond b (with_parent r k None) r).granted role permission)
      by true = inr (inr (λ d. absurd (cc (d.0)), λ d. absurd (cc (d.0)), refl))
      by false = inr (inr (λ d. absurd (cc (d.0)), λ d. absurd (cc (d.0)), refl))

  -- no request of a list takes the permission back
  abbrev NoneTakes : Roles → List Request → Type 0
  NoneTakes r requests =
      (j : ℕ) → IsDone requests (request_answers r requests) (Revoke role permission) j → ⊥

  does : (request : Request) (answer : Answer) (named : Request) →
      (Some request ≡ Some named) × (Some answer ≡ Some Done) → Does request answer named
  does request answer named is =
      (same_Some request named is.0, same_Some answer Done is.1)

  -- a role keeps a permission to the end of a list in which no request takes it back
  kept_to_end : (r : Roles) (requests : List Request) → r.granted role permission ≡ true →
      NoneTakes r requests → (final_roles r requests).granted role permission ≡ true
  unfolding final_roles request_answers
  kept_to_end r [] has none = has
  kept_to_end r (request ∷ requests) has none =
      kept_to_end (roles_after r request) requests (by (outcome r request)) (λ j. none (suc j))
    where
      by : Outcome (r.granted role permission) request (answer_to r request)
          ((roles_after r request).granted role permission) →
          (roles_after r request).granted role permission ≡ true
      by (inl grants) = grants.1
      by (inr (inl takes)) = absurd (none 0 (ap Some takes.0.0, ap Some takes.0.1))
      by (inr (inr leaves)) = leaves.2 ∙ has

  -- a role has what a request grants it and no later request takes back
  kept_from : (r : Roles) (requests : List Request) (k : ℕ) →
      IsKeptFrom r requests role permission k →
      (final_roles r requests).granted role permission ≡ true
  unfolding final_roles request_answers
  kept_from r [] k from = absurd (cc (from.granted.0))
  kept_from r (request ∷ requests) zero from =
      kept_to_end (roles_after r request) requests (by (outcome r request))
      (λ j. from.not_revoked (suc j) (omega arith))
    where
      granted : Does request (answer_to r request) (Grant role permission)
      granted = does request (answer_to r request) (Grant role permission) from.granted

      by : Outcome (r.granted role permission) request (answer_to r request)
          ((roles_after r request).granted role permission) →
          (roles_after r request).granted role permission ≡ true
      by (inl grants) = grants.1
      by (inr (inl takes)) =
          let both : Grant role permission ≡ Revoke role permission =
          sym granted.0 ∙ takes.0.0 in absurd (cc)
      by (inr (inr leaves)) = absurd (leaves.0 granted)
  kept_from r (request ∷ requests) (suc k) from =
      kept_from (roles_after r request) requests k (record {
        granted = from.granted;
        not_revoked = λ j h. from.not_revoked (suc j) (omega (arith, h));
      })

  -- what a role has at the end it had at first or was granted, and no request took it back since
  had_or_granted : (r : Roles) (requests : List Request) →
      (final_roles r requests).granted role permission ≡ true →
      ((r.granted role permission ≡ true) × NoneTakes r requests)
      ⊎ ((k : ℕ) × IsKeptFrom r requests role permission k)
  unfolding final_roles request_answers
  had_or_granted r [] has = inl (has, λ j no. absurd (cc (no.0)))
  had_or_granted r (request ∷ requests) has =
      by (had_or_granted (roles_after r request) requests has) (outcome r request)
    where
      later : (k : ℕ) → ((j : ℕ) → k < j → IsDone requests
          (request_answers (roles_after r request) requests) (Revoke role permission) j → ⊥) →
          (j : ℕ) → suc k < j → IsDone (request ∷ requests)
          (request_answers r (request ∷ requests)) (Revoke role permission) j → ⊥
      later k none zero h _ = absurd (omega (arith, h))
      later k none (suc j) h is = none j (omega (arith, h)) is

      past : NoneTakes (roles_after r request) requests → (j : ℕ) → 0 < j →
          IsDone (request ∷ requests) (request_answers r (request ∷ requests))
          (Revoke role permission) j → ⊥
      past none zero h _ = absurd (omega (arith, h))
      past none (suc j) h is = none j is

      none_yet : (Does request (answer_to r request) (Revoke role permission) → ⊥) →
          NoneTakes (roles_after r request) requests → NoneTakes r (request ∷ requests)
      none_yet leaves none zero is =
          leaves (does request (answer_to r request) (Revoke role permission) is)
      none_yet leaves none (suc j) is = none j is

      by : (((roles_after r request).granted role permission ≡ true)
          × NoneTakes (roles_after r request) requests)
          ⊎ ((k : ℕ) × IsKeptFrom (roles_after r request) requests role permission k) →
          Outcome (r.granted role permission) request (answer_to r request)
          ((roles_after r request).granted role permission) →
          ((r.granted role permission ≡ true) × NoneTakes r (request ∷ requests))
          ⊎ ((k : ℕ) × IsKeptFrom r (request ∷ requests) role permission k)
      by (inr (k, from)) _ = inr (
        suc k,
        record { granted = from.granted; not_revoked = later k from.not_revoked },
      )
      by (inl now) (inl grants) = inr (
        zero,
        record {
          granted = (ap Some grants.0.0, ap Some grants.0.1);
          not_revoked = past now.1;
        },
      )
      by (inl now) (inr (inl takes)) = absurd (true≢false (sym now.0 ∙ takes.1))
      by (inl now) (inr (inr leaves)) =
          inl (sym leaves.2 ∙ now.0, none_yet leaves.1 now.1)

-- the permissions of a role after a list of requests, as `GrantsAreThoseKept` states
pub kept_iff : (r : Roles) (requests : List Request) (role permission : ℕ) →
    ((final_roles r requests).granted role permission ≡ true)
    ↔ (((r.granted role permission ≡ true)
    × ((j : ℕ) → IsDone requests (request_answers r requests) (Revoke role permission) j → ⊥))
    ⊎ ((k : ℕ) × IsKeptFrom r requests role permission k))
kept_iff r requests role permission = (had_or_granted role permission r requests, from)
  where
    from : ((r.granted role permission ≡ true) × NoneTakes role permission r requests)
        ⊎ ((k : ℕ) × IsKeptFrom r requests role permission k) →
        (final_roles r requests).granted role permission ≡ true
    from (inl had) = kept_to_end role permission r requests had.0 had.1
    from (inr given) = kept_from role permission r requests given.0 given.1

-- a request that neither gives a role a parent nor takes it away leaves the role's parent
one_kept : (r : Roles) (request : Request) (role : ℕ) →
    ((parent : Option ℕ) → (Some request ≡ Some (parent_request role parent))
    × (Some (answer_to r request) ≡ Some Done) → ⊥) →
    (roles_after r request).parent role ≡ r.parent role
one_kept r (Grant other permission) role none = by (are_there r other permission)
  where
    by : (b : Bool) →
        (cond b (with_granted r other permission true) r).parent role ≡ r.parent role
    by true = refl
    by false = refl
one_kept r (Revoke other permission) role none = by (are_there r other permission)
  where
    by : (b : Bool) →
        (cond b (with_granted r other permission false) r).parent role ≡ r.parent role
    by true = refl
    by false = refl
one_kept r (Inherit other parent) role none = elim (cases_eq role other) [
  | inl same ↦ by same (may_inherit r other parent) refl
  | inr apart ↦
      other_parents_keep r (may_inherit r other parent) other (Some parent) role apart
]
  where
    by : role ≡ other → (b : Bool) → may_inherit r other parent ≡ b →
        (cond b (with_parent r other (Some parent)) r).parent role ≡ r.parent role
    by same true e = absurd (none (Some parent) (
      ap (λ k. Some (Inherit k parent)) (sym same),
      ap (λ b. Some (cond b Done Refused)) e,
    ))
    by same false e = refl
one_kept r (ClearParent other) role none = elim (cases_eq role other) [
  | inl same ↦ by same (nat_lt other r.count) refl
  | inr apart ↦ other_parents_keep r (nat_lt other r.count) other None role apart
]
  where
    by : role ≡ other → (b : Bool) → nat_lt other r.count ≡ b →
        (cond b (with_parent r other None) r).parent role ≡ r.parent role
    by same true e = absurd (none None (
      ap (λ k. Some (ClearParent k)) (sym same),
      ap (λ b. Some (cond b Done Refused)) e,
    ))
    by same false e = refl

-- a role keeps its parent over a list that gives it none and does not take its parent away
pub parent_kept : (r : Roles) (requests : List Request) (role : ℕ) →
    SetsNoParentFrom requests (request_answers r requests) role 0 →
    (final_roles r requests).parent role ≡ r.parent role
unfolding final_roles request_answers
parent_kept r [] role none = refl
parent_kept r (request ∷ requests) role none =
    parent_kept (roles_after r request) requests role
    (λ j p _ given. none (suc j) p (omega arith) given)
    ∙ one_kept r request role (λ p given. none 0 p (omega arith) given)

-- a request that is answered by Done gives the role its parent, or takes its parent away
one_given : (r : Roles) (request : Request) (role : ℕ) (parent : Option ℕ) →
    request ≡ parent_request role parent → answer_to r request ≡ Done →
    (roles_after r request).parent role ≡ parent
one_given r request role None is done =
    ap (λ q. (roles_after r q).parent role) is
    ∙ parent_now r (nat_lt role r.count) role None (sym (ap (answer_to r) is) ∙ done)
one_given r request role (Some parent) is done =
    ap (λ q. (roles_after r q).parent role) is
    ∙ parent_now r (may_inherit r role parent) role (Some parent)
    (sym (ap (answer_to r) is) ∙ done)

-- the parent of a role is the one that it was given last, or none if it was taken away since
pub last_given : (r : Roles) (requests : List Request) (role : ℕ) (parent : Option ℕ) (i : ℕ) →
    IsDone requests (request_answers r requests) (parent_request role parent) i →
    SetsNoParentFrom requests (request_answers r requests) role (i + 1) →
    (final_roles r requests).parent role ≡ parent
unfolding final_roles request_answers
last_given r [] role parent i given none = absurd (cc (given.0))
last_given r (request ∷ requests) role parent zero given none =
    parent_kept (roles_after r request) requests role
    (λ j p _ later. none (suc j) p (omega arith) later)
    ∙ one_given r request role parent
    (same_Some request (parent_request role parent) given.0)
    (same_Some (answer_to r request) Done given.1)
last_given r (request ∷ requests) role parent (suc i) given none =
    last_given (roles_after r request) requests role parent i given
    (λ j p h later. none (suc j) p (omega (arith, h)) later)
