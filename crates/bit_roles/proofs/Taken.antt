-- What roles allow after a permission or a parent was taken from one of them.
use Rattle.std.proofs.Common.{◌≡◌, ℕ, ◌<◌, ◌↔◌, Bool, true, false, cond, ◌&&◌, ◌==◌, nat_lt, Some}
use Rattle.std.proofs.Common.{None, inl, inr, refl, sym, ap, subst, ◌∙◌, arith}
use Rattle.std.proofs.lemmas.Bool.{cases_eq, eq-eqb, ne_eqb, and_from, and_right, true≢false}
use Rattle.bit_roles.specs.Roles.{Roles, ancestor, LeadsTo, Allows, AllowsUpTo, HasLesserParents}
use Rattle.bit_roles.specs.Roles.{are_there, with_granted, with_parent, answer_to, roles_after}
use Rattle.bit_roles.specs.declared.Request.TheVariants.{Revoke, ClearParent}
use Rattle.bit_roles.specs.declared.Answer.{Answer}
use Rattle.bit_roles.specs.declared.Answer.TheVariants.{Done, Refused}
use Rattle.bit_roles.proofs.RoleLaws.{allows_granted, allows_up, allows_by_parent, chain_goes_down}
use Rattle.bit_roles.proofs.RoleLaws.{same_chain, changed, now_granted, chain_up_to, first_place}
use Rattle.bit_roles.proofs.RoleLaws.{later_place, up_to_stays, parent_now, done_exactly}
use Rattle.bit_roles.proofs.RoleLaws.{refused_keeps}

-- what is true after a test that may make it false was not tested, and was true before
not_taken : (a b : Bool) → cond a false b ≡ true → (a ≡ false) × (b ≡ true)
not_taken true b e = absurd (cc)
not_taken false b e = (refl, e)

-- two pairs of numbers that are not both the same
not_both : (k role p permission : ℕ) → ((k ≡ role) × (p ≡ permission) → ⊥) →
    ((k == role) && (p == permission)) ≡ false
not_both k role p permission apart = elim (cases_eq k role) [
  | inl same ↦ and_right (k == role) (p == permission)
      (ne_eqb p permission (λ e. apart (same, e)))
  | inr differs ↦ ap (λ b. b && (p == permission)) (ne_eqb k role differs)
]

-- a permission that a role of the chain holds, and that was not taken from this role, is still
-- allowed after a revoke
pub still_held : (r : Roles) (role permission other allowed n holder : ℕ) →
    ancestor r other n ≡ Some holder → r.granted holder allowed ≡ true →
    ((holder ≡ role) × (allowed ≡ permission) → ⊥) →
    Allows (changed r role permission false) other allowed
unfolding Allows
still_held r role permission other allowed n holder is has apart =
    by (are_there r role permission)
  where
    by : (b : Bool) → Allows (cond b (with_granted r role permission false) r) other allowed
    by true = (
      n,
      holder,
      same_chain r role permission false other n ∙ is,
      ap (λ b. cond b false (r.granted holder allowed))
          (not_both holder role allowed permission apart) ∙ has,
    )
    by false = (n, holder, is, has)

-- what each role allows after a revoke, as `RevokesTakeJustTheirPermission` states
pub revoke_takes : (r : Roles) (role permission other allowed : ℕ) →
    answer_to r (Revoke role permission) ≡ Done →
    Allows (roles_after r (Revoke role permission)) other allowed
    ↔ ((holder : ℕ) × LeadsTo r other holder × (r.granted holder allowed ≡ true)
    × ((holder ≡ role) × (allowed ≡ permission) → ⊥))
unfolding Allows LeadsTo
revoke_takes r role permission other allowed done = (
  by (are_there r role permission) done,
  λ h. still_held r role permission other allowed h.1.0 h.0 h.1.1 h.2 h.3,
)
  where
    by : (b : Bool) → cond b Done Refused ≡ Done →
        Allows (cond b (with_granted r role permission false) r) other allowed →
        (holder : ℕ) × LeadsTo r other holder × (r.granted holder allowed ≡ true)
        × ((holder ≡ role) × (allowed ≡ permission) → ⊥)
    by false e a = absurd (cc)
    by true e a =
        let left = not_taken ((a.1 == role) && (allowed == permission)) (r.granted a.1 allowed)
        a.3 in (
          a.1,
          (a.0, sym (same_chain r role permission false other a.0) ∙ a.2),
          left.1,
          λ both. true≢false (sym (and_from (a.1 == role) (allowed == permission)
              (eq-eqb a.1 role both.0) (eq-eqb allowed permission both.1)) ∙ left.0),
        )

-- after a revoke no role allows more than before
pub none_gains : (r : Roles) (role permission other allowed : ℕ) →
    Allows (roles_after r (Revoke role permission)) other allowed → Allows r other allowed
unfolding Allows
none_gains r role permission other allowed = by (are_there r role permission)
  where
    by : (b : Bool) → Allows (cond b (with_granted r role permission false) r) other allowed →
        Allows r other allowed
    by true a = (
      a.0,
      a.1,
      sym (same_chain r role permission false other a.0) ∙ a.2,
      (not_taken ((a.1 == role) && (allowed == permission)) (r.granted a.1 allowed) a.3).1,
    )
    by false a = a

-- a revoke changes nothing for a role from which no chain of parents leads to its role
pub others_keep : (r : Roles) (role permission other allowed : ℕ) →
    (LeadsTo r other role → ⊥) →
    Allows (roles_after r (Revoke role permission)) other allowed ↔ Allows r other allowed
unfolding Allows LeadsTo
others_keep r role permission other allowed apart = (
  none_gains r role permission other allowed,
  λ a. still_held r role permission other allowed a.0 a.1 a.2 a.3
      (λ both. apart (a.0, a.2 ∙ ap Some both.0)),
)

-- after a revoke that is done, its role allows the permission exactly if it has a parent that does
pub still_inherited : (r : Roles) (role permission : ℕ) → HasLesserParents r → role < r.count →
    permission < r.permissions →
    Allows (roles_after r (Revoke role permission)) role permission
    ↔ ((parent : ℕ) × (r.parent role ≡ Some parent) × Allows r parent permission)
unfolding LeadsTo
still_inherited r role permission lesser h l =
    let after : Roles = roles_after r (Revoke role permission) in (
      λ a. elim ((allows_by_parent after role permission).0 a) [
        | inl own ↦
            absurd (true≢false (sym own ∙ now_granted r role permission false h l))
        | inr up ↦ (
          up.0,
          sym (same_parent (are_there r role permission)) ∙ up.1,
          none_gains r role permission up.0 permission up.2,
        )
      ],
      λ up. allows_up after role up.0 permission
          (same_parent (are_there r role permission) ∙ up.1)
          ((others_keep r role permission up.0 permission (λ leads. omega (
            arith,
            lesser role up.0 up.1,
            chain_goes_down r up.0 leads.0 role lesser leads.1,
          ))).1 up.2),
    )
  where
    same_parent : (b : Bool) →
        (cond b (with_granted r role permission false) r).parent role ≡ r.parent role
    same_parent true = refl
    same_parent false = refl

-- what each role allows after it or another role lost its parent, as
-- `ClearingAParentTakesWhatWasInherited` states
pub clear_takes : (r : Roles) (role other allowed : ℕ) → answer_to r (ClearParent role) ≡ Done →
    Allows (roles_after r (ClearParent role)) other allowed ↔ AllowsUpTo r role other allowed
unfolding Allows
clear_takes r role other allowed = by (nat_lt role r.count)
  where
    after : Roles
    after = with_parent r role None

    orphan : Allows after role allowed → r.granted role allowed ≡ true
    orphan a = elim ((allows_by_parent after role allowed).0 a) [
      | inl own ↦ own
      | inr up ↦
          let none : after.parent role ≡ None = parent_now r true role None refl in
          let no = sym none ∙ up.1 in absurd (cc)
    ]

    by : (b : Bool) → cond b Done Refused ≡ Done →
        Allows (cond b (with_parent r role None) r) other allowed
        ↔ AllowsUpTo r role other allowed
    by false e = absurd (cc)
    by true e = (
      λ a. elim (first_place r role other a.0) [
        | inr none ↦
            (a.0, a.1, sym (chain_up_to r role None other a.0 none) ∙ a.2, a.3, none)
        | inl found ↦
            let there : ancestor after other found.0 ≡ Some role =
            chain_up_to r role None other found.0 found.3 ∙ found.2 in
            let past = later_place after other role found.0 a.0 there
            (omega (arith, found.1)) in
            (found.0, role, found.2, orphan (past.0, a.1, sym past.1 ∙ a.2, a.3), found.3)
      ],
      λ a. up_to_stays r role None other allowed a,
    )

-- a role that lost its parent allows just what it was granted
pub clear_leaves_own : (r : Roles) (role allowed : ℕ) → role < r.count →
    Allows (roles_after r (ClearParent role)) role allowed ↔ (r.granted role allowed ≡ true)
clear_leaves_own r role allowed h =
    let after : Roles = roles_after r (ClearParent role) in
    let done = (done_exactly r (ClearParent role)).1 h in
    let none : after.parent role ≡ None = parent_now r (nat_lt role r.count) role None done in
    let own : after.granted role allowed ≡ r.granted role allowed =
    same_granted (nat_lt role r.count) in (
      λ a. elim ((allows_by_parent after role allowed).0 a) [
        | inl is ↦ sym own ∙ is
        | inr up ↦ let no = sym none ∙ up.1 in absurd (cc)
      ],
      λ is. allows_granted after role allowed (own ∙ is),
    )
  where
    same_granted : (b : Bool) →
        (cond b (with_parent r role None) r).granted role allowed ≡ r.granted role allowed
    same_granted true = refl
    same_granted false = refl

-- after a role lost its parent no role allows more than before
pub none_gains_by_clearing : (r : Roles) (role other allowed : ℕ) →
    Allows (roles_after r (ClearParent role)) other allowed → Allows r other allowed
unfolding Allows
none_gains_by_clearing r role other allowed a = by (answer_to r (ClearParent role)) refl
  where
    by : (answer : Answer) → answer_to r (ClearParent role) ≡ answer → Allows r other allowed
    by Done is = let up_to = (clear_takes r role other allowed is).0 a in
        (up_to.0, up_to.1, up_to.2, up_to.3)
    by Refused is =
        subst (λ q. Allows q other allowed) (refused_keeps r (ClearParent role) is) a
