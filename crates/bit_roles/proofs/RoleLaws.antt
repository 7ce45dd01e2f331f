-- What follows from the role machine.
use Rattle.std.proofs.Common.{◌≡◌, ℕ, zero, suc, ◌+◌, ◌<◌, ◌≤◌, ◌↔◌, ◌⊎◌, Bool, true, false, cond}
use Rattle.std.proofs.Common.{◌&&◌, ◌==◌, nat_lt, Option, Some, None, List, [], ◌∷◌, inl, inr, refl}
use Rattle.std.proofs.Common.{sym, ap, subst, ◌∙◌, arith}
use Rattle.std.proofs.lemmas.Bool.{cases_eq, cases_lt, lt-ltb, ltb-true, eq-eqb, eqb-true, ne_eqb}
use Rattle.std.proofs.lemmas.Bool.{and_from, and_parts, and_right}
use Rattle.std.proofs.lemmas.Option.{same_Some}
use Rattle.bit_roles.specs.Roles.{Roles, parent_of, ancestor, LeadsTo, Allows, AllowsUpTo}
use Rattle.bit_roles.specs.Roles.{HasLesserParents, are_there, may_inherit, with_granted}
use Rattle.bit_roles.specs.Roles.{with_parent, answer_to, roles_after, final_roles, bare_roles}
use Rattle.bit_roles.specs.RoleLaws.{IsPossible}
use Rattle.bit_roles.specs.declared.Request.{Request}
use Rattle.bit_roles.specs.declared.Request.TheVariants.{Grant, Revoke, Inherit, ClearParent}
use Rattle.bit_roles.specs.declared.Answer.{Answer}
use Rattle.bit_roles.specs.declared.Answer.TheVariants.{Done, Refused}

-- what holds of two roles holds of the one that a test chooses
in_both : (P : Roles → Type 0) (b : Bool) (s t : Roles) → P s → P t → P (cond b s t)
in_both P true s t one two = one
in_both P false s t one two = two

-- the roles after a `Grant` (`has` is true) or a `Revoke` (false) of a permission
abbrev pub changed : Roles → ℕ → ℕ → Bool → Roles
changed r role permission has =
    cond (are_there r role permission) (with_granted r role permission has) r

-- the role that n + 1 parents lead to from a role is the one that n parents lead to from its parent
ancestor_up : (r : Roles) (role parent n : ℕ) → r.parent role ≡ Some parent →
    ancestor r role (suc n) ≡ ancestor r parent n
unfolding ancestor
ancestor_up r role parent zero e = e
ancestor_up r role parent (suc n) e = ap (parent_of r) (ancestor_up r role parent n e)

-- a role without a parent has no ancestor but itself
ancestor_none : (r : Roles) (role n : ℕ) → r.parent role ≡ None → ancestor r role (suc n) ≡ None
unfolding ancestor
ancestor_none r role zero e = e
ancestor_none r role (suc n) e = ap (parent_of r) (ancestor_none r role n e)

-- a role allows what it was granted
pub allows_granted : (r : Roles) (role permission : ℕ) → r.granted role permission ≡ true →
    Allows r role permission
unfolding ancestor Allows
allows_granted r role permission e = (zero, role, refl, e)

-- a role allows what its parent allows
pub allows_up : (r : Roles) (role parent permission : ℕ) → r.parent role ≡ Some parent →
    Allows r parent permission → Allows r role permission
unfolding Allows
allows_up r role parent permission e a =
    (suc a.0, a.1, ancestor_up r role parent a.0 e ∙ a.2, a.3)

-- if a role allows a permission that it was not granted, its parent allows the permission
pub allows_down : (r : Roles) (role parent permission : ℕ) → r.parent role ≡ Some parent →
    r.granted role permission ≡ false → Allows r role permission → Allows r parent permission
unfolding ancestor Allows
allows_down r role parent permission e none (zero, other, is, granted) =
    let same : role ≡ other = cc in
    absurd (cc)
allows_down r role parent permission e none (suc n, other, is, granted) =
    (n, other, sym (ancestor_up r role parent n e) ∙ is, granted)

-- without a parent a role allows just what it was granted
pub allows_nothing : (r : Roles) (role permission : ℕ) → r.parent role ≡ None →
    r.granted role permission ≡ false → Allows r role permission → ⊥
unfolding ancestor Allows
allows_nothing r role permission e none (zero, other, is, granted) =
    let same : role ≡ other = cc in
    cc
allows_nothing r role permission e none (suc n, other, is, granted) =
    let gone = ancestor_none r role n e in cc

-- along a chain of parents the numbers of the roles decrease
pub chain_goes_down : (r : Roles) (role n other : ℕ) → HasLesserParents r →
    ancestor r role n ≡ Some other → other + n ≤ role
unfolding ancestor
chain_goes_down r role zero other lesser e = let same : role ≡ other = cc in omega (arith, same)
chain_goes_down r role (suc n) other lesser e =
    by (ancestor r role n) (λ k is. chain_goes_down r role n k lesser is) e
  where
    by : (o : Option ℕ) → ((k : ℕ) → o ≡ Some k → k + n ≤ role) → parent_of r o ≡ Some other →
        other + suc n ≤ role
    by None below up = absurd (cc)
    by (Some k) below up = omega (arith, lesser k other up, below k refl)

-- no chain of parents comes back to its first role
pub no_way_back : (r : Roles) (role n : ℕ) → HasLesserParents r →
    ancestor r role (suc n) ≡ Some role → ⊥
no_way_back r role n lesser e = omega (arith, chain_goes_down r role (suc n) role lesser e)

-- after a role is given a parent with a lesser number or none, each parent still has a lesser
-- number than its role
pub parent_stays_lesser : (r : Roles) (role : ℕ) (parent : Option ℕ) →
    ((p : ℕ) → parent ≡ Some p → p < role) → HasLesserParents r →
    HasLesserParents (with_parent r role parent)
parent_stays_lesser r role parent below lesser k p e = elim (cases_eq k role) [
  | inl same ↦
      let is : parent ≡ Some p =
      ap (λ b. cond b parent (r.parent k)) (sym (eq-eqb k role same)) ∙ e in
      omega (arith, below p is, same)
  | inr apart ↦ lesser k p
      (ap (λ b. cond b parent (r.parent k)) (sym (ne_eqb k role apart)) ∙ e)
]

one_stays_lesser : (r : Roles) (request : Request) → HasLesserParents r →
    HasLesserParents (roles_after r request)
one_stays_lesser r (Grant role permission) lesser =
    in_both HasLesserParents (are_there r role permission) (with_granted r role permission true) r
    lesser lesser
one_stays_lesser r (Revoke role permission) lesser =
    in_both HasLesserParents (are_there r role permission) (with_granted r role permission false) r
    lesser lesser
one_stays_lesser r (Inherit role parent) lesser = by (may_inherit r role parent) refl
  where
    by : (b : Bool) → may_inherit r role parent ≡ b →
        HasLesserParents (cond b (with_parent r role (Some parent)) r)
    by true e =
        let below = ltb-true parent role (and_parts (nat_lt role r.count) (nat_lt parent role) e).1
        in parent_stays_lesser r role (Some parent)
        (λ p is. omega (arith, below, same_Some parent p is)) lesser
    by false e = lesser
one_stays_lesser r (ClearParent role) lesser =
    in_both HasLesserParents (nat_lt role r.count) (with_parent r role None) r
    (parent_stays_lesser r role None (λ p is. absurd (cc)) lesser) lesser

pub stay_lesser : (r : Roles) (requests : List Request) → HasLesserParents r →
    HasLesserParents (final_roles r requests)
unfolding final_roles
stay_lesser r [] lesser = lesser
stay_lesser r (request ∷ requests) lesser =
    stay_lesser (roles_after r request) requests (one_stays_lesser r request lesser)

-- a grant or a revoke changes no chain of parents
pub same_chain : (r : Roles) (role permission : ℕ) (has : Bool) (other n : ℕ) →
    ancestor (with_granted r role permission has) other n ≡ ancestor r other n
unfolding ancestor
same_chain r role permission has other zero = refl
same_chain r role permission has other (suc n) =
    ap (parent_of r) (same_chain r role permission has other n)

still_true : (a b : Bool) → b ≡ true → cond a true b ≡ true
still_true true b e = refl
still_true false b e = e

-- what is allowed is still allowed after a grant
pub stays_allowed : (r : Roles) (role permission other allowed : ℕ) → Allows r other allowed →
    Allows (roles_after r (Grant role permission)) other allowed
unfolding Allows
stays_allowed r role permission other allowed a = by (are_there r role permission)
  where
    by : (b : Bool) → Allows (cond b (with_granted r role permission true) r) other allowed
    by true = (
      a.0,
      a.1,
      same_chain r role permission true other a.0 ∙ a.2,
      still_true ((a.1 == role) && (allowed == permission)) (r.granted a.1 allowed) a.3,
    )
    by false = a

-- a role has what it was just granted, and does not have what was just taken from it
pub now_granted : (r : Roles) (role permission : ℕ) (has : Bool) → role < r.count →
    permission < r.permissions → (changed r role permission has).granted role permission ≡ has
now_granted r role permission has h l =
    let is = eq-eqb role role refl in
    let it = eq-eqb permission permission refl in
    let both : ((role == role) && (permission == permission)) ≡ true = rw (is, it) refl in
    let may = and_from (nat_lt role r.count) (nat_lt permission r.permissions)
    (lt-ltb role r.count h) (lt-ltb permission r.permissions l) in
    ap (λ b. (cond b (with_granted r role permission has) r).granted role permission) may
    ∙ ap (λ b. cond b has (r.granted role permission)) both

-- a grant or a revoke of one permission of one role changes nothing else
unless_granted : (r : Roles) (role permission : ℕ) (has : Bool) (other more : ℕ) →
    ((other == role) && (more == permission)) ≡ false →
    (changed r role permission has).granted other more ≡ r.granted other more
unless_granted r role permission has other more apart =
    in_both (λ s. s.granted other more ≡ r.granted other more) (are_there r role permission)
    (with_granted r role permission has) r (ap (λ b. cond b has (r.granted other more)) apart) refl

-- a grant or a revoke changes no permission of another role
pub other_roles_keep : (r : Roles) (role permission : ℕ) (has : Bool) (other more : ℕ) →
    (other ≡ role → ⊥) → (changed r role permission has).granted other more ≡ r.granted other more
other_roles_keep r role permission has other more apart =
    unless_granted r role permission has other more
    (ap (λ b. b && (more == permission)) (ne_eqb other role apart))

-- a grant or a revoke changes no other permission of any role
pub other_permissions_keep : (r : Roles) (role permission : ℕ) (has : Bool) (other more : ℕ) →
    (more ≡ permission → ⊥) →
    (changed r role permission has).granted other more ≡ r.granted other more
other_permissions_keep r role permission has other more apart =
    unless_granted r role permission has other more
    (and_right (other == role) (more == permission) (ne_eqb more permission apart))

-- a parent that is given to a role or taken from it changes no parent of another role
pub other_parents_keep : (r : Roles) (may : Bool) (role : ℕ) (parent : Option ℕ) (other : ℕ) →
    (other ≡ role → ⊥) → (cond may (with_parent r role parent) r).parent other ≡ r.parent other
other_parents_keep r may role parent other apart =
    in_both (λ s. s.parent other ≡ r.parent other) may (with_parent r role parent) r
    (ap (λ b. cond b parent (r.parent other)) (ne_eqb other role apart)) refl

-- a parent that is given to a role grants nothing
inherit_keeps : (r : Roles) (role parent other more : ℕ) →
    (roles_after r (Inherit role parent)).granted other more ≡ r.granted other more
inherit_keeps r role parent other more =
    in_both (λ s. s.granted other more ≡ r.granted other more) (may_inherit r role parent)
    (with_parent r role (Some parent)) r refl refl

abbrev SameCounts : Roles → Roles → Type 0
SameCounts r s = (s.count ≡ r.count) × (s.permissions ≡ r.permissions)

-- a request keeps how many roles and permissions there are
same_counts : (r : Roles) (request : Request) → SameCounts r (roles_after r request)
same_counts r (Grant role permission) =
    in_both (SameCounts r) (are_there r role permission) (with_granted r role permission true) r
    (refl, refl) (refl, refl)
same_counts r (Revoke role permission) =
    in_both (SameCounts r) (are_there r role permission) (with_granted r role permission false) r
    (refl, refl) (refl, refl)
same_counts r (Inherit role parent) =
    in_both (SameCounts r) (may_inherit r role parent) (with_parent r role (Some parent)) r
    (refl, refl) (refl, refl)
same_counts r (ClearParent role) =
    in_both (SameCounts r) (nat_lt role r.count) (with_parent r role None) r
    (refl, refl) (refl, refl)

-- what a test decides is answered by Done exactly if what it tests holds
done_iff : (may : Bool) (P : Type 0) → (may ≡ true → P) → (P → may ≡ true) →
    (cond may Done Refused ≡ Done) ↔ P
done_iff true P holds may = (λ _. holds refl, λ _. refl)
done_iff false P holds may = (λ no. absurd (cc), λ is. let yes = may is in absurd (cc))

both_less : (a b c d : ℕ) → (nat_lt a b && nat_lt c d) ≡ true → (a < b) × (c < d)
both_less a b c d e =
    let both = and_parts (nat_lt a b) (nat_lt c d) e in
    (ltb-true a b both.0, ltb-true c d both.1)

pub less_both : (a b c d : ℕ) → (a < b) × (c < d) → (nat_lt a b && nat_lt c d) ≡ true
less_both a b c d is =
    and_from (nat_lt a b) (nat_lt c d) (lt-ltb a b is.0) (lt-ltb c d is.1)

-- a request is answered by Done exactly if it is possible
pub done_exactly : (r : Roles) (request : Request) →
    (answer_to r request ≡ Done) ↔ IsPossible r request
done_exactly r (Grant role permission) =
    done_iff (are_there r role permission) _ (both_less role r.count permission r.permissions)
    (less_both role r.count permission r.permissions)
done_exactly r (Revoke role permission) =
    done_iff (are_there r role permission) _ (both_less role r.count permission r.permissions)
    (less_both role r.count permission r.permissions)
done_exactly r (Inherit role parent) =
    done_iff (may_inherit r role parent) _ (both_less role r.count parent role)
    (less_both role r.count parent role)
done_exactly r (ClearParent role) =
    done_iff (nat_lt role r.count) _ (ltb-true role r.count) (lt-ltb role r.count)

-- what is refused is not chosen
not_chosen : (may : Bool) (s r : Roles) → cond may Done Refused ≡ Refused → cond may s r ≡ r
not_chosen true s r e = absurd (cc)
not_chosen false s r e = refl

-- a request that is refused changes nothing
pub refused_keeps : (r : Roles) (request : Request) → answer_to r request ≡ Refused →
    roles_after r request ≡ r
refused_keeps r (Grant role permission) =
    not_chosen (are_there r role permission) (with_granted r role permission true) r
refused_keeps r (Revoke role permission) =
    not_chosen (are_there r role permission) (with_granted r role permission false) r
refused_keeps r (Inherit role parent) =
    not_chosen (may_inherit r role parent) (with_parent r role (Some parent)) r
refused_keeps r (ClearParent role) =
    not_chosen (nat_lt role r.count) (with_parent r role None) r

-- requests keep how many roles and permissions there are
pub same_counts_run : (r : Roles) (requests : List Request) →
    ((final_roles r requests).count ≡ r.count)
    × ((final_roles r requests).permissions ≡ r.permissions)
unfolding final_roles
same_counts_run r [] = (refl, refl)
same_counts_run r (request ∷ requests) =
    let one = same_counts r request in
    let later = same_counts_run (roles_after r request) requests in
    (later.0 ∙ one.0, later.1 ∙ one.1)

-- a role allows just what it was granted and what its parent allows
pub allows_by_parent : (r : Roles) (role permission : ℕ) → Allows r role permission
    ↔ ((r.granted role permission ≡ true)
    ⊎ ((parent : ℕ) × (r.parent role ≡ Some parent) × Allows r parent permission))
allows_by_parent r role permission = (
  λ a. by (r.granted role permission) refl (r.parent role) refl a,
  λ either. elim either [
    | inl own ↦ allows_granted r role permission own
    | inr up ↦ allows_up r role up.0 permission up.1 up.2
  ],
)
  where
    by : (b : Bool) → r.granted role permission ≡ b → (o : Option ℕ) → r.parent role ≡ o →
        Allows r role permission → (b ≡ true)
        ⊎ ((parent : ℕ) × (o ≡ Some parent) × Allows r parent permission)
    by true own o up a = inl refl
    by false own None up a = absurd (allows_nothing r role permission up own a)
    by false own (Some parent) up a =
        inr (parent, refl, allows_down r role parent permission up own a)

-- roles with no permission and no parent allow nothing
pub bare_allow_nothing : (count permissions role permission : ℕ) →
    Allows (bare_roles count permissions) role permission → ⊥
bare_allow_nothing count permissions role permission =
    allows_nothing (bare_roles count permissions) role permission refl refl

one_or_both : (a b : Bool) → cond a true b ≡ true → (a ≡ true) ⊎ (b ≡ true)
one_or_both true b e = inl refl
one_or_both false b e = inr e

-- what a grant gives: its permission, to its role and to the roles that inherit from it
pub grant_gives : (r : Roles) (role permission other allowed : ℕ) →
    answer_to r (Grant role permission) ≡ Done →
    Allows (roles_after r (Grant role permission)) other allowed
    ↔ (Allows r other allowed ⊎ ((allowed ≡ permission) × LeadsTo r other role))
unfolding Allows LeadsTo
grant_gives r role permission other allowed = by (are_there r role permission)
  where
    chain : (n : ℕ) → ancestor (with_granted r role permission true) other n ≡ ancestor r other n
    chain = same_chain r role permission true other

    by : (b : Bool) → cond b Done Refused ≡ Done →
        Allows (cond b (with_granted r role permission true) r) other allowed
        ↔ (Allows r other allowed ⊎ ((allowed ≡ permission) × LeadsTo r other role))
    by false e = absurd (cc)
    by true e = (
      λ a. elim (one_or_both ((a.1 == role) && (allowed == permission)) (r.granted a.1 allowed)
          a.3) [
            | inl both ↦
                let same = and_parts (a.1 == role) (allowed == permission) both in
                inr (
                  eqb-true allowed permission same.1,
                  (a.0, sym (chain a.0) ∙ a.2 ∙ ap Some (eqb-true a.1 role same.0)),
                )
            | inr old ↦ inl (a.0, a.1, sym (chain a.0) ∙ a.2, old)
          ],
      λ either. elim either [
        | inl a ↦ (
          a.0,
          a.1,
          chain a.0 ∙ a.2,
          still_true ((a.1 == role) && (allowed == permission)) (r.granted a.1 allowed) a.3,
        )
        | inr new ↦ (
          new.1.0,
          role,
          chain new.1.0 ∙ new.1.1,
          ap (λ b. cond b true (r.granted role allowed)) (and_from (role == role)
              (allowed == permission) (eq-eqb role role refl) (eq-eqb allowed permission new.0)),
        )
      ],
    )

-- a grant of another permission, or to a role that no chain of parents leads to, gives nothing
pub others_gain_nothing : (r : Roles) (role permission other allowed : ℕ) →
    ((allowed ≡ permission) × LeadsTo r other role → ⊥) →
    Allows (roles_after r (Grant role permission)) other allowed → Allows r other allowed
others_gain_nothing r role permission other allowed apart a =
    by (answer_to r (Grant role permission)) refl
  where
    by : (answer : Answer) → answer_to r (Grant role permission) ≡ answer → Allows r other allowed
    by Done is = elim ((grant_gives r role permission other allowed is).0 a) [
      | inl was ↦ was
      | inr new ↦ absurd (apart new)
    ]
    by Refused is =
        subst (λ q. Allows q other allowed) (refused_keeps r (Grant role permission) is) a

-- a new parent of a role, or none, changes no chain up to the role
pub chain_up_to : (r : Roles) (role : ℕ) (parent : Option ℕ) (other n : ℕ) →
    ((m : ℕ) → m < n → ancestor r other m ≡ Some role → ⊥) →
    ancestor (with_parent r role parent) other n ≡ ancestor r other n
unfolding ancestor
chain_up_to r role parent other zero none = refl
chain_up_to r role parent other (suc n) none =
    ap (parent_of (with_parent r role parent))
    (chain_up_to r role parent other n (λ m h. none m (omega (arith, h))))
    ∙ by (ancestor r other n) refl
  where
    by : (o : Option ℕ) → ancestor r other n ≡ o →
        parent_of (with_parent r role parent) o ≡ parent_of r o
    by None is = refl
    by (Some k) is = elim (cases_eq k role) [
      | inl same ↦ absurd (none n (omega arith) (is ∙ ap Some same))
      | inr differs ↦ ap (λ b. cond b parent (r.parent k)) (ne_eqb k role differs)
    ]

-- a new parent of a role, or none, changes nothing for a role whose chain does not come to the role
pub others_allow_same : (r : Roles) (may : Bool) (role : ℕ) (parent : Option ℕ)
    (other allowed : ℕ) → (LeadsTo r other role → ⊥) →
    Allows (cond may (with_parent r role parent) r) other allowed ↔ Allows r other allowed
unfolding Allows LeadsTo
others_allow_same r may role parent other allowed apart =
    in_both (λ s. Allows s other allowed ↔ Allows r other allowed) may
    (with_parent r role parent) r (
      λ a. (a.0, a.1, sym (chain a.0) ∙ a.2, a.3),
      λ a. (a.0, a.1, chain a.0 ∙ a.2, a.3),
    ) (λ a. a, λ a. a)
  where
    chain : (n : ℕ) → ancestor (with_parent r role parent) other n ≡ ancestor r other n
    chain n = chain_up_to r role parent other n (λ m h is. apart (m, is))

-- a request that is done gives the role its parent, or none
pub parent_now : (r : Roles) (may : Bool) (role : ℕ) (parent : Option ℕ) →
    cond may Done Refused ≡ Done → (cond may (with_parent r role parent) r).parent role ≡ parent
parent_now r true role parent e =
    ap (λ b. cond b parent (r.parent role)) (eq-eqb role role refl)
parent_now r false role parent e = absurd (cc)

-- from a role that was given a parent, chains of parents lead where they led from the parent
pub leads_as_parent : (r : Roles) (may : Bool) (role parent other : ℕ) → HasLesserParents r →
    cond may Done Refused ≡ Done → parent < role → LeadsTo r parent other →
    LeadsTo (cond may (with_parent r role (Some parent)) r) role other
unfolding LeadsTo
leads_as_parent r false role parent other lesser done below leads = absurd (cc)
leads_as_parent r true role parent other lesser done below leads = (
  suc leads.0,
  ancestor_up (with_parent r role (Some parent)) role parent leads.0
      (parent_now r true role (Some parent) refl)
      ∙ chain_up_to r role (Some parent) parent leads.0
      (λ m h is. omega (arith, below, chain_goes_down r parent m role lesser is))
      ∙ leads.1,
)

-- a new parent of a role changes no chain of parents that begins at a role with a lesser number
pub lesser_still_lead : (r : Roles) (may : Bool) (role parent other to : ℕ) →
    HasLesserParents r → other < role → LeadsTo r other to →
    LeadsTo (cond may (with_parent r role (Some parent)) r) other to
unfolding LeadsTo
lesser_still_lead r false role parent other to lesser below leads = leads
lesser_still_lead r true role parent other to lesser below leads = (
  leads.0,
  chain_up_to r role (Some parent) other leads.0
      (λ m h is. omega (arith, below, chain_goes_down r other m role lesser is))
      ∙ leads.1,
)

-- a role that was given a parent allows what it was granted and what the parent allowed
pub inherit_gives : (r : Roles) (role parent allowed : ℕ) → HasLesserParents r →
    answer_to r (Inherit role parent) ≡ Done →
    Allows (roles_after r (Inherit role parent)) role allowed
    ↔ ((r.granted role allowed ≡ true) ⊎ Allows r parent allowed)
unfolding LeadsTo
inherit_gives r role parent allowed lesser done =
    let after : Roles = roles_after r (Inherit role parent) in
    let below : parent < role = ((done_exactly r (Inherit role parent)).0 done).1 in
    let up : after.parent role ≡ Some parent =
    parent_now r (may_inherit r role parent) role (Some parent) done in
    let own : after.granted role allowed ≡ r.granted role allowed =
    inherit_keeps r role parent role allowed in
    let same = others_allow_same r (may_inherit r role parent) role (Some parent) parent allowed
    (λ leads. omega (arith, below, chain_goes_down r parent leads.0 role lesser leads.1)) in (
      λ a. elim ((allows_by_parent after role allowed).0 a) [
        | inl is ↦ inl (sym own ∙ is)
        | inr by ↦
            let one : by.0 ≡ parent = same_Some by.0 parent (sym by.1 ∙ up) in
            inr (same.0 (subst (λ k. Allows after k allowed) one by.2))
      ],
      λ either. elim either [
        | inl is ↦ allows_granted after role allowed (own ∙ is)
        | inr a ↦ allows_up after role parent allowed up (same.1 a)
      ],
    )

-- the first n roles of a chain do not have the role `role`, or have it at a first place
pub first_place : (r : Roles) (role other n : ℕ) →
    ((m : ℕ) × (m < n) × (ancestor r other m ≡ Some role)
    × ((l : ℕ) → l < m → ancestor r other l ≡ Some role → ⊥))
    ⊎ ((m : ℕ) → m < n → ancestor r other m ≡ Some role → ⊥)
first_place r role other zero = inr (λ m h. absurd (omega (arith, h)))
first_place r role other (suc n) = elim (first_place r role other n) [
  | inl found ↦ inl (found.0, omega (arith, found.1), found.2, found.3)
  | inr none ↦ by none (ancestor r other n) refl
]
  where
    more : ((m : ℕ) → m < n → ancestor r other m ≡ Some role → ⊥) →
        (ancestor r other n ≡ Some role → ⊥) → (m : ℕ) → m < suc n →
        ancestor r other m ≡ Some role → ⊥
    more none last m h is = elim (cases_lt m n) [
      | inl before ↦ none m before is
      | inr g ↦
          let same : m ≡ n = omega (arith, h, g) in
          last (sym (ap (ancestor r other) same) ∙ is)
    ]

    by : ((m : ℕ) → m < n → ancestor r other m ≡ Some role → ⊥) → (o : Option ℕ) →
        ancestor r other n ≡ o →
        ((m : ℕ) × (m < suc n) × (ancestor r other m ≡ Some role)
        × ((l : ℕ) → l < m → ancestor r other l ≡ Some role → ⊥))
        ⊎ ((m : ℕ) → m < suc n → ancestor r other m ≡ Some role → ⊥)
    by none None is = inr (more none (λ e. absurd (cc)))
    by none (Some k) is = elim (cases_eq k role) [
      | inl same ↦ inl (n, omega arith, is ∙ ap Some same, none)
      | inr differs ↦
          inr (more none (λ e. differs (same_Some k role (sym is ∙ e))))
    ]

-- a role allows what its ancestors allow
allows_along : (r : Roles) (other role permission m : ℕ) → ancestor r other m ≡ Some role →
    Allows r role permission → Allows r other permission
unfolding ancestor
allows_along r other role permission zero is a =
    subst (λ k. Allows r k permission) (sym (same_Some other role is)) a
allows_along r other role permission (suc m) is a =
    by (ancestor r other m) (λ k here. allows_along r other k permission m here) is
  where
    by : (o : Option ℕ) → ((k : ℕ) → o ≡ Some k → Allows r k permission → Allows r other permission)
        → parent_of r o ≡ Some role → Allows r other permission
    by None along up = absurd (cc)
    by (Some k) along up = along k refl (allows_up r k role permission up a)

-- if a chain comes to a role, each later role of the chain is an ancestor of that role
pub later_place : (r : Roles) (other role m n : ℕ) → ancestor r other m ≡ Some role → m ≤ n →
    (j : ℕ) × (ancestor r other n ≡ ancestor r role j)
unfolding ancestor
later_place r other role m zero is h =
    let same : m ≡ zero = omega (arith, h) in
    (zero, sym (ap (ancestor r other) same) ∙ is)
later_place r other role m (suc n) is h = elim (cases_lt m (suc n)) [
  | inl before ↦
      let up = later_place r other role m n is (omega (arith, before)) in
      (suc up.0, ap (parent_of r) up.1)
  | inr g ↦
      let same : m ≡ suc n = omega (arith, h, g) in
      (zero, sym (ap (ancestor r other) same) ∙ is)
]

-- if a role allows a permission, a role of its chain up to `role` was granted the permission, or
-- the chain leads to `role`, which allows the permission
up_to_or_past : (r : Roles) (role other permission : ℕ) → Allows r other permission →
    AllowsUpTo r role other permission ⊎ ((m : ℕ) × (ancestor r other m ≡ Some role)
    × ((l : ℕ) → l < m → ancestor r other l ≡ Some role → ⊥) × Allows r role permission)
unfolding Allows
up_to_or_past r role other permission a = elim (first_place r role other a.0) [
  | inr none ↦ inl (a.0, a.1, a.2, a.3, none)
  | inl found ↦
      let past = later_place r other role found.0 a.0 found.2 (omega (arith, found.1)) in
      inr (found.0, found.2, found.3, (past.0, a.1, sym past.1 ∙ a.2, a.3))
]

-- a chain of parents that leads to a role still does so after that role is given a parent
still_leads : (r : Roles) (role parent other : ℕ) → LeadsTo r other role →
    (m : ℕ) × (ancestor (with_parent r role (Some parent)) other m ≡ Some role)
unfolding LeadsTo
still_leads r role parent other leads = elim (first_place r role other (suc leads.0)) [
  | inl found ↦ (found.0, chain_up_to r role (Some parent) other found.0 found.3 ∙ found.2)
  | inr none ↦ absurd (none leads.0 (omega arith) leads.1)
]

-- what a role allowed up to the role that is given a parent, or loses it, it still allows
pub up_to_stays : (r : Roles) (role : ℕ) (parent : Option ℕ) (other allowed : ℕ) →
    AllowsUpTo r role other allowed →
    Allows (with_parent r role parent) other allowed
unfolding Allows
up_to_stays r role parent other allowed a =
    (a.0, a.1, chain_up_to r role parent other a.0 a.4 ∙ a.2, a.3)

-- what each role allows after an `Inherit` that is done, as `InheritsReplaceWhatWasInherited`
-- states
pub inherit_replaces : (r : Roles) (role parent other allowed : ℕ) → HasLesserParents r →
    answer_to r (Inherit role parent) ≡ Done →
    Allows (roles_after r (Inherit role parent)) other allowed
    ↔ (AllowsUpTo r role other allowed ⊎ (LeadsTo r other role × Allows r parent allowed))
unfolding Allows LeadsTo
inherit_replaces r role parent other allowed lesser done =
    by (may_inherit r role parent) done (inherit_gives r role parent allowed lesser done)
  where
    by : (b : Bool) → cond b Done Refused ≡ Done →
        (Allows (cond b (with_parent r role (Some parent)) r) role allowed
        ↔ ((r.granted role allowed ≡ true) ⊎ Allows r parent allowed)) →
        Allows (cond b (with_parent r role (Some parent)) r) other allowed
        ↔ (AllowsUpTo r role other allowed ⊎ (LeadsTo r other role × Allows r parent allowed))
    by false e gives = absurd (cc)
    by true e gives = (
      λ a. elim (first_place r role other a.0) [
        | inr none ↦ inl (
          a.0,
          a.1,
          sym (chain_up_to r role (Some parent) other a.0 none) ∙ a.2,
          a.3,
          none,
        )
        | inl found ↦
            let there : ancestor (with_parent r role (Some parent)) other found.0 ≡ Some role =
            chain_up_to r role (Some parent) other found.0 found.3 ∙ found.2 in
            let past = later_place (with_parent r role (Some parent)) other role found.0 a.0 there
            (omega (arith, found.1)) in
            elim (gives.0 (past.0, a.1, sym past.1 ∙ a.2, a.3)) [
              | inl own ↦ inl (found.0, role, found.2, own, found.3)
              | inr inherited ↦ inr ((found.0, found.2), inherited)
            ]
      ],
      λ either. elim either [
        | inl a ↦ up_to_stays r role (Some parent) other allowed a
        | inr new ↦
            let there = still_leads r role parent other new.0 in
            allows_along (with_parent r role (Some parent)) other role allowed there.0 there.1
            (gives.1 (inr new.1))
      ],
    )

-- an `Inherit` gives only what the parent allowed, and takes only what its role allowed, as
-- `InheritsChangeOnlyWhatIsInherited` states
pub inherit_changes_only : (r : Roles) (role parent other allowed : ℕ) → HasLesserParents r →
    let after = roles_after r (Inherit role parent) in
    (Allows after other allowed →
    Allows r other allowed ⊎ (LeadsTo r other role × Allows r parent allowed))
    × (Allows r other allowed →
    Allows after other allowed ⊎ (LeadsTo r other role × Allows r role allowed))
unfolding Allows LeadsTo
inherit_changes_only r role parent other allowed lesser =
    by (answer_to r (Inherit role parent)) refl
  where
    by : (answer : Answer) → answer_to r (Inherit role parent) ≡ answer →
        let after = roles_after r (Inherit role parent) in
        (Allows after other allowed →
        Allows r other allowed ⊎ (LeadsTo r other role × Allows r parent allowed))
        × (Allows r other allowed →
        Allows after other allowed ⊎ (LeadsTo r other role × Allows r role allowed))
    by Refused is =
        let same = refused_keeps r (Inherit role parent) is in (
          λ a. inl (subst (λ q. Allows q other allowed) same a),
          λ a. inl (subst (λ q. Allows q other allowed) (sym same) a),
        )
    by Done is =
        let exactly = inherit_replaces r role parent other allowed lesser is in (
          λ a. elim (exactly.0 a) [
            | inl up_to ↦ inl (up_to.0, up_to.1, up_to.2, up_to.3)
            | inr new ↦ inr new
          ],
          λ a. elim (up_to_or_past r role other allowed a) [
            | inl up_to ↦ inl (exactly.1 (inl up_to))
            | inr past ↦ inr ((past.0, past.1), past.3)
          ],
        )
