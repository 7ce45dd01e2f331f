-- The laws of the operations on sets of one capacity. Each follows from the same law of the Boolean
-- function that decides one number.
use Rattle.std.proofs.Common.{◌≡◌, ℕ, Bool, true, false, cond, nat_lt, inl, inr, refl, sym, ap, ◌∙◌}
use Rattle.std.proofs.Math.Bool.{and_self}
use Rattle.std.proofs.Math.Path.{fun_ext}
use Rattle.std.proofs.lemmas.Bool.{cases_lt, lt-ltb, le-ltb}
use Rattle.bittle.specs.PlainSet.{PlainSet}
use Rattle.bittle_laws.specs.AlgebraLaws.{Commutes, Associates, IsIdempotent, DistributesOver}
use Rattle.bittle_laws.specs.AlgebraLaws.{UndoesItself}
use Rattle.bittle.specs.SetOperations.{combination_has, combination_of, just_one}
use Rattle.bittle_bits.proofs.PlainSets.{plain_set}

-- whether a number is in the combination of two sets of capacity c
decided : (f : Bool → Bool → Bool) (c : ℕ) (s t : PlainSet) (k : ℕ) → s.capacity ≡ c →
    t.capacity ≡ c → combination_has f s t k ≡ cond (nat_lt k c) (f (s.has k) (t.has k)) (s.has k)
unfolding combination_has
decided f c s t k d e = rw (d, e) (ap (λ b. cond b (f (s.has k) (t.has k)) (s.has k))
    (and_self (nat_lt k c)))

module _ (f : Bool → Bool → Bool) where
  -- an operation commutes if its Boolean function f does
  pub commutes : ((a b : Bool) → f a b ≡ f b a) → Commutes (combination_of f)
  commutes law c s t p q = λ j. plain_set ((p.has_capacity ∙ sym q.has_capacity) j) (fun_ext each j)
    where
      each : (k : ℕ) → combination_has f s t k ≡ combination_has f t s k
      each k =
          decided f c s t k p.has_capacity q.has_capacity ∙
          elim (cases_lt k c) [
            | inl l ↦ rw (lt-ltb k c l) (law (s.has k) (t.has k))
            | inr g ↦ rw (le-ltb k c g) (p.none_past k g ∙ sym (q.none_past k g))
          ] ∙ sym (decided f c t s k q.has_capacity p.has_capacity)

  -- an operation associates if f does
  pub associates : ((a b d : Bool) → f (f a b) d ≡ f a (f b d)) → Associates (combination_of f)
  associates law c s t u p q r = ap (plain_set s.capacity) (fun_ext λ k.
      decided f c (combination_of f s t) u k p.has_capacity r.has_capacity
      ∙ ap (λ b. cond (nat_lt k c) (f b (u.has k)) b)
      (decided f c s t k p.has_capacity q.has_capacity)
      ∙ by (nat_lt k c) (s.has k) (t.has k) (u.has k)
      ∙ sym (decided f c s (combination_of f t u) k p.has_capacity q.has_capacity
      ∙ ap (λ b. cond (nat_lt k c) (f (s.has k) b) (s.has k))
      (decided f c t u k q.has_capacity r.has_capacity)))
    where
      by : (b x y z : Bool) → cond b (f (cond b (f x y) x) z) (cond b (f x y) x)
          ≡ cond b (f x (cond b (f y z) y)) x
      by true x y z = law x y z
      by false x y z = refl

  -- an operation is idempotent if f is
  pub is_idempotent : ((a : Bool) → f a a ≡ a) → IsIdempotent (combination_of f)
  is_idempotent law s = ap (plain_set s.capacity)
      (fun_ext λ k. decided f s.capacity s s k refl refl ∙ by (nat_lt k s.capacity) (s.has k))
    where
      by : (b x : Bool) → cond b (f x x) x ≡ x
      by true x = law x
      by false x = refl

  -- an operation undoes itself if f does
  pub undoes : ((a b : Bool) → f (f a b) b ≡ a) → UndoesItself (combination_of f)
  undoes law c s t p q = ap (plain_set s.capacity) (fun_ext λ k.
      decided f c (combination_of f s t) t k p.has_capacity q.has_capacity
      ∙ ap (λ b. cond (nat_lt k c) (f b (t.has k)) b)
      (decided f c s t k p.has_capacity q.has_capacity)
      ∙ by (nat_lt k c) (s.has k) (t.has k))
    where
      by : (b x y : Bool) → cond b (f (cond b (f x y) x) y) (cond b (f x y) x) ≡ x
      by true x y = law x y
      by false x y = refl

-- an operation distributes over another if its Boolean function does
pub distributes : (f g : Bool → Bool → Bool) → ((a b d : Bool) → f a (g b d) ≡ g (f a b) (f a d)) →
    DistributesOver (combination_of g) (combination_of f)
distributes f g law c s t u p q r = ap (plain_set s.capacity) (fun_ext λ k.
    decided f c s (combination_of g t u) k p.has_capacity q.has_capacity
    ∙ ap (λ b. cond (nat_lt k c) (f (s.has k) b) (s.has k))
    (decided g c t u k q.has_capacity r.has_capacity)
    ∙ by (nat_lt k c) (s.has k) (t.has k) (u.has k)
    ∙ sym (decided g c (combination_of f s t) (combination_of f s u) k p.has_capacity p.has_capacity
    ∙ ap (λ b. cond (nat_lt k c) (g b ((combination_of f s u).has k)) b)
    (decided f c s t k p.has_capacity q.has_capacity)
    ∙ ap (λ b. cond (nat_lt k c) (g (cond (nat_lt k c) (f (s.has k) (t.has k)) (s.has k)) b)
    (cond (nat_lt k c) (f (s.has k) (t.has k)) (s.has k)))
    (decided f c s u k p.has_capacity r.has_capacity)))
  where
    by : (b x y z : Bool) → cond b (f x (cond b (g y z) y)) x
        ≡ cond b (g (cond b (f x y) x) (cond b (f x z) x)) (cond b (f x y) x)
    by true x y z = law x y z
    by false x y z = refl

-- `just_one` with the same second value, made twice, gives the first value back
pub just_one-undoes : (a b : Bool) → just_one (just_one a b) b ≡ a
just_one-undoes true true = refl
just_one-undoes true false = refl
just_one-undoes false true = refl
just_one-undoes false false = refl
