-- A closure that may be called at each number below a capacity.
use Rattle.std.proofs.Common.{ℕ, ◌<◌, [], ◌∷◌, refl}
use Rattle.std.specs.Fn.{Mut, Called, always_mut}
use Rattle.bittle_ext.specs.Calls.{calls_below, IsCallableBelow}
use denote.Param.Always.{mut_by, mut_next}

module _ {F R : Type 0} (c : ℕ) (g : Mut F (ℕ × Unit {0}) R) (f : F) where
  -- a closure that may be called with any number may be called with each number below c
  pub always_below : always_mut g f → IsCallableBelow c g f
  always_below = mut_by (calls_below c g) (always_mut g) (λ s a h l. (h.at (a ∷ [])).0)
      (λ s a r next h called. mut_next g s a r next next called.met.1 refl h) f

  module _ (i : ℕ) (may : IsCallableBelow c g f) (below : i < c) where
    pub asks_below : g.pre f (i, tt)
    asks_below = (may.at ((i, tt) ∷ [])).0 below

    -- after a call with a number below c, it may still be called with each of them
    pub next_below : (r : R) (next : F) → Called g f (i, tt) r next → IsCallableBelow c g next
    next_below r next called = mut_next (calls_below c g) f (i, tt) r next next
        (record { met = (below, called) }) refl may
