-- Calls of a closure with the numbers below c.
use Rattle.std.specs.Prelude.{ℕ, ◌<◌}
use Rattle.std.specs.Fn.{Mut, Called, always_mut}

-- what the calls of a closure with the numbers below c require and ensure
abbrev pub calls_below : {F R : Type 0} → ℕ → Mut F (ℕ × Unit {0}) R → Mut F (ℕ × Unit {0}) R
calls_below c g = record {
  pre = λ f a. a.0 < c → g.pre f a;
  post = λ f a r. (a.0 < c) × g.post f a r;
  steps = λ f a r next. (a.0 < c) × Called g f a r next;
}

-- the closure may be called with each number below c, and again after each such call
abbrev pub IsCallableBelow : {F R : Type 0} → ℕ → Mut F (ℕ × Unit {0}) R → F → Type 0
IsCallableBelow c g f = always_mut (calls_below c g) f
