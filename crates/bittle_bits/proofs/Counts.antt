-- How many numbers below a bound pass a test.
use Rattle.std.proofs.Common.{◌≡◌, ℕ, zero, suc, ◌+◌, ◌-◌, ◌*◌, ◌<◌, ◌≤◌, Bool, true, false, not}
use Rattle.std.proofs.Common.{cond, inl, inr, refl, sym, ap, ◌∙◌, arith, add-zero, add_assoc, subst}
use Rattle.std.proofs.Math.Nat.{mod-eq_of_lt, zero-mul, one-mul, add-suc}
use Rattle.std.proofs.lemmas.Bool.{cases_eq, cases_Bool}
use Rattle.bittle_bits.specs.Orders.{place, mirror}
use Rattle.bittle_bits.specs.PlainSet.{count_below}
use Rattle.bittle_bits.proofs.PlaceLemmas.{place_part}

-- tests that agree on the numbers below c have the same count
pub count-same : (c : ℕ) (s t : ℕ → Bool) → ((k : ℕ) → k < c → s k ≡ t k) →
    count_below c s ≡ count_below c t
unfolding count_below
count-same zero s t h = refl
count-same (suc c) s t h = ap (λ n. n + cond (s c) 1 0)
    (count-same c s t (λ k l. h k (omega arith))) ∙ ap (λ b. count_below c t + cond b 1 0)
    (h c (omega arith))

one_at_most : (b : Bool) → cond b 1 0 ≤ 1
one_at_most true = omega arith
one_at_most false = omega arith

-- no more than c numbers below c pass a test
pub count-le : (c : ℕ) (s : ℕ → Bool) → count_below c s ≤ c
unfolding count_below
count-le zero s = omega arith
count-le (suc c) s = omega (arith, count-le c s, one_at_most (s c))

one_each : (a b : Bool) → (a ≡ true → b ≡ true) → cond a 1 0 ≤ cond b 1 0
one_each true b h = rw (h refl) (omega arith)
one_each false b h = omega arith

-- a test that passes what another passes has no lower count
pub count-more : (c : ℕ) (s t : ℕ → Bool) → ((k : ℕ) → k < c → s k ≡ true → t k ≡ true) →
    count_below c s ≤ count_below c t
unfolding count_below
count-more zero s t h = omega arith
count-more (suc c) s t h = omega (
  arith,
  count-more c s t (λ k l. h k (omega (arith, l))),
  one_each (s c) (t c) (h c (omega arith)),
)

-- the count below a + b is the count below a plus the count of the b numbers after it
pub count-add : (a b : ℕ) (s : ℕ → Bool) →
    count_below (a + b) s ≡ count_below a s + count_below b (λ k. s (a + k))
unfolding count_below
count-add a zero s = rw add-zero (sym (add-zero (count_below a s)))
count-add a (suc b) s = rw add-suc (ap (λ n. n + cond (s (a + b)) 1 0) (count-add a b s)
    ∙ add_assoc (count_below a s) (count_below b (λ k. s (a + k))) (cond (s (a + b)) 1 0))

count-one : (s : ℕ → Bool) → count_below 1 s ≡ cond (s 0) 1 0
unfolding count_below
count-one s = omega arith

-- the count is the same from the other end
count-turned : (w : ℕ) (s : ℕ → Bool) → count_below w (λ k. s (w - 1 - k)) ≡ count_below w s
unfolding count_below
count-turned zero s = refl
count-turned (suc w) s =
    let next = λ (k : ℕ). s (suc k) in
    let e = count-add 1 w s in
    let f : count_below w (λ k. s (1 + k)) ≡ count_below w next = count-same w _ _
    (λ k l. ap s (omega arith)) in
    let g : count_below w (λ k. s (suc w - 1 - k))
    ≡ count_below w (λ k. next (w - 1 - k)) = count-same w _ _ (λ k l. ap s (omega arith)) in
    let h = count-turned w next in
    let bit : Bool → ℕ = λ b. cond b 1 0 in
    let z : bit (s (suc w - 1 - w)) ≡ bit (s 0) = ap (λ n. bit (s n)) (omega arith) in
    let o : 1 + w ≡ suc w = omega arith in
    let total : count_below (suc w) s ≡ count_below 1 s + count_below w
    (λ k. s (1 + k)) = rw o at e in
    omega (arith, total, f, g, h, z, count-one s)

place_in_word : (m : Bool) (w : ℕ) (s : ℕ → Bool) → 0 < w →
    count_below w (λ k. s (place m w k)) ≡ count_below w s
unfolding mirror
place_in_word false w s h = refl
place_in_word true w s h = count-same w _ _ (λ k l. let e = mod-eq_of_lt l in ap s (omega arith))
    ∙ count-turned w s

-- the count below 0 is 0
pub count-none : (s : ℕ → Bool) → count_below 0 s ≡ 0
unfolding count_below
count-none s = refl

-- the count is the same in each order
pub count-placed : (m : Bool) (w d : ℕ) (s : ℕ → Bool) → 0 < w →
    count_below (d * w) (λ k. s (place m w k)) ≡ count_below (d * w) s
count-placed m w zero s h = rw zero-mul (count-none _ ∙ sym (count-none s))
count-placed m w (suc d) s h =
    let l = count-add (d * w) w (λ k. s (place m w k)) in
    let r = count-add (d * w) w s in
    let i : count_below (d * w) (λ k. s (place m w k))
    ≡ count_below (d * w) s = count-placed m w d s h in
    let part : count_below w (λ k. s (place m w (d * w + k)))
    ≡ count_below w (λ k. s (d * w + place m w k)) = count-same w _ _
    (λ k b. ap s (subst (λ t. place m w (d * t + k) ≡ d * t + place m w k) (one-mul w)
    (place_part m w 1 d k h (omega arith)))) in
    let same = place_in_word m w (λ k. s (d * w + k)) h in
    let e : suc d * w ≡ d * w + w = omega arith in
    rw e (omega (arith, l, r, i, part, same))

-- if a number below c passes, the count is not 0
pub count-some : (c k : ℕ) (s : ℕ → Bool) → k < c → s k ≡ true → 0 < count_below c s
unfolding count_below
count-some zero k s h t = absurd (omega arith)
count-some (suc c) k s h t =
    elim (cases_eq k c) [
      | inl e ↦ let b : s c ≡ true = ap s (sym e) ∙ t in rw b (omega arith)
      | inr n ↦ let r = count-some c k s (omega arith) t in omega arith
    ]

-- a test that nothing passes has the count 0
pub count-never : (c : ℕ) → count_below c (λ _. false) ≡ 0
unfolding count_below
count-never zero = refl
count-never (suc c) = omega (arith, count-never c)

-- below c, the numbers that fail a test and those that pass it are c in all
pub count-others : (c : ℕ) (s : ℕ → Bool) → count_below c (λ k. not (s k)) + count_below c s ≡ c
unfolding count_below
count-others zero s = refl
count-others (suc c) s = elim (cases_Bool (s c)) [
  | inl t ↦ rw t (omega (arith, count-others c s))
  | inr f ↦
      rw f (omega (arith, count-others c s))
]

-- each number below c passes the test that is always true
pub count-always : (c : ℕ) → count_below c (λ _. true) ≡ c
count-always c = omega (arith, count-others c (λ _. false), count-never c)
