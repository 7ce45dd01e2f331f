-- A call on one index of a row, by the call on the element that the index goes to.
use Rattle.std.proofs.Common.{◌≡◌, ℕ, ◌+◌, ◌*◌, ◌/◌, ◌%◌, ◌^◌, ◌<◌, ◌≤◌, Bool, true, false, not}
use Rattle.std.proofs.Common.{◌&&◌, ◌||◌, ◌==◌, inl, inr, refl, sym, ap, ◌∙◌, arith, mul-pos, List}
use Rattle.std.proofs.Common.{length, get_or, set}
use Rattle.std.proofs.Math.Path.{fun_ext}
use Rattle.std.proofs.Math.Nat.{div-add-mod', mod-eq_of_lt}
use Rattle.std.proofs.lemmas.Nat.{div_below, mod-mul-add, mod_below, pow-add, mul-add-lt}
use Rattle.std.proofs.lemmas.Nat.{same_from_place}
use Rattle.std.proofs.lemmas.Bool.{eq-eqb, ne_eqb, cases_eq, cases_lt}
use Rattle.bittle_bits.specs.RowLawProofs.{row_has-past}
use Rattle.bittle_bits.specs.Orders.{place, read_in}
use Rattle.bittle_bits.specs.PlainSet.{PlainSet, contains}
use Rattle.bittle_bits.specs.Rows.{row_has, row_set, with_bit, GoesTo}
use Rattle.bittle_bits.proofs.PlainSets.{plain_set, contains_in, with_in, without_in}
use Rattle.bittle_bits.proofs.RowSets.{at_element-read, at_element-set_same, at_element-set_other}
use Rattle.bittle_bits.proofs.RowSets.{elements_has_at, by_place, elements_placed}

-- an index that wraps at the capacity of the row is index i % c of element i / c % n
pub wraps_at : (n c i : ℕ) → 0 < n → 0 < c → i % (n * c) ≡ i / c % n * c + i % c
wraps_at n c i h l =
    let a = mod_below (i / c) n h in
    let b = mod_below i c l in
    let low : i / c % n * c + i % c < n * c = omega (arith, mul-add-lt (i / c % n) c (i % c) n a b)
    in
    let e : i ≡ i / c / n * (n * c) + (i / c % n * c + i % c) = sym (div-add-mod' i c)
    ∙ ap (λ t. t * c + i % c) (sym (div-add-mod' (i / c) n)) ∙ omega arith in
    ap (λ t. t % (n * c)) e ∙ mod-mul-add (i / c / n) (n * c) (i / c % n * c + i % c) low

-- two indexes of one element are the same in the row exactly if they are the same in the element
pub same_place_eq : (e c r t : ℕ) → (e * c + t == e * c + r) ≡ (t == r)
same_place_eq e c r t =
    elim (cases_eq t r) [
      | inl y ↦ rw y (eq-eqb _ _ refl ∙ sym (eq-eqb _ _ refl))
      | inr n ↦ ne_eqb _ _ (λ y. n (omega arith)) ∙ sym (ne_eqb _ _ n)
    ]

-- a change of one index of one element is a change of one index of the row
module _ {X : Type 0} (n c e r : ℕ) (f : X → ℕ → Bool) (h : Bool → Bool → Bool) (xs : List X)
    (x y : X) where
  -- an element changed at one index changes the row at that index alone
  pub row_has-set : e < n → n ≡ length xs → r < c → ((b : Bool) → h false b ≡ b) →
      x ≡ get_or xs e x → f y ≡ (λ t. h (t == r) (f x t)) →
      row_has n c f (set xs e y) ≡ (λ k. h (k == e * c + r) (row_has n c f xs k))
  row_has-set le all lr none at is = fun_ext λ k.
      elim (cases_lt k (n * c)) [
        | inl l ↦ by_place n c (λ k. row_has n c f (set xs e y) k
            ≡ h (k == e * c + r) (row_has n c f xs k))
            (λ q t a b. elements_has_at n c f (set xs e y) q t a b ∙
            elim (cases_eq q e) [
              | inl same ↦
                  rw same (at_element-set_same (λ x. f x t) xs e y (omega arith) ∙ ap (λ g. g t) is
                  ∙ sym (ap (λ s. h s (row_has n c f xs (e * c + t)))
                  (same_place_eq e c r t)
                  ∙ ap (h (t == r)) (elements_has_at n c f xs e t le b
                  ∙ at_element-read (λ x. f x t) xs e x (omega arith) at)))
              | inr other ↦
                  at_element-set_other (λ x. f x t) xs e q y other
                  ∙ sym (ap (λ s. h s (row_has n c f xs (q * c + t)))
                  (ne_eqb _ _ (λ z. other (same_from_place q t e r c b lr z).0)) ∙ none _
                  ∙ elements_has_at n c f xs q t a b)
            ]) k l
        | inr g ↦
            let low = mul-add-lt e c r n le lr in
            row_has-past n c f (set xs e y) k g
            ∙ sym (ap (λ s. h s (row_has n c f xs k))
            (ne_eqb k (e * c + r) (λ z. omega arith)) ∙ none _ ∙ row_has-past n c f xs k g)
      ]

-- the three calls on a row, by the call on the element that the index goes to
module _ {X : Type 0} (m : Bool) (w c n i q r : ℕ) (big : X → PlainSet) (xs : List X) (x : X)
    (word : 0 < w) (whole : (d : ℕ) × (c ≡ d * w)) (goes : GoesTo n c i q r)
    (owned : (big x).capacity ≡ c) (all : n ≡ length xs) (at : x ≡ get_or xs q x) where
  some : 0 < c
  some = let t = goes.within in omega arith

  there : 0 < n * c
  there = let t = mul-add-lt q c r n goes.is_element goes.within in omega arith

  -- the test of an element in the order
  abbrev test : X → ℕ → Bool
  test y k = (big y).has (place m w k)

  placed : (ys : List X) → (read_in m w (row_set n c big ys)).has ≡ row_has n c test ys
  placed ys = elements_placed m w whole.0 c n word whole.1 (λ x. (big x).has) ys

  -- the test of the index in its element is that of the index in the row
  pub row_tested : (b : Bool) → b ≡ contains (read_in m w (big x)) r →
      b ≡ contains (read_in m w (row_set n c big xs)) i
  row_tested b is =
      is ∙ contains_in (read_in m w (big x)) c r owned some ∙ ap (test x) (mod-eq_of_lt goes.within)
      ∙ sym (contains_in (read_in m w (row_set n c big xs)) (n * c) i refl there
      ∙ ap (λ p. p (i % (n * c))) (placed xs) ∙ ap (row_has n c test xs) goes.at
      ∙ elements_has_at n c test xs q r goes.is_element goes.within
      ∙ at_element-read (λ x. test x r) xs q x (let l = goes.is_element in omega arith) at)

  -- a change of one index of the element
  changed : (h : Bool → Bool → Bool) (y : X) → ((b : Bool) → h false b ≡ b) →
      read_in m w (big y) ≡ plain_set c (λ t. h (t == r % c) (test x t)) →
      read_in m w (row_set n c big (set xs q y))
      ≡ plain_set (n * c) (λ k. h (k == i % (n * c))
      ((read_in m w (row_set n c big xs)).has k))
  changed h y none is =
      ap (plain_set (n * c)) (placed (set xs q y)
      ∙ row_has-set n c q r test h xs x y goes.is_element all goes.within none at
      (ap (λ s. s.has) is ∙ ap (λ p. (λ t. h (t == p) (test x t))) (mod-eq_of_lt goes.within))
      ∙ ap (λ p. (λ k. h (k == p) (row_has n c test xs k))) (sym goes.at)
      ∙ ap (λ p k. h (k == i % (n * c)) (p k)) (sym (placed xs)))

  -- to put a bit at the index in its element is to put it at the index in the row
  pub row_put : (ones : Bool) (y : X) →
      read_in m w (big y) ≡ with_bit ones (read_in m w (big x)) r →
      read_in m w (row_set n c big (set xs q y))
      ≡ with_bit ones (read_in m w (row_set n c big xs)) i
  row_put true y is = changed ◌||◌ y (λ _. refl) (is ∙ with_in (read_in m w (big x)) c r owned some)
      ∙ sym (with_in (read_in m w (row_set n c big xs)) (n * c) i refl there)
  row_put false y is = changed (λ t u. not t && u) y (λ _. refl)
      (is ∙ without_in (read_in m w (big x)) c r owned some)
      ∙ sym (without_in (read_in m w (row_set n c big xs)) (n * c) i refl there)

-- the quotient and the remainder of an index by the element's capacity tell where the index goes
pub goes_to : (n c each i q : ℕ) → each ≡ c → 0 < n → 0 < c → q ≡ i / each % n →
    GoesTo n c i q (i % each)
goes_to n c each i q asked some any is =
    rw (is, asked) (record {
      is_element = mod_below (i / c) n some;
      within = mod_below i c any;
      at = wraps_at n c i some any;
    })

-- they also tell it if the index wraps at the capacity before it is divided
pub goes_wrapped : (n c each i j : ℕ) → each ≡ c → 0 < n → 0 < c → j ≡ i % (n * c) →
    GoesTo n c i (j / each) (j % each)
goes_wrapped n c each i j asked filled any is =
    let full : 0 < n * c = mul-pos filled any in
    rw asked (record {
      is_element = div_below j c n any (rw is (mod_below i (n * c) full));
      within = mod_below j c any;
      at = sym is ∙ sym (div-add-mod' j c);
    })

-- a row of whole words, each of whole bytes, has an even capacity
pub even_capacity : (n c w log : ℕ) → w ≡ 2 ^ (3 + log) → (d : ℕ) × (c ≡ d * w) →
    (half : ℕ) × (n * c ≡ half * 2)
even_capacity n c w log bytes whole = (
  n * whole.0 * 2 ^ log * 4,
  rw (whole.1, bytes ∙ pow-add 2 3 log) (omega arith),
)

-- no index of 32 bits is past an even capacity that is not below `u32::MAX`
pub wraps_nowhere : (n i : ℕ) → (half : ℕ) × (n ≡ half * 2) → 4294967295 ≤ n → i < 4294967296 →
    i ≡ i % n
wraps_nowhere n i even all small = sym (mod-eq_of_lt (omega (arith, even.1)))
