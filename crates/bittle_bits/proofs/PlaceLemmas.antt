-- The two orders: each index has a place in its word, one to one. One order mirrors the other.
use Rattle.std.proofs.Common.{◌≡◌, ℕ, ◌+◌, ◌-◌, ◌*◌, ◌/◌, ◌%◌, ◌<◌, ◌≤◌, Bool, true, false, ◌==◌}
use Rattle.std.proofs.Common.{nat_lt, inl, inr, refl, sym, ap, ◌∙◌, arith}
use Rattle.std.proofs.Math.Nat.{div-add-mod', mod-eq_of_lt}
use Rattle.std.proofs.lemmas.Nat.{mod-mul-add, mod_below, div_below, mul-add-lt}
use Rattle.std.proofs.lemmas.Bool.{eq-eqb, ne_eqb, cases_eq, cases_lt, lt-ltb, le-ltb}
use Rattle.bittle_bits.specs.Orders.{mirror, place}

-- index o of word q is mirrored to index w - 1 - o of that word
pub mirror_at : (w q o : ℕ) → o < w → mirror w (q * w + o) ≡ q * w + (w - 1 - o)
unfolding mirror
mirror_at w q o h = let e = mod-mul-add q w o h in omega (arith, e)

-- the mirrored index lies as far from the end of its word as the index from the start
pub mirror_is : (w i : ℕ) → 0 < w → mirror w i ≡ i / w * w + (w - 1 - i % w)
unfolding mirror
mirror_is w i h = omega (arith, div-add-mod' i w)

-- mirroring an index twice gives it back
pub mirror-mirror : (w i : ℕ) → 0 < w → mirror w (mirror w i) ≡ i
mirror-mirror w i h =
    let b = mod_below i w h in
    let lt : w - 1 - i % w < w = omega arith in
    ap (mirror w) (mirror_is w i h) ∙ mirror_at w (i / w) (w - 1 - i % w) lt
    ∙ omega (arith, div-add-mod' i w)

-- the place of an index's place is the index
pub place-place : (m : Bool) (w i : ℕ) → 0 < w → place m w (place m w i) ≡ i
place-place false w i h = refl
place-place true w i h = mirror-mirror w i h

-- an index in a part of whole words is mirrored within that part
pub mirror_part : (w d q r : ℕ) → 0 < w → r < d * w →
    mirror w (q * (d * w) + r) ≡ q * (d * w) + mirror w r
mirror_part w d q r h b =
    let low = mod_below r w h in
    ap (mirror w) (omega (arith, div-add-mod' r w)) ∙ mirror_at w (q * d + r / w) (r % w) low
    ∙ omega (arith, mirror_is w r h)

-- an index of a part of whole words has its place in that part
pub place_part : (m : Bool) (w d q r : ℕ) → 0 < w → r < d * w →
    place m w (q * (d * w) + r) ≡ q * (d * w) + place m w r
place_part false w d q r h b = refl
place_part true w d q r h b = mirror_part w d q r h b

-- an index below a capacity of whole words has its place below it
pub place_below : (m : Bool) (w d i : ℕ) → 0 < w → i < d * w → place m w i < d * w
place_below false w d i h b = b
place_below true w d i h b =
    let row = div_below i w d h b in
    let low : w - 1 - i % w < w = omega arith in
    omega (arith, mirror_is w i h, mul-add-lt (i / w) w (w - 1 - i % w) d row low)

-- two places are the same exactly if their indexes are the same
pub place_eq : (m : Bool) (w i j : ℕ) → 0 < w → (place m w i == place m w j) ≡ (i == j)
place_eq m w i j h =
    elim (cases_eq i j) [
      | inl e ↦ rw e (eq-eqb _ _ refl ∙ sym (eq-eqb _ _ refl))
      | inr n ↦ ne_eqb _ _ (λ e. n (sym (place-place m w i h) ∙ ap (place m w) e
          ∙ place-place m w j h)) ∙ sym (ne_eqb _ _ n)
    ]

-- an index past a capacity of whole words has its place past it
pub place_past : (m : Bool) (w d i : ℕ) → 0 < w → d * w ≤ i → d * w ≤ place m w i
place_past m w d i h b =
    elim (cases_lt (place m w i) (d * w)) [
      | inl l ↦ absurd (let t = place_below m w d (place m w i) h l in
          omega (arith, place-place m w i h))
      | inr g ↦ g
    ]

-- a place is below a capacity of whole words exactly if its index is
pub place_inside : (m : Bool) (w d i : ℕ) → 0 < w → nat_lt (place m w i) (d * w) ≡ nat_lt i (d * w)
place_inside m w d i h =
    elim (cases_lt i (d * w)) [
      | inl l ↦ lt-ltb _ _ (place_below m w d i h l) ∙ sym (lt-ltb _ _ l)
      | inr g ↦ le-ltb _ _ (place_past m w d i h g) ∙ sym (le-ltb _ _ g)
    ]

-- within one word, the place of an index is below the width
pub place_in_word : (m : Bool) (w i : ℕ) → i < w → place m w i < w
place_in_word m w i h =
    let b : i < 1 * w = omega arith in
    let t = place_below m w 1 i (omega arith) b in omega arith

-- the mirrored index is how far the index lies below the last index of the word
pub mirror_in_word : (w i : ℕ) → i < w → mirror w i ≡ w - 1 - i
unfolding mirror
mirror_in_word w i h = let e = mod-eq_of_lt h in omega arith
