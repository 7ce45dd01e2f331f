-- A word as two halves: its bits, its items in each order, what is left after an item is taken out
-- of a half, and an operation on each half.
use Rattle.std.proofs.Common.{◌≡◌, ℕ, ◌+◌, ◌-◌, ◌*◌, ◌^◌, ◌<◌, Bool, true, false, ◌==◌, cond, List}
use Rattle.std.proofs.Common.{[], ◌∷◌, ◌++◌, map, inl, inr, refl, sym, ap, ◌∙◌, arith}
use mathlib.Core.Bool.{beq}
use Rattle.std.specs.Int.{bit_at}
use Rattle.std.proofs.lemmas.Nat.Bits.{bit_at_cat_low, bit_at_cat_high}
use Rattle.std.proofs.lemmas.Bool.{cases_lt}
use Rattle.std.proofs.lemmas.List.{append-nil, append_assoc, map-append}
use Rattle.bittle_bits.specs.BitPatterns.{bit_has, bit_set}
use Rattle.bittle_bits.specs.Ends.{with_end}
use Rattle.bittle_bits.specs.Orders.{mirror, place, read_in}
use Rattle.bittle_bits.specs.PlainSet.{ascending_from, ascending}
use Rattle.bittle_bits.specs.SetOperations.{combination_of}
use Rattle.bittle_bits.proofs.AscendingLists.{ascending_from-add, ascending_from-same}
use Rattle.bittle_bits.proofs.AscendingLists.{ascending_from-moved}
use Rattle.bittle_bits.proofs.BitSets.{bit_has-at}
use Rattle.bittle_bits.proofs.PlaceLemmas.{mirror_in_word}
use Rattle.bittle_bits.proofs.SetOperations.{combination-below}
use Rattle.bittle_bits.proofs.WordOperations.{digits_combined}
use Rattle.bittle_bits.proofs.WordSizes.{zero_lists_none}

-- a word by its halves, `low` of the lesser weights and `high` of the greater weights
module _ (h w low high : ℕ) (whole : w ≡ h + h) (fits : low < 2 ^ h) where
  -- a bit below the middle is a bit of the lesser half
  bit_below : (k : ℕ) → k < h → bit_has w (high * 2 ^ h + low) k ≡ bit_has h low k
  bit_below k l = bit_has-at w (high * 2 ^ h + low) k (omega arith)
      ∙ ap (λ b. b == 1) (bit_at_cat_low high h low k l) ∙ sym (bit_has-at h low k l)

  -- a bit from the middle on is a bit of the greater half
  bit_above : (k : ℕ) → k < h → bit_has w (high * 2 ^ h + low) (h + k) ≡ bit_has h high k
  bit_above k l =
      let far : h + k - h ≡ k = omega arith in
      bit_has-at w (high * 2 ^ h + low) (h + k) (omega arith)
      ∙ ap (λ b. b == 1) (bit_at_cat_high high h low (h + k) fits (omega arith)
      ∙ ap (bit_at high) far) ∙ sym (bit_has-at h high k l)

  -- in an order, the members before the middle are those of the half that comes first
  first_half : (m : Bool) (k : ℕ) → k < h → bit_has w (high * 2 ^ h + low) (place m w k)
      ≡ bit_has h (cond m high low) (place m h k)
  first_half false k l = bit_below k l
  first_half true k l =
      let far : w - 1 - k ≡ h + (h - 1 - k) = omega arith in
      ap (bit_has w (high * 2 ^ h + low)) (mirror_in_word w k (omega arith) ∙ far)
      ∙ bit_above (h - 1 - k) (omega arith) ∙ ap (bit_has h high) (sym (mirror_in_word h k l))

  -- in an order, the members from the middle on are those of the half that comes second
  second_half : (m : Bool) (k : ℕ) → k < h → bit_has w (high * 2 ^ h + low) (place m w (h + k))
      ≡ bit_has h (cond m low high) (place m h k)
  second_half false k l = bit_above k l
  second_half true k l =
      let far : w - 1 - (h + k) ≡ h - 1 - k = omega arith in
      ap (bit_has w (high * 2 ^ h + low)) (mirror_in_word w (h + k) (omega arith) ∙ far)
      ∙ bit_below (h - 1 - k) (omega arith) ∙ ap (bit_has h low) (sym (mirror_in_word h k l))

  -- in an order, the items are those of the half that comes first, then those of the other
  halves_listed : (m : Bool) → ascending (read_in m w (bit_set w (high * 2 ^ h + low)))
      ≡ ascending (read_in m h (bit_set h (cond m high low)))
      ++ map (λ k. h + k) (ascending (read_in m h (bit_set h (cond m low high))))
  halves_listed m =
      let all : ℕ → Bool = λ k. bit_has w (high * 2 ^ h + low) (place m w k) in
      ascending_from-add all 0 h h w h whole (omega arith)
      ∙ ap (λ xs. xs ++ ascending_from all h h) (ascending_from-same all
      (read_in m h (bit_set h (cond m high low))).has 0 h
      (λ k lo hi. first_half m k (omega arith)))
      ∙ ap (λ xs. ascending (read_in m h (bit_set h (cond m high low))) ++ xs)
      (sym (ascending_from-moved (read_in m h (bit_set h (cond m low high))).has all h 0 h h
      (omega arith) (λ k lo hi. second_half m k (omega arith))))

-- the item at an end, if it lies in the first part of the list
first_taken : (front : Bool) (v : ℕ) (xs rest ys : List ℕ) → (front ≡ false → ys ≡ []) →
    xs ≡ with_end front v rest → xs ++ ys ≡ with_end front v (rest ++ ys)
first_taken true v xs rest ys none is = ap (λ l. l ++ ys) is
first_taken false v xs rest ys none is = rw (none refl, is)
    (append-nil _ ∙ sym (ap (λ l. l ++ v ∷ []) (append-nil rest)))

-- the item at an end, if it lies in the second part, whose items are moved
second_taken : (front : Bool) (h v : ℕ) (xs ys rest : List ℕ) → (front ≡ true → xs ≡ []) →
    ys ≡ with_end front v rest → xs ++ map (λ k. h + k) ys
    ≡ with_end front (h + v) (xs ++ map (λ k. h + k) rest)
second_taken true h v xs ys rest none is = rw (none refl, is) refl
second_taken false h v xs ys rest none is = rw is
    (ap (λ l. xs ++ l) (map-append (λ k. h + k) rest (v ∷ []))
    ∙ sym (append_assoc xs (map (λ k. h + k) rest) ((h + v) ∷ [])))

-- an item is taken out of the greater half, if that lies at the end or the lesser half is 0
pub taken_high : (front m : Bool) (h w low high rest at : ℕ) → w ≡ h + h → low < 2 ^ h → at < h →
    (beq m front ≡ false → low ≡ 0) → ascending (read_in m h (bit_set h high))
    ≡ with_end front (place m h at) (ascending (read_in m h (bit_set h rest))) →
    ascending (read_in m w (bit_set w (high * 2 ^ h + low)))
    ≡ with_end front (place m w (h + at)) (ascending (read_in m w (bit_set w (rest * 2 ^ h + low))))
taken_high front false h w low high rest at whole fits inside none is =
    halves_listed h w low high whole fits false
    ∙ second_taken front h at _ _ _ (λ e. zero_lists_none false h low (none (ap (beq false) e))) is
    ∙ ap (with_end front (h + at)) (sym (halves_listed h w low rest whole fits false))
taken_high front true h w low high rest at whole fits inside none is =
    let far : mirror w (h + at) ≡ mirror h at = mirror_in_word w (h + at) (omega arith)
    ∙ omega (arith, mirror_in_word h at inside) in
    halves_listed h w low high whole fits true
    ∙ first_taken front (mirror h at) _ _ _
    (λ e. ap (map (λ k. h + k)) (zero_lists_none true h low (none (ap (beq true) e)))) is
    ∙ ap (with_end front (mirror h at)) (sym (halves_listed h w low rest whole fits true))
    ∙ ap (λ v. with_end front v (ascending (read_in true w (bit_set w (rest * 2 ^ h + low)))))
    (sym far)

-- an item is taken out of the lesser half, if that lies at the end or the greater half is 0
pub taken_low : (front m : Bool) (h w low high rest at : ℕ) → w ≡ h + h → low < 2 ^ h →
    rest < 2 ^ h → at < h → (beq m front ≡ true → high ≡ 0) →
    ascending (read_in m h (bit_set h low))
    ≡ with_end front (place m h at) (ascending (read_in m h (bit_set h rest))) →
    ascending (read_in m w (bit_set w (high * 2 ^ h + low)))
    ≡ with_end front (place m w at) (ascending (read_in m w (bit_set w (high * 2 ^ h + rest))))
taken_low front false h w low high rest at whole fits below inside none is =
    halves_listed h w low high whole fits false
    ∙ first_taken front at _ _ _
    (λ e. ap (map (λ k. h + k)) (zero_lists_none false h high (none (ap (beq false) e)))) is
    ∙ ap (with_end front at) (sym (halves_listed h w rest high whole below false))
taken_low front true h w low high rest at whole fits below inside none is =
    let far : mirror w at ≡ h + mirror h at = mirror_in_word w at (omega arith)
    ∙ omega (arith, mirror_in_word h at inside) in
    halves_listed h w low high whole fits true
    ∙ second_taken front h (mirror h at) _ _ _
    (λ e. zero_lists_none true h high (none (ap (beq true) e))) is
    ∙ ap (with_end front (h + mirror h at)) (sym (halves_listed h w rest high whole below true))
    ∙ ap (λ v. with_end front v (ascending (read_in true w (bit_set w (high * 2 ^ h + rest)))))
    (sym far)

-- an operation on each half of two words is the operation on the words
pub halves_combined : (f : Bool → Bool → Bool) (h w la ha lb hb lr hr a b r : ℕ) → w ≡ h + h →
    la < 2 ^ h → lb < 2 ^ h → lr < 2 ^ h → a ≡ ha * 2 ^ h + la → b ≡ hb * 2 ^ h + lb →
    r ≡ hr * 2 ^ h + lr → bit_set h lr ≡ combination_of f (bit_set h la) (bit_set h lb) →
    bit_set h hr ≡ combination_of f (bit_set h ha) (bit_set h hb) →
    bit_set w r ≡ combination_of f (bit_set w a) (bit_set w b)
halves_combined f h w la ha lb hb lr hr a b r whole fa fb fr ea eb er low high =
    digits_combined f w a b r (rw (ea, eb, er) each)
  where
    below : (k : ℕ) → k < h → bit_has w (hr * 2 ^ h + lr) k
        ≡ f (bit_has w (ha * 2 ^ h + la) k) (bit_has w (hb * 2 ^ h + lb) k)
    below k l = rw (
      bit_below h w lr hr whole fr k l,
      bit_below h w la ha whole fa k l,
      bit_below h w lb hb whole fb k l,
    ) (ap (λ s. s.has k) low ∙ combination-below f (bit_set h la) (bit_set h lb) k l l)

    above : (k : ℕ) → k < h → bit_has w (hr * 2 ^ h + lr) (h + k)
        ≡ f (bit_has w (ha * 2 ^ h + la) (h + k)) (bit_has w (hb * 2 ^ h + lb) (h + k))
    above k l = rw (
      bit_above h w lr hr whole fr k l,
      bit_above h w la ha whole fa k l,
      bit_above h w lb hb whole fb k l,
    ) (ap (λ s. s.has k) high ∙ combination-below f (bit_set h ha) (bit_set h hb) k l l)

    each : (k : ℕ) → k < w → bit_has w (hr * 2 ^ h + lr) k
        ≡ f (bit_has w (ha * 2 ^ h + la) k) (bit_has w (hb * 2 ^ h + lb) k)
    each k l = elim (cases_lt k h) [
      | inl lo ↦ below k lo
      | inr hi ↦
          let same : h + (k - h) ≡ k = omega arith in
          rw same at (above (k - h) (omega arith))
    ]
