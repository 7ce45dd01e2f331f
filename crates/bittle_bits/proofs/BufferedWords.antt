-- Buffered words: words without an item, and what a scan takes.
use Rattle.std.proofs.Common.{◌≡◌, ◌≢◌, inl, inr, ℕ, ◌+◌, ◌-◌, Bool, true, false, cond, List, []}
use Rattle.std.proofs.Common.{◌∷◌, length, length-append, map, Option, Some, None, ◌&&◌, bit_and}
use Rattle.std.proofs.Common.{refl, ap, ◌∙◌, arith}
use Rattle.std.proofs.Math.Bool.{and-true}
use Rattle.std.proofs.Math.Path.{fun_ext}
use Rattle.std.proofs.lemmas.Bool.{cases_Bool, cases_lt, lt-ltb}
use Rattle.std.proofs.lemmas.List.{map-append}
use Rattle.bittle_bits.specs.BitPatterns.{bit_has, bit_set}
use Rattle.bittle_bits.specs.Buffers.{bits_left, edge_from_first, buffered_items, buffer_count}
use Rattle.bittle_bits.specs.Buffers.{items_in, IsSound}
use Rattle.bittle_bits.specs.Ends.{with_end, YieldsPlace}
use Rattle.bittle_bits.specs.LawProofs.{bit_has-past}
use Rattle.bittle_bits.specs.Orders.{read_in}
use Rattle.bittle_bits.specs.PlainSet.{PlainSet, ascending, full_set}
use Rattle.bittle_bits.specs.declared.internal.buffer.BufferedWord.{BufferedWord}
use Rattle.bittle_bits.proofs.BitSets.{bit_has-and}
use Rattle.bittle_bits.proofs.PlainSets.{plain_set}

-- a list with an item at an end is not empty
pub not_empty : (front : Bool) (x : ℕ) (xs : List ℕ) → with_end front x xs ≢ []
not_empty true x xs none = cc
not_empty false x xs none = let e = ap length none in omega (arith, e, length-append xs (x ∷ []))

-- an item at an end stays at that end if all items are moved by a base
moved_end : (front : Bool) (base x : ℕ) (xs : List ℕ) →
    map (λ i. base + i) (with_end front x xs) ≡ with_end front (base + x) (map (λ i. base + i) xs)
moved_end true base x xs = refl
moved_end false base x xs = map-append _ _ _

-- a list that is empty after all items are moved was empty before
pub moved_none : (base : ℕ) (xs : List ℕ) → map (λ i. base + i) xs ≡ [] → xs ≡ []
moved_none base [] e = refl
moved_none base (x ∷ xs) e = cc

-- a mask with each bit set leaves each bit of a word
pub left_by_all : (w d mask : ℕ) → bit_set w mask ≡ full_set w →
    bit_set w (bit_and d mask) ≡ bit_set w d
left_by_all w d mask all = ap (plain_set w) (bit_has-and w d mask ∙ fun_ext λ k.
    ap (λ s. bit_has w d k && s.has k) all
    ∙ elim (cases_lt k w) [
      | inl l ↦ rw (lt-ltb k w l) (and-true _)
      | inr g ↦ rw (bit_has-past w d k g) refl
    ])

-- what a call takes from a word at an end, it takes from the bits of the word
pub taken_from_bits : {W : Type 0} (front : Bool) (index : ℕ → ℕ) (read : PlainSet → List ℕ)
    (bits : W → PlainSet) (r : Option ℕ) (c d : W) →
    YieldsPlace front index (λ v. read (bits v)) c r d →
    YieldsPlace front index read (bits c) r (bits d)
taken_from_bits front index read bits None c d found = (found.0, ap bits found.1)
taken_from_bits front index read bits (Some at) c d found = found

module _ {W : Type 0} (m : Bool) (w : ℕ) (pattern : W → ℕ) where
  -- the count of a buffered word is 1 if it is loaded, and else 0
  pub loaded_count : (c : BufferedWord W) →
      buffer_count (buffered_items m w pattern c) ≡ cond c.is_loaded 1 0
  unfolding buffered_items
  loaded_count c = elim (cases_Bool c.is_loaded) [
    | inl is ↦ rw is refl
    | inr is ↦ rw is refl
  ]

  -- a word without a member has no item
  pub without_items : (c : BufferedWord W) →
      ascending (read_in m w (bits_left w pattern c)) ≡ [] →
      items_in (buffered_items m w pattern c) ≡ []
  unfolding buffered_items
  without_items c none = elim (cases_Bool c.is_loaded) [
    | inl is ↦ rw (is, none) refl
    | inr is ↦ rw is refl
  ]

  -- a word with a member is loaded
  pub with_member : (c : BufferedWord W) → IsSound m w pattern c →
      ascending (read_in m w (bits_left w pattern c)) ≢ [] → c.is_loaded ≡ true
  unfolding IsSound
  with_member c sound some = elim (cases_Bool c.is_loaded) [
    | inl is ↦ is
    | inr is ↦ absurd (some (sound.1 is))
  ]

  -- a word with a member has an item
  pub with_items : (c : BufferedWord W) → IsSound m w pattern c →
      ascending (read_in m w (bits_left w pattern c)) ≢ [] →
      items_in (buffered_items m w pattern c) ≢ []
  unfolding buffered_items
  with_items c sound some none =
      some (moved_none _ _ (rw (with_member c sound some) at none))

  -- after a word without a member is dropped, no word is loaded, and the buffer is sound
  pub dropped : (word mask : W) (edge : ℕ) (d : BufferedWord W) →
      ascending (read_in m w (bit_set w (bit_and (pattern word) (pattern mask)))) ≡ [] →
      d ≡ record { word = word; mask = mask; edge = edge; is_loaded = false } →
      (buffered_items m w pattern d ≡ None) × IsSound m w pattern d
  unfolding buffered_items IsSound
  dropped word mask edge d none e = rw e (refl, ((λ is. absurd cc), (λ is. none)))

  -- a buffered word whose bits that are left stay has the same items, and stays sound
  pub same_left : (c d : BufferedWord W) → bits_left w pattern d ≡ bits_left w pattern c →
      d.edge ≡ c.edge → d.is_loaded ≡ c.is_loaded →
      (buffered_items m w pattern d ≡ buffered_items m w pattern c)
      × (IsSound m w pattern c → IsSound m w pattern d)
  unfolding buffered_items IsSound
  same_left c d left edge is = rw (left, edge, is) (refl, λ sound. sound)

  -- a loaded word that loses the member at an end loses the item at that end
  pub taken : (front : Bool) (c d : BufferedWord W) (x : ℕ) → c.is_loaded ≡ true →
      d.is_loaded ≡ true → d.edge ≡ c.edge →
      ascending (read_in m w (bits_left w pattern c))
      ≡ with_end front x (ascending (read_in m w (bits_left w pattern d))) →
      (xs : List ℕ)
      × (buffered_items m w pattern c
      ≡ Some (with_end front (c.edge - edge_from_first m w + x) xs))
      × (buffered_items m w pattern d ≡ Some xs)
  unfolding buffered_items
  taken front c d x is after edge found = (
    map (λ i. c.edge - edge_from_first m w + i)
        (ascending (read_in m w (bits_left w pattern d))),
    rw (is, found) (ap Some (moved_end front (c.edge - edge_from_first m w) x _)),
    rw (after, edge) refl,
  )
