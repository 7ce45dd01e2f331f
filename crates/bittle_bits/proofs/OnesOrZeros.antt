-- What an iterator or a search over one kind of bits goes over: the set itself, or its complement.
use Rattle.std.proofs.Common.{◌≡◌, ℕ, ◌+◌, ◌-◌, ◌*◌, ◌^◌, ◌<◌, ◌≤◌, Bool, true, false, inl, inr}
use Rattle.std.proofs.Common.{List, refl, ap, ◌∙◌, subst, arith}
use Rattle.std.proofs.Math.Path.{fun_ext}
use Rattle.std.proofs.lemmas.Bool.{cases_lt, lt-ltb, le-ltb}
use Rattle.bittle_bits.specs.BitPatterns.{bit_has, bit_set}
use Rattle.bittle_bits.specs.Orders.{place, read_in}
use Rattle.bittle_bits.specs.PlainSet.{PlainSet, ascending, complement, lacks}
use Rattle.bittle_bits.specs.Searches.{NoneIn, PassesOver}
use Rattle.bittle_bits.specs.Walk.{ones_or_zeros, AreBelow}
use Rattle.bittle_bits.specs.Words.{word_has, word_of}
use Rattle.bittle_bits.proofs.AscendingLists.{are_below}
use Rattle.bittle_bits.proofs.BitSets.{bit_has-not}
use Rattle.bittle_bits.proofs.PlaceLemmas.{place_below, place_past}
use Rattle.bittle_bits.proofs.PlainSets.{plain_set, complement-members}

-- a set and its complement have the same capacity
pub ones_or_zeros-capacity : (ones : Bool) (s : PlainSet) →
    (ones_or_zeros ones s).capacity ≡ s.capacity
ones_or_zeros-capacity true s = refl
ones_or_zeros-capacity false s = refl

-- the bits of the kind lie below the capacity of the set
pub ones_or_zeros-below : (ones : Bool) (s : PlainSet) (items : List ℕ) →
    items ≡ ascending (ones_or_zeros ones s) → AreBelow s.capacity items
ones_or_zeros-below ones s items e = subst (λ c. AreBelow c items) (ones_or_zeros-capacity ones s)
    (are_below (ones_or_zeros ones s) items e)

-- taking the bits of the kind before reading in an order gives the same as taking them after it
pub ones_or_zeros-members : (ones m : Bool) (w : ℕ) (s : PlainSet) → 0 < w →
    (words : ℕ) × (s.capacity ≡ words * w) →
    ones_or_zeros ones (read_in m w s) ≡ read_in m w (ones_or_zeros ones s)
ones_or_zeros-members true m w s word whole = refl
ones_or_zeros-members false m w s word whole = complement-members m w s word whole

-- the bits that a word lacks are the bits of the inverted word
pub digits_of_complement : (w d e : ℕ) → d < 2 ^ w → e ≡ 2 ^ w - 1 - d →
    bit_set w e ≡ complement (bit_set w d)
digits_of_complement w d e fits is = ap (plain_set w) (ap (bit_has w) is ∙ bit_has-not w d fits)

-- the bits of the kind in word k are word k of the bits of the kind in the set
pub ones_or_zeros-word_of : (ones : Bool) (w k : ℕ) (s : PlainSet) → k * w + w ≤ s.capacity →
    ones_or_zeros ones (word_of w s k) ≡ word_of w (ones_or_zeros ones s) k
unfolding word_has lacks
ones_or_zeros-word_of true w k s within = refl
ones_or_zeros-word_of false w k s within =
    ap (plain_set w) (fun_ext λ i. elim (cases_lt i w) [
      | inl l ↦ rw (lt-ltb i w l, lt-ltb (k * w + i) s.capacity (omega arith)) refl
      | inr g ↦ rw (le-ltb i w g) refl
    ])

-- words with no bit of the kind have none in any order
pub none_in_order : (ones m : Bool) (w a b : ℕ) (s : PlainSet) → 0 < w →
    (words : ℕ) × (s.capacity ≡ words * w) → NoneIn (ones_or_zeros ones s) (a * w) (b * w) →
    NoneIn (ones_or_zeros ones (read_in m w s)) (a * w) (b * w)
none_in_order ones m w a b s word whole none = λ k lo hi.
    ap (λ t. t.has k) (ones_or_zeros-members ones m w s word whole)
    ∙ none (place m w k) (place_past m w a k word lo) (place_below m w b k word hi)

-- words that are passed over in the set are passed over in each order
pub passes_in_order : (front ones m : Bool) (w low high r : ℕ) (s : PlainSet) → 0 < w →
    (words : ℕ) × (s.capacity ≡ words * w) →
    PassesOver front w (ones_or_zeros ones s) low high r →
    PassesOver front w (ones_or_zeros ones (read_in m w s)) low high r
passes_in_order true ones m w low high r s word whole p =
    (p.0, p.1, none_in_order ones m w low r s word whole p.2)
passes_in_order false ones m w low high r s word whole p =
    (p.0, p.1, none_in_order ones m w r high s word whole p.2)
