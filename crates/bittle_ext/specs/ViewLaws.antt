-- Proofs of the laws that a view's impl of `ReadWords` has to give.
use Rattle.std.proofs.Common.{◌≡◌, ℕ, ◌-◌, ◌*◌, ◌/◌, ◌%◌, ◌<◌, ◌≤◌, Bool, true, false, ◌&&◌, nat_le}
use Rattle.std.proofs.Common.{refl, ap, ◌∙◌, arith}
use Rattle.std.proofs.lemmas.Bool.{le-ltb, and_right}
use Rattle.std.proofs.lemmas.Nat.{div-add-mod'}
use Rattle.bittle.specs.Orders.{read_in}
use Rattle.bittle.specs.PlainSet.{PlainSet, lacks, complement, is_in_span}
use Rattle.bittle.specs.SetOperations.{just_one}
use Rattle.bittle.specs.Walk.{ones_or_zeros}
use Rattle.bittle_bits.proofs.OnesOrZeros.{ones_or_zeros-capacity}
use Rattle.bittle_bits.proofs.PlainSets.{members-past}
use Rattle.bittle_ext.specs.Edges.{edges}
use Rattle.bittle_ext.specs.RangeMembers.{kind_within}
use Rattle.bittle_ext.specs.Rotations.{has_shifted_up}
use Rattle.bittle_ext.specs.Views.{decided_until, is_placed, read_back, HoldsBoth}

-- a capacity that is a multiple of the word width is a number of whole words
pub whole_words_of : (w c : ℕ) → c % w ≡ 0 → (words : ℕ) × (c ≡ words * w)
whole_words_of w c whole = (c / w, omega (arith, div-add-mod' c w, whole))

-- if the capacity of s is whole words, and s has no member from there on, the set that `read_back`
-- makes of s has none there either
none_past_back : (m : Bool) (w : ℕ) (s : PlainSet) → 0 < w →
    (words : ℕ) × (s.capacity ≡ words * w) → ((i : ℕ) → s.capacity ≤ i → s.has i ≡ false) →
    (i : ℕ) → s.capacity ≤ i → (read_back m w s).has i ≡ false
unfolding is_placed
none_past_back true w s word whole past = members-past true w s word whole past
none_past_back false w s word whole past = past

-- the result of an operation on two sets, read back, has no member from `end` on
pub none_past_both : (f : Bool → Bool → Bool) (m : Bool) (w : ℕ) (s t : PlainSet) (end : ℕ) →
    0 < w → HoldsBoth f w s t end → (i : ℕ) → end ≤ i →
    (read_back m w (decided_until f end s t)).has i ≡ false
none_past_both f m w s t end word holds =
    none_past_back m w (decided_until f end s t) word (whole_words_of w end holds.whole) holds.past

-- no number past the capacity is in a complement
pub none_past_complement : (s : PlainSet) (i : ℕ) → s.capacity ≤ i → (complement s).has i ≡ false
unfolding lacks
none_past_complement s i past = rw (le-ltb i s.capacity past) refl

-- if the capacity of s is whole words, and s has no member from there on, s as read in an order has
-- no bit of either kind (set or unset) there
none_past_kind : (ones m : Bool) (w : ℕ) (s : PlainSet) → 0 < w →
    (words : ℕ) × (s.capacity ≡ words * w) → ((i : ℕ) → s.capacity ≤ i → s.has i ≡ false) →
    (i : ℕ) → s.capacity ≤ i → (ones_or_zeros ones (read_in m w s)).has i ≡ false
none_past_kind true m w s word whole past = members-past m w s word whole past
none_past_kind false m w s word whole past = none_past_complement (read_in m w s)

-- if the capacity of s is whole words, and s has no member from there on, the set of the bits of
-- one kind (set or unset) in a range of s, read back, has none there either
pub none_past_within : (ones m : Bool) (w : ℕ) (s : PlainSet) (from to : ℕ) → 0 < w →
    (words : ℕ) × (s.capacity ≡ words * w) → ((i : ℕ) → s.capacity ≤ i → s.has i ≡ false) →
    (i : ℕ) → s.capacity ≤ i →
    (read_back m w (kind_within ones (read_in m w s) from to)).has i ≡ false
none_past_within ones m w s from to word whole past =
    none_past_back m w (kind_within ones (read_in m w s) from to) word whole
    (λ i h. ap (λ b. is_in_span from to i && b) (none_past_kind ones m w s word whole past i h)
    ∙ and_right (is_in_span from to i) false refl)

-- if the capacity of s is whole words, and s has no member from there on, the edges of s, read
-- back, have none there either
pub none_past_edges : (ones m : Bool) (w : ℕ) (s : PlainSet) → 0 < w →
    (words : ℕ) × (s.capacity ≡ words * w) → ((i : ℕ) → s.capacity ≤ i → s.has i ≡ false) →
    (i : ℕ) → s.capacity ≤ i → (read_back m w (edges ones (read_in m w s))).has i ≡ false
unfolding has_shifted_up
none_past_edges ones m w s word whole past =
    let t = ones_or_zeros ones (read_in m w s) in
    let end = ones_or_zeros-capacity ones (read_in m w s) in
    none_past_back m w (edges ones (read_in m w s)) word whole (λ i h.
    rw (none_past_kind ones m w s word whole past i h, le-ltb i t.capacity (omega (arith, h, end)))
    (ap (λ b. just_one false (b && t.has (i - 1))) (and_right (nat_le 1 i) false refl)))
