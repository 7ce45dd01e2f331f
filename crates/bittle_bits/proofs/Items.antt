-- The members of a set in a range, and the items of a buffered word, as lists.
use Rattle.std.proofs.Common.{◌≡◌, ℕ, ◌+◌, ◌-◌, ◌*◌, ◌<◌, ◌≤◌, Bool, [], ◌++◌, append-nil, refl}
use Rattle.std.proofs.Common.{sym, ap, ◌∙◌, arith}
use Rattle.bittle_bits.specs.Buffers.{members_between, items_of}
use Rattle.bittle_bits.specs.BitPatterns.{bit_set}
use Rattle.bittle_bits.specs.Orders.{read_in}
use Rattle.bittle_bits.specs.PlainSet.{PlainSet, ascending}
use Rattle.bittle_bits.specs.Searches.{NoneIn}
use Rattle.bittle_bits.specs.Words.{word_of}
use Rattle.bittle_bits.proofs.AscendingLists.{ascending_from-add, ascending_from-none}
use Rattle.bittle_bits.proofs.AscendingLists.{ascending_from-moved}
use Rattle.bittle_bits.proofs.Words.{digit_at}

-- the members in a range are those in its first part, then those in the rest
pub members_between-split : (s : PlainSet) (a m b : ℕ) → a ≤ m → m ≤ b →
    members_between s a b ≡ members_between s a m ++ members_between s m b
unfolding members_between
members_between-split s a m b lo hi = ascending_from-add s.has a (m - a) (b - m) (b - a) m
    (omega arith) (omega arith)

-- there are no members in an empty range
pub members_between-empty : (s : PlainSet) (a : ℕ) → members_between s a a ≡ []
unfolding members_between
members_between-empty s a = ascending_from-none s.has a (a - a) (λ k lo hi. absurd (omega arith))

-- there are no members in a range if no number of it is a member
pub members_between-none : (s : PlainSet) (a b : ℕ) → NoneIn s a b → members_between s a b ≡ []
unfolding members_between
members_between-none s a b none =
    ascending_from-none s.has a (b - a) (λ k lo hi. none k lo (omega arith))

-- the members from 0 up to the capacity are all members
pub members_between-all : (s : PlainSet) (a c : ℕ) → a ≡ 0 → c ≡ s.capacity →
    members_between s a c ≡ ascending s
unfolding members_between
members_between-all s a c none is = let e : c - a ≡ s.capacity = omega arith in rw (e, none) refl

-- the members in a range are all members, if none lies before it or after it
pub members_between-inner : (s : PlainSet) (a b c : ℕ) → a ≤ b → b ≤ c → c ≡ s.capacity →
    NoneIn s 0 a → NoneIn s b c → members_between s a b ≡ ascending s
members_between-inner s a b c lo hi is before after =
    sym (append-nil _) ∙ ap (λ xs. members_between s a b ++ xs)
    (sym (members_between-none s b c after))
    ∙ sym (members_between-split s a b c lo hi)
    ∙ ap (λ xs. xs ++ members_between s a c) (sym (members_between-none s 0 a before))
    ∙ sym (members_between-split s 0 a c (omega arith) (omega arith))
    ∙ members_between-all s 0 c refl is

-- the items of word k are the members of the set from k * w on
pub items_of-word : (m : Bool) (w k : ℕ) (s : PlainSet) (d : ℕ) → 0 < w →
    bit_set w d ≡ word_of w s k → items_of m w (bit_set w d) (k * w)
    ≡ members_between (read_in m w s) (k * w) (k * w + w)
unfolding members_between
items_of-word m w k s d word is =
    let n : k * w + w - k * w ≡ w = omega arith in
    rw n (ascending_from-moved (read_in m w (bit_set w d)).has (read_in m w s).has (k * w) 0
    (k * w) w (omega arith) (λ i lo hi. sym (digit_at m w k s d word is i (omega arith))))
