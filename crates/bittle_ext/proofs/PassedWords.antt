-- Words that a view skips because its sets skip them.
use Rattle.std.proofs.Common.{◌≡◌, ℕ, ◌*◌, ◌/◌, ◌%◌, ◌<◌, ◌≤◌, Bool, true, false, cond, not, ◌&&◌}
use Rattle.std.proofs.Common.{nat_lt, min, max, inl, inr, refl, ap, ◌∙◌, arith}
use Rattle.std.proofs.Math.Nat.{mul-le-mul_right}
use Rattle.std.proofs.lemmas.Bool.{cases_lt, and_right}
use Rattle.bittle.specs.PlainSet.{PlainSet, complement, is_in_span, lacks}
use Rattle.bittle.specs.Orders.{read_in}
use Rattle.bittle.specs.Searches.{NoneIn, PassesOver}
use Rattle.bittle.specs.Walk.{ones_or_zeros}
use Rattle.bittle_bits.proofs.DecidedWords.{words_make_up}
use Rattle.bittle_bits.proofs.OnesOrZeros.{passes_in_order}
use Rattle.bittle_ext.specs.RangeMembers.{kind_within}
use Rattle.bittle_ext.specs.ViewLaws.{whole_words_of}
use Rattle.bittle_ext.specs.Views.{read_back}
use Rattle.bittle_ext.proofs.ViewFacts.{read_back_is}

-- ---- words past the end of a set

-- words past the last one of a set have no member
pub none_after : (w c low high last : ℕ) (s : PlainSet) → 0 < w →
    (words : ℕ) × (s.capacity ≡ words * w) → ((i : ℕ) → s.capacity ≤ i → s.has i ≡ false) →
    c ≡ s.capacity → last ≡ min high (c / w) → last ≤ low → NoneIn s (low * w) (high * w)
none_after w c low high last s word whole past is least from = λ k lo hi.
    elim (cases_lt (c / w) high) [
      | inl l ↦
          let same : last ≡ c / w = omega (arith, least, l) in
          let up : last * w ≤ low * w = mul-le-mul_right w from in
          let at : last * w ≡ s.capacity = ap (λ n. n * w) same ∙ all in
          past k (omega (arith, up, at, lo))
      | inr g ↦
          let up : high * w ≤ low * w = mul-le-mul_right w (omega (arith, least, from, g)) in
          absurd (omega (arith, up, lo, hi))
    ]
  where
    all : c / w * w ≡ s.capacity
    all = ap (λ n. n / w * w) is ∙ words_make_up w s.capacity word whole

-- words without a member can all be skipped
pub passes_all : (front : Bool) (w low high : ℕ) (s : PlainSet) → low ≤ high →
    NoneIn s (low * w) (high * w) →
    PassesOver front w s low high (cond front high low)
passes_all true w low high s ordered none = (ordered, omega arith, none)
passes_all false w low high s ordered none = (omega arith, ordered, none)

-- if all words up to `last` are skipped from the front, and the rest have no member, all words are
-- skipped
pub passes_to_end : (w low last high : ℕ) (s : PlainSet) → last ≤ high →
    NoneIn s (last * w) (high * w) → PassesOver true w s low last last →
    PassesOver true w s low high high
passes_to_end w low last high s far none p = (
  omega (arith, p.0, far),
  omega arith,
  λ k lo hi. elim (cases_lt k (last * w)) [
    | inl l ↦ p.2 k lo l
    | inr g ↦ none k g hi
  ],
)

-- if some words of low..last are skipped, and the rest up to `high` have no member, the same end
-- holds for low..high
pub passes_further : (front : Bool) (w low last high r : ℕ) (s : PlainSet) → last ≤ high →
    NoneIn s (last * w) (high * w) → PassesOver front w s low last r →
    PassesOver front w s low high r
passes_further true w low last high r s far none p = (p.0, omega (arith, p.1, far), p.2)
passes_further false w low last high r s far none p = (
  p.0,
  omega (arith, p.1, far),
  λ k lo hi. elim (cases_lt k (last * w)) [
    | inl l ↦ p.2 k lo l
    | inr g ↦ none k g hi
  ],
)

-- ---- words of two sets

-- words that are skipped in a set can be skipped in a set that has no other members
pub passes_fewer : (front : Bool) (w low high r : ℕ) (s t : PlainSet) →
    ((k : ℕ) → s.has k ≡ false → t.has k ≡ false) → PassesOver front w s low high r →
    PassesOver front w t low high r
passes_fewer true w low high r s t fewer p = (p.0, p.1, λ k lo hi. fewer k (p.2 k lo hi))
passes_fewer false w low high r s t fewer p = (p.0, p.1, λ k lo hi. fewer k (p.2 k lo hi))

-- words that are skipped from the front, and then more after them, are skipped together
pub passes_from : (w low high mid r : ℕ) (s : PlainSet) → PassesOver true w s low high mid →
    PassesOver true w s mid high r → PassesOver true w s low high r
passes_from w low high mid r s p q = (
  omega (arith, p.0, q.0),
  q.1,
  λ k lo hi. elim (cases_lt k (mid * w)) [
    | inl l ↦ p.2 k lo l
    | inr g ↦ q.2 k g hi
  ],
)

pub passes_back : (w low high mid r : ℕ) (s : PlainSet) → PassesOver false w s low high mid →
    PassesOver false w s low mid r → PassesOver false w s low high r
passes_back w low high mid r s p q = (
  q.0,
  omega (arith, p.1, q.1),
  λ k lo hi. elim (cases_lt k (mid * w)) [
    | inl l ↦ q.2 k lo l
    | inr g ↦ p.2 k g hi
  ],
)

-- the words that both sets pass over, where what is in neither is no member
module _ (w low high o p r : ℕ) (s t d : PlainSet)
    (neither : (k : ℕ) → s.has k ≡ false → t.has k ≡ false → d.has k ≡ false) where
  pub passes_nearer : PassesOver true w s low high o → PassesOver true w t low high p →
      r ≡ min o p → PassesOver true w d low high r
  passes_nearer ours theirs is =
      let near : r * w ≤ o * w = mul-le-mul_right w (omega (arith, is)) in
      let far : r * w ≤ p * w = mul-le-mul_right w (omega (arith, is)) in (
        omega (arith, ours.0, theirs.0, is),
        omega (arith, ours.1, is),
        λ k lo hi. neither k (ours.2 k lo (omega (arith, hi, near)))
            (theirs.2 k lo (omega (arith, hi, far))),
      )

  pub passes_later : PassesOver false w s low high o → PassesOver false w t low high p →
      r ≡ max o p → PassesOver false w d low high r
  passes_later ours theirs is =
      let near : o * w ≤ r * w = mul-le-mul_right w (omega (arith, is)) in
      let far : p * w ≤ r * w = mul-le-mul_right w (omega (arith, is)) in (
        omega (arith, ours.0, is),
        omega (arith, ours.1, theirs.1, is),
        λ k lo hi. neither k (ours.2 k (omega (arith, lo, near)) hi)
            (theirs.2 k (omega (arith, lo, far)) hi),
      )

-- words that are skipped in a set can be skipped in the set that is read back
pub passes_read_back : (front ones m : Bool) (w low high r : ℕ) (d : PlainSet) → 0 < w →
    d.capacity % w ≡ 0 → ones ≡ true → PassesOver front w d low high r →
    PassesOver front w (ones_or_zeros ones (read_back m w d)) low high r
passes_read_back front ones m w low high r d word whole is p =
    rw (is, read_back_is m w d) (passes_in_order front true m w low high r d word
    (whole_words_of w d.capacity whole) p)

-- words that are skipped in a set can be skipped in the complement of its complement
pub passes_complement : (front : Bool) (w low high r : ℕ) (s : PlainSet) →
    PassesOver front w s low high r →
    PassesOver front w (complement (complement s)) low high r
unfolding lacks
passes_complement front w low high r s = passes_fewer front w low high r s
    (complement (complement s)) (λ k e. twice k e)
  where
    none : (b : Bool) → (b && not (b && true)) ≡ false
    none true = refl
    none false = refl

    twice : (k : ℕ) → s.has k ≡ false → (complement (complement s)).has k ≡ false
    twice k e = rw e (none (nat_lt k s.capacity))

-- words that are skipped in a set for a kind of bits can be skipped in a view of a range of that
-- kind
pub passes_within : (front kind m : Bool) (w low high r from to : ℕ) (s : PlainSet) → 0 < w →
    (words : ℕ) × (s.capacity ≡ words * w) →
    PassesOver front w (ones_or_zeros kind s) low high r →
    PassesOver front w (read_back m w (kind_within kind (read_in m w s) from to)) low high r
passes_within front kind m w low high r from to s word whole p =
    let t = read_in m w s in
    let d : PlainSet = kind_within kind t from to in
    rw (read_back_is m w d) (passes_in_order front true m w low high r d word whole
    (passes_fewer front w low high r (ones_or_zeros kind t) d
    (λ k e. ap (λ b. is_in_span from to k && b) e ∙ and_right (is_in_span from to k) false refl)
    (passes_in_order front kind m w low high r s word whole p)))
