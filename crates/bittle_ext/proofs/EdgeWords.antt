-- The words of a view of edges, and the words that it skips.
use Rattle.std.proofs.Common.{◌≡◌, ℕ, ◌+◌, ◌-◌, ◌*◌, ◌^◌, ◌<◌, ◌≤◌, ◌⊎◌, Bool, true, false, max}
use Rattle.std.proofs.Common.{inl, inr, refl, sym, ap, ◌∙◌, arith}
use Rattle.std.proofs.Math.Nat.{mul-le-mul_right}
use Rattle.std.proofs.Math.Path.{fun_ext}
use Rattle.std.proofs.lemmas.Bool.{cases_lt, le-ltb}
use Rattle.std.proofs.lemmas.Nat.{pow-add, pow_pos}
use Rattle.bittle.specs.BitPatterns.{bit_set}
use Rattle.bittle.specs.Orders.{place, read_in}
use Rattle.bittle.specs.PlainSet.{PlainSet}
use Rattle.bittle.specs.Searches.{PassesOver}
use Rattle.bittle.specs.SetOperations.{combination_of, just_one}
use Rattle.bittle.specs.Walk.{ones_or_zeros}
use Rattle.bittle.specs.Words.{word_has, word_of}
use Rattle.bittle_bits.specs.LawProofs.{bit_has-past}
use Rattle.bittle_bits.proofs.OnesOrZeros.{ones_or_zeros-capacity, ones_or_zeros-members}
use Rattle.bittle_bits.proofs.OnesOrZeros.{passes_in_order}
use Rattle.bittle_bits.proofs.PlaceLemmas.{place_past}
use Rattle.bittle_bits.proofs.PlainSets.{plain_set}
use Rattle.bittle_bits.proofs.Words.{word_ends, word_has-at}
use Rattle.bittle_ext.specs.Combined.{decided_set}
use Rattle.bittle_ext.specs.Edges.{edges}
use Rattle.bittle_ext.specs.Rotations.{shifted_up, has_shifted_up, IsWindow}
use Rattle.bittle_ext.specs.Views.{read_back}
use Rattle.bittle_ext.proofs.CombinedWords.{decided_in_order, word_in_order}
use Rattle.bittle_ext.proofs.RotatedSets.{up-before, up-inside, up-past}
use Rattle.bittle_ext.proofs.ShiftedWords.{has_so_far_below, none_before, up_is, window_below}
use Rattle.bittle_ext.proofs.ShiftedWords.{word_before}
use Rattle.bittle_ext.proofs.ViewFacts.{read_back_is, word_read_back}

-- a word has more than one bit
pub wide : (w : ℕ) → (log : ℕ) × (w ≡ 2 ^ (3 + log)) → 1 < w
wide w bytes = omega (arith, bytes.1, pow-add 2 3 bytes.0, pow_pos bytes.0)

module _ (ones m : Bool) (w : ℕ) (s : PlainSet) (word : 0 < w)
    (whole : (words : ℕ) × (s.capacity ≡ words * w)) where
  abbrev all : PlainSet
  all = ones_or_zeros ones (read_in m w s)

  in_order : all ≡ read_in m w (ones_or_zeros ones s)
  in_order = ones_or_zeros-members ones m w s word whole

  -- d is word k of the bits of a kind. e is the word before it, or 0 for the first word
  module _ (k d e u r : ℕ) (within : k * w < s.capacity)
      (is : bit_set w d ≡ word_of w (ones_or_zeros ones s) k)
      (before : ((k ≡ 0) × (e ≡ 0))
      ⊎ ((0 < k) × (bit_set w e ≡ word_of w (ones_or_zeros ones s) (k - 1)))) where
    abbrev kinds : PlainSet
    kinds = read_in m w (ones_or_zeros ones s)

    first : (i : ℕ) → i < w →
        (read_in m w (bit_set w e)).has i ≡ has_so_far_below kinds (1 * w) (k * w + i)
    first = elim before [
      | inl none ↦ none_before m w k 1 e kinds none.1 (omega (arith, none.0))
      | inr some ↦
          word_before m w k 1 e (ones_or_zeros ones s) word (omega (arith, some.0)) some.1
    ]

    second : (i : ℕ) → i < w →
        (read_in m w (bit_set w d)).has i ≡ has_so_far_below kinds (1 * w) ((k + 1) * w + i)
    second =
        let back : k ≡ k + 1 - 1 = omega arith in
        word_before m w (k + 1) 1 d (ones_or_zeros ones s) word (omega arith)
        (is ∙ ap (word_of w (ones_or_zeros ones s)) back)

    -- the window one bit below word k is word k of the set moved up by 1
    moved : IsWindow w (w - 1) (read_in m w (bit_set w e)) (read_in m w (bit_set w d))
        (read_in m w (bit_set w u)) →
        read_in m w (bit_set w u) ≡ word_of w (shifted_up all 1) k
    unfolding word_has
    moved window =
        let inside : k * w + w ≤ all.capacity =
        omega (
          arith,
          word_ends w k s.capacity whole within,
          ones_or_zeros-capacity ones
              (read_in m w s),
        ) in
        ap (plain_set w) (fun_ext λ i. elim (cases_lt i w) [
          | inl l ↦ window_below m w k 1 1 (w - 1) e d u kinds (omega arith) (omega (arith, word))
              first second window i l
              ∙ ap (λ t. has_so_far_below t 1 (k * w + i)) (sym in_order)
              ∙ sym (up_is all 1 (k * w + i) (omega (arith, inside, l)))
              ∙ sym (word_has-at w (shifted_up all 1) k i l)
          | inr g ↦ let past : 1 * w ≤ place m w i = place_past m w 1 i word (omega (arith, g)) in
              bit_has-past w u (place m w i) (omega (arith, past)) ∙ rw (le-ltb i w g) refl
        ])

    -- so the bits in which that window and word k differ are word k of the edges
    pub word_of_edges : IsWindow w (w - 1) (read_in m w (bit_set w e)) (read_in m w (bit_set w d))
        (read_in m w (bit_set w u)) →
        bit_set w r ≡ combination_of just_one (bit_set w d) (bit_set w u) →
        bit_set w r ≡ word_of w (read_back m w (edges ones (read_in m w s))) k
    word_of_edges window both = word_read_back m w k s.capacity r
        (decided_set just_one all (shifted_up all 1)) word
        (decided_in_order just_one m w k all (shifted_up all 1) r d u word both
        (word_in_order m w k (ones_or_zeros ones s) d word is
        ∙ ap (λ t. word_of w t k) (sym in_order)) (moved window))

  -- ---- words that are skipped

  -- a number has no edge if neither it nor the number right before it is a member
  none_at : (i : ℕ) → all.has i ≡ false → (0 < i → all.has (i - 1) ≡ false) →
      (edges ones (read_in m w s)).has i ≡ false
  none_at i here before = ap (λ b. just_one b (has_shifted_up all 1 i)) here
      ∙ elim (cases_lt i 1) [
        | inl l ↦ up-before all 1 i l
        | inr g ↦ elim (cases_lt i all.capacity) [
          | inl l ↦ up-inside all 1 i g l ∙ before g
          | inr far ↦ up-past all 1 i far
        ]
      ]

  read_back_passes : (front : Bool) (low high r : ℕ) →
      PassesOver front w (edges ones (read_in m w s)) low high r →
      PassesOver front w (read_back m w (edges ones (read_in m w s))) low high r
  read_back_passes front low high r p = rw (read_back_is m w (edges ones (read_in m w s)))
      (passes_in_order front true m w low high r (edges ones (read_in m w s)) word whole p)

  -- from the front, words are skipped if the word before the first of them is skipped too
  pub passes_front : (low high start r q : ℕ) → low ≤ high → start ≡ low - 1 →
      PassesOver true w (ones_or_zeros ones s) start high r → q ≡ max r low →
      PassesOver true w (read_back m w (edges ones (read_in m w s))) low high q
  passes_front low high start r q order from p most =
      let none = (passes_in_order true ones m w start high r s word whole p).2 in
      read_back_passes true low high q (
        omega (arith, most),
        omega (arith, most, p.1, order),
        λ i lo hi. elim (cases_lt low r) [
          | inl l ↦
              let same : q ≡ r = omega (arith, most, l) in
              let far : q * w ≡ r * w = ap (λ n. n * w) same in
              let begun : start * w ≤ low * w = mul-le-mul_right w (omega (arith, from)) in
              none_at i (none i (omega (arith, lo, begun)) (omega (arith, hi, far)))
              (λ some. none (i - 1) (elim (cases_lt start low) [
                | inl b ↦
                    let one : low ≡ start + 1 = omega (arith, from, b) in
                    let up : low * w ≡ start * w + w = omega (arith, ap (λ n. n * w) one) in
                    omega (arith, lo, up, word)
                | inr z ↦
                    let zero : start ≡ 0 = omega (arith, from, z) in
                    let at : start * w ≡ 0 * w = ap (λ n. n * w) zero in
                    omega (arith, at)
              ]) (omega (arith, hi, far)))
          | inr g ↦
              let same : q ≡ low = omega (arith, most, g) in
              absurd (omega (arith, lo, hi, ap (λ n. n * w) same))
        ],
      )

  -- from the back, the first of the words without members may have an edge
  pub passes_back : (low high r : ℕ) → PassesOver false w (ones_or_zeros ones s) low high r →
      r < high →
      PassesOver false w (read_back m w (edges ones (read_in m w s))) low high (r + 1)
  passes_back low high r p some =
      let none = (passes_in_order false ones m w low high r s word whole p).2 in
      read_back_passes false low high (r + 1) (
        omega (arith, p.0),
        omega (arith, some),
        λ i lo hi. none_at i (none i (omega (arith, lo)) hi)
            (λ _. none (i - 1) (omega (arith, lo, word)) (omega (arith, hi))),
      )
