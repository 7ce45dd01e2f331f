-- Sets that are shifted in place, word by word.
use Rattle.std.proofs.Common.{◌≡◌, ℕ, ◌+◌, ◌-◌, ◌*◌, ◌<◌, ◌≤◌, Bool, false, cond, ◌&&◌, nat_lt}
use Rattle.std.proofs.Common.{nat_le, inl, inr, sym, ap, ◌∙◌, arith}
use Rattle.std.proofs.Math.Nat.{mul-le-mul_right}
use Rattle.std.proofs.lemmas.Bool.{cases_lt, le-ltb, lt-leb, le-leb}
use Rattle.bittle.specs.BitPatterns.{bit_set}
use Rattle.bittle.specs.Orders.{place, read_in}
use Rattle.bittle.specs.PlainSet.{PlainSet}
use Rattle.bittle.specs.Words.{word_of}
use Rattle.bittle_bits.proofs.BitSets.{bit_has-zero}
use Rattle.bittle_bits.proofs.Words.{digit_at}
use Rattle.bittle_ext.specs.Rotations.{has_shifted_down, has_shifted_up, IsDistance, IsWindow}
use Rattle.bittle_ext.proofs.RotatedSets.{down-inside, down-past, up-inside, up-before}
use Rattle.bittle_ext.proofs.WordsReplaced.{replaced_where}

-- whether the number `by` below k is a member; k may lie past the capacity
unfoldable pub has_so_far_below : PlainSet → ℕ → ℕ → Bool
has_so_far_below s by k = nat_le by k && s.has (k - by)

-- n is in the set shifted down by `by` exactly if n + by is in the set
down_is : (s : PlainSet) (by n : ℕ) → ((i : ℕ) → s.capacity ≤ i → s.has i ≡ false) →
    has_shifted_down s by n ≡ s.has (n + by)
down_is s by n past =
    elim (cases_lt (n + by) s.capacity) [
      | inl l ↦ down-inside s by n l
      | inr h ↦ down-past s by n h ∙ sym (past (n + by) h)
    ]

-- the window that begins `skipped` words and `from` bits above word k is word k of the set shifted
-- down
pub window_above : (m : Bool) (w k by skipped from x y r : ℕ) (set : PlainSet) → 0 < w →
    skipped * w + from ≡ by → from < w →
    ((i : ℕ) → set.capacity ≤ i → (read_in m w set).has i ≡ false) →
    bit_set w x ≡ word_of w set (k + skipped) → bit_set w y ≡ word_of w set (k + skipped + 1) →
    IsWindow w from (read_in m w (bit_set w x)) (read_in m w (bit_set w y))
    (read_in m w (bit_set w r)) → (i : ℕ) → i < w →
    (read_in m w (bit_set w r)).has i ≡ has_shifted_down (read_in m w set) by (k * w + i)
window_above m w k by skipped from x y r set word parts within past first second is i h =
    let s = read_in m w set in
    elim (cases_lt (i + from) w) [
      | inl l ↦ is.first i l ∙ digit_at m w (k + skipped) set x word first (i + from) l
          ∙ ap s.has (omega (arith, parts))
      | inr g ↦ is.second i h g
          ∙ digit_at m w (k + skipped + 1) set y word second (i + from - w)
          (omega (arith, h, g, within))
          ∙ ap s.has (omega (arith, parts, g))
    ] ∙ sym (down_is s by (k * w + i) past)

-- word k of the set shifted down is empty if no word is `skipped` words above it
pub none_above : (m : Bool) (w c by words skipped rest k d : ℕ) (s : PlainSet) →
    IsDistance w c by words skipped rest → c ≡ s.capacity → d ≡ 0 → words ≤ k + skipped → (i : ℕ) →
    (read_in m w (bit_set w d)).has i ≡ has_shifted_down s by (k * w + i)
none_above m w c by words skipped rest k d s far size none high i =
    let up : words * w ≤ (k + skipped) * w = mul-le-mul_right w high in
    ap (λ p. p (place m w i)) (bit_has-zero w d none)
    ∙ sym (down-past s by (k * w + i) (omega (arith, up, far.whole, far.parts, size)))

-- adding d to both the distance and the number changes nothing
below_as : (s : PlainSet) (by n d : ℕ) → has_so_far_below s (by + d) (n + d)
    ≡ has_so_far_below s by n
unfolding has_so_far_below
below_as s by n d =
    elim (cases_lt n by) [
      | inl l ↦ ap (λ b. b && s.has (n + d - (by + d))) (lt-leb (by + d) (n + d) (omega (arith, l)))
          ∙ sym (ap (λ b. b && s.has (n - by)) (lt-leb by n l))
      | inr g ↦ ap (λ b. b && s.has (n + d - (by + d))) (le-leb (by + d) (n + d) (omega (arith, g)))
          ∙ ap s.has (omega (arith, g))
          ∙ sym (ap (λ b. b && s.has (n - by)) (le-leb by n g))
    ]

-- below the capacity, `has_so_far_below` gives the members of the set shifted up
pub up_is : (s : PlainSet) (by n : ℕ) → n < s.capacity →
    has_shifted_up s by n ≡ has_so_far_below s by n
unfolding has_so_far_below
up_is s by n h =
    elim (cases_lt n by) [
      | inl l ↦ up-before s by n l ∙ sym (ap (λ b. b && s.has (n - by)) (lt-leb by n l))
      | inr g ↦ up-inside s by n g h ∙ sym (ap (λ b. b && s.has (n - by)) (le-leb by n g))
    ]

-- if no word is `words` words below word k, the word that moves there is empty
pub none_before : (m : Bool) (w k words d : ℕ) (s : PlainSet) → d ≡ 0 → k < words →
    (i : ℕ) → i < w → (read_in m w (bit_set w d)).has i ≡ has_so_far_below s (words * w) (k * w + i)
unfolding has_so_far_below
none_before m w k words d s none low i h =
    let up : (k + 1) * w ≤ words * w = mul-le-mul_right w (omega (arith, low)) in
    ap (λ p. p (place m w i)) (bit_has-zero w d none)
    ∙ sym (ap (λ b. b && s.has (k * w + i - words * w))
    (lt-leb (words * w) (k * w + i) (omega (arith, up, h))))

-- if k is at least `words`, the word that moves to word k is word k - words
pub word_before : (m : Bool) (w k words d : ℕ) (set : PlainSet) → 0 < w → words ≤ k →
    bit_set w d ≡ word_of w set (k - words) → (i : ℕ) → i < w → (read_in m w (bit_set w d)).has i
    ≡ has_so_far_below (read_in m w set) (words * w) (k * w + i)
unfolding has_so_far_below
word_before m w k words d set word far is i h =
    let s = read_in m w set in
    let up : words * w ≤ k * w = mul-le-mul_right w far in
    let whole : k - words + words ≡ k = omega (arith, far) in
    let back : (k - words) * w + words * w ≡ k * w = omega (arith, ap (λ n. n * w) whole) in
    digit_at m w (k - words) set d word is i h ∙ ap s.has (omega (arith, back))
    ∙ sym (ap (λ b. b && s.has (k * w + i - words * w))
    (le-leb (words * w) (k * w + i) (omega (arith, up))))

-- the window from index `from` of the word `words` words below word k is the word that moves to
-- word k in a move up by `by`
pub window_below : (m : Bool) (w k by words from x y r : ℕ) (s : PlainSet) → from ≤ w →
    words * w ≡ by + from →
    ((i : ℕ) → i < w → (read_in m w (bit_set w x)).has i
    ≡ has_so_far_below s (words * w) (k * w + i)) →
    ((i : ℕ) → i < w → (read_in m w (bit_set w y)).has i
    ≡ has_so_far_below s (words * w) ((k + 1) * w + i)) →
    IsWindow w from (read_in m w (bit_set w x)) (read_in m w (bit_set w y))
    (read_in m w (bit_set w r)) → (i : ℕ) → i < w →
    (read_in m w (bit_set w r)).has i ≡ has_so_far_below s by (k * w + i)
window_below m w k by words from x y r s inside whole first second is i h =
    let both : has_so_far_below s (words * w) (k * w + i + from)
    ≡ has_so_far_below s by (k * w + i) =
    ap (λ n. has_so_far_below s n (k * w + i + from)) whole ∙ below_as s by (k * w + i) from in
    elim (cases_lt (i + from) w) [
      | inl l ↦ is.first i l ∙ first (i + from) l
          ∙ ap (has_so_far_below s (words * w)) (omega arith)
      | inr g ↦ is.second i h g ∙ second (i + from - w) (omega (arith, h, g, inside))
          ∙ ap (has_so_far_below s (words * w)) (omega (arith, g))
    ] ∙ both

-- word k of the set shifted up is empty if k is below `skipped`
pub none_below : (m : Bool) (w c by words skipped rest k d : ℕ) (s : PlainSet) →
    IsDistance w c by words skipped rest → d ≡ 0 → k < skipped → (i : ℕ) → i < w →
    (read_in m w (bit_set w d)).has i ≡ has_shifted_up s by (k * w + i)
none_below m w c by words skipped rest k d s far none low i h =
    let up : (k + 1) * w ≤ skipped * w = mul-le-mul_right w (omega (arith, low)) in
    ap (λ p. p (place m w i)) (bit_has-zero w d none)
    ∙ sym (up-before s by (k * w + i) (omega (arith, up, h, far.parts)))

-- if no word from word k on was changed yet, a shift down moves the same bits to word k as before
-- the changes
pub down_as : (w k by n : ℕ) (g : ℕ → Bool) (s now : PlainSet) →
    now ≡ replaced_where (λ i. nat_lt i (k * w)) g s → k * w ≤ n →
    ((i : ℕ) → s.capacity ≤ i → s.has i ≡ false) →
    has_shifted_down now by n ≡ has_shifted_down s by n
down_as w k by n g s now is h past =
    let u = replaced_where (λ i. nat_lt i (k * w)) g s in
    let same : u.has (n + by) ≡ s.has (n + by) =
    ap (λ b. cond b (g (n + by)) (s.has (n + by))) (le-ltb (n + by) (k * w) (omega (arith, h))) in
    ap (λ t. has_shifted_down t by n) is ∙ elim (cases_lt (n + by) s.capacity) [
      | inl l ↦ down-inside u by n l ∙ same ∙ sym (down-inside s by n l)
      | inr g' ↦ down-past u by n g' ∙ sym (down-past s by n g')
    ]

-- if no word up to word k was changed yet, a shift up moves the same bits to word k as before the
-- changes
pub up_as : (w k by n : ℕ) (g : ℕ → Bool) (s now : PlainSet) →
    now ≡ replaced_where (λ i. nat_le ((k + 1) * w) i) g s → n < (k + 1) * w → n < s.capacity →
    has_shifted_up now by n ≡ has_shifted_up s by n
up_as w k by n g s now is h l =
    let u = replaced_where (λ i. nat_le ((k + 1) * w) i) g s in
    ap (λ t. has_shifted_up t by n) is ∙ elim (cases_lt n by) [
      | inl b ↦ up-before u by n b ∙ sym (up-before s by n b)
      | inr a ↦ up-inside u by n a l
          ∙ ap (λ b. cond b (g (n - by)) (s.has (n - by)))
          (lt-leb ((k + 1) * w) (n - by) (omega (arith, h)))
          ∙ sym (up-inside s by n a l)
    ]

-- if no word up to word k was changed yet, the window below word k is word k of the set shifted up
pub came_up : (m : Bool) (w c k by words skipped to x y r : ℕ) (s now : PlainSet) →
    IsDistance w c by words skipped to → c ≡ s.capacity → k < words →
    now ≡ replaced_where (λ i. nat_le ((k + 1) * w) i) (has_shifted_up s by) s →
    ((i : ℕ) → i < w → (read_in m w (bit_set w x)).has i
    ≡ has_so_far_below now ((skipped + 1) * w) (k * w + i)) →
    ((i : ℕ) → i < w → (read_in m w (bit_set w y)).has i
    ≡ has_so_far_below now ((skipped + 1) * w) ((k + 1) * w + i)) →
    IsWindow w (w - to) (read_in m w (bit_set w x)) (read_in m w (bit_set w y))
    (read_in m w (bit_set w r)) → (i : ℕ) → i < w →
    (read_in m w (bit_set w r)).has i ≡ has_shifted_up s by (k * w + i)
came_up m w c k by words skipped to x y r s now far size low before first second is i h =
    let up : (k + 1) * w ≤ words * w = mul-le-mul_right w (omega (arith, low)) in
    let same : now.capacity ≡ s.capacity = ap (λ u. u.capacity) before in
    let whole : (skipped + 1) * w ≡ by + (w - to) = omega (arith, far.parts, far.within) in
    window_below m w k by (skipped + 1) (w - to) x y r now (omega arith) whole first second is i h
    ∙ sym (up_is now by (k * w + i) (omega (arith, up, h, far.whole, size, same)))
    ∙ up_as w k by (k * w + i) (has_shifted_up s by) s now before (omega (arith, h))
    (omega (arith, up, h, far.whole, size))
