-- Ranges with one more index, and ranges that reach each index below the capacity.
use Rattle.std.proofs.Common.{◌≡◌, ℕ, zero, suc, ◌+◌, ◌-◌, ◌/◌, ◌%◌, ◌<◌, ◌≤◌, Bool, true, false}
use Rattle.std.proofs.Common.{◌&&◌, ◌||◌, ◌==◌, nat_lt, nat_le, inl, inr, refl, sym, ap, ◌∙◌, subst}
use Rattle.std.proofs.Common.{add-one, arith}
use Rattle.std.proofs.Math.Nat.{add-mod-mod, div-add-mod'}
use Rattle.std.proofs.Math.Path.{fun_ext}
use Rattle.std.proofs.lemmas.Bool.{ltb-true, leb-true, le-leb, and_from, and_parts, and_right}
use Rattle.std.proofs.lemmas.Bool.{or_cases, or_left, or_right, false_from_ne_true, cases_lt}
use Rattle.std.proofs.lemmas.Nat.{mod_below, mod-mul-add}
use Rattle.std.specs.Bool.{one_answer}
use Rattle.bittle_bits.specs.PlainSet.{PlainSet, has_with, empty_set, with_index, with_span}
use Rattle.bittle_bits.proofs.PlainSets.{plain_set}
use Rattle.bittle_bits.proofs.Spans.{changed-none, with_span-more}
use Rattle.bittle.specs.Ranges.{some_below, has_with_wrapped_range, with_wrapped_range, listed_set}

some_below-found : (n : ℕ) (p : ℕ → Bool) → some_below n p ≡ true → (i : ℕ) × (i < n) × (p i ≡ true)
unfolding some_below
some_below-found zero p e = cc
some_below-found (suc n) p e =
    elim (or_cases (some_below n p) (p n) e) [
      | inl a ↦ let f = some_below-found n p a in (f.0, omega (arith, f.1), f.2)
      | inr b ↦ (n, omega arith, b)
    ]

some_below-from : (n : ℕ) (p : ℕ → Bool) (i : ℕ) → i < n → p i ≡ true → some_below n p ≡ true
unfolding some_below
some_below-from zero p i h e = absurd (omega arith)
some_below-from (suc n) p i h e =
    elim (cases_lt i n) [
      | inl l ↦ or_left (some_below n p) (p n) (some_below-from n p i l e)
      | inr g ↦ let t : i ≡ n = omega arith in
          or_right (some_below n p) (p n) (subst (λ x. p x ≡ true) t e)
    ]

-- in the test of a range, the case of its last index may be written first
spread : (z a b h : Bool) → ((z && (a || b)) || h) ≡ ((z && b) || ((z && a) || h))
spread z a b h = grind arith

-- `count` is how many indexes of a range are needed: all of them, or as many as the capacity, which
-- is not 0
pub record IsEnough (s : PlainSet) (from count end : ℕ) : Type 0 where
  pub some : 0 < s.capacity
  pub few : count ≤ s.capacity
  pub in_range : from + count ≤ end
  pub short : from + count < end → count ≡ s.capacity

module _ (s : PlainSet) (from : ℕ) where
  -- whether an index of the range wraps to the number
  abbrev reaches : ℕ → ℕ → Bool
  reaches k i = nat_le from i && (k == i % s.capacity)

  -- a range whose end is not past its start adds nothing
  pub with_wrapped_range-none : (end : ℕ) → end ≤ from → with_wrapped_range s from end ≡ s
  unfolding has_with_wrapped_range
  with_wrapped_range-none end h = ap (plain_set s.capacity)
      (fun_ext λ k. ap (λ b. b || s.has k)
      (and_right (nat_lt 0 s.capacity) (some_below end (reaches k)) (none k)))
    where
      none : (k : ℕ) → some_below end (reaches k) ≡ false
      none k =
          false_from_ne_true (some_below end (reaches k)) (λ e.
          let f = some_below-found end (reaches k) e in
          let a = and_parts (nat_le from f.0) (k == f.0 % s.capacity) f.2 in
          omega (arith, leb-true from f.0 a.0, f.1))

  -- a range with one more index is the range, and then that index put in
  with_wrapped_range-more : (end : ℕ) → from ≤ end →
      with_wrapped_range s from (end + 1) ≡ with_index (with_wrapped_range s from end) end
  unfolding has_with_wrapped_range has_with some_below
  with_wrapped_range-more end h = ap (plain_set s.capacity)
      (fun_ext λ k. rw (add-one, le-leb from end h)
      (spread (nat_lt 0 s.capacity) (some_below end (reaches k)) (k == end % s.capacity) (s.has k)))

  -- consecutive indexes, as many as the capacity, wrap to every number below the capacity
  with_wrapped_range-all : (last end : ℕ) → from + s.capacity ≤ last → last ≤ end →
      with_wrapped_range s from last ≡ with_wrapped_range s from end
  unfolding has_with_wrapped_range
  with_wrapped_range-all last end many h = ap (plain_set s.capacity)
      (fun_ext λ k. ap (λ b. b || s.has k) (alike k))
    where
      sooner : (k i : ℕ) → 0 < s.capacity → reaches k i ≡ true → some_below last (reaches k) ≡ true
      sooner k i some e =
          let c = s.capacity in
          let a = and_parts (nat_le from i) (k == i % c) e in
          let g = leb-true from i a.0 in
          let m = mod_below (i - from) c some in
          let f : (from + (i - from) % c) % c ≡ i % c = add-mod-mod from (i - from) c
          ∙ ap (λ x. x % c) (omega arith) in
          some_below-from last (reaches k) (from + (i - from) % c) (omega arith)
          (and_from (nat_le from (from + (i - from) % c)) (k == (from + (i - from) % c) % c)
          (le-leb from (from + (i - from) % c) (omega arith)) (ap (λ x. k == x) f ∙ a.1))

      alike : (k : ℕ) → (nat_lt 0 s.capacity && some_below last (reaches k))
          ≡ (nat_lt 0 s.capacity && some_below end (reaches k))
      alike k =
          let z = nat_lt 0 s.capacity in
          one_answer (z && some_below last (reaches k)) (z && some_below end (reaches k)) (
            (λ e.
                let a = and_parts z (some_below last (reaches k)) e in
                let f = some_below-found last (reaches k) a.1 in
                and_from z (some_below end (reaches k)) a.0
                (some_below-from end (reaches k) f.0 (omega (arith, f.1)) f.2)),
            (λ e.
                let a = and_parts z (some_below end (reaches k)) e in
                let f = some_below-found end (reaches k) a.1 in
                and_from z (some_below last (reaches k)) a.0
                (sooner k f.0 (ltb-true 0 s.capacity a.0) f.2)),
          ) (λ e. e, λ e. e)

  -- consecutive indexes that do not wrap are a span
  range_span : (start count : ℕ) → 0 < s.capacity → start ≡ from % s.capacity →
      start + count ≤ s.capacity → with_wrapped_range s from (from + count)
      ≡ with_span s start (start + count)
  range_span start zero some at le = with_wrapped_range-none (from + 0) (omega arith)
      ∙ sym (changed-none (λ _. true) s start (start + 0) (omega arith))
  range_span start (suc count) some at le =
      let next : (from + count) % s.capacity ≡ start + count = ap (λ t. t % s.capacity)
      (omega (arith, div-add-mod' from s.capacity)) ∙ mod-mul-add (from / s.capacity) s.capacity
      (start + count) (omega arith) in
      ap (with_wrapped_range s from) (omega arith)
      ∙ with_wrapped_range-more (from + count) (omega arith)
      ∙ ap (λ (u : PlainSet). with_index u (from + count))
      (range_span start count some at (omega arith))
      ∙ with_span-more s start (start + count) (from + count) some next (omega arith)
      ∙ ap (with_span s start) (omega arith)

  -- if `count` indexes are enough, the range of that many indexes gives the set of the whole range
  range_whole : (count end : ℕ) (now : PlainSet) → IsEnough s from count end →
      now ≡ with_wrapped_range s from (from + count) → now ≡ with_wrapped_range s from end
  range_whole count end now r e =
      elim (cases_lt (from + count) end) [
        | inl l ↦
            e ∙ with_wrapped_range-all (from + count) end (omega (arith, r.short l)) r.in_range
        | inr g ↦ e ∙ ap (with_wrapped_range s from) (omega (arith, r.in_range))
      ]

  -- a range that does not wrap, or that ends at the capacity, is one span
  pub one_span : (start count end : ℕ) (next : PlainSet) → IsEnough s from count end →
      start ≡ from % s.capacity → start + count ≤ s.capacity →
      next ≡ with_span s start (start + count) → next ≡ with_wrapped_range s from end
  one_span start count end next r at le is =
      range_whole count end next r (is ∙ sym (range_span start count r.some at le))

-- two ranges are one range if the second begins where the first ends
range_on : (s : PlainSet) (from mid more : ℕ) → from ≤ mid →
    with_wrapped_range (with_wrapped_range s from mid) mid (mid + more)
    ≡ with_wrapped_range s from (mid + more)
range_on s from mid zero h =
    with_wrapped_range-none (with_wrapped_range s from mid) mid (mid + 0) (omega arith)
    ∙ ap (with_wrapped_range s from) (omega arith)
range_on s from mid (suc more) h =
    ap (with_wrapped_range (with_wrapped_range s from mid) mid) (omega arith)
    ∙ with_wrapped_range-more (with_wrapped_range s from mid) mid (mid + more) (omega arith)
    ∙ ap (λ (u : PlainSet). with_index u (mid + more)) (range_on s from mid more h)
    ∙ sym (with_wrapped_range-more s from (mid + more) (omega arith))
    ∙ ap (with_wrapped_range s from) (omega arith)

-- a range that wraps is the span up to the capacity and the span of the rest
pub two_spans : (s : PlainSet) (from start room count end : ℕ) (now next : PlainSet) →
    IsEnough s from count end → start ≡ from % s.capacity → room ≡ s.capacity - start →
    room ≤ count → now ≡ with_span s start s.capacity → next ≡ with_span now 0 (count - room) →
    next ≡ with_wrapped_range s from end
two_spans s from start room count end now next r at rest more first second =
    let c = s.capacity in
    let few = r.few in
    let low = mod_below from c r.some in
    let t = with_wrapped_range s from (from + room) in
    let around : 0 ≡ (from + room) % c = sym
    (ap (λ t. t % c) (omega (arith, div-add-mod' from c)) ∙ mod-mul-add (from / c + 1) c 0 r.some)
    in
    let begins : now ≡ t = first ∙ ap (with_span s start) (omega arith)
    ∙ sym (range_span s from start room r.some at (omega arith)) in
    let ends : next ≡ with_wrapped_range t (from + room) (from + room + (count - room)) =
    second ∙ ap (λ (u : PlainSet). with_span u 0 (count - room)) begins
    ∙ ap (with_span t 0) (omega arith)
    ∙ sym (range_span t (from + room) 0 (count - room) r.some around (omega arith)) in
    range_whole s from count end next r
    (ends ∙ range_on s from (from + room) (count - room) (omega arith)
    ∙ ap (with_wrapped_range s from) (omega arith))

-- with capacity 0 a range adds nothing
pub no_range : (s : PlainSet) (from end : ℕ) → s.capacity ≡ 0 → with_wrapped_range s from end ≡ s
unfolding has_with_wrapped_range
no_range s from end none = ap (plain_set s.capacity) (fun_ext λ k. rw none refl)

-- the sets after the calls for the list `a, b, 2..=3, 5..7, 14..`, one after another
pub listed_calls : (capacity a b end : ℕ) {none one two three four five : PlainSet} →
    none ≡ empty_set capacity → one ≡ with_index none a → two ≡ with_index one b →
    three ≡ with_wrapped_range two 2 (3 + 1) → four ≡ with_wrapped_range three 5 7 →
    end ≡ capacity →
    five ≡ with_wrapped_range four 14 end → five ≡ listed_set capacity a b
listed_calls capacity a b end p q r s t e u = rw (u, t, s, r, q, p, e) refl
