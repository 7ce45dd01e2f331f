use Rattle.std.proofs.Common.{◌≡◌, ◌+◌, ◌*◌, ◌≤◌, true, false, false, inl, inr, length, refl, sym}
use Rattle.std.proofs.Common.{ap, ◌∙◌, subst, arith}
use Rattle.std.proofs.Math.Nat.{mul-le-mul_right}
use Rattle.std.proofs.lemmas.Bool.{cases_lt, eqb-true}
use Rattle.bittle.specs.BitPatterns.{bit_set}
use Rattle.bittle.specs.PlainSet.{PlainSet, without_index}
use Rattle.bittle.specs.Searches.{NoneIn}
use Rattle.bittle.specs.Values.{set_in}
use Rattle.bittle_bits.proofs.FirstOnes.{none_next}
use Rattle.bittle_bits.proofs.OnesOrZeros.{passes_in_order}
use Rattle.bittle_bits.proofs.PlainSets.{members-past}
use Rattle.bittle_ext.specs.Calls.{IsCallableBelow}
use Rattle.bittle_ext.proofs.CallableBelow.{asks_below, next_below}
use Rattle.bittle_ext.proofs.RankFacts.{end_of_words}
use Rattle.bittle_ext.proofs.RetainSteps.{RetainsBelow, retains_none, retains_on, retains_kept}
use Rattle.bittle_ext.proofs.RetainSteps.{retains_others, retains_all}
use Rattle.bittle_ext.proofs.RetainedWords.{word_inside, popped, one_more, none_left, halfway_none}
use Rattle.bittle_ext.proofs.RetainedWords.{found_next, halfway_kept, halfway_gone, halfway_past}
use Rattle.bittle_ext.proofs.RetainedWords.{halfway_all}
use Rattle.bittle_ext.proofs.retained.retain.Goals as goal

pub loop-k-init : goal.loop-k-init
loop-k-init g c =
    let b = g.met.B.ReadWords in
    let w = g.B.Shape.width in
    let bits = c.args.bits.now in
    let s = set_in g.B.Shape g.E.Endian bits in
    let whole = end_of_words _ _ _ _ _ b.width_positive (b.whole_words bits)
    (c.bits_capacity.ensures.value c.requires.fits) c.word_width-width.ensures refl in
    let e = c.pass_over-k.ensures in
    let passed = passes_in_order true true g.E.Endian.mirrored w 0 _ _ (g.B.Shape.big bits)
    b.width_positive (b.whole_words bits) e in
    let low = mul-le-mul_right w e.1 in
    record {
      callable = c.requires.callable;
      within = e.1;
      whole = whole;
      retains = retains_on (goal.F-step g) _ _ _ _ _ (retains_none (goal.F-step g) c.args.keep s)
          (c.pass_over-k.result * w) (omega arith) (omega (arith, low, whole))
          (λ j lo hi. passed.2 j (omega arith) hi);
      stays = refl;
    }

pub nth_leaf_word-word-requires-clause-fits : goal.nth_leaf_word-word-requires-clause-fits
nth_leaf_word-word-requires-clause-fits g c =
    (c.requires.fits.0, omega (arith, c.requires.fits.1, c.loop-k.invariant.retains.capacity))

pub nth_leaf_word-word-requires-clause-within : goal.nth_leaf_word-word-requires-clause-within
nth_leaf_word-word-requires-clause-within g c =
    let v = c.loop-k.invariant in
    omega (
      arith,
      word_inside g.B.Shape.width c.loop-k.k _ _ _ v.whole v.retains.capacity c.loop-k-test.true,
      g.met.B.ReadWords.width_positive,
    )

pub loop-k-preserved-then-is_zero : goal.loop-k-preserved-then-is_zero
loop-k-preserved-then-is_zero g c =
    let b = g.met.B.ReadWords in
    let w = g.B.Shape.width in
    let m = g.E.Endian.mirrored in
    let k = c.loop-k.k in
    let v = c.loop-k.invariant in
    let now = c.loop-k.bits in
    let e = c.pass_over-k-then-is_zero.ensures in
    let passed = passes_in_order true true m w (k + 1) _ _ (g.B.Shape.big now) b.width_positive
    (b.whole_words now) e in
    let r = c.pass_over-k-then-is_zero.result in
    let up : (k + 1) * w ≤ r * w = mul-le-mul_right w e.0 in
    let low = mul-le-mul_right w e.1 in
    let zero = eqb-true _ _ (sym c.is_zero.ensures.zero ∙ c.if-is_zero.true) in
    let here = none_next m w (g.B.Shape.big now) b.width_positive (k * w) k _
    c.nth_leaf_word-word.ensures (λ j lo hi. absurd (omega (arith, lo, hi))) (k + 1) refl zero in
    record {
      callable = v.callable;
      within = e.1;
      whole = v.whole;
      retains = retains_on (goal.F-step g) _ _ _ _ _ v.retains (r * w) (omega (arith, up))
          (omega (arith, low, v.whole)) (λ j lo hi. elim (cases_lt j ((k + 1) * w)) [
            | inl l ↦ here j lo l
            | inr g' ↦ passed.2 j g' hi
          ]);
      stays = v.stays;
    }

pub loop-index-init : goal.loop-index-init
loop-index-init g c =
    let b = g.met.B.ReadWords in
    let w = g.B.Shape.width in
    let v = c.loop-k.invariant in
    let now = set_in g.B.Shape g.E.Endian c.loop-k.bits in
    record {
      callable = subst (λ n. IsCallableBelow n g.F.FnMut c.loop-k.keep) (sym v.retains.capacity)
          v.callable;
      inside = word_inside w c.loop-k.k _ _ _ v.whole v.retains.capacity c.loop-k-test.true;
      same = refl;
      halfway = (
        now,
        c.loop-k.k * w,
        halfway_none g.E.Endian.mirrored w c.loop-k.k _ _ _ (g.B.Shape.big c.loop-k.bits)
            b.width_positive c.zero-kept.ensures c.nth_leaf_word-word.ensures
            (rw b.leaf_width at c.ordered_word-rest.ensures.to_weights),
        λ first old h. h,
      );
    }

pub keep-requires : goal.keep-requires
keep-requires g c =
    let b = g.met.B.ReadWords in
    let k = c.loop-k.k in
    let v = c.loop-index.invariant in
    let same : k * c.word_width-width.result ≡ k * g.B.Shape.width =
    ap (λ n. k * n) c.word_width-width.ensures in
    asks_below _ g.F.FnMut c.loop-index.keep (k * c.word_width-width.result + c.in-Some.index)
    v.callable (omega (arith, v.inside, same, c.in-Some.ensures.below, b.leaf_width))

pub loop-index-smaller-then-keep : goal.loop-index-smaller-then-keep
loop-index-smaller-then-keep g c =
    let found = rw g.met.B.ReadWords.leaf_width at c.in-Some.ensures.found in
    omega (arith, ap length found)

pub loop-index-smaller : goal.loop-index-smaller
loop-index-smaller g c =
    let found = rw g.met.B.ReadWords.leaf_width at c.in-Some.ensures.found in
    omega (arith, ap length found)

pub loop-index-preserved-then-keep : goal.loop-index-preserved-then-keep
loop-index-preserved-then-keep g c =
    let b = g.met.B.ReadWords in
    let w = g.B.Shape.width in
    let wide = c.word_width-width.ensures in
    let k = c.loop-k.k in
    let i = c.in-Some.index in
    let R = goal.F-step g in
    let v = c.loop-index.invariant in
    let h = v.halfway in
    let start : k * c.word_width-width.result ≡ k * w = ap (λ n. k * n) wide in
    let pop = popped w i _ _ (rw b.leaf_width at c.in-Some.ensures.found) in
    let far : k * w + w ≤ h.0.capacity = omega (arith, v.inside, h.2.capacity) in
    let found = found_next w k _ _ _ h.0 h.1 b.width_positive h.2 i _ pop far in
    let called = subst (λ n. R c.loop-index.keep (n + i) true c.keep.new.self) start
    (subst (λ b. R c.loop-index.keep (k * c.word_width-width.result + i) b c.keep.new.self)
    c.if-keep.true c.keep.ensures) in
    record {
      callable = next_below _ g.F.FnMut c.loop-index.keep (k * c.word_width-width.result + i)
          v.callable (omega (arith, v.inside, start, pop.inside)) _ _ c.keep.ensures;
      inside = v.inside;
      same = refl;
      halfway = (
        h.0,
        k * w + i + 1,
        halfway_kept w k _ _ _ h.0 h.1 b.width_positive h.2 i _ pop _
            (one_more w i (bit_set w (g.B.LeafWord.Word.pattern c.loop-index.rest)) _
            _ _ _ refl refl
            refl pop (rw (b.leaf_width, v.same) at c.on_words-bit.ensures)
            (rw b.leaf_width at c.on_words-kept.ensures)),
        λ first old so_far. retains_kept R _ _ _ _ _ (h.3 first old so_far) (k * w + i)
            c.keep.new.self found called,
      );
    }

pub loop-index-preserved : goal.loop-index-preserved
loop-index-preserved g c =
    let b = g.met.B.ReadWords in
    let w = g.B.Shape.width in
    let wide = c.word_width-width.ensures in
    let k = c.loop-k.k in
    let i = c.in-Some.index in
    let R = goal.F-step g in
    let v = c.loop-index.invariant in
    let h = v.halfway in
    let start : k * c.word_width-width.result ≡ k * w = ap (λ n. k * n) wide in
    let pop = popped w i _ _ (rw b.leaf_width at c.in-Some.ensures.found) in
    let far : k * w + w ≤ h.0.capacity = omega (arith, v.inside, h.2.capacity) in
    let found = found_next w k _ _ _ h.0 h.1 b.width_positive h.2 i _ pop far in
    let called = subst (λ n. R c.loop-index.keep (n + i) false c.keep.new.self) start
    (subst (λ b. R c.loop-index.keep (k * c.word_width-width.result + i) b c.keep.new.self)
    c.if-keep.false c.keep.ensures) in
    record {
      callable = next_below _ g.F.FnMut c.loop-index.keep (k * c.word_width-width.result + i)
          v.callable (omega (arith, v.inside, start, pop.inside)) _ _ c.keep.ensures;
      inside = v.inside;
      same = refl;
      halfway = (
        without_index h.0 (k * w + i),
        k * w + i + 1,
        halfway_gone w k _ _ _ h.0 h.1 b.width_positive h.2 i _ pop far,
        λ first old so_far. retains_others R _ _ _ _ _ (h.3 first old so_far) (k * w + i)
            c.keep.new.self _ found called refl,
      );
    }

pub change_word-requires-clause-fits : goal.change_word-requires-clause-fits
change_word-requires-clause-fits g c =
    (c.requires.fits.0, omega (arith, c.requires.fits.1, c.loop-k.invariant.retains.capacity))

pub change_word-requires-clause-within : goal.change_word-requires-clause-within
change_word-requires-clause-within g c =
    omega (arith, c.loop-index.invariant.inside, g.met.B.ReadWords.width_positive)

pub pass_over-k-requires-in-loop-k-clause-fits : goal.pass_over-k-requires-in-loop-k-clause-fits
pass_over-k-requires-in-loop-k-clause-fits g c = (
  c.requires.fits.0,
  omega (
    arith,
    c.requires.fits.1,
    c.loop-k.invariant.retains.capacity,
    c.change_word.ensures.set.capacity,
  ),
)

pub pass_over-k-requires-in-loop-k-clause-within :
    goal.pass_over-k-requires-in-loop-k-clause-within
pass_over-k-requires-in-loop-k-clause-within g c =
    let v = c.loop-k.invariant in
    omega (arith, v.whole, v.retains.capacity, c.change_word.ensures.set.capacity)

pub loop-k-preserved : goal.loop-k-preserved
loop-k-preserved g c =
    let b = g.met.B.ReadWords in
    let w = g.B.Shape.width in
    let m = g.E.Endian.mirrored in
    let k = c.loop-k.k in
    let R = goal.F-step g in
    let v = c.loop-k.invariant in
    let h = c.loop-index.invariant.halfway in
    let now = c.loop-k.bits in
    let new = c.change_word.new.bits in
    let s = set_in g.B.Shape g.E.Endian c.args.bits.now in
    let after = set_in g.B.Shape g.E.Endian new in
    let none = none_left w _ (rw b.leaf_width at c.in_default.ensures.found).0 in
    let is = halfway_all m w k _ _ h.1 _ (g.B.Shape.big now) (g.B.Shape.big new) h.0
    b.width_positive
    (b.whole_words now) (b.none_past now) (b.none_past new) h.2 none c.change_word.ensures.set
    (rw b.leaf_width at c.ordered_word.ensures.to_indexes) in
    let asked = subst (λ u. RetainsBelow R c.args.keep s c.loop-index.keep u h.1) is
    (h.3 c.args.keep s v.retains) in
    let e = c.pass_over-k-in-loop-k.ensures in
    let passed = passes_in_order true true m w (k + 1) _ _ (g.B.Shape.big new) b.width_positive
    (b.whole_words new) e in
    let r = c.pass_over-k-in-loop-k.result in
    let up : (k + 1) * w ≤ r * w = mul-le-mul_right w e.0 in
    let low = mul-le-mul_right w e.1 in
    let past : NoneIn after h.1 (r * w) = λ j lo hi. elim (cases_lt j (k * w + w)) [
      | inl l ↦ subst (λ (u : PlainSet). u.has j ≡ false) is
          (halfway_past w k _ _ _ h.0 h.1 b.width_positive h.2 none j lo l)
      | inr g' ↦ passed.2 j (omega (arith, g')) hi
    ] in
    record {
      callable = subst (λ n. IsCallableBelow n g.F.FnMut c.loop-index.keep) v.retains.capacity
          c.loop-index.invariant.callable;
      within = e.1;
      whole = v.whole;
      retains = retains_on R _ _ _ _ _ asked (r * w) (omega (arith, h.2.ends, up))
          (omega (arith, low, v.whole)) past;
      stays = v.stays ∙ c.change_word.ensures.stays;
    }

pub returns-clause-set : goal.returns-clause-set
returns-clause-set g c =
    let m = g.E.Endian.mirrored in
    let w = g.B.Shape.width in
    let b = g.met.B.ReadWords in
    let old = c.args.bits.now in
    let new = c.loop-k.bits in
    let v = c.loop-k.invariant in
    let far = mul-le-mul_right w c.loop-k-test.false in
    retains_all (goal.F-step g) _ _ _ _ _ v.retains
    (members-past m w _ b.width_positive (b.whole_words old) (b.none_past old))
    (members-past m w _ b.width_positive (b.whole_words new) (b.none_past new))
    (λ j lo hi. absurd (omega (arith, far, v.whole, lo, hi, v.retains.capacity)))

pub returns-clause-stays : goal.returns-clause-stays
returns-clause-stays g c = c.loop-k.invariant.stays
