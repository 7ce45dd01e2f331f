use Rattle.std.proofs.Common.{◌≡◌, ◌<◌, ◌%◌, refl, sym, ap, ◌∙◌, arith}
use Rattle.std.proofs.Math.Nat.{mod-eq_of_lt}
use Rattle.std.proofs.lemmas.Bool.{eqb-true, true≢false}
use Rattle.bittle.specs.BitPatterns.{bit_has}
use Rattle.bittle.specs.Orders.{place}
use Rattle.bittle_bits.proofs.BitSets.{bit_has-and, bit_has-zero}
use Rattle.bittle_ext.proofs.ShortRuns.{one_begins, more_begin, none_begins, first_begins}
use Rattle.bittle_ext.proofs.short_runs.first_in_word.Goals.{then-loop-known-test+else-not-is_zero}
use Rattle.bittle_ext.proofs.short_runs.first_in_word.Goals.{else-loop-known-test}
use Rattle.bittle_ext.proofs.short_runs.first_in_word.Goals as goal

pub loop-known-init : goal.loop-known-init
loop-known-init g c = record {
  within = omega (arith, c.requires.within);
  some = omega arith;
  most = omega (arith, c.requires.some);
  begin = one_begins _;
}

pub loop-known-smaller : goal.loop-known-smaller
loop-known-smaller g c =
    let p = c.loop-known.invariant in
    let more = c.min.ensures in
    let low : c.min.result < g.W.Word.width = omega (arith, p.within, more, c.requires.within) in
    rw (c.width.ensures, mod-eq_of_lt low) (omega (arith, c.loop-known-test.true, p.some, more))

pub loop-known-preserved : goal.loop-known-preserved
loop-known-preserved g c =
    let w = g.W.Word.width in
    let m = g.E.Endian.mirrored in
    let p = c.loop-known.invariant in
    let more = c.min.ensures in
    let low : c.min.result < w = omega (arith, p.within, more, c.requires.within) in
    let kept : c.min.result % c.width.result ≡ c.min.result =
    rw c.width.ensures (mod-eq_of_lt low) in
    record {
      within = p.within;
      some = omega (arith, p.some);
      most = omega (arith, p.most, more, kept);
      begin = more_begin w c.loop-known.known (c.min.result % c.width.result) _ _ _ _ _ refl refl
          (omega (arith, more, kept, p.some, c.loop-known-test.true)) (omega (arith, more, kept))
          p.begin c.window.ensures
          (λ i. ap (λ f. f (place m w i)) (bit_has-zero w _ c.zero.ensures))
          (λ i. ap (λ d. bit_has w d (place m w i)) c.and-begin.ensures
          ∙ ap (λ f. f (place m w i)) (bit_has-and w _ _));
    }

pub returns-then-index-width : goal.returns-then-index-width
returns-then-index-width g c =
    let p = c.loop-known.invariant in
    none_begins _ _ _ _ _ p.begin p.most p.some c.zeros-index.ensures
    (c.if-index-width.true ∙ c.width-2.ensures)

pub returns : goal.returns
returns g c =
    let w = g.W.Word.width in
    let m = g.E.Endian.mirrored in
    let p = c.loop-known.invariant in
    let least = c.zeros-index.ensures in
    let low : c.zeros-index.result < w =
    omega (arith, least.within, c.if-index-width.false, c.width-2.ensures) in
    let all : c.loop-known.known ≡ c.args.length = elim c.loop-known-test.branch [
      | then-loop-known-test+else-not-is_zero t ↦
          let none = eqb-true _ 0 (sym t.is_zero.ensures.zero ∙ t.if-not-is_zero.false) in
          absurd (true≢false (sym (least.is_member low)
          ∙ ap (λ f. f (place m w c.zeros-index.result)) (bit_has-zero w _ none)))
      | else-loop-known-test t ↦ omega (arith, p.most, t.loop-known-test.false)
    ] in
    rw all at (first_begins _ _ _ _ p.begin least low)
