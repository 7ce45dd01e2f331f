use Rattle.std.proofs.Common.{◌≤◌, [], ◌∷◌, ◌++◌, length, refl, sym, ◌∙◌, arith}
use Rattle.std.proofs.iter.Next as it
use Rattle.std.proofs.slice.Lists.{length_more}
use Rattle.std.proofs.option.Match.{tell_None}
use Rattle.bittle_bits.proofs.join.skip_to.Goals as goal

pub loop-item-init : goal.loop-item-init
loop-item-init g c = (c.requires, ([], refl, omega arith))

pub returns-in_err-item-clause-ran : goal.returns-in_err-item-clause-ran
returns-in_err-item-clause-ran g c =
    let inv = c.loop-item.invariant in
    let e = c.from_residual.ensures in
    let short : length inv.1.0 ≤ c.args.count = omega (arith, inv.1.2) in (
      inv.1.0,
      (
        _,
        inv.1.1,
        it.said g.I.Iterator.next_gives (c.in_err-item.was ∙ sym e)
            c.take.ensures.steps,
      ),
      tell_None _ _ e short,
    )

pub loop-item-preserved : goal.loop-item-preserved
loop-item-preserved g c =
    let inv = c.loop-item.invariant in
    let x = c.in_ok-item.item in
    let told = c.in_ok-item.ensures in (
      told.keeps,
      (
        inv.1.0 ++ (x ∷ []),
        it.Yields-more g.I.Iterator.next_gives _ inv.1.0 _ x _ inv.1.1
            told.steps,
        omega (arith, inv.1.2, c.if-left-eq0.false, length_more inv.1.0 x),
      ),
    )

pub returns-then-left-eq0-clause-ran : goal.returns-then-left-eq0-clause-ran
returns-then-left-eq0-clause-ran g c =
    let inv = c.loop-item.invariant in (
      inv.1.0,
      (_, inv.1.1, c.in_ok-item.ensures.steps),
      omega (arith, inv.1.2, c.if-left-eq0.true),
    )
