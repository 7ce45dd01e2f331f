use Rattle.std.proofs.Common.{◌+◌, ◌-◌, ◌*◌, ◌/◌, ◌<◌, sym, arith}
use Rattle.std.proofs.Math.Nat.{div-add-mod', mul-le-mul_right, lt_of_mul-lt-mul_right}
use Rattle.std.proofs.lemmas.Nat.{mod_below}
use Rattle.bittle_bits.proofs.internal.ends.ends.Goals as goal

pub returns : goal.returns
returns c =
    let w = c.args.length in
    let some = c.requires.some in
    let from = c.args.from in
    let past = c.args.to - 1 in
    let a = div-add-mod' from w in
    let b = div-add-mod' past w in
    let top = mod_below past w some in
    let up : from / w * w < (past / w + 1) * w = omega (arith, a, b, top, c.requires.ordered) in
    let next : from / w < past / w + 1 = lt_of_mul-lt-mul_right w up in
    record {
      from = sym a;
      begin = mod_below from w some;
      to = omega (arith, b, c.requires.ordered);
      top = top;
      in_order = omega (arith, next);
      before_last = λ k l. mul-le-mul_right w (omega (arith, l));
    }
