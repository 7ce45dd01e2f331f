use Rattle.std.proofs.Common.{◌+◌, ◌<◌, refl, ◌∙◌, arith}
use Rattle.std.proofs.Math.Nat.{mul-lt-mul_of_pos_right}
use Rattle.bittle_ext.proofs.RotatedWords.{all_reversed, more_reversed, none_reversed}
use Rattle.bittle_ext.proofs.in_place_rotations.reverse_words.Goals as goal

pub loop-k-init : goal.loop-k-init
loop-k-init g c = record {
  words = none_reversed g.B.Shape.width c.args.from c.args.to _;
  stays = refl;
}

pub swap_words-requires-clause-first : goal.swap_words-requires-clause-first
swap_words-requires-clause-first g c =
    let fewer : c.args.from + c.loop-k.k < c.args.to = omega (arith, c.loop-k-test.true) in
    let low = mul-lt-mul_of_pos_right fewer g.met.B.ReadWords.width_positive in
    omega (arith, low, c.requires.within, c.loop-k.invariant.words.capacity)

pub loop-k-preserved : goal.loop-k-preserved
loop-k-preserved g c =
    let v = c.loop-k.invariant in
    record {
      words = more_reversed g.B.Shape.width c.args.from c.args.to c.loop-k.k _ _ _
          (omega (arith, c.loop-k-test.true)) c.requires.within v.words c.swap_words.ensures.words;
      stays = v.stays ∙ c.swap_words.ensures.stays;
    }

pub returns-clause-words : goal.returns-clause-words
returns-clause-words g c =
    let n = c.loop-k.k in
    all_reversed g.B.Shape.width c.args.from c.args.to n _ _
    (omega (arith, c.loop-k-test.false, c.loop-k.auto))
    (omega (arith, c.loop-k-test.false, c.loop-k.auto)) c.loop-k.invariant.words
