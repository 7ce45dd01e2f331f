use Rattle.std.proofs.Common.{◌≡◌, ◌+◌, ◌-◌, ◌%◌, ◌<◌, ◌≤◌, inl, refl, ap, subst, ◌∙◌, arith}
use Rattle.std.proofs.lemmas.Nat.{mod_below}
use Rattle.bittle.specs.BitPatterns.{bit_set}
use Rattle.bittle.specs.Orders.{read_in}
use Rattle.bittle.specs.Values.{set_in}
use Rattle.bittle_ext.specs.Numbers.{with_copied}
use Rattle.bittle_ext.proofs.CopiedRanges.{BeginsLike, copied_before, copied_none, last_part}
use Rattle.bittle_ext.proofs.CopiedRanges.{like_outside}
use Rattle.bittle_ext.proofs.copies.copy_up.Goals as goal

pub loop-rest-init : goal.loop-rest-init
loop-rest-init g c =
    let s = set_in g.A.Shape g.E.Endian c.args.set.now in
    let none : c.args.count - c.args.count ≡ 0 = omega arith in
    record {
      most = omega arith;
      copied = rw none (copied_none s s (c.args.at + c.args.count) (c.args.from + c.args.count));
      stays = refl;
    }

pub word_at-word-requires-clause-within : goal.word_at-word-requires-clause-within
word_at-word-requires-clause-within g c =
    let of = c.width_of_words-width.ensures in
    let w = g.A.Shape.width in
    let low : (c.args.at + c.loop-rest.rest - 1) % w < w =
    mod_below _ w g.met.A.ReadWords.width_positive in
    omega (arith, rw (of.width) at c.min-less.ensures, low, of.within)

pub put_word-requires-clause-word : goal.put_word-requires-clause-word
put_word-requires-clause-word g c =
    let w = g.A.Shape.width in
    let rest = c.loop-rest.rest in
    let less = c.min-less.result in
    let e = c.args.at + rest - 1 in
    let wide = c.width_of_words-width.ensures.width in
    let least = rw wide at c.min-less.ensures in
    let some = c.loop-rest-test.true in
    let here : e + 1 - less ≡ c.args.at + (rest - less) = omega (arith, least, some) in
    let part = last_part w e less g.met.A.ReadWords.width_positive (omega (arith, least, some))
    (omega (arith, least)) in
    rw here at part

pub loop-rest-preserved : goal.loop-rest-preserved
loop-rest-preserved g c =
    let w = g.A.Shape.width in
    let s = set_in g.A.Shape g.E.Endian c.args.set.now in
    let at = c.args.at in
    let from = c.args.from in
    let rest = c.loop-rest.rest in
    let less = c.min-less.result in
    let left = rest - less in
    let n = c.args.count - rest in
    let word =
    read_in g.E.Endian.mirrored w (bit_set w (g.A.LeafWord.Word.pattern c.word_at-word.result)) in
    let v = c.loop-rest.invariant in
    let few : less ≤ rest = omega (arith, c.min-less.ensures) in
    let same = like_outside s s (at + rest) n (from + rest) (from + left) less word
    (inl (omega (arith, few, c.requires.up)))
    (subst (λ x. BeginsLike word x (from + left) less) v.copied c.word_at-word.ensures) in
    let to_here : at + rest ≡ at + left + less = omega (arith, few) in
    let from_here : from + rest ≡ from + left + less = omega (arith, few) in
    let more : less + n ≡ c.args.count - left = omega (arith, few, v.most) in
    record {
      most = omega (arith, v.most);
      copied = c.put_word.ensures.set
          ∙ ap (λ x. with_copied x (at + left) less word 0)
          (v.copied ∙ (λ j. with_copied s (to_here j) n s (from_here j)))
          ∙ copied_before s s (at + left) less n (from + left) word same
          ∙ ap (λ k. with_copied s (at + left) k s (from + left)) more;
      stays = v.stays ∙ c.put_word.ensures.stays;
    }
