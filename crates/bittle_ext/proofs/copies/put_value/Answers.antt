use Rattle.std.proofs.Common.{◌≡◌, ◌+◌, ◌≤◌, ap, ◌∙◌, refl, arith}
use Rattle.bittle.specs.BitPatterns.{bit_set}
use Rattle.bittle.specs.Orders.{read_in}
use Rattle.bittle.specs.PlainSet.{PlainSet}
use Rattle.bittle.specs.Values.{set_in}
use Rattle.bittle_ext.specs.Numbers.{with_copied}
use Rattle.bittle_ext.proofs.CopiedRanges.{copied_after, copied_none, like_number}
use Rattle.bittle_ext.proofs.copies.put_value.Goals as goal

pub loop-done-init : goal.loop-done-init
loop-done-init g c = record {
  most = omega arith;
  copied = copied_none _ (bit_set 64 c.args.value) c.args.first 0;
  stays = refl;
}

pub loop-done-preserved : goal.loop-done-preserved
loop-done-preserved g c =
    let w = g.A.Shape.width in
    let s = set_in g.A.Shape g.E.Endian c.args.set.now in
    let t = bit_set 64 c.args.value in
    let first = c.args.first in
    let done = c.loop-done.done in
    let more = c.min-more.result in
    let v = c.loop-done.invariant in
    let word =
    read_in g.E.Endian.mirrored w (bit_set w (g.A.LeafWord.Word.pattern c.word_of-word.result)) in
    let zero_more : 0 + done ≡ done = omega arith in
    let small : more ≤ w =
    omega (arith, c.min-more.ensures, c.width_of_words-width.ensures.width) in
    let bits = (rw g.met.A.ReadWords.leaf_width at c.value_from.ensures.bits) more small
    (omega (arith, c.min-more.ensures, c.loop-done-test.true, c.requires.number)) in
    record {
      most = omega (arith, c.min-more.ensures, c.loop-done-test.true);
      copied = c.put_word.ensures.set
          ∙ ap (λ u. with_copied u (first + done) more word 0) v.copied
          ∙ copied_after s t first done more 0 word (λ i h.
          ap (λ (u : PlainSet). u.has i) (rw g.met.A.ReadWords.leaf_width at c.word_of-word.ensures)
          ∙ like_number t (0 + done) more w c.value_from.result small (rw zero_more bits) i h);
      stays = v.stays ∙ c.put_word.ensures.stays;
    }
