use Rattle.std.proofs.Common.{◌+◌, inl, inr, refl, ap, subst, ◌∙◌, arith}
use Rattle.std.proofs.lemmas.Bool.{cases_lt}
use Rattle.bittle.specs.BitPatterns.{bit_set}
use Rattle.bittle.specs.Orders.{read_in}
use Rattle.bittle.specs.PlainSet.{PlainSet}
use Rattle.bittle.specs.Values.{set_in}
use Rattle.bittle_bits.proofs.PlainSets.{members-past}
use Rattle.bittle_ext.specs.Numbers.{with_copied}
use Rattle.bittle_ext.proofs.CopiedRanges.{BeginsLike, copied_after, copied_none, like_at_most}
use Rattle.bittle_ext.proofs.CopiedRanges.{like_outside}
use Rattle.bittle_ext.proofs.copies.copy_down.Goals as goal

pub loop-done-init : goal.loop-done-init
loop-done-init g c = record {
  most = omega arith;
  copied = copied_none _ (set_in g.A.Shape g.E.Endian c.args.set.now) c.args.at c.args.from;
  stays = refl;
}

pub word_at-word-requires-clause-within : goal.word_at-word-requires-clause-within
word_at-word-requires-clause-within g c =
    omega (arith, c.min-more.ensures, c.width_of_words-width.ensures.width)

pub loop-done-preserved : goal.loop-done-preserved
loop-done-preserved g c =
    let b = g.met.A.ReadWords in
    let w = g.A.Shape.width in
    let s = set_in g.A.Shape g.E.Endian c.args.set.now in
    let now = c.loop-done.set in
    let u = set_in g.A.Shape g.E.Endian now in
    let past = members-past g.E.Endian.mirrored w _ b.width_positive
    (b.whole_words now) (b.none_past now) in
    let at = c.args.at in
    let from = c.args.from in
    let done = c.loop-done.done in
    let more = c.min-more.result in
    let v = c.loop-done.invariant in
    let word =
    read_in g.E.Endian.mirrored w (bit_set w (g.A.LeafWord.Word.pattern c.word_at-word.result)) in
    let read = like_at_most u (from + done) _ 4294967295 more word past
    (omega (arith, c.requires.fits.1, ap (λ (x : PlainSet). x.capacity) v.copied))
    (elim (cases_lt (from + done) 4294967295) [
      | inl l ↦ inl (omega (arith, l, c.saturating_add.ensures))
      | inr h ↦ inr (omega (arith, h, c.saturating_add.ensures), h)
    ]) c.word_at-word.ensures in
    let same = like_outside s s at done from (from + done) more word
    (inr (omega (arith, c.requires.down)))
    (subst (λ x. BeginsLike word x (from + done) more) v.copied read) in
    record {
      most = omega (arith, c.min-more.ensures, c.loop-done-test.true);
      copied = c.put_word.ensures.set
          ∙ ap (λ x. with_copied x (at + done) more word 0) v.copied
          ∙ copied_after s s at done more from word same;
      stays = v.stays ∙ c.put_word.ensures.stays;
    }
