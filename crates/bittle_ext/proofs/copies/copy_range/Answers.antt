use Rattle.std.proofs.Common.{◌+◌, inl, inr, refl, ap, ◌∙◌, arith}
use Rattle.std.proofs.lemmas.Bool.{cases_lt}
use Rattle.bittle.specs.BitPatterns.{bit_set}
use Rattle.bittle.specs.Orders.{read_in}
use Rattle.bittle.specs.Values.{set_in}
use Rattle.bittle_bits.proofs.PlainSets.{members-past}
use Rattle.bittle_ext.specs.Numbers.{with_copied}
use Rattle.bittle_ext.proofs.CopiedRanges.{copied_after, copied_none, like_at_most}
use Rattle.bittle_ext.proofs.copies.copy_range.Goals as goal

pub loop-done-init : goal.loop-done-init
loop-done-init g c =
    let t = set_in g.B.Shape g.F.Endian c.args.other.now in
    record {
      most = omega arith;
      copied = copied_none _ t c.args.at c.args.from;
      stays = refl;
    }

pub word_for-word-requires-clause-within : goal.word_for-word-requires-clause-within
word_for-word-requires-clause-within g c =
    omega (arith, c.min-more.ensures, c.width_of_words-width.ensures.width)

pub word_for-word-requires-clause-small : goal.word_for-word-requires-clause-small
word_for-word-requires-clause-small g c =
    let of = c.width_of_words-width.ensures in
    omega (arith, c.min-more.ensures, of.width, of.within)

pub loop-done-preserved : goal.loop-done-preserved
loop-done-preserved g c =
    let b = g.met.B.ReadWords in
    let w = g.A.Shape.width in
    let s = set_in g.A.Shape g.E.Endian c.args.set.now in
    let other = c.args.other.now in
    let t = set_in g.B.Shape g.F.Endian other in
    let past = members-past g.F.Endian.mirrored g.B.Shape.width _ b.width_positive
    (b.whole_words other) (b.none_past other) in
    let at = c.args.at in
    let from = c.args.from in
    let done = c.loop-done.done in
    let more = c.min-more.result in
    let v = c.loop-done.invariant in
    let word =
    read_in g.E.Endian.mirrored w (bit_set w (g.A.LeafWord.Word.pattern c.word_for-word.result)) in
    record {
      most = omega (arith, c.min-more.ensures, c.loop-done-test.true);
      copied = c.put_word.ensures.set
          ∙ ap (λ u. with_copied u (at + done) more word 0) v.copied
          ∙ copied_after s t at done more from word
          (like_at_most t (from + done) _ 4294967295 more word past
          (omega (arith, c.requires.other_fits.1)) (elim (cases_lt (from + done) 4294967295) [
            | inl l ↦ inl (omega (arith, l, c.saturating_add.ensures))
            | inr h ↦ inr (omega (arith, h, c.saturating_add.ensures), h)
          ]) c.word_for-word.ensures);
      stays = v.stays ∙ c.put_word.ensures.stays;
    }
