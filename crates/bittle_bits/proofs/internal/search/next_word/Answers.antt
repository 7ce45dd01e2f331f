use Rattle.std.proofs.Common.{◌∙◌, arith}
use Rattle.bittle_bits.proofs.Searches.{next_ended}
use Rattle.bittle_bits.proofs.Words.{word_ends}
use Rattle.bittle_bits.proofs.internal.search.next_word.Goals as goal

pub pass_over-next-requires-clause-within : goal.pass_over-next-requires-clause-within
pass_over-next-requires-clause-within g c = omega (
  arith,
  word_ends _ c.args.last _ (g.met.B.ReadWords.whole_words c.args.bits.now) c.requires.within,
)

pub returns-then-k-at_end : goal.returns-then-k-at_end
returns-then-k-at_end g c mirrored = next_ended _ _ _ _ _ _ (c.if-k-at_end.true ∙ c.at_end.ensures)
