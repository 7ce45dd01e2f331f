use Rattle.std.proofs.Common.{◌≡◌, sym, ap, subst, ◌∙◌}
use Rattle.bittle.specs.BitPatterns.{bit_set}
use Rattle.bittle.specs.Words.{word_of}
use Rattle.bittle.specs.Orders.{read_in}
use Rattle.bittle_ext.proofs.CombinedWords.{word_in_order}
use Rattle.bittle_ext.proofs.other_words.other_word.Goals as goal

pub returns-then-are_alike : goal.returns-then-are_alike
returns-then-are_alike g c =
    let m = g.E.Endian.mirrored in
    let w = g.A.Shape.width in
    let k = c.args.k in
    let t = g.B.Shape.big c.args.set.now in
    let d = g.A.LeafWord.Word.pattern c.from_bits.result in
    let e = g.B.LeafWord.Word.pattern c.word_or_empty.result in
    let alike = c.are_alike.ensures.0 c.if-are_alike.true in
    let same : bit_set w e ≡ word_of w t k = subst (λ v. bit_set v e ≡ word_of v t k)
    (sym (alike.0)) c.word_or_empty.ensures in
    let whole : bit_set w d ≡ word_of w t k = ap (bit_set w)
    (c.from_bits.ensures ∙ c.to_bits.ensures.pattern) ∙ same in
    word_in_order m w k t d g.met.A.ReadWords.width_positive whole
    ∙ (λ i. word_of w (read_in (alike.1 i) (alike.0 i) t) k)
