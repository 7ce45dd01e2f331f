use Rattle.std.proofs.Common.{◌≡◌, sym, ap, subst, ◌∙◌}
use Rattle.bittle_bits.specs.BitPatterns.{bit_set}
use Rattle.bittle_bits.specs.LawProofs.{whole_lesser}
use Rattle.bittle_bits.specs.SetOperations.{combination_of}
use Rattle.bittle_bits.specs.Words.{word_of}
use Rattle.bittle_bits.proofs.DecidedWords.{word_decided}
use Rattle.bittle_bits.proofs.Words.{word_ends}
use Rattle.bittle_bits.proofs.internal.decided.BothReadWords.nth_leaf_word.Goals as goal

pub returns : goal.returns
returns g c =
    let w = g.A.Shape.width in
    let k = c.args.k in
    let both = c.args.self.now in
    let s = g.A.Shape.big both.left.now in
    let t = g.B.Shape.big both.right.now in
    let d = g.B.LeafWord.Word.pattern c.nth_leaf_word.result in
    let same : bit_set w d ≡ word_of w t k = subst (λ v. bit_set v d ≡ word_of v t k)
    (sym both.width) c.nth_leaf_word.ensures in
    let theirs : bit_set w (g.A.LeafWord.Word.pattern c.from_bits.result)
    ≡ word_of w t k = ap (bit_set w)
    (c.from_bits.ensures ∙ c.to_bits-theirs.ensures.pattern) ∙ same in
    let whole = whole_lesser s.capacity t.capacity w g.B.Shape.width both.common
    both.width both.lesser
    (g.met.A.ReadWords.whole_words both.left.now) (g.met.B.ReadWords.whole_words both.right.now) in
    word_decided g.O.Operation.decide w k both.common _ s t
    (word_ends w k both.common whole c.requires.within)
    ((rw g.met.A.ReadWords.leaf_width at c.on_words.ensures)
    ∙ (λ i. combination_of g.O.Operation.decide (c.nth_leaf_word-word.ensures i) (theirs i)))
