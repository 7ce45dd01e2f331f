use Rattle.std.proofs.Common.{not, ◌==◌, sym, ap, ◌∙◌}
use Rattle.bittle.specs.PlainSet.{size}
use Rattle.bittle_bits.proofs.OnesOrZeros.{ones_or_zeros-word_of}
use Rattle.bittle_bits.proofs.Words.{word_ends}
use Rattle.bittle_tiers.specs.Tiers.{some_in_word}
use Rattle.bittle_tiers.proofs.upkeep.word_has_some.Goals as goal

pub returns : goal.returns
unfolding some_in_word
returns g c =
    let law = g.met.B.ReadWords in
    let w = g.B.Shape.width in
    let s = g.B.Shape.big c.args.map.now in
    let ends = word_ends w c.args.k s.capacity (law.whole_words _) c.requires.within in
    ap not ((rw law.leaf_width at c.all_zeros.ensures.value)
    ∙ ap (λ u. size u == 0) (c.word_of_kind.ensures
    ∙ sym (ones_or_zeros-word_of g.K.Kind.ONES w c.args.k s ends)))
