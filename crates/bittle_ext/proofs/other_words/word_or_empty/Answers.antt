use Rattle.std.proofs.Common.{◌∙◌}
use Rattle.bittle_ext.proofs.CombinedWords.{word_past}
use Rattle.bittle_ext.proofs.other_words.word_or_empty.Goals as goal

pub returns-else-k-capacity : goal.returns-else-k-capacity
returns-else-k-capacity g c =
    let b = g.met.S.ReadWords in
    let set = c.args.set.now in
    word_past _ _ _ _ _ (g.S.Shape.big set) b.width_positive (b.whole_words set) (b.none_past set)
    (c.capacity.ensures.value c.requires.fits) c.word_width.ensures
    c.if-k-capacity.false c.zero.ensures
