use Rattle.bittle_bits.proofs.Spans.{word_changed}
use Rattle.bittle_bits.proofs.one_word.assign_range.Goals as goal

pub returns : goal.returns
returns g c = word_changed g.E.Endian.mirrored _ g.met.T.Word.width_positive _
    g.met.O.RangeOperation.keeps_others c.args.from c.args.to _ _ _ c.requires.within
    c.range.ensures c.on_words.ensures
