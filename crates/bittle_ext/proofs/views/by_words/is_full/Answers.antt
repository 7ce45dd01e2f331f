use Rattle.std.proofs.Common.{◌==◌}
use Rattle.bittle_bits.proofs.DecidedWords.{words_make_up}
use Rattle.bittle_bits.proofs.Sizes.{size_in_each_order}
use Rattle.bittle.specs.PlainSet.{complement}
use Rattle.bittle_ext.proofs.WholeWords.{found_none, full_just_where}
use Rattle.bittle_ext.proofs.views.by_words.is_full.Goals as goal

pub returns-clause-value : goal.returns-clause-value
returns-clause-value g c =
    let law = g.met.B.ReadWords in
    let w = g.B.Shape.width in
    let s = g.B.Shape.big c.args.bits.now in
    let first = rw (
      c.capacity.ensures.value c.requires,
      c.word_width.ensures,
      words_make_up w s.capacity law.width_positive (law.whole_words c.args.bits.now),
    ) at c.first_in_words.ensures in
    full_just_where s _ (found_none (complement s) s.capacity c.first_in_words.result _ first
    c.is_none.ensures)

pub returns-clause-in_each_order : goal.returns-clause-in_each_order
returns-clause-in_each_order g c = size_in_each_order _ _
    (λ n. n == (g.B.Shape.big c.args.bits.now).capacity) _
    g.met.B.ReadWords.width_positive (g.met.B.ReadWords.whole_words c.args.bits.now)
    (returns-clause-value g c)
