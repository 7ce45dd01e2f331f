use Rattle.std.proofs.Common.{◌/◌, ◌∙◌}
use Rattle.bittle_tiers.proofs.Summaries.{none_exactly, words_counted}
use Rattle.bittle_tiers.proofs.upkeep.all_words_have_none.Goals as goal

pub returns : goal.returns
returns g c =
    let law = g.met.B.ReadWords in
    let w = g.B.Shape.width in
    let fits = c.requires.map_fits in
    let own = g.met.B.FixedCapacity in
    let count = words_counted c.fixed_capacity.result c.word_width.result w g.B.Shape.type_capacity
    law.width_positive (c.fixed_capacity.ensures.value (fits, own.type_fits fits))
    c.word_width.ensures own.type_whole_words in
    none_exactly g.K.Kind.ONES w (g.B.Shape.big c.args.map.now) (g.S.Shape.big c.args.summary.now)
    law.width_positive (law.whole_words c.args.map.now) c.requires.tells
    (c.fixed_capacity.result / c.word_width.result) (own.one_capacity c.args.map.now ∙ count)
    c.end_in.result c.is_none.result c.is_none.ensures c.end_in.ensures
