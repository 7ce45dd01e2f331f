use Rattle.std.proofs.Common.{Some, None, ◌≡◌, ◌*◌, ◌+◌, ap, ◌∙◌, arith}
use Rattle.bittle.specs.Values.{set_in}
use Rattle.bittle_bits.proofs.Words.{word_ends}
use Rattle.bittle_ext.proofs.KeptSizes.{select_found}
use Rattle.bittle_ext.proofs.RankFacts.{selected, not_selected}
use Rattle.bittle_ext.proofs.bits_ext.BitsExt.select.Goals as goal

pub overflow_add-result : goal.overflow_add-result
overflow_add-result g c =
    let b = g.met.Self.ReadWords in
    let w = g.Self.Shape.width in
    let s = set_in g.Self.Shape g.Self.Order.Endian c.args.self.now in
    let wide = c.word_width-width.ensures in
    omega (
      arith,
      ap (λ v. c.in-Some.k * v) wide,
      word_ends w c.in-Some.k s.capacity (b.whole_words c.args.self.now) c.in-Some.ensures.0,
      c.index_of_rank.ensures.within,
      c.requires.1,
    )

pub returns-in-Some-clause-below : goal.returns-in-Some-clause-below
returns-in-Some-clause-below g c =
    let b = g.met.Self.ReadWords in
    let wide = c.word_width-width.ensures in
    omega (
      arith,
      ap (λ v. c.in-Some.k * v) wide,
      word_ends g.Self.Shape.width c.in-Some.k _ (b.whole_words c.args.self.now)
          c.in-Some.ensures.0,
      c.index_of_rank.ensures.within,
    )

pub returns-in-Some-clause-value : goal.returns-in-Some-clause-value
returns-in-Some-clause-value g c =
    let b = g.met.Self.ReadWords in
    let w = g.Self.Shape.width in
    let s = set_in g.Self.Shape g.Self.Order.Endian c.args.self.now in
    let wide = c.word_width-width.ensures in
    let place = c.index_of_rank.ensures in
    rw wide (selected s (c.in-Some.k * w + c.index_of_rank.result) c.args.rank
    (omega (
      arith,
      word_ends w c.in-Some.k s.capacity (b.whole_words c.args.self.now) c.in-Some.ensures.0,
      place.within,
    ))
    place.found.0 (place.found.1 ∙ c.in-Some.ensures.1))

pub returns-in-None-clause-value : goal.returns-in-None-clause-value
returns-in-None-clause-value g c =
    not_selected (set_in g.Self.Shape g.Self.Order.Endian c.args.self.now) c.args.rank
    c.in-None.ensures

pub returns-in-Some-clause-found : goal.returns-in-Some-clause-found
returns-in-Some-clause-found g c =
    select_found (set_in g.Self.Shape g.Self.Order.Endian c.args.self.now) c.args.rank (Some _)
    (returns-in-Some-clause-value g c)

pub returns-in-None-clause-found : goal.returns-in-None-clause-found
returns-in-None-clause-found g c =
    select_found (set_in g.Self.Shape g.Self.Order.Endian c.args.self.now) c.args.rank None
    (returns-in-None-clause-value g c)
