use Rattle.std.proofs.Common.{◌≡◌, refl, arith}
use Rattle.std.proofs.lemmas.Nat.{div-add-mod', mod_below, div_below}
use Rattle.bittle_ext.proofs.RankFacts.{end_of_words}
use Rattle.bittle_ext.proofs.rotations.distance.Goals as goal

pub returns : goal.returns
returns g c =
    let b = g.met.B.ReadWords in
    let w = g.B.Shape.width in
    let by = c.args.by in
    let wide : c.word_width-width.result ≡ w = c.word_width-width.ensures in
    let set = c.args.set.now in
    let whole = end_of_words _ _ _ _ _ b.width_positive (b.whole_words set)
    (c.bits_capacity.ensures.value c.requires.fits) wide refl in
    rw wide record {
      whole = rw wide at whole;
      fewer = div_below by w _ b.width_positive
          (omega (arith, c.requires.within, rw wide at whole));
      within = mod_below by w b.width_positive;
      parts = div-add-mod' by w;
    }
