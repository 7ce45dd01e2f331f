use Rattle.std.proofs.Common.{◌≡◌, ◌∙◌, ◌-◌, ap, sym}
use Rattle.bittle_bits.specs.Orders.{place}
use Rattle.bittle_bits.proofs.PlaceLemmas.{mirror_in_word}
use Rattle.bittle_bits.proofs.one_word.pop.Goals as goal

pub returns-then-is_mirrored-clause-found : goal.returns-then-is_mirrored-clause-found
returns-then-is_mirrored-clause-found g c =
    let at = c.in_ok-place.place in
    let index : place g.E.Endian.mirrored g.T.Word.width at ≡ c.width.result - 1 - at =
    ap (λ m. place m g.T.Word.width at) (sym c.is_mirrored.ensures ∙ c.if-is_mirrored.true)
    ∙ mirror_in_word g.T.Word.width at c.in_ok-place.ensures.within
    ∙ ap (λ w. w - 1 - at) (sym c.width.ensures) in
    rw (← index) c.in_ok-place.ensures.found
