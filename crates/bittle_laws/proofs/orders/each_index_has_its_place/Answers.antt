use Rattle.std.proofs.Common.{sym, ap, ◌∙◌}
use Rattle.bittle.specs.Orders.{place}
use Rattle.bittle_bits.proofs.PlaceLemmas.{place_in_word, place-place}
use Rattle.bittle_laws.proofs.orders.each_index_has_its_place.Goals as goal

pub returns-clause-inside : goal.returns-clause-inside
returns-clause-inside g c = place_in_word g.E.Endian.mirrored

pub returns-clause-distinct : goal.returns-clause-distinct
returns-clause-distinct g c = λ w i j h e.
    let m = g.E.Endian.mirrored in
    sym (place-place m w i h) ∙ ap (place m w) e ∙ place-place m w j h
