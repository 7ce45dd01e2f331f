use Rattle.std.proofs.Common.{◌%◌, refl, sym, ap, ◌∙◌}
use Rattle.std.proofs.Math.Nat.{mod-eq_of_lt}
use Rattle.std.proofs.lemmas.Nat.{mod_below}
use Rattle.bittle.specs.Values.{set_in}
use Rattle.bittle_bits.proofs.PlainSets.{contains_in}
use Rattle.bittle_laws.proofs.orders.testing_wraps.Goals as goal

pub returns : goal.returns
returns g c = λ i some.
    let s = set_in g.B.Shape g.E.Endian c.args.bits.now in
    contains_in s s.capacity i refl some
    ∙ ap s.has (sym (mod-eq_of_lt (mod_below i s.capacity some)))
    ∙ sym (contains_in s s.capacity (i % s.capacity) refl some)
