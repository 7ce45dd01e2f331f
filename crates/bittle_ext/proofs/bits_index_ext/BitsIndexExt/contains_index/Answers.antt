use Rattle.std.proofs.Common.{◌≡◌, ◌∙◌, sym, arith}
use Rattle.std.proofs.lemmas.Bool.{le-ltb}
use Rattle.bittle.specs.Values.{ShapeFits}
use Rattle.bittle_bits.proofs.PlainSets.{members-past}
use Rattle.bittle_ext.proofs.bits_index_ext.BitsIndexExt.contains_index.Goals as goal

pub returns-else-index-bits_capacity-clause-value :
    goal.returns-else-index-bits_capacity-clause-value
returns-else-index-bits_capacity-clause-value g c = λ fits.
    let b = g.met.Self.ReadWords in
    let set = c.args.self.now in
    le-ltb c.args.index c.bits_capacity.result c.if-index-bits_capacity.false
    ∙ sym (members-past g.Self.Order.Endian.mirrored _ _ b.width_positive (b.whole_words set)
    (b.none_past set) c.args.index
    (omega (arith, c.bits_capacity.ensures.value fits, c.if-index-bits_capacity.false)))

pub returns-else-index-bits_capacity-clause-until_last :
    goal.returns-else-index-bits_capacity-clause-until_last
returns-else-index-bits_capacity-clause-until_last g c = λ small.
    returns-else-index-bits_capacity-clause-value g c
    (c.bits_capacity.ensures.fits (omega (arith, c.if-index-bits_capacity.false)))
