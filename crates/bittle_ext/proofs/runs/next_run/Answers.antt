use Rattle.std.proofs.Common.{sym, ◌∙◌}
use Rattle.bittle.specs.Values.{kind_in, set_in}
use Rattle.bittle_bits.proofs.OnesOrZeros.{ones_or_zeros-capacity}
use Rattle.bittle_ext.proofs.RunFacts.{cut_off_whole, first_set_run_of_same}
use Rattle.bittle_ext.proofs.runs.next_run.Goals as goal

pub returns : goal.returns
returns g c =
    let s = kind_in g.B.Shape g.E.Endian g.K.Kind c.args.bits.now in
    first_set_run_of_same _ s c.args.from c.args.length c.next_run_before.result
    (cut_off_whole s c.bits_capacity.result (c.bits_capacity.ensures.value c.requires
    ∙ sym (ones_or_zeros-capacity g.K.Kind.ONES
    (set_in g.B.Shape g.E.Endian c.args.bits.now))))
    c.next_run_before.ensures
