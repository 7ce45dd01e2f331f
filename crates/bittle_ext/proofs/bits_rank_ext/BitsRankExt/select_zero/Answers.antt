use Rattle.std.proofs.Common.{ap, slice_get, ◌∙◌}
use Rattle.bittle.specs.PlainSet.{ascending, complement}
use Rattle.bittle.specs.Values.{set_in}
use Rattle.bittle_ext.proofs.FoundBits.{unset_at_rank}
use Rattle.bittle_ext.proofs.KeptSizes.{select_found}
use Rattle.bittle_ext.proofs.bits_rank_ext.BitsRankExt.select_zero.Goals as goal

pub returns-clause-found : goal.returns-clause-found
returns-clause-found g c =
    let unset = complement (set_in g.Self.Shape g.Self.Order.Endian c.args.self.now) in
    select_found unset c.args.rank c.select.result (c.select.ensures.value
    ∙ ap (λ s. slice_get (ascending s) c.args.rank) c.complement_view.ensures.set)

pub returns-clause-unset : goal.returns-clause-unset
returns-clause-unset g c =
    unset_at_rank (set_in g.Self.Shape g.Self.Order.Endian c.args.self.now) c.args.rank
    c.select.result (returns-clause-found g c)
