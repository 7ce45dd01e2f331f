use Rattle.std.proofs.Common.{ap, ◌∙◌}
use Rattle.std.specs.List.{fold}
use Rattle.bittle.specs.PlainSet.{with_index}
use Rattle.bittle_ext.proofs.bits_owned_ext.BitsOwnedExt.from_iter.Goals as goal

pub returns-clause-set : goal.returns-clause-set
returns-clause-set g c =
    let set = c.extend.ensures.set in (
      set.0,
      set.1,
      set.2,
      set.3,
      set.4
          ∙ ap (λ s. fold with_index s set.2)
          (c.zeros-set.ensures.in_each_order g.Self.Order.Endian.mirrored),
    )

pub returns-clause-runs : goal.returns-clause-runs
returns-clause-runs g c =
    let made = c.extend.ensures.runs in
    let run = made.2 in (
      made.0,
      made.1,
      (
        run.0,
        run.1,
        run.2,
        run.3
            ∙ ap (λ s. fold with_index s run.0.items)
            (c.zeros-set.ensures.in_each_order g.Self.Order.Endian.mirrored),
      ),
    )
