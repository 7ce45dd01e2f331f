use Rattle.std.proofs.Common.{ap, arith, ◌∙◌, take_all}
use Rattle.std.specs.List.{fold}
use Rattle.bittle.specs.PlainSet.{size, with_index}
use Rattle.bittle.specs.Values.{set_in}
use Rattle.bittle_ext.proofs.ListedMembers.{size_after_all}
use Rattle.bittle_ext.proofs.KeptSizes.{size_all_set}
use Rattle.bittle_ext.proofs.bits_mut_ext.BitsMutExt.insert_all.Goals as goal

pub returns-clause-at_most : goal.returns-clause-at_most
returns-clause-at_most g c =
    let s = set_in g.Self.Shape g.Self.Order.Endian c.args.self.now in
    size_after_all s _ c.args.indexes.now (c.loop-index.invariant.inserted
    ∙ ap (fold with_index s) (take_all _ _ c.loop-index-test.false))

pub returns-clause-at_least : goal.returns-clause-at_least
returns-clause-at_least g c =
    let s = set_in g.Self.Shape g.Self.Order.Endian c.args.self.now in
    omega (
      arith,
      ap size (c.loop-index.invariant.inserted
          ∙ ap (fold with_index s) (take_all _ _ c.loop-index-test.false)),
      size_all_set c.args.indexes.now s,
    )
