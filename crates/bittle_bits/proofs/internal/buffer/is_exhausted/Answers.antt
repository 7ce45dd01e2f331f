use Rattle.std.proofs.Common.{◌∙◌}
use Rattle.bittle_bits.proofs.AscendingLists.{ascending-empty, ascending-some}
use Rattle.bittle_bits.proofs.BufferedWords.{dropped, left_by_all, loaded_count, same_left}
use Rattle.bittle_bits.proofs.BufferedWords.{with_items, without_items}
use Rattle.bittle_bits.proofs.internal.buffer.is_exhausted.Goals as goal

pub returns-then-not-all_zeros-clause-told : goal.returns-then-not-all_zeros-clause-told
returns-then-not-all_zeros-clause-told g c = (
  with_items _ _ _ _ c.requires (rw c.and-left.ensures at
      (ascending-some _ (c.if-not-all_zeros.ensures.in_each_order g.E.Endian.mirrored))),
  (same_left _ _ _ c.args.buffered.now c.settle.new.buffered
      (left_by_all _ _ _ c.settle.ensures.mask ∙ c.settle.ensures.word) c.settle.ensures.edge
      c.settle.ensures.is_loaded).0,
)

pub returns-then-not-all_zeros-clause-sound : goal.returns-then-not-all_zeros-clause-sound
returns-then-not-all_zeros-clause-sound g c =
    (same_left _ _ _ c.args.buffered.now c.settle.new.buffered
    (left_by_all _ _ _ c.settle.ensures.mask ∙ c.settle.ensures.word) c.settle.ensures.edge
    c.settle.ensures.is_loaded).1 c.requires

pub returns-clause-told : goal.returns-clause-told
returns-clause-told g c =
    let none = rw c.and-left.ensures at
    (ascending-empty _ (c.if-not-all_zeros.ensures.in_each_order g.E.Endian.mirrored)) in (
      without_items _ _ _ _ none,
      (dropped _ _ _ _ _ _ _ none c.unload.ensures.dropped).0,
    )

pub returns-clause-scans : goal.returns-clause-scans
returns-clause-scans g c = rw loaded_count c.unload.ensures.scans

pub returns-clause-sound : goal.returns-clause-sound
returns-clause-sound g c =
    (dropped _ _ _ _ _ _ _ (rw c.and-left.ensures at
    (ascending-empty _ (c.if-not-all_zeros.ensures.in_each_order g.E.Endian.mirrored)))
    c.unload.ensures.dropped).1
