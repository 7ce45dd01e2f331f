use Rattle.std.proofs.Common.{◌+◌, ◌*◌, map, sym, ap, ◌∙◌}
use Rattle.bittle_bits.specs.Buffers.{BufferPair}
use Rattle.bittle_bits.proofs.AscendingLists.{ascending-empty, ascending-some}
use Rattle.bittle_bits.proofs.BufferedWords.{moved_none}
use Rattle.bittle_bits.proofs.internal.buffer.Buffers.refill.Goals as goal

-- with one more scan
abbrev scanned : BufferPair → BufferPair
scanned b =
    record { head = b.head; tail = b.tail; scans = b.scans + 1; fetches = b.fetches }

pub returns-then-all_zeros : goal.returns-then-all_zeros
returns-then-all_zeros g c =
    let m = g.E.Endian.mirrored in
    let base = c.args.k * g.W.Word.width in (
      sym c.fetch-word.ensures.items
          ∙ ap (map (λ i. base + i)) (ascending-empty _ (c.if-all_zeros.ensures.in_each_order m)),
      rw c.raise.ensures (ap scanned (c.self.view_is ∙ c.fetch-word.ensures.counted)),
    )

pub returns : goal.returns
returns g c = (
  (λ none. ascending-some _ (c.if-all_zeros.ensures.in_each_order g.E.Endian.mirrored)
      (moved_none (c.args.k * g.W.Word.width) _ (c.fetch-word.ensures.items ∙ none))),
  (rw (c.fetch-word.ensures.items, c.fetch-word.ensures.counted) at c.put.ensures),
)
