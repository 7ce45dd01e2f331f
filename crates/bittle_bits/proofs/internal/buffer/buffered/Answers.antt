use Rattle.std.proofs.Common.{◌≡◌, ◌+◌, ◌*◌, Some, ap, ◌∙◌, arith}
use Rattle.bittle_bits.specs.BitPatterns.{bit_set}
use Rattle.bittle_bits.specs.Buffers.{edge_from_first, buffered_items, items_of, IsSound}
use Rattle.bittle_bits.proofs.BufferedWords.{left_by_all}
use Rattle.bittle_bits.proofs.internal.buffer.buffered.Given.{Over}
use Rattle.bittle_bits.proofs.internal.buffer.buffered.Goals.{Joined-is_mirrored, then-FRONT}
use Rattle.bittle_bits.proofs.internal.buffer.buffered.Goals.{else-FRONT, then-is_mirrored}
use Rattle.bittle_bits.proofs.internal.buffer.buffered.Goals.{else-is_mirrored}
use Rattle.bittle_bits.proofs.internal.buffer.buffered.Goals as goal

-- the first index of word k is k times the width
first : (g : Over) (c : Joined-is_mirrored g) → c.if-FRONT.first ≡ c.args.k * g.W.Word.width
first g c = elim c.if-FRONT.branch [
  | then-FRONT w ↦ w.first-is ∙ omega (arith, w.bit_count.ensures, w.width.ensures)
  | else-FRONT w ↦ w.first-is ∙ w.bit_count-first.ensures
]

-- the bit of least weight has the index `edge`
edge : (g : Over) (c : Joined-is_mirrored g) → c.if-is_mirrored.result
    ≡ c.args.k * g.W.Word.width + edge_from_first g.E.Endian.mirrored g.W.Word.width
edge g c = elim c.if-is_mirrored.branch [
  | then-is_mirrored w ↦ rw (← w.if-is_mirrored.ensures)
      (w.result-is ∙ omega
      (arith, first g c, w.width-then-is_mirrored.ensures, g.met.W.Word.width_positive))
  | else-is_mirrored w ↦ rw (← w.if-is_mirrored.ensures) (w.result-is ∙ omega (arith, first g c))
]

pub returns-clause-items : goal.returns-clause-items
unfolding buffered_items
returns-clause-items g c =
    let w = g.W.Word.width in
    let word = g.W.Word.pattern c.args.word in
    rw (left_by_all w word _ c.ones.ensures.value)
    (ap (λ base. Some (items_of g.E.Endian.mirrored w (bit_set w word) base))
    (omega (arith, edge g c)))

pub returns-clause-sound : goal.returns-clause-sound
unfolding IsSound
returns-clause-sound g c =
    ((λ is. (c.args.k * g.W.Word.width, edge g c, c.requires)), λ is. absurd cc)
