use Rattle.std.proofs.Common.{◌∙◌, ◌/◌, ap, not}
use Rattle.bittle_bits.proofs.WordCalls.{word_tested}
use Rattle.bittle_ext.proofs.OneBit.{CombinesIndex, bit_combined, combined_alone, contained_in_word}
use Rattle.bittle_ext.proofs.OneBit.{holds_index}
use Rattle.bittle_ext.proofs.one_bit.combine_within.Goals as goal

pub returns : goal.returns
returns g c =
    let b = g.met.B.ReadWords in
    let w = g.B.Shape.width in
    let m = g.E.Endian.mirrored in
    let wide = b.leaf_width in
    let i = c.args.index in
    let old = c.args.set.now in
    let new = c.set_nth_leaf_word.new.self in
    let one = rw wide at c.mask-mask.ensures in
    let at = holds_index m w _ i _ (g.B.Shape.big old) b.width_positive c.word_width.ensures
    c.requires.within c.nth_leaf_word-word.ensures in
    let combined : CombinesIndex g.O.Operation.decide m w (i / c.word_width.result) i _ _
    (g.B.Shape.big old) (g.B.Shape.big new) = record {
      keeps = g.met.O.RangeOperation.keeps_others;
      is = combined_alone g.O.Operation.decide m w i _ _ _ b.width_positive one
          (rw wide at c.on_words.ensures);
      replaced = c.set_nth_leaf_word.ensures.set;
    } in
    record {
      was_set = ap not c.is_zero.ensures.zero
          ∙ rw c.and.ensures (word_tested m w _ _ i b.width_positive one
          (rw (c.and.ensures, wide) at c.is_zero.ensures.range)) ∙ contained_in_word at;
      set = bit_combined at combined (b.whole_words old) (b.none_past old) (b.none_past new);
      stays = c.set_nth_leaf_word.ensures.stays;
    }
