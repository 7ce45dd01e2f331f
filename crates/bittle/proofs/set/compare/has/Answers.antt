use Rattle.std.proofs.Common.{◌≡◌, ◌+◌, ◌*◌, ◌/◌, ◌%◌, ◌≤◌, refl, sym, ap, ◌∙◌, arith}
use Rattle.std.proofs.Math.Nat.{div-add-mod', mod-eq_of_lt}
use Rattle.std.proofs.lemmas.Nat.{mod_below}
use Rattle.bittle_bits.proofs.PlainSets.{contains_in, members-past}
use Rattle.bittle_bits.proofs.Words.{digit_at}
use Rattle.bittle_bits.specs.BitPatterns.{bit_set}
use Rattle.bittle_bits.specs.Orders.{read_in}
use Rattle.bittle_bits.specs.Values.{set_in}
use Rattle.bittle.proofs.set.compare.has.Goals as goal

pub returns-then-capacity-index : goal.returns-then-capacity-index
returns-then-capacity-index g c =
    let x = c.args.bits.now in
    let b = g.met.B.ReadWords in
    let past : (g.B.Shape.big x).capacity ≤ c.args.index = omega
    (arith, c.requires.capacity, c.if-capacity-index.true) in
    sym (members-past g.E.Endian.mirrored _ _ b.width_positive (b.whole_words x) (b.none_past x)
    c.args.index past)

pub returns : goal.returns
returns g c =
    let b = g.met.B.ReadWords in
    let m = g.E.Endian.mirrored in
    let w = g.B.Shape.width in
    let i = c.args.index in
    let s = g.B.Shape.big c.args.bits.now in
    let d = g.B.LeafWord.Word.pattern c.nth_leaf_word.result in
    let word = read_in m w (bit_set w d) in
    let wide : c.word_width-width.result ≡ w = c.word_width-width.ensures in
    let low = mod_below i w b.width_positive in
    let at : i / w * w + i % w ≡ i = omega (arith, div-add-mod' i w) in
    (rw (b.leaf_width, wide) at c.test_bit.ensures)
    ∙ contains_in word w (i % w) refl b.width_positive
    ∙ ap word.has (mod-eq_of_lt low)
    ∙ digit_at m w (i / w) s d b.width_positive (rw wide at c.nth_leaf_word.ensures) (i % w) low
    ∙ ap (set_in g.B.Shape g.E.Endian c.args.bits.now).has at
