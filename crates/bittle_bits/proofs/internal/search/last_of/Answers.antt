use Rattle.std.proofs.Common.{◌≡◌, suc, ◌+◌, ◌-◌, ◌*◌, ◌/◌, sym, ap, ◌∙◌, arith}
use Rattle.std.proofs.Math.Nat.{zero-mul}
use Rattle.bittle_bits.proofs.DecidedWords.{words_make_up}
use Rattle.bittle_bits.proofs.internal.search.last_of.Goals as goal

pub returns-then-words-eq0 : goal.returns-then-words-eq0
returns-then-words-eq0 g c =
    let law = g.met.B.ReadWords in
    let capacity = (g.B.Shape.big c.args.bits.now).capacity in
    let is = c.capacity.ensures.value c.requires in
    let whole = words_make_up g.B.Shape.width capacity law.width_positive
    (law.whole_words c.args.bits.now) in
    let none = rw (c.word_width-width.ensures, is) at c.if-words-eq0.true in
    λ k low high. absurd (omega (arith, high, whole, ap (λ n. n * g.B.Shape.width) none))

pub returns : goal.returns
returns g c =
    let law = g.met.B.ReadWords in
    let w = g.B.Shape.width in
    let capacity = (g.B.Shape.big c.args.bits.now).capacity in
    let is = c.capacity.ensures.value c.requires in
    let last = capacity / w - 1 in
    let some = rw (c.word_width-width.ensures, is) at c.if-words-eq0.false in
    let count : capacity / w ≡ suc last = omega (arith, some) in
    let whole : suc last * w ≡ capacity = sym (ap (λ n. n * w) count)
    ∙ words_make_up w capacity law.width_positive (law.whole_words c.args.bits.now) in
    let end : last * w + (w - 1) + 1 ≡ capacity = omega (arith, whole, law.width_positive) in
    rw (zero-mul w, end) at (rw (c.word_width-width.ensures, is) at c.end_in_words.ensures)
