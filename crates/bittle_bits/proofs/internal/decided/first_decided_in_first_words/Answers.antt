use Rattle.std.proofs.Common.{◌≡◌, ◌*◌, ◌/◌, ◌≤◌, MatchOption, min, subst, sym, ap, ◌∙◌, arith}
use Rattle.std.proofs.Math.Nat.{div-eq_of_lt, min-le_left, min-le_right}
use Rattle.bittle_bits.specs.Decided.{NoneDecidedBelow, IsFirstDecided}
use Rattle.bittle_bits.specs.LawProofs.{whole_lesser}
use Rattle.bittle_bits.specs.Orders.{read_in}
use Rattle.bittle_bits.proofs.DecidedWords.{first_decided, none_or_first, words_make_up}
use Rattle.bittle_bits.proofs.internal.decided.first_decided_in_first_words.Goals as goal

pub returns-clause-first : goal.returns-clause-first
returns-clause-first g c =
    let a = g.met.A.ReadWords in
    let f = g.O.Operation.decide in
    let m = g.E.Endian.mirrored in
    let w = g.A.Shape.width in
    let x = g.A.Shape.big c.args.left.now in
    let y = g.B.Shape.big c.args.right.now in
    let n = c.args.common in
    let whole = whole_lesser x.capacity y.capacity w g.B.Shape.width n c.requires.width
    c.requires.common (a.whole_words c.args.left.now)
    (g.met.B.ReadWords.whole_words c.args.right.now) in
    let some : 1 * w ≤ n =
    omega (arith, c.word_width.ensures, c.if-common-word_width.false) in
    let found = rw (c.of.ensures.left, c.of.ensures.right, c.of.ensures.common)
    at c.first_in_words.ensures in
    subst (λ v. MatchOption c.first_in_words.result
    (NoneDecidedBelow f (read_in m w x) (read_in m v y) (min n w))
    (IsFirstDecided f (read_in m w x) (read_in m v y))) c.requires.width
    (none_or_first f (read_in m w x) (read_in m w y) (1 * w) (min n w) c.first_in_words.result
    (omega (arith, min-le_right n w))
    (first_decided f m w n x y a.width_positive whole (1 * w) c.first_in_words.result
    some found))

pub returns-then-common-word_width-clause-first : goal.returns-then-common-word_width-clause-first
returns-then-common-word_width-clause-first g c i below =
    let a = g.met.A.ReadWords in
    let w = g.A.Shape.width in
    let n = c.args.common in
    let whole = whole_lesser (g.A.Shape.big c.args.left.now).capacity
    (g.B.Shape.big c.args.right.now).capacity w g.B.Shape.width n c.requires.width
    c.requires.common (a.whole_words c.args.left.now)
    (g.met.B.ReadWords.whole_words c.args.right.now) in
    let none : n / w ≡ 0 =
    div-eq_of_lt (omega (arith, c.word_width.ensures, c.if-common-word_width.true)) in
    let empty : n ≡ 0 * w = sym (words_make_up w n a.width_positive whole) ∙ ap (λ k. k * w) none in
    absurd (omega (arith, below, empty, min-le_left n w))
