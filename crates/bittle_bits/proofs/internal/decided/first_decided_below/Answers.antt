use Rattle.std.proofs.Common.{MatchOption, subst, arith}
use Rattle.bittle_bits.specs.Decided.{NoneDecidedBelow, IsFirstDecided}
use Rattle.bittle_bits.specs.LawProofs.{whole_lesser}
use Rattle.bittle_bits.specs.Orders.{read_in}
use Rattle.bittle_bits.proofs.DecidedWords.{first_decided, words_make_up}
use Rattle.bittle_bits.proofs.internal.decided.first_decided_below.Goals as goal

pub returns-clause-first : goal.returns-clause-first
returns-clause-first g c =
    let a = g.met.A.ReadWords in
    let f = g.O.Operation.decide in
    let m = g.E.Endian.mirrored in
    let w = g.A.Shape.width in
    let x = g.A.Shape.big c.args.left.now in
    let y = g.B.Shape.big c.args.right.now in
    let n = c.args.common in
    let whole = whole_lesser x.capacity y.capacity w g.B.Shape.width n c.requires.width
    c.requires.common (a.whole_words c.args.left.now)
    (g.met.B.ReadWords.whole_words c.args.right.now) in
    let found = rw (
      c.of.ensures.left,
      c.of.ensures.right,
      c.of.ensures.common,
      c.word_width.ensures,
      words_make_up w n a.width_positive whole,
    ) at c.first_in_words.ensures in
    subst (λ v. MatchOption c.first_in_words.result
    (NoneDecidedBelow f (read_in m w x) (read_in m v y) n)
    (IsFirstDecided f (read_in m w x) (read_in m v y))) c.requires.width
    (first_decided f m w n x y a.width_positive whole n c.first_in_words.result (omega arith) found)
