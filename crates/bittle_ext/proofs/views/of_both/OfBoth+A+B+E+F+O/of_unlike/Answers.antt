use Rattle.std.proofs.Common.{◌≡◌, ℕ, false, max, ap, ◌∙◌, arith}
use Rattle.bittle.specs.PlainSet.{PlainSet, ascending}
use Rattle.bittle.specs.Values.{set_in}
use Rattle.bittle_ext.specs.Views.{decided_until, rounded_up}
use Rattle.bittle_ext.proofs.ViewFacts.{ascending_longer, holds_either}
use Rattle.bittle_ext.proofs.views.of_both.OfBoth+A+B+E+F+O.of_unlike.Goals as goal

-- the end is the greater capacity, rounded up
end_is : (x y a b v w n r : ℕ) → x ≡ a → y ≡ b → n ≡ max x y → v ≡ w → r ≡ rounded_up n v →
    r ≡ rounded_up (max a b) w
end_is x y a b v w n r ours theirs greater wide is =
    is ∙ (λ i. rounded_up ((greater ∙ (λ j. max (ours j) (theirs j))) i) (wide i))

pub until-requires-clause-holds : goal.until-requires-clause-holds
until-requires-clause-holds g c =
    let ours = c.capacity_of.ensures.ends in
    let theirs = c.capacity_of-2.ensures.ends in
    let wide = c.word_width.ensures in
    let end = c.next_multiple_of-end in
    let is = end_is _ _ _ _ _ _ _ _ ours.capacity theirs.capacity c.max-greater.ensures wide
    end.ensures.value in
    holds_either g.O.Operation.decide ours theirs g.A.Shape.width
    g.met.O.EitherOperation.takes_second end.result (omega (arith, is, c.requires.rounded))
    (rw wide at end.ensures.multiple)
    (omega (arith, end.ensures.lower_bound, c.max-greater.ensures))

pub returns-clause-set : goal.returns-clause-set
returns-clause-set g c =
    let wide = c.word_width.ensures in
    c.until.ensures.set ∙ ap (λ n. decided_until g.O.Operation.decide n
    (set_in g.A.Shape g.E.Endian c.args.left.now) (set_in g.B.Shape g.F.Endian c.args.right.now))
    (end_is _ _ _ _ _ _ _ _ c.capacity_of.ensures.ends.capacity
    c.capacity_of-2.ensures.ends.capacity c.max-greater.ensures wide
    c.next_multiple_of-end.ensures.value)

pub returns-clause-items : goal.returns-clause-items
returns-clause-items g c =
    let s = set_in g.A.Shape g.E.Endian c.args.left.now in
    let t = set_in g.B.Shape g.F.Endian c.args.right.now in
    let f = g.O.Operation.decide in
    let ours = c.capacity_of.ensures.ends in
    let theirs = c.capacity_of-2.ensures.ends in
    ap (λ (u : PlainSet). ascending u) c.until.ensures.set
    ∙ ascending_longer (λ i. f (s.has i) (t.has i)) _ c.next_multiple_of-end.result (omega (
      arith,
      c.next_multiple_of-end.ensures.lower_bound,
      c.max-greater.ensures,
      ours.capacity,
      theirs.capacity,
    )) (λ i h. (λ j. f (ours.past i (omega (arith, h)) j) (theirs.past i (omega (arith, h)) j))
    ∙ g.met.O.EitherOperation.takes_second false)
