use Rattle.std.proofs.Common.{◌*◌, ◌/◌, true, refl, ap, subst, arith}
use Rattle.bittle_bits.specs.Cursor.{IsWalkStart}
use Rattle.bittle_bits.specs.Orders.{read_in}
use Rattle.bittle_bits.specs.Searches.{NoneIn}
use Rattle.bittle_bits.specs.Values.{set_in}
use Rattle.bittle_bits.specs.Walk.{ones_or_zeros}
use Rattle.bittle_bits.specs.declared.internal.cursor.Cursor.{Cursor}
use Rattle.bittle_bits.proofs.Steps.{fetched}
use Rattle.bittle_bits.proofs.WalkStarts.{walk_start, walk_start_on}
use Rattle.bittle_bits.proofs.OnesOrZeros.{ones_or_zeros-capacity, ones_or_zeros-below}
use Rattle.bittle_bits.proofs.internal.cursor.begin.Given.{Over}
use Rattle.bittle_bits.proofs.internal.cursor.begin.Goals.{After-new}
use Rattle.bittle_bits.proofs.internal.cursor.begin.Goals as goal

-- with no word loaded
none : (g : Over) (c : After-new g) →
    let big = g.B.Shape.big c.args.source.now.set.now in
    let t : Cursor g.row.B.Denot g.row.E.Denot g.row.B-LeafWord.Denot = record {
      buffers = c.none.result;
      low = c.pass_over-low.result;
      high = c.pass_over-high.result;
      items = c.new.result;
      passed = c.pass_over-high.new.passed;
    } in
    IsWalkStart (ones_or_zeros g.K.Kind.ONES (read_in g.E.Endian.mirrored g.B.Shape.width big))
    (big.capacity / g.B.Shape.width) g.B.Shape.width t
none g c =
    let v = c.args.source.now.set.now in
    let law = g.met.B.ReadWords in
    let low = c.pass_over-low.ensures.in_each_order g.E.Endian.mirrored in
    let high = c.pass_over-high.ensures.in_each_order g.E.Endian.mirrored in
    walk_start _ _ _ (g.B.Shape.big v).capacity _ _ _ _ _ law.width_positive
    (ones_or_zeros-capacity g.K.Kind.ONES (set_in g.B.Shape g.E.Endian v))
    (law.whole_words v) refl c.none.ensures high.0 (omega (arith, high.1, c.words-words.ensures))
    low.2
    (subst (λ n. NoneIn (ones_or_zeros g.K.Kind.ONES (set_in g.B.Shape g.E.Endian v))
    (c.pass_over-high.result * g.B.Shape.width) (n * g.B.Shape.width)) c.words-words.ensures high.2)
    c.new.ensures
    (omega (
      arith,
      c.new-passed.ensures,
      c.pass_over-low.ensures.passed,
      c.pass_over-high.ensures.passed,
    ))

pub returns-then-not-IS_FIXED-clause-starts : goal.returns-then-not-IS_FIXED-clause-starts
returns-then-not-IS_FIXED-clause-starts g c =
    none g (goal.at.returns-then-not-IS_FIXED-clause-starts g c).After-new

pub returns-then-not-IS_FIXED-clause-below : goal.returns-then-not-IS_FIXED-clause-below
returns-then-not-IS_FIXED-clause-below g c = ones_or_zeros-below g.K.Kind.ONES
    (set_in g.B.Shape g.E.Endian c.args.source.now.set.now) _
    (returns-then-not-IS_FIXED-clause-starts g c).remaining

pub returns-clause-starts : goal.returns-clause-starts
returns-clause-starts g c =
    let start = none g (goal.at.returns-clause-starts g c).After-new in
    rw c.load.ensures (walk_start_on _ _ _ _ _ start (fetched _ _ _ true _ _ start.counted
    (omega arith) (record {
      none = rw c.none.ensures refl;
      items = refl;
      other = refl;
      scans = omega arith;
      counts = refl;
      fetches = refl;
    })) refl
    (omega (arith, ap (λ h. h.fetches) c.none.ensures)))

pub returns-clause-below : goal.returns-clause-below
returns-clause-below g c = ones_or_zeros-below g.K.Kind.ONES
    (set_in g.B.Shape g.E.Endian c.args.source.now.set.now) _
    (returns-clause-starts g c).remaining
