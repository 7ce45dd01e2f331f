use Rattle.std.proofs.Common.{◌/◌, sym, ◌∙◌}
use Rattle.bittle_bits.specs.Values.{set_in}
use Rattle.bittle_bits.specs.Walk.{ones_or_zeros}
use Rattle.bittle_bits.proofs.Steps.{across, counts_none, counts_on, steps_on}
use Rattle.bittle_bits.proofs.internal.cursor.step.Goals as goal

pub returns-then-is_some-2-clause-steps : goal.returns-then-is_some-2-clause-steps
returns-then-is_some-2-clause-steps g c =
    let s = ones_or_zeros g.K.Kind.ONES (set_in g.B.Shape g.E.Endian c.args.source.now.set.now) in
    let words = (g.B.Shape.big c.args.source.now.set.now).capacity / g.B.Shape.width in
    let seek = c.if-seek.ensures in
    let scan = c.scan_across-found.ensures in
    steps_on g.N.End.FRONT seek.sought (across g.N.End.FRONT c.seek.new.at
    c.scan_across-found.new.self _ s words g.B.Shape.width _ seek.counted (record {
      none_between = seek.told.1;
      none_loaded = seek.told.0;
      found = scan.found;
      scans = scan.scans;
      other = scan.other;
      fetches = scan.fetches;
      items = c.raise-then-is_some-2.ensures
          ∙ counts_on _ _ (sym c.is_some-2.ensures ∙ c.if-is_some-2.true);
    }))

pub returns-else-is_some-2-clause-steps : goal.returns-else-is_some-2-clause-steps
returns-else-is_some-2-clause-steps g c =
    let s = ones_or_zeros g.K.Kind.ONES (set_in g.B.Shape g.E.Endian c.args.source.now.set.now) in
    let words = (g.B.Shape.big c.args.source.now.set.now).capacity / g.B.Shape.width in
    let seek = c.if-seek.ensures in
    let scan = c.scan_across-found.ensures in
    steps_on g.N.End.FRONT seek.sought (across g.N.End.FRONT c.seek.new.at
    c.scan_across-found.new.self _ s words g.B.Shape.width _ seek.counted (record {
      none_between = seek.told.1;
      none_loaded = seek.told.0;
      found = scan.found;
      scans = scan.scans;
      other = scan.other;
      fetches = scan.fetches;
      items = counts_none _ _ (sym c.is_some-2.ensures ∙ c.if-is_some-2.false);
    }))
