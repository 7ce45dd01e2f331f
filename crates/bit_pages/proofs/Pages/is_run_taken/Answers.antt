use Rattle.std.proofs.Common.{arith}
use Rattle.bittle.specs.PlainSet.{PlainSet}
use Rattle.bittle.specs.Values.{set_in}
use Rattle.bit_pages.proofs.FreeRuns.{run_answer}
use Rattle.bit_pages.proofs.RunCounts.{all_taken}
use Rattle.bit_pages.proofs.Pages.is_run_taken.Goals as goal

pub returns-then-end-bits : goal.returns-then-end-bits
returns-then-end-bits g c =
    let map : PlainSet = set_in g.B.Shape g.B.Order.Endian c.args.self.now.map in
    let capacity = g.met.B.FixedCapacity.one_capacity c.args.self.now.map in
    let bits = c.bits.ensures.value c.args.self.now.fits in
    let both = all_taken map c.args.length c.args.first c.in-Some.end
    c.all_in_range.result (omega arith)
    (omega (arith, capacity, bits, c.if-end-bits.true))
    (c.all_in_range.ensures.unset (omega (arith, capacity, bits, c.if-end-bits.true))) in
    record {
      taken = both;
      within = λ e. omega (arith, bits, c.if-end-bits.true);
      whole = run_answer map c.args.first c.args.length c.all_in_range.result both.0 both.1;
    }
