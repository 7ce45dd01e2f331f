use Rattle.std.proofs.Common.{◌≡◌, ◌+◌, true, Some, None, sym, ap, ◌∙◌, subst, arith}
use Rattle.bittle.specs.PlainSet.{PlainSet, size}
use Rattle.bittle.specs.Values.{set_in}
use Rattle.bittle.proofs.CallerSets.{size_at_most}
use Rattle.bittle_ext.specs.Runs.{IsRun}
use Rattle.bittle_ext.proofs.RunCounts.{run_is_unset}
use Rattle.bit_pages.proofs.FreeRuns.{first_run_is, run_state}
use Rattle.bit_pages.proofs.RunCounts.{others_stay, run_is_taken}
use Rattle.bit_pages.proofs.Pages.take_run.Goals as goal

pub overflow_add-self : goal.overflow_add-self
overflow_add-self g c =
    let old : PlainSet = set_in g.B.Shape g.B.Order.Endian c.args.self.now.map in
    let new : PlainSet = set_in g.B.Shape g.B.Order.Endian c.take_first_zero_run.new.self in
    let more : size new ≡ size old + c.args.length = c.in_ok-first.ensures.more in
    let capacity = g.met.B.FixedCapacity.one_capacity c.take_first_zero_run.new.self in
    omega (arith, more, size_at_most new, capacity, c.args.self.now.counted, c.args.self.now.fits.1)

pub invariant_of-self-2 : goal.invariant_of-self-2
invariant_of-self-2 g c =
    let old : PlainSet = set_in g.B.Shape g.B.Order.Endian c.args.self.now.map in
    let new : PlainSet = set_in g.B.Shape g.B.Order.Endian c.take_first_zero_run.new.self in
    let more : size new ≡ size old + c.args.length = c.in_ok-first.ensures.more in
    record { fits = c.args.self.now.fits; counted = omega (arith, more, c.args.self.now.counted) }

pub returns-clause-had_room : goal.returns-clause-had_room
returns-clause-had_room g c =
    let old : PlainSet = set_in g.B.Shape g.B.Order.Endian c.args.self.now.map in
    let new : PlainSet = set_in g.B.Shape g.B.Order.Endian c.take_first_zero_run.new.self in
    let more : size new ≡ size old + c.args.length = c.in_ok-first.ensures.more in
    let capacity = g.met.B.FixedCapacity.one_capacity c.take_first_zero_run.new.self in
    omega (arith, more, size_at_most new, capacity)

pub returns-clause-were_free : goal.returns-clause-were_free
returns-clause-were_free g c =
    let old : PlainSet = set_in g.B.Shape g.B.Order.Endian c.args.self.now.map in
    run_is_unset old c.args.length c.in_ok-first.first c.in_ok-first.ensures.first.1

pub returns-clause-taken : goal.returns-clause-taken
returns-clause-taken g c =
    let old : PlainSet = set_in g.B.Shape g.B.Order.Endian c.args.self.now.map in
    subst (λ s. IsRun s c.args.length c.in_ok-first.first) (sym c.in_ok-first.ensures.set)
    (run_is_taken old c.args.length c.in_ok-first.first c.in_ok-first.ensures.first.1)

pub returns-clause-others : goal.returns-clause-others
returns-clause-others g c page out =
    let old : PlainSet = set_in g.B.Shape g.B.Order.Endian c.args.self.now.map in
    let new : PlainSet = set_in g.B.Shape g.B.Order.Endian c.take_first_zero_run.new.self in
    others_stay (λ _. true) old new c.in_ok-first.first (c.in_ok-first.first + c.args.length) page
    c.in_ok-first.ensures.set out

pub returns-in_err-first-clause-first : goal.returns-in_err-first-clause-first
returns-in_err-first-clause-first g c =
    let old : PlainSet = set_in g.B.Shape g.B.Order.Endian c.args.self.now.map in
    c.from_residual.ensures ∙ first_run_is old c.args.length None c.in_err-first.ensures.first

pub returns-in_err-first-clause-state : goal.returns-in_err-first-clause-state
returns-in_err-first-clause-state g c =
    let old : PlainSet = set_in g.B.Shape g.B.Order.Endian c.args.self.now.map in
    let new : PlainSet = set_in g.B.Shape g.B.Order.Endian c.take_first_zero_run.new.self in
    run_state old new c.args.length None c.in_err-first.ensures.first
    (ap (λ map. set_in g.B.Shape g.B.Order.Endian map) c.in_err-first.ensures.set)

pub returns-clause-first : goal.returns-clause-first
returns-clause-first g c =
    let old : PlainSet = set_in g.B.Shape g.B.Order.Endian c.args.self.now.map in
    first_run_is old c.args.length (Some c.in_ok-first.first) c.in_ok-first.ensures.first

pub returns-clause-state : goal.returns-clause-state
returns-clause-state g c =
    let old : PlainSet = set_in g.B.Shape g.B.Order.Endian c.args.self.now.map in
    let new : PlainSet = set_in g.B.Shape g.B.Order.Endian c.take_first_zero_run.new.self in
    run_state old new c.args.length (Some c.in_ok-first.first) c.in_ok-first.ensures.first
    c.in_ok-first.ensures.set
