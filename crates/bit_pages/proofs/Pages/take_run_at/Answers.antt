use Rattle.std.proofs.Common.{◌≡◌, true, ◌+◌, cond, sym, ap, ◌∙◌, subst, arith}
use Rattle.bittle.specs.PlainSet.{PlainSet, size, with_span}
use Rattle.bittle.specs.Values.{set_in}
use Rattle.bittle.proofs.CallerSets.{size_at_most}
use Rattle.bittle_ext.specs.Runs.{IsRun}
use Rattle.bittle_ext.proofs.RunCounts.{size_with_run}
use Rattle.bit_pages.proofs.RunCounts.{others_stay, run_is_taken}
use Rattle.bit_pages.proofs.Pages.take_run_at.Given.{Over}
use Rattle.bit_pages.proofs.Pages.take_run_at.Goals.{After-set_range}
use Rattle.bit_pages.proofs.Pages.take_run_at.Goals as goal

-- after the run was taken, `length` more pages are taken
more : (g : Over) (c : After-set_range g) →
    size (set_in g.B.Shape g.B.Order.Endian c.set_range.new.self)
    ≡ size (set_in g.B.Shape g.B.Order.Endian c.args.self.now.map) + c.args.length
more g c =
    let old : PlainSet = set_in g.B.Shape g.B.Order.Endian c.args.self.now.map in
    let run = c.is_run_free.ensures.free.0 c.if-not-is_run_free.false in
    ap size c.set_range.ensures.set ∙ size_with_run old c.args.length c.args.first run

pub overflow_add-self : goal.overflow_add-self
overflow_add-self g c =
    let most = size_at_most (set_in g.B.Shape g.B.Order.Endian c.set_range.new.self) in
    let full = g.met.B.FixedCapacity.one_capacity c.set_range.new.self in
    omega (arith, more g c, most, full, c.args.self.now.counted, c.args.self.now.fits.1)

pub invariant_of-self : goal.invariant_of-self
invariant_of-self g c = record {
  fits = c.args.self.now.fits;
  counted = omega (arith, more g c, c.args.self.now.counted);
}

pub returns-clause-had_room : goal.returns-clause-had_room
returns-clause-had_room g c =
    let many = more g (goal.at.returns-clause-had_room g c).After-set_range in
    let most = size_at_most (set_in g.B.Shape g.B.Order.Endian c.set_range.new.self) in
    let full = g.met.B.FixedCapacity.one_capacity c.set_range.new.self in
    λ _. omega (arith, many, most, full)

pub returns-clause-taken : goal.returns-clause-taken
returns-clause-taken g c =
    let old : PlainSet = set_in g.B.Shape g.B.Order.Endian c.args.self.now.map in
    let run = c.is_run_free.ensures.free.0 c.if-not-is_run_free.false in
    λ _. subst (λ s. IsRun s c.args.length c.args.first) (sym c.set_range.ensures.set)
    (run_is_taken old c.args.length c.args.first run)

pub returns-clause-others : goal.returns-clause-others
returns-clause-others g c page out =
    let old : PlainSet = set_in g.B.Shape g.B.Order.Endian c.args.self.now.map in
    let new : PlainSet = set_in g.B.Shape g.B.Order.Endian c.set_range.new.self in
    others_stay (λ _. true) old new c.args.first (c.args.first + c.args.length) page
    c.set_range.ensures.set out

pub returns-then-not-is_run_free-clause-state : goal.returns-then-not-is_run_free-clause-state
returns-then-not-is_run_free-clause-state g c =
    let old : PlainSet = set_in g.B.Shape g.B.Order.Endian c.args.self.now.map in
    ap (λ b. cond b (with_span old c.args.first (c.args.first + c.args.length)) old)
    (sym c.if-not-is_run_free.true ∙ c.is_run_free.ensures.whole)

pub returns-clause-state : goal.returns-clause-state
returns-clause-state g c =
    let old : PlainSet = set_in g.B.Shape g.B.Order.Endian c.args.self.now.map in
    c.set_range.ensures.set
    ∙ ap (λ b. cond b (with_span old c.args.first (c.args.first + c.args.length)) old)
    (sym c.if-not-is_run_free.false ∙ c.is_run_free.ensures.whole)
