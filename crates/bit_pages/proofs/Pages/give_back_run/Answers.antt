use Rattle.std.proofs.Common.{false, ◌+◌, cond, sym, ap, ◌∙◌, subst, arith}
use Rattle.bittle.specs.PlainSet.{PlainSet, size, without_span}
use Rattle.bittle.specs.Searches.{NoneIn}
use Rattle.bittle.specs.Values.{set_in}
use Rattle.bittle.proofs.CallerSets.{size_at_most}
use Rattle.bit_pages.proofs.RunCounts.{given_counts, others_stay, run_is_given}
use Rattle.bit_pages.proofs.Pages.give_back_run.Goals as goal

pub overflow_sub-self : goal.overflow_sub-self
overflow_sub-self g c =
    let old : PlainSet = set_in g.B.Shape g.B.Order.Endian c.args.self.now.map in
    let run = c.is_run_taken.ensures.taken.0 c.if-not-is_run_taken.false in
    omega (arith, given_counts old c.args.length c.args.first run, c.args.self.now.counted)

pub invariant_of-self : goal.invariant_of-self
invariant_of-self g c =
    let old : PlainSet = set_in g.B.Shape g.B.Order.Endian c.args.self.now.map in
    let run = c.is_run_taken.ensures.taken.0 c.if-not-is_run_taken.false in
    record {
      fits = c.args.self.now.fits;
      counted = omega (
        arith,
        given_counts old c.args.length c.args.first run,
        ap size c.clear_range.ensures.set,
        c.args.self.now.counted,
      );
    }

pub returns-clause-free : goal.returns-clause-free
returns-clause-free g c =
    let old : PlainSet = set_in g.B.Shape g.B.Order.Endian c.args.self.now.map in
    λ _. subst (λ s. NoneIn s c.args.first (c.args.first + c.args.length))
    (sym c.clear_range.ensures.set) (run_is_given old c.args.length c.args.first)

pub returns-clause-room : goal.returns-clause-room
returns-clause-room g c done =
    let old : PlainSet = set_in g.B.Shape g.B.Order.Endian c.args.self.now.map in
    let run = c.is_run_taken.ensures.taken.0 c.if-not-is_run_taken.false in
    let capacity = g.met.B.FixedCapacity.one_capacity c.args.self.now.map in
    omega (
      arith,
      given_counts old c.args.length c.args.first run,
      ap size c.clear_range.ensures.set,
      size_at_most old,
      capacity,
    )

pub returns-clause-count : goal.returns-clause-count
returns-clause-count g c =
    let old : PlainSet = set_in g.B.Shape g.B.Order.Endian c.args.self.now.map in
    let run = c.is_run_taken.ensures.taken.0 c.if-not-is_run_taken.false in
    given_counts old c.args.length c.args.first run
    ∙ sym (ap (λ s. size s + c.args.length) c.clear_range.ensures.set)

pub returns-clause-others : goal.returns-clause-others
returns-clause-others g c page out =
    let old : PlainSet = set_in g.B.Shape g.B.Order.Endian c.args.self.now.map in
    let new : PlainSet = set_in g.B.Shape g.B.Order.Endian c.clear_range.new.self in
    others_stay (λ _. false) old new c.args.first (c.args.first + c.args.length) page
    c.clear_range.ensures.set out

pub returns-then-not-is_run_taken-clause-whole : goal.returns-then-not-is_run_taken-clause-whole
returns-then-not-is_run_taken-clause-whole g c =
    let old : PlainSet = set_in g.B.Shape g.B.Order.Endian c.args.self.now.map in
    sym c.if-not-is_run_taken.true ∙ c.is_run_taken.ensures.whole

pub returns-then-not-is_run_taken-clause-state : goal.returns-then-not-is_run_taken-clause-state
returns-then-not-is_run_taken-clause-state g c =
    let old : PlainSet = set_in g.B.Shape g.B.Order.Endian c.args.self.now.map in
    ap (λ b. cond b (without_span old c.args.first (c.args.first + c.args.length)) old)
    (sym c.if-not-is_run_taken.true ∙ c.is_run_taken.ensures.whole)

pub returns-clause-whole : goal.returns-clause-whole
returns-clause-whole g c =
    let old : PlainSet = set_in g.B.Shape g.B.Order.Endian c.args.self.now.map in
    sym c.if-not-is_run_taken.false ∙ c.is_run_taken.ensures.whole

pub returns-clause-state : goal.returns-clause-state
returns-clause-state g c =
    let old : PlainSet = set_in g.B.Shape g.B.Order.Endian c.args.self.now.map in
    c.clear_range.ensures.set
    ∙ ap (λ b. cond b (without_span old c.args.first (c.args.first + c.args.length)) old)
    (sym c.if-not-is_run_taken.false ∙ c.is_run_taken.ensures.whole)
