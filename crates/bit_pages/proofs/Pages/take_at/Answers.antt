use Rattle.std.proofs.Common.{◌≡◌, ◌<◌, false, cond, ap, sym, ◌∙◌, arith}
use Rattle.bittle.specs.PlainSet.{PlainSet}
use Rattle.bittle.specs.Values.{set_in}
use Rattle.bittle.proofs.CallerSets.{size_at_most}
use Rattle.bit_pages.specs.Pages.{with_page}
use Rattle.bit_pages.proofs.LeastFree.{free-member, page_free}
use Rattle.bit_pages.proofs.TakenPages.{with_it, is_now_taken, others_same, one_more}
use Rattle.bit_pages.proofs.Pages.take_at.Given.{Over}
use Rattle.bit_pages.proofs.Pages.take_at.Goals.{After-set_bit}
use Rattle.bit_pages.proofs.Pages.take_at.Goals as goal

-- the number is a page, and free
free : (g : Over) (c : After-set_bit g) →
    let s : PlainSet = set_in g.B.Shape g.B.Order.Endian c.args.self.now.map in
    (c.args.page < s.capacity) × (s.has c.args.page ≡ false)
free g c =
    let s : PlainSet = set_in g.B.Shape g.B.Order.Endian c.args.self.now.map in
    let capacity = g.met.B.FixedCapacity.one_capacity c.args.self.now.map in
    let bits = c.bits.ensures.value c.args.self.now.fits in
    let within : c.args.page < s.capacity = omega (arith, capacity, bits, c.if-page-bits.false) in
    (within, free-member s c.args.page within (sym c.is_taken.ensures.value ∙ c.if-is_taken.false))

pub overflow_add-self : goal.overflow_add-self
overflow_add-self g c =
    let it = free g c in
    let more = one_more _ _ c.args.page it.0 it.1 c.set_bit.ensures.set in
    let most = size_at_most (set_in g.B.Shape g.B.Order.Endian c.set_bit.new.self) in
    let full = g.met.B.FixedCapacity.one_capacity c.set_bit.new.self in
    omega (arith, more, most, full, c.args.self.now.counted, c.args.self.now.fits.1)

pub invariant_of-self : goal.invariant_of-self
invariant_of-self g c =
    let it = free g c in
    record {
      fits = c.args.self.now.fits;
      counted = omega (
        arith,
        one_more _ _ c.args.page it.0 it.1 c.set_bit.ensures.set,
        c.args.self.now.counted,
      );
    }

pub returns-clause-had_room : goal.returns-clause-had_room
returns-clause-had_room g c =
    let it = free g (goal.at.returns-clause-had_room g c).After-set_bit in
    let more = one_more _ _ c.args.page it.0 it.1 c.set_bit.ensures.set in
    let most = size_at_most (set_in g.B.Shape g.B.Order.Endian c.set_bit.new.self) in
    let full = g.met.B.FixedCapacity.one_capacity c.set_bit.new.self in
    λ _. omega (arith, more, most, full)

pub returns-clause-taken : goal.returns-clause-taken
returns-clause-taken g c =
    let it = free g (goal.at.returns-clause-taken g c).After-set_bit in
    λ below. is_now_taken _ _ c.args.page it.0 it.1 c.set_bit.ensures.set

pub returns-clause-others : goal.returns-clause-others
returns-clause-others g c =
    let it = free g (goal.at.returns-clause-others g c).After-set_bit in
    others_same _ _ c.args.page it.0 it.1 c.set_bit.ensures.set

pub returns-clause-pages : goal.returns-clause-pages
returns-clause-pages g c =
    let it = free g (goal.at.returns-clause-pages g c).After-set_bit in
    with_it _ _ c.args.page it.0 it.1 c.set_bit.ensures.set

pub returns-clause-state : goal.returns-clause-state
returns-clause-state g c =
    let s : PlainSet = set_in g.B.Shape g.B.Order.Endian c.args.self.now.map in
    let it = free g (goal.at.returns-clause-state g c).After-set_bit in
    with_it _ _ c.args.page it.0 it.1 c.set_bit.ensures.set
    ∙ sym (ap (λ b. cond b (with_page s c.args.page) s) (page_free s c.args.page it))
