use Rattle.std.proofs.Common.{Bool, true, ◌≡◌, ◌+◌, ◌*◌, length, arith, sym, ap, ◌∙◌}
use Rattle.bittle_bits.proofs.Spans.{changed-none, changed-on}
use Rattle.bittle_bits.specs.Orders.{read_in}
use Rattle.bittle_bits.specs.PlainSet.{with_span_changed}
use Rattle.bittle_bits.specs.Rows.{row_set}
use Rattle.bittle_bits.proofs.internal.row.assign_range.Goals as goal
use Rattle.bittle_bits.proofs.internal.row.assign_range.Given.{Over}

-- how a bit of the range changes
abbrev change : Over → Bool → Bool
change g b = g.O.Operation.decide b true

pub returns-then-from-to : goal.returns-then-from-to
returns-then-from-to g c = sym (changed-none (change g) _ c.args.from c.args.to (omega arith))

pub assign_in_element-requires-clause-ordered : goal.assign_in_element-requires-clause-ordered
assign_in_element-requires-clause-ordered g c =
    let ends = c.element_ends-each.ensures.at in
    omega (arith, ends.from, rw (← c.if-first-last.true) at ends.to, c.requires.ordered)

pub returns-then-first-last : goal.returns-then-first-last
returns-then-first-last g c =
    let e = g.T.Shape.type_capacity in
    let at = c.element_ends-each.result in
    let ends = c.element_ends-each.ensures.at in
    let end : at.1 * e + (at.4 + 1) ≡ c.args.to = omega
    (arith, rw (← c.if-first-last.true) at ends.to) in
    rw c.assign_in_element.ensures.length
    (rw (← ends.from, end) at c.assign_in_element.ensures.set)

pub loop-at-init : goal.loop-at-init
loop-at-init g c =
    let e = g.T.Shape.type_capacity in
    let at = c.element_ends-each.result in
    let ends = c.element_ends-each.ensures.at in
    let end : at.1 * e + e ≡ (at.1 + 1) * e = omega arith in
    record {
      same = c.assign_in_element-2.ensures.length;
      begun = omega (arith, ends.from, ends.begin, end);
      set = rw (c.element_ends-each.ensures.each, ← ends.from, end)
          at c.assign_in_element-2.ensures.set;
    }

pub loop-at-preserved : goal.loop-at-preserved
loop-at-preserved g c =
    let e = g.T.Shape.type_capacity in
    let at = c.loop-at.at in
    let inv = c.loop-at.invariant in
    let before = read_in g.E.Endian.mirrored g.T.Shape.width
    (row_set (length c.args.elements.now) e g.T.Shape.big c.args.elements.now) in
    let start : at * e + 0 ≡ at * e = omega arith in
    let end : at * e + e ≡ (at + 1) * e = omega arith in
    record {
      same = c.assign_in_element-in-loop-at.ensures.length ∙ inv.same;
      begun = omega (arith, inv.begun, end);
      set = (rw (c.element_ends-each.ensures.each, inv.same, start, end)
          at c.assign_in_element-in-loop-at.ensures.set)
          ∙ ap (λ s. with_span_changed (change g) s (at * e) ((at + 1) * e)) inv.set
          ∙ changed-on (change g) before c.args.from (at * e) ((at + 1) * e) inv.begun
          (omega (arith, end));
    }

pub returns : goal.returns
returns g c =
    let e = g.T.Shape.type_capacity in
    let ends = c.element_ends-each.ensures.at in
    let last = c.element_ends-each.result.3 in
    let top = c.element_ends-each.result.4 in
    let at : c.loop-at.at ≡ last = omega (arith, ends.in_order) in
    let inv = c.loop-at.invariant in
    let before = read_in g.E.Endian.mirrored g.T.Shape.width
    (row_set (length c.args.elements.now) e g.T.Shape.big c.args.elements.now) in
    let start : last * e + 0 ≡ last * e = omega arith in
    let end : last * e + (top + 1) ≡ c.args.to = omega (arith, ends.to) in
    rw (c.assign_in_element-3.ensures.length ∙ inv.same)
    ((rw (inv.same, start, end) at c.assign_in_element-3.ensures.set)
    ∙ ap (λ s. with_span_changed (change g) s (last * e) c.args.to) (rw at at inv.set)
    ∙ changed-on (change g) before c.args.from (last * e) c.args.to (rw at at inv.begun)
    (omega (arith, ends.to)))
