use Rattle.std.proofs.Common.{◌≡◌, ◌+◌, ◌-◌, ◌/◌, ◌%◌, ◌^◌, ◌<◌, ◌≤◌, inl, inr, refl, arith}
use Rattle.std.proofs.Math.Pow.{pow_mono}
use Rattle.std.proofs.lemmas.Bool.{cases_lt}
use Rattle.std.proofs.lemmas.Nat.{div-add-mod', mod_below, pow_pos}
use Rattle.bittle.specs.Values.{set_in}
use Rattle.bittle_ext.proofs.NumberBits.{bits_of_word, bits_past, more_below, more_bits}
use Rattle.bittle_ext.proofs.copies.number_from.Goals as goal

pub overflow_shr-number_of : goal.overflow_shr-number_of
overflow_shr-number_of g c =
    let wide = c.width_of_words-width.ensures in
    rw (wide.width) (omega (
      arith,
      mod_below (c.args.first + c.loop-done.done) g.B.Shape.width g.met.B.ReadWords.width_positive,
      wide.within,
    ))

pub loop-done-preserved : goal.loop-done-preserved
loop-done-preserved g c =
    let b = g.met.B.ReadWords in
    let w = g.B.Shape.width in
    let set = c.args.set.now in
    let s = set_in g.B.Shape g.E.Endian set in
    let first = c.args.first in
    let done = c.loop-done.done in
    let index = first + done in
    let more = c.min-more.result in
    let wide = c.width_of_words-width.ensures.width in
    let v = c.loop-done.invariant in
    let least = rw wide at c.min-more.ensures in
    let low = mod_below index w b.width_positive in
    let bits = rw wide at c.low_bits-bits.ensures in
    let small : c.low_bits-bits.result < 2 ^ more = omega (
      arith,
      bits,
      mod_below (c.number_of.result / 2 ^ (index % w)) (2 ^ more) (pow_pos more),
    ) in
    let most : done + more ≤ c.min-end.result = omega (arith, least, c.loop-done-test.true) in
    let within : done + more ≤ 128 = omega (arith, most, c.min-end.ensures, c.requires.within) in
    let next = bits_of_word g.E.Endian.mirrored w (index / w) (index % w) more index _ _ _
    (g.B.Shape.big set) b.width_positive (rw wide at c.nth_leaf_word-word.ensures)
    (rw b.leaf_width at c.number_of.ensures.set) (div-add-mod' index w) (omega (arith, least, low))
    bits in
    record {
      most = most;
      below = more_below s first done more _ _ _ v.below small within refl;
      bits = more_bits s first done more _ _ _ v.below small within refl v.bits next;
    }

pub returns-clause-below : goal.returns-clause-below
returns-clause-below g c =
    let v = c.loop-done.invariant in
    let less : c.loop-done.done ≤ c.args.count = omega (arith, v.most, c.min-end.ensures) in
    omega (arith, v.below, pow_mono less)

pub returns-clause-bits : goal.returns-clause-bits
returns-clause-bits g c =
    let v = c.loop-done.invariant in
    let ends = c.capacity_of.ensures.ends in
    let first = c.args.first in
    let done = c.loop-done.done in
    let s = set_in g.B.Shape g.E.Endian c.args.set.now in
    let is : done ≡ c.min-end.result = omega (arith, v.most, c.loop-done-test.false) in
    bits_past s first c.args.count done _ ends.past
    (elim (cases_lt (s.capacity - first) c.args.count) [
      | inl l ↦ inr (omega (
        arith,
        l,
        is,
        c.min-end.ensures,
        c.saturating_sub.ensures,
        ends.capacity,
      ))
      | inr g' ↦ inl (omega (
        arith,
        g',
        is,
        c.min-end.ensures,
        c.saturating_sub.ensures,
        ends.capacity,
      ))
    ]) v.below v.bits

pub returns-then-end-width-clause-below : goal.returns-then-end-width-clause-below
returns-then-end-width-clause-below g c =
    let less : c.min-end.result ≤ c.args.count = omega (arith, c.min-end.ensures) in
    omega (arith, c.number_near.ensures.below, pow_mono less)

pub returns-then-end-width-clause-bits : goal.returns-then-end-width-clause-bits
returns-then-end-width-clause-bits g c =
    let ends = c.capacity_of.ensures.ends in
    let s = set_in g.B.Shape g.E.Endian c.args.set.now in
    bits_past s c.args.first c.args.count c.min-end.result _ ends.past
    (elim (cases_lt (s.capacity - c.args.first) c.args.count) [
      | inl l ↦ inr (omega (
        arith,
        l,
        c.if-end-gt0.true,
        c.min-end.ensures,
        c.saturating_sub.ensures,
        ends.capacity,
      ))
      | inr g' ↦ inl (omega (
        arith,
        g',
        c.min-end.ensures,
        c.saturating_sub.ensures,
        ends.capacity,
      ))
    ]) c.number_near.ensures.below c.number_near.ensures.bits
