use Rattle.std.proofs.Common.{◌≡◌, ◌%◌, sym, ap, ◌∙◌, arith}
use Rattle.std.proofs.Math.Nat.{div-add-mod'}
use Rattle.std.proofs.lemmas.Nat.{mod_below}
use Rattle.bittle.specs.Values.{set_in}
use Rattle.bittle_bits.proofs.PlainSets.{contains-none}
use Rattle.bittle_ext.proofs.ViewFacts.{tested}
use Rattle.bittle_ext.proofs.views.by_words.test.Goals as goal

pub returns-then-capacity-eq0 : goal.returns-then-capacity-eq0
returns-then-capacity-eq0 g c = sym (contains-none (set_in g.B.Shape g.E.Endian c.args.bits.now)
    c.args.index (sym (c.capacity-capacity.ensures.value c.requires) ∙ c.if-capacity-eq0.true))

pub returns : goal.returns
returns g c =
    let w = g.B.Shape.width in
    let b = g.met.B.ReadWords in
    let wide : c.word_width-width.result ≡ w = c.word_width-width.ensures in
    let cap = c.capacity-capacity.ensures.value c.requires in
    let at = c.args.index % c.capacity-capacity.result in
    tested g.E.Endian.mirrored w _ (at % c.word_width-width.result) c.args.index
    (g.B.Shape.big c.args.bits.now) _ _ b.width_positive c.nth_leaf_word.ensures
    (rw b.leaf_width at c.test_bit.ensures) (rw wide (mod_below at w b.width_positive))
    (rw wide (div-add-mod' at w) ∙ ap (λ n. c.args.index % n) cap)
    (omega (arith, cap, c.if-capacity-eq0.false))
