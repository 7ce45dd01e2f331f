use Rattle.std.proofs.Common.{sym, ap, subst}
use Rattle.bittle.specs.PlainSet.{PlainSet}
use Rattle.bittle.specs.Values.{set_in}
use Rattle.bittle.proofs.CallerSets.{members-past}
use Rattle.bit_entities.specs.Entities.{IsWorld}
use Rattle.bit_entities.proofs.Worlds.{bare_is, bare_is_world}
use Rattle.bit_entities.proofs.World.with_alive.Goals as goal

pub returns-clause-world : goal.returns-clause-world
returns-clause-world g c =
    bare_is g.row.N (set_in g.B.Shape g.B.Order.Endian) c.args.alive c.zeros.result
    (λ k. ap (λ s. s.has k) c.zeros.ensures.in_own_order)

pub invariant_of-result-clause-sound : goal.invariant_of-result-clause-sound
invariant_of-result-clause-sound g c =
    let alive : PlainSet = set_in g.B.Shape g.B.Order.Endian c.args.alive in
    let words = g.met.B.ReadWords in
    let ends = members-past g.B.Order.Endian.mirrored _ _ words.width_positive
    (words.whole_words c.args.alive) (words.none_past c.args.alive) in
    subst IsWorld (sym (bare_is g.row.N (set_in g.B.Shape g.B.Order.Endian) c.args.alive
    c.zeros.result (λ k. ap (λ s. s.has k)
    c.zeros.ensures.in_own_order)))
    (bare_is_world alive g.row.N ends)
