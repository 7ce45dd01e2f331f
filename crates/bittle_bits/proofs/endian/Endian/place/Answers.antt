use Rattle.std.proofs.Common.{◌-◌, ◌%◌, ap, sym, ◌∙◌}
use Rattle.std.proofs.lemmas.Nat.{mod_below}
use Rattle.bittle_bits.proofs.PlaceLemmas.{mirror_in_word}
use Rattle.bittle_bits.proofs.endian.Endian.place.Goals as goal

pub returns-then-is_mirrored-clause-place : goal.returns-then-is_mirrored-clause-place
returns-then-is_mirrored-clause-place g c =
    let w = g.T.Word.width in let i = c.args.index in
    rw (sym c.is_mirrored.ensures ∙ c.if-is_mirrored.true)
    (ap (λ u. u - 1 - i % c.width.result) c.width-then-is_mirrored.ensures
    ∙ ap (λ u. w - 1 - i % u) c.width.ensures
    ∙ sym (mirror_in_word w (i % w) (mod_below i w g.met.T.Word.width_positive)))
