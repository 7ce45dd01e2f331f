use Rattle.std.proofs.Common.{◌≡◌, true, false, not, ◌&&◌, nat_lt, sym, ap, ◌∙◌}
use Rattle.std.proofs.lemmas.Bool.{lt-ltb}
use Rattle.bittle_bits.proofs.Searches.{mask_up_to}
use Rattle.bittle_bits.proofs.internal.search.ahead.Goals as goal

pub returns-then-FRONT : goal.returns-then-FRONT
returns-then-FRONT g c i h =
    let front : g.N.End.FRONT ≡ true = sym c.FRONT.ensures ∙ c.if-FRONT.true in
    rw front (ap (λ s. s.has i) c.from_index-since.ensures
    ∙ ap (λ b. b && not (nat_lt i c.args.at)) (lt-ltb i _ h))

pub returns : goal.returns
returns g c i h =
    let back : g.N.End.FRONT ≡ false = sym c.FRONT.ensures ∙ c.if-FRONT.false in
    rw (back, c.or.ensures) (mask_up_to _ _ _ _ _ _ g.met.T.Word.width_positive c.requires
    c.from_index-since.ensures c.not.ensures.range c.not.ensures.pattern c.mask.ensures i h)
