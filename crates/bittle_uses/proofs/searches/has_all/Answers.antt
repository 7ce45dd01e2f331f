use Rattle.std.proofs.Common.{sym, ◌∙◌}
use Rattle.std.proofs.lemmas.Bool.{eq-eqb, eqb-true}
use Rattle.bittle.specs.Values.{set_in}
use Rattle.bittle.proofs.CallerSets.{size_full, size_whole}
use Rattle.bittle_uses.proofs.searches.has_all.Goals as goal

pub returns : goal.returns
returns g c =
    let members = set_in g.B.Shape g.B.Order.Endian c.args.set.now in
    let told = c.all_ones.ensures.in_own_order in (
      λ yes. size_full members (eqb-true _ _ (sym told ∙ yes)),
      λ all. told ∙ eq-eqb _ _ (size_whole members all),
    )
