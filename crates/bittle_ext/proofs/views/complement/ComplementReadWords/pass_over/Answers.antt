use Rattle.std.proofs.Common.{◌≡◌, false, sym, ◌∙◌}
use Rattle.bittle_ext.proofs.PassedWords.{passes_complement}
use Rattle.bittle_ext.proofs.views.complement.ComplementReadWords.pass_over.Goals as goal

pub returns-else-ONES : goal.returns-else-ONES
returns-else-ONES g c =
    let zeros : g.K.Kind.ONES ≡ false = sym c.ONES.ensures ∙ c.if-ONES.false in
    rw zeros (passes_complement g.N.End.FRONT g.B.Shape.width c.args.low c.args.high
    c.pass_over-else-ONES.result (g.B.Shape.big c.args.self.now.set.now)
    c.pass_over-else-ONES.ensures)
