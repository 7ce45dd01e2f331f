use Rattle.std.proofs.Common.{◌≡◌, true, sym, refl, ◌∙◌, arith}
use Rattle.bittle_ext.proofs.Windows.{mirrored_window}
use Rattle.bittle_ext.proofs.rotations.window.Goals as goal

pub returns-then-is_mirrored : goal.returns-then-is_mirrored
returns-then-is_mirrored g c =
    let e : g.E.Endian.mirrored ≡ true = sym c.is_mirrored.ensures ∙ c.if-is_mirrored.true in
    rw e (mirrored_window g.W.Word.width c.args.from _ _ _ _ (omega (arith, c.requires)) refl
    c.funnel_up.ensures)
