use Rattle.std.proofs.Common.{◌≡◌, ◌-◌, true, sym, ◌∙◌, arith}
use Rattle.bittle_ext.proofs.Windows.{mirrored_window}
use Rattle.bittle_ext.proofs.rotations.window_up_to.Goals as goal

pub returns-then-is_mirrored : goal.returns-then-is_mirrored
returns-then-is_mirrored g c =
    let w = g.W.Word.width in
    let e : g.E.Endian.mirrored ≡ true = sym c.is_mirrored.ensures ∙ c.if-is_mirrored.true in
    rw e (mirrored_window w (w - c.args.to) c.args.to _ _ _ (omega arith)
    (omega (arith, c.requires)) c.funnel_down.ensures)
