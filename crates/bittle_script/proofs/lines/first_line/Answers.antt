use Rattle.std.proofs.Common.{◌+◌, ◌∷◌, ap, sym, ◌∙◌, drop}
use Rattle.std.proofs.lemmas.List.{take_rest}
use Rattle.bittle_script.specs.Texts.{script_lines}
use Rattle.bittle_script.proofs.FirstLine.{first_script_line}
use Rattle.bittle_script.proofs.lines.first_line.Goals as goal

pub returns-in-Some-clause-lines : goal.returns-in-Some-clause-lines
returns-in-Some-clause-lines c =
    let text = c.args.text.now in
    let from = c.in-Some.end + 1 in
    first_script_line text c.in-Some.end c.requires (sym c.in-Some.ensures)
    ∙ ap (λ l. l ∷ script_lines (drop from text)) (sym c.without_return.ensures)
    ∙ ap (λ l. c.without_return.result.now ∷ script_lines l) (sym (take_rest text from))
