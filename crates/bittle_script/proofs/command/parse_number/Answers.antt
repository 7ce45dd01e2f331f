use Rattle.std.proofs.Common.{sym, ◌∙◌}
use Rattle.bittle_script.proofs.DecimalDigits.{number_parsed, text_from_digits}
use Rattle.bittle_script.proofs.command.parse_number.Goals as goal

pub returns-in_default : goal.returns-in_default
returns-in_default c = absurd (c.in_default.ensures.cases.0
    (text_from_digits c.args.digits.now (sym c.if-not-are_digits.ensures)))

pub returns : goal.returns
returns c =
    let parsed = rw c.in-Ok.ensures.cases.0 at c.parse.ensures.value.0 in
    c.ok.ensures.value ∙ number_parsed c.args.digits.now c.parse.result parsed
    (sym c.if-not-are_digits.ensures)
