use Rattle.bit_pages.proofs.PageBounds.{answers_are_below}
use Rattle.bit_pages.proofs.page_laws.answers_are_below.Goals as goal

pub returns : goal.returns
returns c = answers_are_below
