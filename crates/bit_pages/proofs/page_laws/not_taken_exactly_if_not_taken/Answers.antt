use Rattle.bit_pages.proofs.Refusals.{not_taken_is}
use Rattle.bit_pages.proofs.page_laws.not_taken_exactly_if_not_taken.Goals as goal

pub returns : goal.returns
returns c = not_taken_is
