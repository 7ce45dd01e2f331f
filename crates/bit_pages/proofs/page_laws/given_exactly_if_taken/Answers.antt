use Rattle.bit_pages.proofs.PageLaws.{given_is_taken}
use Rattle.bit_pages.proofs.page_laws.given_exactly_if_taken.Goals as goal

pub returns : goal.returns
returns c = given_is_taken
