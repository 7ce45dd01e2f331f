use Rattle.bit_pages.proofs.PageLaws.{given_first}
use Rattle.bit_pages.proofs.page_laws.taken_pages_come_back_first.Goals as goal

pub returns : goal.returns
returns c = given_first
