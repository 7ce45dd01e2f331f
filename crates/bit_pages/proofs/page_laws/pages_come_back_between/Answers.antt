use Rattle.bit_pages.proofs.PageLaws.{given_between}
use Rattle.bit_pages.proofs.page_laws.pages_come_back_between.Goals as goal

pub returns : goal.returns
returns c = given_between
