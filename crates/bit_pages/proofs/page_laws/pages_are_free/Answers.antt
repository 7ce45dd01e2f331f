use Rattle.bit_pages.proofs.PageLaws.{page_is_free_one}
use Rattle.bit_pages.proofs.page_laws.pages_are_free.Goals as goal

pub returns : goal.returns
returns c = page_is_free_one
