use Rattle.bit_pages.proofs.PageLaws.{asked_is_not_free}
use Rattle.bit_pages.proofs.page_laws.not_free_exactly_if_not_free.Goals as goal

pub returns : goal.returns
returns c = asked_is_not_free
