use Rattle.bit_pages.proofs.PageLaws.{none_is_free}
use Rattle.bit_pages.proofs.page_laws.no_run_exactly_if_none_is_free.Goals as goal

pub returns : goal.returns
returns c = none_is_free
