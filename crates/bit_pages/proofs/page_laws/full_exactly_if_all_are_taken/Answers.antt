use Rattle.bit_pages.proofs.PageLaws.{full_is_taken}
use Rattle.bit_pages.proofs.page_laws.full_exactly_if_all_are_taken.Goals as goal

pub returns : goal.returns
returns c = full_is_taken
