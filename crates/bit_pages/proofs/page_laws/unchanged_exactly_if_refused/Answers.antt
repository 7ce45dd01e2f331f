use Rattle.bit_pages.proofs.Refusals.{unchanged_is_refused}
use Rattle.bit_pages.proofs.page_laws.unchanged_exactly_if_refused.Goals as goal

pub returns : goal.returns
returns c = unchanged_is_refused
