use Rattle.bit_pages.proofs.PageHistories.{are_outstanding}
use Rattle.bit_pages.proofs.page_laws.pages_are_outstanding.Goals as goal

pub returns : goal.returns
returns c = are_outstanding
