use Rattle.bit_pages.proofs.PageHistories.{counted}
use Rattle.bit_pages.proofs.page_laws.pages_are_counted.Goals as goal

pub returns : goal.returns
returns c = counted
