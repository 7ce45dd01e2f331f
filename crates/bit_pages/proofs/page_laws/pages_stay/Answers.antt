use Rattle.bit_pages.proofs.PageBounds.{pages_stay}
use Rattle.bit_pages.proofs.page_laws.pages_stay.Goals as goal

pub returns : goal.returns
returns c = pages_stay
