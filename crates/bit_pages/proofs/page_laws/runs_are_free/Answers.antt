use Rattle.bit_pages.proofs.PageLaws.{run_is_free_one}
use Rattle.bit_pages.proofs.page_laws.runs_are_free.Goals as goal

pub returns : goal.returns
returns c = run_is_free_one
