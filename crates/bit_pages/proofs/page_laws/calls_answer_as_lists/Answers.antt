use Rattle.bit_histories.proofs.Histories.{history_is_list}
use Rattle.bit_pages.specs.Pages.{answer_to, state_after, request_answers, final_state}
use Rattle.bit_pages.proofs.page_laws.calls_answer_as_lists.Goals as goal

pub returns : goal.returns
unfolding request_answers final_state
returns c = history_is_list answer_to state_after
