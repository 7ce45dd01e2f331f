use Rattle.bit_histories.proofs.Histories.{answered_at}
use Rattle.bit_pages.specs.Pages.{answer_to, state_after, request_answers, final_state}
use Rattle.bit_pages.proofs.page_laws.answers_are_of_their_states.Goals as goal

pub returns : goal.returns
unfolding request_answers final_state
returns c = answered_at answer_to state_after
