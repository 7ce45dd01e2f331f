use Rattle.bit_histories.proofs.Histories.{history_is_list}
use Rattle.bit_entities.specs.Entities.{answer_to, world_after, event_answers, final_world}
use Rattle.bit_entities.proofs.entity_laws.calls_answer_as_lists.Goals as goal

pub returns : goal.returns
unfolding event_answers final_world
returns c = history_is_list answer_to world_after
