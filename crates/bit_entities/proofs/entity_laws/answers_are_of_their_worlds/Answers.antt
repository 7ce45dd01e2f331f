use Rattle.bit_histories.proofs.Histories.{answered_at}
use Rattle.bit_entities.specs.Entities.{answer_to, world_after, event_answers, final_world}
use Rattle.bit_entities.proofs.entity_laws.answers_are_of_their_worlds.Goals as goal

pub returns : goal.returns
unfolding event_answers final_world
returns c = answered_at answer_to world_after
