use Rattle.bit_histories.proofs.Histories.{answered_at}
use Rattle.bit_roles.specs.Roles.{answer_to, roles_after, request_answers, final_roles}
use Rattle.bit_roles.proofs.role_laws.answers_are_of_their_states.Goals as goal

pub returns : goal.returns
unfolding request_answers final_roles
returns c = answered_at answer_to roles_after
