use Rattle.bit_histories.proofs.Histories.{history_is_list}
use Rattle.bit_roles.specs.Roles.{answer_to, roles_after, request_answers, final_roles}
use Rattle.bit_roles.proofs.role_laws.calls_answer_as_lists.Goals as goal

pub returns : goal.returns
unfolding request_answers final_roles
returns c = history_is_list answer_to roles_after
