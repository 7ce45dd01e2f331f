use Rattle.std.proofs.Common.{refl, ◌<◌, length, arith}
use Rattle.bittle.proofs.Replies.{state_step, replies_step}
use Rattle.bit_roles.specs.Roles.{answer_to, roles_after, request_answers, final_roles}
use Rattle.bit_roles.proofs.Roles.serve.Goals as goal

pub loop-i-init : goal.loop-i-init
unfolding request_answers final_roles
loop-i-init g c = record { answers = refl; roles = refl }

pub loop-i-preserved : goal.loop-i-preserved
unfolding request_answers final_roles
loop-i-preserved g c =
    let t = c.loop-i.invariant in
    let a = c.answer.ensures in
    let in_requests : c.loop-i.i < length c.args.requests.now = omega arith in
    let in_answers : c.loop-i.i < length c.loop-i.answers = omega arith in
    record {
      answers = replies_step roles_after _ _ c.args.requests.now c.loop-i.i _ in_requests t.roles
          answer_to c.loop-i.answers c.answer.result in_answers t.answers a.answer;
      roles = state_step roles_after _ _ c.args.requests.now c.loop-i.i _ in_requests t.roles _
          a.roles;
    }
