use Rattle.std.proofs.Common.{refl, ◌∙◌, ◌<◌, length, subst, arith}
use Rattle.bittle_bits.specs.Shapes.{Fits}
use Rattle.bittle.specs.Machine.{reply_to, set_after, replies_of, final_set}
use Rattle.bittle.proofs.Replies.{state_step, replies_step}
use Rattle.bittle.proofs.CallRuns.{run-capacity}
use Rattle.bittle.proofs.replay.replay.Goals as goal

pub loop-i-init : goal.loop-i-init
unfolding replies_of final_set
loop-i-init g c = record { replies = refl; set = refl; stays = refl }

pub make_call-requires : goal.make_call-requires
make_call-requires g c = subst (Fits g.B.Shape.indexable)
    (run-capacity _ _ _ c.loop-i.invariant.set)
    c.requires.fits

pub loop-i-preserved : goal.loop-i-preserved
unfolding replies_of final_set
loop-i-preserved g c =
    let t = c.loop-i.invariant in
    let a = c.make_call.ensures in
    let in_calls : c.loop-i.i < length c.args.calls.now = omega arith in
    let in_replies : c.loop-i.i < length c.loop-i.replies = omega arith in
    record {
      replies = replies_step set_after _ _ c.args.calls.now c.loop-i.i _ in_calls t.set reply_to
          c.loop-i.replies c.make_call.result in_replies t.replies a.reply;
      set = state_step set_after _ _ c.args.calls.now c.loop-i.i _ in_calls t.set _ a.set;
      stays = t.stays ∙ a.stays;
    }
