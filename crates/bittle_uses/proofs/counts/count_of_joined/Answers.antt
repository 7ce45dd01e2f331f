use Rattle.std.proofs.Common.{ℕ, Bor, length, sym, ap, ◌∙◌, arith}
use Rattle.std.proofs.lemmas.List.{length-map}
use Rattle.std.specs.Prelude.{slice_index}
use Rattle.bittle.specs.BitPatterns.{bit_set}
use Rattle.bittle.proofs.CallerJoins.{all_answers_at_members, members_are_places}
use Rattle.bittle_uses.proofs.counts.count_of_joined.Goals as goal

pub returns : goal.returns
returns c =
    let join = c.join_ones in
    let run = c.count.ensures.ran in
    let items = ap (λ i. i.rest.now) join.ensures.iter ∙ c.iter.ensures.rest in
    let bound = members_are_places (bit_set 64 c.args.mask) join.result.mask.remaining
    join.result.iter.rest.now join.ensures.members (omega (arith, ap length items, c.told-row)) in
    let all = all_answers_at_members (λ i. i.rest.now) join.result run.1.1.0 run.1.0 run.0
    join.ensures.end join.ensures.none_taken bound run.1.1.1 run.1.1.2 in
    run.2 ∙ sym (length-map run.0 (λ (x : Bor ℕ). x.now)) ∙ ap length all
    ∙ length-map join.result.mask.remaining (λ n. slice_index join.result.iter.rest.now n)
    ∙ ap length join.ensures.members
