use Rattle.std.proofs.Common.{ap, ◌∙◌}
use Rattle.bit_entities.specs.Entities.{event_answers}
use Rattle.bit_uses.proofs.entities.serve_beside.Goals as goal

pub returns : goal.returns
returns c = c.serve.ensures.answers
    ∙ ap (λ w. event_answers w c.args.events.now) c.with_alive-world.ensures.world
