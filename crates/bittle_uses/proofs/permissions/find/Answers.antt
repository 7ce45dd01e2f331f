use Rattle.bittle_uses.proofs.RoleOrder.{search_found}
use Rattle.bittle_uses.proofs.permissions.find.Goals as goal

pub returns : goal.returns
returns c = rw c.ok.ensures.value (search_found (λ role. role.bits) c.args.wanted.bits
    c.args.roles.now c.binary_search.result c.requires c.binary_search.ensures.position)
