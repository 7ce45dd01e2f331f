use Rattle.std.proofs.Common.{length, refl, sym, ap}
use Rattle.std.proofs.lemmas.Option.{slice_get_read, slice_get_past}
use Rattle.bit_roles.specs.Roles.{parent_in}
use Rattle.bit_roles.proofs.Rows.{lesser_found}
use Rattle.bit_roles.proofs.Roles.parent.Goals as goal

pub returns-in-Some-clause-lesser : goal.returns-in-Some-clause-lesser
returns-in-Some-clause-lesser g c =
    let parents = c.args.self.now.parents in
    let found = c.in-Some.ensures.lookup in
    lesser_found parents c.args.role c.in-Some.parent.now
    (slice_get_read parents (length parents) c.args.role c.in-Some.parent.now refl found.3.0
    found.1) c.args.self.now.lesser

pub returns-in-None-clause-value : goal.returns-in-None-clause-value
returns-in-None-clause-value g c = ap parent_in
    (sym (slice_get_past c.args.self.now.parents c.args.role c.in-None.ensures.lookup.3))

pub returns-in-Some-clause-value : goal.returns-in-Some-clause-value
returns-in-Some-clause-value g c =
    let parents = c.args.self.now.parents in
    let found = c.in-Some.ensures.lookup in
    ap parent_in (sym (slice_get_read parents (length parents) c.args.role c.in-Some.parent.now refl
    found.3.0 found.1))
