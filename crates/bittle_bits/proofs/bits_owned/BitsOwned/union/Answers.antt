use Rattle.std.proofs.Common.{ap}
use Rattle.bittle_bits.proofs.SetOperations.{in_union}
use Rattle.bittle_bits.proofs.Sizes.{size_of_part}
use Rattle.bittle_bits.proofs.bits_owned.BitsOwned.union.Goals as goal

pub returns-clause-kept : goal.returns-clause-kept
returns-clause-kept g c =
    let bits = g.met.Self.ReadWords in
    let owned = g.met.Self.FixedCapacity in
    rw c.union_assign.ensures.in_own_order
    (in_union g.Self.Order.Endian.mirrored _ _ _ _ bits.width_positive owned.type_whole_words
    (owned.one_capacity c.args.self) (owned.one_capacity c.args.other)
    (bits.none_past c.args.self) (bits.none_past c.args.other)).0

pub returns-clause-added : goal.returns-clause-added
returns-clause-added g c =
    let bits = g.met.Self.ReadWords in
    let owned = g.met.Self.FixedCapacity in
    rw c.union_assign.ensures.in_own_order
    (in_union g.Self.Order.Endian.mirrored _ _ _ _ bits.width_positive owned.type_whole_words
    (owned.one_capacity c.args.self) (owned.one_capacity c.args.other)
    (bits.none_past c.args.self) (bits.none_past c.args.other)).1

pub returns-clause-at_least : goal.returns-clause-at_least
returns-clause-at_least g c =
    size_of_part _ _ (ap (λ t. t.capacity) c.union_assign.ensures.in_own_order)
    (returns-clause-kept g c)
