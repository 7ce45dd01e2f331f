use Rattle.std.proofs.Common.{ap, sym}
use Rattle.bittle_bits.proofs.SetOperations.{conjunction_in}
use Rattle.bittle_bits.proofs.Sizes.{size_of_part}
use Rattle.bittle_bits.proofs.bits_owned.BitsOwned.conjunction.Goals as goal

pub returns-clause-subset : goal.returns-clause-subset
returns-clause-subset g c =
    let bits = g.met.Self.ReadWords in
    let owned = g.met.Self.FixedCapacity in
    rw c.conjunction_assign.ensures.in_own_order
    (conjunction_in g.Self.Order.Endian.mirrored _ _ _ _ bits.width_positive owned.type_whole_words
    (owned.one_capacity c.args.self) (owned.one_capacity c.args.other)
    (bits.none_past c.args.self) (bits.none_past c.args.other)).0

pub returns-clause-within : goal.returns-clause-within
returns-clause-within g c =
    let bits = g.met.Self.ReadWords in
    let owned = g.met.Self.FixedCapacity in
    rw c.conjunction_assign.ensures.in_own_order
    (conjunction_in g.Self.Order.Endian.mirrored _ _ _ _ bits.width_positive owned.type_whole_words
    (owned.one_capacity c.args.self) (owned.one_capacity c.args.other)
    (bits.none_past c.args.self) (bits.none_past c.args.other)).1

pub returns-clause-at_most : goal.returns-clause-at_most
returns-clause-at_most g c =
    size_of_part _ _ (sym (ap (λ t. t.capacity) c.conjunction_assign.ensures.in_own_order))
    (returns-clause-subset g c)
