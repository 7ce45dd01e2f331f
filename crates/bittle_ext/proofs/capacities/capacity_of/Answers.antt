use Rattle.std.proofs.Common.{sym}
use Rattle.bittle_bits.proofs.PlainSets.{members-past}
use Rattle.bittle_bits.proofs.Sizes.{size-members}
use Rattle.bittle_ext.proofs.capacities.capacity_of.Goals as goal

pub returns-clause-ends : goal.returns-clause-ends
returns-clause-ends g c =
    let b = g.met.B.ReadWords in
    let set = c.args.set.now in
    record {
      capacity = c.capacity.ensures.value c.requires;
      past = members-past g.E.Endian.mirrored _ _ b.width_positive (b.whole_words set)
          (b.none_past set);
    }

pub returns-clause-as_many : goal.returns-clause-as_many
returns-clause-as_many g c =
    let b = g.met.B.ReadWords in
    sym (size-members g.E.Endian.mirrored _ _ b.width_positive (b.whole_words c.args.set.now))
