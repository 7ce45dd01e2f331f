use Rattle.std.proofs.lemmas.Bool.{or_right}
use Rattle.bittle_ext.proofs.GrownSets.{grows, never_shrinks, either_keeps}
use Rattle.bittle_ext.proofs.KeptMembers.{keeps_each, adds_each}
use Rattle.bittle_bits.proofs.PlainSets.{members-past}
use Rattle.bittle_ext.proofs.bits_combine_ext.BitsCombineExt.union_with.Goals as goal

pub returns-clause-grew : goal.returns-clause-grew
returns-clause-grew g c told = grows _ _ _ _ either_keeps c.combine_with.ensures.combined.set
    (c.combine_with.ensures.combined.changed.0 told)

pub returns-clause-at_least : goal.returns-clause-at_least
returns-clause-at_least g c =
    never_shrinks _ _ _ _ either_keeps c.combine_with.ensures.combined.set

pub returns-clause-kept : goal.returns-clause-kept
returns-clause-kept g c =
    keeps_each _ _ _ _ c.combine_with.ensures.combined.set either_keeps
    (members-past g.Self.Order.Endian.mirrored _ _ g.met.Self.ReadWords.width_positive
    (g.met.Self.ReadWords.whole_words c.args.self.now)
    (g.met.Self.ReadWords.none_past c.args.self.now))

pub returns-clause-added : goal.returns-clause-added
returns-clause-added g c shorter =
    adds_each _ _ _ _ c.combine_with.ensures.combined.set or_right shorter
    (members-past g.B.Order.Endian.mirrored _ _ g.met.B.ReadWords.width_positive
    (g.met.B.ReadWords.whole_words c.args.other.now)
    (g.met.B.ReadWords.none_past c.args.other.now))
