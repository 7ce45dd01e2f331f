use Rattle.std.proofs.Common.{false, refl, ◌||◌}
use Rattle.bittle_ext.proofs.UnsetSpans.{lacks_span_after_operation}
use Rattle.bittle_ext_uses.proofs.field.Field.join.Goals as goal

pub invariant_of-self : goal.invariant_of-self
invariant_of-self c = record {
  past = lacks_span_after_operation ◌||◌ _ _ _ 200 256 refl (c.union_assign.ensures.union false)
      c.args.self.now.past c.args.other.now.past;
}

pub returns : goal.returns
returns c = c.union_assign.ensures.union false
