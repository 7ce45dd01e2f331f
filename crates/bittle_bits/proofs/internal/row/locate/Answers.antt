use Rattle.std.proofs.Common.{◌≡◌, ◌%◌, ◌<◌, ℕ, Option, Some, None, MatchOption, unwrap_or, refl}
use Rattle.std.proofs.Common.{arith, ◌∙◌}
use Rattle.bittle_bits.proofs.RowCalls.{goes_to, goes_wrapped}
use Rattle.bittle_bits.proofs.internal.row.locate.Goals as goal

-- an index that does not wrap is as if it had wrapped to itself
wraps : (i end : ℕ) (r : Option ℕ) → MatchOption r ((i ≡ i % end) × (i < end))
    (λ at. (at ≡ i % end) × (at < end)) → unwrap_or r i ≡ i % end
wraps i end None at = at.0
wraps i end (Some j) at = at.0

pub returns-then-is_array : goal.returns-then-is_array
returns-then-is_array g c =
    let each = c.fixed_capacity-each.ensures.value
    (c.requires, g.met.T.FixedCapacity.type_fits c.requires) in
    goes_to _ _ _ _ _ each (omega arith) (omega (arith, each)) refl

pub returns : goal.returns
returns g c =
    let each = c.fixed_capacity-each.ensures.value
    (c.requires, g.met.T.FixedCapacity.type_fits c.requires) in
    goes_wrapped _ _ _ _ _ each (omega arith) (omega (arith, each))
    (c.unwrap_or-within.ensures ∙ wraps _ _ _ c.wrapped.ensures)
