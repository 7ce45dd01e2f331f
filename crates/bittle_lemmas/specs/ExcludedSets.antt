-- Two sets without a common member. A caller states this of its sets in a ghost field.
use Rattle.std.specs.Prelude.{Bool, not, ◌&&◌}
use Rattle.bittle.specs.PlainSet.{PlainSet}
use Rattle.bittle_ext.specs.ReservedSpans.{each_from}

-- whether no member of the second set is a member of the first
unfoldable pub excludes : PlainSet → PlainSet → Bool
excludes s r = each_from (λ k. not (r.has k && s.has k)) 0 r.capacity
