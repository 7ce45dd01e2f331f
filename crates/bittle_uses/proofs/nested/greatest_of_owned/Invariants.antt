use Rattle.std.proofs.Common.{◌≡◌, Some}
use Rattle.std.specs.List.{last_or}
use Rattle.bittle_uses.proofs.nested.greatest_of_owned.Given as goal

abbrev pub invariant-loop-index : goal.invariant-loop-index
invariant-loop-index g l =
    last_or (Some l.last) l.index-iterator.remaining
    ≡ last_or (Some 0) l.initial.index-iterator.remaining
