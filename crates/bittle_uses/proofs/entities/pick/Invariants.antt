use Rattle.std.proofs.Common.{◌≡◌, ◌≤◌, length, map, take}
use Rattle.bittle_uses.proofs.entities.pick.Given as goal

abbrev pub invariant-loop-component : goal.invariant-loop-component
invariant-loop-component l =
    record {
      room : l.count ≤ 64;
      places : length l.row ≡ 64;
      count : l.count ≡ length l.yielded;
      picked : take l.count l.row ≡ map (λ x. x.now) l.yielded;
    }
