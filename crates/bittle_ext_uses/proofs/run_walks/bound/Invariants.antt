use Rattle.std.proofs.Common.{◌-◌, ◌≤◌}
use Rattle.std.specs.List.{All}
use Rattle.bittle_ext_uses.proofs.run_walks.bound.Given as goal

abbrev pub invariant-loop-run : goal.invariant-loop-run
invariant-loop-run l = All (λ run. run.end - run.start ≤ l.longest) l.yielded
