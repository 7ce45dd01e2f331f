use Rattle.std.proofs.Common.{◌≡◌, ◌-◌, max}
use Rattle.std.specs.List.{fold}
use Rattle.bittle_ext_uses.proofs.run_walks.longest.Given as goal

abbrev pub invariant-loop-run : goal.invariant-loop-run
invariant-loop-run l = l.longest ≡ fold (λ most run. max most (run.end - run.start)) 0 l.yielded
