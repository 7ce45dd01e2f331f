use Rattle.std.proofs.Common.{◌≤◌, take}
use Rattle.std.specs.Io.KnownBytes.{Consumes}
use Rattle.bittle_script.proofs.reading.read_all.Given as goal

abbrev pub invariant-loop : goal.invariant-loop
invariant-loop g l = (l.filled ≤ 4096) × Consumes (g.R.Read.remaining l.initial.input)
    (g.R.Read.remaining l.input) (take l.filled l.bytes)
