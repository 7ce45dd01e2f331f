use Rattle.std.proofs.Common.{◌≡◌, length}
use Rattle.test_words.proofs.generic_callers.each_owned_member.Given as goal

abbrev pub invariant-loop-index : goal.invariant-loop-index
invariant-loop-index g l = l.total ≡ length l.yielded
