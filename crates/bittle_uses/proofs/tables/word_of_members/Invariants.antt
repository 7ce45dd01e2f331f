use Rattle.std.proofs.Common.{◌≡◌}
use Rattle.std.specs.List.{fold}
use Rattle.bittle_uses.proofs.JoinedWords.{flip}
use Rattle.bittle_uses.proofs.tables.word_of_members.Given as goal

abbrev pub invariant-loop-index : goal.invariant-loop-index
invariant-loop-index l =
    fold flip l.word l.index-iterator.remaining ≡ fold flip 0 l.initial.index-iterator.remaining
