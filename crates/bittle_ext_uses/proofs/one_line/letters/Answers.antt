use Rattle.std.proofs.Common.{arith}
use Rattle.bittle.specs.PlainSet.{empty_set}
use Rattle.bittle_lemmas.proofs.ListedNumbers.{has_after_all}
use Rattle.bittle_ext_uses.proofs.one_line.letters.Goals as goal

pub returns : goal.returns
returns c k = has_after_all c.args.word.now (empty_set 32) _ k c.from_indexes.ensures.set
    (λ n d low. omega (arith, c.requires n d low))
