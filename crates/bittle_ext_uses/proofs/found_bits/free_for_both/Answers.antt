use Rattle.std.proofs.Common.{Some, arith}
use Rattle.bittle.specs.BitPatterns.{bit_set}
use Rattle.bittle.specs.PlainSet.{complement}
use Rattle.bittle.specs.Searches.{IsFirstIn}
use Rattle.bittle_ext.specs.Combined.{either_of}
use Rattle.bittle_lemmas.proofs.FoundNumbers.{first_unset_in_same, in_either_below_found}
use Rattle.bittle_ext_uses.proofs.found_bits.free_for_both.Goals as goal

pub returns-clause-before : goal.returns-clause-before
returns-clause-before c k below =
    let s = bit_set 32 c.args.one in
    let t = bit_set 32 c.args.other in
    let hour = c.in_ok-hour.hour in
    let first : IsFirstIn (complement (either_of s t)) 0 24 (Some hour) =
    first_unset_in_same _ (either_of s t) 0 24 (Some hour) c.or.ensures.set
    c.in_ok-hour.ensures.first in
    in_either_below_found s t 0 24 hour k first (omega arith) (omega arith) (omega arith) below
