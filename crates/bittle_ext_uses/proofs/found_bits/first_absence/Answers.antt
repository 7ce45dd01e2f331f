use Rattle.std.proofs.Common.{rules, ◌≡◌, ◌<◌, ◌≤◌, ℕ, true, arith}
use Rattle.bittle.specs.BitPatterns.{bit_set}
use Rattle.bittle.specs.PlainSet.{contains}
use Rattle.bittle_lemmas.proofs.FoundNumbers.{set_below_found, set_if_none_unset}
use Rattle.bittle_ext_uses.proofs.found_bits.first_absence.Goals as goal

pub returns-clause-before : goal.returns-clause-before
returns-clause-before c k low below = set_below_found (bit_set 32 c.args.days) c.args.from 31 _ k
    c.in_ok-day.ensures.first (omega arith) low below

pub returns-in_err-day-clause-none : goal.returns-in_err-day-clause-none
returns-in_err-day-clause-none c =
    let all : (k : ℕ) → c.args.from ≤ k → k < 31 → contains (bit_set 32 c.args.days) k ≡ true =
    λ k low high. set_if_none_unset (bit_set 32 c.args.days) c.args.from 31 k
    c.in_err-day.ensures.first (omega arith) low high in
    search rules
