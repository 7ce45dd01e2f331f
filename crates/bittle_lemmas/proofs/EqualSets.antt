-- Two sets are equal if they have the same capacity and the same members.
use Rattle.std.proofs.Common.{◌≡◌, ℕ, ◌<◌, inl, inr, refl, sym, ◌∙◌}
use Rattle.std.proofs.Math.Path.{fun_ext}
use Rattle.std.proofs.lemmas.Bool.{cases_lt}
use Rattle.bittle.specs.BitPatterns.{bit_set}
use Rattle.bittle.specs.PlainSet.{PlainSet, contains}
use Rattle.bittle.proofs.CallerSets.{contains_within}
use Rattle.bittle_bits.specs.LawProofs.{bit_has-past}
use Rattle.bittle_bits.proofs.PlainSets.{plain_set}

-- two sets are equal if each number is a member of both or of neither
pub same_if_each : (s t : PlainSet) → s.capacity ≡ t.capacity →
    ((k : ℕ) → s.has k ≡ t.has k) → s ≡ t
same_if_each s t same each = λ j. plain_set (same j) (fun_ext each j)

-- two words of the same width stand for the same set if each number below the width is in both or
-- in neither
pub same_bits_if_each : (w a b : ℕ) →
    ((k : ℕ) → k < w → contains (bit_set w a) k ≡ contains (bit_set w b) k) →
    bit_set w a ≡ bit_set w b
same_bits_if_each w a b each = same_if_each (bit_set w a) (bit_set w b) refl λ k.
    elim (cases_lt k w) [
      | inl l ↦ sym (contains_within (bit_set w a) k l) ∙ each k l
          ∙ contains_within (bit_set w b) k l
      | inr g ↦ bit_has-past w a k g ∙ sym (bit_has-past w b k g)
    ]
