-- What a word of 64 bits tells of 64 groups of words.
use Rattle.std.proofs.Common.{◌≡◌, ℕ, refl, sym, ap, ◌∙◌, arith}
use Rattle.std.proofs.lemmas.Bool.{lt-ltb, true≢false}
use Rattle.bittle_bits.specs.PlainSet.{PlainSet}
use Rattle.bittle_bits.specs.Searches.{TellsGroups}
use Rattle.bittle_bits.proofs.BitSets.{all_digits}

-- a word whose bits are all set says of no group that it has no member
pub none_told : (each w n word : ℕ) (s : PlainSet) → word ≡ 18446744073709551615 →
    TellsGroups each w s n word
none_told each w n word s full = λ i within unset. absurd (true≢false (sym (lt-ltb i 64 within)
    ∙ sym (ap (λ (t : PlainSet). t.has i) (all_digits 64 0 word refl (omega arith) full))
    ∙ unset))
