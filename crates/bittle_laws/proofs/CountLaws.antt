-- The members and the other numbers of a set split the numbers below its capacity.
use Rattle.std.proofs.Common.{not, ◌&&◌, sym, ap, ◌∙◌, arith}
use Rattle.std.proofs.lemmas.Bool.{lt-ltb}
use Rattle.bittle.specs.PlainSet.{complement, lacks}
use Rattle.bittle.proofs.CallerLists.{ascending_has}
use Rattle.bittle_bits.proofs.AscendingLists.{ascending-length}
use Rattle.bittle_bits.proofs.Sizes.{size-complement}
use Rattle.bittle_laws.specs.CountLaws.{OnesAndZerosPartition}

-- of every set, the ones and the zeros split the numbers below the capacity
pub splits : OnesAndZerosPartition
unfolding lacks
splits s = record {
  total = omega (arith, size-complement s);
  ones_listed = ascending-length s;
  zeros_listed = ascending-length (complement s);
  in_one_list = λ k h. ascending_has (complement s) k h
      ∙ ap (λ b. b && not (s.has k)) (lt-ltb k s.capacity h)
      ∙ ap not (sym (ascending_has s k h));
}
