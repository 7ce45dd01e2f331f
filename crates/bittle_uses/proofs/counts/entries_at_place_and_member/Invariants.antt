use Rattle.std.proofs.Common.{◌≡◌, ℕ, List, map, Some}
use Rattle.std.specs.Int.Bits.{bit_xor}
use Rattle.std.specs.Iterator.Adapters.{enumerate_count, enumerate_source}
use Rattle.std.specs.List.{enumerate_from, last_or}
use Rattle.std.specs.Prelude.{slice_index}
use Rattle.bittle_uses.proofs.counts.entries_at_place_and_member.Given as goal

abbrev pub invariant-loop-place : goal.invariant-loop-place
invariant-loop-place l =
    let entries = λ (n : ℕ) (left : List ℕ). map
    (λ p. bit_xor (slice_index l.row p.0) (slice_index l.row p.1)) (enumerate_from n left) in
    last_or (Some l.last) (entries (enumerate_count l.place-iterator)
    (enumerate_source l.place-iterator).remaining)
    ≡ last_or (Some 0) (entries 0 (enumerate_source l.initial.place-iterator).remaining)
