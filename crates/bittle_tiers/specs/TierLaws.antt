-- Proofs that the laws of sets with a summary cite.
use Rattle.std.proofs.Common.{ℕ, ◌*◌, Bool, ◌&&◌, nat_le, IsTrue}
use Rattle.std.proofs.lemmas.Bool.{and_parts}
use Rattle.bittle_tiers.specs.Tiers.{can_summarize}

-- `can_summarize` implies that the map may be indexed
pub map_indexable : (a b : Bool) (c d w : ℕ) → IsTrue (can_summarize a b c d w) → IsTrue a
map_indexable a b c d w h = (and_parts a (b && nat_le c (d * w)) h).0
