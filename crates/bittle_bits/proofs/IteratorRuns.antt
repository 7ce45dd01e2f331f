-- What runs of an iterator's steps yield, and iterators that have not stepped yet.
use Rattle.std.proofs.Common.{◌≡◌, ℕ, ◌+◌, ◌≤◌, List, ap, length, arith}
use Rattle.std.specs.Iterator.{YieldsFirst, YieldsLast}
use Rattle.std.specs.Iterator.Runs.{YieldsInOrder, YieldsInReverse}
use Rattle.std.proofs.iter.runs.Sources.{from_front, from_back, as_is, as_is_back}
use Rattle.bittle_bits.specs.Walk.{Walk, StepsFront, StepsBack, IsFresh, ResumesAs, ListsInOrder}
use Rattle.bittle_bits.specs.Walk.{ListsInReverse}

in_order : YieldsInOrder StepsFront (λ w. w.remaining)
in_order p seen = as_is p p.from.remaining (from_front StepsFront (λ x. x) (λ w. w.remaining)
    (λ s t h. ap length h.gave.0) (λ s x t h. h.gave) p seen)

in_reverse : YieldsInReverse StepsBack (λ w. w.remaining)
in_reverse p seen = as_is_back p p.from.remaining
    (from_back StepsBack (λ x. x) (λ w. w.remaining) (λ s t h. ap length h.gave.0)
    (λ s x t h. h.gave) p seen)

-- an iterator is fresh if it has counted no scans and no items, and has fetched at most one word
pub is_fresh : (words : ℕ) (w : Walk) → w.scans ≡ 0 → w.items ≡ 0 → w.fetches ≤ 1 →
    w.words ≡ words → w.fetches + w.unread + w.passed ≡ words → IsFresh words w
is_fresh words w l i f n u = record {
  scans = l;
  items = i;
  fetches = f;
  words_are = n;
  bounded = record { at_least = omega arith; at_most = omega arith; once = omega arith };
  in_order = in_order;
  in_reverse = in_reverse;
}

-- a clone resumes as its source if it has the same items and words left, and has counted only the
-- words that the source had fetched or passed over
pub resumes_as : (source clone : Walk) → clone.remaining ≡ source.remaining → clone.unread
    ≡ source.unread →
    clone.words ≡ source.words → clone.scans ≡ 0 → clone.items ≡ 0 → clone.fetches ≡ 0 →
    clone.passed ≡ source.passed + source.fetches →
    source.fetches + source.unread + source.passed ≡ source.words → ResumesAs source clone
resumes_as source clone left u n l i f p b = record {
  remaining = left;
  unread = u;
  fetches = f;
  fresh = is_fresh source.words clone l i (omega arith) n
      (omega arith);
}

-- runs of steps from the front of a list of numbers yield its items in order
pub list_in_order : ListsInOrder
list_in_order p seen = as_is p p.from (from_front (YieldsFirst (λ (left : List ℕ). left)) (λ x. x)
    (λ left. left) (λ s t h. ap length h.0) (λ s x t h. h) p seen)

-- runs of steps from the back of a list of numbers yield its items in reverse
pub list_in_reverse : ListsInReverse
list_in_reverse p seen = as_is_back p p.from
    (from_back (YieldsLast (λ (left : List ℕ). left)) (λ x. x) (λ left. left)
    (λ s t h. ap length h.0) (λ s x t h. h) p seen)
