use Rattle.std.proofs.Common.{◌≡◌, ℕ, ◌+◌, ◌-◌, ◌≤◌, List, ◌++◌, rules, arith, length, take}
use Rattle.std.proofs.Common.{slice_range, sym, ap, ◌∙◌, subst, le_refl, drop_at, length-take-le}
use Rattle.std.proofs.lemmas.Slice.{take-put_mid_below}
use Rattle.std.specs.Io.KnownBytes.{Consumes}
use Rattle.std.proofs.KnownBytes.{Consumes-trans, Consumes-kept}
use borrow.Rule.Slice.PartMut.{put_mid, post_of}
use lib.Seq.{take-add, take-append-le}
use Rattle.bittle_script.proofs.reading.read_all.Goals as goal
use Rattle.bittle_script.proofs.reading.read_all.Goals.{in-Ok-2, in-Err+else-not-is_interrupted}

take_split : (a b : ℕ) (old new : List ℕ) → a ≤ b → take a new ≡ take a old →
    take a old ++ slice_range new a b ≡ take b new
take_split a b old new h front =
    let same : a + (b - a) ≡ b = omega arith in
    ap (λ l. l ++ slice_range new a b) (sym front) ∙ sym (take-add a (b - a) new)
    ∙ ap (λ n. take n new) same

slice_range-put_mid : (a k n : ℕ) (xs ys : List ℕ) → a ≤ length xs → n ≤ length ys →
    slice_range (put_mid a k xs ys) a (a + n) ≡ take n ys
slice_range-put_mid a k n xs ys within fits =
    let same : (a + n) - a ≡ n = omega arith in
    let after = post_of a k xs in
    ap (take ((a + n) - a)) (drop_at (take a xs) (ys ++ after) a (length-take-le a xs within))
    ∙ ap (λ m. take m (ys ++ after)) same ∙ take-append-le n ys after fits

pub loop-preserved : goal.loop-preserved
loop-preserved g c = elim c.match-read.branch [
  | in-Ok-2 w ↦
      let from = c.loop.filled in
      let to = from + w.in-Ok.count in
      let room = 4097 - from in
      let long : length c.loop.bytes ≡ 4097 = search rules in
      let within : from ≤ length c.loop.bytes = omega (arith, c.loop.invariant.0) in
      let read = w.in-Ok.ensures in
      let part = slice_range-put_mid from room w.in-Ok.count c.loop.bytes c.read.new.buf within
      read.bound.0 in
      let joined = take_split from to c.loop.bytes (put_mid from room c.loop.bytes c.read.new.buf)
      (omega arith) (take-put_mid_below _ _ _ _ _ (le_refl _) within) in
      let all = subst (Consumes _ _) (ap (λ l. take from c.loop.bytes ++ l) (sym part) ∙ joined)
      (Consumes-trans _ _ _ _ _ c.loop.invariant.1 read.bytes.0) in
      rw w.filled-is (search (rules, arith), all)
  | in-Err+else-not-is_interrupted w ↦
      let long : length c.loop.bytes ≡ 4097 = search rules in
      let within : c.loop.filled ≤ length c.loop.bytes = omega (arith, c.loop.invariant.0) in
      let kept = Consumes-kept _ _ _ _ c.loop.invariant.1 w.in-Err.ensures.bytes in
      rw w.filled-is (
        c.loop.invariant.0,
        subst (Consumes _ _) (sym (take-put_mid_below _ _ _ _ _ (le_refl _) within)) kept,
      )
]
