-- Where an iterator begins: with no word loaded, or with one word loaded.
use Rattle.std.proofs.Common.{◌≡◌, ℕ, ◌+◌, ◌-◌, ◌*◌, ◌/◌, ◌<◌, ◌≤◌, None, refl, sym, ap, ◌∙◌, arith}
use Rattle.std.proofs.Common.{append-nil}
use Rattle.std.proofs.Math.Nat.{mul-div_left, mul-le-mul_right, zero-mul}
use Rattle.bittle_bits.specs.Buffers.{BufferPair}
use Rattle.bittle_bits.specs.PlainSet.{PlainSet}
use Rattle.bittle_bits.specs.Cursor.{items_left_in, walk_of, IsCounted, IsWalkStart}
use Rattle.bittle_bits.specs.declared.internal.cursor.Cursor.{Cursor}
use Rattle.bittle_bits.specs.Searches.{NoneIn}
use Rattle.bittle_bits.proofs.Items.{members_between-inner}
use Rattle.bittle_bits.proofs.IteratorRuns.{is_fresh}
use Rattle.bittle_bits.specs.Walk.{Seeks}

module _ {B E W : Type 0} (s : PlainSet) (words w : ℕ) where
  -- an iterator may begin with no word loaded, at low..high, if the words before low and those from
  -- high on have no member
  pub walk_start : (c low high i p : ℕ) (h : BufferPair) → 0 < w → s.capacity ≡ c →
      (n : ℕ) × (c ≡ n * w) → words ≡ c / w →
      h ≡ record { head = None; tail = None; scans = 0; fetches = 0 } → low ≤ high → high ≤ words →
      NoneIn s (0 * w) (low * w) → NoneIn s (high * w) (words * w) → i ≡ 0 →
      p ≡ low + (words - high) →
      let t : Cursor B E W =
      record { buffers = h; low = low; high = high; items = i; passed = p } in
      IsWalkStart s words w t
  unfolding items_left_in
  walk_start c low high i p h word is whole count none order all before after items passed =
      let last : words * w ≡ s.capacity = ap (λ k. k * w)
      (count ∙ ap (λ c. c / w) whole.1 ∙ mul-div_left whole.0 word) ∙ sym whole.1
      ∙ sym is in
      rw none (record {
        remaining = append-nil _ ∙ members_between-inner s (low * w) (high * w) (words * w)
            (mul-le-mul_right w order) (mul-le-mul_right w all) last
            (rw (zero-mul w) at before) after;
        fresh = is_fresh words _ refl items (omega arith) refl
            (omega (arith, order, all, passed));
        counted = record {
          ordered = order;
          within = all;
          at_least = omega arith;
          at_most = omega arith;
          once = omega (arith, order, all, passed);
        };
      })

  -- a start from which at most one word is fetched, and none is scanned, is still a start
  pub walk_start_on : (t u : Cursor B E W) → IsWalkStart s words w t →
      Seeks (walk_of s words w t) (walk_of s words w u) × IsCounted words u →
      u.buffers.scans ≡ t.buffers.scans → u.buffers.fetches ≤ 1 → IsWalkStart s words w u
  walk_start_on t u at more scans few = record {
    remaining = more.0.remaining ∙ at.remaining;
    fresh = is_fresh words _ (scans ∙ at.fresh.scans) (more.0.items ∙ at.fresh.items) few refl
        more.1.once;
    counted = more.1;
  }
