-- The parts of an iterator's step from the front or from the back: a scan of the word at the other
-- end, a fetch of a word, and words that are passed over.
use Rattle.std.proofs.Common.{◌≡◌, ℕ, ◌+◌, ◌-◌, ◌*◌, ◌<◌, ◌≤◌, Bool, true, false, not, cond, List}
use Rattle.std.proofs.Common.{◌++◌, Option, Some, None, refl, sym, ap, ◌∙◌, subst, arith}
use Rattle.std.proofs.Common.{append_assoc, append-nil, le_trans}
use Rattle.std.proofs.lemmas.Bool.{true≢false}
use Rattle.std.proofs.Math.Nat.{mul-le-mul_right}
use Rattle.std.specs.Option.{is_some}
use Rattle.bittle_bits.specs.Buffers.{BufferPair, members_between, items_in, buffer_count}
use Rattle.bittle_bits.specs.Buffers.{buffer_of, Refills, ScansFrom}
use Rattle.bittle_bits.specs.Ends.{with_end, YieldsFrom}
use Rattle.bittle_bits.specs.PlainSet.{PlainSet}
use Rattle.bittle_bits.specs.Searches.{PassesOver}
use Rattle.bittle_bits.specs.Cursor.{items_left_in, walk_of, IsCounted}
use Rattle.bittle_bits.specs.Walk.{Walk, Seeks, Steps, count_after}
use Rattle.bittle_bits.specs.declared.internal.cursor.Cursor.{Cursor}
use Rattle.bittle_bits.proofs.Items.{members_between-split, members_between-none}
use Rattle.bittle_bits.proofs.Items.{members_between-empty}

-- two parts of a step that yielded nothing are together one that yielded nothing
pub seeks_on : {u v w : Walk} → Seeks u v → Seeks v w → Seeks u w
seeks_on a b = record {
  remaining = b.remaining ∙ a.remaining;
  items = b.items ∙ a.items;
  scans = le_trans a.scans b.scans;
  fetches = le_trans a.fetches b.fetches;
  passed = le_trans a.passed b.passed;
  unread = b.unread ∙ a.unread;
  words = b.words ∙ a.words;
}

-- a step after a part that yielded nothing is a step from before that part
pub steps_on : {u v w : Walk} {r : Option ℕ} (front : Bool) → Seeks u v →
    Steps (YieldsFrom front (λ w. w.remaining)) v r w →
    Steps (YieldsFrom front (λ w. w.remaining)) u r w
steps_on {w} {r} front a b = record {
  gave = subst (λ xs. YieldsFrom front (λ (ys : List ℕ). ys) xs r w.remaining) a.remaining b.gave;
  items = b.items ∙ ap (λ n. count_after n r) a.items;
  scans = le_trans a.scans b.scans;
  fetches = le_trans a.fetches b.fetches;
  passed = le_trans a.passed b.passed;
  unread = b.unread ∙ a.unread;
  words = b.words ∙ a.words;
  bounded = b.bounded;
}

-- a step that yielded an item counts one more
pub counts_on : (n : ℕ) (r : Option ℕ) → is_some r ≡ true → n + 1 ≡ count_after n r
counts_on n None e = absurd (true≢false (sym e))
counts_on n (Some x) e = refl

-- a step that yielded no item counts no more
pub counts_none : (n : ℕ) (r : Option ℕ) → is_some r ≡ false → n ≡ count_after n r
counts_none n None e = refl
counts_none n (Some x) e = absurd (true≢false e)

-- ---- the scans

-- a buffer at an end counts at most as much as both
one_of_two : (front : Bool) (b : BufferPair) →
    buffer_count (buffer_of front b) ≤ buffer_count b.head + buffer_count b.tail
one_of_two true b = omega arith
one_of_two false b = omega arith

-- with no word between and none loaded at an end, what remains are the items of the word at the
-- other end
across_left : {B E W : Type 0} (s : PlainSet) (w : ℕ) (front : Bool) (t : Cursor B E W) →
    t.low ≡ t.high → buffer_of front t.buffers ≡ None →
    items_left_in s w t ≡ items_in (buffer_of (not front) t.buffers)
unfolding items_left_in
across_left s w true t b e = rw (e, b, members_between-empty s (t.high * w)) refl
across_left s w false t b e =
    rw (e, b, members_between-empty s (t.high * w)) (append-nil _)

-- no word is between and none is loaded at an end; the word at the other end is scanned, and an
-- item that the scan yields is counted
pub record ScansAcross {B E W : Type 0} (front : Bool) (t : Cursor B E W) (r : Option ℕ)
    (c : BufferPair) (i : ℕ) : Type 0 where
  pub none_between : t.low ≡ t.high
  pub none_loaded : buffer_of front t.buffers ≡ None
  pub found : ScansFrom front (buffer_of (not front) t.buffers) r (buffer_of (not front) c)
  pub scans : c.scans ≡ t.buffers.scans + buffer_count (buffer_of (not front) t.buffers)
  pub other : buffer_of front c ≡ buffer_of front t.buffers
  pub fetches : c.fetches ≡ t.buffers.fetches
  pub items : i ≡ count_after t.items r

module _ {B E W : Type 0} (front : Bool) (t : Cursor B E W) (c : BufferPair) (i : ℕ) where
  abbrev scanned : Cursor B E W
  scanned = record { buffers = c; low = t.low; high = t.high; items = i; passed = t.passed }

  -- the item that the scan yields is at this end of what remains
  gives : (s : PlainSet) (w : ℕ) (r : Option ℕ) → ScansAcross front t r c i →
      YieldsFrom front (λ (xs : List ℕ). xs) (items_left_in s w t) r (items_left_in s w scanned)
  gives s w r scan = by r scan.found
    where
      before : items_left_in s w t ≡ items_in (buffer_of (not front) t.buffers)
      before = across_left s w front t scan.none_between scan.none_loaded

      after : items_left_in s w scanned ≡ items_in (buffer_of (not front) c)
      after = across_left s w front scanned scan.none_between (scan.other ∙ scan.none_loaded)

      by : (r : Option ℕ) →
          ScansFrom front (buffer_of (not front) t.buffers) r (buffer_of (not front) c) →
          YieldsFrom front (λ (xs : List ℕ). xs) (items_left_in s w t) r (items_left_in s w scanned)
      by None f = (before ∙ f.0, after ∙ ap items_in f.1)
      by (Some x) f =
          before ∙ ap items_in f.1 ∙ ap (with_end front x) (sym (after ∙ ap items_in f.2))

  -- there are at least as many scans as items
  has_scans : (words : ℕ) (r : Option ℕ) → IsCounted words t → ScansAcross front t r c i →
      (i ≤ c.scans) × (t.items ≤ i)
  has_scans words None counted scan =
      (omega (arith, counted.at_least, scan.scans, scan.items), omega (arith, scan.items))
  has_scans words (Some x) counted scan = (
    omega (arith, counted.at_least, scan.scans, scan.items, ap buffer_count scan.found.1),
    omega (arith, scan.items),
  )

  -- such a scan is a step
  pub across : (s : PlainSet) (words w : ℕ) (r : Option ℕ) → IsCounted words t →
      ScansAcross front t r c i → Steps (YieldsFrom front (λ w. w.remaining))
      (walk_of s words w t) r (walk_of s words w scanned)
  across s words w r counted scan =
      let counts = has_scans words r counted scan in
      let few = one_of_two (not front) t.buffers in record {
        gave = gives s w r scan;
        items = scan.items;
        scans = omega (arith, scan.scans);
        fetches = omega (arith, scan.fetches);
        passed = omega arith;
        unread = omega (arith, scan.fetches);
        words = refl;
        bounded = record {
          at_least = counts.0;
          at_most = omega (arith, counted.at_most, scan.scans);
          once = omega (arith, counted.once, scan.fetches);
        };
      }

-- ---- the fetches

-- a word is fetched for an end with no word loaded; it is loaded there, or it has no item and the
-- test was its scan
pub record Fetches (front : Bool) (xs : List ℕ) (b c : BufferPair) : Type 0 where
  pub none : buffer_of front b ≡ None
  pub items : items_in (buffer_of front c) ≡ xs
  pub other : buffer_of (not front) c ≡ buffer_of (not front) b
  pub scans : b.scans ≤ c.scans
  pub counts : c.scans + buffer_count (buffer_of front c) ≡ b.scans + 1
  pub fetches : c.fetches ≡ b.fetches + 1

module _ (xs : List ℕ) (b c : BufferPair) where
  -- `refill` fetches a word in this way
  pub filled : (front found : Bool) → buffer_of front b ≡ None → Refills front xs found b c →
      Fetches front xs b c
  filled true true none e = rw e.1 (grind arith)
  filled true false none e = rw e.1 (grind arith)
  filled false true none e = rw e.1 (grind arith)
  filled false false none e = rw e.1 (grind arith)

  -- if the word had no item, no word is loaded there afterwards
  pub passed_over : (front found : Bool) → buffer_of front b ≡ None → Refills front xs found b c →
      found ≡ false → buffer_of front c ≡ None
  passed_over front true none e f = absurd (true≢false f)
  passed_over true false none e f = rw e.1 none
  passed_over false false none e f = rw e.1 none

  -- the word counts once, as a scan or as a loaded word
  once_more : (front : Bool) → Fetches front xs b c →
      c.scans + buffer_count c.head + buffer_count c.tail
      ≡ b.scans + buffer_count b.head + buffer_count b.tail + 1
  once_more true f = omega (arith, f.counts, ap buffer_count f.none, ap buffer_count f.other)
  once_more false f = omega (arith, f.counts, ap buffer_count f.none, ap buffer_count f.other)

-- the next word between is fetched for an end
module _ {B E W : Type 0} (s : PlainSet) (words w : ℕ) where
  abbrev next_number : Bool → Cursor B E W → ℕ
  next_number front t = cond front t.low (t.high - 1)

  abbrev next_members : Bool → Cursor B E W → List ℕ
  next_members front t = let k = next_number front t in members_between s (k * w) (k * w + w)

  abbrev after_next : Bool → Cursor B E W → BufferPair → Cursor B E W
  after_next front t c = record {
    buffers = c;
    low = cond front (t.low + 1) t.low;
    high = cond front t.high (t.high - 1);
    items = t.items;
    passed = t.passed;
  }

  -- one word fewer is between
  one_less : (front : Bool) (t : Cursor B E W) (c : BufferPair) → t.low < t.high →
      let u = after_next front t c in
      (u.low ≤ u.high) × (u.high ≤ t.high) × (u.high - u.low + 1 ≡ t.high - t.low)
  one_less true t c some = (omega arith, omega arith, omega arith)
  one_less false t c some = (omega arith, omega arith, omega arith)

  -- what remains stays the same
  same_left : (front : Bool) (t : Cursor B E W) (c : BufferPair) → t.low < t.high →
      Fetches front (next_members front t) t.buffers c →
      items_left_in s w (after_next front t c) ≡ items_left_in s w t
  unfolding items_left_in
  same_left true t c some f =
      let next : (t.low + 1) * w ≡ t.low * w + w = omega arith in
      let up : t.low * w + w ≤ t.high * w = rw (← next) (mul-le-mul_right w (omega arith)) in
      let rest = items_in t.buffers.tail in
      rw (f.none, f.items, f.other, next) (sym (append_assoc
      (members_between s (t.low * w) (t.low * w + w))
      (members_between s (t.low * w + w) (t.high * w)) rest)
      ∙ ap (λ xs. xs ++ rest) (sym
      (members_between-split s (t.low * w) (t.low * w + w) (t.high * w) (omega arith) up)))
  same_left false t c some f =
      let back : (t.high - 1) + 1 ≡ t.high = omega arith in
      let next : t.high * w ≡ (t.high - 1) * w + w = ap (λ n. n * w) (sym back) ∙ omega arith in
      let up : t.low * w ≤ (t.high - 1) * w = mul-le-mul_right w (omega arith) in
      rw (f.none, f.items, f.other, next) (ap (λ xs. items_in t.buffers.head ++ xs)
      (sym (members_between-split s (t.low * w) ((t.high - 1) * w) ((t.high - 1) * w + w) up
      (omega arith)) ∙ sym (append-nil (members_between s (t.low * w) ((t.high - 1) * w + w)))))

  -- so a fetch yields nothing, and `IsCounted` still holds
  pub fetched : (front : Bool) (t : Cursor B E W) (c : BufferPair) →
      IsCounted words t → t.low < t.high → Fetches front (next_members front t) t.buffers c →
      let u = after_next front t c in
      Seeks (walk_of s words w t) (walk_of s words w u) × IsCounted words u
  fetched front t c counted some f =
      let between = one_less front t c some in
      let counts = once_more (next_members front t) t.buffers c front f in (
        record {
          remaining = same_left front t c some f;
          items = refl;
          scans = f.scans;
          fetches = omega (arith, f.fetches);
          passed = omega arith;
          unread = omega (arith, f.fetches);
          words = refl;
        },
        record {
          ordered = between.0;
          within = omega (arith, counted.within);
          at_least = omega (arith, counted.at_least, f.scans);
          at_most = omega (arith, counted.at_most);
          once = omega (arith, counted.once, f.fetches);
        },
      )

  -- ---- the words that are passed over

  abbrev moved_to : Bool → Cursor B E W → ℕ → Cursor B E W
  moved_to front t on = record {
    buffers = t.buffers;
    low = cond front on t.low;
    high = cond front t.high on;
    items = t.items;
    passed = t.passed + cond front (on - t.low) (t.high - on);
  }

  -- words at an end that have no item leave the same items
  left_past : (front : Bool) (t : Cursor B E W) (on : ℕ) →
      PassesOver front w s t.low t.high on →
      members_between s ((moved_to front t on).low * w) ((moved_to front t on).high * w)
      ≡ members_between s (t.low * w) (t.high * w)
  left_past true t on p = sym
      (members_between-split s (t.low * w) (on * w) (t.high * w) (mul-le-mul_right w p.0)
      (mul-le-mul_right w p.1)
      ∙ ap (λ xs. xs ++ members_between s (on * w) (t.high * w))
      (members_between-none s (t.low * w) (on * w) p.2))
  left_past false t on p = sym
      (members_between-split s (t.low * w) (on * w) (t.high * w) (mul-le-mul_right w p.0)
      (mul-le-mul_right w p.1)
      ∙ ap (λ xs. members_between s (t.low * w) (on * w) ++ xs)
      (members_between-none s (on * w) (t.high * w) p.2) ∙ append-nil _)

  -- the words that are passed over are no longer between
  fewer : (front : Bool) (t : Cursor B E W) (on : ℕ) → t.high ≤ words →
      PassesOver front w s t.low t.high on → let u = moved_to front t on in
      (u.low ≤ u.high) × (u.high ≤ words) × (t.passed ≤ u.passed)
      × (u.high - u.low + u.passed ≡ t.high - t.low + t.passed)
  fewer true t on within p =
      (p.1, within, omega arith, omega (arith, p.0, p.1))
  fewer false t on within p =
      (p.0, omega (arith, p.1), omega arith, omega (arith, p.0, p.1))

  -- so passing over these words yields nothing, and `IsCounted` still holds
  pub moved_past : (front : Bool) (t : Cursor B E W) (on : ℕ) → IsCounted words t →
      PassesOver front w s t.low t.high on → let u = moved_to front t on in
      Seeks (walk_of s words w t) (walk_of s words w u) × IsCounted words u
  unfolding items_left_in
  moved_past front t on counted p =
      let between = fewer front t on counted.within p in (
        record {
          remaining = ap (λ xs. items_in t.buffers.head ++ (xs ++ items_in t.buffers.tail))
              (left_past front t on p);
          items = refl;
          scans = omega arith;
          fetches = omega arith;
          passed = between.2;
          unread = omega (arith, between.3);
          words = refl;
        },
        record {
          ordered = between.0;
          within = between.1;
          at_least = counted.at_least;
          at_most = omega (arith, counted.at_most, between.2, between.3);
          once = omega (arith, counted.once, between.3);
        },
      )
