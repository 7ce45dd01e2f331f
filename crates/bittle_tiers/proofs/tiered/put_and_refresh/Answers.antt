use Rattle.std.proofs.Common.{◌≡◌, ◌<◌, ◌≤◌, ◌+◌, ◌*◌, ◌/◌, ◌%◌, Bool, true, false, refl, sym, ap}
use Rattle.std.proofs.Common.{◌∙◌, arith}
use Rattle.std.proofs.Math.Bool.{beq}
use Rattle.std.proofs.lemmas.Bool.{true≢false}
use Rattle.std.proofs.lemmas.Nat.{mod_below}
use Rattle.bittle_bits.proofs.Words.{word_ends}
use Rattle.bittle_tiers.specs.TierLaws.{map_indexable}
use Rattle.bittle_tiers.proofs.Summaries.{index_word, reaches, renewed, same_words, some_put}
use Rattle.bittle_tiers.proofs.Summaries.{summary_reaches}
use Rattle.bittle_tiers.proofs.tiered.put_and_refresh.Goals as goal

-- two kinds that compare as equal are the same
one_kind : (a b : Bool) → beq a b ≡ true → a ≡ b
one_kind true true e = refl
one_kind true false e = absurd (true≢false (sym e))
one_kind false true e = absurd (true≢false (sym e))
one_kind false false e = refl

pub refresh-requires-clause-word : goal.refresh-requires-clause-word
refresh-requires-clause-word g c =
    let wide = c.word_width.ensures in
    let fits = map_indexable g.B.Shape.indexable g.S.Shape.indexable g.B.Shape.type_capacity
    g.S.Shape.type_capacity g.B.Shape.width c.args.tiered.now.fits in
    let bits : c.fixed_capacity-bits.result ≡ g.B.Shape.type_capacity =
    c.fixed_capacity-bits.ensures.value (fits, g.met.B.FixedCapacity.type_fits fits) in
    let size = g.met.B.FixedCapacity.one_capacity c.put_in_map.new.map in
    let at = c.args.index % c.fixed_capacity-bits.result in
    let below : at < c.fixed_capacity-bits.result =
    mod_below c.args.index c.fixed_capacity-bits.result (omega (arith, c.if-bits-ne0.true)) in
    rw wide (index_word g.B.Shape.width at _ (omega (arith, below, bits, size)))

pub refresh-requires-clause-known : goal.refresh-requires-clause-known
refresh-requires-clause-known g c = λ known.
    let kind = sym c.ONES.ensures ∙ one_kind _ _ known ∙ c.ONES-then-bits-ne0.ensures in
    let w = g.B.Shape.width in
    let before = c.args.tiered.now in
    let s = g.B.Shape.big before.map in
    let t = g.B.Shape.big c.put_in_map.new.map in
    let wide = c.word_width.ensures in
    let fits = map_indexable g.B.Shape.indexable g.S.Shape.indexable g.B.Shape.type_capacity
    g.S.Shape.type_capacity w before.fits in
    let bits : c.fixed_capacity-bits.result ≡ g.B.Shape.type_capacity =
    c.fixed_capacity-bits.ensures.value (fits, g.met.B.FixedCapacity.type_fits fits) in
    let size = g.met.B.FixedCapacity.one_capacity before.map in
    let size_now = g.met.B.FixedCapacity.one_capacity c.put_in_map.new.map in
    let at = c.args.index % c.fixed_capacity-bits.result in
    let below : at < c.fixed_capacity-bits.result =
    mod_below c.args.index c.fixed_capacity-bits.result (omega (arith, c.if-bits-ne0.true)) in
    let is : at ≡ c.args.index % s.capacity = ap (λ n. c.args.index % n) (bits ∙ sym size) in
    rw (sym kind, wide) (some_put g.V.Kind.ONES g.E.Endian.mirrored w c.args.index at s t
    g.met.B.ReadWords.width_positive (g.met.B.ReadWords.whole_words before.map)
    (size_now ∙ sym size) (omega (arith, below, bits, size)) is c.put_in_map.ensures)

pub refresh-requires-clause-within : goal.refresh-requires-clause-within
refresh-requires-clause-within g c =
    let w = g.B.Shape.width in
    let wide = c.word_width.ensures in
    let fits = map_indexable g.B.Shape.indexable g.S.Shape.indexable g.B.Shape.type_capacity
    g.S.Shape.type_capacity w c.args.tiered.now.fits in
    let reach = summary_reaches g.B.Shape.indexable g.S.Shape.indexable g.B.Shape.type_capacity
    g.S.Shape.type_capacity w c.args.tiered.now.fits in
    let bits : c.fixed_capacity-bits.result ≡ g.B.Shape.type_capacity =
    c.fixed_capacity-bits.ensures.value (fits, g.met.B.FixedCapacity.type_fits fits) in
    let size = g.met.S.FixedCapacity.one_capacity c.args.tiered.now.summary in
    let at = c.args.index % c.fixed_capacity-bits.result in
    let below : at < c.fixed_capacity-bits.result =
    mod_below c.args.index c.fixed_capacity-bits.result (omega (arith, c.if-bits-ne0.true)) in
    let k = at / w in
    let ends = word_ends w k g.B.Shape.type_capacity g.met.B.FixedCapacity.type_whole_words
    (index_word w at g.B.Shape.type_capacity (omega (arith, below, bits))) in
    let next : (k + 1) * w ≤ g.B.Shape.type_capacity = omega (arith, ends) in
    let enough = reaches w (k + 1) g.B.Shape.type_capacity g.B.Shape.type_capacity
    g.S.Shape.type_capacity g.met.B.ReadWords.width_positive next refl reach in
    rw wide (omega (arith, enough, size))

pub invariant_of-tiered : goal.invariant_of-tiered
invariant_of-tiered g c =
    let w = g.B.Shape.width in
    let before = c.args.tiered.now in
    let s = g.B.Shape.big before.map in
    let t = g.B.Shape.big c.put_in_map.new.map in
    let wide = c.word_width.ensures in
    let fits = map_indexable g.B.Shape.indexable g.S.Shape.indexable g.B.Shape.type_capacity
    g.S.Shape.type_capacity w before.fits in
    let bits : c.fixed_capacity-bits.result ≡ g.B.Shape.type_capacity =
    c.fixed_capacity-bits.ensures.value (fits, g.met.B.FixedCapacity.type_fits fits) in
    let size = g.met.B.FixedCapacity.one_capacity before.map in
    let size_now = g.met.B.FixedCapacity.one_capacity c.put_in_map.new.map in
    let at = c.args.index % c.fixed_capacity-bits.result in
    let is : at ≡ c.args.index % s.capacity = ap (λ n. c.args.index % n) (bits ∙ sym size) in
    record {
      fits = before.fits;
      tells = renewed g.K.Kind.ONES w (at / w) s t (g.S.Shape.big before.summary)
          (g.S.Shape.big c.refresh.new.summary) before.tells
          (same_words g.V.Kind.ONES g.E.Endian.mirrored w c.args.index at s t
          g.met.B.ReadWords.width_positive (omega (arith, bits, size, c.if-bits-ne0.true)) is
          c.put_in_map.ensures) (size_now ∙ sym size) (rw wide at c.refresh.ensures.here)
          (rw wide at c.refresh.ensures.others);
    }
