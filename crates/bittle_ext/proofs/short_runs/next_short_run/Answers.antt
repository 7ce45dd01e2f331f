use Rattle.std.proofs.Common.{◌≡◌, ◌+◌, ◌-◌, ◌*◌, ◌/◌, ◌<◌, ◌≤◌, Some, None, true, refl, ap, ◌∙◌}
use Rattle.std.proofs.Common.{arith}
use Rattle.std.proofs.Math.Nat.{mul-le-mul_right}
use Rattle.bittle.specs.Searches.{PassesOver}
use Rattle.bittle.specs.Values.{kind_in, word_in}
use Rattle.bittle_bits.proofs.OnesOrZeros.{passes_in_order}
use Rattle.bittle_ext.specs.RangeMembers.{members_within}
use Rattle.bittle_ext.specs.Runs.{cut_off, IsFirstRun}
use Rattle.bittle_ext.proofs.ShortRuns.{IsOpen, first_since, open_found, run_in_word_found}
use Rattle.bittle_ext.proofs.ShortRuns.{none_in_word, open_stays, open_anew, open_after_none}
use Rattle.bittle_ext.proofs.ShortRuns.{open_ended, kind_at, reading_begins, reading_on, none_since}
use Rattle.bittle_ext.proofs.short_runs.next_short_run.Goals.{Joined-lead-width}
use Rattle.bittle_ext.proofs.short_runs.next_short_run.Goals.{then-length-width+in_default}
use Rattle.bittle_ext.proofs.short_runs.next_short_run.Goals.{else-length-width, then-lead-width}
use Rattle.bittle_ext.proofs.short_runs.next_short_run.Goals.{else-lead-width, then-next-after}
use Rattle.bittle_ext.proofs.short_runs.next_short_run.Goals.{else-next-after}
use Rattle.bittle_ext.proofs.short_runs.next_short_run.Given.{Over}
use Rattle.bittle_ext.proofs.short_runs.next_short_run.Goals as goal

pub loop-open-init : goal.loop-open-init
loop-open-init g c =
    let law = g.met.B.ReadWords in
    let w = g.B.Shape.width in
    let from = c.args.from in
    let ones = g.K.Kind.ONES in
    let big = g.B.Shape.big c.args.bits.now in
    let s = kind_in g.B.Shape g.E.Endian g.K.Kind c.args.bits.now in
    let wide = c.word_width-width.ensures in
    let start : from / w * w - 0 ≡ from / w * w = omega arith in (
      omega arith,
      rw (wide, law.leaf_width, c.and-word.ensures, start) (reading_begins g.E.Endian.mirrored w
          c.args.words from c.args.length _ _ (cut_off (c.args.words * w) s) law.width_positive
          c.requires.some refl c.requires.ordered
          (kind_at ones g.E.Endian.mirrored w (from / w) _ big law.width_positive
          (law.whole_words c.args.bits.now) (rw wide at c.word_of_kind.ensures))
          (rw (wide, law.leaf_width) at c.from_index-since.ensures)),
    )

pub returns-then-length-open : goal.returns-then-length-open
returns-then-length-open g c =
    let w = g.B.Shape.width in
    let s = cut_off (c.args.words * w) (kind_in g.B.Shape g.E.Endian g.K.Kind c.args.bits.now) in
    let p = c.loop-open.invariant in
    rw c.word_width-width.ensures (first_since s c.args.from c.args.length
    (Some (c.loop-open.k * w - c.loop-open.open)) c.requires.some
    (open_found _ _ _ _ _ c.ones-lead.result _ _ p.1.read c.ones-lead.ensures
    (omega (arith, p.0, c.if-length-open.true))))

pub returns-in-Some : goal.returns-in-Some
returns-in-Some g c =
    let w = g.B.Shape.width in
    let s = cut_off (c.args.words * w) (kind_in g.B.Shape g.E.Endian g.K.Kind c.args.bits.now) in
    let p = c.loop-open.invariant in
    rw c.word_width-width.ensures (first_since s c.args.from c.args.length
    (Some (c.loop-open.k * w + c.in-Some.index)) c.requires.some
    (run_in_word_found _ _ _ _ _ c.ones-lead.result _ _ p.1.read c.ones-lead.ensures
    (omega (arith, p.0, c.if-length-open.false)) _ c.in-Some.ensures))

-- the bits that are open after word k lie below its end
room : (g : Over) (c : goal.Joined-lead-width g) →
    c.if-lead-width.open ≤ c.loop-open.k * g.B.Shape.width + g.B.Shape.width
room g c = elim c.if-lead-width.branch [
  | then-lead-width t ↦ omega (
    arith,
    c.loop-open.invariant.0,
    t.open-is,
    c.word_width-width.ensures,
  )
  | else-lead-width t ↦ omega (
    arith,
    t.open-is,
    t.set_at_end-open.ensures.within,
    g.met.B.ReadWords.leaf_width,
  )
]

-- the run that is open after word k, of the members from a number on
past : (g : Over) (c : goal.Joined-lead-width g) →
    let w = g.B.Shape.width in
    let s = cut_off (c.args.words * w) (kind_in g.B.Shape g.E.Endian g.K.Kind c.args.bits.now) in
    let end = c.loop-open.k * w + w in
    IsOpen (members_within s c.args.from s.capacity) c.args.length (end - c.if-lead-width.open) end
past g c =
    let w = g.B.Shape.width in
    let k = c.loop-open.k in
    let before = c.loop-open.open in
    let leaf = g.met.B.ReadWords.leaf_width in
    let p = c.loop-open.invariant in
    let read = p.1.read in
    let wide = c.word_width-width.ensures in
    let least = c.ones-lead.ensures in
    let short : k * w + c.ones-lead.result - (k * w - before) < c.args.length =
    omega (arith, p.0, c.if-length-open.false) in
    let word = word_in g.B.LeafWord.Word g.E.Endian c.loop-open.word in
    let none : IsFirstRun word 0 c.args.length None = elim c.if-length-width.branch [
      | then-length-width+in_default t ↦ t.in_default.ensures
      | else-length-width t ↦ none_in_word _ _ _ _ _ c.ones-lead.result _ _ read least short
          (omega (arith, t.if-length-width.false, wide))
    ] in
    elim c.if-lead-width.branch [
      | then-lead-width t ↦
          let e : k * w + w - c.if-lead-width.open ≡ k * w - before =
          omega (arith, t.open-is, wide) in
          rw e (open_stays _ _ _ _ _ c.ones-lead.result _ _ read least short
          (omega (arith, least.within, t.if-lead-width.true, wide, leaf)))
      | else-lead-width t ↦
          let tail = t.set_at_end-open.result in
          let e : k * w + w - c.if-lead-width.open ≡ k * w + w - tail = omega (arith, t.open-is) in
          rw e (open_anew _ _ _ _ _ c.ones-lead.result _ _ read least short tail
          (omega (arith, least.within, t.if-lead-width.false, wide, leaf)) t.set_at_end-open.ensures
          none)
    ]

pub returns-then-next-words : goal.returns-then-next-words
returns-then-next-words g c =
    let law = g.met.B.ReadWords in
    let w = g.B.Shape.width in
    let k = c.loop-open.k in
    let s = cut_off (c.args.words * w) (kind_in g.B.Shape g.E.Endian g.K.Kind c.args.bits.now) in
    let p = c.loop-open.invariant.1 in
    let passed : PassesOver true w s (k + 1) c.args.words c.pass_over-next.result
    = passes_in_order true g.K.Kind.ONES g.E.Endian.mirrored w _ _ _
    (g.B.Shape.big c.args.bits.now) law.width_positive (law.whole_words c.args.bits.now)
    c.pass_over-next.ensures in
    let next : c.pass_over-next.result * w ≡ s.capacity =
    ap (λ n. n * w) c.if-next-words.true in
    let from : (k + 1) * w ≡ k * w + w = omega arith in
    let ended = past g (goal.at.returns-then-next-words g c).Joined-lead-width in
    first_since s c.args.from c.args.length None c.requires.some
    (open_ended _ c.args.length (k * w + w - c.if-lead-width.open) (k * w + w) ended
    (none_since _ _ _ _ _ _ _ _ p _ _ (rw (from, next) at passed.2)))

pub loop-open-preserved : goal.loop-open-preserved
loop-open-preserved g c =
    let law = g.met.B.ReadWords in
    let w = g.B.Shape.width in
    let k = c.loop-open.k in
    let n = c.args.length in
    let s = cut_off (c.args.words * w) (kind_in g.B.Shape g.E.Endian g.K.Kind c.args.bits.now) in
    let t = members_within s c.args.from s.capacity in
    let p = c.loop-open.invariant.1 in
    let next = c.pass_over-next.result in
    let passed : PassesOver true w s (k + 1) c.args.words next =
    passes_in_order true g.K.Kind.ONES g.E.Endian.mirrored w _ _ _
    (g.B.Shape.big c.args.bits.now) law.width_positive (law.whole_words c.args.bits.now)
    c.pass_over-next.ensures in
    let joined = (goal.at.loop-open-preserved g c).Joined-lead-width in
    let ended = past g joined in
    let from : (k + 1) * w ≡ k * w + w = omega arith in
    let inside : c.if-next-after.open ≤ next * w = elim c.if-next-after.branch [
      | then-next-after t ↦ omega (arith, t.open-is)
      | else-next-after t ↦
          let e : next * w ≡ k * w + w = ap (λ v. v * w) t.if-next-after.false ∙ from in
          omega (arith, t.open-is, e, room g joined)
    ] in
    let before : IsOpen t n (next * w - c.if-next-after.open) (next * w) =
    elim c.if-next-after.branch [
      | then-next-after t ↦
          let e : next * w - c.if-next-after.open ≡ next * w = omega (arith, t.open-is) in
          let up : (k + 2) * w ≤ next * w =
          mul-le-mul_right w (omega (arith, passed.0, t.if-next-after.true)) in
          rw e (open_after_none _ n (k * w + w - c.if-lead-width.open) (k * w + w) (next * w) ended
          (none_since _ _ _ _ _ _ _ _ p _ _ (rw from at passed.2))
          (omega (arith, up, law.width_positive)))
      | else-next-after t ↦
          let e : next * w ≡ k * w + w = ap (λ v. v * w) t.if-next-after.false ∙ from in
          rw (t.open-is, e) ended
    ] in (
      inside,
      reading_on _ _ _ _ _ _ _ _ p next (next * w - c.if-next-after.open) _
          (omega (arith, passed.0)) (omega (arith, passed.1, c.if-next-words.false)) law.leaf_width
          before (rw law.leaf_width (kind_at g.K.Kind.ONES g.E.Endian.mirrored w next _
          (g.B.Shape.big c.args.bits.now) law.width_positive (law.whole_words c.args.bits.now)
          c.word_of_kind-word.ensures)),
    )
