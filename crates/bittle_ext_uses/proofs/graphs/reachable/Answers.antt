use Rattle.std.proofs.Common.{◌≡◌, ◌≢◌, ◌<◌, ◌⊎◌, ℕ, List, true, false, not, ◌||◌, get_or, inl, inr}
use Rattle.std.proofs.Common.{sym, ap, ◌∙◌, arith}
use Rattle.std.proofs.Math.Bool.{or-true}
use Rattle.std.proofs.lemmas.Bool.{and_parts, cases_eq, lt-ltb, ltb-true, ne_eqb, not-true}
use Rattle.std.proofs.lemmas.Bool.{or_cases, true≢false}
use Rattle.bittle.specs.BitPatterns.{bit_has, bit_set}
use Rattle.bittle.specs.PlainSet.{PlainSet, contains, empty_set, full_set, with_index}
use Rattle.bittle.specs.PlainSet.{without_index}
use Rattle.bittle.specs.SetOperations.{union_of}
use Rattle.bittle.proofs.CallerSets.{combination_within, complement_within, contains_within}
use Rattle.bittle_ext.proofs.CallerMembers.{has_after_set, has_other_after_clear, has_with_index}
use Rattle.bittle_ext.proofs.CallerMembers.{size_after_clear_member}
use Rattle.bittle_ext_uses.proofs.graphs.reachable.Invariants.{IsSearched}
use Rattle.bittle_ext_uses.proofs.graphs.reachable.Goals as goal
use Rattle.bittle_ext_uses.proofs.graphs.reachable.Goals.{then-start-lt64, else-start-lt64}

-- a member of a word is below its width
member_below : (word i : ℕ) → (bit_set 64 word).has i ≡ true → i < 64
unfolding bit_has
member_below word i has = ltb-true i 64 (and_parts _ _ has).0

-- one turn of the loop keeps the invariant
turn : (rows : List ℕ) (first left queue after joined node : ℕ) →
    IsSearched rows first (bit_set 64 left) (bit_set 64 queue) → node < 64 →
    (bit_set 64 queue).has node ≡ true →
    bit_set 64 after ≡ without_index (bit_set 64 left) node →
    bit_set 64 joined ≡ union_of (bit_set 64 queue) (bit_set 64 (get_or rows node 0)) →
    IsSearched rows first (bit_set 64 after) (bit_set 64 joined)
turn rows first left queue after joined node so_far below ready left_is queue_is = record {
  begun = λ low. stays first (so_far.begun low);
  followed = λ k low gone j has. elim (cases_eq k node) [
    | inl here ↦
        added j (ap (λ i. (bit_set 64 (get_or rows i 0)).has j) (sym here) ∙ has)
    | inr apart ↦ stays j (so_far.followed k low (still k apart gone) j has)
  ];
  queue_needed = λ nodes closed j has. elim (from j has) [
    | inl old ↦ so_far.queue_needed nodes closed j old
    | inr new ↦ closed.edges node below (so_far.queue_needed nodes closed node ready) j new
  ];
  taken_needed = λ nodes closed k low gone. elim (cases_eq k node) [
    | inl here ↦ ap (λ j. nodes.has j) here ∙ so_far.queue_needed nodes closed node ready
    | inr apart ↦ so_far.taken_needed nodes closed k low (still k apart gone)
  ];
}
  where
    row : PlainSet
    row = bit_set 64 (get_or rows node 0)

    either : (j : ℕ) → j < 64 →
        (bit_set 64 joined).has j ≡ ((bit_set 64 queue).has j || row.has j)
    either j low = ap (λ s. s.has j) queue_is
        ∙ combination_within ◌||◌ (bit_set 64 queue) row j low low

    stays : (j : ℕ) → (bit_set 64 queue).has j ≡ true → (bit_set 64 joined).has j ≡ true
    stays j has = either j (member_below queue j has) ∙ ap (λ b. b || row.has j) has

    added : (j : ℕ) → row.has j ≡ true → (bit_set 64 joined).has j ≡ true
    added j has = either j (member_below (get_or rows node 0) j has)
        ∙ ap (λ b. (bit_set 64 queue).has j || b) has ∙ or-true ((bit_set 64 queue).has j)

    from : (j : ℕ) → (bit_set 64 joined).has j ≡ true →
        ((bit_set 64 queue).has j ≡ true) ⊎ (row.has j ≡ true)
    from j has = or_cases _ _ (sym (either j (member_below joined j has)) ∙ has)

    still : (k : ℕ) → k ≢ node → (bit_set 64 after).has k ≡ false →
        (bit_set 64 left).has k ≡ false
    still k apart gone =
        sym (has_other_after_clear (bit_set 64 left) (bit_set 64 after) node k left_is below apart)
        ∙ gone

-- before the loop all nodes are left, and the queue has the start alone, if that is a node
begins : (rows : List ℕ) (first left queue : ℕ) → bit_set 64 left ≡ full_set 64 →
    (first < 64 → (bit_set 64 queue).has first ≡ true) →
    ((k : ℕ) → (bit_set 64 queue).has k ≡ true → (k ≡ first) × (first < 64)) →
    IsSearched rows first (bit_set 64 left) (bit_set 64 queue)
begins rows first left queue all begun alone = record {
  begun = begun;
  followed = λ k low gone. absurd (kept k low gone);
  queue_needed = λ nodes closed k has.
      let it = alone k has in
      ap (λ j. nodes.has j) it.0 ∙ closed.start it.1;
  taken_needed = λ nodes closed k low gone. absurd (kept k low gone);
}
  where
    kept : (k : ℕ) → k < 64 → (bit_set 64 left).has k ≡ false → ⊥
    kept k low gone = true≢false (sym (ap (λ s. s.has k) all ∙ lt-ltb k 64 low) ∙ gone)

pub loop-node-init : goal.loop-node-init
loop-node-init c = elim c.if-start-lt64.branch [
  | then-start-lt64 w ↦
      let low = w.if-start-lt64.true in
      let is = ap (λ q. bit_set 64 q) w.queue-is ∙ w.set_bit.ensures.set
      ∙ ap (λ s. with_index s c.args.start) c.zeros-queue.ensures.value in
      begins _ _ _ _ c.ones-left.ensures.value
      (λ below. has_after_set (empty_set 64) _ _ is below)
      (λ k has. one _ _ low is k has)
  | else-start-lt64 w ↦
      let is = ap (λ q. bit_set 64 q) w.queue-is ∙ c.zeros-queue.ensures.value in
      begins _ _ _ _ c.ones-left.ensures.value
      (λ below. absurd (omega (arith, below, w.if-start-lt64.false)))
      (λ k has. absurd (true≢false (sym has ∙ ap (λ s. s.has k) is)))
]
  where
    one : (first queue : ℕ) → first < 64 → bit_set 64 queue ≡ with_index (empty_set 64) first →
        (k : ℕ) → (bit_set 64 queue).has k ≡ true → (k ≡ first) × (first < 64)
    one first queue low is k has = elim (cases_eq k first) [
      | inl here ↦ (here, low)
      | inr apart ↦
          let no = sym has ∙ ap (λ s. s.has k) is ∙ has_with_index (empty_set 64) first k low
          ∙ ap (λ b. b || false) (ne_eqb k first apart) in
          absurd (true≢false no)
    ]

pub loop-node-smaller : goal.loop-node-smaller
loop-node-smaller c =
    let left = bit_set 64 c.loop-node.left in
    let queue = bit_set 64 c.loop-node.queue in
    let node = c.in-Some.node in
    let set : contains left node ≡ true = contains_within left node c.in-Some.ensures.below
    ∙ (and_parts (queue.has node) (left.has node) c.in-Some.ensures.first.1).1 in
    let one = size_after_clear_member left (bit_set 64 c.remove.new.self) node
    c.remove.ensures.set c.in-Some.ensures.below set in
    omega (arith, one)

pub loop-node-preserved : goal.loop-node-preserved
loop-node-preserved c =
    turn _ _ _ _ _ _ c.in-Some.node c.loop-node.invariant c.in-Some.ensures.below
    (and_parts _ _ c.in-Some.ensures.first.1).0 c.remove.ensures.set
    (c.union_assign.ensures.union false)

pub returns-clause-closed : goal.returns-clause-closed
returns-clause-closed c = record {
  start = λ low. taken c.args.start low (c.loop-node.invariant.begun low);
  edges = λ k low has j edge.
      let is_taken = not-true _ (sym (apart k low) ∙ has) in
      let queued = c.loop-node.invariant.followed k low is_taken j edge in
      taken j (member_below _ j edge) queued;
}
  where
    apart : (k : ℕ) → k < 64 →
        (bit_set 64 c.complement.result).has k ≡ not ((bit_set 64 c.loop-node.left).has k)
    apart k low = ap (λ s. s.has k) c.complement.ensures.value
        ∙ complement_within (bit_set 64 c.loop-node.left) k low

    taken : (k : ℕ) → k < 64 → (bit_set 64 c.loop-node.queue).has k ≡ true →
        (bit_set 64 c.complement.result).has k ≡ true
    taken k low queued = apart k low ∙ ap not (c.in_default.ensures.first k queued)

pub returns-clause-least : goal.returns-clause-least
returns-clause-least c nodes closed k has =
    let low = member_below c.complement.result k has in
    let apart = ap (λ s. s.has k) c.complement.ensures.value
    ∙ complement_within (bit_set 64 c.loop-node.left) k low in
    c.loop-node.invariant.taken_needed nodes closed k low (not-true _ (sym apart ∙ has))
