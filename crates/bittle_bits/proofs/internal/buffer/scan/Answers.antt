use Rattle.std.proofs.Common.{◌≡◌, ◌+◌, ◌-◌, true, ◌∙◌, ap, sym}
use Rattle.bittle_bits.specs.Buffers.{edge_from_first, IsSound}
use Rattle.bittle_bits.specs.Orders.{place}
use Rattle.bittle_bits.proofs.BufferedWords.{dropped, loaded_count, not_empty, taken, with_member}
use Rattle.bittle_bits.proofs.BufferedWords.{without_items}
use Rattle.bittle_bits.proofs.internal.buffer.scan.Given.{Over}
use Rattle.bittle_bits.proofs.internal.buffer.scan.Goals.{In-Some}
use Rattle.bittle_bits.proofs.internal.buffer.scan.Goals as goal

-- a word that yielded a member was loaded
loaded : (g : Over) (c : In-Some g) → c.args.buffered.now.is_loaded ≡ true
loaded g c = with_member _ _ _ _ c.requires
    (λ none. not_empty g.N.End.FRONT _ _ (sym c.in-Some.ensures.found ∙ none))

pub returns-in_default-clause-found : goal.returns-in_default-clause-found
returns-in_default-clause-found g c =
    let none = c.in_default.ensures.found.0 in (
      without_items _ _ _ _ none,
      (dropped _ _ _ _ _ _ _ (rw c.in_default.ensures.found.1 none) c.unload.ensures.dropped).0,
    )

pub returns-in_default-clause-scans : goal.returns-in_default-clause-scans
returns-in_default-clause-scans g c =
    rw (loaded_count, ← c.pop.ensures.is_loaded) c.unload.ensures.scans

pub returns-in_default-clause-sound : goal.returns-in_default-clause-sound
returns-in_default-clause-sound g c =
    (dropped _ _ _ _ _ _ _ (rw c.in_default.ensures.found.1 c.in_default.ensures.found.0)
    c.unload.ensures.dropped).1

pub index_at-requires-clause-edge : goal.index_at-requires-clause-edge
unfolding IsSound
index_at-requires-clause-edge g c =
    rw c.pop.ensures.edge
    (c.requires.0 (loaded g (goal.at.index_at-requires-clause-edge g c).In-Some))

pub returns-clause-found : goal.returns-clause-found
returns-clause-found g c =
    let is = loaded g (goal.at.returns-clause-found g c).In-Some in
    let m = g.E.Endian.mirrored in
    let w = g.W.Word.width in
    let item : c.index_at.result
    ≡ c.args.buffered.now.edge - edge_from_first m w + place m w c.in-Some.at =
    c.index_at.ensures ∙ ap (λ edge. edge - edge_from_first m w + place m w c.in-Some.at)
    c.pop.ensures.edge in
    rw item (taken _ _ _ g.N.End.FRONT c.args.buffered.now c.pop.new.buffered _ is
    (c.pop.ensures.is_loaded ∙ is) c.pop.ensures.edge c.in-Some.ensures.found)

pub returns-clause-scans : goal.returns-clause-scans
returns-clause-scans g c =
    rw (loaded_count, loaded g (goal.at.returns-clause-scans g c).In-Some) c.raise.ensures

pub returns-clause-sound : goal.returns-clause-sound
unfolding IsSound
returns-clause-sound g c =
    let is = loaded g (goal.at.returns-clause-sound g c).In-Some in (
      (λ _. rw c.pop.ensures.edge (c.requires.0 is)),
      λ none. absurd cc (sym is ∙ sym c.pop.ensures.is_loaded ∙ none),
    )
