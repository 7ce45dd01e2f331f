use Rattle.std.proofs.Common.{◌≡◌, false, sym, ap, ◌∙◌, arith}
use Rattle.std.proofs.lemmas.Bool.{not-true}
use Rattle.bittle.specs.PlainSet.{PlainSet, size}
use Rattle.bittle.specs.Values.{set_in}
use Rattle.bittle.proofs.CallerChanges.{contains_after_set, size_with}
use Rattle.bittle.proofs.CallerSets.{complement_within, size_zero}
use Rattle.bittle_bits.proofs.Sizes.{size-complement}
use Rattle.bittle_ext.proofs.CallerMembers.{unset_where_found}
use Rattle.bittle_ext.proofs.bits_mut_ext.BitsMutExt.take_first_zero.Goals as goal

pub flip_first-requires-clause-least : goal.flip_first-requires-clause-least
flip_first-requires-clause-least g c =
    let found = c.in_ok-free.ensures in
    record {
      within = omega (arith, found.1);
      none_below = λ k l. found.3 k (omega arith) l;
      is_member = λ _. found.2;
    }

pub returns-in_err-free-clause-more : goal.returns-in_err-free-clause-more
returns-in_err-free-clause-more g c =
    let s : PlainSet = set_in g.Self.Shape g.Self.Order.Endian c.args.self.now in
    rw c.from_residual.ensures
    (omega (arith, size_zero _ c.in_err-free.ensures, size-complement s))

pub returns-clause-more : goal.returns-clause-more
returns-clause-more g c =
    let s : PlainSet = set_in g.Self.Shape g.Self.Order.Endian c.args.self.now in
    let found = c.in_ok-free.ensures in
    let unset : s.has c.in_ok-free.free ≡ false =
    not-true _ (sym (complement_within s _ found.1) ∙ found.2) in
    ap size c.flip_first.ensures.set ∙ size_with s _ found.1 unset

pub returns-clause-taken : goal.returns-clause-taken
returns-clause-taken g c = contains_after_set _ _ _ c.flip_first.ensures.set
    (omega (arith, c.in_ok-free.ensures.1))

pub returns-clause-was_unset : goal.returns-clause-was_unset
returns-clause-was_unset g c =
    unset_where_found (set_in g.Self.Shape g.Self.Order.Endian c.args.self.now) _
    c.in_ok-free.ensures.2
