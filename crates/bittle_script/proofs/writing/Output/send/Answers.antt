use Rattle.std.proofs.Common.{◌≡◌, ℕ, ◌+◌, ◌-◌, List, ◌++◌, length, take, drop, sym, ap, ◌∙◌, subst}
use Rattle.std.proofs.Common.{take-append-drop, drop-drop, length-drop, arith}
use Rattle.std.specs.Prelude.{Option}
use Rattle.std.specs.Io.KnownBytes.{Appends}
use Rattle.std.proofs.lemmas.List.{take_rest}
use Rattle.bittle_script.specs.Beginnings.{HasBegun}
use Rattle.bittle_script.proofs.Beginnings.{begun-then}
use Rattle.bittle_script.proofs.writing.Output.send.Goals as goal

-- what a write was given is what is left
given : (all bytes : List ℕ) (i : ℕ) → bytes ≡ all →
    take (length bytes - i) (drop i bytes) ≡ drop i all
given all bytes i is = take_rest bytes i ∙ ap (drop i) is

more : (a b c : Option (List ℕ)) (all bytes : List ℕ) (i n : ℕ) → bytes ≡ all →
    HasBegun a b all (drop i all) → Appends b c (take n (take (length bytes - i) (drop i bytes))) →
    HasBegun a c all (drop (i + n) all)
more a b c all bytes i n is h k = begun-then a b c all (drop i all) (drop (i + n) all) h (record {
  done = take n (drop i all);
  appends = subst (Appends b c) (ap (take n) (given all bytes i is)) k;
  split = sym (take-append-drop n (drop i all))
      ∙ ap (λ l. take n (drop i all) ++ l) (drop-drop n i all);
})

pub loop-sent-preserved-in-Ok : goal.loop-sent-preserved-in-Ok
loop-sent-preserved-in-Ok g c =
    let all = c.args.self.now.waiting in
    let bytes = c.as_slice.result.now in
    let i = c.loop-sent.sent in
    let is : bytes ≡ all = c.as_slice.ensures ∙ c.loop-sent.invariant.same_bytes in
    record {
      same_writer = c.loop-sent.invariant.same_writer;
      same_bytes = c.loop-sent.invariant.same_bytes;
      interrupted = c.loop-sent.invariant.interrupted;
      within = omega (
        arith,
        c.in-Ok.ensures.bound,
        c.loop-sent.invariant.within,
        ap length (given all bytes i is),
        length-drop i all,
      );
      begun = more _ _ _ all bytes i c.in-Ok.count is c.loop-sent.invariant.begun
          c.in-Ok.ensures.bytes;
    }
