-- Bytes written one after the other, each whole or a beginning of them.
use Rattle.std.proofs.Common.{◌≡◌, ℕ, List, [], ◌++◌, sym, ap, ◌∙◌, append_assoc, append-nil}
use Rattle.std.specs.Prelude.{Option}
use Rattle.std.specs.Io.KnownBytes.{Appends}
use Rattle.std.proofs.KnownBytes.{Appends-nil, Appends-trans}
use Rattle.bittle_script.specs.Beginnings.{AppendsBeginning, HasBegun}

-- a beginning of the first part is a beginning of both parts
pub begins-before : (a b : Option (List ℕ)) (xs ys : List ℕ) → AppendsBeginning a b xs →
    AppendsBeginning a b (xs ++ ys)
begins-before a b xs ys h = record {
  front = h.front;
  rest = h.rest ++ ys;
  split = ap (λ l. l ++ ys) h.split ∙ append_assoc h.front h.rest ys;
  appends = h.appends;
}

-- at first nothing is written, and all the bytes are left
pub begun-nothing : (a : Option (List ℕ)) (all left : List ℕ) → all ≡ left → HasBegun a a all left
begun-nothing a all left e = record { done = []; appends = Appends-nil a; split = e }

-- the first of the bytes were written, and then the first of those that were left
pub begun-then : (a b c : Option (List ℕ)) (all left rest : List ℕ) → HasBegun a b all left →
    HasBegun b c left rest → HasBegun a c all rest
begun-then a b c all left rest h k = record {
  done = h.done ++ k.done;
  appends = Appends-trans a b c h.done k.done h.appends k.appends;
  split = h.split ∙ ap (λ l. h.done ++ l) k.split ∙ sym (append_assoc h.done k.done rest);
}

-- if a beginning of `xs` was written and `left` is its rest, then of `xs ++ ys`, `left ++ ys` is
-- left
pub begun-before : (a b : Option (List ℕ)) (xs left ys : List ℕ) → HasBegun a b xs left →
    HasBegun a b (xs ++ ys) (left ++ ys)
begun-before a b xs left ys h = record {
  done = h.done;
  appends = h.appends;
  split = ap (λ l. l ++ ys) h.split ∙ append_assoc h.done left ys;
}

-- once a beginning of the bytes that are left is written, a beginning of all the bytes is written
pub begun-failed : (a b c : Option (List ℕ)) (all left : List ℕ) → HasBegun a b all left →
    AppendsBeginning b c left → AppendsBeginning a c all
begun-failed a b c all left h k = record {
  front = h.done ++ k.front;
  rest = k.rest;
  split = h.split ∙ ap (λ l. h.done ++ l) k.split ∙ sym (append_assoc h.done k.front k.rest);
  appends = Appends-trans a b c h.done k.front h.appends k.appends;
}

-- once the bytes that are left are written whole, all the bytes are written, and no byte is left
pub begun-all : (a b c : Option (List ℕ)) (all left : List ℕ) → HasBegun a b all left →
    Appends b c left → HasBegun a c all []
begun-all a b c all left h k = begun-then a b c all left [] h
    (record { done = left; appends = k; split = sym (append-nil left) })
