-- Parts of bytes that are put into an output one after the other. The names `p`, `q` and `s` stand
-- for the bytes that wait in the output.
use Rattle.std.proofs.Common.{◌≡◌, ℕ, List, ◌++◌, sym, ap, ◌∙◌, append_assoc, subst, Result, Ok}
use Rattle.std.proofs.Common.{Err}
use Rattle.std.specs.Prelude.{Option, IsErr}
use Rattle.std.proofs.lemmas.Result.{MatchResult-from_err}
use Rattle.bittle_script.specs.Beginnings.{AppendsBeginning, HasBegun, Begins}
use Rattle.bittle_script.proofs.Beginnings.{begins-before, begun-before, begun-failed, begun-then}

-- the next part, put behind what waits, and the rest
part : (q left next rest : List ℕ) → left ≡ next ++ rest → (q ++ next) ++ rest ≡ q ++ left
part q left next rest is = append_assoc q next rest ∙ ap (λ l. q ++ l) (sym is)

-- a call that failed may have written just a beginning of the bytes
pub puts-failed : {T E : Type 0} (a b : Option (List ℕ)) (r : Result T E) (all left : List ℕ) →
    IsErr r → AppendsBeginning a b all → Begins a b r all left
puts-failed a b r all left failed h = MatchResult-from_err r (λ _. HasBegun a b all left)
    (λ _. AppendsBeginning a b all) failed (λ _. h)

-- the call failed at the first part
pub puts-failed_before : {T E : Type 0} (a b : Option (List ℕ)) (r : Result T E)
    (p bytes xs ys left : List ℕ) → bytes ≡ xs ++ ys → IsErr r → AppendsBeginning a b (p ++ xs) →
    Begins a b r (p ++ bytes) left
puts-failed_before a b r p bytes xs ys left is failed h = puts-failed a b r (p ++ bytes) left failed
    (subst (AppendsBeginning a b) (part p bytes xs ys is) (begins-before a b (p ++ xs) ys h))

-- the call put all the bytes that were left, or failed
pub put-rest : {T E : Type 0} (a b c : Option (List ℕ)) (r : Result T E) (all left rest : List ℕ) →
    HasBegun a b all left → Begins b c r left rest → Begins a c r all rest
put-rest a b c (Ok x) all left rest h k = begun-then a b c all left rest h k
put-rest a b c (Err e) all left rest h k = begun-failed a b c all left h k

-- once the first part was put, the second is left
pub put-first : (a b : Option (List ℕ)) (p q bytes xs ys : List ℕ) → bytes ≡ xs ++ ys →
    HasBegun a b (p ++ xs) q → HasBegun a b (p ++ bytes) (q ++ ys)
put-first a b p q bytes xs ys is h = subst (λ l. HasBegun a b l (q ++ ys)) (part p bytes xs ys is)
    (begun-before a b (p ++ xs) q ys h)

-- after the first part was put, the second was put, or failed after a beginning
pub puts-after : {T E : Type 0} (a b c : Option (List ℕ)) (r : Result T E)
    (p q s bytes xs ys : List ℕ) → bytes ≡ xs ++ ys → HasBegun a b (p ++ xs) q →
    Begins b c r (q ++ ys) s → Begins a c r (p ++ bytes) s
puts-after a b c r p q s bytes xs ys is h = put-rest a b c r (p ++ bytes) (q ++ ys) s
    (put-first a b p q bytes xs ys is h)

-- of all the bytes the next part was put, and the rest of them is left
pub put-more : (a b c : Option (List ℕ)) (p q s all left next rest : List ℕ) →
    HasBegun a b (p ++ all) (q ++ left) → left ≡ next ++ rest → HasBegun b c (q ++ next) s →
    HasBegun a c (p ++ all) (s ++ rest)
put-more a b c p q s all left next rest h is k = begun-then a b c (p ++ all) (q ++ left) (s ++ rest)
    h (put-first b c q s left next rest is k)

-- the call failed at the next part of all the bytes
pub put-more_failed : (a b c : Option (List ℕ)) (p q all left next rest : List ℕ) →
    HasBegun a b (p ++ all) (q ++ left) → left ≡ next ++ rest → AppendsBeginning b c (q ++ next) →
    AppendsBeginning a c (p ++ all)
put-more_failed a b c p q all left next rest h is k = begun-failed a b c (p ++ all) (q ++ left) h
    (subst (AppendsBeginning b c) (part q left next rest is)
    (begins-before b c (q ++ next) rest k))
