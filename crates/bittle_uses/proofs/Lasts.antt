-- Invariants of loops that keep the last item, or its entry of a row.
use Rattle.std.proofs.Common.{◌≡◌, ℕ, suc, List, [], ◌∷◌, ◌++◌, map, Option, Some, refl, sym, subst}
use Rattle.std.proofs.Common.{arith}
use Rattle.std.proofs.lemmas.Iterator.{YieldsList}
use Rattle.std.specs.Iterator.{AlwaysYields, Yields}
use Rattle.std.specs.List.{All, last_or}
use Rattle.std.specs.Prelude.{slice_index}

-- the last item that is left, or the held item if none is left, is the last of all items, or 0 if
-- there are no items
abbrev pub KeepsLast : ℕ → List ℕ → List ℕ → Type 0
KeepsLast held left all = last_or (Some held) left ≡ last_or (Some 0) all

-- `KeepsLast` for the entries of a row at the items
abbrev pub KeepsLastEntry : List ℕ → ℕ → List ℕ → List ℕ → Type 0
KeepsLastEntry row held left all =
    KeepsLast held (map (λ i. slice_index row i) left) (map (λ i. slice_index row i) all)

-- an item that is put at the end is the last
pub last_pushed : (f : ℕ → ℕ) (o : Option ℕ) (xs : List ℕ) (x : ℕ) →
    last_or o (map f (xs ++ x ∷ [])) ≡ Some (f x)
last_pushed f o [] x = refl
last_pushed f o (y ∷ ys) x = last_pushed f (Some (f y)) ys x

-- what holds of each item of a list holds of an item that an iterator over the list yields
yielded_all : {S A B : Type 0} (steps : S → Option A → S → Type 0) (v : A → B)
    (P : B → Type 0) (ys : List B) (s t u : S) (xs : List A) (x : A) → AlwaysYields steps v s ys →
    All P ys → Yields steps s xs t → steps t (Some x) u → P (v x)
yielded_all steps v P [] s t u [] x gives all run step =
    absurd (gives x u (subst (λ q. steps q (Some x) u) (sym run) step))
yielded_all steps v P [] s t u (z ∷ xs) x gives all run step = absurd (gives z run.0 run.1)
yielded_all steps v P (y ∷ ys) s t u [] x gives all run step =
    subst P (sym (gives.1 x u (subst (λ q. steps q (Some x) u) (sym run) step)).0)
    (all 0 y (omega arith))
yielded_all steps v P (y ∷ ys) s t u (z ∷ xs) x gives all run step =
    yielded_all steps v P ys run.0 t u xs x (gives.1 z run.0 run.1).1
    (λ k d h. all (suc k) d (omega (arith, h))) run.2 step

pub yielded_each : {S A B : Type 0} {steps : S → Option A → S → Type 0} {v : A → B}
    (P : B → Type 0) (ys : List B) {s t u : S} (xs : List A) (x : A) → YieldsList steps v s ys →
    All P ys → Yields steps s xs t → steps t (Some x) u → P (v x)
yielded_each {steps = steps} {v = v} P ys {s = s} {t = t} {u = u} xs x road all run step =
    yielded_all steps v P ys s t u xs x road.runs all run step
