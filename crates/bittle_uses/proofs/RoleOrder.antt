-- What the order of two roles says of what they grant.
use Rattle.std.proofs.Common.{◌≡◌, ℕ, ◌≤◌, true, false, IsTrue, ◌↔◌, List, Result, Ok, Err}
use Rattle.std.proofs.Common.{MatchOption, inl, inr, refl, sym, ap, ◌∙◌, arith}
use Rattle.std.proofs.lemmas.Bool.{le-ltb, cases_lt, true≢false}
use Rattle.std.proofs.lemmas.List.Sorted.{searchable_from_sorted}
use Rattle.std.specs.Cmp.Lexicographic.{nat_list_cmp_total}
use Rattle.std.specs.List.Sorted.{IsSortedBy, IsBinarySearchResult}
use Rattle.std.specs.List.{All, HoldsAt}
use Rattle.std.specs.Ordering.{is_eq, is_lt}
use Rattle.std.specs.Prelude.{slice_index_or}
use Rattle.std.specs.Result.{result_ok}
use Rattle.std.specs.declared.cmp.Ordering.TheVariants.{Less, Greater}
use Rattle.std.specs.declared.cmp.Ordering.{Ordering}
use Rattle.bittle.specs.BitPatterns.{bit_has, bit_set}
use Rattle.bittle.specs.Comparison.{list_cmp, AreSame}
use Rattle.bittle.specs.PlainSet.{ascending}
use Rattle.bittle.proofs.CallerLists.{equal_iff_same_members}

none_past : (role i : ℕ) → 32 ≤ i → bit_has 32 role i ≡ false
unfolding bit_has
none_past role i h = rw (le-ltb i 32 h)

-- the order finds two roles equal exactly if they grant the same permissions
pub equal_iff_granted : (m n : ℕ) → IsTrue
    (is_eq (list_cmp (ascending (bit_set 32 m)) (ascending (bit_set 32 n))))
    ↔ AreSame (bit_set 32 m) (bit_set 32 n)
equal_iff_granted m n = equal_iff_same_members (bit_set 32 m) (bit_set 32 n) (none_past m)
    (none_past n)

-- a search of a sorted table, whose roles are read by `bits`
module _ {X : Type 0} (bits : X → ℕ) (wanted : ℕ) where
  abbrev order : X → Ordering
  order x = list_cmp (ascending (bit_set 32 (bits x))) (ascending (bit_set 32 wanted))

  abbrev GrantsJust : X → Type 0
  GrantsJust x = AreSame (bit_set 32 (bits x)) (bit_set 32 wanted)

  not_equal : (x : X) (o : Ordering) → order x ≡ o → is_eq o ≡ false → GrantsJust x → ⊥
  not_equal x o e f same =
      let t : is_eq (order x) ≡ true = (equal_iff_granted (bits x) wanted).1 same in
      true≢false (sym t ∙ ap is_eq e ∙ f)

  -- the search returns a place whose role grants just what is wanted, or None if no role does
  pub search_found : (xs : List X) (r : Result ℕ ℕ) →
      IsSortedBy (λ a b. is_lt (list_cmp (ascending (bit_set 32 (bits a)))
      (ascending (bit_set 32 (bits b))))) xs → IsBinarySearchResult order xs r →
      MatchOption (result_ok r) (All (λ x. GrantsJust x → ⊥) xs)
      (λ place. HoldsAt GrantsJust xs place)
  search_found xs (Ok i) sorted h = λ d. (equal_iff_granted (bits (slice_index_or xs i d)) wanted).0
      (ap is_eq (h d))
  search_found xs (Err i) sorted h =
      let between = h (searchable_from_sorted nat_list_cmp_total
      (λ x. ascending (bit_set 32 (bits x))) xs (ascending (bit_set 32 wanted)) sorted) in
      λ k d l. elim (cases_lt k i) [
        | inl a ↦ not_equal (slice_index_or xs k d) Less (between.0 k d (omega arith) a) refl
        | inr b ↦ not_equal (slice_index_or xs k d) Greater (between.1 k d b l) refl
      ]
