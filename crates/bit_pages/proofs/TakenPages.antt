-- The map after a page is taken or given back.
use Rattle.std.proofs.Common.{◌≡◌, ◌≢◌, ℕ, ◌+◌, ◌<◌, true, false, not, ◌&&◌, ◌||◌, ◌==◌, nat_lt}
use Rattle.std.proofs.Common.{Option, Some, None, refl, sym, ap, ◌∙◌}
use Rattle.std.specs.Prelude.{MatchOption}
use Rattle.std.proofs.lemmas.Bool.{eq-eqb, ne_eqb, lt-ltb, and_right}
use Rattle.bittle.specs.PlainSet.{PlainSet, with_index, without_index, size}
use Rattle.bittle.proofs.CallerChanges.{size_with, size_without}
use Rattle.bittle.proofs.CallerSets.{with_index_within, without_index_within}
use Rattle.bit_pages.specs.PageLaws.{IsLeastFree}
use Rattle.bit_pages.specs.Pages.{is_taken, least_free, with_page}
use Rattle.bit_pages.proofs.LeastFree.{least_free-is, taken-within, taken-member}

-- the page that was found is the least free one
pub found_is_least : (s : PlainSet) (page : ℕ) → least_free s ≡ Some page → IsLeastFree s page
found_is_least s page = by (least_free s) (least_free-is s)
  where
    by : (o : Option ℕ) → MatchOption o ((k : ℕ) → k < s.capacity → s.has k ≡ true)
        (IsLeastFree s) → o ≡ Some page → IsLeastFree s page
    by None all e = absurd (cc)
    by (Some q) least e = let same : q ≡ page = cc in rw same at least

-- the map after a free page was taken
module _ (s t : PlainSet) (page : ℕ) (within : page < s.capacity) (free : s.has page ≡ false)
    (after : t ≡ with_index s page) where
  pub was_free : is_taken s page ≡ false
  was_free = ap (λ b. nat_lt page s.capacity && b) free
      ∙ and_right (nat_lt page s.capacity) false refl

  pub with_it : t ≡ with_page s page
  with_it = after ∙ with_index_within s page within

  pub is_now_taken : is_taken t page ≡ true
  is_now_taken = ap (λ u. is_taken u page) with_it
      ∙ ap (λ b. b && ((page == page) || s.has page)) (lt-ltb page s.capacity within)
      ∙ ap (λ b. b || s.has page) (eq-eqb page page refl)

  -- another page stays as it was
  pub others_same : (k : ℕ) → k ≢ page → is_taken t k ≡ is_taken s k
  others_same k apart = ap (λ u. is_taken u k) with_it
      ∙ ap (λ b. nat_lt k s.capacity && (b || s.has k)) (ne_eqb k page apart)

  pub one_more : size t ≡ size s + 1
  one_more = ap size after ∙ size_with s page within free

-- the map after a taken page was given back
module _ (s t : PlainSet) (page : ℕ) (taken : is_taken s page ≡ true)
    (after : t ≡ without_index s page) where
  pub is_now_free : is_taken t page ≡ false
  is_now_free = ap (λ u. is_taken u page)
      (after ∙ without_index_within s page (taken-within s page taken))
      ∙ ap (λ b. nat_lt page s.capacity && (not b && s.has page)) (eq-eqb page page refl)
      ∙ and_right (nat_lt page s.capacity) false refl

  -- another page stays as it was
  pub others_stay : (k : ℕ) → k ≢ page → is_taken t k ≡ is_taken s k
  others_stay k apart =
      ap (λ u. is_taken u k) (after ∙ without_index_within s page (taken-within s page taken))
      ∙ ap (λ b. nat_lt k s.capacity && (not b && s.has k)) (ne_eqb k page apart)

  pub one_less : size s ≡ size t + 1
  one_less = size_without s page (taken-within s page taken) (taken-member s page taken)
      ∙ sym (ap (λ u. size u + 1) after)
