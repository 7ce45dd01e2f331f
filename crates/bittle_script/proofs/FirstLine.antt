-- The first line of a text.
use Rattle.std.proofs.Common.{◌≡◌, ℕ, suc, ◌+◌, ◌<◌, ◌≤◌, Bool, List, [], ◌∷◌, length, take, drop}
use Rattle.std.proofs.Common.{refl, arith, true, false, Some, None, ap, ◌∙◌, sym, map, cond}
use Rattle.std.proofs.Common.{take_all, drop_of_length-le}
use borrow.Author.Tests.{ltb-false}
use Rattle.std.specs.Prelude.{◌==◌, not, position, if◌then◌else◌, nat_lt}
use Rattle.std.specs.List.{position_or_len}
use Rattle.bittle_script.specs.Texts.{lines_of, onto_first, without_return, script_lines}

-- the place of the first byte 10, or the length if there is none
abbrev pub end_of_line : List ℕ → ℕ
end_of_line text = position_or_len (λ b. b == 10) text

shift : (n b : ℕ) (bytes : List ℕ) → (b ∷ take n bytes) ∷ lines_of (drop (n + 1) bytes)
    ≡ take (1 + n) (b ∷ bytes) ∷ lines_of (drop (1 + n + 1) (b ∷ bytes))
shift n b bytes =
    let e : 1 + n ≡ suc n = omega arith in
    let f : 1 + n + 1 ≡ suc (n + 1) = omega arith in
    sym (ap (λ m. take m (b ∷ bytes) ∷ lines_of (drop (1 + n + 1) (b ∷ bytes))) e
    ∙ ap (λ m. take (suc n) (b ∷ bytes) ∷ lines_of (drop m (b ∷ bytes))) f)

by_first_byte : (t : Bool) (b : ℕ) (bytes : List ℕ) →
    (0 < length bytes → lines_of bytes ≡ take (end_of_line bytes) bytes ∷ lines_of
    (drop (end_of_line bytes + 1) bytes))
    → (if t then [] ∷ lines_of bytes else onto_first b (lines_of bytes))
    ≡ take (cond (not t) (1 + end_of_line bytes) 0) (b ∷ bytes) ∷ lines_of
    (drop (cond (not t) (1 + end_of_line bytes) 0 + 1) (b ∷ bytes))
by_first_byte true b bytes h = refl
by_first_byte false b [] h = refl
by_first_byte false b (d ∷ ds) h = ap (onto_first b) (h (omega arith))
    ∙ shift (end_of_line (d ∷ ds)) b (d ∷ ds)

-- the lines of a text are the bytes up to the first byte 10, and then the lines of the text after
-- it
pub lines_by_first : (text : List ℕ) → 0 < length text →
    lines_of text ≡ take (end_of_line text) text ∷ lines_of (drop (end_of_line text + 1) text)
lines_by_first [] some = absurd (omega arith)
lines_by_first (b ∷ bytes) some = by_first_byte (b == 10) b bytes (lines_by_first bytes)

place_by_test : (t : Bool) (n k : ℕ) → cond t (Some n) None ≡ Some k → n ≡ k
place_by_test true n k e = cc
place_by_test false n k e = absurd (cc e)

none_by_test : (t : Bool) (n : ℕ) → cond t (Some n) None ≡ None → t ≡ false
none_by_test true n e = absurd (cc e)
none_by_test false n e = refl

-- a text with a byte 10 has the line before it first, and the lines of what follows it
pub first_script_line : (text : List ℕ) (k : ℕ) → 0 < length text →
    position (λ b. b == 10) text ≡ Some k
    → script_lines text ≡ without_return (take k text) ∷ script_lines (drop (k + 1) text)
first_script_line text k some e =
    let here : end_of_line text ≡ k = place_by_test (nat_lt (end_of_line text) (length text))
    (end_of_line text) k e in
    ap (map without_return) (lines_by_first text some)
    ∙ ap (λ n. without_return (take n text) ∷ script_lines (drop (n + 1) text)) here

-- a text with no byte 10 is one line
pub only_script_line : (text : List ℕ) → 0 < length text → position (λ b. b == 10) text ≡ None →
    script_lines text ≡ without_return text ∷ []
only_script_line text some e =
    let n = end_of_line text in
    let past : length text ≤ n = ltb-false n (length text)
    (none_by_test (nat_lt n (length text)) n e) in
    ap (map without_return) (lines_by_first text some)
    ∙ ap (λ l. without_return l ∷ script_lines (drop (n + 1) text)) (take_all n text past)
    ∙ ap (λ l. without_return text ∷ script_lines l) (drop_of_length-le text (omega arith))
