-- How an input splits into lines, by its first line feed.
use Rattle.std.proofs.Common.{◌≡◌, ℕ, suc, ◌+◌, ◌-◌, ◌<◌, ◌≤◌, ◌==◌, true, false, not, cond, List, [], ◌∷◌, ◌++◌, length, take, drop, slice_index, refl, ap, ◌∙◌, arith, length-take}
use Rattle.std.specs.List.{position_or_len, onto_first, concat}
use Rattle.std.specs.Str.Lines.{strip_carriage_return}
use Rattle.std.proofs.lemmas.Bool.{cond_both}
use Rattle.lines.specs.Lines.{is_line_feed, raw_lines, content}

-- the place of the first line feed, or the length
abbrev pub feed : List ℕ → ℕ
feed bytes = position_or_len is_line_feed bytes

-- the first line ends behind the first line feed
pub raw_lines-feed : (bytes more : List ℕ) → feed bytes < length bytes
    → raw_lines (bytes ++ more) ≡ take (feed bytes + 1) bytes ∷ raw_lines (drop (feed bytes + 1) bytes ++ more)
raw_lines-feed [] more within = absurd (omega arith)
raw_lines-feed (b ∷ rest) more within =
    (elim (is_line_feed b) as (λ t. cond (not t) (1 + feed rest) 0 < suc (length rest)
    → cond t ((b ∷ []) ∷ raw_lines (rest ++ more)) (onto_first b (raw_lines (rest ++ more)))
    ≡ take (cond (not t) (1 + feed rest) 0 + 1) (b ∷ rest) ∷ raw_lines (drop (cond (not t) (1 + feed rest) 0 + 1) (b ∷ rest) ++ more)) [
      | true ↦ λ h. refl
      | false ↦ λ h.
          let next : (1 + feed rest) + 1 ≡ suc (feed rest + 1) = omega arith in
          rw (next, raw_lines-feed rest more (omega arith)) refl
    ]) within

-- where there is no line feed there is one line
pub raw_lines-last : (bytes : List ℕ) → 0 < length bytes → length bytes ≤ feed bytes → raw_lines bytes ≡ bytes ∷ []
raw_lines-last [] some none = absurd (omega arith)
raw_lines-last (b ∷ []) some none =
    (elim (is_line_feed b) as (λ t. 1 ≤ cond (not t) (1 + 0) 0 → cond t ((b ∷ []) ∷ []) ((b ∷ []) ∷ []) ≡ (b ∷ []) ∷ []) [
      | true ↦ λ h. refl
      | false ↦ λ h. refl
    ]) none
raw_lines-last (b ∷ c ∷ rest) some none =
    (elim (is_line_feed b) as (λ t. suc (suc (length rest)) ≤ cond (not t) (1 + feed (c ∷ rest)) 0
    → cond t ((b ∷ []) ∷ raw_lines (c ∷ rest)) (onto_first b (raw_lines (c ∷ rest))) ≡ (b ∷ c ∷ rest) ∷ []) [
      | true ↦ λ h. absurd (omega arith)
      | false ↦ λ h. let one = raw_lines-last (c ∷ rest) (omega arith) (omega arith) in ap (onto_first b) one
    ]) none

-- the first line begins with these bytes
abbrev pub Begins : List ℕ → List (List ℕ) → Type 0
Begins front lines = (more : List ℕ) × (rest : List (List ℕ)) × (lines ≡ (front ++ more) ∷ rest)

-- a byte before a line
onto_line : (b : ℕ) (front : List ℕ) (lines : List (List ℕ)) → Begins front lines → Begins (b ∷ front) (onto_first b lines)
onto_line b front lines (more, rest, e) = (more, rest, ap (onto_first b) e)

onto_any : (b : ℕ) (lines : List (List ℕ)) → Begins (b ∷ []) (onto_first b lines)
onto_any b [] = ([], [], refl)
onto_any b (line ∷ rest) = (line, rest, refl)

-- a front without a line feed belongs to the first line
pub begins : (front more : List ℕ) → 0 < length front → length front ≤ feed front → Begins front (raw_lines (front ++ more))
begins [] more some none = absurd (omega arith)
begins (b ∷ []) more some none =
    (elim (is_line_feed b) as (λ t. 1 ≤ cond (not t) (1 + 0) 0
    → Begins (b ∷ []) (cond t ((b ∷ []) ∷ raw_lines more) (onto_first b (raw_lines more)))) [
      | true ↦ λ h. absurd (omega arith)
      | false ↦ λ h. onto_any b (raw_lines more)
    ]) none
begins (b ∷ c ∷ front) more some none =
    (elim (is_line_feed b) as (λ t. suc (suc (length front)) ≤ cond (not t) (1 + feed (c ∷ front)) 0
    → Begins (b ∷ c ∷ front) (cond t ((b ∷ []) ∷ raw_lines ((c ∷ front) ++ more)) (onto_first b (raw_lines ((c ∷ front) ++ more))))) [
      | true ↦ λ h. absurd (omega arith)
      | false ↦ λ h. onto_line b (c ∷ front) (raw_lines ((c ∷ front) ++ more)) (begins (c ∷ front) more (omega arith) (omega arith))
    ]) none

-- at most two bytes of a line are not its content
pub stripped : (l : List ℕ) → length l ≤ length (strip_carriage_return l) + 1
stripped l =
    cond_both (slice_index l (length l - 1) == 13) (take (length l - 1) l) l (λ (x : List ℕ). length l ≤ length x + 1)
    (λ e. omega (arith, length-take (length l - 1) l)) (λ e. omega arith)

pub content_length : (line : List ℕ) → length line ≤ length (content line) + 2
content_length line =
    cond_both (is_line_feed (slice_index line (length line - 1))) (strip_carriage_return (take (length line - 1) line)) line
    (λ (x : List ℕ). length line ≤ length x + 2)
    (λ e. omega (arith, stripped (take (length line - 1) line), length-take (length line - 1) line)) (λ e. omega arith)

-- the lines in a row are the input
pub concat-raw_lines : (bytes : List ℕ) → concat (raw_lines bytes) ≡ bytes
concat-raw_lines [] = refl
concat-raw_lines (b ∷ rest) =
    cond_both (is_line_feed b) ((b ∷ []) ∷ raw_lines rest) (onto_first b (raw_lines rest)) (λ (x : List (List ℕ)). concat x ≡ b ∷ rest)
    (λ e. ap (λ l. b ∷ l) (concat-raw_lines rest)) (λ e. concat-onto_first b (raw_lines rest) ∙ ap (λ l. b ∷ l) (concat-raw_lines rest))
  where
    concat-onto_first : (b : ℕ) (lines : List (List ℕ)) → concat (onto_first b lines) ≡ b ∷ concat lines
    concat-onto_first b [] = refl
    concat-onto_first b (line ∷ rest) = refl
