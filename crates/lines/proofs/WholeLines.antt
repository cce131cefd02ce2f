-- Lines that end with their only line feed, and the line that was begun behind them.
use Rattle.std.proofs.Common.{◌≡◌, ℕ, suc, zero, ◌+◌, ◌-◌, ◌<◌, ◌≤◌, ◌==◌, true, false, not, cond, List, [], ◌∷◌, ◌++◌, length, take, drop, slice_index, min, Some, None, refl, sym, ap, ◌∙◌, subst, arith, append_assoc, append-nil, length-append, length-take, drop_of_length-le}
use Rattle.std.specs.Prelude.{filter}
use Rattle.std.specs.List.{position, concat}
use Rattle.std.specs.Str.Lines.{strip_carriage_return}
use Rattle.std.proofs.Math.Seq.{take-length}
use Rattle.std.proofs.lemmas.Bool.{cond_both}
use Rattle.std.proofs.lemmas.Bool.Decides.{nat_tests}
use Rattle.std.proofs.lemmas.List.{take_at}
use Rattle.std.proofs.lemmas.List.Elements.{filter-append}
use Rattle.std.proofs.lemmas.List.Quantifiers.{position-Some}
use Rattle.std.proofs.lemmas.List.Sums.{fails_before_first}
use Rattle.lines.specs.Lines.{is_line_feed, raw_lines, has_line_feed, content, whole_lines, begun_line}
use Rattle.lines.specs.Reading.{IsWhole, AreWhole}
use Rattle.lines.proofs.RawLines.{feed, raw_lines-feed, raw_lines-last, content_length}

-- the place that a search found
pub feed_found : (bytes : List ℕ) (at : ℕ) → position is_line_feed bytes ≡ Some at → (feed bytes ≡ at) × (feed bytes < length bytes)
feed_found bytes at e = (grind (arith, nat_tests), grind (arith, nat_tests))

-- no place was found
pub feed_none : (bytes : List ℕ) → position is_line_feed bytes ≡ None → length bytes ≤ feed bytes
feed_none bytes e = grind (arith, nat_tests)

found_feed : (bytes : List ℕ) → feed bytes < length bytes → position is_line_feed bytes ≡ Some (feed bytes)
found_feed bytes within = grind (arith, nat_tests)

-- the first line feed of the first bytes
feed_take : (k : ℕ) (bytes : List ℕ) → feed (take k bytes) ≡ min k (feed bytes)
feed_take zero bytes = omega arith
feed_take (suc k) [] = omega arith
feed_take (suc k) (b ∷ rest) =
    let more = feed_take k rest in
    elim (is_line_feed b) as (λ t. cond (not t) (1 + feed (take k rest)) 0 ≡ min (suc k) (cond (not t) (1 + feed rest) 0)) [
      | true ↦ omega arith
      | false ↦ omega (arith, more)
    ]

-- the bytes up to the first line feed are a whole line
pub taken_whole : (bytes : List ℕ) (at : ℕ) → position is_line_feed bytes ≡ Some at → IsWhole (take (at + 1) bytes)
taken_whole bytes at found =
    let place = feed_found bytes at found in
    let long = length-take (at + 1) bytes in
    let first : feed (take (at + 1) bytes) ≡ length (take (at + 1) bytes) - 1 = omega (arith, feed_take (at + 1) bytes, place.0, place.1, long) in
    found_feed (take (at + 1) bytes) (omega (arith, feed_take (at + 1) bytes, place.0, place.1, long)) ∙ ap (λ i. Some i) first

-- a whole line has its line feed
pub whole_has : (line : List ℕ) → IsWhole line → has_line_feed line ≡ true
whole_has line whole = (position-Some is_line_feed line (length line - 1) 0 whole).1

-- bytes without a line feed have none
pub begun_lacks : (bytes : List ℕ) → 0 < length bytes → length bytes ≤ feed bytes → has_line_feed bytes ≡ false
begun_lacks bytes some none = fails_before_first is_line_feed bytes (length bytes - 1) 0 (omega arith)

-- a whole line is the first, whatever stands behind it
pub whole_first : (line more : List ℕ) → IsWhole line → raw_lines (line ++ more) ≡ line ∷ raw_lines more
whole_first line more whole =
    let place = feed_found line (length line - 1) whole in
    let end : feed line + 1 ≡ length line = omega (arith, place.0, place.1) in
    raw_lines-feed line more place.1 ∙ ap (λ (k : ℕ). take k line ∷ raw_lines (drop k line ++ more)) end
    ∙ ap (λ (l : List ℕ). l ∷ raw_lines (drop (length line) line ++ more)) (take-length line)
    ∙ ap (λ (l : List ℕ). line ∷ raw_lines (l ++ more)) (drop_of_length-le line {i = length line} (omega arith))

-- whole lines, and one more
pub AreWhole-push : (lines : List (List ℕ)) (line : List ℕ) → AreWhole lines → IsWhole line → AreWhole (lines ++ line ∷ [])
AreWhole-push [] line all one = (one, tt)
AreWhole-push (first ∷ lines) line all one = (all.0, AreWhole-push lines line all.1 one)

pub AreWhole-both : (lines more : List (List ℕ)) → AreWhole lines → AreWhole more → AreWhole (lines ++ more)
AreWhole-both [] more all others = others
AreWhole-both (first ∷ lines) more all others = (all.0, AreWhole-both lines more all.1 others)

-- whole lines are the first, whatever stands behind them
pub whole_firsts : (lines : List (List ℕ)) (more : List ℕ) → AreWhole lines → raw_lines (concat lines ++ more) ≡ lines ++ raw_lines more
whole_firsts [] more all = refl
whole_firsts (line ∷ lines) more all =
    ap raw_lines (append_assoc line (concat lines) more) ∙ whole_first line (concat lines ++ more) all.0
    ∙ ap (λ (l : List (List ℕ)). line ∷ l) (whole_firsts lines more all.1)

all_kept : (lines : List (List ℕ)) → AreWhole lines → filter has_line_feed lines ≡ lines
all_kept [] all = refl
all_kept (line ∷ lines) all = rw (whole_has line all.0) (ap (λ (l : List (List ℕ)). line ∷ l) (all_kept lines all.1))

none_kept : (lines : List (List ℕ)) → AreWhole lines → filter (λ line. not (has_line_feed line)) lines ≡ []
none_kept [] all = refl
none_kept (line ∷ lines) all = rw (whole_has line all.0) (none_kept lines all.1)

-- bytes without a line feed are a line that was begun, where there are any
begun_alone : (bytes : List ℕ) → length bytes ≤ feed bytes → (whole_lines bytes ≡ []) × (begun_line bytes ≡ bytes)
begun_alone [] none = (refl, refl)
begun_alone (b ∷ rest) none =
    let one = raw_lines-last (b ∷ rest) (omega arith) none in
    let lacks = begun_lacks (b ∷ rest) (omega arith) none in (
      ap (filter has_line_feed) one ∙ rw lacks refl,
      ap (λ (l : List (List ℕ)). concat (filter (λ line. not (has_line_feed line)) l)) one ∙ rw lacks (append-nil (b ∷ rest)),
    )

-- whole lines, and then bytes without a line feed
pub lines_of : (lines : List (List ℕ)) (bytes : List ℕ) → AreWhole lines → position is_line_feed bytes ≡ None
    → (whole_lines (concat lines ++ bytes) ≡ lines) × (begun_line (concat lines ++ bytes) ≡ bytes)
lines_of lines bytes all none =
    let split = whole_firsts lines bytes all in
    let alone = begun_alone bytes (feed_none bytes none) in (
      ap (filter has_line_feed) split ∙ filter-append has_line_feed lines (raw_lines bytes)
          ∙ ap (λ (l : List (List ℕ)). l ++ whole_lines bytes) (all_kept lines all)
          ∙ ap (λ (l : List (List ℕ)). lines ++ l) alone.0 ∙ append-nil lines,
      ap (λ (l : List (List ℕ)). concat (filter (λ line. not (has_line_feed line)) l)) split
          ∙ ap concat (filter-append (λ line. not (has_line_feed line)) lines (raw_lines bytes))
          ∙ ap (λ (l : List (List ℕ)). concat (l ++ filter (λ line. not (has_line_feed line)) (raw_lines bytes))) (none_kept lines all)
          ∙ alone.1,
    )

-- a carriage return is one byte
shorter : (l : List ℕ) → length (strip_carriage_return l) ≤ length l
shorter l =
    cond_both (slice_index l (length l - 1) == 13) (take (length l - 1) l) l (λ (x : List ℕ). length x ≤ length l)
    (λ e. omega (arith, length-take (length l - 1) l)) (λ e. omega arith)

-- a line has at least the bytes that were begun, a carriage return at their end not counted
pub begun_within : (front more : List ℕ) → 0 < length front → length front ≤ feed front
    → length (strip_carriage_return front) ≤ length (content (front ++ more))
begun_within front [] some none = rw (append-nil front, begun_lacks front some none) (shorter front)
begun_within front (b ∷ []) some none =
    let line : List ℕ = front ++ b ∷ [] in
    let place : length line - 1 ≡ length front = omega (arith, length-append front (b ∷ [])) in
    let same : take (length line - 1) line ≡ front = ap (λ (k : ℕ). take k line) place ∙ take_at front (b ∷ []) (length front) refl in
    cond_both (has_line_feed line) (strip_carriage_return (take (length line - 1) line)) line
    (λ (x : List ℕ). length (strip_carriage_return front) ≤ length x)
    (λ e. subst (λ (l : List ℕ). length (strip_carriage_return front) ≤ length (strip_carriage_return l)) (sym same) (omega arith))
    (λ e. omega (arith, shorter front, length-append front (b ∷ [])))
begun_within front (b ∷ c ∷ more) some none =
    omega (arith, shorter front, content_length (front ++ b ∷ c ∷ more), length-append front (b ∷ c ∷ more))
