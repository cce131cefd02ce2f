-- The search for a line feed goes on behind bytes that have none.
use Rattle.std.proofs.Common.{◌≡◌, ℕ, suc, ◌+◌, ◌<◌, ◌≤◌, true, false, not, cond, List, [], ◌∷◌, ◌++◌, length, take, drop, Some, None, sym, ap, ◌∙◌, arith}
use Rattle.std.specs.List.{position}
use Rattle.std.specs.Option.{option_map}
use Rattle.std.proofs.lemmas.List.{take-append-drop, length-append, length-take}
use Rattle.std.proofs.lemmas.Bool.Decides.{nat_tests}
use Rattle.lines.specs.Lines.{is_line_feed}
use Rattle.lines.proofs.RawLines.{feed}
use Rattle.lines.proofs.WholeLines.{feed_found, feed_none}

-- the place of the first line feed behind bytes that have none
feed_behind : (front back : List ℕ) → length front ≤ feed front → feed (front ++ back) ≡ length front + feed back
feed_behind [] back none = omega arith
feed_behind (b ∷ rest) back none =
    (elim (is_line_feed b) as (λ t. suc (length rest) ≤ cond (not t) (1 + feed rest) 0
    → cond (not t) (1 + feed (rest ++ back)) 0 ≡ suc (length rest) + feed back) [
      | true ↦ λ h. absurd (omega (arith, h))
      | false ↦ λ h. let more = feed_behind rest back (omega (arith, h)) in omega (arith, more)
    ]) none

-- the search behind bytes that have no line feed finds the first of all
position_behind : (front back : List ℕ) → position is_line_feed front ≡ None
    → position is_line_feed (front ++ back) ≡ option_map (λ at. length front + at) (position is_line_feed back)
position_behind front back none =
    let places = feed_behind front back (feed_none front none) in
    let long = length-append front back in
    grind (arith, nat_tests)

-- the same of a list, of which so many bytes have none
pub position_from : (bytes : List ℕ) (scanned : ℕ) → scanned ≤ length bytes → position is_line_feed (take scanned bytes) ≡ None
    → position is_line_feed bytes ≡ option_map (λ at. scanned + at) (position is_line_feed (drop scanned bytes))
position_from bytes scanned within none =
    ap (position is_line_feed) (sym (take-append-drop scanned bytes))
    ∙ position_behind (take scanned bytes) (drop scanned bytes) none
    ∙ ap (λ (n : ℕ). option_map (λ at. n + at) (position is_line_feed (drop scanned bytes))) (omega (arith, length-take scanned bytes))

-- a place that is found is one of the bytes
pub position_within : (bytes : List ℕ) (at : ℕ) → position is_line_feed bytes ≡ Some at → at < length bytes
position_within bytes at found = let place = feed_found bytes at found in omega (arith, place.0, place.1)
