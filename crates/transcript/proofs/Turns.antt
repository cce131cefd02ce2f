-- What the next line of a text makes of what was said so far.
use Rattle.std.proofs.Common.{◌≡◌, ℕ, ◌+◌, ◌<◌, ◌≤◌, Bool, true, false, nat_lt, List, [], ◌∷◌, length, map, Option, Some, None, IfSome, refl, ap, ◌∙◌, subst, arith}
use Rattle.std.specs.Io.KnownBytes.{IsAtEnd}
use Rattle.std.proofs.lemmas.Bool.Decides.{nat_tests}
use Rattle.lines.specs.Lines.{raw_lines, content}
use Rattle.lines.specs.Reading.{Says, Passes, BeginsLong}
use Rattle.lines.specs.declared.reader.NextLine.{NextLine}
use Rattle.lines.specs.declared.reader.NextLine.TheVariants.{Whole, Last, Long, Ended}
use Rattle.transcript.specs.declared.claims.Counts.{Counts}
use Rattle.transcript.specs.declared.claims.Entry.{Entry}
use Rattle.transcript.specs.declared.readings.Text.{Text}
use Rattle.transcript.specs.declared.readings.Text.TheVariants.{BadLine, TooManyLines}
use Rattle.transcript.specs.Said.{Transcribed}
use Rattle.transcript.specs.Forms.{entry_of, most_line_bytes}
use Rattle.transcript.specs.Transcripts.{after_line, nothing_said, text_behind, text_at_line, text_at_end, IsTextBehind, IsTextOf, EndsWhole, most_lines}

within : (n : ℕ) → n < most_lines → nat_lt n most_lines ≡ true
within n h = grind (arith, nat_tests)

-- the texts of a line and of those behind it
pub one_line : (n : ℕ) (old : Transcribed) (line : List ℕ) (contents : List (List ℕ)) (after : Option Transcribed) → n < most_lines
    → after_line old (entry_of line) ≡ after
    → text_behind n old (line ∷ contents) ≡ text_at_line n true after (λ next. text_behind (n + 1) next contents)
unfolding text_behind
one_line n old line contents after h is =
    ap (λ (b : Bool). text_at_line n b (after_line old (entry_of line)) (λ next. text_behind (n + 1) next contents)) (within n h)
    ∙ ap (λ (o : Option Transcribed). text_at_line n true o (λ next. text_behind (n + 1) next contents)) is

no_line : (n : ℕ) (said : Transcribed) → text_behind n said [] ≡ text_at_end n said said.counts
unfolding text_behind
no_line n said = refl

-- a line that leads on
pub leads_on : (n : ℕ) (old new : Transcribed) (line : List ℕ) (left rest : Option (List ℕ)) → n < most_lines → Passes left rest (line ∷ [])
    → after_line old (entry_of (content line)) ≡ Some new → (text : Text) → IsTextBehind (n + 1) new rest text → IsTextBehind n old left text
leads_on n old new line None rest h passes is text behind = tt
leads_on n old new line (Some left) None h passes is text behind = absurd passes
leads_on n old new line (Some left) (Some rest) h passes is text behind =
    ap (λ (l : List (List ℕ)). text_behind n old (map content l)) passes ∙ one_line n old (content line) (map content (raw_lines rest)) (Some new) h is
    ∙ behind

-- a line that leads on, the last
pub leads_last : (n : ℕ) (old new : Transcribed) (line : List ℕ) (left rest : Option (List ℕ)) → n < most_lines → Passes left rest (line ∷ [])
    → IsAtEnd rest → after_line old (entry_of (content line)) ≡ Some new → IsTextBehind n old left (text_at_end (n + 1) new new.counts)
leads_last n old new line left None h passes end is = leads_on n old new line left None h passes is (text_at_end (n + 1) new new.counts) tt
leads_last n old new line left (Some rest) h passes end is =
    leads_on n old new line left (Some rest) h passes is (text_at_end (n + 1) new new.counts)
    (ap (λ (bytes : List ℕ). text_behind (n + 1) new (map content (raw_lines bytes))) end ∙ no_line (n + 1) new)

-- a line that is not in its place
pub leads_nowhere : (n : ℕ) (old : Transcribed) (line : List ℕ) (left rest : Option (List ℕ)) → n < most_lines → Passes left rest (line ∷ [])
    → after_line old (entry_of (content line)) ≡ None → IsTextBehind n old left (BadLine (n + 1))
leads_nowhere n old line None rest h passes is = tt
leads_nowhere n old line (Some left) None h passes is = absurd passes
leads_nowhere n old line (Some left) (Some rest) h passes is =
    ap (λ (l : List (List ℕ)). text_behind n old (map content l)) passes ∙ one_line n old (content line) (map content (raw_lines rest)) None h is

too_long : (line : List ℕ) → most_line_bytes < length line → entry_of line ≡ None
unfolding entry_of
too_long line h = grind (arith, nat_tests)

-- a line that is too long
pub long_line : (n : ℕ) (old : Transcribed) (left : Option (List ℕ)) → n < most_lines → IfSome left (BeginsLong most_line_bytes)
    → IsTextBehind n old left (BadLine (n + 1))
long_line n old None h long = tt
long_line n old (Some left) h long =
    ap (λ (ls : List (List ℕ)). text_behind n old (map content ls)) long.2
    ∙ one_line n old (content long.0) (map content long.1) None h (ap (λ (e : Option Entry). after_line old e) (too_long (content long.0) long.3))

-- no line is left
pub none_left : (n : ℕ) (said : Transcribed) (left : Option (List ℕ)) → IsAtEnd left → IsTextBehind n said left (text_at_end n said said.counts)
none_left n said None end = tt
none_left n said (Some left) end = ap (λ (bytes : List ℕ). text_behind n said (map content (raw_lines bytes))) end ∙ no_line n said

beyond : (n : ℕ) → most_lines ≤ n → nat_lt n most_lines ≡ false
beyond n h = grind (arith, nat_tests)

-- a line too many
many : (n : ℕ) (said : Transcribed) (line : List ℕ) (contents : List (List ℕ)) → most_lines ≤ n → text_behind n said (line ∷ contents) ≡ TooManyLines
unfolding text_behind
many n said line contents h =
    ap (λ (b : Bool). text_at_line n b (after_line said (entry_of line)) (λ next. text_behind (n + 1) next contents)) (beyond n h)

pub many_passed : (n : ℕ) (said : Transcribed) (line : List ℕ) (left rest : Option (List ℕ)) → most_lines ≤ n → Passes left rest (line ∷ [])
    → IsTextBehind n said left TooManyLines
many_passed n said line None rest h passes = tt
many_passed n said line (Some left) None h passes = absurd passes
many_passed n said line (Some left) (Some rest) h passes =
    ap (λ (l : List (List ℕ)). text_behind n said (map content l)) passes ∙ many n said (content line) (map content (raw_lines rest)) h

pub many_long : (n : ℕ) (said : Transcribed) (left : Option (List ℕ)) → most_lines ≤ n → IfSome left (BeginsLong most_line_bytes)
    → IsTextBehind n said left TooManyLines
many_long n said None h long = tt
many_long n said (Some left) h long =
    ap (λ (ls : List (List ℕ)). text_behind n said (map content ls)) long.2 ∙ many n said (content long.0) (map content long.1) h

-- before the first line
pub from_start : (left : Option (List ℕ)) (text : Text) → IsTextBehind 0 nothing_said left text → IsTextOf left text
from_start None text h = tt
from_start (Some bytes) text h = h

-- whatever comes next, once there are as many lines as there may be
pub many_come : (n : ℕ) (said : Transcribed) (piece : NextLine) (left rest : Option (List ℕ)) → most_lines ≤ n → (piece ≡ Ended → ⊥)
    → Says most_line_bytes left rest piece → IsTextBehind n said left TooManyLines
many_come n said (Whole line) left rest h more says = many_passed n said line left rest h says.1
many_come n said (Last line) left rest h more says = many_passed n said line left rest h says.1
many_come n said Long left rest h more says = many_long n said left h says.1
many_come n said Ended left rest h more says = absurd (more refl)

-- a whole text is read to the end
pub ends_whole : (n : ℕ) (said : Transcribed) (counts : Option Counts) (left : Option (List ℕ)) → IsAtEnd left
    → EndsWhole (text_at_end n said counts) left
ends_whole n said None left end = tt
ends_whole n said (Some counts) left end = end

-- nothing is left of a text that has as many lines as there may be
pub none_left_at : (n m : ℕ) (said : Transcribed) (left : Option (List ℕ)) → n ≡ m → IsAtEnd left
    → IsTextBehind n said left (text_at_end m said said.counts)
none_left_at n m said left same end =
    subst (λ (k : ℕ). IsTextBehind n said left (text_at_end k said said.counts)) same (none_left n said left end)
