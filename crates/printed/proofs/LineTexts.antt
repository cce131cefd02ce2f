-- A text of lines without line feeds and carriage returns splits into these lines.
use Rattle.std.proofs.Common.{◌≡◌, ℕ, zero, suc, ◌-◌, ◌==◌, not, Bool, true, false, cond, List, [], ◌∷◌, ◌++◌, length, take, map, Some, refl, sym, ap, ◌∙◌, arith, append_assoc, append-nil, length-append}
use Rattle.std.specs.Prelude.{⊤, slice_index}
use Rattle.std.specs.List.{list_all}
use Rattle.std.specs.Str.Lines.{strip_carriage_return}
use Rattle.std.proofs.lemmas.Bool.{and_parts}
use Rattle.std.proofs.lemmas.Bool.Decides.{nat_tests}
use Rattle.std.proofs.lemmas.List.{take_at}
use Rattle.lines.specs.Lines.{raw_lines, content}
use Rattle.lines.specs.Reading.{IsWhole}
use Rattle.lines.proofs.WholeLines.{whole_has, whole_first}
use Rattle.fab_base.specs.Texts.{newline}
use Rattle.printed.proofs.Tokens.{is_clear, all_then, found_at}

-- the text of lines, each with its line feed
abbrev pub text_of_lines : List (List ℕ) → List ℕ
text_of_lines [] = []
text_of_lines (line ∷ lines) = (line ++ newline) ++ text_of_lines lines

-- of lines, and then others
pub lines_both : (one other : List (List ℕ)) → text_of_lines (one ++ other) ≡ text_of_lines one ++ text_of_lines other
lines_both [] other = refl
lines_both (line ∷ one) other =
    ap (λ (text : List ℕ). (line ++ newline) ++ text) (lines_both one other)
    ∙ sym (append_assoc (line ++ newline) (text_of_lines one) (text_of_lines other))

-- of one line
pub one_line_text : (line : List ℕ) → text_of_lines (line ∷ []) ≡ line ++ newline
one_line_text line = append-nil (line ++ newline)

-- no byte of a line ends one
abbrev pub AreClear : List (List ℕ) → Type 0
AreClear [] = ⊤
AreClear (line ∷ lines) = (list_all is_clear line ≡ true) × AreClear lines

-- of lines, and then others
pub clear_all : (one other : List (List ℕ)) → AreClear one → AreClear other → AreClear (one ++ other)
clear_all [] other first second = second
clear_all (line ∷ one) other first second = (first.0, clear_all one other first.1 second)

-- a clear byte is no line feed
no_feed : (b : ℕ) → is_clear b ≡ true → not (b == 10) ≡ true
no_feed b clear = grind (arith, nat_tests)

-- nor a carriage return
no_return : (b : ℕ) → is_clear b ≡ true → (b == 13) ≡ false
no_return b clear = grind (arith, nat_tests)

-- a line with its line feed is whole
whole_line : (line : List ℕ) → list_all is_clear line ≡ true → IsWhole (line ++ newline)
whole_line line clear =
    let long : length line ≡ length (line ++ newline) - 1 = omega (arith, length-append line newline) in
    found_at 10 line [] (all_then is_clear (λ byte. not (byte == 10)) line no_feed clear) ∙ ap (λ (k : ℕ). Some k) long

-- no byte of a clear line is a carriage return
none_returns : (line : List ℕ) (i : ℕ) → list_all is_clear line ≡ true → (slice_index line i == 13) ≡ false
none_returns [] i clear = refl
none_returns (b ∷ line) zero clear = no_return b (and_parts (is_clear b) (list_all is_clear line) clear).0
none_returns (b ∷ line) (suc i) clear = none_returns line i (and_parts (is_clear b) (list_all is_clear line) clear).1

-- so none is stripped from its end
stripped_is : (line : List ℕ) → list_all is_clear line ≡ true → strip_carriage_return line ≡ line
stripped_is line clear = ap (λ (b : Bool). cond b (take (length line - 1) line) line) (none_returns line (length line - 1) clear)

-- its content is the line
content_is : (line : List ℕ) → list_all is_clear line ≡ true → content (line ++ newline) ≡ line
content_is line clear =
    let all : List ℕ = line ++ newline in
    let place : length line ≡ length (line ++ newline) - 1 = omega (arith, length-append line newline) in
    ap (λ (b : Bool). cond b (strip_carriage_return (take (length (line ++ newline) - 1) (line ++ newline))) (line ++ newline))
    (whole_has (line ++ newline) (whole_line line clear))
    ∙ ap strip_carriage_return (take_at line newline (length (line ++ newline) - 1) place) ∙ stripped_is line clear

-- The lines of the text, without what ends them, are these.
pub lines_back : (lines : List (List ℕ)) → AreClear lines → map content (raw_lines (text_of_lines lines)) ≡ lines
lines_back [] clear = refl
lines_back (line ∷ lines) clear =
    ap (map content) (whole_first (line ++ newline) (text_of_lines lines) (whole_line line clear.0))
    ∙ ap (λ (l : List ℕ). l ∷ map content (raw_lines (text_of_lines lines))) (content_is line clear.0)
    ∙ ap (λ (ls : List (List ℕ)). line ∷ ls) (lines_back lines clear.1)
