-- What an answer says of an input, from what it did to the bytes that were read of it.
use Rattle.std.proofs.Common.{◌≡◌, ℕ, ◌+◌, ◌<◌, List, [], ◌∷◌, ◌++◌, length, take, drop, Option, Some, None, IfSome, refl, sym, ap, ◌∙◌, subst, arith, append-nil}
use Rattle.std.specs.List.{position}
use Rattle.std.specs.Io.KnownBytes.{Keeps, IsAtEnd, prepend_known}
use Rattle.std.proofs.KnownBytes.{Keeps-refl, prepend_known-end}
use Rattle.lines.specs.Lines.{is_line_feed, raw_lines}
use Rattle.lines.specs.Reading.{Passes, BeginsLong, Says, IsWhole}
use Rattle.lines.specs.LineReader.{Takes, TakesLast}
use Rattle.lines.specs.declared.reader.NextLine.{NextLine}
use Rattle.lines.specs.declared.reader.NextLine.TheVariants.{Whole, Last, Long, Ended}
use Rattle.std.specs.Str.Lines.{strip_carriage_return}
use Rattle.lines.proofs.RawLines.{raw_lines-feed, raw_lines-last, begins}
use Rattle.lines.proofs.WholeLines.{feed_found, feed_none, taken_whole, begun_within}

-- the line up to the first line feed is the first
first_taken : (at : ℕ) (old new more line : List ℕ) → position is_line_feed old ≡ Some at → line ≡ take (at + 1) old → new ≡ drop (at + 1) old
    → raw_lines (old ++ more) ≡ line ∷ raw_lines (new ++ more)
first_taken at old new more line found is left =
    let place = feed_found old at found in
    let same = place.0 in
    let first = raw_lines-feed old more place.1 in
    cc

-- all that is left without a line feed is the last line
last_taken : (old new more line : List ℕ) → position is_line_feed old ≡ None → 0 < length old → line ≡ old → new ≡ [] → more ≡ []
    → raw_lines (old ++ more) ≡ line ∷ raw_lines (new ++ more)
last_taken old new more line none some is left end =
    let one = raw_lines-last old some (feed_none old none) in
    ap (λ l. raw_lines (old ++ l)) end ∙ ap raw_lines (append-nil old) ∙ one ∙ ap (λ l. l ∷ []) (sym is)
    ∙ ap (λ l. line ∷ raw_lines l) (sym (ap (λ l. l ++ more) left ∙ end))

-- what holds of the bytes that were read and any that stand behind them holds of those that were left
at_known : (start now : Option (List ℕ)) (old : List ℕ) (P : List ℕ → Type 0) → Keeps start (prepend_known old now)
    → ((more : List ℕ) → now ≡ Some more → P (old ++ more)) → IfSome start P
at_known None now old P k h = tt
at_known (Some x) None old P k h = absurd k
at_known (Some x) (Some y) old P k h = subst P k (h y refl)

-- a line is taken that is the first, whatever stands behind the bytes that were read
passes : (start now : Option (List ℕ)) (old new line : List ℕ) → Keeps start (prepend_known old now)
    → ((more : List ℕ) → now ≡ Some more → raw_lines (old ++ more) ≡ line ∷ raw_lines (new ++ more)) → Passes start (prepend_known new now)
    (line ∷ [])
passes None now old new line k h = tt
passes (Some x) None old new line k h = absurd k
passes (Some x) (Some y) old new line k h = ap raw_lines (sym k) ∙ h y refl

-- the answer where a line feed was found
pub says_found : (limit at : ℕ) (start now : Option (List ℕ)) (old new : List ℕ) (piece : NextLine) → Keeps start (prepend_known old now)
    → position is_line_feed old ≡ Some at → Takes limit (at + 1) old new piece → Says limit start (prepend_known new now) piece
says_found limit at start now old new (Whole line) k found (is, left, short) =
    (short, passes start now old new line k (λ more _. first_taken at old new more line found is left), subst IsWhole (sym is) (taken_whole old at found))
says_found limit at start now old new (Last line) k found t = absurd t
says_found limit at start now old new Long k found (same, over) = (
  subst (λ l. Keeps start (prepend_known l now)) (sym same) k,
  at_known start now old (BeginsLong limit) k
      (λ more _. (
        take (at + 1) old,
        raw_lines (drop (at + 1) old ++ more),
        first_taken at old (drop (at + 1) old) more
            (take (at + 1) old) found refl refl,
        over,
      )),
)
says_found limit at start now old new Ended k found t = absurd t

-- a front without a line feed that is past the limit
long_front : (limit : ℕ) (old more : List ℕ) → position is_line_feed old ≡ None → limit < length (strip_carriage_return old)
    → BeginsLong limit (old ++ more)
long_front limit [] more none over = absurd (omega (arith, over))
long_front limit (b ∷ old) more none over =
    let lacks = feed_none (b ∷ old) none in
    let (behind, rest, first) = begins (b ∷ old) more (omega arith) lacks in
    ((b ∷ old) ++ behind, rest, first, omega (arith, over, begun_within (b ∷ old) behind (omega arith) lacks))

-- the answer where there is no line feed within the limit
pub says_long : (limit : ℕ) (start now : Option (List ℕ)) (old : List ℕ) → Keeps start (prepend_known old now)
    → position is_line_feed old ≡ None → limit < length (strip_carriage_return old) → Says limit start (prepend_known old now) Long
says_long limit start now old k none over =
    (k, at_known start now old (BeginsLong limit) k (λ more _. long_front limit old more none over))

-- the answer where nothing more comes
pub says_last : (limit : ℕ) (start now : Option (List ℕ)) (old new : List ℕ) (piece : NextLine) → Keeps start (prepend_known old now)
    → position is_line_feed old ≡ None → IsAtEnd now → TakesLast limit old new piece → Says limit start (prepend_known new now) piece
says_last limit start now old new (Whole line) k none end t = absurd t
says_last limit start now old new (Last line) k none end (some, is, left, short) = (
  short,
  passes start now old new line k (λ more e. last_taken old new more line none some is left (subst IsAtEnd e end)),
  prepend_known-end (prepend_known new now) now new (Keeps-refl (prepend_known new now)) left end,
)
says_last limit start now old new Long k none end (some, same, over) = (
  subst (λ l. Keeps start (prepend_known l now)) (sym same) k,
  at_known start now old (BeginsLong limit) k (λ more e. (
    old,
    [],
    last_taken old [] more old none some refl refl (subst IsAtEnd e end)
        ∙ ap (λ l. old ∷ raw_lines l) (subst IsAtEnd e end),
    over,
  )),
)
says_last limit start now old new Ended k none end (empty, left) = (
  prepend_known-end start now old k empty end,
  prepend_known-end (prepend_known new now) now new (Keeps-refl (prepend_known new now)) left end,
)
