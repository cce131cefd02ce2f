-- What a line of the text says, by its content: the line without its line feed and the one carriage return before that.
use Rattle.std.specs.Prelude.{ℕ, nat_le, ◌==◌, if◌then◌else◌, List, [], ◌∷◌, length, codes, Option, Some, None}
use Rattle.std.specs.List.{slice_split}
use Rattle.std.specs.Str.{bytes_eq}
use Rattle.lines.specs.Grammar.{◌>>=◌}
use Rattle.lines.specs.declared.forms.Access.{Access}
use Rattle.lines.specs.declared.forms.Access.TheVariants.{ReadBlock, WriteBlock, ReadStripe, WriteStripe}
use Rattle.reg_model.specs.declared.marks.Happening.{Happening}
use Rattle.transcript.specs.declared.claims.ParsedMark.TheVariants.{Begin, End, Crash}
use Rattle.transcript.specs.declared.claims.ParsedAnswer.{ParsedAnswer}
use Rattle.transcript.specs.declared.claims.ParsedAnswer.TheVariants.{Data, Done, Aborted}
use Rattle.transcript.specs.declared.claims.Entry.{Entry}
use Rattle.transcript.specs.declared.claims.Entry.TheVariants.{Mark, Other, Happened, Counted}
use Rattle.transcript.specs.Tokens.{behind, plain_number, lower_hex, number_before}
use Rattle.transcript.specs.Words.{or_else, cause_of, is_word}

-- an operation on a stripe begins
abbrev pub begins : ℕ → ℕ → ℕ → ℕ → ℕ → Access → Option Entry
begins p n b g s access = Some (Mark (Begin p n b g s access))

-- `G S J`, behind `read `
unfoldable pub read_of : ℕ → ℕ → ℕ → List ℕ → Option Entry
read_of p n b text = do
  group ← number_before 32 text
  stripe ← number_before 32 group.1
  block ← plain_number stripe.1
  begins p n b group.0 stripe.0 (ReadBlock block)

-- `G S J HEX`, behind `write `
unfoldable pub write_of : ℕ → ℕ → ℕ → List ℕ → Option Entry
write_of p n b text = do
  group ← number_before 32 text
  stripe ← number_before 32 group.1
  block ← number_before 32 stripe.1
  bytes ← lower_hex block.1
  begins p n b group.0 stripe.0 (WriteBlock block.0 bytes)

-- `G S`, behind `readall `
unfoldable pub read_all_of : ℕ → ℕ → ℕ → List ℕ → Option Entry
read_all_of p n b text = do
  group ← number_before 32 text
  stripe ← plain_number group.1
  begins p n b group.0 stripe ReadStripe

-- `G S HEX`, behind `writeall `
unfoldable pub write_all_of : ℕ → ℕ → ℕ → List ℕ → Option Entry
write_all_of p n b text = do
  group ← number_before 32 text
  stripe ← number_before 32 group.1
  bytes ← lower_hex stripe.1
  begins p n b group.0 stripe.0 (WriteStripe bytes)

-- what is asked, behind `P begin N B `
unfoldable pub ask_of : ℕ → ℕ → ℕ → List ℕ → Option Entry
ask_of p n b text =
    or_else (behind (codes "read ") text) (read_of p n b) (or_else (behind (codes "write ") text) (write_of p n b)
    (or_else (behind (codes "readall ") text) (read_all_of p n b) (or_else (behind (codes "writeall ") text) (write_all_of p n b) None)))

-- `N B` and what is asked, behind `P begin `
unfoldable pub begin_of : ℕ → List ℕ → Option Entry
begin_of p text = do
  operation ← number_before 32 text
  brick ← number_before 32 operation.1
  ask_of p operation.0 brick.0 brick.1

-- an operation ends
abbrev pub ends : ℕ → ℕ → ParsedAnswer → Option Entry
ends p n outcome = Some (Mark (End p n outcome))

-- `HEX`, behind `data `
unfoldable pub data_of : ℕ → ℕ → List ℕ → Option Entry
data_of p n text = do
  bytes ← lower_hex text
  ends p n (Data bytes)

-- `CAUSE`, behind `aborted `
unfoldable pub aborted_of : ℕ → ℕ → List ℕ → Option Entry
aborted_of p n text = do
  reason ← cause_of text
  ends p n (Aborted reason)

-- an answer, behind `P end N `
unfoldable pub answer_of : ℕ → ℕ → List ℕ → Option Entry
answer_of p n text =
    or_else (behind (codes "data ") text) (data_of p n) (or_else (behind (codes "aborted ") text) (aborted_of p n)
    (if bytes_eq text (codes "done") then ends p n Done else None))

-- `N` and an answer, behind `P end `
unfoldable pub end_of : ℕ → List ℕ → Option Entry
end_of p text = do
  operation ← number_before 32 text
  answer_of p operation.0 operation.1

-- `B`, behind `P crash `
unfoldable pub crash_of : ℕ → List ℕ → Option Entry
crash_of p text = do
  brick ← plain_number text
  Some (Mark (Crash p brick))

-- the rest of a mark, behind its position
unfoldable pub mark_at : ℕ → List ℕ → Option Entry
mark_at p text =
    or_else (behind (codes "begin ") text) (begin_of p) (or_else (behind (codes "end ") text) (end_of p)
    (or_else (behind (codes "crash ") text) (crash_of p) None))

-- a mark
unfoldable pub mark_of_line : List ℕ → Option Entry
mark_of_line text = do
  position ← number_before 32 text
  mark_at position.0 position.1

-- a happening, `N@P`
unfoldable pub happening_of : List ℕ → Option Happening
happening_of text = do
  operation ← number_before 64 text
  position ← plain_number operation.1
  Some (record { operation = operation.0; position = position })

-- the happenings that tokens spell, where each spells one
unfoldable pub happenings_of_tokens : List (List ℕ) → Option (List Happening)
happenings_of_tokens [] = Some []
happenings_of_tokens (token ∷ tokens) = do
  first ← happening_of token
  others ← happenings_of_tokens tokens
  Some (first ∷ others)

-- the happenings of a text, with single spaces between them
unfoldable pub happenings_of : List ℕ → Option (List Happening)
happenings_of text = happenings_of_tokens (slice_split (λ byte. byte == 32) text)

-- `G S N@P ..`, behind `happened `
unfoldable pub happened_of : List ℕ → Option Entry
happened_of text = do
  group ← number_before 32 text
  stripe ← number_before 32 group.1
  happenings ← happenings_of stripe.1
  Some (Happened (record { group = group.0; stripe = stripe.0; happenings = happenings }))

-- the number behind these bytes, and what stands behind its space
unfoldable pub count_behind : List ℕ → List ℕ → Option (ℕ × List ℕ)
count_behind front text = do
  rest ← behind front text
  number_before 32 rest

-- `lines L begun B answered A aborted X crashes C`, behind `count `
unfoldable pub counts_of : List ℕ → Option Entry
counts_of text = do
  lines ← count_behind (codes "lines ") text
  begun ← count_behind (codes "begun ") lines.1
  answered ← count_behind (codes "answered ") begun.1
  aborted ← count_behind (codes "aborted ") answered.1
  rest ← behind (codes "crashes ") aborted.1
  crashes ← plain_number rest
  Some (Counted (record { begun = begun.0; answered = answered.0; aborted = aborted.0; crashes = crashes }))

-- what a line says, whatever its length
unfoldable pub form : List ℕ → Option Entry
form text =
    if is_word text then Some Other else or_else (behind (codes "happened ") text) happened_of
    (or_else (behind (codes "count ") text) counts_of (mark_of_line text))

-- the most bytes of a line
abbrev pub most_line_bytes : ℕ
most_line_bytes = 33554432

-- what a line says; none has more than so many bytes
unfoldable pub entry_of : List ℕ → Option Entry
entry_of text = if nat_le (length text) most_line_bytes then form text else None
