-- The text of the answer to a command.
use Rattle.std.specs.Prelude.{ℕ, Bool, true, false, List, [], ◌∷◌, ◌++◌, codes}
use Rattle.std.specs.Fmt.{decimal}
use Rattle.hex.specs.Hex.{encode_lower}
use Rattle.fab_base.specs.Texts.{newline, cause_text, refusal_text}
use Rattle.front.specs.declared.steps.RangeAnswer.{RangeAnswer}
use Rattle.front.specs.declared.steps.RangeAnswer.TheVariants.{Done, Stopped, Unaligned, Beyond}
use Rattle.front.specs.declared.steps.Why.{Why}
use Rattle.front.specs.declared.steps.Why.TheVariants as why

-- why a range was stopped
abbrev pub why_text : Why → List ℕ
why_text (why.Cause cause) = cause_text cause
why_text (why.Refused refusal) = refusal_text refusal

-- the bytes that were read; where there are none, the word alone
abbrev pub data_text : List ℕ → List ℕ
data_text [] = codes "data" ++ newline
data_text (byte ∷ more) = codes "data " ++ (encode_lower (byte ∷ more) ++ newline)

-- all of a range was done: a read, which gave these bytes, or a write
abbrev pub done_text : Bool → List ℕ → List ℕ
done_text true bytes = data_text bytes
done_text false bytes = codes "done" ++ newline

-- the answer to a command that reads, or writes
abbrev pub answer_text : Bool → RangeAnswer → List ℕ
answer_text reads (Done bytes) = done_text reads bytes
answer_text reads (Stopped blocks reason) = codes "stopped " ++ (decimal blocks ++ (codes " " ++ why_text reason))
answer_text reads Unaligned = codes "unaligned" ++ newline
answer_text reads Beyond = codes "beyond" ++ newline

-- a line that is no command, by its number
abbrev pub bad_line_text : ℕ → List ℕ
bad_line_text number = codes "bad line " ++ (decimal number ++ newline)

-- the turns ended before a command did
abbrev pub unanswered_text : List ℕ
unanswered_text = codes "unanswered" ++ newline
