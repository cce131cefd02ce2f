-- What a range shows, and how it goes on.
use Rattle.std.specs.Prelude.{◌≡◌, ℕ, ◌+◌, ◌*◌, List, [], ◌∷◌, ◌++◌, length, Option, None, Some, Result, Ok, Err}
use Rattle.fab_base.specs.declared.answers.Answer.{Answer}
use Rattle.fab_base.specs.declared.answers.Answer.TheVariants as answer
use Rattle.fab_base.specs.declared.answers.Refusal.{Refusal}
use Rattle.fab_base.specs.declared.asks.Ask.{Ask}
use Rattle.fab_base.specs.declared.asks.Op.{Op}
use Rattle.fab_base.specs.declared.asks.Op.TheVariants.{ReadBlock, WriteBlock, ReadStripe, WriteStripe}
use Rattle.fab_base.specs.Layouts.{Layout}
use Rattle.front.specs.declared.steps.Halt.{Halt}
use Rattle.front.specs.declared.steps.Halt.TheVariants as halt
use Rattle.front.specs.declared.steps.RangeAnswer.{RangeAnswer}
use Rattle.front.specs.declared.steps.RangeAnswer.TheVariants as range
use Rattle.front.specs.declared.steps.RangeStep.{RangeStep}
use Rattle.front.specs.declared.steps.RangeStep.TheVariants as step
use Rattle.front.specs.declared.steps.Why.TheVariants as why
use Rattle.front.specs.Halts.{answer_of, halt_of}
use Rattle.front.specs.Pieces.{Part, parts_of}

-- A range: the bytes of a data block; the operations that are left, in order; how many data blocks are done; the bytes that came for
-- them, in order; and how it ended, where it ended before all were done.
pub record Progress : Type 0 where
  pub block : ℕ
  pub left : List Part
  pub blocks : ℕ
  pub came : List ℕ
  pub halted : Option RangeAnswer

-- a range that begins, if nothing halts it
abbrev pub begun_by : Option Halt → ℕ → List Part → Progress
begun_by None block parts = record { block = block; left = parts; blocks = 0; came = []; halted = None }
begun_by (Some halt) block parts = record { block = block; left = []; blocks = 0; came = []; halted = Some (answer_of 0 halt) }

-- a range of bytes of a volume that begins: a write of these bytes, or a read
abbrev pub begun : Layout → List ℕ → ℕ → ℕ → Option (List ℕ) → Progress
begun layout volume byte length content =
    begun_by (halt_of layout volume byte length) layout.block (parts_of layout volume byte length content)

-- the first of the operations that are left; the end, once none is
abbrev pub next_by : Option RangeAnswer → List Part → List ℕ → RangeStep
next_by (Some answer) parts came = step.End answer
next_by None [] came = step.End (range.Done came)
next_by None (part ∷ parts) came = step.Ask part.ask

-- what a range wants next
abbrev pub next_of : Progress → RangeStep
next_of progress = next_by progress.halted progress.left progress.came

-- the operation of a step, if it is one
abbrev pub ask_in : RangeStep → Option Ask
ask_in (step.Ask ask) = Some ask
ask_in (step.End answer) = None

-- the operation that a range wants next; None once it has ended
abbrev pub next_ask : Progress → Option Ask
next_ask progress = ask_in (next_of progress)

-- Bytes for so many data blocks are what an operation is answered: as many as the blocks have for a read, and none for a write.
abbrev pub FitsOp : Op → ℕ → Answer → Type 0
FitsOp op bytes (answer.Aborted cause) = Unit {0}
FitsOp (ReadBlock j) bytes (answer.Data came) = length came ≡ bytes
FitsOp ReadStripe bytes (answer.Data came) = length came ≡ bytes
FitsOp (WriteBlock j content) bytes answer.Done = Unit {0}
FitsOp (WriteStripe content) bytes answer.Done = Unit {0}
FitsOp op bytes other = ⊥

-- the end of the first of the operations that are left fits it
abbrev pub FitsFirst : ℕ → List Part → Result Answer Refusal → Type 0
FitsFirst block [] end = ⊥
FitsFirst block (part ∷ parts) (Err refusal) = Unit {0}
FitsFirst block (part ∷ parts) (Ok answer) = FitsOp part.ask.op (part.blocks * block) answer

-- an operation is left, and this end fits it
abbrev pub FitsEnd : Progress → Result Answer Refusal → Type 0
FitsEnd progress end = FitsFirst progress.block progress.left end

-- the range once its operation was aborted or refused
abbrev pub stopped : Progress → Halt → Progress
stopped progress halt = record progress { left = []; halted = Some (answer_of progress.blocks halt) }

-- the range once the first of the operations that are left has ended, and these are behind it
abbrev pub after_part : Progress → Part → List Part → Result Answer Refusal → Progress
after_part progress part parts (Ok (answer.Data bytes)) =
    record progress { left = parts; blocks = progress.blocks + part.blocks; came = progress.came ++ bytes }
after_part progress part parts (Ok answer.Done) = record progress { left = parts; blocks = progress.blocks + part.blocks }
after_part progress part parts (Ok (answer.Aborted cause)) = stopped progress (halt.Stopped (why.Cause cause))
after_part progress part parts (Err refusal) = stopped progress (halt.Stopped (why.Refused refusal))

-- the range once its next operation, if one is left, has ended
abbrev pub after_by : Progress → List Part → Result Answer Refusal → Progress
after_by progress [] end = progress
after_by progress (part ∷ parts) end = after_part progress part parts end

-- the range once its next operation has ended
abbrev pub after_end : Progress → Result Answer Refusal → Progress
after_end progress end = after_by progress progress.left end
