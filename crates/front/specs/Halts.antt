-- Why a range ends before all of its operations are done.
use Rattle.std.specs.Prelude.{ℕ, ◌+◌, ◌%◌, nat_eq, nat_le, ◌&&◌, if◌then◌else◌, List, Option, Some, None, unwrap_or}
use Rattle.fab_base.specs.Layouts.{Layout}
use Rattle.layout.specs.Places.{length_of}
use Rattle.front.specs.declared.steps.Halt.{Halt}
use Rattle.front.specs.declared.steps.Halt.TheVariants as halt
use Rattle.front.specs.declared.steps.RangeAnswer.{RangeAnswer}
use Rattle.front.specs.declared.steps.RangeAnswer.TheVariants as answer

-- the answer of a range that halts after so many data blocks
abbrev pub answer_of : ℕ → Halt → RangeAnswer
answer_of blocks halt.Unaligned = answer.Unaligned
answer_of blocks halt.Beyond = answer.Beyond
answer_of blocks (halt.Stopped why) = answer.Stopped blocks why

-- Why a range of bytes has no operations: it does not begin and end where a data block does, or it passes the end of the volume. A volume
-- that there is not has no bytes.
abbrev pub halt_of : Layout → List ℕ → ℕ → ℕ → Option Halt
halt_of layout volume byte length =
    if nat_eq (byte % layout.block) 0 && nat_eq (length % layout.block) 0 then
    (if nat_le (byte + length) (unwrap_or (length_of layout volume) 0) then None else Some halt.Beyond)
    else Some halt.Unaligned
