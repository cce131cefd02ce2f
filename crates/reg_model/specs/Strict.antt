-- Strict linearizability (Aguilera and Frølund 2003) of a stripe's registers: the operations that happened, in order, each at a
-- position between its begin and its end, make the stripe's blocks plain registers.
use Rattle.std.specs.Prelude.{◌≡◌, ℕ, ◌≤◌, ◌<◌, ◌*◌, eqb, List, [], ◌∷◌, length, Option, Some, None, map, All, Contains}
use Rattle.std.specs.List.{IsDistinct}
use Rattle.std.specs.List.Sorted.{IsNonDecreasing}
use Rattle.fab_base.specs.declared.asks.Op.{Op}
use Rattle.fab_base.specs.declared.asks.Op.TheVariants.{ReadBlock, WriteBlock, ReadStripe, WriteStripe}
use Rattle.fab_base.specs.declared.answers.Answer.TheVariants.{Data, Done, Aborted}
use Rattle.reg_model.specs.declared.marks.Mark.{Mark}
use Rattle.reg_model.specs.declared.marks.Mark.TheVariants.{Begin, End, Crash}
use Rattle.reg_model.specs.declared.marks.Happening.{Happening}
use Rattle.reg_model.specs.Marks.{Ending, Answered, Interrupted, Unended, Life, life_of, end_of}
use Rattle.reg_model.specs.Registers.{zero_registers, after_op, read_of}

-- an operation was answered: by data or as done, and not as aborted
abbrev pub IsAnswered : Ending → Type 0
IsAnswered (Answered p (Data bytes)) = Unit {0}
IsAnswered (Answered p Done) = Unit {0}
IsAnswered (Answered p (Aborted cause)) = ⊥
IsAnswered (Interrupted p) = ⊥
IsAnswered (Unended past) = ⊥

-- operation n was answered
abbrev pub WasAnswered : Option Life → Type 0
WasAnswered None = ⊥
WasAnswered (Some life) = IsAnswered life.ending

-- an operation that has begun happens at a position between its begin and its end
abbrev pub IsInTime : Option Life → ℕ → Type 0
IsInTime None p = ⊥
IsInTime (Some life) p = (life.begin ≤ p) × (p ≤ end_of life.ending)

-- the data that an operation was answered
abbrev pub data_of : Ending → Option (List ℕ)
data_of (Answered p (Data bytes)) = Some bytes
data_of (Answered p Done) = None
data_of (Answered p (Aborted cause)) = None
data_of (Interrupted p) = None
data_of (Unended past) = None

-- data that was answered is what was to be read
abbrev pub IsRead : Option (List ℕ) → Option (List ℕ) → Type 0
IsRead None answered = Unit {0}
IsRead (Some wanted) None = Unit {0}
IsRead (Some wanted) (Some bytes) = bytes ≡ wanted

-- an answered read gives what the registers hold
abbrev pub ReadsRight : ℕ → List ℕ → Option Life → Type 0
ReadsRight block registers None = ⊥
ReadsRight block registers (Some life) = IsRead (read_of block life.ask.op registers) (data_of life.ending)

-- what the registers hold after an operation
abbrev pub after_life : ℕ → List ℕ → Option Life → List ℕ
after_life block registers None = registers
after_life block registers (Some life) = after_op block life.ask.op registers

-- along the happenings, each answered read gives what the registers then hold
abbrev pub ReadsRightAlong : ℕ → List Mark → List Happening → List ℕ → Type 0
ReadsRightAlong block marks [] registers = Unit {0}
ReadsRightAlong block marks (h ∷ happenings) registers =
    ReadsRight block registers (life_of marks h.operation)
    × ReadsRightAlong block marks happenings (after_life block registers (life_of marks h.operation))

-- The happenings are strict for a stripe's marks: positions never fall; no operation stands twice; each is between its begin and
-- its end; every answered operation stands among them; and along them, from zero, each answered read gives what the registers hold.
pub record IsStrict (m block : ℕ) (marks : List Mark) (happenings : List Happening) : Type 0 where
  pub never_back : IsNonDecreasing (map (λ h. h.position) happenings)
  pub once : IsDistinct eqb (map (λ h. h.operation) happenings)
  pub in_time : All (λ h. IsInTime (life_of marks h.operation) h.position) happenings
  pub answered_happen : (n : ℕ) → WasAnswered (life_of marks n) → Contains (map (λ h. h.operation) happenings) n
  pub reads_right : ReadsRightAlong block marks happenings (zero_registers m block)

-- an operation fits the stripe: its block is below m, and what it writes is one block, or m blocks
abbrev pub OpFits : ℕ → ℕ → Op → Type 0
OpFits m block (ReadBlock j) = j < m
OpFits m block (WriteBlock j bytes) = (j < m) × (length bytes ≡ block)
OpFits m block ReadStripe = Unit {0}
OpFits m block (WriteStripe bytes) = length bytes ≡ m * block

abbrev pub MarkFits : ℕ → ℕ → Mark → Type 0
MarkFits m block (Begin p n b ask) = OpFits m block ask.op
MarkFits m block (End p n answer) = Unit {0}
MarkFits m block (Crash p b) = Unit {0}
