-- Which marks, happenings and counts hold under a layout.
use Rattle.std.specs.Prelude.{◌≡◌, ℕ, ◌+◌, ◌<◌, nat_eq, ◌&&◌, ◌⊎◌, Bool, true, false, if◌then◌else◌, List, [], ◌∷◌, take, slice_get, count_by, ⊤, Option, Some, None}
use Rattle.fab_base.specs.declared.asks.Op.{Op}
use Rattle.fab_base.specs.declared.asks.Op.TheVariants.{ReadBlock, WriteBlock, ReadStripe, WriteStripe}
use Rattle.fab_base.specs.declared.answers.Answer.{Answer}
use Rattle.fab_base.specs.declared.answers.Answer.TheVariants.{Data, Done, Aborted}
use Rattle.fab_base.specs.Layouts.{Layout, Group, group_of}
use Rattle.reg_model.specs.declared.marks.Mark.{Mark}
use Rattle.reg_model.specs.declared.marks.Mark.TheVariants.{Begin, End, Crash}
use Rattle.reg_model.specs.declared.marks.Happening.{Happening}
use Rattle.reg_model.specs.Marks.{Life, life_of, position_of, begun_numbers, IsWellFormed, stripe_marks}
use Rattle.reg_model.specs.Strict.{IsStrict, OpFits}
use Rattle.transcript.specs.declared.claims.Counts.{Counts}
use Rattle.transcript.specs.declared.claims.StripeLine.{StripeLine}
use Rattle.transcript.specs.Kinds.{is_begin, is_answered, is_aborted, is_crash}
use Rattle.audit.specs.declared.findings.Finding.{Finding}
use Rattle.audit.specs.declared.findings.Finding.TheVariants.{Sound, BadMarks, BadStripe, BadCount}

-- what is asked fits a group: its stripe is one of the group's, its block is below m, and what it writes is one block, or m blocks
abbrev pub GroupFits : Option Group → ℕ → ℕ → Op → Type 0
GroupFits None block stripe op = ⊥
GroupFits (Some group) block stripe op = (stripe < group.stripes) × OpFits group.m block op

-- an operation that begins names a brick, a group, a stripe, a block and a length that the layout has
abbrev pub BeginFits : Layout → Mark → Type 0
BeginFits layout (Begin p n b ask) = (b.0 < layout.bricks) × GroupFits (group_of layout ask.group.0) layout.block ask.stripe.0 ask.op
BeginFits layout (End p n answer) = ⊤
BeginFits layout (Crash p b) = ⊤

-- an answer's word is that of the operation: data for a read, done for a write, or aborted
abbrev pub WordFits : Op → Answer → Type 0
WordFits (ReadBlock j) (Data bytes) = ⊤
WordFits (ReadBlock j) Done = ⊥
WordFits (ReadBlock j) (Aborted cause) = ⊤
WordFits (WriteBlock j written) (Data bytes) = ⊥
WordFits (WriteBlock j written) Done = ⊤
WordFits (WriteBlock j written) (Aborted cause) = ⊤
WordFits ReadStripe (Data bytes) = ⊤
WordFits ReadStripe Done = ⊥
WordFits ReadStripe (Aborted cause) = ⊤
WordFits (WriteStripe written) (Data bytes) = ⊥
WordFits (WriteStripe written) Done = ⊤
WordFits (WriteStripe written) (Aborted cause) = ⊤

abbrev pub AnswerFits : Option Life → Answer → Type 0
AnswerFits None answer = ⊥
AnswerFits (Some life) answer = WordFits life.ask.op answer

-- The marks hold: each position is the mark's place; operations are numbered 1, 2, .. by their Begins; the marks are well formed; each
-- Begin fits the layout; and each End's word is that of its operation.
pub record MarksHold (layout : Layout) (marks : List Mark) : Type 0 where
  pub placed : (i : ℕ) (mark : Mark) → slice_get marks i ≡ Some mark → position_of mark ≡ i
  pub numbered : (k n : ℕ) → slice_get (begun_numbers marks) k ≡ Some n → n ≡ k + 1
  pub well_formed : IsWellFormed marks
  pub begins_fit : (i : ℕ) (mark : Mark) → slice_get marks i ≡ Some mark → BeginFits layout mark
  pub answers_fit : (i p n : ℕ) (answer : Answer) → slice_get marks i ≡ Some (End p n answer) → AnswerFits (life_of (take i marks) n) answer

-- the happenings said of a stripe: none where it has no line
abbrev pub happenings_said : List StripeLine → ℕ → ℕ → List Happening
happenings_said [] g s = []
happenings_said (line ∷ lines) g s = if nat_eq line.group g && nat_eq line.stripe s then line.happenings else happenings_said lines g s

-- a stripe is one of a group
abbrev pub HasStripe : Option Group → ℕ → Type 0
HasStripe None s = ⊥
HasStripe (Some group) s = s < group.stripes

-- a stripe is one of the layout, or happenings are said of it
abbrev pub IsNamed : Layout → List StripeLine → ℕ → ℕ → Type 0
IsNamed layout lines g s =
    HasStripe (group_of layout g) s ⊎ ((i : ℕ) × (line : StripeLine) × (slice_get lines i ≡ Some line) × (line.group ≡ g) × (line.stripe ≡ s))

-- The happenings said of a stripe hold: the layout has the stripe, and they are strict for its marks.
abbrev pub HoldsIn : Option Group → ℕ → ℕ → ℕ → List Mark → List Happening → Type 0
HoldsIn None block g s marks happenings = ⊥
HoldsIn (Some group) block g s marks happenings = (s < group.stripes) × IsStrict group.m block (stripe_marks g s marks) happenings

abbrev pub StripeHolds : Layout → List Mark → List StripeLine → ℕ → ℕ → Type 0
StripeHolds layout marks lines g s = HoldsIn (group_of layout g) layout.block g s marks (happenings_said lines g s)

-- one stripe is before another, by group and then by number
abbrev pub IsBefore : ℕ → ℕ → ℕ → ℕ → Type 0
IsBefore g s h t = (g < h) ⊎ ((g ≡ h) × (s < t))

-- those of all named stripes hold
abbrev pub StripesHold : Layout → List Mark → List StripeLine → Type 0
StripesHold layout marks lines = (g s : ℕ) → IsNamed layout lines g s → StripeHolds layout marks lines g s

-- the counts are those of the marks
pub record CountsHold (counts : Counts) (marks : List Mark) : Type 0 where
  pub begun : counts.begun ≡ count_by is_begin marks
  pub answered : counts.answered ≡ count_by is_answered marks
  pub aborted : counts.aborted ≡ count_by is_aborted marks
  pub crashes : counts.crashes ≡ count_by is_crash marks

-- a stripe is the first of the named ones whose happenings do not hold
pub record IsFirstBad (layout : Layout) (marks : List Mark) (lines : List StripeLine) (g s : ℕ) : Type 0 where
  pub named : IsNamed layout lines g s
  pub fails : StripeHolds layout marks lines g s → ⊥
  pub before : (h t : ℕ) → IsBefore h t g s → IsNamed layout lines h t → StripeHolds layout marks lines h t

-- What is found of a text that says so much, by the first that fails: the marks; then a stripe's happenings, by group and stripe; then
-- the counts.
abbrev pub Finds : Layout → List Mark → List StripeLine → Counts → Finding → Type 0
Finds layout marks lines counts Sound = MarksHold layout marks × StripesHold layout marks lines × CountsHold counts marks
Finds layout marks lines counts BadMarks = MarksHold layout marks → ⊥
Finds layout marks lines counts (BadStripe g s) = MarksHold layout marks × IsFirstBad layout marks lines g s
Finds layout marks lines counts BadCount = MarksHold layout marks × StripesHold layout marks lines × (CountsHold counts marks → ⊥)

-- whether the counts hold was answered
abbrev pub CountsAnswer : Counts → List Mark → Bool → Type 0
CountsAnswer counts marks true = CountsHold counts marks
CountsAnswer counts marks false = CountsHold counts marks → ⊥
