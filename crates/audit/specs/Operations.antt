-- What is kept of the operations that begin in the marks of a text, and what it says of their lives.
use Rattle.std.specs.Prelude.{◌≡◌, ◌<◌, ◌≤◌, ℕ, zero, suc, ◌+◌, ◌-◌, ◌*◌, nat_eq, nat_lt, not, ◌&&◌, Bool, true, false, if◌then◌else◌, List, [], ◌∷◌, ◌++◌, length, slice_get, slice_index_or, slice_set, Option, Some, None, option_map}
use Rattle.lines.specs.declared.forms.Access.{Access}
use Rattle.lines.specs.declared.forms.Access.TheVariants.{ReadBlock, WriteBlock, ReadStripe, WriteStripe}
use Rattle.fab_base.specs.Layouts.{Layout, Group, group_of}
use Rattle.reg_model.specs.declared.marks.Mark.{Mark}
use Rattle.reg_model.specs.Marks.{Ending, Answered, Interrupted, Unended, Life, life_of, begun_numbers}
use Rattle.transcript.specs.declared.claims.ParsedMark.{ParsedMark}
use Rattle.transcript.specs.declared.claims.ParsedMark.TheVariants.{Begin, End, Crash}
use Rattle.transcript.specs.declared.claims.ParsedAnswer.{ParsedAnswer}
use Rattle.transcript.specs.declared.claims.ParsedAnswer.TheVariants.{Data, Done, Aborted}
use Rattle.transcript.specs.Marks.{op_of, answer_of}
use Rattle.audit.specs.declared.operations.Operation.{Operation}

-- what the Begin at a place asks
abbrev pub access_of : Option ParsedMark → Option Access
access_of None = None
access_of (Some (Begin p n b g s access)) = Some access
access_of (Some (End p n outcome)) = None
access_of (Some (Crash p b)) = None

-- what the End at a place answers
abbrev pub outcome_of : Option ParsedMark → Option ParsedAnswer
outcome_of None = None
outcome_of (Some (Begin p n b g s access)) = None
outcome_of (Some (End p n outcome)) = Some outcome
outcome_of (Some (Crash p b)) = None

-- the same, where there is one
abbrev pub access_or : Option Access → Access
access_or None = ReadStripe
access_or (Some access) = access

abbrev pub outcome_or : Option ParsedAnswer → ParsedAnswer
outcome_or None = Done
outcome_or (Some outcome) = outcome

abbrev pub access_at : List ParsedMark → ℕ → Access
access_at claims p = access_or (access_of (slice_get claims p))

abbrev pub outcome_at : List ParsedMark → ℕ → ParsedAnswer
outcome_at claims p = outcome_or (outcome_of (slice_get claims p))

-- an ending: by the place of its End; or else the Crash after its Begin; or else it is open
abbrev pub ending_with : List ParsedMark → Option ℕ → Option ℕ → ℕ → Ending
ending_with claims (Some p) crash past = Answered p (answer_of (outcome_at claims p))
ending_with claims None (Some p) past = Interrupted p
ending_with claims None None past = Unended past

-- the crashes of a brick, by their positions
abbrev pub crashes_of : List (List ℕ) → ℕ → List ℕ
crashes_of crashes b = slice_index_or crashes b []

-- the first crash of an operation's brick after its Begin
abbrev pub crash_after : List (List ℕ) → Operation → Option ℕ
crash_after crashes o = slice_get (crashes_of crashes o.brick) o.crashes

-- the life of an operation
abbrev pub life_in : List ParsedMark → List (List ℕ) → ℕ → Operation → Life
life_in claims crashes past o = record {
  begin = o.begin;
  brick = o.brick;
  ask = record { group = record { 0 = o.group }; stripe = record { 0 = o.stripe }; op = op_of (access_at claims o.begin) };
  ending = ending_with claims o.end (crash_after crashes o) past;
}

-- the operations by number, and the crashes by brick
pub record Index : Type 0 where
  pub found : List Operation
  pub crashes : List (List ℕ)

-- there is no place
abbrev pub is_nowhere : Option ℕ → Bool
is_nowhere None = true
is_nowhere (Some p) = false

-- an operation has neither ended nor been interrupted
abbrev pub is_open : List (List ℕ) → Operation → Bool
is_open crashes o = is_nowhere o.end && is_nowhere (crash_after crashes o)

-- what is asked fits a stripe of m data blocks
abbrev pub access_fits : ℕ → ℕ → Access → Bool
access_fits m block (ReadBlock j) = nat_lt j m
access_fits m block (WriteBlock j bytes) = nat_lt j m && nat_eq (length bytes) block
access_fits m block ReadStripe = true
access_fits m block (WriteStripe bytes) = nat_eq (length bytes) (m * block)

abbrev pub group_fits : Option Group → ℕ → ℕ → Access → Bool
group_fits None block s access = false
group_fits (Some group) block s access = nat_lt s group.stripes && access_fits group.m block access

-- what is asked names a brick, a group, a stripe, a block and a length that the layout has
abbrev pub begin_fits : Layout → ℕ → ℕ → ℕ → Access → Bool
begin_fits layout b g s access = nat_lt b layout.bricks && group_fits (group_of layout g) layout.block s access

-- it is a write
abbrev pub is_write : Access → Bool
is_write (ReadBlock j) = false
is_write (WriteBlock j bytes) = true
is_write ReadStripe = false
is_write (WriteStripe bytes) = true

-- an answer's word is that of what was asked
abbrev pub word_fits : Access → ParsedAnswer → Bool
word_fits access (Data bytes) = not (is_write access)
word_fits access Done = is_write access
word_fits access (Aborted reason) = true

-- an operation that is open may end so
abbrev pub may_end : List ParsedMark → List (List ℕ) → Option Operation → ParsedAnswer → Bool
may_end claims crashes None outcome = false
may_end claims crashes (Some o) outcome = is_open crashes o && word_fits (access_at claims o.begin) outcome

-- an operation has ended at a place
abbrev pub ended : ℕ → Operation → Operation
ended p o = record o { end = Some p }

-- an operation begins at a place, of a brick that had these crashes
abbrev pub begun : ℕ → ℕ → ℕ → ℕ → List ℕ → Operation
begun p b g s crashes = record { begin = p; brick = b; group = g; stripe = s; crashes = length crashes; end = None }

-- the operation at a place, changed
abbrev pub change_at : List Operation → ℕ → Option Operation → List Operation
change_at found k None = found
change_at found k (Some o) = slice_set found k o

-- a brick has crashed once more; a brick of no operation is not kept
abbrev pub crashed_at : List (List ℕ) → ℕ → ℕ → List (List ℕ)
crashed_at crashes b p = slice_set crashes b (crashes_of crashes b ++ p ∷ [])

-- an operation begins, where its number is the next
unfoldable pub begins_next : Index → ℕ → ℕ → ℕ → ℕ → ℕ → Option Index
begins_next index p n b g s =
    if nat_eq n (length index.found + 1)
    then Some (record { found = index.found ++ begun p b g s (crashes_of index.crashes b) ∷ []; crashes = index.crashes }) else None

-- an operation ends, where it may
unfoldable pub ends_at : List ParsedMark → Index → ℕ → ℕ → ParsedAnswer → Option Index
ends_at claims index p n outcome =
    if nat_lt 0 n && may_end claims index.crashes (slice_get index.found (n - 1)) outcome
    then Some (record { found = change_at index.found (n - 1) (option_map (ended p) (slice_get index.found (n - 1))); crashes = index.crashes }) else None

-- a brick crashes
unfoldable pub crashes_at : Index → ℕ → ℕ → Option Index
crashes_at index b p = Some (record { found = index.found; crashes = crashed_at index.crashes b p })

-- What is kept once the mark at a place has come; none where its position is another, or a Begin's number is not the next or what it asks
-- does not fit the layout, or an End is not of an open operation or not by its word.
unfoldable pub after_claim : Layout → List ParsedMark → Index → ℕ → ParsedMark → Option Index
after_claim layout claims index p (Begin q n b g s access) =
    if nat_eq q p && begin_fits layout b g s access then begins_next index p n b g s else None
after_claim layout claims index p (End q n outcome) = if nat_eq q p then ends_at claims index p n outcome else None
after_claim layout claims index p (Crash q b) = if nat_eq q p then crashes_at index b p else None

-- before any mark, of so many bricks
abbrev pub IsFirst : Index → ℕ → Type 0
IsFirst index bricks = (index.found ≡ []) × (length index.crashes ≡ bricks)

-- the life of operation n, by what is kept once so many marks have come
abbrev pub life_at : List ParsedMark → Index → ℕ → ℕ → Option Life
life_at claims index past zero = None
life_at claims index past (suc k) = option_map (life_in claims index.crashes past) (slice_get index.found k)

-- what is kept shows these marks, so many: the life of each operation
pub record Shows (claims : List ParsedMark) (marks : List Mark) (past : ℕ) (index : Index) : Type 0 where
  pub lives : (n : ℕ) → life_of marks n ≡ life_at claims index past n
  pub count : length (begun_numbers marks) ≡ length index.found
  pub bounded : (k : ℕ) (o : Operation) → slice_get index.found k ≡ Some o
      → (o.brick < length index.crashes) × (o.crashes ≤ length (crashes_of index.crashes o.brick))

-- the last position at which an operation may happen
abbrev pub reach : Option ℕ → Option ℕ → ℕ → ℕ
reach (Some p) crash past = p
reach None (Some p) past = p
reach None None past = past

-- the data of an answer
abbrev pub data_said : ParsedAnswer → Option (List ℕ)
data_said (Data bytes) = Some bytes
data_said Done = None
data_said (Aborted reason) = None

abbrev pub data_at : List ParsedMark → Option ℕ → Option (List ℕ)
data_at claims None = None
data_at claims (Some p) = data_said (outcome_at claims p)
