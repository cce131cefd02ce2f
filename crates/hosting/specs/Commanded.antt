-- The range of a command, and how its client asks for the operations of that.
use Rattle.std.specs.Prelude.{◌≡◌, ℕ, ◌+◌, ◌*◌, ◌≤◌, nat_lt, Bool, if◌then◌else◌, List, [], ◌∷◌, length, Option, Some, None, Result, Err}
use Rattle.std.specs.List.{list_all}
use Rattle.fab_base.specs.declared.answers.Answer.{Answer}
use Rattle.fab_base.specs.declared.answers.Refusal.{Refusal}
use Rattle.fab_base.specs.declared.answers.Refusal.TheVariants.{Down}
use Rattle.fab_base.specs.declared.asks.Op.{Op}
use Rattle.fab_base.specs.declared.asks.Op.TheVariants.{ReadBlock, WriteBlock, ReadStripe, WriteStripe}
use Rattle.fab_base.specs.declared.asks.Ask.{Ask}
use Rattle.fab_base.specs.Layouts.{Layout, group_of}
use Rattle.fab_io.specs.declared.links.Datagram.{Datagram}
use Rattle.fab_base.specs.Asks.{bytes_by}
use Rattle.front.specs.Pieces.{Part}
use Rattle.front.specs.Ranges.{Progress, begun, next_of, next_ask, after_end}
use Rattle.front.specs.declared.steps.RangeStep.{RangeStep}
use Rattle.front.specs.declared.steps.RangeStep.TheVariants as step
use Rattle.layout.specs.Places.{blocks_of}
use Rattle.hosting.specs.declared.commands.Access.{Access}
use Rattle.hosting.specs.declared.commands.Access.TheVariants.{Read, Write}
use Rattle.hosting.specs.declared.commands.Command.{Command}
use Rattle.hosting.specs.declared.clients.Standing.{Standing}
use Rattle.hosting.specs.declared.clients.Standing.TheVariants.{Waits, Ended}
use Rattle.hosting.specs.Asks.{ask_datagram, wanted_in}

-- ---- the range of a command

abbrev pub is_ascii : List ℕ → Bool
is_ascii name = list_all (λ byte. nat_lt byte 128) name

-- a volume's name; one that is not in ASCII is no volume's, as the empty one
abbrev pub name_of : List ℕ → List ℕ
name_of name = if is_ascii name then name else []

-- how many bytes are read or written, and which are written
abbrev pub count_of : Access → ℕ
count_of (Read count) = count
count_of (Write bytes) = length bytes

abbrev pub content_of : Access → Option (List ℕ)
content_of (Read count) = None
content_of (Write bytes) = Some bytes

-- the range of a command that begins
abbrev pub range_of : Layout → Command → Progress
range_of layout command = begun layout (name_of command.volume) command.byte (count_of command.access) (content_of command.access)

-- a brick that there is not has each operation refused as if it were down
abbrev pub refused_by : RangeStep → Progress → Progress
refused_by (step.Ask ask) progress = after_end progress (Err Down)
refused_by (step.End answer) progress = progress

abbrev pub opened : Layout → Command → Progress
opened layout command =
    if nat_lt command.brick layout.bricks then range_of layout command
    else refused_by (next_of (range_of layout command)) (range_of layout command)

-- ---- the client

-- how many datagrams a client sent, and the range of the command that it runs
pub record Asking : Type 0 where
  pub sent : ℕ
  pub range : Progress

-- how many it sent once it asked for the operation that a range wants next, and the datagram of that
abbrev pub sent_by : ℕ → RangeStep → ℕ
sent_by sent (step.Ask ask) = sent + 1
sent_by sent (step.End answer) = sent

abbrev pub asks_by : ℕ → ℕ → RangeStep → List Datagram
asks_by port sent (step.Ask ask) = ask_datagram port (sent + 1) ask ∷ []
asks_by port sent (step.End answer) = []

-- it asks for the operation that this range wants next, with the next number
abbrev pub asking : ℕ → Progress → Asking
asking sent range = record { sent = sent_by sent (next_of range); range = range }

-- a round ends the operation that it waits for, and it asks for the next one; or it does not
abbrev pub after_round : Asking → Option (Result Answer Refusal) → Asking
after_round before None = before
after_round before (Some end) = asking before.sent (after_end before.range end)

abbrev pub asks_after : ℕ → Asking → Option (Result Answer Refusal) → List Datagram
asks_after port before None = []
asks_after port before (Some end) = asks_by port before.sent (next_of (after_end before.range end))

-- ---- what a range wants

-- the data blocks that an operation is on
abbrev pub blocks_asked : ℕ → Op → ℕ
blocks_asked m (ReadBlock j) = 1
blocks_asked m (WriteBlock j bytes) = 1
blocks_asked m ReadStripe = m
blocks_asked m (WriteStripe bytes) = m

abbrev pub bytes_asked : Layout → Ask → ℕ
bytes_asked layout ask = blocks_asked (blocks_of (group_of layout ask.group.0)) ask.op * layout.block

-- an operation that is left is on as many data blocks as its layout says, and its bytes have room in a datagram
pub record IsPart (layout : Layout) (part : Part) : Type 0 where
  pub blocks : part.blocks * layout.block ≡ bytes_asked layout part.ask
  pub bytes : length (bytes_by part.ask.op) ≤ 32768

abbrev pub AreParts : Layout → List Part → Type 0
AreParts layout [] = Unit {0}
AreParts layout (part ∷ parts) = IsPart layout part × AreParts layout parts

pub record IsRangeOf (layout : Layout) (range : Progress) : Type 0 where
  pub block : range.block ≡ layout.block
  pub parts : AreParts layout range.left

-- a range waits for this reply, or it has ended
abbrev pub Stands : Progress → Standing → Type 0
Stands range (Waits wanted) = ((ask : Ask) × (next_of range ≡ step.Ask ask)) × (wanted ≡ wanted_in range)
Stands range Ended = next_ask range ≡ None
