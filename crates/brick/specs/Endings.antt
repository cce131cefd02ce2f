-- How a program ends: its exit status, and its last text.
use Rattle.std.specs.Prelude.{◌≡◌, ◌⊎◌, ℕ, List, [], ◌∷◌, ◌++◌, codes, Option}
use Rattle.std.specs.Fmt.{decimal}
use Rattle.std.specs.Io.KnownBytes.{Appends, Keeps}
use Rattle.fab_base.specs.declared.identities.BrickId.{BrickId}
use Rattle.fab_io.specs.Ends.{AppendsFront}
use Rattle.layout.specs.Names.{fault_text}
use Rattle.nbd_front.specs.declared.steps.End.{End}
use Rattle.nbd_front.specs.declared.steps.End.TheVariants.{Disc, Abort, Eof, Dropped, NoExport, Turns}
use Rattle.brick.specs.declared.endings.Ending.{Ending}
use Rattle.brick.specs.declared.endings.Ending.TheVariants.{Formatted, Ended, Commanded, Served, Usage, BadLayout, LongLayout, Source, Sink, Memory, Disk, Host, NotAStore, Worn}

abbrev pub newline : List ℕ
newline = 10 ∷ []

-- the exit status
abbrev pub status_of : Ending → ℕ
status_of (Formatted me) = 0
status_of (Ended turns malformed) = 0
status_of Commanded = 0
status_of (Served end) = 0
status_of Usage = 2
status_of (BadLayout fault) = 3
status_of LongLayout = 3
status_of Source = 5
status_of Sink = 6
status_of Memory = 7
status_of Disk = 9
status_of Host = 10
status_of NotAStore = 11
status_of Worn = 12

-- the usage line
abbrev pub usage_text : List ℕ
usage_text = codes "usage: brick format LAYOUT DISK ID | serve LAYOUT DISK ID TURNS | local LAYOUT PREFIX TURNS | nbd LAYOUT PREFIX TCPPORT TURNS" ++ newline

-- what a brick says before its first turn
abbrev pub serving_text : BrickId → List ℕ
serving_text me = codes "serving " ++ (decimal me.0 ++ newline)

-- how a session ended
abbrev pub session_text : End → List ℕ
session_text Disc = codes "nbd disc" ++ newline
session_text Abort = codes "nbd abort" ++ newline
session_text Eof = codes "nbd end" ++ newline
session_text Dropped = codes "nbd dropped" ++ newline
session_text NoExport = codes "nbd noexport" ++ newline
session_text Turns = codes "nbd turns" ++ newline

-- the last text; none where commands were run, the source or the sink failed, or no memory was left
abbrev pub text_of : Ending → List ℕ
text_of (Formatted me) = codes "formatted " ++ (decimal me.0 ++ newline)
text_of (Ended turns malformed) = codes "ended " ++ (decimal turns ++ (codes " malformed " ++ (decimal malformed ++ newline)))
text_of Commanded = []
text_of (Served end) = session_text end
text_of Usage = usage_text
text_of (BadLayout fault) = codes "bad layout: " ++ (fault_text fault ++ newline)
text_of LongLayout = codes "bad layout: limit layout" ++ newline
text_of Source = []
text_of Sink = []
text_of Memory = []
text_of Disk = codes "disk" ++ newline
text_of Host = codes "host" ++ newline
text_of NotAStore = codes "not a store" ++ newline
text_of Worn = codes "worn" ++ newline

-- A program that was to end with this text and this status did: the sink took the text. Or the sink failed, and took some of it, from
-- its front; or no memory was left for it.
abbrev pub Prints : Option (List ℕ) → Option (List ℕ) → List ℕ → ℕ → ℕ → Type 0
Prints old new text wanted status =
    ((status ≡ wanted) × Appends old new text) ⊎ (((status ≡ 6) × AppendsFront old new text) ⊎ ((status ≡ 7) × Keeps old new))

-- the work was done, or no memory was left
abbrev pub IsDone : Ending → Type 0
IsDone (Formatted me) = Unit {0}
IsDone (Ended turns malformed) = Unit {0}
IsDone Commanded = Unit {0}
IsDone (Served end) = Unit {0}
IsDone Memory = Unit {0}
IsDone other = ⊥
