-- What the calls of a history write in it.
use Rattle.std.specs.Prelude.{◌≡◌, ℕ, ◌+◌, false, not, List, [], ◌∷◌, ◌++◌, length, Some, None, is_some, unwrap_or, get_or, vec_len, vec_capacity}
use Rattle.fab_base.specs.declared.asks.Ask.{Ask}
use Rattle.fab_base.specs.declared.asks.Op.TheVariants.{ReadStripe}
use Rattle.fab_base.specs.declared.identities.BrickId.{BrickId}
use Rattle.messages.specs.declared.calls.Call.{Call}
use Rattle.reg_model.specs.declared.marks.Mark.TheVariants.{Begin, End, Crash}
use Rattle.coord_phase.specs.Messages.{packets_from}
use Rattle.node.specs.Outcomes.{Outcome}
use Rattle.node.specs.declared.outs.Begun.{Begun}
use Rattle.protocol.specs.Happenings.{writes}
use Rattle.protocol.specs.Nodes.{put}
use Rattle.protocol.specs.Worlds.{is_answer, reports_of}
use Rattle.protocol.specs.declared.tellings.Answered.{Answered}
use Rattle.protocol.specs.declared.tellings.Report.{Report}
use Rattle.protocol.specs.declared.tellings.Told.{Told}
use Rattle.protocol.specs.declared.tellings.Told.TheVariants.{Made, Seen, Began, Closed}
use Rattle.world.specs.CallNumbers.{calls_in, call_at}
use Rattle.world.specs.Shown.{ChangesAt, made_kept, seen_kept, ended_kept, mark_kept}
use Rattle.world.specs.declared.call_numbers.CallNumbers.{CallNumbers}
use Rattle.world.specs.declared.histories.History.{History}
use Rattle.world.specs.declared.histories.OperationRecord.{OperationRecord}

-- nothing was written: only the room in its lists may be another
pub record IsSameHistory (old new : History) : Type 0 where
  pub sent : new.sent.packets.items ≡ old.sent.packets.items
  pub reached : (k : ℕ) → get_or new.delivered.reached.items k false ≡ get_or old.delivered.reached.items k false
  pub marks : new.marks.items ≡ old.marks.items
  pub reports : new.reports.items ≡ old.reports.items
  pub operations : new.operations.items ≡ old.operations.items
  pub marked : new.marked.items ≡ old.marked.items
  pub calls : (i : ℕ) → calls_in new.calls i ≡ calls_in old.calls i

-- the calls of each brick, where the next of this one is of the operation of a number, or of none if it is 0
abbrev pub calls_with : CallNumbers → ℕ → ℕ → ℕ → List ℕ
calls_with calls b number = put (calls_in calls) b (calls_in calls b ++ number ∷ [])

-- what is kept of an operation that began at a position
abbrev pub begun_kept : BrickId → ℕ → ℕ → ℕ → ℕ → Ask → OperationRecord
begun_kept brick boot seq begin mark ask =
    record {
      brick = brick;
      boot = boot;
      seq = seq;
      begin = begin;
      group = ask.group;
      stripe = ask.stripe;
      version = None;
      made = false;
      base = None;
      writes = writes ask.op;
      answered = false;
      mark = mark;
    }

-- An operation began under its brick's next call, which a client asked for: it is the next that has marks, its Begin is the next mark, and it sends this.
pub record NotesBegin (old new : History) (brick : BrickId) (boot : ℕ) (ask : Ask) (begun : Begun) : Type 0 where
  pub sent : new.sent.packets.items ≡ old.sent.packets.items ++ packets_from brick begun.messages.items
  pub marks : new.marks.items ≡ old.marks.items ++ Begin (length old.marks.items) (length old.marked.items + 1) brick ask ∷ []
  pub operations : new.operations.items
      ≡ old.operations.items ++ begun_kept brick boot begun.seq (length old.marks.items) (length old.marked.items + 1) ask ∷ []
  pub marked : new.marked.items ≡ old.marked.items ++ (length old.operations.items + 1) ∷ []
  pub calls : (i : ℕ) → calls_in new.calls i ≡ calls_with old.calls brick.0 (length old.operations.items + 1) i
  pub rest : new ≡ record old { sent = new.sent; marks = new.marks; operations = new.operations; marked = new.marked; calls = new.calls }

-- A read of a synchronisation, or a scrub, began under its brick's next call: an operation without marks.
pub record NotesRead (old new : History) (brick : BrickId) (call : Call) : Type 0 where
  pub operations : new.operations.items
      ≡ old.operations.items
      ++ begun_kept brick call.boot call.seq (length old.marks.items) 0 (record { group = call.group; stripe = call.stripe; op = ReadStripe }) ∷ []
  pub calls : (i : ℕ) → calls_in new.calls i ≡ calls_with old.calls brick.0 (length old.operations.items + 1) i
  pub rest : new ≡ record old { operations = new.operations; calls = new.calls }

-- a brick stopped: it has made no call then
pub record NotesCrash (old new : History) (brick : BrickId) : Type 0 where
  pub marks : new.marks.items ≡ old.marks.items ++ Crash (length old.marks.items) brick ∷ []
  pub calls : (i : ℕ) → calls_in new.calls i ≡ put (calls_in old.calls) brick.0 [] i
  pub rest : new ≡ record old { marks = new.marks; calls = new.calls }

-- the number of the operation of a brick's call, 0 where there is none
abbrev pub number_in : History → ℕ → ℕ → ℕ
number_in history b seq = unwrap_or (call_at (calls_in history.calls b) seq) 0

-- what is kept of the operation of a brick's call changed, if there is one, and nothing else
pub record ChangesCall (old new : History) (b seq : ℕ) (change : OperationRecord → OperationRecord) : Type 0 where
  pub changed : ChangesAt old.operations.items new.operations.items (number_in old b seq) change
  pub count : vec_len new.operations ≡ vec_len old.operations
  pub room : vec_capacity new.operations ≡ vec_capacity old.operations
  pub rest : new ≡ record old { operations = new.operations }

-- this was told of an operation
abbrev pub NotesOne : BrickId → Told → History → History → Type 0
NotesOne brick (Made seq stamp base) old new = ChangesCall old new brick.0 seq (made_kept stamp base)
NotesOne brick (Seen seq stamp) old new = ChangesCall old new brick.0 seq (seen_kept stamp)
NotesOne brick (Began call) old new = NotesRead old new brick call
NotesOne brick (Closed seq cause) old new = ChangesCall old new brick.0 seq (ended_kept (not (is_some cause)))

-- all this was told, one thing after another
abbrev pub NotesTold : BrickId → List Told → History → History → Type 0
NotesTold brick [] old new = new ≡ old
NotesTold brick (one ∷ more) old new = (mid : History) × NotesOne brick one old mid × NotesTold brick more mid new

-- the operation of a call was answered: its End is the next mark
pub record NotesEnd (old new : History) (b : ℕ) (one : Answered) : Type 0 where
  pub changed : ChangesAt old.operations.items new.operations.items (number_in old b one.seq) (ended_kept (is_answer one.answer))
  pub count : vec_len new.operations ≡ vec_len old.operations
  pub marks : (number : ℕ) → call_at (calls_in old.calls b) one.seq ≡ Some number
      → new.marks.items ≡ old.marks.items ++ End (length old.marks.items) (mark_kept new.operations.items number) one.answer ∷ []
  pub rest : new ≡ record old { operations = new.operations; marks = new.marks }

-- so were these, one after another
abbrev pub NotesEnds : BrickId → List Answered → History → History → Type 0
NotesEnds brick [] old new = new ≡ old
NotesEnds brick (one ∷ more) old new = (mid : History) × NotesEnd old mid brick.0 one × NotesEnds brick more mid new

-- What a step of a brick told, answered, sent and reported.
pub record NotesStep (old new : History) (brick : BrickId) (outs : Outcome) : Type 0 where
  pub heard : History
  pub told : NotesTold brick outs.told old heard
  pub ended : History
  pub answers : NotesEnds brick outs.answers heard ended
  pub sent : new.sent.packets.items ≡ ended.sent.packets.items ++ packets_from brick outs.messages
  pub reports : new.reports.items ≡ ended.reports.items ++ reports_of brick outs.reports
  pub rest : new ≡ record ended { sent = new.sent; reports = new.reports }

-- the calls of each brick, once one was asked to propose and reported this at once: where that is nothing, a call of no operation is one more
abbrev pub calls_aside : CallNumbers → ℕ → List Report → ℕ → List ℕ
calls_aside calls b [] = calls_with calls b 0
calls_aside calls b (report ∷ reports) = calls_in calls

-- What a brick sent and reported that was asked to propose.
pub record NotesProposal (old new : History) (brick : BrickId) (outs : Outcome) : Type 0 where
  pub sent : new.sent.packets.items ≡ old.sent.packets.items ++ packets_from brick outs.messages
  pub reports : new.reports.items ≡ old.reports.items ++ reports_of brick outs.reports
  pub calls : (i : ℕ) → calls_in new.calls i ≡ calls_aside old.calls brick.0 outs.reports i
  pub rest : new ≡ record old { sent = new.sent; reports = new.reports; calls = new.calls }
