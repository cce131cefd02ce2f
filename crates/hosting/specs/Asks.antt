-- What a client asks of a brick for an operation, and what it takes for the reply.
use Rattle.std.specs.Prelude.{◌≡◌, ℕ, ◌*◌, ◌==◌, Bool, true, false, List, [], ◌∷◌, length, Option, Some, None, Result, Ok, Err}
use Rattle.fab_base.specs.declared.answers.Answer.{Answer}
use Rattle.fab_base.specs.declared.answers.Answer.TheVariants as answer
use Rattle.fab_base.specs.declared.answers.Refusal.{Refusal}
use Rattle.fab_base.specs.declared.asks.Ask.{Ask}
use Rattle.fab_base.specs.declared.asks.Op.{Op}
use Rattle.fab_base.specs.declared.asks.Op.TheVariants.{ReadBlock, WriteBlock, ReadStripe, WriteStripe}
use Rattle.fab_io.specs.declared.links.Datagram.{Datagram}
use Rattle.fab_wire.specs.Spelling.{Spells, fields_of}
use Rattle.fields.specs.Parts.{spelled}
use Rattle.front.specs.Pieces.{Part}
use Rattle.front.specs.Ranges.{Progress}
use Rattle.messages.specs.declared.clients.ClientAnswer.{ClientAnswer}
use Rattle.messages.specs.declared.clients.ClientAnswer.TheVariants.{Ended, Refused}
use Rattle.messages.specs.Clients.{client_ask}
use Rattle.messages.specs.declared.packets.Message.TheVariants.{Client, ClientReply}
use Rattle.hosting.specs.declared.replies.Wanted.{Wanted}
use Rattle.hosting.specs.declared.replies.Wanted.TheVariants.{Bytes, Done}

-- the datagram that asks the brick of a port for an operation
abbrev pub ask_datagram : ℕ → ℕ → Ask → Datagram
ask_datagram port id ask = record { port = port; bytes = spelled (fields_of (Client (client_ask id ask))) }

-- how an operation ended, as its reply says it
abbrev pub end_of : ClientAnswer → Result Answer Refusal
end_of (Ended ended) = Ok ended
end_of (Refused refusal) = Err refusal

-- what an operation on so many bytes is to be answered, unless it is aborted or refused: so many for a read, and that it is done for a write
abbrev pub wanted_of : Op → ℕ → Wanted
wanted_of (ReadBlock j) count = Bytes count
wanted_of (WriteBlock j bytes) count = Done
wanted_of ReadStripe count = Bytes count
wanted_of (WriteStripe bytes) count = Done

abbrev pub wanted_by : ℕ → List Part → Wanted
wanted_by block [] = Done
wanted_by block (part ∷ parts) = wanted_of part.ask.op (part.blocks * block)

-- what a range is to be answered for the operation that it waits for
abbrev pub wanted_in : Progress → Wanted
wanted_in progress = wanted_by progress.block progress.left

-- an abort, bytes of the wanted number, or that it is done
abbrev pub answers : Wanted → Answer → Bool
answers wanted (answer.Aborted cause) = true
answers (Bytes count) (answer.Data came) = length came == count
answers Done answer.Done = true
answers wanted other = false

-- or a refusal
abbrev pub ends : Wanted → Result Answer Refusal → Bool
ends wanted (Err refusal) = true
ends wanted (Ok ended) = answers wanted ended

-- A datagram is the reply to the invocation of this number: it comes from the port that was asked, and says an end of the operation.
pub record IsReply (port id : ℕ) (wanted : Wanted) (datagram : Datagram) (said : ClientAnswer) : Type 0 where
  pub from : datagram.port ≡ port
  pub says : Spells datagram.bytes (ClientReply id said)
  pub ends : ends wanted (end_of said) ≡ true

-- what a look gave is the reply, which is taken, and the operation ended so; or it is dropped, and the operation did not end
abbrev pub Hears : ℕ → ℕ → Wanted → Option Datagram → Option (Result Answer Refusal) → Type 0
Hears port id wanted None None = Unit {0}
Hears port id wanted None (Some end) = ⊥
Hears port id wanted (Some datagram) None = (said : ClientAnswer) → IsReply port id wanted datagram said → ⊥
Hears port id wanted (Some datagram) (Some end) = (said : ClientAnswer) × IsReply port id wanted datagram said × (end ≡ end_of said)
