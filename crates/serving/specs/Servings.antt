-- A serving brick, and what it does in a turn.
use Rattle.std.specs.Prelude.{◌≡◌, ◌<◌, ℕ, ◌+◌, nat_le, if◌then◌else◌, List, [], ◌∷◌, ◌++◌, map, Option, Some, None}
use Rattle.fab_base.specs.declared.answers.Answer.{Answer}
use Rattle.fab_base.specs.declared.answers.Refusal.{Refusal}
use Rattle.fab_base.specs.declared.identities.BrickId.{BrickId}
use Rattle.messages.specs.declared.clients.ClientAnswer.{ClientAnswer}
use Rattle.messages.specs.declared.clients.ClientAnswer.TheVariants.{Ended, Refused}
use Rattle.messages.specs.declared.packets.Message.{Message}
use Rattle.messages.specs.declared.packets.Message.TheVariants.{ClientReply}
use Rattle.messages.specs.declared.packets.Packet.{Packet}
use Rattle.protocol.specs.declared.tellings.Answered.{Answered}
use Rattle.protocol.specs.Nodes as machine
use Rattle.protocol.specs.Nodes.{NodeStep, put, refusal_of, invoked, received, ticked}
use Rattle.protocol.specs.Settings.{Setting}
use Rattle.serving.specs.declared.clients.Client.{Client}
use Rattle.serving.specs.declared.incomings.Incoming.{Incoming}
use Rattle.serving.specs.declared.incomings.Incoming.TheVariants.{Nothing, Malformed, Dropped, Handed, Asked}
use Rattle.serving.specs.declared.ports.Ports.{Ports}
use Rattle.serving.specs.Ports.{port_of, ports_of}

-- a serving brick: the machine's brick, the clients that wait for answers, by the numbers of their operations' calls, and the moment of the last tick
pub record Serving : Type 0 where
  pub node : machine.Node
  pub waiting : ℕ → Option Client
  pub ticked : ℕ

-- one that begins to serve: no client waits, and no tick was
abbrev pub begun : machine.Node → Serving
begun node = record { node = node; waiting = λ seq. None; ticked = 0 }

-- no client waits for a call that was not made yet
abbrev pub HasNoClient : Serving → Type 0
HasNoClient serving = (seq : ℕ) → serving.node.seq < seq → serving.waiting seq ≡ None

-- what a turn leaves, and the messages that it sends, each to a port, in order
pub record Served : Type 0 where
  pub serving : Serving
  pub sends : List (ℕ × Message)

-- nothing is done
abbrev pub idle : Serving → Served
idle serving = record { serving = serving; sends = [] }

-- each packet goes to its receiver's port
abbrev pub to_ports : Ports → List Packet → List (ℕ × Message)
to_ports ports packets = map (λ packet. (port_of ports packet.to, packet.message)) packets

-- an answer to a client goes to its port, with its own number
abbrev pub answer_to : Client → ClientAnswer → ℕ × Message
answer_to client answer = (client.port, ClientReply client.id answer)

-- the answer for a client, if one waits for it
abbrev pub answer_for : Option Client → Answer → List (ℕ × Message)
answer_for None answer = []
answer_for (Some client) answer = answer_to client (Ended answer) ∷ []

-- the answers go to the clients that wait for them
abbrev pub answers_for : (ℕ → Option Client) → List Answered → List (ℕ × Message)
answers_for waiting [] = []
answers_for waiting (answered ∷ more) = answer_for (waiting answered.seq) answered.answer ++ answers_for waiting more

-- and these wait no more
abbrev pub still_waiting : (ℕ → Option Client) → List Answered → ℕ → Option Client
still_waiting waiting [] = waiting
still_waiting waiting (answered ∷ more) = still_waiting (put waiting answered.seq None) more

-- the machine's step at a message: what it sends, and then the answers
abbrev pub stepped : Ports → Serving → NodeStep → Served
stepped ports serving step =
    record {
      serving = record serving { node = step.node; waiting = still_waiting serving.waiting step.answers };
      sends = to_ports ports step.packets ++ answers_for serving.waiting step.answers;
    }

-- an operation that begins has its client wait; a refusal is answered at once
abbrev pub asked_by : Ports → Serving → Client → NodeStep → Option Refusal → Served
asked_by ports serving client step None =
    record {
      serving = record serving { node = step.node; waiting = put serving.waiting step.node.seq (Some client) };
      sends = to_ports ports step.packets;
    }
asked_by ports serving client step (Some reason) =
    record { serving = serving; sends = answer_to client (Refused reason) ∷ [] }

-- how long it is from a tick to the next, in milliseconds
abbrev pub tick_time : ℕ
tick_time = 100

-- where nothing came, there is a tick once it is time for one
abbrev pub waited : Setting → BrickId → Serving → ℕ → Served
waited setting me serving now =
    if nat_le (serving.ticked + tick_time) now
    then record { serving = record serving { ticked = now }; sends = to_ports (ports_of setting.layout) (ticked setting me serving.node) }
    else idle serving

-- what a brick does with what came, at this moment
unfoldable pub served : Setting → BrickId → Serving → Incoming → ℕ → Served
served setting me serving Nothing now = waited setting me serving now
served setting me serving Malformed now = idle serving
served setting me serving Dropped now = idle serving
served setting me serving (Handed packet) now =
    stepped (ports_of setting.layout) serving (received setting me now serving.node packet)
served setting me serving (Asked client ask) now =
    asked_by (ports_of setting.layout) serving client (invoked setting me now serving.node ask) (refusal_of setting.layout serving.node ask)
