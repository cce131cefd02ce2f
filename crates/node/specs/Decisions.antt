-- What an open operation does with a message, as the machine says it.
use Rattle.std.specs.Prelude.{◌≡◌, ℕ, max, List, [], ◌∷◌, Option, Some, None}
use Rattle.std.specs.Option.{option_map}
use Rattle.fab_base.specs.declared.identities.BrickId.{BrickId}
use Rattle.fab_base.specs.declared.stamps.Stamp.{Stamp}
use Rattle.messages.specs.declared.packets.Message.{Message}
use Rattle.messages.specs.declared.packets.Packet.{Packet}
use Rattle.messages.specs.declared.turns.Next.{Next}
use Rattle.messages.specs.declared.turns.Next.TheVariants.{Send, Wait, End, Recover}
use Rattle.fab_base.specs.Layouts.{Layout}
use Rattle.protocol.specs.declared.tellings.Told.{Told}
use Rattle.protocol.specs.declared.tellings.Told.TheVariants.{Made}
use Rattle.protocol.specs.declared.tellings.Answered.{Answered}
use Rattle.protocol.specs.Coordinators as machine
use Rattle.protocol.specs.Coordinators.{Coordinator}
use Rattle.protocol.specs.Nodes.{phase_packets, collect_packets, seen_told}
use Rattle.stripe_code.specs.Codes.{coding}
use Rattle.coord_phase.specs.Messages.{packets_from}
use Rattle.node.specs.declared.operations.Operation.{Operation}
use Rattle.node.specs.Operations.{shown_of, coordinator_of}
use Rattle.node.specs.Outcomes.{Outcome}

-- the messages that are sent; none where nothing is
abbrev pub messages_in : Next → List (BrickId × Message)
messages_in (Send messages) = messages.items
messages_in Wait = []
messages_in (End answer) = []
messages_in (Recover turn) = []

-- where a coordinator leaves a reply out, it waits as it was
abbrev pub or_waits : Coordinator → machine.Next → machine.Next
or_waits c machine.Ignores = machine.Waits c
or_waits c (machine.Waits d) = machine.Waits d
or_waits c (machine.Sends d) = machine.Sends d
or_waits c (machine.Makes d) = machine.Makes d
or_waits c (machine.Ends answer seen stored) = machine.Ends answer seen stored

-- what a decision of this coordinator sends
abbrev pub packets_in : Layout → BrickId → Coordinator → machine.Next → List Packet
packets_in layout me c machine.Ignores = []
packets_in layout me c (machine.Waits d) = []
packets_in layout me c (machine.Sends d) = phase_packets (coding layout) me d
packets_in layout me c (machine.Makes d) = phase_packets (coding layout) me d
packets_in layout me c (machine.Ends answer seen stored) = collect_packets me c stored

-- what it tells of the operation of the call of this number
abbrev pub told_in : ℕ → machine.Next → List Told
told_in seq machine.Ignores = []
told_in seq (machine.Waits d) = []
told_in seq (machine.Sends d) = []
told_in seq (machine.Makes d) = Made seq d.stamp d.base ∷ []
told_in seq (machine.Ends answer seen stored) = seen_told seq seen

-- and what it answers it
abbrev pub answers_in : ℕ → machine.Next → List Answered
answers_in seq machine.Ignores = []
answers_in seq (machine.Waits d) = []
answers_in seq (machine.Sends d) = []
answers_in seq (machine.Makes d) = []
answers_in seq (machine.Ends answer seen stored) = record { seq = seq; answer = answer } ∷ []

-- the greatest time that a brick knows then: with a new round that of the round's stamp too
abbrev pub known_by : ℕ → machine.Next → ℕ
known_by known (machine.Sends d) = max known d.stamp.time
known_by known next = known

-- the coordinator that it leaves open
abbrev pub left_by : machine.Next → Option Coordinator
left_by machine.Ignores = None
left_by (machine.Waits d) = Some d
left_by (machine.Sends d) = Some d
left_by (machine.Makes d) = Some d
left_by (machine.Ends answer seen stored) = None

-- it does not end
abbrev pub NeverEnds : machine.Next → Type 0
NeverEnds machine.Ignores = Unit {0}
NeverEnds (machine.Waits d) = Unit {0}
NeverEnds (machine.Sends d) = Unit {0}
NeverEnds (machine.Makes d) = Unit {0}
NeverEnds (machine.Ends answer seen stored) = ⊥

-- the messages are those of the operation's phase
abbrev pub SendsPhase : Layout → Operation → List (BrickId × Message) → Type 0
SendsPhase layout op messages = (me : BrickId) → packets_from me messages ≡ phase_packets (coding layout) me (coordinator_of op)

-- what is asked where there is a version to be collected
abbrev pub Collects : Option Stamp → Type 0 → Type 0
Collects None P = Unit {0}
Collects (Some t) P = P

-- the operation that is left open by a step with these answers
abbrev pub left_open : List Answered → Operation → Option Operation
left_open [] op = Some op
left_open (answered ∷ answers) op = None

-- it is left open under the number of its call
abbrev pub KeepsCall : List Answered → Operation → Operation → Type 0
KeepsCall [] before after = (coordinator_of after).call.seq ≡ (coordinator_of before).call.seq
KeepsCall (answered ∷ answers) before after = Unit {0}

-- An operation does what is decided: it sends, tells and answers that, reports nothing, and is what that leaves open. The brick knew this time before, and
-- knows this one later.
pub record CarriesOut (layout : Layout) (before after : Operation) (known later : ℕ) (next : machine.Next) (outs : Outcome) : Type 0 where
  pub packets : (me : BrickId) → packets_from me outs.messages ≡ packets_in layout me (coordinator_of before) next
  pub told : outs.told ≡ told_in (coordinator_of before).call.seq next
  pub answers : outs.answers ≡ answers_in (coordinator_of before).call.seq next
  pub reports : outs.reports ≡ []
  pub knows : later ≡ known_by known next
  pub left : left_by next ≡ option_map coordinator_of (left_open outs.answers after)
  pub keeps : KeepsCall outs.answers before after
  pub block : (shown_of after).block ≡ (shown_of before).block
