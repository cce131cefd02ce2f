-- How what a coordinator answers its brick, what it holds then and what it tells stand for what the machine decides.
use Rattle.std.specs.Prelude.{◌≡◌, ℕ, ◌<◌, ◌-◌, ◌*◌, ◌^◌, Bool, true, false, if◌then◌else◌, length, Option}
use Rattle.fab_base.specs.declared.identities.BrickId.{BrickId}
use Rattle.fab_base.specs.declared.stamps.Stamp.{Stamp}
use Rattle.messages.specs.declared.packets.Message.{Message}
use Rattle.messages.specs.declared.turns.Next.{Next}
use Rattle.messages.specs.declared.turns.Next.TheVariants.{Send, Wait, End, Recover}
use Rattle.messages.specs.declared.turns.Turn.{Turn}
use Rattle.protocol.specs.Coordinators as machine
use Rattle.protocol.specs.declared.phases.Phase.TheVariants.{Recovers, Descends}
use Rattle.protocol.specs.Coordinators.{Coordinator, in_phase, restoring}
use Rattle.stripe_code.specs.Codes.{block_code}
use Rattle.coord_phase.specs.declared.operations.News.{News}
use Rattle.coord_phase.specs.Operations.{Operation, StaysAsked, seen_in, stored_in, counts}
use Rattle.coord_phase.specs.Messages.{phase_messages}

-- a phase begins, which makes the operation's version where that is new
abbrev pub begins_in : News → Coordinator → machine.Next
begins_in News.Nothing c = machine.Sends c
begins_in News.Made c = machine.Makes c
begins_in (News.Seen version) c = machine.Sends c
begins_in News.Stored c = machine.Sends c

-- The machine's word for what an operation answers to a reply that counts, and holds then. Where its stripe is to be recovered, the recovery is
-- the call's next phase; one that begins with the store makes no version, since that was told as the operation began to modify.
abbrev pub decision : Operation → Next → machine.Next
decision after Wait = machine.Waits after.state
decision after (Send messages) = begins_in after.news after.state
decision after (End answer) = machine.Ends answer (seen_in after.news) (stored_in after.news after.state.stamp)
decision after (Recover Turn.Order) = machine.Sends (in_phase after.state Recovers)
decision after (Recover (Turn.Down bound)) = machine.Sends (in_phase after.state (Descends bound))
decision after (Recover (Turn.Store base content)) = machine.Sends (restoring after.block after.state base content)

-- what is sent are the messages of the phase that the operation is in then
abbrev pub SendsPhase : Operation → Next → Type 0
SendsPhase after (Send messages) = messages.items ≡ phase_messages after
SendsPhase after Wait = Unit {0}
SendsPhase after (End answer) = Unit {0}
SendsPhase after (Recover turn) = Unit {0}

-- messages are sent
abbrev pub IsSend : Next → Type 0
IsSend (Send messages) = Unit {0}
IsSend Wait = ⊥
IsSend (End answer) = ⊥
IsSend (Recover turn) = ⊥

-- no recovery is asked for
abbrev pub NeverRecovers : Next → Type 0
NeverRecovers (Send messages) = Unit {0}
NeverRecovers Wait = Unit {0}
NeverRecovers (End answer) = Unit {0}
NeverRecovers (Recover turn) = ⊥

-- where a recovery begins with the store of a version, that is m blocks of this many bytes
abbrev pub HasBlocks : ℕ → ℕ → Turn → Type 0
HasBlocks block m Turn.Order = Unit {0}
HasBlocks block m (Turn.Down bound) = Unit {0}
HasBlocks block m (Turn.Store base content) = length content ≡ m * block

-- A recovery may be asked for, by a coordinator that is as it was, and has a next phase.
pub record MayRecover (may : Bool) (block : ℕ) (turn : Turn) (before after : Coordinator) : Type 0 where
  pub may_be : may ≡ true
  pub blocks : HasBlocks block after.group.m turn
  pub room : after.call.phase < 2 ^ 32 - 1
  pub same : after ≡ before

-- a recovery is asked for only where it may be
abbrev pub AsksRecovery : Bool → ℕ → Next → Coordinator → Coordinator → Type 0
AsksRecovery may block (Send messages) before after = Unit {0}
AsksRecovery may block Wait before after = Unit {0}
AsksRecovery may block (End answer) before after = Unit {0}
AsksRecovery may block (Recover turn) before after = MayRecover may block turn before after

-- nothing is done
abbrev pub IsWait : Next → Type 0
IsWait Wait = Unit {0}
IsWait (Send messages) = ⊥
IsWait (End answer) = ⊥
IsWait (Recover turn) = ⊥

-- the machine's decision on a message, where a new round would have this fresh stamp
abbrev pub decided_on : Option Stamp → Operation → BrickId → Message → machine.Next
decided_on fresh op from (Message.Reply call reply) =
    machine.on_reply op.block (block_code op.block) fresh op.state from call reply
decided_on fresh op from message = machine.Ignores

-- An operation that heard a message answers and holds what the machine decides, with its news: after a message that does not count it waits, as it was.
pub record Answers (fresh : Option Stamp) (before : Operation) (from : BrickId) (message : Message) (answered : Next)
    (after : Operation) : Type 0 where
  pub decided : decided_on fresh before from message ≡ (if counts before from message then decision after answered else machine.Ignores)
  pub ignored : counts before from message ≡ false → IsWait answered × (after.state ≡ before.state)
  pub sent : SendsPhase after answered
  pub stays : StaysAsked before after
