-- What a scrub does with a message, as the machine says it.
use Rattle.std.specs.Prelude.{◌≡◌, ◌-◌, ◌<◌, ◌^◌, true, false, Option, None}
use Rattle.fab_base.specs.declared.answers.Answer.{Answer}
use Rattle.fab_base.specs.declared.identities.BrickId.{BrickId}
use Rattle.fab_base.specs.declared.stamps.Stamp.{Stamp}
use Rattle.messages.specs.declared.packets.Message.{Message}
use Rattle.protocol.specs.Coordinators as machine
use Rattle.protocol.specs.Coordinators.{in_phase}
use Rattle.protocol.specs.declared.phases.Phase.TheVariants.{Looks, Recovers}
use Rattle.protocol.specs.Jobs.{abort_cause}
use Rattle.protocol.specs.Scrubs.{scrub_answer}
use Rattle.coord_phase.specs.Operations.{counts, heard}
use Rattle.coord_phase.specs.Decisions.{decided_on}
use Rattle.coord_phase.specs.Messages.{phase_messages}
use Rattle.scrub.specs.declared.answers.ScrubNext.{ScrubNext}
use Rattle.scrub.specs.declared.answers.ScrubNext.TheVariants as next
use Rattle.scrub.specs.Scrubs.{Scrubbing}

-- these are the messages of its look
abbrev pub SendsLook : Scrubbing → ScrubNext → Type 0
SendsLook scrub (next.Send messages) = messages.items ≡ phase_messages scrub.look
SendsLook scrub next.Wait = ⊥
SendsLook scrub next.Recover = ⊥
SendsLook scrub (next.End answer) = ⊥

-- What it does and is then stands for the machine's decision, whatever stamp a new round would have. It waits. Its stripe is to be recovered: the next phase is
-- the order of a recovery, which has a number; and by the replies of its look it is to be noted who lags. It ends, clean where the read is answered a version that
-- all told, and else aborted for the same cause.
abbrev pub StandsFor : Scrubbing → ScrubNext → machine.Next → Type 0
StandsFor scrub (next.Send messages) decided = ⊥
StandsFor scrub next.Wait decided = decided ≡ machine.Waits scrub.look.state
StandsFor scrub next.Recover decided =
    (decided ≡ machine.Sends (in_phase scrub.look.state Recovers))
    × (scrub.look.state.call.phase < 2 ^ 32 - 1)
    × (scrub.look.state.phase ≡ Looks)
StandsFor scrub (next.End answer) decided =
    (given : Answer) × (decided ≡ machine.Ends given (machine.fast_version scrub.look.state.counted) None)
    × (answer ≡ scrub_answer scrub.lagging (abort_cause given) None)

-- if a message does not count, it waits as it was
abbrev pub WaitsOn : Scrubbing → ScrubNext → Scrubbing → Type 0
WaitsOn before next.Wait after = after ≡ before
WaitsOn before other after = ⊥

-- A scrub that heard a message does as the machine decides upon it; after one that does not count it waits, as it was.
pub record Hears (before : Scrubbing) (from : BrickId) (message : Message) (done : ScrubNext) (after : Scrubbing) : Type 0 where
  pub ignored : counts before.look from message ≡ false → WaitsOn before done after
  pub heard : after.look ≡ heard before.look from message
  pub stands : (fresh : Option Stamp) → counts before.look from message ≡ true → StandsFor after done (decided_on fresh before.look from message)
  pub kept : after.lagging ≡ before.lagging
