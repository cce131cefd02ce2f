-- What a scrub shows as it ended.
use Rattle.std.specs.Prelude.{◌≡◌, ℕ, ◌<◌, Bool, true, List, [], Option, Some, None, is_some, slice_get}
use Rattle.std.proofs.Common.{◌⊎◌}
use Rattle.fab_base.specs.declared.identities.BrickId.{BrickId}
use Rattle.fab_base.specs.declared.stamps.Stamp.{Stamp}
use Rattle.fab_base.specs.declared.answers.Cause.{Cause}
use Rattle.fab_base.specs.Layouts.{Group, seat_in}
use Rattle.messages.specs.declared.calls.Call.{Call}
use Rattle.messages.specs.declared.replies.Reply.{Reply}
use Rattle.messages.specs.declared.requests.Request.TheVariants as Request
use Rattle.protocol.specs.declared.phases.Counted.{Counted}
use Rattle.protocol.specs.declared.tellings.Report.{Report}
use Rattle.protocol.specs.declared.tellings.ScrubAnswer.{ScrubAnswer}
use Rattle.protocol.specs.declared.tellings.ScrubAnswer.TheVariants.{Clean, Repaired, Aborted}
use Rattle.protocol.specs.Coordinators.{tells}
use Rattle.protocol.specs.Scrubs.{scrub_ask, lagging_of}
use Rattle.protocol.specs.Settings.{Setting}
use Rattle.protocol.specs.Views.{Views, group_in}
use Rattle.protocol.specs.Worlds.{World, Operation}
use Rattle.protocol_laws.specs.Evidence.{Evidence, IsCallOf, RequestSent}

-- what aborted it, if anything did
abbrev pub cause_of : ScrubAnswer → Option Cause
cause_of Clean = None
cause_of (Repaired version lagging) = None
cause_of (Aborted cause) = Some cause

-- operation o was the scrub of this call at a brick: it has no marks, and reads a whole stripe
pub record IsScrub (brick : BrickId) (call : Call) (o : Operation) : Type 0 where
  pub unmarked : o.mark ≡ 0
  pub brick_is : o.brick ≡ brick
  pub own : IsCallOf call o
  pub ask : o.ask ≡ scrub_ask call.group call.stripe

-- one of these replies is this member's, and says this
abbrev pub HasTold : List Counted → BrickId → (Reply → Type 0) → Type 0
HasTold replies member Says = (k : ℕ) × (x : Counted) × (slice_get replies k ≡ Some x) × (x.brick.0 ≡ member.0) × Says x.reply

-- what bricks have held: which version of which stripe of which group
abbrev pub Held : Type 0
Held = ℕ → ℕ → ℕ → Stamp → Bool

-- each of these members said this of a version, and has held that
pub record EachTold (replies : List Counted) (held : Held) (call : Call) (members : List BrickId) (version : Stamp) (Says : Reply → Type 0) : Type 0 where
  pub told : (k : ℕ) (member : BrickId) → slice_get members k ≡ Some member → HasTold replies member Says
  pub has : (k : ℕ) (member : BrickId) → slice_get members k ≡ Some member → held member.0 call.group.0 call.stripe.0 version ≡ true

-- no reply counted in a later phase
abbrev pub EndsIn : (ℕ → List Counted) → ℕ → Type 0
EndsIn replies phase = (later : ℕ) → phase < later → replies later ≡ []

-- It was clean: in its look, its first phase and its last, each member told one version as its newest, and no order above it.
pub record CleanTold (replies : ℕ → List Counted) (held : Held) (call : Call) (members : List BrickId) : Type 0 where
  pub version : Stamp
  pub each : EachTold (replies 1) held call members version (λ reply. tells version reply ≡ true)
  pub final : EndsIn replies 1

-- It has repaired: in its last phase each member said that it stored the version; and of the members of its view those lagged who did by the replies of its look.
pub record RepairedTold (setting : Setting) (views : Views) (replies : ℕ → List Counted) (held : Held) (call : Call) (view : ℕ) (members : List BrickId)
    (version : Stamp) (lagging : List BrickId) : Type 0 where
  pub each : EachTold (replies call.phase) held call members version (λ reply. reply ≡ Reply.Stored)
  pub group : Group
  pub group_is : group_in setting.layout views call.group.0 view ≡ Some group
  pub lagged : lagging ≡ lagging_of group.members (replies 1)
  pub final : EndsIn replies call.phase

-- what the replies that counted told, by how it ended
abbrev pub ScrubTold : Setting → Views → (ℕ → List Counted) → Held → Call → ℕ → List BrickId → ScrubAnswer → Type 0
ScrubTold setting views replies held call view members Clean = CleanTold replies held call members
ScrubTold setting views replies held call view members (Repaired version lagging) =
    RepairedTold setting views replies held call view members version lagging
ScrubTold setting views replies held call view members (Aborted cause) = Unit {0}

-- a phase of the operation asked a member for what that keeps in the view before
pub record AskedOld (w : World) (o : Operation) (phase : ℕ) : Type 0 where
  pub call : Call
  pub own : IsCallOf call o
  pub phase_is : call.phase ≡ phase
  pub member : BrickId
  pub bound : Option Stamp
  pub asked : RequestSent w call o.brick member (Request.OldRead bound)

-- each reply that counted in operation n is one of these members', but where its phase asked for what is kept in the view before
abbrev pub CountedAlone : World → ℕ → Operation → List BrickId → Type 0
CountedAlone w n o members =
    (phase k : ℕ) (x : Counted) → slice_get (w.replies n phase) k ≡ Some x → (is_some (seat_in members x.brick.0) ≡ true) ⊎ AskedOld w o phase

-- What a scrub of these members shows, whose last phase had this call: which operation it was; how it ended; that these members alone counted; what was told; and,
-- where it was aborted, the evidence of that.
pub record ScrubEvidence (setting : Setting) (views : Views) (w : World) (brick : BrickId) (call : Call) (members : List BrickId) (answer : ScrubAnswer) : Type 0 where
  pub n : ℕ
  pub operation : Operation
  pub is : w.operations n ≡ Some operation
  pub was : IsScrub brick call operation
  pub ended : operation.closed ≡ Some (cause_of answer)
  pub alone : CountedAlone w n operation members
  pub told : ScrubTold setting views (w.replies n) w.held call operation.view members answer
  pub aborted : (cause : Cause) → answer ≡ Aborted cause → Evidence w n operation cause

-- each scrub that ended shows it
abbrev pub ScrubsShow : Setting → Views → World → Type 0
ScrubsShow setting views w =
    (k : ℕ) (brick : BrickId) (call : Call) (members : List BrickId) (answer : ScrubAnswer)
    → slice_get w.choices.reports k ≡ Some (brick, Report.Scrub call members answer) → ScrubEvidence setting views w brick call members answer
