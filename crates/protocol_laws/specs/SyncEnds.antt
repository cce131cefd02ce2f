-- What a synchronisation of a view that was stopped shows.
use Rattle.std.specs.Prelude.{◌≡◌, ℕ, ◌+◌, ◌<◌, Some, slice_get}
use Rattle.fab_base.specs.declared.identities.BrickId.{BrickId}
use Rattle.fab_base.specs.declared.identities.GroupId.{GroupId}
use Rattle.fab_base.specs.declared.identities.StripeNo.{StripeNo}
use Rattle.fab_base.specs.declared.asks.Op.TheVariants.{ReadStripe}
use Rattle.fab_base.specs.declared.answers.Cause.{Cause}
use Rattle.protocol.specs.declared.tellings.Report.{Report}
use Rattle.protocol.specs.declared.tellings.SyncAnswer.TheVariants.{Stopped}
use Rattle.protocol.specs.Jobs.{most_tries}
use Rattle.protocol.specs.Worlds.{World, Operation}
use Rattle.protocol_laws.specs.Evidence.{Evidence}

-- Operation n was a read of a stripe for a synchronisation of this view at a brick, and was aborted by this cause: it has no marks, and shows the evidence of its abort.
pub record WasAborted (w : World) (brick : BrickId) (number : GroupId) (stripe : StripeNo) (boot view n : ℕ) (cause : Cause) : Type 0 where
  pub operation : Operation
  pub is : w.operations n ≡ Some operation
  pub unmarked : operation.mark ≡ 0
  pub brick_is : operation.brick ≡ brick
  pub boot_is : operation.boot ≡ boot
  pub view_is : operation.view ≡ view
  pub ask : operation.ask ≡ record { group = number; stripe = stripe; op = ReadStripe }
  pub ended : operation.closed ≡ Some (Some cause)
  pub evidence : Evidence w n operation cause

-- Why a synchronisation was stopped at a stripe: it had read that as often as is allowed, one time after another; each of these reads was aborted, and the last of them
-- by this cause.
pub record StoppedEvidence (w : World) (brick : BrickId) (number : GroupId) (stripe : StripeNo) (cause : Cause) : Type 0 where
  pub boot : ℕ
  pub view : ℕ
  pub read : ℕ → ℕ
  pub each : (k : ℕ) → k < most_tries → (why : Cause) × WasAborted w brick number stripe boot view (read k) why
  pub in_turn : (k : ℕ) → k + 1 < most_tries → read k < read (k + 1)
  pub last : (k : ℕ) → k + 1 ≡ most_tries → WasAborted w brick number stripe boot view (read k) cause

-- each synchronisation that was stopped shows why
abbrev pub SyncsShow : World → Type 0
SyncsShow w =
    (k : ℕ) (brick : BrickId) (number : GroupId) (stripe : StripeNo) (cause : Cause)
    → slice_get w.choices.reports k ≡ Some (brick, Report.Sync number (Stopped stripe cause)) → StoppedEvidence w brick number stripe cause
