-- The synchronisation of a view: each stripe of its group is read in it, one after another, until all are kept in the view (Saito 2004, section 5). A read
-- that is aborted is tried again at once, a few times.
use Rattle.std.specs.Prelude.{ℕ, ◌+◌, nat_lt, if◌then◌else◌, Option, Some, None, is_some}
use Rattle.fab_base.specs.declared.identities.GroupId.{GroupId}
use Rattle.fab_base.specs.declared.identities.ViewNo.{ViewNo}
use Rattle.fab_base.specs.declared.member_lists.View.{View}
use Rattle.fab_base.specs.declared.asks.Ask.{Ask}
use Rattle.fab_base.specs.declared.asks.Op.TheVariants.{ReadStripe}
use Rattle.fab_base.specs.declared.answers.Answer.{Answer}
use Rattle.fab_base.specs.declared.answers.Answer.TheVariants.{Aborted}
use Rattle.fab_base.specs.declared.answers.Cause.{Cause}
use Rattle.fab_base.specs.declared.answers.Refusal.{Refusal}
use Rattle.fab_base.specs.declared.answers.Refusal.TheVariants.{NoStripe, Busy}
use Rattle.fab_base.specs.Layouts.{Group}
pub use Rattle.protocol.specs.declared.tellings.SyncAnswer.{SyncAnswer}
use Rattle.protocol.specs.declared.tellings.SyncAnswer.TheVariants.{Synced, Stopped, Spent}

-- A try of a synchronisation: the stripe that it reads, and which try of that this is, from 1.
pub record Attempt : Type 0 where
  pub stripe : ℕ
  pub tries : ℕ

-- A synchronisation: the group; the view; its present try; and the number of the call of that.
pub record Job : Type 0 where
  pub group : GroupId
  pub view : View
  pub attempt : Attempt
  pub seq : ℕ

-- ---- how it begins

-- why a brick does not begin one of a group, the first reason of these: there is no such group; or it has one already
abbrev pub sync_refusal_in : Option Job → Option Group → Option Refusal
sync_refusal_in job None = Some NoStripe
sync_refusal_in job (Some group) = if is_some job then Some Busy else None

-- the first try of stripe 0
abbrev pub first_attempt : Attempt
first_attempt = record { stripe = 0; tries = 1 }

-- one of a view, before its first try has a call
abbrev pub begun_job : GroupId → View → Job
begun_job group view = record { group = group; view = view; attempt = first_attempt; seq = 0 }

-- what it asks its brick for: to read the whole stripe
abbrev pub job_ask : Job → Ask
job_ask job = record { group = job.group; stripe = record { 0 = job.attempt.stripe }; op = ReadStripe }

-- ---- how it goes on

-- how often one stripe is tried
abbrev pub most_tries : ℕ
most_tries = 8

-- It reads a stripe; or it has read all of them, and finishes; or it gives up, for the cause by which the last try was aborted.
pub data JobNext : Type 0 where
  Reads : (attempt : Attempt) → JobNext
  Finishes : JobNext
  GivesUp : (cause : Cause) → JobNext

-- What it does after a read, which was aborted by a cause or answered. Of so many stripes it reads the next, if there is one; and it tries an aborted stripe
-- again, if that was not the last try.
abbrev pub job_after : ℕ → Attempt → Option Cause → JobNext
job_after stripes attempt None =
    if nat_lt (attempt.stripe + 1) stripes then Reads (record { stripe = attempt.stripe + 1; tries = 1 }) else Finishes
job_after stripes attempt (Some cause) =
    if nat_lt attempt.tries most_tries then Reads (record attempt { tries = attempt.tries + 1 }) else GivesUp cause

-- the cause by which a read was aborted, if it was
abbrev pub abort_cause : Answer → Option Cause
abort_cause (Aborted cause) = Some cause
abort_cause answer = None

-- ---- how it ends

-- once it has read all stripes; and at once where they are all known to be in the view already: then nothing is read, and nothing sent
abbrev pub synced_answer : ViewNo → SyncAnswer
synced_answer view = Synced view

-- where it gave up a stripe
abbrev pub stopped_answer : Attempt → Cause → SyncAnswer
stopped_answer attempt cause = Stopped (record { 0 = attempt.stripe }) cause

-- where the brick is spent when it is to read a stripe
abbrev pub spent_answer : Attempt → SyncAnswer
spent_answer attempt = Spent (record { 0 = attempt.stripe })
