-- A read of a brick's own ends, for its synchronisation or its scrub, and what follows does: the step leaves the world that two steps leave, one after the other.
use Rattle.std.proofs.Common.{◌≡◌, ℕ, [], ◌∷◌, ◌++◌, Option, Some, None, refl, sym, ap, ◌∙◌, subst}
use Rattle.fab_base.specs.declared.identities.BrickId.{BrickId}
use Rattle.fab_base.specs.declared.answers.Answer.{Answer}
use Rattle.fab_base.specs.declared.stamps.Stamp.{Stamp}
use Rattle.fab_base.specs.Layouts.{Group}
use Rattle.protocol.specs.declared.tellings.Told.TheVariants.{Closed}
use Rattle.protocol.specs.declared.tellings.Report.{Report}
use Rattle.protocol.specs.declared.tellings.SyncAnswer.{SyncAnswer}
use Rattle.protocol.specs.Settings.{Setting}
use Rattle.protocol.specs.Views.{group_kept}
use Rattle.protocol.specs.Coordinators.{Coordinator, Next, Ignores, Waits, Sends, Makes, Ends}
use Rattle.protocol.specs.Jobs.{Job, Attempt, JobNext, Reads, Finishes, GivesUp, job_after, abort_cause, synced_answer}
use Rattle.protocol.specs.Nodes.{Node, NodeStep, no_step, reporting, put, then_does, with_job, read_begun_by, synced_packets, job_goes, read_closed, carried_out, seen_told, carried_read, scrub_ended, members_alone}
use Rattle.protocol.specs.Worlds.{World, world_stepped, world_tells}
use Rattle.protocol.proofs.Tables.{put_same}
use Rattle.view_laws.proofs.SyncReads.{read_call, read_each}
use Rattle.protocol_laws.proofs.Hearing.{stepped_then}
use Rattle.protocol_laws.proofs.Tops.{KeepsPlaces}
use Rattle.protocol_laws.proofs.BooksKept.{HasNoRead}
use Rattle.std.proofs.lemmas.Option.{same_Some}
use Rattle.protocol.specs.Scrubs.{Scrub, scrub_answer}
use Rattle.protocol_laws.proofs.Books.{Own, ForJob, ForScrub, own_seq}

-- What holds of a world that a brick's step leaves, which follows a read that was closed: the world is the one that the close left, and the step does nothing, ends the
-- synchronisation, where that has read all stripes or for another cause, or begins another read.
pub record AfterClose (P : World → Type 0) (setting : Setting) (x : World) (me : BrickId) (now : ℕ) (job : Job) (next : JobNext) : Type 0 where
  pub stays : P (world_stepped setting x me (no_step (x.nodes me.0)))
  pub ends : (answer : SyncAnswer) → P (world_stepped setting x me (reporting (with_job (x.nodes me.0) None) [] (Report.Sync job.group answer)))
  pub finishes : next ≡ Finishes
      → P (world_stepped setting x me (reporting (with_job (x.nodes me.0) None) (synced_packets me job.group job.view.number setting.layout.bricks 0)
      (Report.Sync job.group (synced_answer job.view.number))))
  pub reads : (attempt : Attempt) (group : Group) → next ≡ Reads attempt → group_kept setting.layout job.view.members job.group.0 ≡ Some group
      → P (world_stepped setting x me (read_begun_by setting me (x.nodes me.0) (record job { attempt = attempt })
      (read_call group (record job { attempt = attempt }) me now (x.nodes me.0))))

-- what it does next leaves the places of the brick as they are
goes_keeps : (setting : Setting) (me : BrickId) (now : ℕ) (node : Node) (job : Job) (next : JobNext) → KeepsPlaces node (job_goes setting me now node job next).node
goes_keeps setting me now node job (Reads attempt) =
    read_each (λ (step : NodeStep). KeepsPlaces node step.node) setting me now node (record job { attempt = attempt }) (refl, refl, refl)
    (λ answer. (refl, refl, refl)) (λ group is. (refl, refl, refl))
goes_keeps setting me now node job Finishes = (refl, refl, refl)
goes_keeps setting me now node job (GivesUp cause) = (refl, refl, refl)

-- what it does next, by cases
goes_each : (P : World → Type 0) (setting : Setting) (x : World) (me : BrickId) (now : ℕ) (job : Job) (next : JobNext) → AfterClose P setting x me now job next
    → P (world_stepped setting x me (job_goes setting me now (x.nodes me.0) job next))
goes_each P setting x me now job (Reads attempt) after =
    read_each (λ (step : NodeStep). P (world_stepped setting x me step)) setting me now (x.nodes me.0) (record job { attempt = attempt }) after.stays after.ends
    (λ group is. after.reads attempt group refl is)
goes_each P setting x me now job Finishes after = after.finishes refl
goes_each P setting x me now job (GivesUp cause) after = after.ends _

-- the close of a read, alone
abbrev pub closes : World → BrickId → ℕ → Coordinator → Answer → Option Stamp → Option Stamp → NodeStep
closes w me known c answer seen stored = read_closed me (w.nodes me.0) known c answer seen stored

-- and the world that it leaves
abbrev pub closed_world : Setting → World → BrickId → ℕ → Coordinator → Answer → Option Stamp → Option Stamp → World
closed_world setting w me known c answer seen stored = world_stepped setting w me (closes w me known c answer seen stored)

module _ (setting : Setting) (w : World) (me : BrickId) (now known : ℕ) (c : Coordinator) (answer : Answer) (seen stored : Option Stamp) where
  -- the step that closes it, and the brick and the world after
  abbrev step : NodeStep
  step = closes w me known c answer seen stored

  abbrev x : World
  x = closed_world setting w me known c answer seen stored

  begins_none : (z : Option Stamp) (one other : ℕ → Node)
      → world_tells setting one w me (seen_told c.call.seq z ++ (Closed c.call.seq (abort_cause answer) ∷ []))
      ≡ world_tells setting other w me (seen_told c.call.seq z ++ (Closed c.call.seq (abort_cause answer) ∷ []))
  begins_none None one other = refl
  begins_none (Some v) one other = refl

  -- the close, and a second step that leaves the places of the brick, one after the other
  pub closed_second : (second : Node → NodeStep) → KeepsPlaces step.node (second step.node).node
      → world_stepped setting x me (second (x.nodes me.0)) ≡ world_stepped setting w me (then_does step (second step.node))
  closed_second second keeps =
      ap (λ (n : Node). world_stepped setting x me (second n)) (put_same w.nodes me.0 step.node)
      ∙ stepped_then setting w me step.node step.packets step.told (second step.node) (begins_none seen) refl keeps

  -- the close, and what the synchronisation does next, one after the other
  pub closed_then : (job : Job) (next : JobNext)
      → world_stepped setting x me (job_goes setting me now (x.nodes me.0) job next)
      ≡ world_stepped setting w me (then_does step (job_goes setting me now step.node job next))
  closed_then job next = closed_second (λ n. job_goes setting me now n job next) (goes_keeps setting me now step.node job next)

-- a read of the brick's own whose call it was is not open then
pub closed_no_read : (setting : Setting) (w : World) (me : BrickId) (known : ℕ) (c : Coordinator) (answer : Answer) (seen stored : Option Stamp) (own : Own)
    → own_seq (w.nodes me.0) own ≡ Some c.call.seq → HasNoRead ((closed_world setting w me known c answer seen stored).nodes me.0) own
closed_no_read setting w me known c answer seen stored own is =
    subst (λ (n : Node). HasNoRead n own) (sym (put_same w.nodes me.0 node)) (over own is)
  where
    node : Node
    node = (closes w me known c answer seen stored).node

    gone : (k : ℕ) → k ≡ c.call.seq → put (w.nodes me.0).calls c.call.seq None k ≡ None
    gone k same = ap (put (w.nodes me.0).calls c.call.seq None) same ∙ put_same (w.nodes me.0).calls c.call.seq None

    over : (o : Own) → own_seq (w.nodes me.0) o ≡ Some c.call.seq → HasNoRead node o
    over ForJob at k has = gone k (same_Some k c.call.seq (sym has ∙ at))
    over ForScrub at k has = gone k (same_Some k c.call.seq (sym has ∙ at))

-- it is no read of the brick's own that ends
abbrev pub ClosesNone : Option Job → Option Scrub → Next → Type 0
ClosesNone reading scrub next =
    (answer : Answer) (seen stored : Option Stamp) → next ≡ Ends answer seen stored → (reading ≡ None) × (scrub ≡ None)

-- A brick has noted who lagged, where its scrub's next phase begins. What it then does with what a coordinator decided: it carries it out, or a read of its own
-- ends, for its synchronisation, which goes on, or for its scrub, which ends with it.
abbrev pub carried_noted : Setting → BrickId → ℕ → Node → ℕ → Coordinator → Next → Option Job → Option Scrub → NodeStep
carried_noted setting me now node known c next (Some job) scrub = carried_read setting me now node known job c next
carried_noted setting me now node known c next None None = carried_out setting me node known c next
carried_noted setting me now node known c (Ends answer seen stored) None (Some scrub) =
    (let closed : NodeStep = read_closed me node known c answer seen stored in
    then_does closed (scrub_ended closed.node c.call (members_alone c.only) (scrub_answer scrub.lagging (abort_cause answer) stored)))
carried_noted setting me now node known c next None (Some scrub) = carried_out setting me node known c next

-- What holds of the world once a brick did so: it carried out what was decided; or a read of its synchronisation ended, and the synchronisation went on; or its
-- scrub ended.
pub closing_each : (P : World → Type 0) (setting : Setting) (w : World) (me : BrickId) (now known : ℕ) (c : Coordinator) (next : Next) (reading : Option Job)
    (scrub : Option Scrub) → (ClosesNone reading scrub next → P (world_stepped setting w me (carried_out setting me (w.nodes me.0) known c next)))
    → ((job : Job) → reading ≡ Some job → (answer : Answer) (seen stored : Option Stamp) → next ≡ Ends answer seen stored
    → AfterClose P setting (closed_world setting w me known c answer seen stored) me now job (job_after c.group.stripes job.attempt (abort_cause answer)))
    → ((s : Scrub) → reading ≡ None → scrub ≡ Some s → (answer : Answer) (seen stored : Option Stamp) → next ≡ Ends answer seen stored
    → (let x = closed_world setting w me known c answer seen stored in
    P (world_stepped setting x me
    (scrub_ended (x.nodes me.0) c.call (members_alone c.only) (scrub_answer s.lagging (abort_cause answer) stored)))))
    → P (world_stepped setting w me (carried_noted setting me now (w.nodes me.0) known c next reading scrub))
closing_each P setting w me now known c next None None carried closed ended = carried (λ answer seen stored is. (refl, refl))
closing_each P setting w me now known c Ignores None (Some s) carried closed ended = carried (λ answer seen stored is. cc)
closing_each P setting w me now known c (Waits d) None (Some s) carried closed ended = carried (λ answer seen stored is. cc)
closing_each P setting w me now known c (Sends d) None (Some s) carried closed ended = carried (λ answer seen stored is. cc)
closing_each P setting w me now known c (Makes d) None (Some s) carried closed ended = carried (λ answer seen stored is. cc)
closing_each P setting w me now known c (Ends answer seen stored) None (Some s) carried closed ended =
    subst P
    (closed_second setting w me now known c answer seen stored
    (λ n. scrub_ended n c.call (members_alone c.only) (scrub_answer s.lagging (abort_cause answer) stored)) (refl, refl, refl))
    (ended s refl refl answer seen stored refl)
closing_each P setting w me now known c Ignores (Some job) scrub carried closed ended = carried (λ answer seen stored is. cc)
closing_each P setting w me now known c (Waits d) (Some job) scrub carried closed ended = carried (λ answer seen stored is. cc)
closing_each P setting w me now known c (Sends d) (Some job) scrub carried closed ended = carried (λ answer seen stored is. cc)
closing_each P setting w me now known c (Makes d) (Some job) scrub carried closed ended = carried (λ answer seen stored is. cc)
closing_each P setting w me now known c (Ends answer seen stored) (Some job) scrub carried closed ended =
    let goes : JobNext = job_after c.group.stripes job.attempt (abort_cause answer) in
    subst P (closed_then setting w me now known c answer seen stored job goes)
    (goes_each P setting (closed_world setting w me known c answer seen stored) me now job goes (closed job refl answer seen stored refl))
