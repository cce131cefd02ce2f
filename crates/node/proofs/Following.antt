-- What comes after a read of a synchronisation.
use Rattle.std.proofs.Common.{◌≡◌, ◌<◌, ◌+◌, ◌-◌, ℕ, suc, Bool, true, false, cond, nat_lt, [], ◌∷◌, Option, Some, None, ◌∙◌, ap, arith}
use Rattle.fab_base.specs.declared.answers.Cause.{Cause}
use Rattle.fab_base.specs.declared.identities.BrickId.{BrickId}
use Rattle.fab_base.specs.declared.identities.GroupId.{GroupId}
use Rattle.fab_base.specs.declared.identities.StripeNo.{StripeNo}
use Rattle.fab_base.specs.declared.identities.ViewNo.{ViewNo}
use Rattle.fab_base.specs.declared.member_lists.View.{View}
use Rattle.fab_base.specs.Layouts.{Group, Layout}
use Rattle.messages.specs.declared.packets.Message.{Message}
use Rattle.protocol.specs.declared.tellings.SyncAnswer.TheVariants.{Synced, Stopped, Spent}
use Rattle.protocol.specs.Coordinators.{Coordinator}
use Rattle.protocol.specs.Views.{group_kept}
use Rattle.protocol.specs.Jobs.{Job, JobNext, Reads, GivesUp, job_ask, most_tries, spent_answer, stopped_answer}
use Rattle.protocol.specs.declared.tellings.Report.{Report}
use Rattle.protocol.specs.Nodes.{Node, NodeStep, coordinator_in, is_spent, job_goes, put, read_begun, read_begun_by, read_begun_in, reporting, synced_packets, with_job, with_known}
use Rattle.stripe_code.specs.Codes.{coding}
use Rattle.view_sync.specs.Jobs.{Synchronising}
use Rattle.node.specs.declared.call_sources.CallSource.{CallSource}
use Rattle.node.specs.declared.jobs.Followed.{Followed}
use Rattle.node.specs.declared.jobs.Followed.TheVariants as followed
use Rattle.node.proofs.Beside.{put_same, put_twice}
use Rattle.node.specs.Jobs.{FollowsFrom, GoesOn, by_cause, followed_step, job_at}

-- ---- what is sent at the end

-- one more brick is told
pub one_told : (me : BrickId) (group : GroupId) (view : ViewNo) (bricks brick : ℕ) → brick < bricks
    → synced_packets me group view (bricks - brick) brick
    ≡ record { from = me; to = record { 0 = brick }; message = Message.Synced group view } ∷ synced_packets me group view (bricks - (brick + 1)) (brick + 1)
one_told me group view bricks brick below =
    let left : bricks - brick ≡ suc (bricks - (brick + 1)) = omega (arith, below) in
    ap (λ (n : ℕ). synced_packets me group view n brick) left

-- ---- by which cause a read was aborted is told where the synchronisation stops, and nowhere else

module _ (layout : Layout) (at : CallSource) (job : Synchronising) (view : View) where
  -- a read that begins, or for which the brick is spent, stops nothing
  never_stops : (node : Node) (j : Job) (stripe : StripeNo) (cause : Cause) (o : Option Group)
      → (read_begun_in (coding layout) at.me at.now node j o).reports ≡ Report.Sync job.group (Stopped stripe cause) ∷ [] → ⊥
  never_stops node j stripe cause None is = cc
  never_stops node j stripe cause (Some group) is = by (is_spent node) is
    where
      by : (b : Bool)
          → (cond b (reporting (with_job node None) [] (Report.Sync j.group (spent_answer j.attempt)))
          (read_begun_by (coding layout) at.me node j (coordinator_in group j.view at.me at.now node (job_ask j)))).reports
          ≡ Report.Sync job.group (Stopped stripe cause) ∷ [] → ⊥
      by true is = cc
      by false is = cc

  -- a read begins by whatever cause the last one was aborted
  reads_whatever : (node : Node) (j : Job) (cause : Cause) (f : Followed)
      → read_begun (coding layout) at.me at.now node j ≡ followed_step at.me job.group node f
      → read_begun (coding layout) at.me at.now node j ≡ followed_step at.me job.group node (by_cause cause f)
  reads_whatever node j cause (followed.Reads messages held) is = is
  reads_whatever node j cause (followed.Ends messages (Synced v)) is = is
  reads_whatever node j cause (followed.Ends messages (Spent stripe)) is = is
  reads_whatever node j cause (followed.Ends messages (Stopped stripe other)) is =
      absurd (never_stops node j stripe other (group_kept layout j.view.members j.group.0) (ap (λ (s : NodeStep). s.reports) is))

  -- and where it stops, only the cause differs
  stops_by : (node : Node) (any cause : Cause) (f : Followed)
      → reporting (with_job node None) [] (Report.Sync job.group (stopped_answer job.attempt any)) ≡ followed_step at.me job.group node f
      → reporting (with_job node None) [] (Report.Sync job.group (stopped_answer job.attempt cause)) ≡ followed_step at.me job.group node (by_cause cause f)
  stops_by node any cause (followed.Reads messages held) is =
      absurd (let never : Report.Sync job.group (stopped_answer job.attempt any) ∷ [] ≡ [] = ap (λ (s : NodeStep). s.reports) is in cc)
  stops_by node any cause (followed.Ends messages (Synced v)) is =
      absurd (let never : Report.Sync job.group (stopped_answer job.attempt any) ∷ [] ≡ Report.Sync job.group (Synced v) ∷ [] = ap (λ (s : NodeStep). s.reports) is in cc)
  stops_by node any cause (followed.Ends messages (Spent stripe)) is =
      absurd (let never : Report.Sync job.group (stopped_answer job.attempt any) ∷ [] ≡ Report.Sync job.group (Spent stripe) ∷ [] = ap (λ (s : NodeStep). s.reports) is in cc)
  stops_by node any cause (followed.Ends messages (Stopped stripe other)) is =
      let reports : Report.Sync job.group (stopped_answer job.attempt any) ∷ [] ≡ Report.Sync job.group (Stopped stripe other) ∷ [] = ap (λ (s : NodeStep). s.reports) is in
      let same : record { 0 = job.attempt.stripe } ≡ stripe = cc in
      (λ i. reporting (with_job node None) (is i).packets (Report.Sync job.group (Stopped (same i) cause)))

  -- so what was prepared for one cause serves each
  pub goes_whatever : (any : Cause) (f : Followed) → GoesOn layout job view at (Some any) f → (cause : Cause) → GoesOn layout job view at (Some cause) (by_cause cause f)
  goes_whatever any f goes cause node seq from = by (nat_lt job.attempt.tries most_tries) (goes node seq from)
    where
      j : Job
      j = job_at job view seq

      again : JobNext
      again = Reads (record job.attempt { tries = job.attempt.tries + 1 })

      by : (b : Bool) → job_goes (coding layout) at.me at.now node j (cond b again (GivesUp any)) ≡ followed_step at.me job.group node f
          → job_goes (coding layout) at.me at.now node j (cond b again (GivesUp cause)) ≡ followed_step at.me job.group node (by_cause cause f)
      by true is = reads_whatever node (record j { attempt = record job.attempt { tries = job.attempt.tries + 1 } }) cause f is
      by false is = stops_by node any cause f is

-- ---- what is sent before

-- the synchronisation of a brick of whose last read only the call is left goes on as if there were none
pub followed_after : (me : BrickId) (group : GroupId) (node : Node) (known busy seq : ℕ) (v : Option Coordinator) (job : Option Job) (f : Followed)
    → node.calls seq ≡ None
    → followed_step me group (record node { known = known; calls = put (put node.calls seq v) seq None; job = job }) f
    ≡ followed_step me group (with_known node known) f
followed_after me group node known busy seq v job f free = by f
  where
    calls_are : put (put node.calls seq v) seq None ≡ node.calls
    calls_are = put_twice node.calls seq v None ∙ put_same node.calls seq None free

    by : (f : Followed) → followed_step me group (record node { known = known; calls = put (put node.calls seq v) seq None; job = job }) f
        ≡ followed_step me group (with_known node known) f
    by (followed.Reads messages held) = λ i. followed_step me group (record node { known = known; calls = calls_are i }) (followed.Reads messages held)
    by (followed.Ends messages answer) = λ i. followed_step me group (record node { known = known; calls = calls_are i }) (followed.Ends messages answer)

-- by whichever cause a read was aborted, the next one follows so
pub follows_by_cause : (layout : Layout) (seq : ℕ) (group : GroupId) (cause : Cause) (f : Followed) → FollowsFrom layout seq group f
    → FollowsFrom layout seq group (by_cause cause f)
follows_by_cause layout seq group cause (followed.Reads messages held) follows = follows
follows_by_cause layout seq group cause (followed.Ends messages answer) follows = tt
