-- A brick is taught a view: by a message, or by a reply that counts. It does what it does with the reply as well if it is taught first.
use Rattle.view_laws.proofs.SyncReads.{carried_each}
use Rattle.protocol.specs.declared.tellings.Report.{Report}
use Rattle.protocol.specs.Jobs.{Job, JobNext, Reads, Finishes, GivesUp, job_ask, job_after, abort_cause, spent_answer}
use Rattle.std.proofs.Common.{◌≡◌, ℕ, ◌<◌, Bool, true, false, nat_lt, Option, Some, None, refl, sym, ap, ◌∙◌, subst, ltb-true, []}
use Rattle.std.specs.Prelude.{if◌then◌else◌}
use Rattle.std.proofs.lemmas.Bool.{cond_both}
use Rattle.fab_base.specs.declared.identities.BrickId.{BrickId}
use Rattle.fab_base.specs.declared.identities.GroupId.{GroupId}
use Rattle.fab_base.specs.declared.member_lists.View.{View}
use Rattle.fab_base.specs.Layouts.{Layout, group_of, Group}
use Rattle.messages.specs.declared.calls.Call.{Call}
use Rattle.messages.specs.declared.replies.Reply.{Reply}
use Rattle.protocol.specs.Settings.{Setting}
use Rattle.protocol.specs.Views.{Learnt, is_later, learns, group_kept}
use Rattle.protocol.specs.Replicas.{Replica, fresh_replica}
use Rattle.protocol.specs.Coordinators.{Coordinator, Next, Ignores, Waits, Sends, Makes, Ends, on_reply, hearing, counts_at}
use Rattle.protocol.specs.Proposals.{Proposal, Voting, Ignored, Waited, Asks, Ended, voted}
use Rattle.protocol.specs.Nodes.{Node, NodeStep, no_step, with_known, with_round, known_after, fresh_stamp, dropping, with_learnt, node_taught, node_taught_by, may_teach, node_learnt, carried_out, carried_ballot, replied_ballot, replied_at, view_counted, then_taught, replied, lists_fit, heard, reporting, with_job, is_spent, coordinator_in, read_begun_by, read_begun_in, job_goes, read_closed, then_does, carried_for, job_reading, scrub_of}
use Rattle.protocol.proofs.Tables.{put_each}
use Rattle.protocol_laws.proofs.Proposing.{ballot_each}
use Rattle.protocol.specs.Scrubs.{Scrub}

-- what is learnt of a view that takes the place of an earlier one
abbrev pub newly_learnt : View → Learnt
newly_learnt view = record { view = view; synced = false }

-- a brick is taught a view that is not later than the one that it has learnt, or a later one
pub taught_each : (P : Node → Type 0) (block group : ℕ) (node : Node) (view : View) → P node
    → (is_later (node.learnt group) view ≡ true → P (with_learnt block group node (newly_learnt view))) → P (node_taught block group node view)
unfolding node_taught learns
taught_each P block group node view still later =
    cond_both (is_later (node.learnt group) view) (with_learnt block group node (learns (node.learnt group) view)) node P
    (λ is. subst (λ (b : Bool). P (with_learnt block group node (if b then newly_learnt view else node.learnt group))) (sym is) (later is)) (λ isnt. still)

-- the same, where it is taught one, or none
pub told_each : (P : Node → Type 0) (block group : ℕ) (node : Node) (view : Option View) → P node
    → ((v : View) → is_later (node.learnt group) v ≡ true → P (with_learnt block group node (newly_learnt v))) → P (node_taught_by block group node view)
told_each P block group node None still later = still
told_each P block group node (Some view) still later = taught_each P block group node view still (later view)

-- by a message
pub learnt_each : (P : Node → Type 0) (layout : Layout) (node : Node) (group : GroupId) (view : View) → P node
    → (is_later (node.learnt group.0) view ≡ true → P (with_learnt layout.block group.0 node (newly_learnt view))) → P (node_learnt layout node group view)
unfolding node_learnt
learnt_each P layout node group view still later =
    cond_both (may_teach layout (Some view) (group_of layout group.0)) (node_taught layout.block group.0 node view) node P
    (λ may. taught_each P layout.block group.0 node view still later) (λ isnt. still)

-- what holds of the parts that stay, and of the fresh ones of the views before the first that is kept
pub dropped_each : (P : ℕ → ℕ → ℕ → Replica → Type 0) (block group first : ℕ) (node : Node) → ((g e s : ℕ) → P g e s (node.replicas g e s))
    → ((e s : ℕ) → e < first → P group e s (fresh_replica block e)) → (g e s : ℕ) → P g e s ((dropping block group first node).replicas g e s)
dropped_each P block group first node still fresh g e s =
    put_each (λ h table. (f r : ℕ) → P h f r (table f r)) node.replicas group
    (λ view stripe. if nat_lt view first then fresh_replica block view else node.replicas group view stripe)
    (λ f r. cond_both (nat_lt f first) (fresh_replica block f) (node.replicas group f r) (P group f r) (λ before. fresh f r (ltb-true f first before)) (λ isnt. still group f r))
    (λ h other f r. still h f r) g e s

-- a choice between two, seen by a function
through_either : {A B : Type 0} (f : A → B) (first : Bool) (one other : A) → (if first then f one else f other) ≡ f (if first then one else other)
through_either f true one other = refl
through_either f false one other = refl

module _ (setting : Setting) (me from : BrickId) (now group : ℕ) (call : Call) (reply : Reply) where
  abbrev block : ℕ
  block = setting.layout.block

  -- what a step leaves is as if its brick had learnt this before
  carried_then : (node : Node) (learnt : Learnt) (known : ℕ) (c : Coordinator) (next : Next)
      → (let step : NodeStep = carried_out setting me node known c next in
      record step { node = with_learnt block group step.node learnt } ≡ carried_out setting me (with_learnt block group node learnt) known c next)
  carried_then node learnt known c Ignores = refl
  carried_then node learnt known c (Waits d) = refl
  carried_then node learnt known c (Sends d) = refl
  carried_then node learnt known c (Makes d) = refl
  carried_then node learnt known c (Ends answer seen stored) = refl

  -- also what a read of a synchronisation, or a scrub, leaves
  goes_then : (node : Node) (learnt : Learnt) (job : Job) (next : JobNext)
      → (let step : NodeStep = job_goes setting me now node job next in
      record step { node = with_learnt block group step.node learnt } ≡ job_goes setting me now (with_learnt block group node learnt) job next)
  goes_then node learnt job (Reads attempt) = in_group (group_kept setting.layout job.view.members job.group.0)
    where
      next : Job
      next = record job { attempt = attempt }

      in_group : (z : Option Group)
          → (let step : NodeStep = read_begun_in setting me now node next z in
          record step { node = with_learnt block group step.node learnt } ≡ read_begun_in setting me now (with_learnt block group node learnt) next z)
      in_group None = refl
      in_group (Some kept) = by (is_spent node)
        where
          by : (spent : Bool)
              → (let step : NodeStep = if spent then reporting (with_job node None) [] (Report.Sync next.group (spent_answer next.attempt))
              else read_begun_by setting me node next (coordinator_in kept next.view me now node (job_ask next)) in
              record step { node = with_learnt block group step.node learnt }
              ≡ (if spent then reporting (with_job (with_learnt block group node learnt) None) [] (Report.Sync next.group (spent_answer next.attempt))
              else read_begun_by setting me (with_learnt block group node learnt) next
              (coordinator_in kept next.view me now (with_learnt block group node learnt) (job_ask next))))
          by true = refl
          by false = refl
  goes_then node learnt job Finishes = refl
  goes_then node learnt job (GivesUp cause) = refl

  carried_for_then : (node : Node) (learnt : Learnt) (known : ℕ) (c heard : Coordinator) (next : Next) (reading : Option Job) (scrub : Option Scrub)
      → (let step : NodeStep = carried_for setting me now node known c heard next reading scrub in
      record step { node = with_learnt block group step.node learnt }
      ≡ carried_for setting me now (with_learnt block group node learnt) known c heard next reading scrub)
  carried_for_then node learnt known c heard next None None = carried_then node learnt known c next
  carried_for_then node learnt known c heard Ignores None (Some scrub) = refl
  carried_for_then node learnt known c heard (Waits d) None (Some scrub) = refl
  carried_for_then node learnt known c heard (Sends d) None (Some scrub) = refl
  carried_for_then node learnt known c heard (Makes d) None (Some scrub) = refl
  carried_for_then node learnt known c heard (Ends answer seen stored) None (Some scrub) = refl
  carried_for_then node learnt known c heard Ignores (Some job) scrub = refl
  carried_for_then node learnt known c heard (Waits d) (Some job) scrub = refl
  carried_for_then node learnt known c heard (Sends d) (Some job) scrub = refl
  carried_for_then node learnt known c heard (Makes d) (Some job) scrub = refl
  carried_for_then node learnt known c heard (Ends answer seen stored) (Some job) scrub =
      let closed : NodeStep = read_closed me node known c answer seen stored in
      ap (λ (second : NodeStep). then_does (read_closed me (with_learnt block group node learnt) known c answer seen stored) second)
      (goes_then closed.node learnt job (job_after c.group.stripes job.attempt (abort_cause answer)))

  ballot_then : (node : Node) (learnt : Learnt) (p : Proposal) (next : Voting)
      → (let step : NodeStep = carried_ballot setting.layout me node p next in
      record step { node = with_learnt block group step.node learnt } ≡ carried_ballot setting.layout me (with_learnt block group node learnt) p next)
  ballot_then node learnt p Ignored = refl
  ballot_then node learnt p (Waited q) = refl
  ballot_then node learnt p (Asks q) = refl
  ballot_then node learnt p (Ended ended answer) = refl

  proposal_then : (node : Node) (learnt : Learnt) (proposal : Option Proposal)
      → (let step : NodeStep = replied_ballot setting.layout me from node call reply proposal in
      record step { node = with_learnt block group step.node learnt } ≡ replied_ballot setting.layout me from (with_learnt block group node learnt) call reply proposal)
  proposal_then node learnt None = refl
  proposal_then node learnt (Some p) = ballot_then node learnt p (voted setting.layout.bricks p from call reply)

  replied_then : (node : Node) (learnt : Learnt) (found : Option Coordinator)
      → (let step : NodeStep = replied_at setting me now from node call reply found in
      record step { node = with_learnt block group step.node learnt } ≡ replied_at setting me now from (with_learnt block group node learnt) call reply found)
  replied_then node learnt None = proposal_then (with_known node (known_after node.known reply)) learnt node.proposal
  replied_then node learnt (Some c) =
      carried_for_then node learnt (known_after node.known reply) c (hearing c from reply (counts_at setting.layout.block c from.0 call reply))
      (on_reply setting.layout.block setting.code (fresh_stamp me c.stamp.view now node.boot (known_after node.known reply)) c from call reply)
      (job_reading node.job c.call.seq) (scrub_of node.scrub c.call.seq)

  -- a reply itself leaves what a brick has learnt, what it keeps of ballots and its parts as they are
  pub record IsAtRest (node next : Node) : Type 0 where
    pub boot : next.boot ≡ node.boot
    pub learnt : next.learnt ≡ node.learnt
    pub ballots : next.ballots ≡ node.ballots
    pub replicas : next.replicas ≡ node.replicas
    pub live : next.live ≡ node.live

  at_rest : (node : Node) → IsAtRest node node
  at_rest node = record { boot = refl; learnt = refl; ballots = refl; replicas = refl; live = refl }

  pub carried_rests : (node : Node) (known : ℕ) (c : Coordinator) (next : Next) → IsAtRest node (carried_out setting me node known c next).node
  carried_rests node known c Ignores = record { boot = refl; learnt = refl; ballots = refl; replicas = refl; live = refl }
  carried_rests node known c (Waits d) = record { boot = refl; learnt = refl; ballots = refl; replicas = refl; live = refl }
  carried_rests node known c (Sends d) = record { boot = refl; learnt = refl; ballots = refl; replicas = refl; live = refl }
  carried_rests node known c (Makes d) = record { boot = refl; learnt = refl; ballots = refl; replicas = refl; live = refl }
  carried_rests node known c (Ends answer seen stored) = record { boot = refl; learnt = refl; ballots = refl; replicas = refl; live = refl }

  -- so is what a read of a synchronisation, or a scrub, leaves
  pub carried_for_rests : (node : Node) (known : ℕ) (c heard : Coordinator) (next : Next) (reading : Option Job) (scrub : Option Scrub)
      → IsAtRest node (carried_for setting me now node known c heard next reading scrub).node
  carried_for_rests node known c heard next reading scrub =
      carried_each (λ (step : NodeStep). IsAtRest node step.node) setting me now node known c heard next reading scrub (carried_rests node known c next)
      (λ job is answer seen stored ends. record {
        stays = record { boot = refl; learnt = refl; ballots = refl; replicas = refl; live = refl };
        ends = λ answered. record { boot = refl; learnt = refl; ballots = refl; replicas = refl; live = refl };
        finishes = record { boot = refl; learnt = refl; ballots = refl; replicas = refl; live = refl };
        reads = λ attempt kept is. record { boot = refl; learnt = refl; ballots = refl; replicas = refl; live = refl };
      })
      (record {
        begins = λ s is d sends. record { boot = refl; learnt = refl; ballots = refl; replicas = refl; live = refl };
        ends = λ s is answer seen stored ends. record { boot = refl; learnt = refl; ballots = refl; replicas = refl; live = refl };
      })

  pub replied_rests : (node : Node) (found : Option Coordinator) → IsAtRest node (replied_at setting me now from node call reply found).node
  replied_rests node None =
      ballot_each (λ (step : NodeStep). IsAtRest node step.node) setting.layout me from (with_known node (known_after node.known reply)) call reply node.proposal
      (λ seq round proposal packets reports more are. record { boot = refl; learnt = refl; ballots = refl; replicas = refl; live = refl })
  replied_rests node (Some c) =
      carried_for_rests node (known_after node.known reply) c (hearing c from reply (counts_at setting.layout.block c from.0 call reply))
      (on_reply setting.layout.block setting.code (fresh_stamp me c.stamp.view now node.boot (known_after node.known reply)) c from call reply)
      (job_reading node.job c.call.seq) (scrub_of node.scrub c.call.seq)

  -- a reply does what it does, and teaches a view: it does so as well at a brick that was taught the view before
  pub taught_first : (node : Node) (found : Option Coordinator) (view : Option View)
      → then_taught block group view (replied_at setting me now from node call reply found)
      ≡ replied_at setting me now from (node_taught_by block group node view) call reply found
  unfolding node_taught
  taught_first node found None = refl
  taught_first node found (Some view) =
      let step : NodeStep = replied_at setting me now from node call reply found in
      let later : Bool = is_later (node.learnt group) view in
      let learnt : Learnt = learns (node.learnt group) view in
      ap (λ (f : ℕ → Learnt). record step { node = if is_later (f group) view then with_learnt block group step.node (learns (f group) view) else step.node })
      (replied_rests node found).learnt
      ∙ sym (through_either (λ (n : Node). record step { node = n }) later (with_learnt block group step.node learnt) step.node)
      ∙ ap (λ (s : NodeStep). if later then s else step) (replied_then node learnt found)
      ∙ through_either (λ (n : Node). replied_at setting me now from n call reply found) later (with_learnt block group node learnt) node

-- A brick hears a reply: it is left out but for the time and the round that it tells, or the brick does with it what it does, once it was taught the view that the
-- reply teaches.
pub heard_each : (P : NodeStep → Type 0) (setting : Setting) (me : BrickId) (now : ℕ) (from : BrickId) (node : Node) (call : Call) (reply : Reply)
    → P (no_step (with_known (with_round node reply) (known_after node.known reply)))
    → (lists_fit setting.layout call reply ≡ true
    → P (replied_at setting me now from
    (node_taught_by setting.layout.block call.group.0 (with_round node reply) (view_counted setting.layout from node call reply)) call reply (node.calls call.seq)))
    → P (heard setting me now from node call reply)
unfolding replied
heard_each P setting me now from node call reply left handles =
    cond_both (lists_fit setting.layout call reply) (replied setting me now from node call reply)
    (no_step (with_known (with_round node reply) (known_after node.known reply))) P
    (λ fit. subst P
    (sym (taught_first setting me from now call.group.0 call reply (with_round node reply) (node.calls call.seq) (view_counted setting.layout from node call reply)))
    (handles fit))
    (λ isnt. left)
