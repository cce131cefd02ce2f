-- Whether a reply counts in what a brick has under way is what the machine says.
use Rattle.std.proofs.Common.{◌≡◌, ℕ, Bool, true, false, cond, nat_eq, ◌&&◌, Option, Some, None, is_some, refl, sym, ◌∙◌, ap, subst}
use Rattle.std.specs.Option.{option_map}
use Rattle.std.specs.Ordering.{nat_cmp}
use Rattle.std.specs.BTreeMap.{get}
use Rattle.std.proofs.lemmas.Bool.{and_parts}
use Rattle.fab_base.specs.declared.identities.BrickId.{BrickId}
use Rattle.fab_base.specs.declared.member_lists.View.{View}
use Rattle.fab_base.specs.Layouts.{Group, Layout, group_of}
use Rattle.messages.specs.declared.calls.Call.{Call}
use Rattle.messages.specs.declared.packets.Message.TheVariants as message
use Rattle.messages.specs.declared.replies.Reply.{Reply}
use Rattle.brick_store.specs.Bricks.{Brick}
use Rattle.protocol.specs.Coordinators as machine
use Rattle.protocol.specs.Coordinators.{Coordinator}
use Rattle.protocol.specs.Nodes.{Node, counts_here, may_teach}
use Rattle.protocol.specs.Proposals.{seat_voting}
use Rattle.protocol.specs.Views.{is_view, view_told}
use Rattle.view_synod.specs.Proposers.{Proposing, counts}
use Rattle.coord_phase.specs.Operations as phased
use Rattle.coord_phase.specs.Operations.{seat_told}
use Rattle.node.specs.declared.jobs.OpenJob.{OpenJob}
use Rattle.node.specs.declared.open_work.OpenWork.{OpenWork}
use Rattle.node.specs.declared.operations.Operation.{Operation}
use Rattle.node.specs.declared.proposals.OpenProposal.{OpenProposal}
use Rattle.node.specs.declared.scrubs.OpenScrub.{OpenScrub}
use Rattle.node.specs.declared.tasks.Tasks.{Tasks}
use Rattle.node.specs.Moves.{counts_at as work_counts, counts_with}
use Rattle.node.specs.Jobs.{calls_with, reading_in}
use Rattle.node.specs.Scrubs.{IsScrubOf, calls_with_scrub, scrub_coordinator_of, scrub_seq, scrub_shown, scrubbing_in}
use Rattle.node.specs.Tasks.{IsJobIn, IsScrubIn, AreTasksOf, counts_among, counts_at, counts_beside, read_seq}
use Rattle.node.specs.Operations.{shown_of, coordinator_of, IsOperationOf}
use Rattle.node.specs.Proposals.{IsUnderWayOn, counts_in, proposal_in}
use Rattle.node.specs.Proposers.{proposal_of}
use Rattle.node.specs.Running.{running, state_of}
use Rattle.node.specs.States.{IsWorkOf, state_with}
use Rattle.node.specs.Teaching.{is_taught}
use Rattle.node.proofs.Beside.{eq_turned, puts_apart}
use Rattle.node.proofs.ScrubCalls.{shown_block}
use Rattle.node.proofs.Views.{seen_so}

module _ (layout : Layout) (from : BrickId) (call : Call) (told : Reply) where
  -- in a proposal on the disk
  in_proposer : (proposer : Option Proposing) → ((x : Proposing) → proposer ≡ Some x → x.bricks ≡ layout.bricks)
      → counts proposer from.0 (message.Reply call told) ≡ counts_here layout from call told (proposal_of proposer) None
  in_proposer None on = refl
  in_proposer (Some x) on = ap (λ (bricks : ℕ). is_some (seat_voting bricks x.state from.0 call told)) (on x refl)

  bricks_of : (proposer : Option Proposing) → option_map (λ (x : Proposing). x.bricks) proposer ≡ Some layout.bricks
      → (x : Proposing) → proposer ≡ Some x → x.bricks ≡ layout.bricks
  bricks_of proposer on x is =
      let both : Some x.bricks ≡ Some layout.bricks = sym (ap (option_map (λ (y : Proposing). y.bricks)) is) ∙ on in
      cc

  in_proposal : (held : Option OpenProposal) → IsUnderWayOn layout.bricks held
      → counts_in held from (message.Reply call told) ≡ counts_here layout from call told (proposal_in held) None
  in_proposal None on = refl
  in_proposal (Some held) on = in_proposer held.proposer (bricks_of held.proposer on)

  -- in an operation of the layout, or, if there is none, in the proposal
  in_either : (work : OpenWork) → IsUnderWayOn layout.bricks work.proposals.under_way → (held : Option Operation)
      → ((op : Operation) → held ≡ Some op → IsOperationOf layout op)
      → counts_with work from (message.Reply call told) held
      ≡ counts_here layout from call told (proposal_in work.proposals.under_way) (option_map coordinator_of held)
  unfolding seat_told
  in_either work on None each = in_proposal work.proposals.under_way on
  in_either work on (Some op) each =
      ap (λ (block : ℕ). is_some (machine.counts_at block (coordinator_of op) from.0 call told)) (each op refl)

  -- no read or scrub has the call
  abbrev open_at : Tasks → ℕ → Option Coordinator
  open_at tasks k = option_map coordinator_of (get nat_cmp tasks.work.calls.operations k)

  -- in the scrub, if that has the call, or else so
  in_scrub : (tasks : Tasks) → IsWorkOf layout tasks.work → (scrub : Option OpenScrub) → ((held : OpenScrub) → scrub ≡ Some held → IsScrubOf layout held)
      → counts_beside tasks scrub call.seq from (message.Reply call told)
      ≡ counts_here layout from call told (proposal_in tasks.work.proposals.under_way) (calls_with_scrub (scrubbing_in scrub) (open_at tasks) call.seq)
  unfolding seat_told
  in_scrub tasks is None each =
      in_either tasks.work is.proposing (get nat_cmp tasks.work.calls.operations call.seq) (λ op held. (is.calls call.seq op held).is_operation)
  in_scrub tasks is (Some held) each =
      in_that (nat_eq (scrub_seq held) call.seq)
      ∙ ap (λ (b : Bool). counts_here layout from call told (proposal_in tasks.work.proposals.under_way)
      (cond b (Some (scrub_coordinator_of held)) (open_at tasks call.seq))) (eq_turned (scrub_seq held) call.seq)
    where
      in_that : (b : Bool) → cond b (phased.counts (scrub_shown held) from (message.Reply call told)) (work_counts tasks.work call.seq from (message.Reply call told))
          ≡ counts_here layout from call told (proposal_in tasks.work.proposals.under_way) (cond b (Some (scrub_coordinator_of held)) (open_at tasks call.seq))
      in_that true =
          ap (λ (block : ℕ). is_some (machine.counts_at block (scrub_coordinator_of held) from.0 call told)) (shown_block layout held (each held refl))
      in_that false =
          in_either tasks.work is.proposing (get nat_cmp tasks.work.calls.operations call.seq) (λ op found. (is.calls call.seq op found).is_operation)

  -- in the read of a synchronisation, if that has the call, or else so
  in_any : (tasks : Tasks) → IsWorkOf layout tasks.work → ((held : OpenScrub) → tasks.scrub ≡ Some held → IsScrubOf layout held)
      → (job : Option OpenJob) → ((held : OpenJob) → job ≡ Some held → IsOperationOf layout held.read)
      → counts_among tasks job call.seq from (message.Reply call told)
      ≡ counts_here layout from call told (proposal_in tasks.work.proposals.under_way)
      (calls_with (reading_in job) (calls_with_scrub (scrubbing_in tasks.scrub) (open_at tasks)) call.seq)
  unfolding seat_told
  in_any tasks is scrubs None each = in_scrub tasks is tasks.scrub scrubs
  in_any tasks is scrubs (Some held) each =
      in_this (nat_eq (read_seq held) call.seq)
      ∙ ap (λ (b : Bool). counts_here layout from call told (proposal_in tasks.work.proposals.under_way) (cond b (Some (coordinator_of held.read)) other))
      (eq_turned (read_seq held) call.seq)
    where
      other : Option Coordinator
      other = calls_with_scrub (scrubbing_in tasks.scrub) (open_at tasks) call.seq

      in_this : (b : Bool) → cond b (phased.counts (shown_of held.read) from (message.Reply call told))
          (counts_beside tasks tasks.scrub call.seq from (message.Reply call told))
          ≡ counts_here layout from call told (proposal_in tasks.work.proposals.under_way) (cond b (Some (coordinator_of held.read)) other)
      in_this true = ap (λ (block : ℕ). is_some (machine.counts_at block (coordinator_of held.read) from.0 call told)) (each held refl)
      in_this false = in_scrub tasks is tasks.scrub scrubs

  -- a scrub of a brick of the layout is of that
  scrub_of : (tasks : Tasks) → (scrub : Option OpenScrub) → IsScrubIn layout tasks.work.calls tasks.job scrub → (held : OpenScrub) → scrub ≡ Some held → IsScrubOf layout held
  scrub_of tasks None is held same = absurd cc
  scrub_of tasks (Some open_scrub) is held same =
      let both : open_scrub ≡ held = cc in
      subst (λ (x : OpenScrub). IsScrubOf layout x) both is.scrub_is

  -- the read and the scrub are there in either order
  either_way : (tasks : Tasks) (job : Option OpenJob) (scrub : Option OpenScrub) → IsScrubIn layout tasks.work.calls job scrub → (f : ℕ → Option Coordinator)
      → calls_with (reading_in job) (calls_with_scrub (scrubbing_in scrub) f) ≡ calls_with_scrub (scrubbing_in scrub) (calls_with (reading_in job) f)
  either_way tasks None scrub is f = refl
  either_way tasks (Some held) None is f = refl
  either_way tasks (Some held) (Some s) is f =
      puts_apart f (scrub_seq s) (read_seq held) (Some (scrub_coordinator_of s)) (Some (coordinator_of held.read)) (eq_turned (scrub_seq s) (read_seq held) ∙ is.aside)

  -- the read of a synchronisation of a brick of the layout is of that
  read_of : (tasks : Tasks) → (job : Option OpenJob) → IsJobIn layout tasks.work.calls job → (held : OpenJob) → job ≡ Some held → IsOperationOf layout held.read
  read_of tasks None is held same = absurd cc
  read_of tasks (Some open_job) is held same =
      let both : open_job ≡ held = cc in
      subst (λ (x : OpenJob). IsOperationOf layout x.read) both is.open_is.is_operation

  -- so it is at a brick
  pub counts_so : {D : Type 0} (tasks : Tasks) (store : Brick D) → AreTasksOf layout tasks → tasks.work.calls.stamps.boot ≡ store.state.boot
      → (let node = state_of (running layout tasks store) in
      counts_at tasks call.seq from (message.Reply call told) ≡ counts_here layout from call told node.proposal (node.calls call.seq))
  unfolding state_with
  counts_so tasks store is boot =
      in_any tasks is.work_is (scrub_of tasks tasks.scrub is.scrub_is) tasks.job (read_of tasks tasks.job is.job_is)
      ∙ ap (λ (f : ℕ → Option Coordinator). counts_here layout from call told (proposal_in tasks.work.proposals.under_way) (f call.seq))
      (either_way tasks tasks.job tasks.scrub is.scrub_is (open_at tasks))
      ∙ ap (λ (n : Node). counts_here layout from call told n.proposal (n.calls call.seq)) (sym (seen_so layout tasks store boot))

  -- a view that may keep its group is taught where the reply that tells it counts
  pub taught_so : {D : Type 0} (tasks : Tasks) (store : Brick D) → AreTasksOf layout tasks → tasks.work.calls.stamps.boot ≡ store.state.boot
      → (view : View) → view_told told ≡ Some view → (group : Group) → group_of layout call.group.0 ≡ Some group
      → is_taught layout (state_of (running layout tasks store)) from call told
      ≡ (is_view group.m layout.bricks view && counts_at tasks call.seq from (message.Reply call told))
  taught_so tasks store is boot view told_is group found =
      let node = state_of (running layout tasks store) in
      ap (λ (v : Option View). may_teach layout v (group_of layout call.group.0) && counts_here layout from call told node.proposal (node.calls call.seq)) told_is
      ∙ ap (λ (g : Option Group). may_teach layout (Some view) g && counts_here layout from call told node.proposal (node.calls call.seq)) found
      ∙ ap (λ (b : Bool). is_view group.m layout.bricks view && b) (sym (counts_so tasks store is boot))

  -- a reply that teaches counts
  pub taught_counts : {D : Type 0} (tasks : Tasks) (store : Brick D) → AreTasksOf layout tasks → tasks.work.calls.stamps.boot ≡ store.state.boot
      → is_taught layout (state_of (running layout tasks store)) from call told ≡ true → counts_at tasks call.seq from (message.Reply call told) ≡ true
  taught_counts tasks store is boot taught =
      let node = state_of (running layout tasks store) in
      counts_so tasks store is boot
      ∙ (and_parts (may_teach layout (view_told told) (group_of layout call.group.0)) (counts_here layout from call told node.proposal (node.calls call.seq)) taught).1
