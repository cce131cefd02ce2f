-- A step of a brick of the layout leaves one, and sends and answers what has a spelling, whatever message came from a brick, and whatever was asked.
use Rattle.std.proofs.Common.{◌≡◌, ℕ, ◌+◌, ◌*◌, ◌<◌, ◌≤◌, Bool, true, false, List, [], ◌++◌, length, Option, Some, None, refl, replicate, subst, arith}
use Rattle.std.specs.Prelude.{not, is_some, nat_eq, nat_lt, ◌-◌, ◌&&◌, ◌||◌, if◌then◌else◌, max}
use Rattle.std.specs.Option.{IfSome, option_map}
use Rattle.std.proofs.lemmas.Bool.{cond_both, eqb-true, eqb-false, ltb-true, and_parts, or_parts, not-false, false≢true}
use Rattle.std.proofs.lemmas.List.{length-replicate}
use Rattle.std.proofs.lemmas.Option.{same_Some}
use Rattle.fab_base.specs.declared.asks.Ask.{Ask}
use Rattle.fab_base.specs.declared.asks.Op.{Op}
use Rattle.fab_base.specs.declared.asks.Op.TheVariants.{ReadBlock, WriteBlock, ReadStripe, WriteStripe}
use Rattle.fab_base.specs.declared.answers.Refusal.{Refusal}
use Rattle.fab_base.specs.declared.identities.BrickId.{BrickId}
use Rattle.fab_base.specs.declared.identities.GroupId.{GroupId}
use Rattle.fab_base.specs.declared.identities.ViewNo.{ViewNo}
use Rattle.fab_base.specs.declared.member_lists.View.{View}
use Rattle.fab_base.specs.declared.stamps.Ballot.{Ballot}
use Rattle.fab_base.specs.declared.stamps.Stamp.{Stamp}
use Rattle.fab_base.specs.Layouts.{Layout, Group, group_of}
use Rattle.messages.specs.declared.calls.Call.{Call}
use Rattle.messages.specs.declared.clients.ClientAnswer.TheVariants.{Refused}
use Rattle.messages.specs.declared.packets.Message.{Message}
use Rattle.messages.specs.declared.packets.Message.TheVariants as messages
use Rattle.messages.specs.declared.packets.Packet.{Packet}
use Rattle.messages.specs.declared.replies.Reply.{Reply}
use Rattle.messages.specs.declared.replies.Reply.TheVariants.{Moved, Old, Retired}
use Rattle.messages.specs.declared.requests.Request.{Request}
use Rattle.messages.specs.declared.requests.Request.TheVariants as requests
use Rattle.layout.specs.Limits.{IsLayout, IsGroup}
use Rattle.protocol.specs.Settings.{are_bytes}
use Rattle.quorum.specs.Memberships.{is_membership}
use Rattle.synod_laws.specs.Synods.{Kept, last_of}
use Rattle.protocol.specs.Views.{Learnt, kept_by, is_later, learns, is_unsynced, notes_synced, first_kept, view_told}
use Rattle.protocol.specs.Ballots.{Voted, moved_to}
use Rattle.protocol.specs.Coordinators.{Coordinator, Next, Ignores, Waits, Sends, Makes, Ends, counts_at, hearing, on_reply}
use Rattle.protocol.specs.Scrubs.{Scrub, lagging_after}
use Rattle.protocol.specs.Jobs.{Job, JobNext, Reads, Finishes, GivesUp, job_ask, job_after, abort_cause}
use Rattle.protocol.specs.Nodes.{Node, NodeStep, put, no_step, view_at, has_accepted, has_block, has_length, refusal_in, refusal_of, first_phase, has_later_time, new_stamp, fresh_stamp, given_content, coordinator_in, new_coordinator, began, invoked, replica_at, full_at, reply_packets, reacted, requested_at, is_now, has_successor, fits, seat_now, is_void, moved_at, served_unless, vote_at, voted_on, old_reply, requested_as, requested_in, requested, with_learnt, node_taught, may_teach, node_learnt, node_synced, known_after, with_call, with_known, with_round, carried_out, with_proposal, carried_ballot, replied_ballot, with_job, read_begun_by, read_begun_in, job_goes, read_closed, carried_read, job_reading, with_scrub, carried_scrub, collect_packets, scrub_of, carried_for, replied_at, counts_here, view_counted, then_taught, replied, lists_fit, heard, received, ticked, ballot_resent, resent, calls_but_read, calls_but_scrub, job_call, scrub_call, resent_up_to, most_open, is_spent}
use Rattle.protocol.specs.Proposals.{Proposal, Voting, Ignored, Waited, Asks, Ended, voted}
use Rattle.protocol.specs.Replicas.{Replica, Reaction, fresh_replica, handle, newest_of, under}
use Rattle.protocol.proofs.Served.{parts_each}
use Rattle.protocol.proofs.Tables.{put_each}
use Rattle.stripe_code.specs.Codes.{block_code, coding}
use Rattle.serving.specs.Spellings.{has_some, reply_fits, answer_fits, has_spelling}
use Rattle.serving.proofs.Everywhere.{all_append}
use Rattle.serving.proofs.Fitting.{AreShort, NamesSome, ViewFits, GroupFits, PhaseFits, CallFits, ProposalFits, VotingFits, PacketFits, PacketsFit, NextFits, ReactionFits, VoteFits, NodeFits, StepFits}
use Rattle.serving.proofs.Lists.{names_some, view_fits}
use Rattle.serving.proofs.Members.{StoresBlock, handled_fits, old_short}
use Rattle.serving.proofs.Asking.{phase_fits, collect_fits, again, all_again, ballot_fits, ballot_again, end_fits, all_synced}
use Rattle.serving.proofs.Deciding.{OfItsView, replied_fits}
use Rattle.serving.proofs.Voting.{voted_fits, moved_fits, vote_fits}

-- a test that did not refuse
passed : (test : Bool) (reason : Refusal) (rest : Option Refusal) → (if not test then Some reason else rest) ≡ None → (test ≡ true) × (rest ≡ None)
passed true reason rest e = (refl, e)
passed false reason rest e = cc

-- a refusal has a spelling
abbrev IsSaid : Option Refusal → Type 0
IsSaid refusal = IfSome refusal (λ reason. answer_fits (Refused reason) ≡ true)

said_in : (layout : Layout) (node : Node) (ask : Ask) (group : Option Group) → IsSaid (refusal_in layout.block node ask group)
said_in layout node ask None = refl
said_in layout node ask (Some group) =
    cond_both (not (nat_lt ask.stripe.0 group.stripes)) _ _ IsSaid (λ e. refl) (λ e.
    cond_both (not (has_block group.m ask.op)) _ _ IsSaid (λ e. refl) (λ e.
    cond_both (not (has_length group.m layout.block ask.op)) _ _ IsSaid (λ e. refl) (λ e.
    cond_both (not (nat_lt node.busy most_open)) _ _ IsSaid (λ e. refl) (λ e.
    cond_both (is_spent node) _ _ IsSaid (λ e. refl) (λ e. tt)))))

pub refusal_said : (layout : Layout) (node : Node) (ask : Ask) → IsSaid (refusal_of layout node ask)
unfolding refusal_of
refusal_said layout node ask = said_in layout node ask (group_of layout ask.group.0)

-- a request that is not void: of a view from 1 on, and what it names fits
record IsMeant (layout : Layout) (me : BrickId) (node : Node) (call : Call) (request : Request) (group : Group) : Type 0 where
  view : 1 ≤ call.view.0
  fitting : fits layout group.m call request (seat_now me node call group) ≡ true

meant : (layout : Layout) (me : BrickId) (node : Node) (call : Call) (request : Request) (group : Group)
    → is_void layout me node call request group ≡ false → IsMeant layout me node call request group
meant layout me node call request group isnt =
    let fit : Bool = fits layout group.m call request (seat_now me node call group) in
    let seatless : Bool = is_now node call && not (is_some (seat_now me node call group)) in
    let stripe = or_parts (not (nat_lt call.stripe.0 group.stripes)) _ isnt in
    let view = or_parts (nat_eq call.view.0 0) _ stripe.1 in
    let known = or_parts (nat_lt (view_at node call.group.0) call.view.0) (seatless || not fit) view.1 in
    let seat = or_parts seatless (not fit) known.1 in
    let some = eqb-false call.view.0 0 view.0 in
    record { view = omega (arith, some); fitting = not-false fit seat.1 }

-- what is stored then is a block
stores_block : (layout : Layout) (m : ℕ) (call : Call) (request : Request) (seat : Option ℕ) → fits layout m call request seat ≡ true
    → StoresBlock layout.block request
stores_block layout m call (requests.Write t bytes) seat fit = eqb-true (length bytes) layout.block fit
stores_block layout m call request seat fit = tt

-- what an unbegun part of a stripe has is short
fresh_short : (block view : ℕ) → AreShort block (fresh_replica block view).log
fresh_short block view =
    cond_both (nat_eq view 1) _ _ (λ (r : Replica). AreShort block r.log) (λ first. (let long : length {A = ℕ} (replicate block 0) ≡ block = length-replicate block 0 in omega (arith, long), tt)) (λ later. tt)

module _ (layout : Layout) (is : IsLayout layout) (me : BrickId) where
  -- a step that changes nothing
  still : (node : Node) → NodeFits layout node → StepFits layout (no_step node)
  still node fits = record { node = fits; packets = tt; answers = tt }

  -- a group of the layout, whatever bricks of it keep it
  kept_fits : (g : ℕ) (group : Group) (members : List BrickId) → group_of layout g ≡ Some group → GroupFits layout (kept_by members group)
  kept_fits g group members at =
      let its : IsGroup layout.block layout.bricks group = is.each g group at in record { few = its.limits.few_blocks; room = its.room }

  -- one open operation changes
  with_open : (node : Node) (k : ℕ) (call : Option Coordinator) → NodeFits layout node → ((c : Coordinator) → call ≡ Some c → CallFits layout c)
      → (q : ℕ) (c : Coordinator) → put node.calls k call q ≡ Some c → CallFits layout c
  with_open node k call fits own q =
      put_each (λ j x. (c : Coordinator) → x ≡ Some c → CallFits layout c) node.calls k call own (λ j other c at. fits.calls j c at) q

  opens : (node : Node) (known busy k : ℕ) (call : Option Coordinator) → NodeFits layout node → ((c : Coordinator) → call ≡ Some c → CallFits layout c)
      → NodeFits layout (with_call node known busy k call)
  opens node known busy k call fits own =
      record { views = fits.views; accepted = fits.accepted; logs = fits.logs; calls = with_open node k call fits own; proposal = fits.proposal; job = fits.job }

  this_open : (d : Coordinator) → CallFits layout d → (c : Coordinator) → Some d ≡ Some c → CallFits layout c
  this_open d fits c same = subst (CallFits layout) (same_Some d c same) fits

  -- the proposal changes
  proposes : (node : Node) (proposal : Option Proposal) → NodeFits layout node → ((p : Proposal) → proposal ≡ Some p → ProposalFits layout p)
      → NodeFits layout (with_proposal node proposal)
  proposes node proposal fits own =
      record { views = fits.views; accepted = fits.accepted; logs = fits.logs; calls = fits.calls; proposal = own; job = fits.job }

  this_proposal : (q : Proposal) → ProposalFits layout q → (p : Proposal) → Some q ≡ Some p → ProposalFits layout p
  this_proposal q fits p same = subst (ProposalFits layout) (same_Some q p same) fits

  -- it knows a time
  knows : (node : Node) (known : ℕ) → NodeFits layout node → NodeFits layout (with_known node known)
  knows node known fits =
      record { views = fits.views; accepted = fits.accepted; logs = fits.logs; calls = fits.calls; proposal = fits.proposal; job = fits.job }

  -- and a round
  rounds : (node : Node) (reply : Reply) → NodeFits layout node → NodeFits layout (with_round node reply)
  rounds node reply fits =
      record { views = fits.views; accepted = fits.accepted; logs = fits.logs; calls = fits.calls; proposal = fits.proposal; job = fits.job }

  -- ---- an operation begins

  given_short : (m block : ℕ) (op : Op) → has_length m block op ≡ true → m * block ≤ 32768 → length (given_content op) ≤ 32768
  given_short m block (ReadBlock j) given room = omega arith
  given_short m block (WriteBlock j bytes) given room = omega arith
  given_short m block ReadStripe given room = omega arith
  given_short m block (WriteStripe bytes) given room =
      let long = eqb-true (length bytes) (m * block) (and_parts (are_bytes bytes) (nat_eq (length bytes) (m * block)) given).1 in omega (arith, long, room)

  first_fits : (m block : ℕ) (content : List ℕ) (op : Op) → has_block m op ≡ true → PhaseFits m block content (first_phase op)
  first_fits m block content (ReadBlock j) has = ltb-true j m has
  first_fits m block content (WriteBlock j bytes) has = ltb-true j m has
  first_fits m block content ReadStripe has = tt
  first_fits m block content (WriteStripe bytes) has = tt

  begun_fits : (now : ℕ) (node : Node) (ask : Ask) (group : Option Group) → group_of layout ask.group.0 ≡ group → NodeFits layout node
      → refusal_in layout.block node ask group ≡ None
      → StepFits layout (began (coding layout) me now node ask (option_map (kept_by (node.learnt ask.group.0).view.members) group))
  begun_fits now node ask None at fits free = cc
  begun_fits now node ask (Some group) at fits free =
      let stripe = passed _ _ _ free in
      let has = passed _ _ _ stripe.1 in
      let given = passed _ _ _ has.1 in
      let view : View = (node.learnt ask.group.0).view in
      let keeps : GroupFits layout (kept_by view.members group) = kept_fits ask.group.0 group view.members at in
      let c : Coordinator = new_coordinator (kept_by view.members group) me now node ask in
      let call : CallFits layout c = record {
        group = keeps;
        view = fits.views ask.group.0 group at;
        has = has.0;
        given = given.0;
        content = given_short group.m layout.block ask.op given.0 keeps.room;
        phase = first_fits group.m layout.block (given_content ask.op) ask.op has.0;
        counted = tt;
      } in
      record {
        node = record {
          views = fits.views;
          accepted = fits.accepted;
          logs = fits.logs;
          calls = with_open node c.call.seq (Some c) fits (this_open c call);
          proposal = fits.proposal;
          job = fits.job;
        };
        packets = phase_fits layout is.few_bytes me c call;
        answers = tt;
      }

  pub invoked_fits : (now : ℕ) (node : Node) (ask : Ask) → NodeFits layout node → refusal_of layout node ask ≡ None
      → StepFits layout (invoked (coding layout) me now node ask)
  unfolding refusal_of invoked
  invoked_fits now node ask fits free = begun_fits now node ask (group_of layout ask.group.0) refl fits free

  -- ---- a request

  replies_fit : (from : BrickId) (call : Call) (reply : Option Reply) → from.0 < layout.bricks → IfSome reply (λ r. reply_fits r ≡ true)
      → PacketsFit layout (reply_packets me from call reply)
  unfolding has_spelling
  replies_fit from call None below spelled = tt
  replies_fit from call (Some reply) below spelled = (record { to = below; spelled = spelled }, tt)

  reacted_fits : (from : BrickId) (node : Node) (call : Call) (reaction : Reaction) → from.0 < layout.bricks → NodeFits layout node
      → ReactionFits layout.block reaction → StepFits layout (reacted me from node call reaction)
  reacted_fits from node call reaction below fits reacts =
      record {
        node = record {
          views = fits.views;
          accepted = fits.accepted;
          logs = parts_each (λ g e s part. AreShort layout.block part.log) node call reaction reacts.log fits.logs;
          calls = fits.calls;
          proposal = fits.proposal;
          job = fits.job;
        };
        packets = replies_fit from call reaction.reply below reacts.reply;
        answers = tt;
      }

  requested_fits_at : (m : ℕ) (from : BrickId) (node : Node) (call : Call) (request : Request) (seat : Option ℕ) → from.0 < layout.bricks
      → NodeFits layout node → StoresBlock layout.block request → StepFits layout (requested_at (coding layout) m me from node call request seat)
  requested_fits_at m from node call request None below fits stores = still node fits
  requested_fits_at m from node call request (Some seat) below fits stores =
      reacted_fits from node call
      (handle (block_code layout.block) m (full_at layout.records node.live) seat (replica_at node call) request) below fits
      (handled_fits layout.block is.few_bytes m (full_at layout.records node.live) seat (replica_at node call) request
      (fits.logs call.group.0 call.view.0 call.stripe.0) stores)

  -- a brick that serves the view no more tells a later one, which it has learnt, or that it accepted a list
  moves_fit : (node : Node) (call : Call) → 1 ≤ call.view.0 → ViewFits layout (node.learnt call.group.0).view
      → IfSome (moved_at node call) (λ reply. reply_fits reply ≡ true)
  moves_fit node call some fits =
      cond_both (nat_lt call.view.0 (view_at node call.group.0)) (Some (moved_to (node.learnt call.group.0).view))
      (if has_accepted node call.group.0 then Some (Moved (record { 0 = call.view.0 + 1 }) None) else None)
      (λ (r : Option Reply). IfSome r (λ reply. reply_fits reply ≡ true))
      (λ later.
      moved_fits layout (node.learnt call.group.0).view fits
      (let above = ltb-true call.view.0 (view_at node call.group.0) later in omega (arith, some, above)))
      (λ own.
      cond_both (has_accepted node call.group.0) (Some (Moved (record { 0 = call.view.0 + 1 }) None)) None
      (λ (r : Option Reply). IfSome r (λ reply. reply_fits reply ≡ true)) (λ has. refl) (λ free. tt))

  served_fits : (m : ℕ) (from : BrickId) (node : Node) (call : Call) (request : Request) (seat : Option ℕ) (moved : Option Reply)
      → from.0 < layout.bricks → NodeFits layout node → StoresBlock layout.block request → IfSome moved (λ reply. reply_fits reply ≡ true)
      → StepFits layout (served_unless (coding layout) m me from node call request seat moved)
  served_fits m from node call request seat None below fits stores says = requested_fits_at m from node call request seat below fits stores
  served_fits m from node call request seat (Some moved) below fits stores says =
      record { node = fits; packets = replies_fit from call (Some moved) below says; answers = tt }

  -- it votes
  voted_fits_at : (from : BrickId) (node : Node) (call : Call) (vote : Voted) → from.0 < layout.bricks → NodeFits layout node → VoteFits vote
      → StepFits layout (voted_on me from node call vote)
  voted_fits_at from node call vote below fits votes =
      record {
        node = record {
          views = fits.views;
          accepted = put_each (λ (g : ℕ) (kept : Kept (List BrickId)). (group : Group) → group_of layout g ≡ Some group → NamesSome (last_of kept))
              node.ballots call.group.0 vote.kept (λ group at. votes.kept) (λ g other. fits.accepted g);
          logs = fits.logs;
          calls = fits.calls;
          proposal = fits.proposal;
          job = fits.job;
        };
        packets = replies_fit from call (Some vote.reply) below votes.reply;
        answers = tt;
      }

  ballot_voted : (from : BrickId) (node : Node) (call : Call) (ballot : Ballot) (asks : Option (List BrickId)) (group : Group) → from.0 < layout.bricks
      → NodeFits layout node → group_of layout call.group.0 ≡ Some group → 1 ≤ call.view.0 → IfSome asks (λ members. has_some members ≡ true)
      → StepFits layout (voted_on me from node call (vote_at node call ballot asks))
  ballot_voted from node call ballot asks group below fits at some asks_some =
      voted_fits_at from node call (vote_at node call ballot asks) below fits
      (vote_fits layout call.view.0 (node.learnt call.group.0) (node.ballots call.group.0) ballot asks some (fits.views call.group.0 group at)
      (fits.accepted call.group.0 group at) asks_some)

  -- it tells what it keeps in a view that it serves no more
  old_fits : (node : Node) (call : Call) (bound : Option Stamp) → NodeFits layout node
      → IfSome (old_reply node call bound) (λ reply. reply_fits reply ≡ true)
  old_fits node call bound fits =
      cond_both (nat_lt call.view.0 (first_kept (node.learnt call.group.0))) (Some Retired)
      (if is_some (moved_at node call) then Some (Old (newest_of (under bound (replica_at node call).log))) else None)
      (λ (r : Option Reply). IfSome r (λ reply. reply_fits reply ≡ true))
      (λ dropped. refl)
      (λ kept.
      cond_both (is_some (moved_at node call)) (Some (Old (newest_of (under bound (replica_at node call).log)))) None
      (λ (r : Option Reply). IfSome r (λ reply. reply_fits reply ≡ true))
      (λ moved. old_short layout.block is.few_bytes bound (replica_at node call).log (fits.logs call.group.0 call.view.0 call.stripe.0)) (λ serves. tt))

  -- what a brick does with a request that is not void: it may serve it, in the view that these members keep
  serves : (from : BrickId) (node : Node) (call : Call) (request : Request) (group : Group) (members : List BrickId) → from.0 < layout.bricks
      → NodeFits layout node → group_of layout call.group.0 ≡ Some group → IsMeant layout me node call request (kept_by members group)
      → StepFits layout (served_unless (coding layout) group.m me from node call request (seat_now me node call (kept_by members group))
      (moved_at node call))
  serves from node call request group members below fits at means =
      served_fits group.m from node call request (seat_now me node call (kept_by members group)) (moved_at node call) below fits
      (stores_block layout group.m call request (seat_now me node call (kept_by members group)) means.fitting)
      (moves_fit node call means.view (fits.views call.group.0 group at))

  as_meant : (from : BrickId) (node : Node) (call : Call) (request : Request) (group : Group) (members : List BrickId) → from.0 < layout.bricks
      → NodeFits layout node → group_of layout call.group.0 ≡ Some group → IsMeant layout me node call request (kept_by members group)
      → StepFits layout (requested_as (coding layout) (kept_by members group) me from node call request)
  as_meant from node call (requests.Read want) group members below fits at means =
      serves from node call (requests.Read want) group members below fits at means
  as_meant from node call (requests.Order t) group members below fits at means =
      serves from node call (requests.Order t) group members below fits at means
  as_meant from node call (requests.OrderRead t look want) group members below fits at means =
      serves from node call (requests.OrderRead t look want) group members below fits at means
  as_meant from node call (requests.Write t bytes) group members below fits at means =
      serves from node call (requests.Write t bytes) group members below fits at means
  as_meant from node call (requests.Modify t base j delta) group members below fits at means =
      serves from node call (requests.Modify t base j delta) group members below fits at means
  as_meant from node call (requests.Collect t) group members below fits at means =
      requested_fits_at group.m from node call (requests.Collect t) (seat_now me node call (kept_by members group)) below fits tt
  as_meant from node call (requests.OldRead bound) group members below fits at means =
      record { node = fits; packets = replies_fit from call (old_reply node call bound) below (old_fits node call bound fits); answers = tt }
  as_meant from node call (requests.Prepare ballot) group members below fits at means =
      ballot_voted from node call ballot None group below fits at means.view tt
  as_meant from node call (requests.Accept ballot asked) group members below fits at means =
      ballot_voted from node call ballot (Some asked) group below fits at means.view
      (names_some group.m layout.bricks asked (is.each call.group.0 group at).limits.some_block
      (and_parts (has_successor call) (is_membership group.m layout.bricks asked) means.fitting).1)

  requested_fits_in : (from : BrickId) (node : Node) (call : Call) (request : Request) (members : List BrickId) (group : Option Group)
      → group_of layout call.group.0 ≡ group → from.0 < layout.bricks → NodeFits layout node
      → StepFits layout (requested_in (coding layout) me from node call request (option_map (kept_by members) group))
  requested_fits_in from node call request members None at below fits = still node fits
  requested_fits_in from node call request members (Some group) at below fits =
      let kept : Group = kept_by members group in
      cond_both (is_void layout me node call request kept) (no_step node) (requested_as (coding layout) kept me from node call request) (StepFits layout)
      (λ void. still node fits) (λ isnt. as_meant from node call request group members below fits at (meant layout me node call request kept isnt))

  requested_fits : (from : BrickId) (node : Node) (call : Call) (request : Request) → from.0 < layout.bricks → NodeFits layout node
      → StepFits layout (requested (coding layout) me from node call request)
  unfolding requested
  requested_fits from node call request below fits =
      requested_fits_in from node call request (node.learnt call.group.0).view.members (group_of layout call.group.0) refl below fits

  -- ---- a view is learnt

  -- what a brick keeps of views, ballots and stripes once it has learnt a view
  learnt_fits : (g : ℕ) (node : Node) (learnt : Learnt) → NodeFits layout node
      → ((group : Group) → group_of layout g ≡ Some group → ViewFits layout learnt.view) → NodeFits layout (with_learnt layout.block g node learnt)
  learnt_fits g node learnt fits own =
      let first : ℕ = first_kept learnt in
      record {
        views = put_each (λ (h : ℕ) (l : Learnt). (group : Group) → group_of layout h ≡ Some group → ViewFits layout l.view) node.learnt g learnt own
            (λ h other. fits.views h);
        accepted = put_each (λ (h : ℕ) (kept : Kept (List BrickId)). (group : Group) → group_of layout h ≡ Some group → NamesSome (last_of kept))
            node.ballots g (if nat_eq learnt.view.number.0 (view_at node g) then node.ballots g else None)
            (λ group at.
            cond_both (nat_eq learnt.view.number.0 (view_at node g)) (node.ballots g) None (λ (kept : Kept (List BrickId)). NamesSome (last_of kept))
            (λ same. fits.accepted g group at) (λ other. tt))
            (λ h other. fits.accepted h);
        logs = put_each (λ (h : ℕ) (parts : ℕ → ℕ → Replica). (e s : ℕ) → AreShort layout.block (parts e s).log) node.replicas g
            (λ e s. if nat_lt e first then fresh_replica layout.block e else node.replicas g e s)
            (λ e s.
            cond_both (nat_lt e first) (fresh_replica layout.block e) (node.replicas g e s) (λ (r : Replica). AreShort layout.block r.log)
            (λ dropped. fresh_short layout.block e) (λ kept. fits.logs g e s))
            (λ h other. fits.logs h);
        calls = fits.calls;
        proposal = fits.proposal;
        job = fits.job;
      }

  taught_node : (g : ℕ) (node : Node) (view : View) → NodeFits layout node → ViewFits layout view → NodeFits layout (node_taught layout.block g node view)
  unfolding node_taught learns
  taught_node g node view fits taught =
      cond_both (is_later (node.learnt g) view) (with_learnt layout.block g node (learns (node.learnt g) view)) node (NodeFits layout)
      (λ later.
      learnt_fits g node (learns (node.learnt g) view) fits
      (λ group at.
      cond_both (is_later (node.learnt g) view) (record { view = view; synced = false }) (node.learnt g) (λ (l : Learnt). ViewFits layout l.view)
      (λ again. taught) (λ not. fits.views g group at)))
      (λ not. fits)

  -- the lists of a view that may be taught may keep its group
  may_fit : (g : ℕ) (view : View) (group : Option Group) → group_of layout g ≡ group → may_teach layout (Some view) group ≡ true → ViewFits layout view
  may_fit g view None at may = absurd (false≢true may)
  may_fit g view (Some group) at may = view_fits layout group.m view (is.each g group at).limits.some_block may

  named_fits : (node : Node) (group : GroupId) (view : View) → NodeFits layout node → NodeFits layout (node_learnt layout node group view)
  unfolding node_learnt
  named_fits node group view fits =
      cond_both (may_teach layout (Some view) (group_of layout group.0)) (node_taught layout.block group.0 node view) node (NodeFits layout)
      (λ may. taught_node group.0 node view fits (may_fit group.0 view (group_of layout group.0) refl may)) (λ void. fits)

  -- all stripes are kept in a view
  noted_fits : (learnt : Learnt) (number : ℕ) → ViewFits layout learnt.view → ViewFits layout (notes_synced learnt number).view
  unfolding notes_synced
  noted_fits learnt number fits =
      cond_both (is_unsynced learnt number) (record learnt { synced = true }) learnt (λ (l : Learnt). ViewFits layout l.view) (λ new. fits) (λ not. fits)

  synced_fits : (node : Node) (group : GroupId) (number : ViewNo) → NodeFits layout node → NodeFits layout (node_synced layout node group number)
  unfolding node_synced
  synced_fits node group number fits =
      cond_both (is_some (group_of layout group.0) && is_unsynced (node.learnt group.0) number.0)
      (with_learnt layout.block group.0 node (notes_synced (node.learnt group.0) number.0)) node (NodeFits layout)
      (λ new.
      learnt_fits group.0 node (notes_synced (node.learnt group.0) number.0) fits
      (λ kept at. noted_fits (node.learnt group.0) number.0 (fits.views group.0 kept at)))
      (λ not. fits)

  -- a step, once the brick was taught a view too
  then_fits : (g : ℕ) (view : Option View) (step : NodeStep) → IfSome view (ViewFits layout) → StepFits layout step
      → StepFits layout (then_taught layout.block g view step)
  then_fits g None step told fits = record { node = fits.node; packets = fits.packets; answers = fits.answers }
  then_fits g (Some view) step told fits =
      record { node = taught_node g step.node view fits.node told; packets = fits.packets; answers = fits.answers }

  -- ---- a reply

  carried_fits : (node : Node) (known : ℕ) (c : Coordinator) (next : Next) → NodeFits layout node → CallFits layout c → NextFits layout next
      → StepFits layout (carried_out (coding layout) me node known c next)
  carried_fits node known c Ignores fits call next = record { node = knows node known fits; packets = tt; answers = tt }
  carried_fits node known c (Waits d) fits call next =
      record { node = opens node known node.busy c.call.seq (Some d) fits (this_open d next); packets = tt; answers = tt }
  carried_fits node known c (Sends d) fits call next =
      record {
        node = opens node (max known d.stamp.time) node.busy c.call.seq (Some d) fits (this_open d next);
        packets = phase_fits layout is.few_bytes me d next;
        answers = tt;
      }
  carried_fits node known c (Makes d) fits call next =
      record {
        node = opens node known node.busy c.call.seq (Some d) fits (this_open d next);
        packets = phase_fits layout is.few_bytes me d next;
        answers = tt;
      }
  carried_fits node known c (Ends answer seen stored) fits call next =
      record {
        node = opens node known (node.busy - 1) c.call.seq None fits (λ d none. cc);
        packets = collect_fits layout is.few_bytes me c stored call;
        answers = (next, tt);
      }

  -- ---- a synchronisation goes on

  -- the synchronisation changes
  syncs : (node : Node) (job : Option Job) → NodeFits layout node → ((j : Job) → job ≡ Some j → ViewFits layout j.view) → NodeFits layout (with_job node job)
  syncs node job fits own =
      record { views = fits.views; accepted = fits.accepted; logs = fits.logs; calls = fits.calls; proposal = fits.proposal; job = own }

  this_job : (j : Job) → ViewFits layout j.view → (i : Job) → Some j ≡ Some i → ViewFits layout i.view
  this_job j fits i same = subst (λ (x : Job). ViewFits layout x.view) (same_Some j i same) fits

  -- it has ended
  ends_sync : (node : Node) → NodeFits layout node → NodeFits layout (with_job node None)
  ends_sync node fits = syncs node None fits (λ j none. cc)

  -- a read of it begins
  read_fits : (now : ℕ) (node : Node) (job : Job) (group : Option Group) → group_of layout job.group.0 ≡ group → NodeFits layout node
      → ViewFits layout job.view → StepFits layout (read_begun_in (coding layout) me now node job (option_map (kept_by job.view.members) group))
  read_fits now node job None at fits its = still node fits
  read_fits now node job (Some group) at fits its =
      let c : Coordinator = coordinator_in (kept_by job.view.members group) job.view me now node (job_ask job) in
      let call : CallFits layout c = record {
        group = kept_fits job.group.0 group job.view.members at;
        view = its;
        has = refl;
        given = refl;
        content = omega arith;
        phase = tt;
        counted = tt;
      } in
      cond_both (is_spent node) _ (read_begun_by (coding layout) me node job c) (StepFits layout)
      (λ spent. record { node = ends_sync node fits; packets = tt; answers = tt })
      (λ free. record {
        node = record {
          views = fits.views;
          accepted = fits.accepted;
          logs = fits.logs;
          calls = with_open node c.call.seq (Some c) fits (this_open c call);
          proposal = fits.proposal;
          job = this_job (record job { seq = c.call.seq }) its;
        };
        packets = phase_fits layout is.few_bytes me c call;
        answers = tt;
      })

  goes_fits : (now : ℕ) (node : Node) (job : Job) (next : JobNext) → NodeFits layout node → ViewFits layout job.view
      → StepFits layout (job_goes (coding layout) me now node job next)
  goes_fits now node job (Reads attempt) fits its =
      read_fits now node (record job { attempt = attempt }) (group_of layout job.group.0) refl fits its
  goes_fits now node job Finishes fits its =
      record {
        node = ends_sync node fits;
        packets = all_synced layout is.few_bytes me job.group job.view.number layout.bricks 0 (omega arith);
        answers = tt;
      }
  goes_fits now node job (GivesUp cause) fits its = record { node = ends_sync node fits; packets = tt; answers = tt }

  -- what its read decided
  read_carried : (now : ℕ) (node : Node) (known : ℕ) (job : Job) (c : Coordinator) (next : Next) → NodeFits layout node → ViewFits layout job.view
      → CallFits layout c → NextFits layout next → StepFits layout (carried_read (coding layout) me now node known job c next)
  read_carried now node known job c (Ends answer seen stored) fits its call next =
      let closed : NodeStep = read_closed me node known c answer seen stored in
      let next_does : JobNext = job_after c.group.stripes job.attempt (abort_cause answer) in
      let goes : StepFits layout (job_goes (coding layout) me now closed.node job next_does)
      = goes_fits now closed.node job next_does (opens node known node.busy c.call.seq None fits (λ d none. cc)) its in
      record {
        node = goes.node;
        packets = all_append (PacketFits layout) closed.packets (job_goes (coding layout) me now closed.node job next_does).packets
            (collect_fits layout is.few_bytes me c stored call) goes.packets;
        answers = goes.answers;
      }
  read_carried now node known job c next fits its call next_fits = carried_fits node known c next fits call next_fits

  -- ---- a scrub goes on

  -- the scrub changes
  scrubs : (node : Node) (scrub : Option Scrub) → NodeFits layout node → NodeFits layout (with_scrub node scrub)
  scrubs node scrub fits =
      record { views = fits.views; accepted = fits.accepted; logs = fits.logs; calls = fits.calls; proposal = fits.proposal; job = fits.job }

  -- what its coordinator decided
  scrub_carried : (node : Node) (known : ℕ) (scrub : Scrub) (c after : Coordinator) (next : Next) → NodeFits layout node
      → CallFits layout c → NextFits layout next → StepFits layout (carried_scrub (coding layout) me node known scrub c after next)
  scrub_carried node known scrub c after (Ends answer seen stored) fits call next =
      record {
        node = scrubs (with_call node known node.busy c.call.seq None) None (opens node known node.busy c.call.seq None fits (λ d none. cc));
        packets = all_append (PacketFits layout) (collect_packets me c stored) [] (collect_fits layout is.few_bytes me c stored call) tt;
        answers = tt;
      }
  scrub_carried node known scrub c after (Sends d) fits call next =
      carried_fits (with_scrub node (Some (record scrub { lagging = lagging_after scrub after }))) known c (Sends d)
      (scrubs node (Some (record scrub { lagging = lagging_after scrub after })) fits) call next
  scrub_carried node known scrub c after next fits call next_fits = carried_fits node known c next fits call next_fits

  carried_on : (now : ℕ) (node : Node) (known : ℕ) (c after : Coordinator) (next : Next) (job : Option Job) (scrub : Option Scrub)
      → NodeFits layout node → ((j : Job) → job ≡ Some j → ViewFits layout j.view) → CallFits layout c → NextFits layout next
      → StepFits layout (carried_for (coding layout) me now node known c after next job scrub)
  carried_on now node known c after next None None fits its call next_fits = carried_fits node known c next fits call next_fits
  carried_on now node known c after next None (Some scrub) fits its call next_fits = scrub_carried node known scrub c after next fits call next_fits
  carried_on now node known c after next (Some job) scrub fits its call next_fits = read_carried now node known job c next fits (its job refl) call next_fits

  -- the synchronisation whose read a call is
  job_at : (job : Option Job) (seq : ℕ) → ((j : Job) → job ≡ Some j → ViewFits layout j.view) → (j : Job) → job_reading job seq ≡ Some j
      → ViewFits layout j.view
  job_at None seq fits j at = cc
  job_at (Some job) seq fits j at =
      cond_both (nat_eq job.seq seq) (Some job) None (λ (z : Option Job). z ≡ Some j → ViewFits layout j.view) (λ own same. fits j same)
      (λ other none. absurd (let never : None ≡ Some j = none in cc)) at

  -- ---- a reply to a proposal or an operation

  -- a reply to the proposal
  ballot_carried : (node : Node) (p : Proposal) (voting : Voting) → NodeFits layout node → ProposalFits layout p → VotingFits layout voting
      → StepFits layout (carried_ballot layout me node p voting)
  ballot_carried node p Ignored fits its votes = still node fits
  ballot_carried node p (Waited q) fits its votes =
      record { node = proposes node (Some q) fits (this_proposal q votes); packets = tt; answers = tt }
  ballot_carried node p (Asks q) fits its votes =
      record { node = proposes node (Some q) fits (this_proposal q votes); packets = ballot_fits layout is.few_bytes me q votes; answers = tt }
  ballot_carried node p (Ended call ended) fits its votes =
      record { node = proposes node None fits (λ q none. cc); packets = end_fits layout is.few_bytes me p ended its votes; answers = tt }

  ballot_replied : (from : BrickId) (node : Node) (call : Call) (reply : Reply) (proposal : Option Proposal) → NodeFits layout node
      → ((p : Proposal) → proposal ≡ Some p → ProposalFits layout p) → StepFits layout (replied_ballot layout me from node call reply proposal)
  ballot_replied from node call reply None fits its = still node fits
  ballot_replied from node call reply (Some p) fits its =
      ballot_carried node p (voted layout.bricks p from call reply) fits (its p refl) (voted_fits layout p from call reply (its p refl))

  -- a new round's stamp is of the operation's view
  fresh_own : (c : Coordinator) (now boot known : ℕ) → OfItsView c (fresh_stamp me c.stamp.view now boot known)
  fresh_own c now boot known =
      cond_both (has_later_time known) (Some (new_stamp me c.stamp.view now boot known)) None (OfItsView c) (λ later. refl) (λ last. tt)

  replied_fits_at : (now : ℕ) (from : BrickId) (node : Node) (call : Call) (reply : Reply) (its : Option Coordinator) → NodeFits layout node
      → ((c : Coordinator) → its ≡ Some c → CallFits layout c) → StepFits layout (replied_at (coding layout) me now from node call reply its)
  replied_fits_at now from node call reply None fits call_fits =
      let known : Node = with_known node (known_after node.known reply) in
      ballot_replied from known call reply node.proposal (knows node (known_after node.known reply) fits) fits.proposal
  replied_fits_at now from node call reply (Some c) fits call_fits =
      let known : ℕ = known_after node.known reply in
      let fresh : Option Stamp = fresh_stamp me c.stamp.view now node.boot known in
      carried_on now node known c (hearing c from reply (counts_at layout.block c from.0 call reply))
      (on_reply layout.block (block_code layout.block) fresh c from call reply) (job_reading node.job c.call.seq) (scrub_of node.scrub c.call.seq) fits
      (job_at node.job c.call.seq fits.job) (call_fits c refl)
      (replied_fits layout is.few_bytes fresh c from call reply (fresh_own c now node.boot known) (call_fits c refl))

  -- the lists that it tells of a view may keep the group, where it is not left out
  told_fits : (g : ℕ) (view : Option View) → (not (is_some view) || may_teach layout view (group_of layout g)) ≡ true → IfSome view (ViewFits layout)
  told_fits g None may = tt
  told_fits g (Some view) may = may_fit g view (group_of layout g) refl may

  answered_fits : (now : ℕ) (from : BrickId) (node : Node) (call : Call) (reply : Reply) → NodeFits layout node → lists_fit layout call reply ≡ true
      → StepFits layout (replied (coding layout) me now from node call reply)
  unfolding replied
  answered_fits now from node call reply fits may =
      then_fits call.group.0 (view_counted layout from node call reply)
      (replied_at (coding layout) me now from (with_round node reply) call reply (node.calls call.seq))
      (cond_both (counts_here layout from call reply node.proposal (node.calls call.seq)) (view_told reply) None
      (λ (v : Option View). IfSome v (ViewFits layout)) (λ counts. told_fits call.group.0 (view_told reply) may) (λ not. tt))
      (replied_fits_at now from (with_round node reply) call reply (node.calls call.seq) (rounds node reply fits) (fits.calls call.seq))

  heard_fits : (now : ℕ) (from : BrickId) (node : Node) (call : Call) (reply : Reply) → NodeFits layout node
      → StepFits layout (heard (coding layout) me now from node call reply)
  heard_fits now from node call reply fits =
      let left : Node = with_known (with_round node reply) (known_after node.known reply) in
      cond_both (lists_fit layout call reply) (replied (coding layout) me now from node call reply) (no_step left) (StepFits layout)
      (λ may. answered_fits now from node call reply fits may)
      (λ void. still left (knows (with_round node reply) (known_after node.known reply) (rounds node reply fits)))

  -- ---- a message from a brick, and a tick

  received_as : (now : ℕ) (node : Node) (from to : BrickId) (message : Message) → from.0 < layout.bricks → NodeFits layout node
      → StepFits layout (received (coding layout) me now node (record { from = from; to = to; message = message }))
  unfolding received
  received_as now node from to (messages.Request call request) below fits = requested_fits from node call request below fits
  received_as now node from to (messages.Reply call reply) below fits = heard_fits now from node call reply fits
  received_as now node from to (messages.Learn group view) below fits =
      still (node_learnt layout node group view) (named_fits node group view fits)
  received_as now node from to (messages.Synced group number) below fits =
      still (node_synced layout node group number) (synced_fits node group number fits)
  received_as now node from to message below fits = still node fits

  pub received_fits : (now : ℕ) (node : Node) (packet : Packet) → packet.from.0 < layout.bricks → NodeFits layout node
      → StepFits layout (received (coding layout) me now node packet)
  received_fits now node packet below fits = received_as now node packet.from packet.to packet.message below fits

  -- the operations but for the read of the synchronisation, and that one
  but_fits : (calls : ℕ → Option Coordinator) (job : Option Job) → ((k : ℕ) (c : Coordinator) → calls k ≡ Some c → CallFits layout c)
      → (k : ℕ) (c : Coordinator) → calls_but_read calls job k ≡ Some c → CallFits layout c
  but_fits calls None fits = fits
  but_fits calls (Some job) fits =
      put_each (λ j x. (c : Coordinator) → x ≡ Some c → CallFits layout c) calls job.seq None (λ c none. cc) (λ j other. fits j)

  read_of_job : (calls : ℕ → Option Coordinator) (job : Option Job) → ((k : ℕ) (c : Coordinator) → calls k ≡ Some c → CallFits layout c)
      → (c : Coordinator) → job_call calls job ≡ Some c → CallFits layout c
  read_of_job calls None fits c none = cc
  read_of_job calls (Some job) fits c at = fits job.seq c at

  -- the same of the scrub
  but_scrub_fits : (calls : ℕ → Option Coordinator) (scrub : Option Scrub) → ((k : ℕ) (c : Coordinator) → calls k ≡ Some c → CallFits layout c)
      → (k : ℕ) (c : Coordinator) → calls_but_scrub calls scrub k ≡ Some c → CallFits layout c
  but_scrub_fits calls None fits = fits
  but_scrub_fits calls (Some scrub) fits =
      put_each (λ j x. (c : Coordinator) → x ≡ Some c → CallFits layout c) calls scrub.seq None (λ c none. cc) (λ j other. fits j)

  call_of_scrub : (calls : ℕ → Option Coordinator) (scrub : Option Scrub) → ((k : ℕ) (c : Coordinator) → calls k ≡ Some c → CallFits layout c)
      → (c : Coordinator) → scrub_call calls scrub ≡ Some c → CallFits layout c
  call_of_scrub calls None fits c none = cc
  call_of_scrub calls (Some scrub) fits c at = fits scrub.seq c at

  pub ticked_fits : (node : Node) → NodeFits layout node → PacketsFit layout (ticked (coding layout) me node)
  unfolding ticked
  ticked_fits node fits =
      let others : ℕ → Option Coordinator = calls_but_scrub (calls_but_read node.calls node.job) node.scrub in
      let own : Option Coordinator = job_call node.calls node.job in
      let last : Option Coordinator = scrub_call node.calls node.scrub in
      all_append (PacketFits layout) (resent_up_to (coding layout) me others node.seq)
      (ballot_resent me node.proposal ++ (resent (coding layout) me own ++ resent (coding layout) me last))
      (all_again layout is.few_bytes me others (but_scrub_fits (calls_but_read node.calls node.job) node.scrub (but_fits node.calls node.job fits.calls)) node.seq)
      (all_append (PacketFits layout) (ballot_resent me node.proposal) (resent (coding layout) me own ++ resent (coding layout) me last)
      (ballot_again layout is.few_bytes me node.proposal fits.proposal)
      (all_append (PacketFits layout) (resent (coding layout) me own) (resent (coding layout) me last)
      (again layout is.few_bytes me own (read_of_job node.calls node.job fits.calls))
      (again layout is.few_bytes me last (call_of_scrub node.calls node.scrub fits.calls))))
