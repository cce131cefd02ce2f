-- What a store makes of a request is the step of each brick of the machine that keeps what the store keeps.
use Rattle.std.proofs.Common.{◌≡◌, ℕ, ◌+◌, ◌-◌, List, Bool, true, false, cond, eqb, Option, Some, None, refl, sym, ap, subst, ◌∙◌, eq-eqb}
use Rattle.std.specs.Prelude.{slice_index_or}
use Rattle.std.specs.List.{filter}
use Rattle.std.specs.Option.{ForSome, option_map}
use Rattle.std.proofs.lemmas.Bool.{and_parts, and_from, eqb-true}
use Rattle.fab_base.specs.declared.identities.BrickId.{BrickId}
use Rattle.fab_base.specs.declared.identities.GroupId.{GroupId}
use Rattle.fab_base.specs.declared.identities.ViewNo.{ViewNo}
use Rattle.fab_base.specs.declared.member_lists.View.{View}
use Rattle.fab_base.specs.declared.stamps.Ballot.{Ballot}
use Rattle.fab_base.specs.declared.stamps.Stamp.{Stamp}
use Rattle.fab_base.specs.Layouts.{Layout, Group, group_of}
use Rattle.messages.specs.declared.calls.Call.{Call}
use Rattle.messages.specs.declared.packets.Message.{Message}
use Rattle.messages.specs.declared.requests.Request.{Request}
use Rattle.messages.specs.declared.replies.Reply.{Reply}
use Rattle.messages.specs.declared.replies.Reply.TheVariants.{Old}
use Rattle.version_log.specs.Versions.{Version}
use Rattle.brick_state.specs.declared.groups.Group.{Group as KeptGroup}
use Rattle.brick_state.specs.States.{Place, StripeOf, StateOf, no_group, live, live_in}
use Rattle.brick_state.specs.States as states
use Rattle.brick_store.specs.Calls.{Append}
use Rattle.brick_store.specs.Blocks.{learnt_view, accepted_of, log_of}
use Rattle.quorum.specs.Memberships.{is_membership}
use Rattle.synod_laws.specs.Synods.{Kept, last_of}
use Rattle.protocol.specs.Replicas.{Replica, Reaction, handle, newest_of, under}
use Rattle.protocol.specs.Views.{Learnt, first_learnt, may_be_taught}
use Rattle.protocol.specs.Ballots.{Voted, voting, granting, unless_barred, ballot_refusal}
use Rattle.protocol.specs.Nodes.{Node, NodeStep, put, group_at, with_part, with_live, requested_in, reacted, with_replica, full_at, replica_at, no_step, reply_packets, voted_on}
use Rattle.stripe_code.specs.Codes.{block_code, coding}
use Rattle.replica.specs.Members.{Member}
use Rattle.replica.specs.declared.courses.Course.{Course}
use Rattle.replica.specs.declared.courses.Course.TheVariants.{Void, Tell, TellOld, Serve}
use Rattle.replica.specs.declared.courses.Course.TheVariants as courses
use Rattle.replica.specs.Parts.{part_of, learnt_or, part_in, live_at, is_in_view, ballots_in, may_be_accepted, lists_stand, IsPartsOf, ListsStand}
use Rattle.replica.specs.Courses.{course_of, course_step, VotesBy}
use Rattle.replica.specs.Reactions.{part_at, member_step, answer_packets, IsReacted, IsVoted, IsStep}
use Rattle.replica.specs.Calls.{shares_block, part_append, ballot_append, either_append, message_append}
use Rattle.replica.proofs.CourseSteps.{course_steps}
use Rattle.replica.proofs.Runs.{append_kept, replica_after}
use Rattle.replica.proofs.Voting.{accepted_last, ballot_append_none}

differ : {A : Type 0} → false ≡ true → A
differ h = absurd cc

-- ---- a brick that keeps what the store keeps

-- parts that are the same everywhere are so after a change of one of them
put_same : (f k : ℕ → ℕ → ℕ → Replica) → ((h v t : ℕ) → f h v t ≡ k h v t) → (call : Call) (r : Replica) (h v t : ℕ)
    → with_part f call r h v t ≡ with_part k call r h v t
put_same f k same call r h v t = by (eqb h g)
  where
    g : ℕ
    g = call.group.0

    e : ℕ
    e = call.view.0

    s : ℕ
    s = call.stripe.0

    inmost : (d : Bool) → cond d r (f g e t) ≡ cond d r (k g e t)
    inmost true = refl
    inmost false = same g e t

    inside : (d : Bool) → cond d (put (f g e) s r) (f g v) t ≡ cond d (put (k g e) s r) (k g v) t
    inside true = inmost (eqb t s)
    inside false = same g v t

    by : (b : Bool) → cond b (put (f g) e (put (f g e) s r)) (f h) v t ≡ cond b (put (k g) e (put (k g e) s r)) (k h) v t
    by true = inside (eqb v e)
    by false = same h v t

-- so are the live records of views
live_same : (f k : ℕ → ℕ → ℕ) → ((h v : ℕ) → f h v ≡ k h v) → (call : Call) (reaction : Reaction) (h v : ℕ)
    → with_live f call reaction h v ≡ with_live k call reaction h v
live_same f k same call reaction h v = by (eqb h g)
  where
    g : ℕ
    g = call.group.0

    e : ℕ
    e = call.view.0

    inside : (d : Bool) → cond d (f g e + reaction.adds - reaction.drops) (f g v) ≡ cond d (k g e + reaction.adds - reaction.drops) (k g v)
    inside true = ap (λ (n : ℕ). n + reaction.adds - reaction.drops) (same g e)
    inside false = same g v

    by : (b : Bool) → cond b (put (f g) e (f g e + reaction.adds - reaction.drops)) (f h) v
        ≡ cond b (put (k g) e (k g e + reaction.adds - reaction.drops)) (k h) v
    by true = inside (eqb v e)
    by false = same h v

module _ (layout : Layout) (before after : StateOf Version) (node : Node) (parts : IsPartsOf layout before node) where
  parts_after : (call : Call) (reaction : Reaction) (reply : Option Reply) → IsReacted layout.block call before reaction reply after
      → IsPartsOf layout after (with_replica node call reaction)
  parts_after call reaction reply reacted_so = record {
    boot = parts.boot ∙ sym reacted_so.boot;
    live = ap (λ (n : ℕ). n + reaction.adds - reaction.drops) parts.live ∙ sym reacted_so.live;
    live_in = λ h v. live_same node.live_in (live_at before) parts.live_in call reaction h v ∙ sym (reacted_so.live_in h v);
    learnt = λ g. parts.learnt g ∙ ap (λ (groups : List KeptGroup). learnt_among groups g) (sym reacted_so.groups);
    ballots = λ g. parts.ballots g ∙ ap (λ (groups : List KeptGroup). ballots_among groups g) (sym reacted_so.groups);
    replicas = λ h v t. put_same node.replicas (part_in layout.block before) parts.replicas call reaction.replica h v t
        ∙ sym (reacted_so.parts h v t);
  }
    where
      learnt_among : List KeptGroup → ℕ → Learnt
      learnt_among groups g = learnt_or (first_learnt layout g) (slice_index_or groups g no_group).known

      ballots_among : List KeptGroup → ℕ → Kept (List BrickId)
      ballots_among groups g = (slice_index_or groups g no_group).ballots

  -- after a vote
  parts_voted : (me from : BrickId) (call : Call) (vote : Voted) (reply : Option Reply) → IsVoted call before vote reply after
      → IsPartsOf layout after (voted_on me from node call vote).node
  parts_voted me from call vote reply voted = record {
    boot = parts.boot ∙ sym voted.boot;
    live = parts.live ∙ ap (λ (stripes : List (Place × StripeOf Version)). live_in stripes) (sym voted.stripes);
    live_in = λ h v. parts.live_in h v
        ∙ ap (λ (stripes : List (Place × StripeOf Version)). live_in (filter (is_in_view h v) stripes)) (sym voted.stripes);
    learnt = λ g. parts.learnt g ∙ ap (learnt_or (first_learnt layout g)) (sym (voted.known g));
    ballots = λ g. by g (eqb g call.group.0) ∙ sym (voted.ballots g);
    replicas = λ h v t. parts.replicas h v t
        ∙ ap (λ (stripes : List (Place × StripeOf Version)). part_from (states.stripe_in stripes (h, v, t))) (sym voted.stripes);
  }
    where
      part_from : StripeOf Version → Replica
      part_from s = part_of s.order (log_of layout.block s) s.from_start

      by : (g : ℕ) (b : Bool) → cond b vote.kept (node.ballots g) ≡ cond b vote.kept (ballots_in before g)
      by g true = refl
      by g false = parts.ballots g

  -- its reaction is that over what is kept
  same_reaction : (m records seat : ℕ) (call : Call) (request : Request)
      → handle (block_code layout.block) m (full_at records node.live) seat (replica_at node call) request
      ≡ handle (block_code layout.block) m (full_at records (live before)) seat (part_at layout.block before call) request
  same_reaction m records seat call request =
      ap (λ (n : ℕ). handle (block_code layout.block) m (cond (eqb n records) (Some n) None) seat (replica_at node call) request) parts.live
      ∙ ap (λ (r : Replica). handle (block_code layout.block) m (full_at records (live before)) seat r request)
      (parts.replicas call.group.0 call.view.0 call.stripe.0)

-- ---- lists

-- a reaction leaves all lists as they are
lists_kept : (layout : Layout) (before after : StateOf Version) → after.groups ≡ before.groups → ListsStand layout before → ListsStand layout after
lists_kept layout before after same stand g group here =
    subst (λ (groups : List KeptGroup). lists_stand group.m layout.bricks (slice_index_or groups g no_group) ≡ true) (sym same) (stand g group here)

-- a vote keeps no list that may not keep the group
module _ (layout : Layout) (before after : StateOf Version) (call : Call) (learnt : Learnt) (ballot : Ballot) (asks : Option (List BrickId))
    (asked : VotesBy layout before call learnt asks) where
  abbrev kept_here : Kept (List BrickId)
  kept_here = ballots_in before call.group.0

  abbrev vote_here : Voted
  vote_here = voting call.view.0 learnt kept_here ballot asks

  accepted_after : (group : Group) → group_of layout call.group.0 ≡ Some group → may_be_accepted group.m layout.bricks (last_of kept_here) ≡ true
      → may_be_accepted group.m layout.bricks (last_of vote_here.kept) ≡ true
  unfolding voting
  accepted_after group here may = by (ballot_refusal call.view.0 learnt kept_here ballot)
    where
      given : (asks : Option (List BrickId)) → ForSome asks (λ members. is_membership group.m layout.bricks members ≡ true)
          → may_be_accepted group.m layout.bricks (last_of (granting kept_here ballot asks).kept) ≡ true
      given None lists = may
      given (Some members) lists = lists members refl

      by : (refused : Option Reply) → may_be_accepted group.m layout.bricks (last_of (unless_barred refused kept_here (granting kept_here ballot asks)).kept) ≡ true
      by None = given asks (asked.lists group here)
      by (Some reply) = may

  lists_voted : (reply : Option Reply) → IsVoted call before vote_here reply after → ListsStand layout before → ListsStand layout after
  lists_voted reply voted stand g group here = and_from _ _ views list
    where
      was : lists_stand group.m layout.bricks (states.group_at before g) ≡ true
      was = stand g group here

      were : (may_be_taught group.m layout.bricks (learnt_view (states.group_at before g)) ≡ true)
          × (may_be_accepted group.m layout.bricks (accepted_of (states.group_at before g)) ≡ true)
      were = and_parts (may_be_taught group.m layout.bricks (learnt_view (states.group_at before g)))
          (may_be_accepted group.m layout.bricks (accepted_of (states.group_at before g))) was

      was_accepted : may_be_accepted group.m layout.bricks (last_of (ballots_in before g)) ≡ true
      was_accepted =
          subst (λ (a : Option (Ballot × List BrickId)). may_be_accepted group.m layout.bricks a ≡ true) (accepted_last (ballots_in before g)) were.1

      views : may_be_taught group.m layout.bricks (learnt_view (states.group_at after g)) ≡ true
      views = subst (λ (known : Option (View × Bool)). may_be_taught group.m layout.bricks (option_map (λ k. k.0) known) ≡ true) (sym (voted.known g)) were.0

      now : (b : Bool) → eqb g call.group.0 ≡ b → may_be_accepted group.m layout.bricks (last_of (cond b vote_here.kept (ballots_in before g))) ≡ true
      now true is =
          let same = eqb-true g call.group.0 is in
          accepted_after group (ap (group_of layout) (sym same) ∙ here)
          (subst (λ (h : ℕ). may_be_accepted group.m layout.bricks (last_of (ballots_in before h)) ≡ true) same was_accepted)
      now false is = was_accepted

      list : may_be_accepted group.m layout.bricks (accepted_of (states.group_at after g)) ≡ true
      list =
          subst (λ (a : Option (Ballot × List BrickId)). may_be_accepted group.m layout.bricks a ≡ true)
          (ap last_of (sym (voted.ballots g)) ∙ sym (accepted_last (ballots_in after g))) (now (eqb g call.group.0) refl)

-- ---- what a step sends and appends

-- the packets of a reply are those of an answer
reply_is : (me from : BrickId) (call : Call) (reply : Option Reply) → reply_packets me from call reply ≡ answer_packets me from
    (option_map (λ r. Message.Reply call r) reply)
reply_is me from call None = refl
reply_is me from call (Some reply) = refl

-- nothing beside what is appended
alone : (append : Option Append) → either_append append None ≡ append
alone None = refl
alone (Some append) = refl

module _ (layout : Layout) (me from : BrickId) (call : Call) (request : Request) (before : StateOf Version) where
  -- the store takes this course
  abbrev pub Takes : Course → Type 0
  Takes course = course_of layout me before call request ≡ course

  -- the reaction of the member at a seat
  abbrev pub reaction_at : ℕ → ℕ → Reaction
  reaction_at m seat = handle (block_code layout.block) m (full_at layout.records (live before)) seat (part_at layout.block before call) request

  -- so does each brick that keeps what the store keeps
  step_taken : (course : Course) → Takes course → (node : Node) → IsPartsOf layout before node
      → requested_in (coding layout) me from node call request (group_at layout node call.group.0) ≡ course_step layout me from node call request course
  step_taken course takes node parts =
      course_steps layout me from before node call request parts ∙ ap (course_step layout me from node call request) takes

  served_step : (member : Member) → Takes (Serve member) → (node : Node) → IsPartsOf layout before node
      → requested_in (coding layout) me from node call request (group_at layout node call.group.0)
      ≡ reacted me from node call (reaction_at member.m member.seat)
  served_step member takes node parts =
      step_taken (Serve member) takes node parts
      ∙ ap (reacted me from node call) (same_reaction layout before before node parts member.m layout.records member.seat call request)

  -- the member's reaction
  pub step_served : (member : Member) → Takes (Serve member) → (reply : Option Reply) (after : StateOf Version)
      → IsReacted layout.block call before (reaction_at member.m member.seat) reply after
      → IsStep layout me from (Message.Request call request) before (option_map (λ r. Message.Reply call r) reply) after
  step_served member takes reply after reacted_so = record {
    packets = λ node parts. ap (λ (step : NodeStep). step.packets) (served_step member takes node parts)
        ∙ ap (reply_packets me from call) reacted_so.told ∙ reply_is me from call reply;
    parts = λ node parts. subst (λ (step : NodeStep). IsPartsOf layout after step.node) (sym (served_step member takes node parts))
        (parts_after layout before after node parts call (reaction_at member.m member.seat) reply reacted_so);
    lists = lists_kept layout before after reacted_so.groups;
  }

  -- its vote
  pub step_voted : (learnt : Learnt) (ballot : Ballot) (asks : Option (List BrickId)) → Takes (courses.Vote learnt ballot asks)
      → VotesBy layout before call learnt asks → (reply : Option Reply) (after : StateOf Version)
      → IsVoted call before (voting call.view.0 learnt (ballots_in before call.group.0) ballot asks) reply after
      → IsStep layout me from (Message.Request call request) before (option_map (λ r. Message.Reply call r) reply) after
  step_voted learnt ballot asks takes asked reply after voted = record {
    packets = λ node parts. ap (λ (step : NodeStep). step.packets) (voted_step node parts)
        ∙ ap (reply_packets me from call) voted.told ∙ reply_is me from call reply;
    parts = λ node parts. subst (λ (step : NodeStep). IsPartsOf layout after step.node) (sym (voted_step node parts))
        (parts_voted layout before after node parts me from call vote reply voted);
    lists = lists_voted layout before after call learnt ballot asks asked reply voted;
  }
    where
      vote : Voted
      vote = voting call.view.0 learnt (ballots_in before call.group.0) ballot asks

      voted_step : (node : Node) → IsPartsOf layout before node
          → requested_in (coding layout) me from node call request (group_at layout node call.group.0) ≡ voted_on me from node call vote
      voted_step node parts =
          step_taken (courses.Vote learnt ballot asks) takes node parts
          ∙ ap (λ (kept : Kept (List BrickId)). voted_on me from node call (voting call.view.0 learnt kept ballot asks)) (parts.ballots call.group.0)

  -- its word that it moved on
  pub step_told : (reply : Reply) → Takes (Tell reply)
      → IsStep layout me from (Message.Request call request) before (Some (Message.Reply call reply)) before
  step_told reply takes = record {
    packets = λ node parts. ap (λ (step : NodeStep). step.packets) (step_taken (Tell reply) takes node parts);
    parts = λ node parts. subst (λ (step : NodeStep). IsPartsOf layout before step.node) (sym (step_taken (Tell reply) takes node parts)) parts;
    lists = λ stand. stand;
  }

  -- its newest version in the call's view, below a bound
  abbrev pub old_told : Option Stamp → Reply
  old_told bound = Old (newest_of (under bound (part_at layout.block before call).log))

  pub step_old : (bound : Option Stamp) → Takes (TellOld bound)
      → IsStep layout me from (Message.Request call request) before (Some (Message.Reply call (old_told bound))) before
  step_old bound takes = record {
    packets = λ node parts. ap (λ (step : NodeStep). step.packets) (step_taken (TellOld bound) takes node parts)
        ∙ ap (λ (r : Replica). reply_packets me from call (Some (Old (newest_of (under bound r.log))))) (parts.replicas call.group.0 call.view.0 call.stripe.0);
    parts = λ node parts. subst (λ (step : NodeStep). IsPartsOf layout before step.node) (sym (step_taken (TellOld bound) takes node parts)) parts;
    lists = λ stand. stand;
  }

  -- no reaction
  pub step_void : Takes Void → IsStep layout me from (Message.Request call request) before None before
  step_void takes = record {
    packets = λ node parts. ap (λ (step : NodeStep). step.packets) (step_taken Void takes node parts);
    parts = λ node parts. subst (λ (step : NodeStep). IsPartsOf layout before step.node) (sym (step_taken Void takes node parts)) parts;
    lists = λ stand. stand;
  }

  -- what that appends
  module _ (node : Node) (parts : IsPartsOf layout before node) where
    abbrev changed_by : NodeStep → Option Append
    changed_by step = either_append (part_append (shares_block request) (replica_at node call) (replica_at step.node call))
        (ballot_append (node.ballots call.group.0) (step.node.ballots call.group.0))

    -- nothing where the brick stays as it is
    nothing_changed : either_append (part_append (shares_block request) (replica_at node call) (replica_at node call))
        (ballot_append (node.ballots call.group.0) (node.ballots call.group.0)) ≡ None
    nothing_changed =
        ap (either_append (part_append (shares_block request) (replica_at node call) (replica_at node call)))
        (ballot_append_none (node.ballots call.group.0))
        ∙ alone (part_append (shares_block request) (replica_at node call) (replica_at node call)) ∙ append_kept (shares_block request) (replica_at node call)

    pub append_served : (member : Member) → Takes (Serve member) → message_append layout me from node (Message.Request call request)
        ≡ part_append (shares_block request) (part_at layout.block before call) (reaction_at member.m member.seat).replica
    append_served member takes =
        let reaction = reaction_at member.m member.seat in
        let after = replica_at (with_replica node call reaction) call in
        ap changed_by (served_step member takes node parts)
        ∙ ap (either_append (part_append (shares_block request) (replica_at node call) after)) (ballot_append_none (node.ballots call.group.0))
        ∙ alone (part_append (shares_block request) (replica_at node call) after)
        ∙ ap (part_append (shares_block request) (replica_at node call)) (replica_after node call reaction)
        ∙ ap (λ (r : Replica). part_append (shares_block request) r reaction.replica) (parts.replicas call.group.0 call.view.0 call.stripe.0)

    pub append_voted : (learnt : Learnt) (ballot : Ballot) (asks : Option (List BrickId)) → Takes (courses.Vote learnt ballot asks)
        → message_append layout me from node (Message.Request call request)
        ≡ ballot_append (ballots_in before call.group.0) (voting call.view.0 learnt (ballots_in before call.group.0) ballot asks).kept
    append_voted learnt ballot asks takes =
        let voted = λ (kept : Kept (List BrickId)). (voting call.view.0 learnt kept ballot asks).kept in
        ap changed_by (step_taken (courses.Vote learnt ballot asks) takes node parts)
        ∙ ap (λ (a : Option Append). either_append a (ballot_append (node.ballots call.group.0)
        (put node.ballots call.group.0 (voted (node.ballots call.group.0)) call.group.0)))
        (append_kept (shares_block request) (replica_at node call))
        ∙ ap (λ (b : Bool). ballot_append (node.ballots call.group.0) (cond b (voted (node.ballots call.group.0)) (node.ballots call.group.0)))
        (eq-eqb call.group.0 call.group.0 refl)
        ∙ ap (λ (kept : Kept (List BrickId)). ballot_append kept (voted kept)) (parts.ballots call.group.0)

    pub append_told : (reply : Reply) → Takes (Tell reply) → message_append layout me from node (Message.Request call request) ≡ None
    append_told reply takes = ap changed_by (step_taken (Tell reply) takes node parts) ∙ nothing_changed

    pub append_old : (bound : Option Stamp) → Takes (TellOld bound) → message_append layout me from node (Message.Request call request) ≡ None
    append_old bound takes = ap changed_by (step_taken (TellOld bound) takes node parts) ∙ nothing_changed

    pub append_void : Takes Void → message_append layout me from node (Message.Request call request) ≡ None
    append_void takes = ap changed_by (step_taken Void takes node parts) ∙ nothing_changed

-- a message that neither is a request nor tells of a view asks for nothing, and appends nothing
module _ (layout : Layout) (me from : BrickId) (before : StateOf Version) where
  abbrev nothing : Message → Type 0
  nothing message = ((node : Node) → message_append layout me from node message ≡ None) × IsStep layout me from message before None before

  ignored : (message : Message) → ((node : Node) → member_step layout me from node message ≡ no_step node) → IsStep layout me from message before None before
  ignored message same = record {
    packets = λ node parts. ap (λ (step : NodeStep). step.packets) (same node);
    parts = λ node parts. subst (λ (step : NodeStep). IsPartsOf layout before step.node) (sym (same node)) parts;
    lists = λ stand. stand;
  }

  pub other_ignored : (message : Message) → ((call : Call) (request : Request) → message ≡ Message.Request call request → ⊥)
      → ((group : GroupId) (view : View) → message ≡ Message.Learn group view → ⊥)
      → ((group : GroupId) (number : ViewNo) → message ≡ Message.Synced group number → ⊥) → nothing message
  other_ignored (Message.Request call request) other untaught untold = absurd (other call request refl)
  other_ignored (Message.Reply call reply) other untaught untold = (λ node. refl, ignored (Message.Reply call reply) (λ n. refl))
  other_ignored (Message.Learn group view) other untaught untold = absurd (untaught group view refl)
  other_ignored (Message.Synced group number) other untaught untold = absurd (untold group number refl)
  other_ignored (Message.Client ask) other untaught untold = (λ node. refl, ignored (Message.Client ask) (λ n. refl))
  other_ignored (Message.ClientReply id answer) other untaught untold = (λ node. refl, ignored (Message.ClientReply id answer) (λ n. refl))
