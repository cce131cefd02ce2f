-- What a brick owes when it handles a request, or a message that teaches a view.
use Rattle.view_laws.proofs.Syncing.{synced_each, synced_views}
use Rattle.fab_base.specs.declared.identities.ViewNo.{ViewNo}
use Rattle.std.proofs.Common.{◌≡◌, ℕ, ◌+◌, ◌-◌, ◌<◌, ◌≤◌, Bool, true, false, cond, ◌&&◌, ◌||◌, ◌⊎◌, inl, inr, ⊎_elim, List, [], Option, Some, None, refl, sym, ap, ◌∙◌, subst, arith, nat_lt, nat_eq}
use Rattle.std.specs.Prelude.{not, is_some, ◌^◌}
use Rattle.std.specs.Option.{option_map}
use Rattle.std.proofs.lemmas.Bool.{cond_both, and_parts, or_parts, eqb-true, eqb-false, eq-eqb, ne_eqb, not-false, false≢true}
use Rattle.std.proofs.lemmas.Bool.Decides.{nat_tests}
use Rattle.std.proofs.lemmas.Option.{same_Some}
use Rattle.fab_base.specs.declared.identities.BrickId.{BrickId}
use Rattle.fab_base.specs.declared.identities.GroupId.{GroupId}
use Rattle.fab_base.specs.declared.member_lists.View.{View}
use Rattle.fab_base.specs.declared.stamps.Ballot.{Ballot}
use Rattle.fab_base.specs.declared.stamps.Stamp.{Stamp}
use Rattle.fab_base.specs.Stamps.{ballot_below, stamp_below, stamp_same}
use Rattle.fab_base.specs.Layouts.{Layout, Group, group_of}
use Rattle.messages.specs.declared.calls.Call.{Call}
use Rattle.messages.specs.declared.packets.Message.{Message}
use Rattle.messages.specs.declared.packets.Packet.{Packet}
use Rattle.messages.specs.declared.requests.Request.{Request}
use Rattle.messages.specs.declared.requests.Version.{Version}
use Rattle.messages.specs.declared.replies.Reply.{Reply}
use Rattle.messages.specs.declared.replies.Reply.TheVariants as reply
use Rattle.quorum.specs.Memberships.{is_membership}
use Rattle.synod_laws.specs.Synods.{SaysPromise, Kept, is_promised_above, last_of}
use Rattle.synod_laws.proofs.Acceptors.{said_stays}
use Rattle.protocol.specs.Settings.{Setting, Code}
use Rattle.protocol.specs.Views.{Learnt, is_later, learns, first_kept}
use Rattle.protocol.specs.Replicas.{Replica, Reaction, is_held, top_of, stays, unless_full, promised, stored, modified_on, newest_of, handle, under}
use Rattle.protocol.specs.Ballots.{choice_of, moved_to, outbidding, ballot_refusal, granting, unless_barred, voting}
use Rattle.protocol.specs.Proposals.{told_choice}
use Rattle.protocol.specs.Nodes.{Node, NodeStep, view_at, has_accepted, group_at, put, no_step, full_at, replica_at, reply_packets, reacted, requested_at, is_now, has_successor, fits, seat_now, is_void, moved_at, served_unless, vote_at, voted_on, requested_as, requested_in, requested, with_learnt, node_taught, may_teach, node_learnt, node_synced, old_reply, sending}
use Rattle.protocol.proofs.Packets.{each_reply}
use Rattle.protocol.proofs.Puts.{put_other}
use Rattle.protocol.proofs.Tables.{put_same}
use Rattle.view_laws.proofs.FirstTold.{first_stays}
use Rattle.view_laws.proofs.Histories.{ViewWorld, IsSent, IsNamed, accept_in, ballot_asked, ballot_called, history, PacketSays, ReplySays, IsTaught, Extends, taught_stays, known_taught, kept_is}
use Rattle.view_laws.proofs.Agreeing.{Agreed, KeepsViews, StaysAt, vote_request, VotesAt, LearnsAt, Turn, turned, last_noted, promise_says, accepted_says, sending_more, sent_grows}
use Rattle.view_laws.proofs.Calling.{Called}
use Rattle.view_laws.proofs.CallSteps.{put_back}
use Rattle.view_laws.proofs.Owning.{learnt_own, synced_own}
use Rattle.view_laws.proofs.Drafting.{Drafting, StepSays, BodySays, body_own, step_extends, still_body}

-- ---- turns

-- a brick that keeps what it kept of views takes no turn
pub no_turn : (layout : Layout) (packets : List Packet) (node next : Node) → KeepsViews node next → Turn layout packets node next
no_turn layout packets node next keeps g =
    inl (ap (λ (l : ℕ → Learnt). (l g).view) keeps.0, ap (λ (l : ℕ → Kept (List BrickId)). l g) keeps.1)

-- a brick that is taught a known view stays, or learns it
pub taught_turn : (layout : Layout) (packets : List Packet) (node mid : Node) (block g : ℕ) (view : View) → KeepsViews node mid → IsNamed layout packets g view
    → Turn layout packets node (node_taught block g mid view)
unfolding node_taught learns
taught_turn layout packets node mid block g view keeps named =
    cond_both (is_later (mid.learnt g) view) (with_learnt block g mid (learns (mid.learnt g) view)) mid (λ (n : Node). Turn layout packets node n)
    (λ later h. at later h (nat_eq h g) refl) (λ isnt. no_turn layout packets node mid keeps)
  where
    taught : Node
    taught = with_learnt block g mid (learns (mid.learnt g) view)

    at : is_later (mid.learnt g) view ≡ true → (h : ℕ) (t : Bool) → nat_eq h g ≡ t
        → StaysAt node taught h ⊎ (VotesAt layout packets node taught h ⊎ LearnsAt layout packets node taught h)
    at later h false isnt =
        inl (
          ap (λ (l : Learnt). l.view) (put_other mid.learnt g (learns (mid.learnt g) view) h (eqb-false h g isnt)) ∙ ap (λ (l : ℕ → Learnt). (l h).view) keeps.0,
          put_other mid.ballots g _ h (eqb-false h g isnt) ∙ ap (λ (l : ℕ → Kept (List BrickId)). l h) keeps.1,
        )
    at later h true is =
        let same : h ≡ g = eqb-true h g is in
        let before : view_at mid g ≡ view_at node g = ap (λ (l : ℕ → Learnt). (l g).view.number.0) keeps.0 in
        let above : view_at mid g < view.number.0 = grind (arith, nat_tests, later) in
        let learnt : (learns (mid.learnt g) view).view ≡ view
        = ap (λ (t : Bool). (cond t (record { view = view; synced = false }) (mid.learnt g)).view) later in
        subst (λ (k : ℕ). StaysAt node taught k ⊎ (VotesAt layout packets node taught k ⊎ LearnsAt layout packets node taught k)) (sym same)
        (inr (inr (record {
          view = view;
          named = named;
          later = omega (arith, before, above);
          learnt = ap (λ (l : Learnt). l.view) (put_same mid.learnt g (learns (mid.learnt g) view)) ∙ learnt;
          ballots = put_same mid.ballots g _
              ∙ ap (λ (t : Bool). cond t (mid.ballots g) None)
              (ne_eqb (learns (mid.learnt g) view).view.number.0 (view_at mid g)
              (λ equal. let number : (learns (mid.learnt g) view).view.number.0 ≡ view.number.0 = ap (λ (z : View). z.number.0) learnt in
              omega (arith, equal, number, above)));
        })))

-- a brick that hears of a known view stays, or learns it
pub learn_turn : (layout : Layout) (packets : List Packet) (node : Node) (group : GroupId) (view : View) → IsNamed layout packets group.0 view
    → Turn layout packets node (node_learnt layout node group view)
unfolding node_learnt
learn_turn layout packets node group view named =
    cond_both (may_teach layout (Some view) (group_of layout group.0)) (node_taught layout.block group.0 node view) node
    (λ (n : Node). Turn layout packets node n)
    (λ may. taught_turn layout packets node node layout.block group.0 view (refl, refl) named) (λ isnt. no_turn layout packets node node (refl, refl))

-- ---- plain replies

-- a reply that says nothing of ballots or members
abbrev pub IsPlain : Reply → Type 0
IsPlain (reply.Promise accepted) = ⊥
IsPlain reply.Accepted = ⊥
IsPlain (reply.Moved view lineage) = ⊥
IsPlain (reply.Outbid ballot) = ⊥
IsPlain said = Unit {0}

-- it owes nothing
pub plain_says : (layout : Layout) (v : ViewWorld) (from to : ℕ) (call : Call) (said : Reply) → IsPlain said → ReplySays layout v from to call said
plain_says layout v from to call (reply.Promise accepted) plain = absurd plain
plain_says layout v from to call reply.Accepted plain = absurd plain
plain_says layout v from to call (reply.Moved view lineage) plain = absurd plain
plain_says layout v from to call (reply.Found order newest) plain = tt
plain_says layout v from to call reply.Ordered plain = tt
plain_says layout v from to call (reply.OrderedRead found) plain = tt
plain_says layout v from to call reply.Stored plain = tt
plain_says layout v from to call (reply.Behind newest) plain = tt
plain_says layout v from to call (reply.Later stamp) plain = tt
plain_says layout v from to call (reply.Full live) plain = tt
plain_says layout v from to call (reply.Old found) plain = tt
plain_says layout v from to call reply.Retired plain = tt
plain_says layout v from to call (reply.Outbid ballot) plain = absurd plain
plain_says layout v from to call reply.NotSynced plain = tt

-- a reaction replies plainly, if it replies
abbrev RepliesPlainly : Reaction → Type 0
RepliesPlainly reaction = (said : Reply) → reaction.reply ≡ Some said → IsPlain said

-- with this reply
one_plain : (one said : Reply) → IsPlain one → Some one ≡ Some said → IsPlain said
one_plain one said plain is = subst (λ (z : Reply). IsPlain z) (same_Some one said is) plain

-- where the store has room
full_plain : (full : Option ℕ) (replica : Replica) (reaction : Reaction) → RepliesPlainly reaction → RepliesPlainly (unless_full full replica reaction)
full_plain None replica reaction plain = plain
full_plain (Some live) replica reaction plain =
    cond_both (nat_lt reaction.drops reaction.adds) (stays replica (reply.Full live)) reaction RepliesPlainly
    (λ full said is. one_plain (reply.Full live) said tt is) (λ room. plain)

-- a version that differs from its base is stored on that
modified_plain : (code : Code) (m : ℕ) (full : Option ℕ) (seat : ℕ) (replica : Replica) (t base : Stamp) (j : ℕ) (delta : List ℕ) (newest : Option Version)
    → RepliesPlainly (modified_on code m full seat replica t base j delta newest)
modified_plain code m full seat replica t base j delta None = λ said is. one_plain (reply.Behind None) said tt is
modified_plain code m full seat replica t base j delta (Some newest) =
    cond_both (stamp_same newest.stamp base) (unless_full full replica _) (stays replica (reply.Behind (Some newest.stamp))) RepliesPlainly
    (λ same. full_plain full replica _ (λ said is. one_plain reply.Stored said tt is))
    (λ other said is. one_plain (reply.Behind (Some newest.stamp)) said tt is)

-- what a member does with a request of a stripe it replies plainly
handle_plain : (code : Code) (m : ℕ) (full : Option ℕ) (seat : ℕ) (replica : Replica) (request : Request)
    → RepliesPlainly (handle code m full seat replica request)
unfolding handle
handle_plain code m full seat replica (Request.Read want) = λ said is. one_plain _ said tt is
handle_plain code m full seat replica (Request.Order t) =
    cond_both (stamp_below t (top_of replica)) (stays replica (reply.Later (top_of replica))) (unless_full full replica (promised replica t reply.Ordered))
    RepliesPlainly (λ later said is. one_plain (reply.Later (top_of replica)) said tt is)
    (λ isnt. full_plain full replica _ (λ said is. one_plain reply.Ordered said tt is))
handle_plain code m full seat replica (Request.OrderRead t look want) =
    cond_both (stamp_below t (top_of replica)) (stays replica (reply.Later (top_of replica))) (unless_full full replica (promised replica t _))
    RepliesPlainly (λ later said is. one_plain (reply.Later (top_of replica)) said tt is)
    (λ isnt. full_plain full replica _ (λ said is. one_plain _ said tt is))
handle_plain code m full seat replica (Request.Write t block) =
    cond_both (is_held t replica.log) (stays replica reply.Stored) _ RepliesPlainly (λ held said is. one_plain reply.Stored said tt is)
    (λ isnt.
    cond_both (stamp_below t (top_of replica)) (stays replica (reply.Later (top_of replica))) (unless_full full replica (stored replica t block)) RepliesPlainly
    (λ later said is. one_plain (reply.Later (top_of replica)) said tt is)
    (λ free. full_plain full replica _ (λ said is. one_plain reply.Stored said tt is)))
handle_plain code m full seat replica (Request.Modify t base j delta) =
    cond_both (is_held t replica.log) (stays replica reply.Stored) _ RepliesPlainly (λ held said is. one_plain reply.Stored said tt is)
    (λ isnt.
    cond_both (stamp_below t (top_of replica)) (stays replica (reply.Later (top_of replica)))
    (modified_on code m full seat replica t base j delta (newest_of replica.log)) RepliesPlainly
    (λ later said is. one_plain (reply.Later (top_of replica)) said tt is)
    (λ free. modified_plain code m full seat replica t base j delta (newest_of replica.log)))
handle_plain code m full seat replica (Request.Collect t) =
    cond_both (is_held t replica.log) _ _ RepliesPlainly (λ held said is. absurd (let never : None ≡ Some said = is in cc))
    (λ isnt said is. absurd (let never : None ≡ Some said = is in cc))
handle_plain code m full seat replica (Request.OldRead bound) = λ said is. absurd (let never : None ≡ Some said = is in cc)
handle_plain code m full seat replica (Request.Prepare ballot) = λ said is. absurd (let never : None ≡ Some said = is in cc)
handle_plain code m full seat replica (Request.Accept ballot members) = λ said is. absurd (let never : None ≡ Some said = is in cc)

-- ---- requests

-- what a brick does with a ballot that it refuses, and what it knows where it does not
refusal_none : (view : ℕ) (learnt : Learnt) (kept : Kept (List BrickId)) (ballot : Ballot) → ballot_refusal view learnt kept ballot ≡ None
    → (nat_lt view learnt.view.number.0 ≡ false) × (is_promised_above kept ballot ≡ false)
refusal_none view learnt kept ballot =
    cond_both (nat_lt view learnt.view.number.0) (Some (moved_to learnt.view)) _
    (λ (z : Option Reply). z ≡ None → (nat_lt view learnt.view.number.0 ≡ false) × (is_promised_above kept ballot ≡ false))
    (λ later some. absurd (let never : Some (moved_to learnt.view) ≡ None = some in cc))
    (λ isnt.
    cond_both learnt.synced (option_map (λ greater. reply.Outbid greater) (outbidding kept ballot)) (Some reply.NotSynced)
    (λ (z : Option Reply). z ≡ None → (nat_lt view learnt.view.number.0 ≡ false) × (is_promised_above kept ballot ≡ false))
    (λ synced none. (isnt, free kept none))
    (λ unsynced some. absurd (let never : Some reply.NotSynced ≡ None = some in cc)))
  where
    free : (z : Kept (List BrickId)) → option_map (λ greater. reply.Outbid greater) (outbidding z ballot) ≡ None → is_promised_above z ballot ≡ false
    free None none = refl
    free (Some (promise, accepted)) none =
        cond_both (ballot_below ballot promise) (Some promise) None
        (λ (z : Option Ballot). option_map (λ greater. reply.Outbid greater) z ≡ None → ballot_below ballot promise ≡ false)
        (λ below some. absurd (let never : Some (reply.Outbid promise) ≡ None = some in cc)) (λ isnt none. isnt) none

-- a reply tells a greater ballot
record Outbids (ballot : Ballot) (said : Reply) : Type 0 where
  greater : Ballot
  is : said ≡ reply.Outbid greater
  below : ballot_below ballot greater ≡ true

-- how it refuses: by a later view that it has learnt, by a greater ballot, or plainly
refusal_is : (view : ℕ) (learnt : Learnt) (kept : Kept (List BrickId)) (ballot : Ballot) (said : Reply) → ballot_refusal view learnt kept ballot ≡ Some said
    → ((nat_lt view learnt.view.number.0 ≡ true) × (said ≡ moved_to learnt.view)) ⊎ (Outbids ballot said ⊎ IsPlain said)
refusal_is view learnt kept ballot said =
    cond_both (nat_lt view learnt.view.number.0) (Some (moved_to learnt.view)) _
    (λ (z : Option Reply). z ≡ Some said → ((nat_lt view learnt.view.number.0 ≡ true) × (said ≡ moved_to learnt.view)) ⊎ (Outbids ballot said ⊎ IsPlain said))
    (λ later some. inl (later, sym (same_Some (moved_to learnt.view) said some)))
    (λ isnt.
    cond_both learnt.synced (option_map (λ greater. reply.Outbid greater) (outbidding kept ballot)) (Some reply.NotSynced)
    (λ (z : Option Reply). z ≡ Some said → ((nat_lt view learnt.view.number.0 ≡ true) × (said ≡ moved_to learnt.view)) ⊎ (Outbids ballot said ⊎ IsPlain said))
    (λ synced some. inr (inl (outbid kept some)))
    (λ unsynced some. inr (inr (one_plain reply.NotSynced said tt some))))
  where
    outbid : (z : Kept (List BrickId)) → option_map (λ greater. reply.Outbid greater) (outbidding z ballot) ≡ Some said → Outbids ballot said
    outbid None some = absurd (let never : None ≡ Some said = some in cc)
    outbid (Some (promise, accepted)) some =
        cond_both (ballot_below ballot promise) (Some promise) None
        (λ (z : Option Ballot). option_map (λ greater. reply.Outbid greater) z ≡ Some said → Outbids ballot said)
        (λ below told. record { greater = promise; is = sym (same_Some (reply.Outbid promise) said told); below = below })
        (λ isnt none. absurd (let never : None ≡ Some said = none in cc)) some

-- a choice that is told is the one that was accepted
told_back : (last : Option (Ballot × List BrickId)) → told_choice (reply.Promise (option_map choice_of last)) ≡ last
told_back None = refl
told_back (Some accepted) = refl

-- a request that asks for a vote names its ballot
vote_names : (ballot : Ballot) (asks : Option (List BrickId)) → ballot_asked (vote_request ballot asks) ≡ Some ballot
vote_names ballot None = refl
vote_names ballot (Some members) = refl

-- what is so of a request that is not void
record IsOpen (layout : Layout) (me : BrickId) (node : Node) (call : Call) (request : Request) (group : Group) : Type 0 where
  positive : 1 ≤ call.view.0
  known : call.view.0 ≤ view_at node call.group.0
  fitting : fits layout group.m call request (seat_now me node call group) ≡ true

-- a request that is not void is so
open_is : (layout : Layout) (me : BrickId) (node : Node) (call : Call) (request : Request) (group : Group)
    → is_void layout me node call request group ≡ false → IsOpen layout me node call request group
open_is layout me node call request group isnt =
    let fit : Bool = fits layout group.m call request (seat_now me node call group) in
    let seatless : Bool = is_now node call && not (is_some (seat_now me node call group)) in
    let stripe = or_parts (not (nat_lt call.stripe.0 group.stripes)) _ isnt in
    let view = or_parts (nat_eq call.view.0 0) _ stripe.1 in
    let known = or_parts (nat_lt (view_at node call.group.0) call.view.0) (seatless || not fit) view.1 in
    let seat = or_parts seatless (not fit) known.1 in
    let view_is = view.0 in
    let known_is = known.0 in
    record { positive = grind (arith, nat_tests, view_is); known = grind (arith, nat_tests, known_is); fitting = not-false fit seat.1 }

module _ (setting : Setting) (v : ViewWorld) (called : Called v.packets v.nodes) (agreed : Agreed setting.layout v) (drafting : Drafting setting.layout v)
    (me from : BrickId) (call : Call) where
  abbrev node : Node
  node = v.nodes me.0

  -- what a brick owes that keeps its own and what it kept of views, and may reply
  replies_says : (next : Node) → KeepsViews node next → next.calls ≡ node.calls → next.proposal ≡ node.proposal → next.job ≡ node.job → (said : Option Reply)
      → ((one : Reply) → said ≡ Some one → (last : ViewWorld) → Extends setting.layout v last → ReplySays setting.layout last me.0 from.0 call one)
      → StepSays setting.layout v me.0 next (reply_packets me from call said)
  replies_says next keeps calls proposal job said says =
      let turn : Turn setting.layout v.packets node next = no_turn setting.layout v.packets node next keeps in
      let extends = step_extends setting.layout v me.0 next (reply_packets me from call said) agreed turn in
      record {
        turn = turn;
        body = still_body setting.layout v (turned v me.0 next) me.0 next (reply_packets me from call said) extends refl drafting calls proposal job
            (each_reply (λ (packet : Packet). (g e : ℕ) (b : Ballot) (members : List BrickId) → accept_in g e b packet.message ≡ Some members → ⊥) me from call said
            (λ one is g e b members asks. let never : None ≡ Some members = asks in cc))
            (each_reply (PacketSays setting.layout (sending_more (turned v me.0 next) (reply_packets me from call said))) me from call said
            (λ one is. says one is (sending_more (turned v me.0 next) (reply_packets me from call said)) extends));
      }

  -- one that does nothing
  quiet_says : StepSays setting.layout v me.0 node []
  quiet_says =
      replies_says node (refl, refl) refl refl refl None (λ one is last extends. absurd (let never : None ≡ Some one = is in cc))

  -- a view that it has learnt, and that is later than the call's, is taught
  learnt_taught : 1 ≤ call.view.0 → nat_lt call.view.0 (view_at node call.group.0) ≡ true → (last : ViewWorld) → Extends setting.layout v last
      → IsTaught setting.layout last call.group.0 (node.learnt call.group.0).view
  learnt_taught positive later last extends =
      taught_stays setting.layout v last call.group.0 (node.learnt call.group.0).view extends
      (known_taught setting.layout v call.group.0 (node.learnt call.group.0).view agreed.says (agreed.learnt me.0 call.group.0)
      (let above : call.view.0 < view_at node call.group.0 = grind (arith, nat_tests, later) in omega (arith, positive, above)))

  -- where it has accepted a list to follow its view, it has done so under some ballot
  accepted_noted : call.view.0 ≡ view_at node call.group.0 → has_accepted node call.group.0 ≡ true
      → (b : Ballot) × (members : List BrickId) × (v.votes me.0 call.group.0 call.view.0 b ≡ Some members)
  accepted_noted now has =
      by (last_of (node.ballots call.group.0)) refl
      (and_parts (nat_lt (view_at node call.group.0) (2 ^ 32 - 1)) (is_some (last_of (node.ballots call.group.0))) has).1
    where
      by : (z : Option (Ballot × List BrickId)) → last_of (node.ballots call.group.0) ≡ z → is_some z ≡ true
          → (b : Ballot) × (members : List BrickId) × (v.votes me.0 call.group.0 call.view.0 b ≡ Some members)
      by None is some = absurd (false≢true some)
      by (Some accepted) is some = (
        accepted.0,
        accepted.1,
        last_noted setting.layout v me.0 node agreed call.group.0 call.view.0 accepted.0 accepted.1
            (ap (λ (t : Bool). cond t (last_of (node.ballots call.group.0)) None) (eq-eqb call.view.0 (view_at node call.group.0) now) ∙ is),
      )

  -- it tells that it moved
  moved_says : 1 ≤ call.view.0 → call.view.0 ≤ view_at node call.group.0 → (said : Reply) → moved_at node call ≡ Some said → (last : ViewWorld) → Extends setting.layout v last
      → ReplySays setting.layout last me.0 from.0 call said
  moved_says positive known said is last extends =
      cond_both (nat_lt call.view.0 (view_at node call.group.0)) (Some (moved_to (node.learnt call.group.0).view)) _
      (λ (z : Option Reply). z ≡ Some said → ReplySays setting.layout last me.0 from.0 call said)
      (λ later some.
      subst (λ (z : Reply). ReplySays setting.layout last me.0 from.0 call z) (same_Some (moved_to (node.learnt call.group.0).view) said some)
      (learnt_taught positive later last extends))
      (λ isnt.
      cond_both (has_accepted node call.group.0) (Some (reply.Moved (record { 0 = call.view.0 + 1 }) None)) None
      (λ (z : Option Reply). z ≡ Some said → ReplySays setting.layout last me.0 from.0 call said)
      (λ has some.
      let now : call.view.0 ≡ view_at node call.group.0 = grind (arith, nat_tests, isnt, known) in
      let vote = accepted_noted now has in
      subst (λ (z : Reply). ReplySays setting.layout last me.0 from.0 call z)
      (same_Some (reply.Moved (record { 0 = call.view.0 + 1 }) None) said some)
      (refl, vote.0, vote.1, (extends.grows call.group.0 call.view.0).votes me.0 vote.0 vote.1 vote.2))
      (λ hasnt none. absurd (let never : None ≡ Some said = none in cc)))
      is

  -- a request is handled at a seat
  seat_says : (m : ℕ) (request : Request) (seat : Option ℕ)
      → (let step = requested_at setting m me from node call request seat in StepSays setting.layout v me.0 step.node step.packets)
  seat_says m request None = quiet_says
  seat_says m request (Some seat) =
      let reaction : Reaction = handle setting.code m (full_at setting.layout.records node.live) seat (replica_at node call) request in
      replies_says (reacted me from node call reaction).node (refl, refl) refl refl refl reaction.reply
      (λ one is last extends. plain_says setting.layout last me.0 from.0 call one
      (handle_plain setting.code m (full_at setting.layout.records node.live) seat (replica_at node call) request one is))

  -- a request is served, unless the brick moved
  served_says : 1 ≤ call.view.0 → call.view.0 ≤ view_at node call.group.0 → (m : ℕ) (request : Request) (seat : Option ℕ)
      → (let step = served_unless setting m me from node call request seat (moved_at node call) in StepSays setting.layout v me.0 step.node step.packets)
  served_says positive known m request seat = by (moved_at node call) refl
    where
      by : (z : Option Reply) → moved_at node call ≡ z
          → (let step = served_unless setting m me from node call request seat z in StepSays setting.layout v me.0 step.node step.packets)
      by None is = seat_says m request seat
      by (Some said) is =
          replies_says node (refl, refl) refl refl refl (Some said)
          (λ one same last extends. moved_says positive known one (is ∙ same) last extends)

  -- the ballot of a request that asks for a vote is its call's
  vote_called : (ballot : Ballot) (asks : Option (List BrickId))
      → IsSent v.packets (record { from = from; to = me; message = Message.Request call (vote_request ballot asks) })
      → ballot_called v.packets from.0 call.boot call.seq ≡ Some ballot
  vote_called ballot None sent = (called.requests sent.0 _ sent.1).called
  vote_called ballot (Some members) sent = (called.requests sent.0 _ sent.1).called

  -- the brick once it grants a ballot what is asked
  abbrev granted : Ballot → Option (List BrickId) → Node
  granted ballot asks = record node { ballots = put node.ballots call.group.0 (granting (node.ballots call.group.0) ballot asks).kept }

  -- it votes so in the call's group
  granted_votes : (base : Group) (ballot : Ballot) (asks : Option (List BrickId))
      → IsSent v.packets (record { from = from; to = me; message = Message.Request call (vote_request ballot asks) })
      → group_of setting.layout call.group.0 ≡ Some base → call.view.0 ≡ view_at node call.group.0 → has_successor call ≡ true
      → ((members : List BrickId) → asks ≡ Some members → is_membership base.m setting.layout.bricks members ≡ true)
      → is_promised_above (node.ballots call.group.0) ballot ≡ false
      → VotesAt setting.layout v.packets node (granted ballot asks) call.group.0
  granted_votes base ballot asks sent base_is now successor fit free = record {
    call = call;
    ballot = ballot;
    asks = asks;
    from = from;
    to = me;
    sent = sent;
    group = refl;
    now = now;
    fits = λ members is. record {
      successor = subst (λ (e : ℕ). nat_lt e (2 ^ 32 - 1) ≡ true) now successor;
      group = base;
      group_is = base_is;
      fits = fit members is;
    };
    free = free;
    learnt = refl;
    ballots = put_same node.ballots call.group.0 (granting (node.ballots call.group.0) ballot asks).kept;
  }

  -- and in no other
  granted_turn : (ballot : Ballot) (asks : Option (List BrickId)) → VotesAt setting.layout v.packets node (granted ballot asks) call.group.0
      → Turn setting.layout v.packets node (granted ballot asks)
  granted_turn ballot asks votes h = by (nat_eq h call.group.0) refl
    where
      by : (t : Bool) → nat_eq h call.group.0 ≡ t
          → StaysAt node (granted ballot asks) h
          ⊎ (VotesAt setting.layout v.packets node (granted ballot asks) h ⊎ LearnsAt setting.layout v.packets node (granted ballot asks) h)
      by false isnt =
          inl (refl, put_other node.ballots call.group.0 (granting (node.ballots call.group.0) ballot asks).kept h (eqb-false h call.group.0 isnt))
      by true is =
          subst (λ (k : ℕ). StaysAt node (granted ballot asks) k
          ⊎ (VotesAt setting.layout v.packets node (granted ballot asks) k ⊎ LearnsAt setting.layout v.packets node (granted ballot asks) k))
          (sym (eqb-true h call.group.0 is)) (inr (inl votes))

  -- what it replies is so
  granted_says : (ballot : Ballot) (asks : Option (List BrickId)) (new : List Packet)
      → IsSent v.packets (record { from = from; to = me; message = Message.Request call (vote_request ballot asks) })
      → call.view.0 ≡ view_at node call.group.0 → is_promised_above (node.ballots call.group.0) ballot ≡ false
      → ReplySays setting.layout (sending_more (turned v me.0 (granted ballot asks)) new) me.0 from.0 call
      (granting (node.ballots call.group.0) ballot asks).reply
  granted_says ballot None new sent now free = (
    ballot,
    first_stays _ v.packets new ballot (vote_called ballot None sent),
    said_stays (history (turned v me.0 (granted ballot None)) call.group.0 call.view.0)
        (history (sending_more (turned v me.0 (granted ballot None)) new) call.group.0 call.view.0) me.0 ballot
        (told_choice (reply.Promise (option_map choice_of (last_of (node.ballots call.group.0)))))
        (sent_grows (turned v me.0 (granted ballot None)) new call.group.0 call.view.0)
        (subst (λ (e : ℕ). SaysPromise (history (turned v me.0 (granted ballot None)) call.group.0 e) me.0 ballot
        (told_choice (reply.Promise (option_map choice_of (last_of (node.ballots call.group.0)))))) (sym now)
        (subst (λ (told : Option (Ballot × List BrickId)).
        SaysPromise (history (turned v me.0 (granted ballot None)) call.group.0 (view_at node call.group.0)) me.0 ballot told)
        (sym (told_back (last_of (node.ballots call.group.0))))
        (promise_says setting.layout v me.0 (granted ballot None) agreed call.group.0 ballot free refl
        (put_same node.ballots call.group.0 (granting (node.ballots call.group.0) ballot None).kept)))),
  )
  granted_says ballot (Some members) new sent now free = (
    ballot,
    members,
    first_stays _ v.packets new ballot (vote_called ballot (Some members) sent),
    ap (λ (e : ℕ). (turned v me.0 (granted ballot (Some members))).votes me.0 call.group.0 e ballot) now
        ∙ accepted_says setting.layout v me.0 (granted ballot (Some members)) agreed call.group.0 ballot members free
        (subst (λ (e : ℕ). (history v call.group.0 e).proposals ballot ≡ Some members) now (agreed.says sent.0 _ sent.1)) refl
        (put_same node.ballots call.group.0 (granting (node.ballots call.group.0) ballot (Some members)).kept),
  )

  -- so it owes no more where it grants
  grants_says : (base : Group) (ballot : Ballot) (asks : Option (List BrickId))
      → IsSent v.packets (record { from = from; to = me; message = Message.Request call (vote_request ballot asks) })
      → group_of setting.layout call.group.0 ≡ Some base → call.view.0 ≡ view_at node call.group.0 → has_successor call ≡ true
      → ((members : List BrickId) → asks ≡ Some members → is_membership base.m setting.layout.bricks members ≡ true)
      → is_promised_above (node.ballots call.group.0) ballot ≡ false
      → StepSays setting.layout v me.0 (granted ballot asks) (reply_packets me from call (Some (granting (node.ballots call.group.0) ballot asks).reply))
  grants_says base ballot asks sent base_is now successor fit free =
      let votes = granted_votes base ballot asks sent base_is now successor fit free in
      let turn : Turn setting.layout v.packets node (granted ballot asks) = granted_turn ballot asks votes in
      let new : List Packet = reply_packets me from call (Some (granting (node.ballots call.group.0) ballot asks).reply) in
      record {
        turn = turn;
        body = still_body setting.layout v (turned v me.0 (granted ballot asks)) me.0 (granted ballot asks) new
            (step_extends setting.layout v me.0 (granted ballot asks) new agreed turn) refl drafting refl refl refl
            (each_reply (λ (packet : Packet). (g e : ℕ) (b : Ballot) (members : List BrickId) → accept_in g e b packet.message ≡ Some members → ⊥) me from call
            (Some (granting (node.ballots call.group.0) ballot asks).reply)
            (λ one is g e b members asked. let never : None ≡ Some members = asked in cc))
            (each_reply (PacketSays setting.layout (sending_more (turned v me.0 (granted ballot asks)) new)) me from call
            (Some (granting (node.ballots call.group.0) ballot asks).reply)
            (λ one is. subst (λ (z : Reply). ReplySays setting.layout (sending_more (turned v me.0 (granted ballot asks)) new) me.0 from.0 call z)
            (same_Some (granting (node.ballots call.group.0) ballot asks).reply one is) (granted_says ballot asks new sent now free)));
      }

  -- where it refuses
  refuses_says : (ballot : Ballot) (asks : Option (List BrickId)) (refused : Reply)
      → IsSent v.packets (record { from = from; to = me; message = Message.Request call (vote_request ballot asks) }) → 1 ≤ call.view.0
      → ballot_refusal call.view.0 (node.learnt call.group.0) (node.ballots call.group.0) ballot ≡ Some refused
      → StepSays setting.layout v me.0 (record node { ballots = put node.ballots call.group.0 (node.ballots call.group.0) })
      (reply_packets me from call (Some refused))
  refuses_says ballot asks refused sent positive is =
      replies_says (record node { ballots = put node.ballots call.group.0 (node.ballots call.group.0) }) (refl, put_back node.ballots call.group.0) refl refl refl
      (Some refused)
      (λ one same last extends.
      subst (λ (z : Reply). ReplySays setting.layout last me.0 from.0 call z) (same_Some refused one same)
      (⊎_elim
      (λ (moved : (nat_lt call.view.0 (view_at node call.group.0) ≡ true) × (refused ≡ moved_to (node.learnt call.group.0).view)).
      subst (λ (z : Reply). ReplySays setting.layout last me.0 from.0 call z) (sym moved.1) (learnt_taught positive moved.0 last extends))
      (λ (other : Outbids ballot refused ⊎ IsPlain refused). ⊎_elim
      (λ (outbids : Outbids ballot refused).
      subst (λ (z : Reply). ReplySays setting.layout last me.0 from.0 call z) (sym outbids.is)
      (record {
        request = vote_request ballot asks;
        ballot = ballot;
        asked = vote_names ballot asks;
        sent = extends.sent (record { from = from; to = me; message = Message.Request call (vote_request ballot asks) }) sent;
        below = outbids.below;
      }))
      (λ (plain : IsPlain refused). plain_says setting.layout last me.0 from.0 call refused plain)
      other)
      (refusal_is call.view.0 (node.learnt call.group.0) (node.ballots call.group.0) ballot refused is)))

  -- a brick tells what it keeps in a view
  old_says : (bound : Option Stamp) → (let step = sending node (reply_packets me from call (old_reply node call bound)) in StepSays setting.layout v me.0 step.node step.packets)
  old_says bound =
      cond_both (nat_lt call.view.0 (first_kept (node.learnt call.group.0))) (Some reply.Retired) _ Says (λ dropped. plain reply.Retired tt)
      (λ kept.
      cond_both (is_some (moved_at node call)) (Some (reply.Old (newest_of (under bound (replica_at node call).log)))) None Says
      (λ moved. plain (reply.Old (newest_of (under bound (replica_at node call).log))) tt) (λ serves. quiet_says))
    where
      Says : Option Reply → Type 0
      Says said = StepSays setting.layout v me.0 node (reply_packets me from call said)

      plain : (said : Reply) → IsPlain said → Says (Some said)
      plain said is =
          replies_says node (refl, refl) refl refl refl (Some said) (λ one same last extends. plain_says setting.layout last me.0 from.0 call one (one_plain said one is same))

  -- a ballot is voted on
  vote_says : (base : Group) (ballot : Ballot) (asks : Option (List BrickId))
      → IsSent v.packets (record { from = from; to = me; message = Message.Request call (vote_request ballot asks) })
      → group_of setting.layout call.group.0 ≡ Some base → 1 ≤ call.view.0 → call.view.0 ≤ view_at node call.group.0 → has_successor call ≡ true
      → ((members : List BrickId) → asks ≡ Some members → is_membership base.m setting.layout.bricks members ≡ true)
      → (let step = voted_on me from node call (vote_at node call ballot asks) in StepSays setting.layout v me.0 step.node step.packets)
  unfolding voting
  vote_says base ballot asks sent base_is positive known successor fit =
      by (ballot_refusal call.view.0 (node.learnt call.group.0) (node.ballots call.group.0) ballot) refl
    where
      by : (z : Option Reply) → ballot_refusal call.view.0 (node.learnt call.group.0) (node.ballots call.group.0) ballot ≡ z
          → (let step = voted_on me from node call (unless_barred z (node.ballots call.group.0) (granting (node.ballots call.group.0) ballot asks)) in
          StepSays setting.layout v me.0 step.node step.packets)
      by (Some refused) is = refuses_says ballot asks refused sent positive is
      by None is =
          let facts = refusal_none call.view.0 (node.learnt call.group.0) (node.ballots call.group.0) ballot is in
          let ahead = facts.0 in
          grants_says base ballot asks sent base_is (grind (arith, nat_tests, ahead, known)) successor fit facts.1

  -- a request that is not void
  as_says : (group : Group) → group_at setting.layout node call.group.0 ≡ Some group → (request : Request)
      → IsSent v.packets (record { from = from; to = me; message = Message.Request call request }) → IsOpen setting.layout me node call request group
      → (let step = requested_as setting group me from node call request in StepSays setting.layout v me.0 step.node step.packets)
  as_says group at (Request.Read want) sent opens = served_says opens.positive opens.known group.m (Request.Read want) (seat_now me node call group)
  as_says group at (Request.Order t) sent opens = served_says opens.positive opens.known group.m (Request.Order t) (seat_now me node call group)
  as_says group at (Request.OrderRead t look want) sent opens =
      served_says opens.positive opens.known group.m (Request.OrderRead t look want) (seat_now me node call group)
  as_says group at (Request.Write t block) sent opens = served_says opens.positive opens.known group.m (Request.Write t block) (seat_now me node call group)
  as_says group at (Request.Modify t base j delta) sent opens =
      served_says opens.positive opens.known group.m (Request.Modify t base j delta) (seat_now me node call group)
  as_says group at (Request.Collect t) sent opens = seat_says group.m (Request.Collect t) (seat_now me node call group)
  as_says group at (Request.OldRead bound) sent opens = old_says bound
  as_says group at (Request.Prepare ballot) sent opens =
      let base = kept_is setting.layout (node.learnt call.group.0).view.members call.group.0 group at in
      vote_says base.0 ballot None sent base.1 opens.positive opens.known opens.fitting (λ members is. absurd (let never : None ≡ Some members = is in cc))
  as_says group at (Request.Accept ballot members) sent opens =
      let base = kept_is setting.layout (node.learnt call.group.0).view.members call.group.0 group at in
      let parts = and_parts (has_successor call) (is_membership group.m setting.layout.bricks members) opens.fitting in
      vote_says base.0 ballot (Some members) sent base.1 opens.positive opens.known parts.0
      (λ named is. subst (λ (l : List BrickId). is_membership base.0.m setting.layout.bricks l ≡ true) (same_Some members named is)
      (ap (λ (z : Group). is_membership z.m setting.layout.bricks members) (sym base.2) ∙ parts.1))

  -- what a brick owes when it handles a request
  pub requested_says : (request : Request) → IsSent v.packets (record { from = from; to = me; message = Message.Request call request })
      → (let step = requested setting me from node call request in StepSays setting.layout v me.0 step.node step.packets)
  unfolding requested
  requested_says request sent = in_group (group_at setting.layout node call.group.0) refl
    where
      in_group : (z : Option Group) → group_at setting.layout node call.group.0 ≡ z
          → (let step = requested_in setting me from node call request z in StepSays setting.layout v me.0 step.node step.packets)
      in_group None is = quiet_says
      in_group (Some group) is =
          cond_both (is_void setting.layout me node call request group) (no_step node) (requested_as setting group me from node call request)
          (λ (step : NodeStep). StepSays setting.layout v me.0 step.node step.packets) (λ void. quiet_says)
          (λ isnt. as_says group is request sent (open_is setting.layout me node call request group isnt))

-- ---- a view is taught, or known to be synced

-- a brick that hears that all stripes are kept in a view stays
pub synced_turn : (layout : Layout) (packets : List Packet) (node : Node) (group : GroupId) (number : ViewNo)
    → Turn layout packets node (node_synced layout node group number)
synced_turn layout packets node group number =
    synced_each (λ (n : Node). Turn layout packets node n) layout node group number (no_turn layout packets node node (refl, refl))
    (λ now unsynced g. inl (synced_views layout node group.0 g))

-- what it owes then
pub synced_says : (setting : Setting) (v : ViewWorld) → Agreed setting.layout v → Drafting setting.layout v → (me : BrickId) (group : GroupId) (number : ViewNo)
    → StepSays setting.layout v me.0 (node_synced setting.layout (v.nodes me.0) group number) []
synced_says setting v agreed drafting me group number =
    let node : Node = v.nodes me.0 in
    let next : Node = node_synced setting.layout node group number in
    let turn : Turn setting.layout v.packets node next = synced_turn setting.layout v.packets node group number in
    record {
      turn = turn;
      body = body_own setting.layout v (turned v me.0 next) me.0 node next [] (synced_own setting.layout node group number)
          (still_body setting.layout v (turned v me.0 next) me.0 node [] (step_extends setting.layout v me.0 next [] agreed turn) refl drafting refl refl refl
          (λ k packet at. absurd (let never : None ≡ Some packet = at in cc)) (λ k packet at. absurd (let never : None ≡ Some packet = at in cc)));
    }

-- what a brick owes when it handles a message that teaches a view
pub learn_says : (setting : Setting) (v : ViewWorld) → Agreed setting.layout v → Drafting setting.layout v → (from me : BrickId) (group : GroupId) (view : View)
    → IsSent v.packets (record { from = from; to = me; message = Message.Learn group view })
    → StepSays setting.layout v me.0 (node_learnt setting.layout (v.nodes me.0) group view) []
learn_says setting v agreed drafting from me group view sent =
    let node : Node = v.nodes me.0 in
    let next : Node = node_learnt setting.layout node group view in
    let turn : Turn setting.layout v.packets node next = learn_turn setting.layout v.packets node group view (agreed.says sent.0 _ sent.1).0 in
    record {
      turn = turn;
      body = body_own setting.layout v (turned v me.0 next) me.0 node next [] (learnt_own setting.layout node group view)
          (still_body_of node next (step_extends setting.layout v me.0 next [] agreed turn));
    }
  where
    still_body_of : (node next : Node) → Extends setting.layout v (sending_more (turned v me.0 next) []) → BodySays setting.layout v (turned v me.0 next) me.0 (v.nodes me.0) []
    still_body_of node next extends =
        still_body setting.layout v (turned v me.0 next) me.0 (v.nodes me.0) [] extends refl drafting refl refl refl
        (λ k packet at. absurd (let never : None ≡ Some packet = at in cc)) (λ k packet at. absurd (let never : None ≡ Some packet = at in cc))
