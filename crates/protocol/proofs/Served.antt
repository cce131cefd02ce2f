-- What a brick does with a request: it ignores it, tells that it serves the call's view no more, or what it keeps in that, votes on a ballot, or changes its part
-- of the call's stripe in the view that it has learnt.
use Rattle.std.proofs.Common.{◌≡◌, ◌+◌, ℕ, Bool, not, ◌&&◌, ◌||◌, nat_lt, List, Option, Some, None, refl, true, false, ◌⊎◌, inl, inr, sym, ap, ◌∙◌}
use Rattle.std.specs.Prelude.{nat_eq, is_some}
use Rattle.std.proofs.lemmas.Bool.{cond_both, eqb-true, or_parts, not-false}
use Rattle.fab_base.specs.declared.identities.BrickId.{BrickId}
use Rattle.fab_base.specs.declared.stamps.Ballot.{Ballot}
use Rattle.fab_base.specs.declared.stamps.Stamp.{Stamp}
use Rattle.messages.specs.declared.calls.Call.{Call}
use Rattle.messages.specs.declared.requests.Request.{Request}
use Rattle.messages.specs.declared.replies.Reply.{Reply}
use Rattle.messages.specs.declared.replies.Reply.TheVariants.{Moved}
use Rattle.fab_base.specs.Layouts.{Layout, Group, seat_in}
use Rattle.protocol.specs.Settings.{Setting}
use Rattle.protocol.specs.Replicas.{Replica, Reaction, handle}
use Rattle.protocol.specs.Ballots.{moved_to}
use Rattle.protocol.specs.Nodes.{Node, NodeStep, view_at, has_accepted, group_at, put, no_step, sending, with_replica, replica_at, full_at, reacted, reply_packets, requested_at, is_now, fits, seat_now, is_void, moved_at, served_unless, vote_at, voted_on, old_reply, requested_as, requested_in, requested}
use Rattle.protocol.proofs.Tables.{put_each}

-- a request to drop versions
abbrev pub IsCollect : Request → Type 0
IsCollect request = (stamp : Stamp) × (request ≡ Request.Collect stamp)

-- A brick handles a request at this seat: the seat is its own in the view that it has learnt, which is the call's; the stripe is one of the group; what the
-- request names fits; and the brick has accepted no list to follow the view, or it drops versions.
pub record IsServed (layout : Layout) (me : BrickId) (node : Node) (call : Call) (request : Request) (group : Group) (seat : ℕ) : Type 0 where
  pub seat_is : seat_in group.members me.0 ≡ Some seat
  pub view : call.view.0 ≡ view_at node call.group.0
  pub stripe : nat_lt call.stripe.0 group.stripes ≡ true
  pub fitting : fits layout group.m call request (Some seat) ≡ true
  pub free : (has_accepted node call.group.0 ≡ false) ⊎ IsCollect request

-- a brick tells what it keeps in the view of a call: it knows that view, and is asked for it
pub record TellsOld (node : Node) (call : Call) (request : Request) (reply : Reply) : Type 0 where
  pub bound : Option Stamp
  pub asked : request ≡ Request.OldRead bound
  pub view : nat_eq call.view.0 0 ≡ false
  pub known : nat_lt (view_at node call.group.0) call.view.0 ≡ false
  pub says : old_reply node call bound ≡ Some reply

-- what a brick tells that changes nothing: that it serves the view of a call no more, or what it keeps in it
abbrev pub IsTold : Node → Call → Request → Reply → Type 0
IsTold node call request reply = (moved_at node call ≡ Some reply) ⊎ TellsOld node call request reply

-- where a request is not void, its view has a number, and is one that the brick knows
known_view : (layout : Layout) (me : BrickId) (node : Node) (call : Call) (request : Request) (group : Group)
    → is_void layout me node call request group ≡ false
    → (nat_eq call.view.0 0 ≡ false) × (nat_lt (view_at node call.group.0) call.view.0 ≡ false)
known_view layout me node call request group isnt =
    let stripe = or_parts (not (nat_lt call.stripe.0 group.stripes)) _ isnt in
    let view = or_parts (nat_eq call.view.0 0) _ stripe.1 in
    let known = or_parts (nat_lt (view_at node call.group.0) call.view.0)
    ((is_now node call && not (is_some (seat_now me node call group))) || not (fits layout group.m call request (seat_now me node call group))) view.1 in
    (view.0, known.0)

-- where a request is not void, its stripe is one of the group, and what it names fits
not_void : (layout : Layout) (me : BrickId) (node : Node) (call : Call) (request : Request) (group : Group)
    → is_void layout me node call request group ≡ false
    → (nat_lt call.stripe.0 group.stripes ≡ true) × (fits layout group.m call request (seat_now me node call group) ≡ true)
not_void layout me node call request group isnt =
    let fit : Bool = fits layout group.m call request (seat_now me node call group) in
    let seatless : Bool = is_now node call && not (is_some (seat_now me node call group)) in
    let stripe = or_parts (not (nat_lt call.stripe.0 group.stripes)) _ isnt in
    let view = or_parts (nat_eq call.view.0 0) _ stripe.1 in
    let known = or_parts (nat_lt (view_at node call.group.0) call.view.0) (seatless || not fit) view.1 in
    let seat = or_parts seatless (not fit) known.1 in
    (not-false (nat_lt call.stripe.0 group.stripes) stripe.0, not-false fit seat.1)

-- a seat in the learnt view is one in the call's
now_at : (me : BrickId) (node : Node) (call : Call) (group : Group) (seat : ℕ) → seat_now me node call group ≡ Some seat
    → (call.view.0 ≡ view_at node call.group.0) × (seat_in group.members me.0 ≡ Some seat)
now_at me node call group seat =
    cond_both (is_now node call) (seat_in group.members me.0) None
    (λ (z : Option ℕ). z ≡ Some seat → (call.view.0 ≡ view_at node call.group.0) × (seat_in group.members me.0 ≡ Some seat))
    (λ now is. (eqb-true call.view.0 (view_at node call.group.0) now, is))
    (λ isnt none. absurd (let never : None ≡ Some seat = none in cc))

-- a brick that serves the call's view has accepted no list to follow it
serves_free : (node : Node) (call : Call) → moved_at node call ≡ None → has_accepted node call.group.0 ≡ false
serves_free node call =
    cond_both (nat_lt call.view.0 (view_at node call.group.0)) (Some (moved_to (node.learnt call.group.0).view)) _
    (λ (z : Option Reply). z ≡ None → has_accepted node call.group.0 ≡ false)
    (λ later some. absurd (let never : Some (moved_to (node.learnt call.group.0).view) ≡ None = some in cc))
    (λ isnt.
    cond_both (has_accepted node call.group.0) (Some (Moved (record { 0 = call.view.0 + 1 }) None)) None
    (λ (z : Option Reply). z ≡ None → has_accepted node call.group.0 ≡ false)
    (λ has some. absurd (let never : Some (Moved (record { 0 = call.view.0 + 1 }) None) ≡ None = some in cc))
    (λ free none. free))

module _ (P : NodeStep → Type 0) (setting : Setting) (me from : BrickId) (node : Node) (call : Call) where
  -- a request that is handled at this seat
  abbrev Handles : Request → Type 0
  Handles request =
      (group : Group) (seat : ℕ) → group_at setting.layout node call.group.0 ≡ Some group → IsServed setting.layout me node call request group seat
      → P (reacted me from node call (handle setting.code group.m (full_at setting.layout.records node.live) seat (replica_at node call) request))

  -- a request that is not void is handled at the brick's seat, or ignored where it has none
  each_seat : (request : Request) → P (no_step node) → Handles request → (group : Group) → group_at setting.layout node call.group.0 ≡ Some group
      → is_void setting.layout me node call request group ≡ false → (has_accepted node call.group.0 ≡ false) ⊎ IsCollect request
      → P (requested_at setting group.m me from node call request (seat_now me node call group))
  each_seat request ignored handled group at isnt free = at_seat (seat_now me node call group) refl
    where
      at_seat : (z : Option ℕ) → seat_now me node call group ≡ z → P (requested_at setting group.m me from node call request z)
      at_seat None is = ignored
      at_seat (Some seat) is =
          let facts = not_void setting.layout me node call request group isnt in
          let now = now_at me node call group seat is in
          handled group seat at (record {
            seat_is = now.1;
            view = now.0;
            stripe = facts.0;
            fitting = sym (ap (λ (z : Option ℕ). fits setting.layout group.m call request z) is) ∙ facts.1;
            free = free;
          })

  -- the same, unless the brick tells that it serves the view no more
  each_served : (request : Request) → P (no_step node)
      → ((reply : Reply) → IsTold node call request reply → P (sending node (reply_packets me from call (Some reply)))) → Handles request
      → (group : Group) → group_at setting.layout node call.group.0 ≡ Some group → is_void setting.layout me node call request group ≡ false
      → P (served_unless setting group.m me from node call request (seat_now me node call group) (moved_at node call))
  each_served request ignored told handled group at isnt = by_move (moved_at node call) refl
    where
      by_move : (z : Option Reply) → moved_at node call ≡ z
          → P (served_unless setting group.m me from node call request (seat_now me node call group) z)
      by_move None is = each_seat request ignored handled group at isnt (inl (serves_free node call is))
      by_move (Some reply) is = told reply (inl is)

  -- a brick that is asked for what it keeps in a view
  each_old : (bound : Option Stamp) → P (no_step node)
      → ((reply : Reply) → IsTold node call (Request.OldRead bound) reply → P (sending node (reply_packets me from call (Some reply)))) → (group : Group)
      → is_void setting.layout me node call (Request.OldRead bound) group ≡ false → P (sending node (reply_packets me from call (old_reply node call bound)))
  each_old bound ignored told group isnt = by_reply (old_reply node call bound) refl
    where
      by_reply : (z : Option Reply) → old_reply node call bound ≡ z → P (sending node (reply_packets me from call z))
      by_reply None is = ignored
      by_reply (Some reply) is =
          let known = known_view setting.layout me node call (Request.OldRead bound) group isnt in
          told reply (inr (record { bound = bound; asked = refl; view = known.0; known = known.1; says = is }))

  -- a request that is not void
  each_as : (request : Request) → P (no_step node)
      → ((reply : Reply) → IsTold node call request reply → P (sending node (reply_packets me from call (Some reply)))) → Handles request
      → ((group : Group) (ballot : Ballot) (asks : Option (List BrickId)) → group_at setting.layout node call.group.0 ≡ Some group
      → P (voted_on me from node call (vote_at node call ballot asks)))
      → (group : Group) → group_at setting.layout node call.group.0 ≡ Some group → is_void setting.layout me node call request group ≡ false
      → P (requested_as setting group me from node call request)
  each_as (Request.Read want) ignored told handled votes group at isnt = each_served (Request.Read want) ignored told handled group at isnt
  each_as (Request.Order t) ignored told handled votes group at isnt = each_served (Request.Order t) ignored told handled group at isnt
  each_as (Request.OrderRead t look want) ignored told handled votes group at isnt =
      each_served (Request.OrderRead t look want) ignored told handled group at isnt
  each_as (Request.Write t block) ignored told handled votes group at isnt = each_served (Request.Write t block) ignored told handled group at isnt
  each_as (Request.Modify t base j delta) ignored told handled votes group at isnt =
      each_served (Request.Modify t base j delta) ignored told handled group at isnt
  each_as (Request.Collect t) ignored told handled votes group at isnt =
      each_seat (Request.Collect t) ignored handled group at isnt (inr (t, refl))
  each_as (Request.OldRead bound) ignored told handled votes group at isnt = each_old bound ignored told group isnt
  each_as (Request.Prepare ballot) ignored told handled votes group at isnt = votes group ballot None at
  each_as (Request.Accept ballot members) ignored told handled votes group at isnt = votes group ballot (Some members) at

  -- a brick ignores a request, tells that it serves its view no more or what it keeps in it, handles it at its seat, or votes
  pub request_each : (request : Request) → P (no_step node)
      → ((reply : Reply) → IsTold node call request reply → P (sending node (reply_packets me from call (Some reply)))) → Handles request
      → ((group : Group) (ballot : Ballot) (asks : Option (List BrickId)) → group_at setting.layout node call.group.0 ≡ Some group
      → P (voted_on me from node call (vote_at node call ballot asks)))
      → P (requested setting me from node call request)
  unfolding requested
  request_each request ignored told handled votes = in_group (group_at setting.layout node call.group.0) refl
    where
      in_group : (z : Option Group) → group_at setting.layout node call.group.0 ≡ z → P (requested_in setting me from node call request z)
      in_group None is = ignored
      in_group (Some group) is =
          cond_both (is_void setting.layout me node call request group) (no_step node) (requested_as setting group me from node call request) P
          (λ void. ignored) (λ isnt. each_as request ignored told handled votes group is isnt)

-- what holds of the changed part, and of each part as it was
pub parts_each : (Q : ℕ → ℕ → ℕ → Replica → Type 0) (node : Node) (call : Call) (reaction : Reaction)
    → Q call.group.0 call.view.0 call.stripe.0 reaction.replica
    → ((g e s : ℕ) → Q g e s (node.replicas g e s)) → (g e s : ℕ) → Q g e s ((with_replica node call reaction).replicas g e s)
parts_each Q node call reaction new old g e s =
    put_each (λ h table. (v r : ℕ) → Q h v r (table v r)) node.replicas call.group.0
    (put (node.replicas call.group.0) call.view.0 (put (node.replicas call.group.0 call.view.0) call.stripe.0 reaction.replica))
    (put_each (λ v row. (r : ℕ) → Q call.group.0 v r (row r)) (node.replicas call.group.0) call.view.0
    (put (node.replicas call.group.0 call.view.0) call.stripe.0 reaction.replica)
    (put_each (Q call.group.0 call.view.0) (node.replicas call.group.0 call.view.0) call.stripe.0 reaction.replica new
    (λ r other. old call.group.0 call.view.0 r))
    (λ v other r. old call.group.0 v r))
    (λ h other v r. old h v r) g e s
