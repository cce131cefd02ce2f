-- What a quorum of replies decides: the list that a proposal asks for is safe, and the one that was accepted is chosen.
use Rattle.std.proofs.Common.{◌≡◌, ℕ, ◌≤◌, Bool, true, false, inl, inr, ⊎_elim, List, [], ◌∷◌, ◌++◌, length, Option, Some, None, refl, sym, ap, ◌∙◌, subst, arith, nat_lt}
use Rattle.std.specs.Prelude.{slice_get}
use Rattle.std.specs.Option.{option_map}
use Rattle.std.proofs.lemmas.Bool.Decides.{nat_tests}
use Rattle.std.proofs.lemmas.List.{length-map, map-append}
use Rattle.std.proofs.lemmas.List.Elements.{All-from_recursion, All-map}
use Rattle.std.proofs.lemmas.Option.{same_Some}
use Rattle.fab_base.specs.declared.identities.BrickId.{BrickId}
use Rattle.fab_base.specs.declared.identities.ViewNo.{ViewNo}
use Rattle.fab_base.specs.declared.member_lists.View.{View}
use Rattle.fab_base.specs.declared.stamps.Ballot.{Ballot}
use Rattle.fab_base.specs.Layouts.{Layout, Group, group_of, first_view, brick_at}
use Rattle.fab_base.proofs.Seats.{seat_within, brick_at_seat}
use Rattle.messages.specs.declared.calls.Call.{Call}
use Rattle.messages.specs.declared.packets.Message.{Message}
use Rattle.messages.specs.declared.packets.Packet.{Packet}
use Rattle.messages.specs.declared.replies.Reply.{Reply}
use Rattle.quorum.specs.Quorums.{q_of, quorum_of, IsWithinLimits}
use Rattle.quorum.specs.Memberships.{is_membership}
use Rattle.quorum.proofs.MembershipSizes.{have_quorums}
use Rattle.quorum.proofs.Counts.{AreDistinctBelow, count_some}
use Rattle.synod_laws.specs.Synods.{Synod, Agrees, IsMajority, IsChosen, IsSafe, HasPromised, SaysPromise, seats_of, value_or}
use Rattle.synod_laws.proofs.Agreement.{quorums_are_majorities}
use Rattle.synod_laws.proofs.Greatest.{safe_replies, chosen_by}
use Rattle.protocol.specs.declared.phases.Counted.{Counted}
use Rattle.protocol.specs.Views.{members_of, kept_by, group_kept}
use Rattle.protocol.specs.Proposals.{Proposal, answers_ballot, ballot_quorum, seat_voting, with_voice, told_choice, promises, greatest_choice, refused_by}
use Rattle.protocol.proofs.Tables.{get_grown, get_one}
use Rattle.view_laws.proofs.Histories.{ViewWorld, IsSent, IsNamed, named_in, group_named, ballot_called, history, seated, PacketSays, ReplySays, IsTaught, name_has_number, group_by_name, known_taught}
use Rattle.view_laws.proofs.Agreeing.{IsSafeIn, Agreed}
use Rattle.view_laws.proofs.Drafting.{CountedSays, DraftSays}
use Rattle.view_laws.proofs.Voices.{voice_counts, has_seat_in, distinct_more, unrefused, promise_of, acceptance_of, of_each}

-- each group of the layout is within the limits of a quorum
abbrev pub HasLimits : Layout → Type 0
HasLimits layout = (number : ℕ) (group : Group) → group_of layout number ≡ Some group → IsWithinLimits group.m (length group.members)

-- view 1 is the layout's
pub first_is : (layout : Layout) (packets : List Packet) (g e : ℕ) (view : View) → e ≡ 1 → named_in layout packets g e ≡ Some view
    → first_view (members_of (group_of layout g)) ≡ view
first_is layout packets g e view one is =
    same_Some (first_view (members_of (group_of layout g))) view (ap (λ (z : ℕ). named_in layout packets g z) (sym one) ∙ is)

-- the members of a known view are within the limits of a quorum
pub view_limits : (layout : Layout) (v : ViewWorld) (g : ℕ) (view : View) (base : Group) → HasLimits layout
    → ((k : ℕ) (packet : Packet) → slice_get v.packets k ≡ Some packet → PacketSays layout v packet) → IsNamed layout v.packets g view
    → group_of layout g ≡ Some base → IsWithinLimits base.m (length view.members)
view_limits layout v g view base limits says named is =
    by (nat_lt 1 view.number.0) refl
  where
    base_limits : IsWithinLimits base.m (length base.members)
    base_limits = limits g base is

    by : (t : Bool) → nat_lt 1 view.number.0 ≡ t → IsWithinLimits base.m (length view.members)
    by true later =
        let taught : IsTaught layout v g view = known_taught layout v g view says named (grind (arith, nat_tests, later)) in
        have_quorums base.m layout.bricks view.members base_limits.some_block base_limits.few_blocks (taught.1.fits base is)
    by false isnt =
        let some = (name_has_number layout v.packets g view.number.0 view named).1 in
        let one : view.number.0 ≡ 1 = grind (arith, nat_tests, isnt, some) in
        let members : base.members ≡ view.members
        = sym (ap members_of is) ∙ ap (λ (z : View). z.members) (first_is layout v.packets g view.number.0 view one named) in
        subst (λ (l : List BrickId). IsWithinLimits base.m (length l)) members base_limits

-- the invariant of the abstract history, by the seats of a known view's members
pub agrees_seated : (layout : Layout) (v : ViewWorld) (g e : ℕ) (group : Group) → Agreed layout v → group_named layout v.packets g e ≡ Some group
    → Agrees (length group.members) (quorum_of group) (seated group (history v g e))
agrees_seated layout v g e group agreed is = record {
  votes = λ k b members voted. agreed.proposed (brick_at group k) g e b members voted;
  safe = λ b members proposed. let was = agreed.safe g e b members proposed in
      subst (λ (z : Group). IsSafe (length z.members) (quorum_of z) (seated z (history v g e)) b members) (same_Some was.group group (sym was.group_is ∙ is)) was.safe;
}

-- a promise of a brick is one of its seat
promise_seated : (group : Group) (s : Synod (List BrickId)) (brick seat : ℕ) (b : Ballot) (told : Option (Ballot × List BrickId)) → brick_at group seat ≡ brick
    → SaysPromise s brick b told → SaysPromise (seated group s) seat b told
promise_seated group s brick seat b told at says = ⊎_elim
    (λ (promised : HasPromised s (brick_at group seat) b told). inl (record { past = promised.past; covers = promised.covers; below = promised.below }))
    (λ (proposed : (members : List BrickId) × (s.proposals b ≡ Some members)). inr proposed)
    (subst (λ (k : ℕ). SaysPromise s k b told) (sym at) says)

-- the group of a proposal, with the members of its view
abbrev pub group_at_draft : Proposal → Group → Group
group_at_draft q base = kept_by q.view.members base

-- ---- one more reply

-- a proposal with one more reply that counts
pub voice_says : (layout : Layout) (v : ViewWorld) (i : ℕ) (p : Proposal) (from : BrickId) (call : Call) (reply : Reply) (seat : ℕ) → DraftSays layout v i p
    → seat_voting layout.bricks p from.0 call reply ≡ Some seat
    → IsSent v.packets (record { from = from; to = record { 0 = i }; message = Message.Reply call reply })
    → DraftSays layout v i (with_voice p seat from reply)
voice_says layout v i p from call reply seat was counts sent =
    let facts = voice_counts layout.bricks p from.0 call reply seat counts in
    let one : Counted = record { seat = seat; brick = from; reply = reply } in
    let seats : seats_of (promises (p.counted ++ (one ∷ []))) ≡ seats_of (promises p.counted) ++ (seat ∷ [])
    = ap (λ (l : List (ℕ × Option (Ballot × List BrickId))). seats_of l)
    (map-append (λ (c : Counted). (c.seat, told_choice c.reply)) p.counted (one ∷ []))
    ∙ map-append (λ (told : ℕ × Option (Ballot × List BrickId)). told.0) (promises p.counted) (promises (one ∷ [])) in
    record {
      group = was.group;
      group_is = was.group_is;
      m_is = was.m_is;
      named = was.named;
      view_is = was.view_is;
      unasked = was.unasked;
      asked = was.asked;
      distinct = subst (λ (l : List ℕ). AreDistinctBelow (length p.view.members) l) (sym seats)
          (distinct_more (length p.view.members) (seats_of (promises p.counted)) seat was.distinct
          (seat_within (record { members = p.view.members; m = 0; stripes = 0 }) from.0 seat facts.seat_is)
          (has_seat_in (λ (c : Counted). told_choice c.reply) p.counted seat facts.first));
      counted = λ k c at. ⊎_elim
          (λ (old : slice_get p.counted k ≡ Some c).
          let says = was.counted k c old in record { sent = says.sent; seat = says.seat; answers = says.answers })
          (λ (added : (j : ℕ) × (slice_get (one ∷ []) j ≡ Some c)).
          subst (λ (z : Counted). CountedSays layout v.packets i (with_voice p seat from reply) z) (get_one one c added.0 added.1)
          (record {
            sent = subst (λ (z : Call). IsSent v.packets (record { from = from; to = record { 0 = i }; message = Message.Reply z reply })) facts.call_is sent;
            seat = facts.seat_is;
            answers = facts.answers;
          }))
          (get_grown p.counted (one ∷ []) k c at);
    }

-- ---- a quorum of replies

module _ (layout : Layout) (limits : HasLimits layout) (v : ViewWorld) (agreed : Agreed layout v) (i : ℕ) (q : Proposal) (says : DraftSays layout v i q)
    (called : (b : Ballot) → ballot_called v.packets i q.call.boot q.call.seq ≡ Some b → b ≡ q.ballot)
    (enough : nat_lt (length q.counted) (ballot_quorum q) ≡ false) (free : refused_by q.counted ≡ None) where
  abbrev g : ℕ
  g = q.call.group.0

  -- the view's number
  abbrev e : ℕ
  e = q.view.number.0

  -- the group, with the members of the view
  abbrev group : Group
  group = group_at_draft q says.group

  -- the group is that of a known view
  pub group_is : group_kept layout q.view.members g ≡ Some group
  group_is = ap (option_map (kept_by q.view.members)) says.group_is

  -- it is the one of the name
  pub group_named_is : group_named layout v.packets g e ≡ Some group
  group_named_is = group_by_name layout v.packets g e q.view says.named ∙ group_is

  -- its members are within the limits of a quorum
  pub within : IsWithinLimits says.group.m (length q.view.members)
  within = view_limits layout v g q.view says.group limits agreed.says says.named says.group_is

  -- so a quorum is more than half of them
  pub majority : IsMajority (length group.members) (quorum_of group)
  majority = quorums_are_majorities says.group.m (length q.view.members) within

  -- and the invariant holds of their history
  pub agrees : Agrees (length group.members) (quorum_of group) (seated group (history v g e))
  agrees = agrees_seated layout v g e group agreed group_named_is

  -- a quorum of replies count
  many : quorum_of group ≤ length q.counted
  many =
      let quorum : ballot_quorum q ≡ quorum_of group = ap (λ (m : ℕ). q_of m (length q.view.members)) says.m_is in
      let least : ballot_quorum q ≤ length q.counted = grind (arith, nat_tests, enough) in
      omega (arith, quorum, least)

  -- what a reply that counts says
  reply_says : (k : ℕ) (c : Counted) → slice_get q.counted k ≡ Some c → ReplySays layout v c.brick.0 i q.call c.reply
  reply_says k c at = let one = says.counted k c at in agreed.says one.sent.0 _ one.sent.1

  -- the brick at its seat sent it
  brick_is : (k : ℕ) (c : Counted) → slice_get q.counted k ≡ Some c → brick_at group c.seat ≡ c.brick.0
  brick_is k c at = brick_at_seat group c.brick.0 c.seat (says.counted k c at).seat

  -- while it prepares, each that counts is a promise to its ballot
  promised : q.asks ≡ None → (k : ℕ) (c : Counted) → slice_get q.counted k ≡ Some c
      → SaysPromise (seated group (history v g e)) c.seat q.ballot (told_choice c.reply)
  promised prepares k c at =
      let one = says.counted k c at in
      let promise = promise_of q.m layout.bricks c.seat c.brick c.reply
      (subst (λ (z : Option (List BrickId)). answers_ballot q.m layout.bricks z c.reply ≡ true) prepares one.answers) (unrefused q.counted free k c at) in
      let said : ReplySays layout v c.brick.0 i q.call (Reply.Promise promise.0)
      = subst (λ (z : Reply). ReplySays layout v c.brick.0 i q.call z) promise.1 (reply_says k c at) in
      let ballot : said.0 ≡ q.ballot = called said.0 said.1 in
      let here : SaysPromise (history v g e) c.brick.0 q.ballot (told_choice (Reply.Promise promise.0))
      = subst (λ (b : Ballot). SaysPromise (history v g e) c.brick.0 b (told_choice (Reply.Promise promise.0))) ballot
      (subst (λ (view : ℕ). SaysPromise (history v g view) c.brick.0 said.0 (told_choice (Reply.Promise promise.0))) (ap (λ (z : ViewNo). z.0) says.view_is) said.2) in
      promise_seated group (history v g e) c.brick.0 c.seat q.ballot (told_choice c.reply) (brick_is k c at)
      (subst (λ (z : Reply). SaysPromise (history v g e) c.brick.0 q.ballot (told_choice z)) (sym promise.1) here)

  -- so the list that it will ask for is safe
  pub asks_safely : q.asks ≡ None → IsSafeIn layout v g e q.ballot (value_or q.own (greatest_choice q.counted))
  asks_safely prepares = record {
    group = group;
    group_is = group_named_is;
    safe = safe_replies (length group.members) (quorum_of group) (seated group (history v g e)) q.ballot q.own (promises q.counted) majority
        (says.unasked prepares) agrees says.distinct
        (let same = length-map {B = ℕ × Option (Ballot × List BrickId)} q.counted (λ (c : Counted). (c.seat, told_choice c.reply)) in omega (arith, same, many))
        (All-map (λ (told : ℕ × Option (Ballot × List BrickId)). SaysPromise (seated group (history v g e)) told.0 q.ballot told.1)
        (λ (c : Counted). (c.seat, told_choice c.reply)) q.counted
        (All-from_recursion (λ (c : Counted). SaysPromise (seated group (history v g e)) c.seat q.ballot (told_choice c.reply)) q.counted
        (of_each (λ (c : Counted). SaysPromise (seated group (history v g e)) c.seat q.ballot (told_choice c.reply)) q.counted (promised prepares))));
  }

  -- once it asks for a list, each that counts is an acceptance of it
  voted : (members : List BrickId) → q.asks ≡ Some members → (k : ℕ) (c : Counted) → slice_get q.counted k ≡ Some c
      → v.votes c.brick.0 g e q.ballot ≡ Some members
  voted members asks k c at =
      let one = says.counted k c at in
      let acceptance = acceptance_of q.m layout.bricks c.seat c.brick members c.reply
      (subst (λ (z : Option (List BrickId)). answers_ballot q.m layout.bricks z c.reply ≡ true) asks one.answers) (unrefused q.counted free k c at) in
      let said : ReplySays layout v c.brick.0 i q.call Reply.Accepted
      = subst (λ (z : Reply). ReplySays layout v c.brick.0 i q.call z) acceptance (reply_says k c at) in
      let ballot : said.0 ≡ q.ballot = called said.0 said.2 in
      let vote : v.votes c.brick.0 g e q.ballot ≡ Some said.1
      = subst (λ (b : Ballot). v.votes c.brick.0 g e b ≡ Some said.1) ballot
      (subst (λ (view : ℕ). v.votes c.brick.0 g view said.0 ≡ Some said.1) (ap (λ (z : ViewNo). z.0) says.view_is) said.3) in
      let same : said.1 ≡ members
      = same_Some said.1 members (sym (agreed.proposed c.brick.0 g e q.ballot said.1 vote) ∙ says.asked members asks) in
      vote ∙ ap (λ (l : List BrickId). Some l) same

  -- so that list is chosen
  pub asked_chosen : (members : List BrickId) → q.asks ≡ Some members
      → IsChosen (length group.members) (quorum_of group) (seated group (history v g e)) q.ballot members
  asked_chosen members asks =
      chosen_by (length group.members) (quorum_of group) (seated group (history v g e)) q.ballot members (seats_of (promises q.counted)) says.distinct
      (let same = length-map (promises q.counted) (λ (told : ℕ × Option (Ballot × List BrickId)). told.0) in
      let more = length-map {B = ℕ × Option (Ballot × List BrickId)} q.counted (λ (c : Counted). (c.seat, told_choice c.reply)) in omega (arith, same, more, many))
      (All-map (λ (k : ℕ). (seated group (history v g e)).votes k q.ballot ≡ Some members) (λ (told : ℕ × Option (Ballot × List BrickId)). told.0)
      (promises q.counted)
      (All-map (λ (told : ℕ × Option (Ballot × List BrickId)). (seated group (history v g e)).votes told.0 q.ballot ≡ Some members)
      (λ (c : Counted). (c.seat, told_choice c.reply)) q.counted
      (All-from_recursion (λ (c : Counted). (seated group (history v g e)).votes c.seat q.ballot ≡ Some members) q.counted
      (of_each (λ (c : Counted). (seated group (history v g e)).votes c.seat q.ballot ≡ Some members) q.counted
      (λ k c at. ap (λ (brick : ℕ). v.votes brick g e q.ballot) (brick_is k c at) ∙ voted members asks k c at)))))

-- a list that was chosen may keep the group
pub chosen_fits : (layout : Layout) (v : ViewWorld) (g e n q : ℕ) (group : Group) (b : Ballot) (members : List BrickId) (base : Group) → Agreed layout v → IsMajority n q
    → IsChosen n q (seated group (history v g e)) b members → group_of layout g ≡ Some base → is_membership base.m layout.bricks members ≡ true
chosen_fits layout v g e n q group b members base agreed majority chosen is =
    let voter = count_some n chosen.0 (omega (arith, majority, chosen.1)) in
    let fits = agreed.fits (brick_at group voter.0) g e b members (chosen.2 voter.0 voter.1 voter.2) in
    subst (λ (z : Group). is_membership z.m layout.bricks members ≡ true) (same_Some fits.group base (sym fits.group_is ∙ is)) fits.fits
