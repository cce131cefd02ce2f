-- What the agreement on views rests on: the packets, what bricks accepted, and the bricks; and the history of the choice of each view's successor, by brick.
use Rattle.std.proofs.Common.{◌≡◌, ℕ, ◌+◌, ◌<◌, ◌≤◌, Bool, true, false, cond, ◌&&◌, List, ◌++◌, length, Option, Some, None, refl, sym, ap, ◌∙◌, subst, arith, nat_lt, nat_eq}
use Rattle.std.specs.Prelude.{slice_get, if◌then◌else◌}
use Rattle.std.specs.Option.{option_map}
use Rattle.std.proofs.lemmas.Bool.{cond_both, and_parts, eqb-true}
use Rattle.std.proofs.lemmas.Bool.Decides.{nat_tests}
use Rattle.std.proofs.lemmas.Option.{same_Some}
use Rattle.std.proofs.Math.Path.{fun_ext}
use Rattle.fab_base.specs.declared.identities.BrickId.{BrickId}
use Rattle.fab_base.specs.declared.identities.GroupId.{GroupId}
use Rattle.fab_base.specs.declared.member_lists.View.{View}
use Rattle.fab_base.specs.declared.stamps.Ballot.{Ballot}
use Rattle.fab_base.specs.Stamps.{ballot_below}
use Rattle.fab_base.specs.Layouts.{Layout, Group, group_of, first_view, brick_at}
use Rattle.messages.specs.declared.calls.Call.{Call}
use Rattle.messages.specs.declared.packets.Message.{Message}
use Rattle.messages.specs.declared.packets.Packet.{Packet}
use Rattle.messages.specs.declared.requests.Request.{Request}
use Rattle.messages.specs.declared.replies.Reply.{Reply}
use Rattle.quorum.specs.Quorums.{quorum_of}
use Rattle.quorum.specs.Memberships.{is_membership}
use Rattle.synod_laws.specs.Synods.{Synod, Grows, IsChosen, Kept, SaysPromise, ballot_same}
use Rattle.synod_laws.proofs.Ballots.{ballot_same_true}
use Rattle.synod_laws.proofs.Acceptors.{said_stays}
use Rattle.synod_laws.proofs.Agreement.{chosen_stays}
use Rattle.protocol.specs.Views.{members_of, learn_in, kept_by, group_kept}
use Rattle.protocol.specs.Proposals.{told_choice}
use Rattle.protocol.specs.Nodes.{Node, view_at}
use Rattle.protocol.specs.Worlds.{World}
pub use Rattle.view_laws.specs.Successors.{is_past}
use Rattle.view_laws.proofs.FirstTold.{first_told, first_stays, first_found}

-- the packets, what bricks accepted (by brick, group, view and ballot), and the bricks
pub record ViewWorld : Type 0 where
  pub packets : List Packet
  pub votes : ℕ → ℕ → ℕ → Ballot → Option (List BrickId)
  pub nodes : ℕ → Node

-- these of a world
abbrev pub view_world : World → ViewWorld
view_world w = record { packets = w.packets; votes = w.choices.votes; nodes = w.nodes }

-- the packet is one of these
abbrev pub IsSent : List Packet → Packet → Type 0
IsSent packets packet = (k : ℕ) × (slice_get packets k ≡ Some packet)

-- ---- which views have names

-- what is known as a view of a group: view 1 is the layout's, and a later one what the first message names that teaches it
abbrev pub named_in : Layout → List Packet → ℕ → ℕ → Option View
named_in layout packets g e =
    if nat_lt 1 e then first_told (λ packet. learn_in g e packet.message) packets
    else if nat_eq e 1 then Some (first_view (members_of (group_of layout g))) else None

-- the view is the one known by its number
abbrev pub IsNamed : Layout → List Packet → ℕ → View → Type 0
IsNamed layout packets g view = named_in layout packets g view.number.0 ≡ Some view

-- a group, with the members of this view, if there is one
abbrev pub kept_in : Layout → ℕ → Option View → Option Group
kept_in layout g None = None
kept_in layout g (Some view) = group_kept layout view.members g

-- a group, with the members of what is known as a view of it
abbrev pub group_named : Layout → List Packet → ℕ → ℕ → Option Group
group_named layout packets g e = kept_in layout g (named_in layout packets g e)

-- ---- the history

-- the list that a request asks to accept under this ballot
abbrev pub accept_of : Ballot → Request → Option (List BrickId)
accept_of b (Request.Accept ballot members) = if ballot_same b ballot then Some members else None
accept_of b request = None

-- the list that a message asks to accept under this ballot, to follow a view of a group
abbrev pub accept_in : ℕ → ℕ → Ballot → Message → Option (List BrickId)
accept_in g e b (Message.Request call request) = if nat_eq call.group.0 g && nat_eq call.view.0 e then accept_of b request else None
accept_in g e b message = None

-- what a brick keeps of ballots for the successor of a view
abbrev pub kept_at : Node → ℕ → ℕ → Kept (List BrickId)
kept_at node g e = if nat_eq e (view_at node g) then node.ballots g else None

-- The history of the choice of a view's successor, by brick: what each accepted, which ballots are past for it, and which list a ballot was proposed with, which is
-- the one of the first message that asks to accept one under it.
abbrev pub history : ViewWorld → ℕ → ℕ → Synod (List BrickId)
history v g e = record {
  votes = λ i b. v.votes i g e b;
  past = λ i b. is_past (v.nodes i) g e b;
  proposals = λ b. first_told (λ packet. accept_in g e b packet.message) v.packets;
}

-- a history by seat, of a group's members
abbrev pub seated : Group → Synod (List BrickId) → Synod (List BrickId)
seated group s =
    record { votes = λ seat. s.votes (brick_at group seat); past = λ seat. s.past (brick_at group seat); proposals = s.proposals }

-- ---- ballots of calls

-- the ballot that a request names
abbrev pub ballot_asked : Request → Option Ballot
ballot_asked (Request.Prepare ballot) = Some ballot
ballot_asked (Request.Accept ballot members) = Some ballot
ballot_asked request = None

-- the ballot that a packet names, if it is a request of a call of a brick
abbrev pub called_by : ℕ → ℕ → ℕ → ℕ → Message → Option Ballot
called_by i boot seq from (Message.Request call request) =
    if nat_eq from i && (nat_eq call.boot boot && nat_eq call.seq seq) then ballot_asked request else None
called_by i boot seq from message = None

-- the ballot of a call of a brick: the one of the first request of that call that names one
abbrev pub ballot_called : List Packet → ℕ → ℕ → ℕ → Option Ballot
ballot_called packets i boot seq = first_told (λ packet. called_by i boot seq packet.from.0 packet.message) packets

-- ---- what is said

-- A view was decided to follow another that is known: a quorum of that one's members accepted its list, which may keep the group.
pub record IsDecided (layout : Layout) (v : ViewWorld) (g : ℕ) (view : View) : Type 0 where
  pub before : View
  pub named : IsNamed layout v.packets g before
  pub next : view.number.0 ≡ before.number.0 + 1
  pub prior : view.prior ≡ before.members
  pub group : Group
  pub group_is : group_kept layout before.members g ≡ Some group
  pub ballot : Ballot
  pub chosen : IsChosen (length group.members) (quorum_of group) (seated group (history v g before.number.0)) ballot view.members
  pub fits : (base : Group) → group_of layout g ≡ Some base → is_membership base.m layout.bricks view.members ≡ true

-- a view is taught: it is known by its number, and it was decided
abbrev pub IsTaught : Layout → ViewWorld → ℕ → View → Type 0
IsTaught layout v g view = IsNamed layout v.packets g view × IsDecided layout v g view

-- a greater ballot is told to a request that named a lower one
pub record OutbidSays (packets : List Packet) (from to : ℕ) (call : Call) (greater : Ballot) : Type 0 where
  pub request : Request
  pub ballot : Ballot
  pub asked : ballot_asked request ≡ Some ballot
  pub sent : IsSent packets (record { from = record { 0 = to }; to = record { 0 = from }; message = Message.Request call request })
  pub below : ballot_below ballot greater ≡ true

-- what a request says: a list to accept was proposed so
abbrev pub RequestSays : ViewWorld → Call → Request → Type 0
RequestSays v call (Request.Accept ballot members) = (history v call.group.0 call.view.0).proposals ballot ≡ Some members
RequestSays v call request = Unit {0}

-- What a reply says of the ballot of its call: it is promised to, or a list was accepted under it, or the ballot that is told is greater. A later view that it tells
-- is taught, or else the brick has accepted a list to follow the call's.
abbrev pub ReplySays : Layout → ViewWorld → ℕ → ℕ → Call → Reply → Type 0
ReplySays layout v from to call (Reply.Promise accepted) =
    (b : Ballot) × (ballot_called v.packets to call.boot call.seq ≡ Some b)
    × SaysPromise (history v call.group.0 call.view.0) from b (told_choice (Reply.Promise accepted))
ReplySays layout v from to call Reply.Accepted =
    (b : Ballot) × (members : List BrickId) × (ballot_called v.packets to call.boot call.seq ≡ Some b)
    × (v.votes from call.group.0 call.view.0 b ≡ Some members)
ReplySays layout v from to call (Reply.Moved number (Some lineage)) =
    IsTaught layout v call.group.0 (record { number = number; members = lineage.members; prior = lineage.prior })
ReplySays layout v from to call (Reply.Moved number None) =
    (number.0 ≡ call.view.0 + 1) × (b : Ballot) × (members : List BrickId) × (v.votes from call.group.0 call.view.0 b ≡ Some members)
ReplySays layout v from to call (Reply.Outbid greater) = OutbidSays v.packets from to call greater
ReplySays layout v from to call reply = Unit {0}

-- what a message says
abbrev pub MessageSays : Layout → ViewWorld → ℕ → ℕ → Message → Type 0
MessageSays layout v from to (Message.Request call request) = RequestSays v call request
MessageSays layout v from to (Message.Reply call reply) = ReplySays layout v from to call reply
MessageSays layout v from to (Message.Learn group view) = IsTaught layout v group.0 view
MessageSays layout v from to message = Unit {0}

-- what a packet says
abbrev pub PacketSays : Layout → ViewWorld → Packet → Type 0
PacketSays layout v packet = MessageSays layout v packet.from.0 packet.to.0 packet.message

-- ---- growth

-- More is known: names, calls and packets stay, and histories go on.
pub record Extends (layout : Layout) (v next : ViewWorld) : Type 0 where
  pub named : (g e : ℕ) (view : View) → named_in layout v.packets g e ≡ Some view → named_in layout next.packets g e ≡ Some view
  pub called : (i boot seq : ℕ) (b : Ballot) → ballot_called v.packets i boot seq ≡ Some b → ballot_called next.packets i boot seq ≡ Some b
  pub sent : (packet : Packet) → IsSent v.packets packet → IsSent next.packets packet
  pub grows : (g e : ℕ) → Grows (history v g e) (history next g e)

-- a history by seat goes on where it goes on by brick
pub seated_grows : (group : Group) (s next : Synod (List BrickId)) → Grows s next → Grows (seated group s) (seated group next)
seated_grows group s next grows = record {
  votes = λ k b a is. grows.votes (brick_at group k) b a is;
  past = λ k b is. grows.past (brick_at group k) b is;
  proposals = grows.proposals;
  closed = λ k b a past voted. grows.closed (brick_at group k) b a past voted;
}

-- what was decided stays so
pub decided_stays : (layout : Layout) (v next : ViewWorld) (g : ℕ) (view : View) → Extends layout v next → IsDecided layout v g view
    → IsDecided layout next g view
decided_stays layout v next g view extends was = record {
  before = was.before;
  named = extends.named g was.before.number.0 was.before was.named;
  next = was.next;
  prior = was.prior;
  group = was.group;
  group_is = was.group_is;
  ballot = was.ballot;
  chosen = chosen_stays (length was.group.members) (quorum_of was.group) (seated was.group (history v g was.before.number.0))
      (seated was.group (history next g was.before.number.0)) was.ballot view.members
      (seated_grows was.group (history v g was.before.number.0) (history next g was.before.number.0) (extends.grows g was.before.number.0)) was.chosen;
  fits = was.fits;
}

-- what was taught stays so
pub taught_stays : (layout : Layout) (v next : ViewWorld) (g : ℕ) (view : View) → Extends layout v next → IsTaught layout v g view → IsTaught layout next g view
taught_stays layout v next g view extends was =
    (extends.named g view.number.0 view was.0, decided_stays layout v next g view extends was.1)

-- what was said stays so
module _ (layout : Layout) (v next : ViewWorld) (extends : Extends layout v next) where
  -- of a request
  request_stays : (call : Call) (request : Request) → RequestSays v call request → RequestSays next call request
  request_stays call (Request.Accept ballot members) says = (extends.grows call.group.0 call.view.0).proposals ballot members says
  request_stays call (Request.Read want) says = tt
  request_stays call (Request.Order t) says = tt
  request_stays call (Request.OrderRead t look want) says = tt
  request_stays call (Request.Write t block) says = tt
  request_stays call (Request.Modify t base j delta) says = tt
  request_stays call (Request.Collect t) says = tt
  request_stays call (Request.OldRead bound) says = tt
  request_stays call (Request.Prepare ballot) says = tt

  -- of a reply
  reply_stays : (from to : ℕ) (call : Call) (reply : Reply) → ReplySays layout v from to call reply → ReplySays layout next from to call reply
  reply_stays from to call (Reply.Promise accepted) says = (
    says.0,
    extends.called to call.boot call.seq says.0 says.1,
    said_stays (history v call.group.0 call.view.0) (history next call.group.0 call.view.0) from says.0 (told_choice (Reply.Promise accepted))
        (extends.grows call.group.0 call.view.0) says.2,
  )
  reply_stays from to call Reply.Accepted says = (
    says.0,
    says.1,
    extends.called to call.boot call.seq says.0 says.2,
    (extends.grows call.group.0 call.view.0).votes from says.0 says.1 says.3,
  )
  reply_stays from to call (Reply.Moved number None) says =
      (says.0, says.1, says.2, (extends.grows call.group.0 call.view.0).votes from says.1 says.2 says.3)
  reply_stays from to call (Reply.Moved number (Some lineage)) says =
      taught_stays layout v next call.group.0 (record { number = number; members = lineage.members; prior = lineage.prior }) extends says
  reply_stays from to call (Reply.Found order newest) says = tt
  reply_stays from to call Reply.Ordered says = tt
  reply_stays from to call (Reply.OrderedRead found) says = tt
  reply_stays from to call Reply.Stored says = tt
  reply_stays from to call (Reply.Behind newest) says = tt
  reply_stays from to call (Reply.Later stamp) says = tt
  reply_stays from to call (Reply.Full live) says = tt
  reply_stays from to call (Reply.Old found) says = tt
  reply_stays from to call Reply.Retired says = tt
  reply_stays from to call (Reply.Outbid greater) says =
      record { request = says.request; ballot = says.ballot; asked = says.asked; sent = extends.sent _ says.sent; below = says.below }
  reply_stays from to call Reply.NotSynced says = tt

  -- of a message
  pub message_stays : (from to : ℕ) (message : Message) → MessageSays layout v from to message → MessageSays layout next from to message
  message_stays from to (Message.Request call request) says = request_stays call request says
  message_stays from to (Message.Reply call reply) says = reply_stays from to call reply says
  message_stays from to (Message.Learn group view) says = taught_stays layout v next group.0 view extends says
  message_stays from to (Message.Synced group view) says = tt
  message_stays from to (Message.Client ask) says = tt
  message_stays from to (Message.ClientReply id answer) says = tt

-- ---- readings

-- what is told as accepted under a ballot, a request asks for
pub record IsAccept (g e : ℕ) (b : Ballot) (message : Message) (members : List BrickId) : Type 0 where
  pub call : Call
  pub is : message ≡ Message.Request call (Request.Accept b members)
  pub group : call.group.0 ≡ g
  pub view : call.view.0 ≡ e

-- what a request is that asks to accept this list under a ballot
accept_of_is : (b : Ballot) (request : Request) (members : List BrickId) → accept_of b request ≡ Some members → request ≡ Request.Accept b members
accept_of_is b (Request.Accept ballot named) members is =
    cond_both (ballot_same b ballot) (Some named) None (λ (z : Option (List BrickId)). z ≡ Some members → Request.Accept ballot named ≡ Request.Accept b members)
    (λ same some.
    ap (λ (z : Ballot). Request.Accept z named) (sym (ballot_same_true b ballot same)) ∙ ap (λ (z : List BrickId). Request.Accept b z) (same_Some named members some))
    (λ other none. cc)
    is
accept_of_is b (Request.Read want) members is = cc
accept_of_is b (Request.Order t) members is = cc
accept_of_is b (Request.OrderRead t look want) members is = cc
accept_of_is b (Request.Write t block) members is = cc
accept_of_is b (Request.Modify t base j delta) members is = cc
accept_of_is b (Request.Collect t) members is = cc
accept_of_is b (Request.OldRead bound) members is = cc
accept_of_is b (Request.Prepare ballot) members is = cc

-- and what a message is
pub accept_is : (g e : ℕ) (b : Ballot) (message : Message) (members : List BrickId) → accept_in g e b message ≡ Some members → IsAccept g e b message members
accept_is g e b (Message.Request call request) members is =
    cond_both (nat_eq call.group.0 g && nat_eq call.view.0 e) (accept_of b request) None
    (λ (z : Option (List BrickId)). z ≡ Some members → IsAccept g e b (Message.Request call request) members)
    (λ here some.
    let parts = and_parts (nat_eq call.group.0 g) (nat_eq call.view.0 e) here in
    record {
      call = call;
      is = ap (λ (z : Request). Message.Request call z) (accept_of_is b request members some);
      group = eqb-true call.group.0 g parts.0;
      view = eqb-true call.view.0 e parts.1;
    })
    (λ other none. absurd (let never : None ≡ Some members = none in cc))
    is
accept_is g e b (Message.Reply call reply) members is = cc
accept_is g e b (Message.Learn group view) members is = cc
accept_is g e b (Message.Synced group view) members is = cc
accept_is g e b (Message.Client ask) members is = cc
accept_is g e b (Message.ClientReply id answer) members is = cc

-- what is told as a view, a message teaches
pub learn_is : (g e : ℕ) (message : Message) (view : View) → learn_in g e message ≡ Some view
    → (group : GroupId) × (message ≡ Message.Learn group view) × (group.0 ≡ g) × (view.number.0 ≡ e)
learn_is g e (Message.Learn group taught) view is =
    cond_both (nat_eq group.0 g && nat_eq taught.number.0 e) (Some taught) None
    (λ (z : Option View). z ≡ Some view → (other : GroupId) × (Message.Learn group taught ≡ Message.Learn other view) × (other.0 ≡ g) × (view.number.0 ≡ e))
    (λ here some.
    let parts = and_parts (nat_eq group.0 g) (nat_eq taught.number.0 e) here in
    let same : taught ≡ view = same_Some taught view some in (
      group,
      ap (λ (z : View). Message.Learn group z) same,
      eqb-true group.0 g parts.0,
      sym (ap (λ (z : View). z.number.0) same) ∙ eqb-true taught.number.0 e parts.1,
    ))
    (λ other none. absurd (let never : None ≡ Some view = none in cc))
    is
learn_is g e (Message.Request call request) view is = cc
learn_is g e (Message.Reply call reply) view is = cc
learn_is g e (Message.Synced group number) view is = cc
learn_is g e (Message.Client ask) view is = cc
learn_is g e (Message.ClientReply id answer) view is = cc

-- a name has its number, which is 1 or more
pub name_has_number : (layout : Layout) (packets : List Packet) (g e : ℕ) (view : View) → named_in layout packets g e ≡ Some view
    → (view.number.0 ≡ e) × (1 ≤ e)
name_has_number layout packets g e view =
    cond_both (nat_lt 1 e) (first_told (λ packet. learn_in g e packet.message) packets) _
    (λ (z : Option View). z ≡ Some view → (view.number.0 ≡ e) × (1 ≤ e))
    (λ later is.
    let found = first_found (λ packet. learn_in g e packet.message) packets view is in
    ((learn_is g e found.1.message view found.3).3, grind (arith, nat_tests, later)))
    (λ isnt.
    cond_both (nat_eq e 1) (Some (first_view (members_of (group_of layout g)))) None
    (λ (z : Option View). z ≡ Some view → (view.number.0 ≡ e) × (1 ≤ e))
    (λ one is.
    let number : e ≡ 1 = eqb-true e 1 one in
    (ap (λ (z : View). z.number.0) (sym (same_Some (first_view (members_of (group_of layout g))) view is)) ∙ sym number, omega (arith, number)))
    (λ other none. absurd (let never : None ≡ Some view = none in cc)))

-- a view that is known by a number is known by its own
pub name_is : (layout : Layout) (packets : List Packet) (g e : ℕ) (view : View) → named_in layout packets g e ≡ Some view → IsNamed layout packets g view
name_is layout packets g e view is =
    ap (λ (z : ℕ). named_in layout packets g z) (name_has_number layout packets g e view is).0 ∙ is

-- two names of a number are the same
pub names_once : (layout : Layout) (packets : List Packet) (g : ℕ) (one other : View) → IsNamed layout packets g one → IsNamed layout packets g other
    → one.number.0 ≡ other.number.0 → one ≡ other
names_once layout packets g one other first second same =
    same_Some one other (sym first ∙ ap (λ (z : ℕ). named_in layout packets g z) same ∙ second)

-- a name stays as more is sent
pub name_stays : (layout : Layout) (packets more : List Packet) (g e : ℕ) (view : View) → named_in layout packets g e ≡ Some view
    → named_in layout (packets ++ more) g e ≡ Some view
name_stays layout packets more g e view =
    by (nat_lt 1 e)
  where
    by : (t : Bool) → cond t (first_told (λ packet. learn_in g e packet.message) packets) (if nat_eq e 1 then Some (first_view (members_of (group_of layout g))) else None) ≡ Some view
        → cond t (first_told (λ packet. learn_in g e packet.message) (packets ++ more)) (if nat_eq e 1 then Some (first_view (members_of (group_of layout g))) else None) ≡ Some view
    by true is = first_stays (λ packet. learn_in g e packet.message) packets more view is
    by false is = is

-- the group of a known view
pub group_by_name : (layout : Layout) (packets : List Packet) (g e : ℕ) (view : View) → named_in layout packets g e ≡ Some view
    → group_named layout packets g e ≡ group_kept layout view.members g
group_by_name layout packets g e view is = ap (λ (z : Option View). kept_in layout g z) is

-- the view of a known group
pub name_of_group : (layout : Layout) (packets : List Packet) (g e : ℕ) (group : Group) → group_named layout packets g e ≡ Some group
    → (view : View) × (named_in layout packets g e ≡ Some view) × (group_kept layout view.members g ≡ Some group)
name_of_group layout packets g e group is = by (named_in layout packets g e) refl is
  where
    by : (z : Option View) → named_in layout packets g e ≡ z → kept_in layout g z ≡ Some group
        → (view : View) × (named_in layout packets g e ≡ Some view) × (group_kept layout view.members g ≡ Some group)
    by None none at = cc
    by (Some view) some at = (view, some, at)

-- a group that these members keep is the layout's with them
pub kept_is : (layout : Layout) (members : List BrickId) (g : ℕ) (group : Group) → group_kept layout members g ≡ Some group
    → (base : Group) × (group_of layout g ≡ Some base) × (group ≡ kept_by members base)
kept_is layout members g group is = by (group_of layout g) refl is
  where
    by : (z : Option Group) → group_of layout g ≡ z → option_map (kept_by members) z ≡ Some group → (base : Group) × (group_of layout g ≡ Some base) × (group ≡ kept_by members base)
    by None none at = cc
    by (Some base) some at = (base, some, sym (same_Some (kept_by members base) group at))

-- a view that is known and later than view 1 was taught, where all that is sent says so
pub known_taught : (layout : Layout) (v : ViewWorld) (g : ℕ) (view : View)
    → ((k : ℕ) (packet : Packet) → slice_get v.packets k ≡ Some packet → PacketSays layout v packet) → IsNamed layout v.packets g view → 1 < view.number.0
    → IsTaught layout v g view
known_taught layout v g view says =
    cond_both (nat_lt 1 view.number.0) (first_told (λ packet. learn_in g view.number.0 packet.message) v.packets) _
    (λ (z : Option View). z ≡ Some view → 1 < view.number.0 → IsTaught layout v g view)
    (λ later is above.
    let found = first_found (λ packet. learn_in g view.number.0 packet.message) v.packets view is in
    let learn = learn_is g view.number.0 found.1.message view found.3 in
    subst (λ (z : ℕ). IsTaught layout v z view) learn.2
    (subst (λ (z : Message). MessageSays layout v found.1.from.0 found.1.to.0 z) learn.1 (says found.0 found.1 found.2)))
    (λ isnt is above. absurd (grind (arith, nat_tests, isnt, above)))

-- histories of the same votes, past ballots and proposals are the same
abbrev synod_of : {A : Type 0} → (ℕ → Ballot → Option A) → (ℕ → Ballot → Bool) → (Ballot → Option A) → Synod A
synod_of votes past proposals = record { votes = votes; past = past; proposals = proposals }

-- so they are one history
pub synod_is : {A : Type 0} (s t : Synod A) → ((k : ℕ) (b : Ballot) → s.votes k b ≡ t.votes k b) → ((k : ℕ) (b : Ballot) → s.past k b ≡ t.past k b)
    → ((b : Ballot) → s.proposals b ≡ t.proposals b) → s ≡ t
synod_is {A = A} s t votes past proposals =
    ap (λ (x : ℕ → Ballot → Option A). synod_of x s.past s.proposals) (fun_ext (λ k. fun_ext (λ b. votes k b)))
    ∙ ap (λ (x : ℕ → Ballot → Bool). synod_of t.votes x s.proposals) (fun_ext (λ k. fun_ext (λ b. past k b)))
    ∙ ap (λ (x : Ballot → Option A). synod_of t.votes t.past x) (fun_ext (λ b. proposals b))
