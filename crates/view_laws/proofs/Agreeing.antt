-- The agreement on views: what bricks accepted was proposed, and each proposal is safe; and how it is kept where a brick votes, learns a view, or packets are sent.
use Rattle.std.proofs.Common.{◌≡◌, ℕ, ◌-◌, ◌<◌, ◌≤◌, Bool, true, false, cond, ◌&&◌, ◌||◌, ◌⊎◌, inl, inr, ⊎_elim, List, ◌++◌, length, Option, Some, None, refl, sym, ap, ◌∙◌, subst, arith, nat_lt, nat_eq}
use Rattle.std.specs.Prelude.{slice_get, if◌then◌else◌, ◌^◌}
use Rattle.std.proofs.lemmas.Bool.{cond_both, eqb-true, eq-eqb, ne_eqb, or_left, or_cases, and_parts}
use Rattle.std.proofs.lemmas.Bool.Decides.{nat_tests}
use Rattle.std.proofs.Math.Path.{fun_ext}
use Rattle.fab_base.specs.declared.identities.BrickId.{BrickId}
use Rattle.fab_base.specs.declared.member_lists.View.{View}
use Rattle.fab_base.specs.declared.stamps.Ballot.{Ballot}
use Rattle.fab_base.specs.Layouts.{Layout, Group, group_of}
use Rattle.fab_base.specs.Stamps.{ballot_below}
use Rattle.messages.specs.declared.calls.Call.{Call}
use Rattle.messages.specs.declared.packets.Message.{Message}
use Rattle.messages.specs.declared.packets.Packet.{Packet}
use Rattle.messages.specs.declared.requests.Request.{Request}
use Rattle.quorum.specs.Quorums.{quorum_of}
use Rattle.quorum.specs.Memberships.{is_membership}
use Rattle.synod_laws.specs.Synods.{Synod, Agrees, Grows, IsSafe, Kept, Keeps, SaysPromise, ballot_same, is_promised_above, last_of, with_promise, with_acceptance}
use Rattle.synod_laws.proofs.Ballots.{ballot_same_true}
use Rattle.synod_laws.proofs.Acceptors.{Promising, promising, Accepting, accepting, keeps_same}
use Rattle.synod_laws.proofs.Agreement.{safe_stays}
use Rattle.synod_laws.proofs.Steps.{put_value}
use Rattle.protocol.specs.Views.{Learnt}
use Rattle.protocol.specs.Ballots.{granting}
use Rattle.protocol.specs.Nodes.{Node, view_at, put}
use Rattle.protocol.specs.Worlds.{accepted_in, vote_with, with_votes}
use Rattle.protocol.proofs.Puts.{put_other}
use Rattle.protocol.proofs.Tables.{put_each, put_same, get_grown, get_kept}
use Rattle.view_laws.proofs.FirstTold.{first_of_later, first_stays, first_found}
use Rattle.view_laws.proofs.Histories.{ViewWorld, IsSent, IsNamed, group_named, accept_in, is_past, kept_at, history, seated, RequestSays, PacketSays, Extends, seated_grows, message_stays, name_stays, group_by_name, name_of_group, synod_is}

-- what a list that was accepted is: it may keep the group, and the view that it is to follow has a successor
pub record VoteFits (layout : Layout) (g e : ℕ) (members : List BrickId) : Type 0 where
  pub successor : nat_lt e (2 ^ 32 - 1) ≡ true
  pub group : Group
  pub group_is : group_of layout g ≡ Some group
  pub fits : is_membership group.m layout.bricks members ≡ true

-- a list is safe at a ballot, for the members of a known view
pub record IsSafeIn (layout : Layout) (v : ViewWorld) (g e : ℕ) (b : Ballot) (members : List BrickId) : Type 0 where
  pub group : Group
  pub group_is : group_named layout v.packets g e ≡ Some group
  pub safe : IsSafe (length group.members) (quorum_of group) (seated group (history v g e)) b members

-- The agreement. What a brick accepted was proposed, and may keep the group; each proposal is safe; what a brick keeps of ballots is true of the history; what it
-- has learnt is known; and each packet says what is so.
pub record Agreed (layout : Layout) (v : ViewWorld) : Type 0 where
  pub proposed : (i g e : ℕ) (b : Ballot) (members : List BrickId) → v.votes i g e b ≡ Some members → (history v g e).proposals b ≡ Some members
  pub fits : (i g e : ℕ) (b : Ballot) (members : List BrickId) → v.votes i g e b ≡ Some members → VoteFits layout g e members
  pub safe : (g e : ℕ) (b : Ballot) (members : List BrickId) → (history v g e).proposals b ≡ Some members → IsSafeIn layout v g e b members
  pub keeps : (i g e : ℕ) → view_at (v.nodes i) g ≤ e → Keeps (history v g e) i (kept_at (v.nodes i) g e)
  pub learnt : (i g : ℕ) → IsNamed layout v.packets g ((v.nodes i).learnt g).view
  pub says : (k : ℕ) (packet : Packet) → slice_get v.packets k ≡ Some packet → PacketSays layout v packet

-- ---- what changes at a brick

-- of a group nothing changes, but that its view may be known to be synced from then on
abbrev pub StaysAt : Node → Node → ℕ → Type 0
StaysAt node next g = ((next.learnt g).view ≡ (node.learnt g).view) × (next.ballots g ≡ node.ballots g)

-- the request that asks for a vote on a ballot
abbrev pub vote_request : Ballot → Option (List BrickId) → Request
vote_request ballot None = Request.Prepare ballot
vote_request ballot (Some members) = Request.Accept ballot members

-- a brick grants a ballot what a request asks for, for the successor of the view that it has learnt of a group
pub record VotesAt (layout : Layout) (packets : List Packet) (node next : Node) (g : ℕ) : Type 0 where
  pub call : Call
  pub ballot : Ballot
  pub asks : Option (List BrickId)
  pub from : BrickId
  pub to : BrickId
  pub sent : IsSent packets (record { from = from; to = to; message = Message.Request call (vote_request ballot asks) })
  pub group : call.group.0 ≡ g
  pub now : call.view.0 ≡ view_at node g
  pub fits : (members : List BrickId) → asks ≡ Some members → VoteFits layout g (view_at node g) members
  pub free : is_promised_above (node.ballots g) ballot ≡ false
  pub learnt : next.learnt g ≡ node.learnt g
  pub ballots : next.ballots g ≡ (granting (node.ballots g) ballot asks).kept

-- a brick learns a later view of a group, which is known
pub record LearnsAt (layout : Layout) (packets : List Packet) (node next : Node) (g : ℕ) : Type 0 where
  pub view : View
  pub named : IsNamed layout packets g view
  pub later : view_at node g < view.number.0
  pub learnt : (next.learnt g).view ≡ view
  pub ballots : next.ballots g ≡ None

-- what a turn of a brick changes: of each group nothing, or it votes, or it learns a view
abbrev pub Turn : Layout → List Packet → Node → Node → Type 0
Turn layout packets node next = (g : ℕ) → StaysAt node next g ⊎ (VotesAt layout packets node next g ⊎ LearnsAt layout packets node next g)

-- the world once a brick is this, and what it accepted is noted
abbrev pub turned : ViewWorld → ℕ → Node → ViewWorld
turned v i next = record { packets = v.packets; votes = with_votes v.votes i next; nodes = put v.nodes i next }

-- ---- tests

-- what a brick has accepted last to follow a view, by what it has learnt and keeps
abbrev accepted_by : ℕ → Learnt → Kept (List BrickId) → Option (Ballot × List BrickId)
accepted_by e learnt kept = if nat_eq e learnt.view.number.0 then last_of kept else None

-- a ballot is past, by the same
abbrev past_by : ℕ → Learnt → Kept (List BrickId) → Ballot → Bool
past_by e learnt kept b = nat_lt e learnt.view.number.0 || (nat_eq e learnt.view.number.0 && is_promised_above kept b)

-- what is kept for a view, by the same
abbrev kept_by_view : ℕ → Learnt → Kept (List BrickId) → Kept (List BrickId)
kept_by_view e learnt kept = if nat_eq e learnt.view.number.0 then kept else None

-- a test that fails takes nothing away
or_nothing : (x t y : Bool) → t ≡ false → x ≡ (x || (t && y))
or_nothing true t y isnt = refl
or_nothing false t y isnt = sym (ap (λ (z : Bool). z && y) isnt)

-- whichever way a test goes, the same is the same
either_way : {A : Type 0} (t : Bool) (x : A) → cond t x x ≡ x
either_way true x = refl
either_way false x = refl

-- in the view that was learnt the ballots past are those below the promise
past_now : (e : ℕ) (learnt : Learnt) (kept : Kept (List BrickId)) (b : Ballot) → learnt.view.number.0 ≡ e → past_by e learnt kept b ≡ is_promised_above kept b
past_now e learnt kept b is =
    let same : nat_eq e learnt.view.number.0 ≡ true = eq-eqb e learnt.view.number.0 (sym is) in
    let least : nat_lt e learnt.view.number.0 ≡ false = grind (arith, nat_tests, is) in
    ap (λ (z : Bool). z || (nat_eq e learnt.view.number.0 && is_promised_above kept b)) least ∙ ap (λ (z : Bool). z && is_promised_above kept b) same

-- in a view that was not learnt nothing is promised or accepted: whatever is kept
past_elsewhere : (e : ℕ) (learnt : Learnt) (kept other : Kept (List BrickId)) (b : Ballot) → nat_eq e learnt.view.number.0 ≡ false
    → past_by e learnt kept b ≡ past_by e learnt other b
past_elsewhere e learnt kept other b isnt =
    ap (λ (z : Bool). nat_lt e learnt.view.number.0 || (z && is_promised_above kept b)) isnt
    ∙ sym (ap (λ (z : Bool). nat_lt e learnt.view.number.0 || (z && is_promised_above other b)) isnt)

-- in views from the learnt one on nothing is past where nothing is kept
past_nothing : (e : ℕ) (learnt : Learnt) (b : Ballot) → learnt.view.number.0 ≤ e → past_by e learnt None b ≡ false
past_nothing e learnt b le =
    let least : nat_lt e learnt.view.number.0 ≡ false = grind (arith, nat_tests, le) in
    ap (λ (z : Bool). z || (nat_eq e learnt.view.number.0 && false)) least ∙ never (nat_eq e learnt.view.number.0)
  where
    never : (t : Bool) → (t && false) ≡ false
    never true = refl
    never false = refl

-- what is past stays past as a later view is learnt
past_rises : (e : ℕ) (learnt later : Learnt) (kept other : Kept (List BrickId)) (b : Ballot) → learnt.view.number.0 < later.view.number.0
    → past_by e learnt kept b ≡ true → past_by e later other b ≡ true
past_rises e learnt later kept other b less was = ⊎_elim
    (λ (under : nat_lt e learnt.view.number.0 ≡ true).
    or_left (nat_lt e later.view.number.0) (nat_eq e later.view.number.0 && is_promised_above other b) (grind (arith, nat_tests, under, less)))
    (λ (now : (nat_eq e learnt.view.number.0 && is_promised_above kept b) ≡ true).
    let same : e ≡ learnt.view.number.0 = eqb-true e learnt.view.number.0 (and_parts (nat_eq e learnt.view.number.0) (is_promised_above kept b) now).0 in
    or_left (nat_lt e later.view.number.0) (nat_eq e later.view.number.0 && is_promised_above other b) (grind (arith, nat_tests, same, less)))
    (or_cases (nat_lt e learnt.view.number.0) (nat_eq e learnt.view.number.0 && is_promised_above kept b) was)

-- what is noted already changes nothing
noted : (row : Ballot → Option (List BrickId)) (last : Option (Ballot × List BrickId))
    → ((c : Ballot) (members : List BrickId) → last ≡ Some (c, members) → row c ≡ Some members) → (b : Ballot) → vote_with (row b) last b ≡ row b
noted row None known b = refl
noted row (Some (c, members)) known b =
    cond_both (ballot_same b c) (Some members) (row b) (λ (z : Option (List BrickId)). z ≡ row b)
    (λ same. sym (ap row (ballot_same_true b c same) ∙ known c members refl)) (λ isnt. refl)

-- ---- a turn

-- the list that a brick accepts was proposed so
vote_proposed : (layout : Layout) (v : ViewWorld) → Agreed layout v → (node next : Node) (g : ℕ) (x : VotesAt layout v.packets node next g)
    → (members : List BrickId) → x.asks ≡ Some members → (history v g (view_at node g)).proposals x.ballot ≡ Some members
vote_proposed layout v agreed node next g x members some =
    subst (λ (h : ℕ). (history v h (view_at node g)).proposals x.ballot ≡ Some members) x.group
    (subst (λ (e : ℕ). (history v x.call.group.0 e).proposals x.ballot ≡ Some members) x.now
    (subst (λ (z : Option (List BrickId)). RequestSays v x.call (vote_request x.ballot z)) some (agreed.says x.sent.0 _ x.sent.1)))

module _ (layout : Layout) (v : ViewWorld) (i : ℕ) (next : Node) (agreed : Agreed layout v) where
  -- the row of what a brick accepted, once it is this
  abbrev row : ℕ → ℕ → Ballot → Option (List BrickId)
  row g e b = vote_with (v.votes i g e b) (accepted_in next g e) b

  -- the invariant by brick: a quorum of none is no quorum
  agrees_by_brick : (g e : ℕ) → Agrees 0 1 (history v g e)
  agrees_by_brick g e = record { votes = λ k b a is. agreed.proposed k g e b a is; safe = λ b a is lower below. inr (omega arith) }

  -- what a brick has accepted last is noted
  pub last_noted : (g e : ℕ) (c : Ballot) (members : List BrickId) → accepted_in (v.nodes i) g e ≡ Some (c, members) → v.votes i g e c ≡ Some members
  last_noted g e c members =
      cond_both (nat_eq e (view_at (v.nodes i) g)) (last_of ((v.nodes i).ballots g)) None
      (λ (z : Option (Ballot × List BrickId)). z ≡ Some (c, members) → v.votes i g e c ≡ Some members)
      (λ now some.
      let same : e ≡ view_at (v.nodes i) g = eqb-true e (view_at (v.nodes i) g) now in
      (agreed.keeps i g e (omega (arith, same))).last c members
      (ap (λ (t : Bool). last_of (cond t ((v.nodes i).ballots g) None)) now ∙ some))
      (λ other none. absurd (let never : None ≡ Some (c, members) = none in cc))

  -- the votes are as they were, where what the brick has accepted last is
  votes_same : (g e : ℕ) → ((c : Ballot) (members : List BrickId) → accepted_in next g e ≡ Some (c, members) → v.votes i g e c ≡ Some members)
      → (k : ℕ) (b : Ballot) → (turned v i next).votes k g e b ≡ v.votes k g e b
  votes_same g e known =
      put_each (λ k (r : ℕ → ℕ → Ballot → Option (List BrickId)). (b : Ballot) → r g e b ≡ v.votes k g e b) v.votes i row
      (λ b. noted (v.votes i g e) (accepted_in next g e) known b) (λ k other b. refl)

  -- the ballots past are as they were, where they are for the brick
  past_same : (g e : ℕ) → ((b : Ballot) → is_past next g e b ≡ is_past (v.nodes i) g e b) → (k : ℕ) (b : Ballot)
      → is_past ((turned v i next).nodes k) g e b ≡ is_past (v.nodes k) g e b
  past_same g e here =
      put_each (λ k (n : Node). (b : Ballot) → is_past n g e b ≡ is_past (v.nodes k) g e b) v.nodes i next here (λ k other b. refl)

  -- so is the history
  history_same : (g e : ℕ) → ((c : Ballot) (members : List BrickId) → accepted_in next g e ≡ Some (c, members) → v.votes i g e c ≡ Some members)
      → ((b : Ballot) → is_past next g e b ≡ is_past (v.nodes i) g e b) → history (turned v i next) g e ≡ history v g e
  history_same g e known here =
      synod_is (history (turned v i next) g e) (history v g e) (votes_same g e known) (past_same g e here) (λ b. refl)

  -- What a turn leaves of a history: it goes on, what was accepted was proposed and fits, and what the brick keeps is true of it.
  record Turned (g e : ℕ) : Type 0 where
    grows : Grows (history v g e) (history (turned v i next) g e)
    proposed : (k : ℕ) (b : Ballot) (members : List BrickId) → (turned v i next).votes k g e b ≡ Some members → (history v g e).proposals b ≡ Some members
    fits : (k : ℕ) (b : Ballot) (members : List BrickId) → (turned v i next).votes k g e b ≡ Some members → VoteFits layout g e members
    here : view_at next g ≤ e → Keeps (history (turned v i next) g e) i (kept_at next g e)

  -- a history that is the same goes on
  grows_same : (g e : ℕ) → Grows (history v g e) (history v g e)
  grows_same g e = record { votes = λ k b a is. is; past = λ k b is. is; proposals = λ b a is. is; closed = λ k b a past voted. voted }

  -- where the history is the same
  by_same : (g e : ℕ) → history (turned v i next) g e ≡ history v g e → view_at next g ≡ view_at (v.nodes i) g → kept_at next g e ≡ kept_at (v.nodes i) g e
      → Turned g e
  by_same g e same view kept = record {
    grows = subst (λ (s : Synod (List BrickId)). Grows (history v g e) s) (sym same) (grows_same g e);
    proposed = λ k b members is. agreed.proposed k g e b members (sym (ap (λ (s : Synod (List BrickId)). s.votes k b) same) ∙ is);
    fits = λ k b members is. agreed.fits k g e b members (sym (ap (λ (s : Synod (List BrickId)). s.votes k b) same) ∙ is);
    here = λ le. subst (λ (s : Synod (List BrickId)). Keeps s i (kept_at next g e)) (sym same)
        (subst (λ (z : Kept (List BrickId)). Keeps (history v g e) i z) (sym kept)
        (agreed.keeps i g e (omega (arith, le, view))));
  }

  -- where nothing changes
  by_staying : (g e : ℕ) → StaysAt (v.nodes i) next g → Turned g e
  by_staying g e stays =
      by_same g e
      (history_same g e
      (λ c members is. last_noted g e c members (sym last ∙ is))
      (λ b. ap (λ (w : View). nat_lt e w.number.0 || (nat_eq e w.number.0 && is_promised_above (next.ballots g) b)) stays.0 ∙ ap (λ (z : Kept (List BrickId)). past_by e ((v.nodes i).learnt g) z b) stays.1))
      (ap (λ (w : View). w.number.0) stays.0)
      (ap (λ (w : View). if nat_eq e w.number.0 then next.ballots g else None) stays.0 ∙ ap (λ (z : Kept (List BrickId)). kept_by_view e ((v.nodes i).learnt g) z) stays.1)
    where
      last : accepted_in next g e ≡ accepted_in (v.nodes i) g e
      last = ap (λ (w : View). if nat_eq e w.number.0 then last_of (next.ballots g) else None) stays.0 ∙ ap (λ (z : Kept (List BrickId)). accepted_by e ((v.nodes i).learnt g) z) stays.1

  -- where the brick votes for the successor of another view
  by_elsewhere : (g e : ℕ) → next.learnt g ≡ (v.nodes i).learnt g → nat_eq e (view_at (v.nodes i) g) ≡ false → Turned g e
  by_elsewhere g e learnt isnt =
      by_same g e
      (history_same g e
      (λ c members is. absurd (let never : None ≡ Some (c, members) = sym none ∙ is in cc))
      (λ b. ap (λ (l : Learnt). past_by e l (next.ballots g) b) learnt ∙ past_elsewhere e ((v.nodes i).learnt g) (next.ballots g) ((v.nodes i).ballots g) b isnt))
      (ap (λ (l : Learnt). l.view.number.0) learnt)
      (ap (λ (l : Learnt). kept_by_view e l (next.ballots g)) learnt ∙ ap (λ (t : Bool). cond t (next.ballots g) None) isnt
      ∙ sym (ap (λ (t : Bool). cond t ((v.nodes i).ballots g) None) isnt))
    where
      none : accepted_in next g e ≡ None
      none = ap (λ (l : Learnt). accepted_by e l (next.ballots g)) learnt ∙ ap (λ (t : Bool). cond t (last_of (next.ballots g)) None) isnt

  -- what a brick keeps of its learnt view is true of the history
  keeps_now : (g : ℕ) → Keeps (history v g (view_at (v.nodes i) g)) i ((v.nodes i).ballots g)
  keeps_now g =
      subst (λ (z : Kept (List BrickId)). Keeps (history v g (view_at (v.nodes i) g)) i z)
      (ap (λ (t : Bool). cond t ((v.nodes i).ballots g) None) (eq-eqb (view_at (v.nodes i) g) (view_at (v.nodes i) g) refl))
      (agreed.keeps i g (view_at (v.nodes i) g) (omega arith))

  -- what the brick keeps for its view, once it is this
  kept_now : (g : ℕ) (kept : Kept (List BrickId)) → next.learnt g ≡ (v.nodes i).learnt g → next.ballots g ≡ kept
      → kept_at next g (view_at (v.nodes i) g) ≡ kept
  kept_now g kept learnt ballots =
      ap (λ (l : Learnt). kept_by_view (view_at (v.nodes i) g) l (next.ballots g)) learnt
      ∙ ap (λ (t : Bool). cond t (next.ballots g) None) (eq-eqb (view_at (v.nodes i) g) (view_at (v.nodes i) g) refl) ∙ ballots

  -- so it has accepted last what that tells
  last_now : (g : ℕ) (kept : Kept (List BrickId)) → next.learnt g ≡ (v.nodes i).learnt g → next.ballots g ≡ kept
      → accepted_in next g (view_at (v.nodes i) g) ≡ last_of kept
  last_now g kept learnt ballots =
      ap (λ (l : Learnt). accepted_by (view_at (v.nodes i) g) l (next.ballots g)) learnt
      ∙ ap (λ (t : Bool). cond t (last_of (next.ballots g)) None) (eq-eqb (view_at (v.nodes i) g) (view_at (v.nodes i) g) refl) ∙ ap last_of ballots

  -- a promise, in the history of the view
  promise_bundle : (g : ℕ) (b : Ballot) → is_promised_above ((v.nodes i).ballots g) b ≡ false
      → Promising 0 1 (history v g (view_at (v.nodes i) g)) i ((v.nodes i).ballots g) b
  promise_bundle g b free =
      promising 0 1 (history v g (view_at (v.nodes i) g)) i ((v.nodes i).ballots g) b free (agrees_by_brick g (view_at (v.nodes i) g)) (keeps_now g)

  -- the ballots past, once the brick has promised
  past_promised : (g : ℕ) (b : Ballot) (last : Option (Ballot × List BrickId)) → is_promised_above ((v.nodes i).ballots g) b ≡ false
      → next.learnt g ≡ (v.nodes i).learnt g → next.ballots g ≡ Some (b, last) → (k : ℕ) (d : Ballot)
      → is_past ((turned v i next).nodes k) g (view_at (v.nodes i) g) d ≡ (with_promise (history v g (view_at (v.nodes i) g)) i b).past k d
  past_promised g b last free learnt ballots =
      put_each (λ k (n : Node). (d : Ballot) → is_past n g (view_at (v.nodes i) g) d ≡ (with_promise (history v g (view_at (v.nodes i) g)) i b).past k d)
      v.nodes i next
      (λ d. ap (λ (l : Learnt). past_by (view_at (v.nodes i) g) l (next.ballots g) d) learnt
      ∙ past_now (view_at (v.nodes i) g) ((v.nodes i).learnt g) (next.ballots g) d refl
      ∙ ap (λ (z : Kept (List BrickId)). is_promised_above z d) ballots ∙ sym ((promise_bundle g b free).here.past d))
      (λ k other d. or_nothing (is_past (v.nodes k) g (view_at (v.nodes i) g) d) (nat_eq k i) (ballot_below d b) (ne_eqb k i other))

  -- the history, once the brick has promised
  history_promised : (g : ℕ) (b : Ballot) → is_promised_above ((v.nodes i).ballots g) b ≡ false → next.learnt g ≡ (v.nodes i).learnt g
      → next.ballots g ≡ Some (b, last_of ((v.nodes i).ballots g))
      → history (turned v i next) g (view_at (v.nodes i) g) ≡ with_promise (history v g (view_at (v.nodes i) g)) i b
  history_promised g b free learnt ballots =
      let e : ℕ = view_at (v.nodes i) g in
      synod_is (history (turned v i next) g e) (with_promise (history v g e) i b)
      (votes_same g e (λ c members is. (keeps_now g).last c members (sym (last_now g (Some (b, last_of ((v.nodes i).ballots g))) learnt ballots) ∙ is)))
      (past_promised g b (last_of ((v.nodes i).ballots g)) free learnt ballots) (λ d. refl)

  -- an acceptance, in the history of the view
  accept_bundle : (g : ℕ) (b : Ballot) (members : List BrickId) → is_promised_above ((v.nodes i).ballots g) b ≡ false
      → (history v g (view_at (v.nodes i) g)).proposals b ≡ Some members
      → Accepting 0 1 (history v g (view_at (v.nodes i) g)) i ((v.nodes i).ballots g) b members
  accept_bundle g b members free proposed =
      accepting 0 1 (history v g (view_at (v.nodes i) g)) i ((v.nodes i).ballots g) b members free proposed
      (agrees_by_brick g (view_at (v.nodes i) g)) (keeps_now g)

  -- the history, once the brick has accepted
  history_accepted : (g : ℕ) (b : Ballot) (members : List BrickId) → is_promised_above ((v.nodes i).ballots g) b ≡ false
      → next.learnt g ≡ (v.nodes i).learnt g → next.ballots g ≡ Some (b, Some (b, members))
      → history (turned v i next) g (view_at (v.nodes i) g) ≡ with_acceptance (history v g (view_at (v.nodes i) g)) i b members
  history_accepted g b members free learnt ballots =
      let e : ℕ = view_at (v.nodes i) g in
      let s : Synod (List BrickId) = history v g e in
      synod_is (history (turned v i next) g e) (with_acceptance s i b members)
      (put_each (λ k (r : ℕ → ℕ → Ballot → Option (List BrickId)). (d : Ballot) → r g e d ≡ (with_acceptance s i b members).votes k d) v.votes i row
      (λ d. ap (λ (last : Option (Ballot × List BrickId)). vote_with (v.votes i g e d) last d) (last_now g (Some (b, Some (b, members))) learnt ballots)
      ∙ sym (ap (λ (t : Bool). cond (t && ballot_same d b) (Some members) (v.votes i g e d)) (eq-eqb i i refl)))
      (λ k other d. sym (ap (λ (t : Bool). cond (t && ballot_same d b) (Some members) (v.votes k g e d)) (ne_eqb k i other))))
      (past_promised g b (Some (b, members)) free learnt ballots) (λ d. refl)

  -- what a promise tells, the history says
  pub promise_says : (g : ℕ) (b : Ballot) → is_promised_above ((v.nodes i).ballots g) b ≡ false → next.learnt g ≡ (v.nodes i).learnt g
      → next.ballots g ≡ Some (b, last_of ((v.nodes i).ballots g))
      → SaysPromise (history (turned v i next) g (view_at (v.nodes i) g)) i b (last_of ((v.nodes i).ballots g))
  promise_says g b free learnt ballots =
      subst (λ (s : Synod (List BrickId)). SaysPromise s i b (last_of ((v.nodes i).ballots g))) (sym (history_promised g b free learnt ballots))
      (promise_bundle g b free).says

  -- what was accepted is noted
  pub accepted_says : (g : ℕ) (b : Ballot) (members : List BrickId) → is_promised_above ((v.nodes i).ballots g) b ≡ false
      → (history v g (view_at (v.nodes i) g)).proposals b ≡ Some members → next.learnt g ≡ (v.nodes i).learnt g
      → next.ballots g ≡ Some (b, Some (b, members)) → (turned v i next).votes i g (view_at (v.nodes i) g) b ≡ Some members
  accepted_says g b members free proposed learnt ballots =
      ap (λ (s : Synod (List BrickId)). s.votes i b) (history_accepted g b members free learnt ballots) ∙ (accept_bundle g b members free proposed).voted

  -- where the brick promises
  by_promise : (g : ℕ) (b : Ballot) → is_promised_above ((v.nodes i).ballots g) b ≡ false → next.learnt g ≡ (v.nodes i).learnt g
      → next.ballots g ≡ Some (b, last_of ((v.nodes i).ballots g)) → Turned g (view_at (v.nodes i) g)
  by_promise g b free learnt ballots =
      let e : ℕ = view_at (v.nodes i) g in
      let s : Synod (List BrickId) = history v g e in
      let same : history (turned v i next) g e ≡ with_promise s i b = history_promised g b free learnt ballots in
      let bundle : Promising 0 1 s i ((v.nodes i).ballots g) b = promise_bundle g b free in
      record {
        grows = subst (λ (t : Synod (List BrickId)). Grows s t) (sym same) bundle.grows;
        proposed = λ k d members is. agreed.proposed k g e d members (sym (ap (λ (t : Synod (List BrickId)). t.votes k d) same) ∙ is);
        fits = λ k d members is. agreed.fits k g e d members (sym (ap (λ (t : Synod (List BrickId)). t.votes k d) same) ∙ is);
        here = λ le. subst (λ (t : Synod (List BrickId)). Keeps t i (kept_at next g e)) (sym same)
            (subst (λ (z : Kept (List BrickId)). Keeps (with_promise s i b) i z)
            (sym (kept_now g (Some (b, last_of ((v.nodes i).ballots g))) learnt ballots)) bundle.here);
      }

  -- where the brick accepts a list
  by_acceptance : (g : ℕ) (b : Ballot) (members : List BrickId) → is_promised_above ((v.nodes i).ballots g) b ≡ false
      → (history v g (view_at (v.nodes i) g)).proposals b ≡ Some members → VoteFits layout g (view_at (v.nodes i) g) members
      → next.learnt g ≡ (v.nodes i).learnt g → next.ballots g ≡ Some (b, Some (b, members)) → Turned g (view_at (v.nodes i) g)
  by_acceptance g b members free proposed fits learnt ballots =
      let e : ℕ = view_at (v.nodes i) g in
      let s : Synod (List BrickId) = history v g e in
      let same : history (turned v i next) g e ≡ with_acceptance s i b members = history_accepted g b members free learnt ballots in
      let bundle : Accepting 0 1 s i ((v.nodes i).ballots g) b members = accept_bundle g b members free proposed in
      record {
        grows = subst (λ (t : Synod (List BrickId)). Grows s t) (sym same) bundle.grows;
        proposed = λ k d named is. bundle.agrees.votes k d named (sym (ap (λ (t : Synod (List BrickId)). t.votes k d) same) ∙ is);
        fits = λ k d named is. ⊎_elim
            (λ (new : ((nat_eq k i && ballot_same d b) ≡ true) × (members ≡ named)). subst (λ (z : List BrickId). VoteFits layout g e z) new.1 fits)
            (λ (old : s.votes k d ≡ Some named). agreed.fits k g e d named old)
            (put_value (nat_eq k i && ballot_same d b) members named (s.votes k d) (sym (ap (λ (t : Synod (List BrickId)). t.votes k d) same) ∙ is));
        here = λ le. subst (λ (t : Synod (List BrickId)). Keeps t i (kept_at next g e)) (sym same)
            (subst (λ (z : Kept (List BrickId)). Keeps (with_acceptance s i b members) i z)
            (sym (kept_now g (Some (b, Some (b, members))) learnt ballots)) bundle.here);
      }

  -- where the brick votes
  by_vote : (g : ℕ) (x : VotesAt layout v.packets (v.nodes i) next g) → Turned g (view_at (v.nodes i) g)
  by_vote g x = by x.asks refl
    where
      by : (asks : Option (List BrickId)) → x.asks ≡ asks → Turned g (view_at (v.nodes i) g)
      by None none = by_promise g x.ballot x.free x.learnt (x.ballots ∙ ap (λ (z : Option (List BrickId)). (granting ((v.nodes i).ballots g) x.ballot z).kept) none)
      by (Some members) some =
          by_acceptance g x.ballot members x.free (vote_proposed layout v agreed (v.nodes i) next g x members some) (x.fits members some) x.learnt
          (x.ballots ∙ ap (λ (z : Option (List BrickId)). (granting ((v.nodes i).ballots g) x.ballot z).kept) some)

  -- where the brick learns a view
  by_learning : (g e : ℕ) → LearnsAt layout v.packets (v.nodes i) next g → Turned g e
  by_learning g e x =
      let none : accepted_in next g e ≡ None
      = ap (λ (z : Kept (List BrickId)). accepted_by e (next.learnt g) z) x.ballots ∙ either_way (nat_eq e (view_at next g)) None in
      let votes : (k : ℕ) (b : Ballot) → (turned v i next).votes k g e b ≡ v.votes k g e b
      = votes_same g e (λ c members is. absurd (let never : None ≡ Some (c, members) = sym none ∙ is in cc)) in
      let view : view_at next g ≡ x.view.number.0 = ap (λ (z : View). z.number.0) x.learnt in
      record {
        grows = record {
          votes = λ k b members is. votes k b ∙ is;
          past = put_each (λ k (n : Node). (b : Ballot) → is_past (v.nodes k) g e b ≡ true → is_past n g e b ≡ true) v.nodes i next
              (λ b was. past_rises e ((v.nodes i).learnt g) (next.learnt g) ((v.nodes i).ballots g) (next.ballots g) b (omega (arith, view, x.later)) was)
              (λ k other b was. was);
          proposals = λ b members is. is;
          closed = λ k b members past voted. sym (votes k b) ∙ voted;
        };
        proposed = λ k b members is. agreed.proposed k g e b members (sym (votes k b) ∙ is);
        fits = λ k b members is. agreed.fits k g e b members (sym (votes k b) ∙ is);
        here = λ le.
            let nothing : kept_at next g e ≡ None
            = ap (λ (z : Kept (List BrickId)). kept_by_view e (next.learnt g) z) x.ballots ∙ either_way (nat_eq e (view_at next g)) None in
            let before : kept_at (v.nodes i) g e ≡ None
            = ap (λ (t : Bool). cond t ((v.nodes i).ballots g) None) (ne_eqb e (view_at (v.nodes i) g) (λ same. omega (arith, same, le, view, x.later))) in
            let was : Keeps (history v g e) i None
            = subst (λ (z : Kept (List BrickId)). Keeps (history v g e) i z) before (agreed.keeps i g e (omega (arith, le, view, x.later))) in
            subst (λ (z : Kept (List BrickId)). Keeps (history (turned v i next) g e) i z) (sym nothing)
            (keeps_same (history v g e) (history (turned v i next) g e) i None
            (λ b. ap (λ (n : Node). is_past n g e b) (put_same v.nodes i next)
            ∙ ap (λ (z : Kept (List BrickId)). past_by e (next.learnt g) z b) x.ballots ∙ past_nothing e (next.learnt g) b le ∙ sym (was.past b))
            (votes i) was);
      }

  -- a turn leaves each history so
  turn_leaves : Turn layout v.packets (v.nodes i) next → (g e : ℕ) → Turned g e
  turn_leaves turn g e = ⊎_elim
      (λ (stays : StaysAt (v.nodes i) next g). by_staying g e stays)
      (λ (changes : VotesAt layout v.packets (v.nodes i) next g ⊎ LearnsAt layout v.packets (v.nodes i) next g).
      ⊎_elim
      (λ (x : VotesAt layout v.packets (v.nodes i) next g). voting g e x (nat_eq e (view_at (v.nodes i) g)) refl)
      (λ (x : LearnsAt layout v.packets (v.nodes i) next g). by_learning g e x)
      changes)
      (turn g)
    where
      voting : (g e : ℕ) (x : VotesAt layout v.packets (v.nodes i) next g) (t : Bool) → nat_eq e (view_at (v.nodes i) g) ≡ t → Turned g e
      voting g e x true now = subst (λ (z : ℕ). Turned g z) (sym (eqb-true e (view_at (v.nodes i) g) now)) (by_vote g x)
      voting g e x false isnt = by_elsewhere g e x.learnt isnt

  -- more is known after a turn
  pub turn_extends : Turn layout v.packets (v.nodes i) next → Extends layout v (turned v i next)
  turn_extends turn = record {
    named = λ g e view is. is;
    called = λ j boot seq b is. is;
    sent = λ packet is. is;
    grows = λ g e. (turn_leaves turn g e).grows;
  }

  -- the agreement holds after a turn
  pub turn_agrees : Turn layout v.packets (v.nodes i) next → Agreed layout (turned v i next)
  turn_agrees turn = record {
    proposed = λ k g e b members is. (turn_leaves turn g e).proposed k b members is;
    fits = λ k g e b members is. (turn_leaves turn g e).fits k b members is;
    safe = λ g e b members is. let was = agreed.safe g e b members is in record {
      group = was.group;
      group_is = was.group_is;
      safe = safe_stays (length was.group.members) (quorum_of was.group) (seated was.group (history v g e)) (seated was.group (history (turned v i next) g e))
          b members (seated_grows was.group (history v g e) (history (turned v i next) g e) (turn_leaves turn g e).grows) was.safe;
    };
    keeps = put_each (λ k (n : Node). (g e : ℕ) → view_at n g ≤ e → Keeps (history (turned v i next) g e) k (kept_at n g e)) v.nodes i next
        (λ g e le. (turn_leaves turn g e).here le)
        (λ k other g e le. keeps_same (history v g e) (history (turned v i next) g e) k (kept_at (v.nodes k) g e)
        (λ b. ap (λ (n : Node). is_past n g e b) (put_other v.nodes i next k other))
        (λ b. ap (λ (r : ℕ → ℕ → Ballot → Option (List BrickId)). r g e b) (put_other v.votes i row k other)) (agreed.keeps k g e le));
    learnt = put_each (λ k (n : Node). (g : ℕ) → IsNamed layout v.packets g (n.learnt g).view) v.nodes i next
        (λ g. ⊎_elim
        (λ (stays : StaysAt (v.nodes i) next g). named_by g stays.0)
        (λ (changes : VotesAt layout v.packets (v.nodes i) next g ⊎ LearnsAt layout v.packets (v.nodes i) next g).
        ⊎_elim (λ (x : VotesAt layout v.packets (v.nodes i) next g). named_by g (ap (λ (l : Learnt). l.view) x.learnt))
        (λ (x : LearnsAt layout v.packets (v.nodes i) next g). subst (λ (z : View). IsNamed layout v.packets g z) (sym x.learnt) x.named) changes)
        (turn g))
        (λ k other g. agreed.learnt k g);
    says = λ k packet at. message_stays layout v (turned v i next) (turn_extends turn) packet.from.0 packet.to.0 packet.message (agreed.says k packet at);
  }
    where
      named_by : (g : ℕ) → (next.learnt g).view ≡ ((v.nodes i).learnt g).view → IsNamed layout v.packets g (next.learnt g).view
      named_by g same = subst (λ (w : View). IsNamed layout v.packets g w) (sym same) (agreed.learnt i g)

-- ---- a brick that keeps what it kept of views

-- the world once a brick is this
abbrev pub placed : ViewWorld → ℕ → Node → ViewWorld
placed v i next = record { packets = v.packets; votes = v.votes; nodes = put v.nodes i next }

-- the brick keeps what it kept of views
abbrev pub KeepsViews : Node → Node → Type 0
KeepsViews node next = (next.learnt ≡ node.learnt) × (next.ballots ≡ node.ballots)

-- so each history is the same
pub placed_same : (v : ViewWorld) (i : ℕ) (next : Node) → KeepsViews (v.nodes i) next → (g e : ℕ) → history (placed v i next) g e ≡ history v g e
placed_same v i next keeps g e =
    synod_is (history (placed v i next) g e) (history v g e) (λ k b. refl)
    (put_each (λ k (n : Node). (b : Ballot) → is_past n g e b ≡ is_past (v.nodes k) g e b) v.nodes i next
    (λ b. ap (λ (l : ℕ → Learnt). past_by e (l g) (next.ballots g) b) keeps.0 ∙ ap (λ (z : ℕ → Kept (List BrickId)). past_by e ((v.nodes i).learnt g) (z g) b) keeps.1)
    (λ k other b. refl))
    (λ b. refl)

-- more is known, namely the same
pub placed_extends : (layout : Layout) (v : ViewWorld) (i : ℕ) (next : Node) → KeepsViews (v.nodes i) next → Extends layout v (placed v i next)
placed_extends layout v i next keeps = record {
  named = λ g e view is. is;
  called = λ j boot seq b is. is;
  sent = λ packet is. is;
  grows = λ g e. subst (λ (s : Synod (List BrickId)). Grows (history v g e) s) (sym (placed_same v i next keeps g e))
      (record { votes = λ k b a is. is; past = λ k b is. is; proposals = λ b a is. is; closed = λ k b a past voted. voted });
}

-- the agreement stays
pub placed_agrees : (layout : Layout) (v : ViewWorld) (i : ℕ) (next : Node) → KeepsViews (v.nodes i) next → Agreed layout v → Agreed layout (placed v i next)
placed_agrees layout v i next keeps agreed = record {
  proposed = agreed.proposed;
  fits = agreed.fits;
  safe = λ g e b members is. let was = agreed.safe g e b members is in record {
    group = was.group;
    group_is = was.group_is;
    safe = subst (λ (s : Synod (List BrickId)). IsSafe (length was.group.members) (quorum_of was.group) (seated was.group s) b members)
        (sym (placed_same v i next keeps g e)) was.safe;
  };
  keeps = λ k g e le. subst (λ (s : Synod (List BrickId)). Keeps s k (kept_at (put v.nodes i next k) g e)) (sym (placed_same v i next keeps g e))
      (put_each (λ j (n : Node). view_at n g ≤ e → Keeps (history v g e) j (kept_at n g e)) v.nodes i next
      (λ less. subst (λ (z : Kept (List BrickId)). Keeps (history v g e) i z)
      (sym (ap (λ (l : ℕ → Learnt). kept_by_view e (l g) (next.ballots g)) keeps.0
      ∙ ap (λ (z : ℕ → Kept (List BrickId)). kept_by_view e ((v.nodes i).learnt g) (z g)) keeps.1))
      (agreed.keeps i g e (let same : view_at next g ≡ view_at (v.nodes i) g = ap (λ (l : ℕ → Learnt). (l g).view.number.0) keeps.0 in omega (arith, same, less))))
      (λ j other less. agreed.keeps j g e less) k le);
  learnt = put_each (λ k (n : Node). (g : ℕ) → IsNamed layout v.packets g (n.learnt g).view) v.nodes i next
      (λ g. subst (λ (l : ℕ → Learnt). IsNamed layout v.packets g (l g).view) (sym keeps.0) (agreed.learnt i g)) (λ k other g. agreed.learnt k g);
  says = λ k packet at. message_stays layout v (placed v i next) (placed_extends layout v i next keeps) packet.from.0 packet.to.0 packet.message
      (agreed.says k packet at);
}

-- a brick that keeps what it kept of views has accepted nothing new, so noting it changes nothing
pub turned_placed : (layout : Layout) (v : ViewWorld) (i : ℕ) (next : Node) → Agreed layout v → KeepsViews (v.nodes i) next → turned v i next ≡ placed v i next
turned_placed layout v i next agreed keeps =
    ap (λ (votes : ℕ → ℕ → ℕ → Ballot → Option (List BrickId)). noting votes)
    (fun_ext (λ k. fun_ext (λ g. fun_ext (λ e. fun_ext (λ b.
    votes_same layout v i next agreed g e (λ c members is. last_noted layout v i next agreed g e c members (sym (last g e) ∙ is)) k b)))))
  where
    noting : (ℕ → ℕ → ℕ → Ballot → Option (List BrickId)) → ViewWorld
    noting votes = record { packets = v.packets; votes = votes; nodes = put v.nodes i next }

    last : (g e : ℕ) → accepted_in next g e ≡ accepted_in (v.nodes i) g e
    last g e = ap (λ (l : ℕ → Learnt). accepted_by e (l g) (next.ballots g)) keeps.0
        ∙ ap (λ (z : ℕ → Kept (List BrickId)). accepted_by e ((v.nodes i).learnt g) (z g)) keeps.1

-- ---- packets

-- the world once these packets were sent too
abbrev pub sending_more : ViewWorld → List Packet → ViewWorld
sending_more v new = record { packets = v.packets ++ new; votes = v.votes; nodes = v.nodes }

-- each history goes on
pub sent_grows : (v : ViewWorld) (new : List Packet) (g e : ℕ) → Grows (history v g e) (history (sending_more v new) g e)
sent_grows v new g e = record {
  votes = λ k b a is. is;
  past = λ k b is. is;
  proposals = λ b a is. first_stays (λ packet. accept_in g e b packet.message) v.packets new a is;
  closed = λ k b a past voted. voted;
}

-- so more is known
pub sent_extends : (layout : Layout) (v : ViewWorld) (new : List Packet) → Extends layout v (sending_more v new)
sent_extends layout v new = record {
  named = λ g e view is. name_stays layout v.packets new g e view is;
  called = λ j boot seq b is. first_stays _ v.packets new b is;
  sent = λ packet was. (was.0, get_kept v.packets new was.0 packet was.1);
  grows = λ g e. sent_grows v new g e;
}

-- a list may be proposed under a ballot: it was, or it is safe
abbrev pub MayPropose : Layout → ViewWorld → ℕ → ℕ → Ballot → List BrickId → Type 0
MayPropose layout v g e b members = ((history v g e).proposals b ≡ Some members) ⊎ IsSafeIn layout v g e b members

-- each of these packets that asks to accept a list asks so for one that may be proposed
abbrev pub ProposesSafely : Layout → ViewWorld → List Packet → Type 0
ProposesSafely layout v new =
    (k : ℕ) (packet : Packet) → slice_get new k ≡ Some packet → (g e : ℕ) (b : Ballot) (members : List BrickId)
    → accept_in g e b packet.message ≡ Some members → MayPropose layout v g e b members

-- what is proposed once they were sent was proposed before, or may be
new_proposal : (layout : Layout) (v : ViewWorld) (new : List Packet) → ProposesSafely layout v new → (g e : ℕ) (b : Ballot) (members : List BrickId)
    → (history (sending_more v new) g e).proposals b ≡ Some members → MayPropose layout v g e b members
new_proposal layout v new safely g e b members is = by ((history v g e).proposals b) refl
  where
    tells : Packet → Option (List BrickId)
    tells packet = accept_in g e b packet.message

    by : (z : Option (List BrickId)) → (history v g e).proposals b ≡ z → MayPropose layout v g e b members
    by None none =
        let found = first_found (λ packet. accept_in g e b packet.message) new members
        (sym (first_of_later (λ packet. accept_in g e b packet.message) v.packets new none) ∙ is) in
        safely found.0 found.1 found.2 g e b members found.3
    by (Some other) some =
        inl (some ∙ sym (first_stays (λ packet. accept_in g e b packet.message) v.packets new other some) ∙ is)

-- a safe list stays safe
pub safe_in_stays : (layout : Layout) (v next : ViewWorld) → Extends layout v next → (g e : ℕ) (b : Ballot) (members : List BrickId) → IsSafeIn layout v g e b members
    → IsSafeIn layout next g e b members
safe_in_stays layout v next extends g e b members was =
    let view = name_of_group layout v.packets g e was.group was.group_is in
    record {
      group = was.group;
      group_is = group_by_name layout next.packets g e view.0 (extends.named g e view.0 view.1) ∙ view.2;
      safe = safe_stays (length was.group.members) (quorum_of was.group) (seated was.group (history v g e)) (seated was.group (history next g e))
          b members (seated_grows was.group (history v g e) (history next g e) (extends.grows g e)) was.safe;
    }

-- the agreement stays as packets are sent that say what is so
pub sent_agrees : (layout : Layout) (v : ViewWorld) (new : List Packet) → Agreed layout v → ProposesSafely layout v new
    → ((k : ℕ) (packet : Packet) → slice_get new k ≡ Some packet → PacketSays layout (sending_more v new) packet) → Agreed layout (sending_more v new)
sent_agrees layout v new agreed safely says = record {
  proposed = λ i g e b members is. (sent_grows v new g e).proposals b members (agreed.proposed i g e b members is);
  fits = agreed.fits;
  safe = λ g e b members is. safe_in_stays layout v (sending_more v new) (sent_extends layout v new) g e b members
      (⊎_elim (λ (old : (history v g e).proposals b ≡ Some members). agreed.safe g e b members old)
      (λ (safe : IsSafeIn layout v g e b members). safe) (new_proposal layout v new safely g e b members is));
  keeps = λ i g e le. keeps_same (history v g e) (history (sending_more v new) g e) i (kept_at (v.nodes i) g e) (λ b. refl) (λ b. refl) (agreed.keeps i g e le);
  learnt = λ i g. name_stays layout v.packets new g ((v.nodes i).learnt g).view.number.0 ((v.nodes i).learnt g).view (agreed.learnt i g);
  says = λ k packet at. ⊎_elim
      (λ (old : slice_get v.packets k ≡ Some packet).
      message_stays layout v (sending_more v new) (sent_extends layout v new) packet.from.0 packet.to.0 packet.message (agreed.says k packet old))
      (λ (added : (j : ℕ) × (slice_get new j ≡ Some packet)). says added.0 packet added.1)
      (get_grown v.packets new k packet at);
}
