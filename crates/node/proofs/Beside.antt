-- What a brick does is the same where it has a synchronisation under way beside, whose read has another call.
use Rattle.std.proofs.Common.{◌≡◌, ℕ, ◌+◌, Bool, true, false, cond, if◌then◌else◌, nat_eq, List, [], ◌++◌, Option, Some, None, refl, sym, ◌∙◌, ap, subst, arith}
use Rattle.std.specs.Option.{option_map}
use Rattle.std.proofs.lemmas.Bool.Decides.{nat_tests}
use Rattle.std.proofs.lemmas.List.{append-nil, append_assoc}
use Rattle.fab_base.specs.declared.asks.Ask.{Ask}
use Rattle.fab_base.specs.declared.identities.BrickId.{BrickId}
use Rattle.fab_base.specs.declared.identities.GroupId.{GroupId}
use Rattle.fab_base.specs.declared.member_lists.View.{View}
use Rattle.fab_base.specs.Layouts.{Group, Layout}
use Rattle.messages.specs.declared.calls.Call.{Call}
use Rattle.messages.specs.declared.packets.Packet.{Packet}
use Rattle.messages.specs.declared.replies.Reply.{Reply}
use Rattle.quorum.specs.Memberships.{is_membership}
use Rattle.protocol.specs.Settings.{Setting}
use Rattle.protocol.specs.Coordinators.{Coordinator, Next, Ignores, Waits, Sends, Makes, Ends, counts_at, hearing, on_reply}
use Rattle.protocol.specs.declared.tellings.ViewAnswer.TheVariants as answer
use Rattle.protocol.specs.Proposals.{Proposal, Voting, Ignored, Waited, Asks, Ended, ballot_packets, voted}
use Rattle.protocol.specs.declared.tellings.Report.{Report}
use Rattle.protocol.specs.Nodes.{Node, NodeStep, put, ballot_resent, began_in, calls_but_read, calls_but_scrub, carried_ballot, carried_for, carried_out, coordinator_in, fresh_stamp, job_call, job_reading, known_after, new_proposal, proposed_in, proposing, refusal_of, replied_at, replied_ballot, reporting, resent, resent_up_to, scrub_call, scrub_of, sending, ticked, with_call, with_known}
use Rattle.stripe_code.specs.Codes.{coding}
use Rattle.node.specs.Jobs.{Reading, calls_with, with_reading}

-- numbers are the same either way round
pub eq_turned : (a b : ℕ) → nat_eq a b ≡ nat_eq b a
eq_turned a b = grind (arith, nat_tests)

pub eq_same : (a : ℕ) → nat_eq a a ≡ true
eq_same a = grind (arith, nat_tests)

-- the read, if there is one, has another call than that of this number
abbrev pub ApartFrom : Option Reading → ℕ → Type 0
ApartFrom None seq = Unit {0}
ApartFrom (Some r) seq = nat_eq r.job.seq seq ≡ false

-- changes at two keys may be made in either order
two_puts : {X : Type 0} (f : ℕ → X) (j k : ℕ) (w v : X) (q : ℕ) (at_k at_j : Bool) → nat_eq k j ≡ false → nat_eq q k ≡ at_k → nat_eq q j ≡ at_j
    → cond at_k v (cond at_j w (f q)) ≡ cond at_j w (cond at_k v (f q))
two_puts f j k w v q true true apart e d = absurd (let never : nat_eq k j ≡ true = grind (arith, nat_tests) in let both : true ≡ false = sym never ∙ apart in cc)
two_puts f j k w v q true false apart e d = refl
two_puts f j k w v q false true apart e d = refl
two_puts f j k w v q false false apart e d = refl

pub puts_apart : {X : Type 0} (f : ℕ → X) (j k : ℕ) (w v : X) → nat_eq j k ≡ false → put (put f j w) k v ≡ put (put f k v) j w
puts_apart f j k w v apart = λ i q. two_puts f j k w v q (nat_eq q k) (nat_eq q j) (eq_turned k j ∙ apart) refl refl i

-- the last change at a key is what is left
put_at : {X : Type 0} (at : Bool) (w v o : X) → cond at v (cond at w o) ≡ cond at v o
put_at true w v o = refl
put_at false w v o = refl

pub put_twice : {X : Type 0} (f : ℕ → X) (k : ℕ) (w v : X) → put (put f k w) k v ≡ put f k v
put_twice f k w v = λ i q. put_at (nat_eq q k) w v (f q) i

-- nothing changes where the value is put that is there
put_there : {X : Type 0} (f : ℕ → X) (k : ℕ) (v : X) (q : ℕ) (at : Bool) → f k ≡ v → nat_eq q k ≡ at → cond at v (f q) ≡ f q
put_there f k v q true held e = let same : q ≡ k = grind (arith, nat_tests) in sym held ∙ ap f (sym same)
put_there f k v q false held e = refl

pub put_same : {X : Type 0} (f : ℕ → X) (k : ℕ) (v : X) → f k ≡ v → put f k v ≡ f
put_same f k v held = λ i q. put_there f k v q (nat_eq q k) held refl i

-- another call has the same operation
pub calls_apart : (r : Option Reading) (f : ℕ → Option Coordinator) (seq : ℕ) → ApartFrom r seq → calls_with r f seq ≡ f seq
calls_apart None f seq apart = refl
calls_apart (Some r) f seq apart = ap (λ (b : Bool). cond b (Some r.read) (f seq)) (eq_turned seq r.job.seq ∙ apart)

-- and may be changed before or after
pub calls_put : (r : Option Reading) (f : ℕ → Option Coordinator) (seq : ℕ) (v : Option Coordinator) → ApartFrom r seq
    → put (calls_with r f) seq v ≡ calls_with r (put f seq v)
calls_put None f seq v apart = refl
calls_put (Some r) f seq v apart = puts_apart f r.job.seq seq (Some r.read) v apart

-- the same step of a brick with this synchronisation
abbrev pub beside : Option Reading → NodeStep → NodeStep
beside r step = record step { node = with_reading r step.node }

-- no read of it has the call
pub none_reads : (r : Option Reading) (seq : ℕ) → ApartFrom r seq → job_reading (option_map (λ (x : Reading). x.job) r) seq ≡ None
none_reads None seq apart = refl
none_reads (Some r) seq apart = ap (λ (b : Bool). if b then Some r.job else None) apart

-- why an operation does not begin
pub refusal_beside : (layout : Layout) (r : Option Reading) (node : Node) (ask : Ask) → refusal_of layout (with_reading r node) ask ≡ refusal_of layout node ask
unfolding refusal_of
refusal_beside layout r node ask = refl

module _ (layout : Layout) (me : BrickId) (r : Option Reading) where
  -- the brick with an operation changed
  pub call_beside : (node : Node) (known busy seq : ℕ) (v : Option Coordinator) → ApartFrom r seq
      → with_call (with_reading r node) known busy seq v ≡ with_reading r (with_call node known busy seq v)
  call_beside node known busy seq v apart =
      ap (λ (calls : ℕ → Option Coordinator). record node { known = known; busy = busy; calls = calls; job = option_map (λ (x : Reading). x.job) r })
      (calls_put r node.calls seq v apart)

  -- what it does with what a coordinator decided
  carried_beside : (node : Node) (known : ℕ) (c : Coordinator) (next : Next) → ApartFrom r c.call.seq
      → carried_out (coding layout) me (with_reading r node) known c next ≡ beside r (carried_out (coding layout) me node known c next)
  carried_beside node known c Ignores apart = refl
  carried_beside node known c (Waits d) apart =
      ap (λ (n : Node). record (carried_out (coding layout) me node known c (Waits d)) { node = n }) (call_beside node known node.busy c.call.seq (Some d) apart)
  carried_beside node known c (Sends d) apart =
      ap (λ (n : Node). record (carried_out (coding layout) me node known c (Sends d)) { node = n }) (call_beside node _ node.busy c.call.seq (Some d) apart)
  carried_beside node known c (Makes d) apart =
      ap (λ (n : Node). record (carried_out (coding layout) me node known c (Makes d)) { node = n }) (call_beside node known node.busy c.call.seq (Some d) apart)
  carried_beside node known c (Ends answer seen stored) apart =
      ap (λ (n : Node). record (carried_out (coding layout) me node known c (Ends answer seen stored)) { node = n })
      (call_beside node known _ c.call.seq None apart)

  -- and with what its proposal decided
  ballot_beside : (node : Node) (p : Proposal) (decided : Voting)
      → carried_ballot layout me (with_reading r node) p decided ≡ beside r (carried_ballot layout me node p decided)
  ballot_beside node p Ignored = refl
  ballot_beside node p (Waited q) = refl
  ballot_beside node p (Asks q) = refl
  ballot_beside node p (Ended call ended) = refl

  heard_beside : (from : BrickId) (node : Node) (call : Call) (reply : Reply) (p : Option Proposal)
      → replied_ballot layout me from (with_reading r node) call reply p ≡ beside r (replied_ballot layout me from node call reply p)
  heard_beside from node call reply None = refl
  heard_beside from node call reply (Some p) = ballot_beside node p (voted layout.bricks p from call reply)

  -- what it does with a reply to another call
  pub replied_beside : (now : ℕ) (from : BrickId) (node : Node) (call : Call) (reply : Reply) (o : Option Coordinator) → node.job ≡ None → node.scrub ≡ None
      → ApartFrom r call.seq → ((c : Coordinator) → o ≡ Some c → c.call.seq ≡ call.seq)
      → replied_at (coding layout) me now from (with_reading r node) call reply o ≡ beside r (replied_at (coding layout) me now from node call reply o)
  replied_beside now from node call reply None idle quiet apart at =
      heard_beside from (with_known node (known_after node.known reply)) call reply node.proposal
  replied_beside now from node call reply (Some c) idle quiet apart at =
      let known = known_after node.known reply in
      let heard = hearing c from reply (counts_at layout.block c from.0 call reply) in
      let next = on_reply layout.block (coding layout).code (fresh_stamp me c.stamp.view now node.boot known) c from call reply in
      let apart_here = subst (ApartFrom r) (sym (at c refl)) apart in
      (λ i. carried_for (coding layout) me now (with_reading r node) known c heard next (none_reads r c.call.seq apart_here i) (scrub_of (quiet i) c.call.seq))
      ∙ carried_beside node known c next apart_here
      ∙ (λ i. beside r (carried_for (coding layout) me now node known c heard next (job_reading (sym idle i) c.call.seq) (scrub_of (sym quiet i) c.call.seq)))

  -- how it begins an operation
  pub began_beside : (now : ℕ) (node : Node) (ask : Ask) (group : Group) (view : View) → ApartFrom r (node.seq + 1)
      → began_in (coding layout) me (with_reading r node) (coordinator_in group view me now (with_reading r node) ask)
      ≡ beside r (began_in (coding layout) me node (coordinator_in group view me now node ask))
  began_beside now node ask group view apart =
      let c = coordinator_in group view me now node ask in
      ap (λ (calls : ℕ → Option Coordinator). record (began_in (coding layout) me node c) {
        node = record node { seq = c.call.seq; known = c.stamp.time; busy = node.busy + 1; calls = calls; job = option_map (λ (x : Reading). x.job) r };
      }) (calls_put r node.calls (node.seq + 1) (Some c) apart)

  -- how it begins a proposal
  pub proposed_beside : (node : Node) (group : GroupId) (members : List BrickId) (kept : Group)
      → proposed_in (coding layout) me (with_reading r node) group members (Some kept)
      ≡ beside r (proposed_in (coding layout) me node group members (Some kept))
  proposed_beside node group members kept = either (is_membership kept.m layout.bricks members)
    where
      begins : Node → NodeStep
      begins n = (let p = new_proposal me n kept.m group members in sending (proposing n p) (ballot_packets me p))

      ends : Node → NodeStep
      ends n = reporting n [] (Report.View group None answer.BadMembers)

      either : (b : Bool) → cond b (begins (with_reading r node)) (ends (with_reading r node)) ≡ beside r (cond b (begins node) (ends node))
      either true = refl
      either false = refl

-- what it sends at a tick: last of all the present phase of the read again
pub ticked_beside : (setting : Setting) (me : BrickId) (r : Reading) (node : Node) → node.job ≡ None → node.scrub ≡ None → node.calls r.job.seq ≡ None
    → ticked setting me (with_reading (Some r) node) ≡ ticked setting me node ++ resent setting me (Some r.read)
unfolding ticked
ticked_beside setting me r node idle quiet free =
    let others = resent_up_to setting me node.calls node.seq in
    let ballots = ballot_resent me node.proposal in
    let last = resent setting me (Some r.read) in
    let all = put node.calls r.job.seq (Some r.read) in
    let calls_are : put all r.job.seq None ≡ node.calls = put_twice node.calls r.job.seq (Some r.read) None ∙ put_same node.calls r.job.seq None free in
    let read_is : all r.job.seq ≡ Some r.read = ap (λ (b : Bool). cond b (Some r.read) (node.calls r.job.seq)) (eq_same r.job.seq) in
    let alone : ticked setting me node ≡ others ++ (ballots ++ []) =
    (λ i. resent_up_to setting me (calls_but_scrub (calls_but_read node.calls (idle i)) (quiet i)) node.seq
    ++ (ballots ++ (resent setting me (job_call node.calls (idle i)) ++ resent setting me (scrub_call node.calls (quiet i))))) in
    (λ i. resent_up_to setting me (calls_but_scrub (put all r.job.seq None) (quiet i)) node.seq
    ++ (ballots ++ (resent setting me (all r.job.seq) ++ resent setting me (scrub_call all (quiet i)))))
    ∙ (λ i. resent_up_to setting me (calls_are i) node.seq ++ (ballots ++ (resent setting me (read_is i) ++ [])))
    ∙ ap (λ (b : List Packet). others ++ (ballots ++ b)) (append-nil last)
    ∙ sym (append_assoc others ballots last)
    ∙ ap (λ (b : List Packet). (others ++ b) ++ last) (sym (append-nil ballots))
    ∙ ap (λ (b : List Packet). b ++ last) (sym alone)
