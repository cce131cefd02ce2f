-- What a brick does with a reply.
use Rattle.std.proofs.Common.{◌≡◌, ℕ, ◌-◌, Bool, true, false, cond, if◌then◌else◌, nat_eq, List, [], ◌∷◌, Option, Some, None, refl, ◌∙◌, ap, subst, arith}
use Rattle.std.specs.Ordering.{nat_cmp}
use Rattle.std.specs.BTreeMap.{BTreeMap, get, is_at, btree_map_len}
use Rattle.std.proofs.lemmas.Bool.Decides.{nat_tests}
use Rattle.fab_base.specs.declared.identities.BrickId.{BrickId}
use Rattle.messages.specs.declared.calls.Call.{Call}
use Rattle.messages.specs.declared.replies.Reply.{Reply}
use Rattle.fab_base.specs.Layouts.{Layout}
use Rattle.protocol.specs.Coordinators.{Coordinator, Next, Ignores, Waits, Sends, Makes, Ends, counts_at, hearing, on_reply}
use Rattle.protocol.specs.declared.tellings.Answered.{Answered}
use Rattle.protocol.specs.Nodes.{Node, NodeStep, put, carried_out, carried_for, job_reading, replied_at, scrub_of, known_after, fresh_stamp, no_step, with_known}
use Rattle.stripe_code.specs.Codes.{block_code, coding}
use Rattle.node.specs.declared.operations.Operation.{Operation}
use Rattle.node.specs.Operations.{shown_of}
use Rattle.node.specs.Decisions.{or_waits, packets_in, told_in, answers_in, known_by, left_by, left_open, KeepsCall}
use Rattle.node.specs.States.{AreCallsAfter, IsAt}
use Rattle.node.proofs.States.{same_but}

-- to change a function where it has the value already changes nothing
pub put_held : {X : Type 0} (f : ℕ → X) (k : ℕ) (v : X) (i : ℕ) (b : Bool) → f k ≡ v → nat_eq i k ≡ b → f i ≡ cond b v (f i)
put_held f k v i true held e = let same : i ≡ k = grind (arith, nat_tests) in ap f same ∙ held
put_held f k v i false held e = refl

-- an operation that leaves a reply out waits as it was
pub waits_is : (layout : Layout) (me : BrickId) (node : Node) (known : ℕ) (c : Coordinator) (next : Next) → node.calls c.call.seq ≡ Some c
    → carried_out (coding layout) me node known c next ≡ carried_out (coding layout) me node known c (or_waits c next)
waits_is layout me node known c Ignores held =
    ap no_step (same_but (with_known node known) node.boot node.seq known node.busy (put node.calls c.call.seq (Some c)) refl refl refl refl
    (λ k. put_held node.calls c.call.seq (Some c) k (nat_eq k c.call.seq) held refl))
waits_is layout me node known c (Waits d) held = refl
waits_is layout me node known c (Sends d) held = refl
waits_is layout me node known c (Makes d) held = refl
waits_is layout me node known c (Ends answer seen stored) held = refl

-- what a brick without a scrub does with a reply to an open operation that no synchronisation reads by
pub replied_is : (layout : Layout) (me : BrickId) (now : ℕ) (from : BrickId) (node : Node) (call : Call) (reply : Reply) (c : Coordinator)
    → node.calls call.seq ≡ Some c → c.call.seq ≡ call.seq → job_reading node.job c.call.seq ≡ None → node.scrub ≡ None
    → (let known = known_after node.known reply in
    replied_at (coding layout) me now from node call reply (node.calls call.seq)
    ≡ carried_out (coding layout) me node known c
    (or_waits c (on_reply layout.block (block_code layout.block) (fresh_stamp me c.stamp.view now node.boot known) c from call reply)))
replied_is layout me now from node call reply c held seq none quiet =
    let known = known_after node.known reply in
    let next = on_reply layout.block (block_code layout.block) (fresh_stamp me c.stamp.view now node.boot known) c from call reply in
    ap (replied_at (coding layout) me now from node call reply) held
    ∙ (λ i. carried_for (coding layout) me now node known c (hearing c from reply (counts_at layout.block c from.0 call reply)) next (none i) (scrub_of (quiet i) c.call.seq))
    ∙ waits_is layout me node known c next (ap node.calls seq ∙ held)

-- how many operations are open after a step with these answers, where so many were
abbrev pub busy_after : List Answered → ℕ → ℕ
busy_after [] busy = busy
busy_after (answered ∷ answers) busy = busy - 1

-- an operation that decides so is open no more, or goes on
module _ (layout : Layout) (me : BrickId) (node : Node) (known : ℕ) (c : Coordinator) where
  abbrev pub does : Next → NodeStep
  does next = carried_out (coding layout) me node known c (or_waits c next)

  pub does_node : (next : Next) → (does next).node ≡ record node {
    known = known_by known (or_waits c next);
    busy = busy_after (answers_in c.call.seq (or_waits c next)) node.busy;
    calls = put node.calls c.call.seq (left_by (or_waits c next));
  }
  does_node Ignores = refl
  does_node (Waits d) = refl
  does_node (Sends d) = refl
  does_node (Makes d) = refl
  does_node (Ends answer seen stored) = refl

  pub does_send : (next : Next) → (does next).packets ≡ packets_in layout me c (or_waits c next)
  does_send Ignores = refl
  does_send (Waits d) = refl
  does_send (Sends d) = refl
  does_send (Makes d) = refl
  does_send (Ends answer seen stored) = refl

  pub does_tell : (next : Next) → (does next).told ≡ told_in c.call.seq (or_waits c next)
  does_tell Ignores = refl
  does_tell (Waits d) = refl
  does_tell (Sends d) = refl
  does_tell (Makes d) = refl
  does_tell (Ends answer seen stored) = refl

  pub does_answer : (next : Next) → (does next).answers ≡ answers_in c.call.seq (or_waits c next)
  does_answer Ignores = refl
  does_answer (Waits d) = refl
  does_answer (Sends d) = refl
  does_answer (Makes d) = refl
  does_answer (Ends answer seen stored) = refl

  pub does_report : (next : Next) → (does next).reports ≡ []
  does_report Ignores = refl
  does_report (Waits d) = refl
  does_report (Sends d) = refl
  does_report (Makes d) = refl
  does_report (Ends answer seen stored) = refl

-- what is left of a change at a key, and of one after it there
left_at : {X : Type 0} (b : Bool) (w v o : Option X) → (if b then w else cond b v o) ≡ cond b w o
left_at true w v o = refl
left_at false w v o = refl

-- the open operations after a step of one of them
pub calls_left : (answers : List Answered) (m n l : BTreeMap ℕ Operation) (k : ℕ) (after : Operation)
    → ((q : ℕ) → get nat_cmp n q ≡ cond (is_at (nat_cmp k) q) (Some after) (get nat_cmp m q)) → btree_map_len n ≡ btree_map_len m
    → AreCallsAfter answers k n l
    → ((q : ℕ) → get nat_cmp l q ≡ cond (is_at (nat_cmp k) q) (left_open answers after) (get nat_cmp m q))
    × (btree_map_len l ≡ busy_after answers (btree_map_len m))
calls_left [] m n l k after h size is = (λ q. ap (λ (t : BTreeMap ℕ Operation). get nat_cmp t q) is ∙ h q, ap btree_map_len is ∙ size)
calls_left (answered ∷ answers) m n l k after h size is =
    let fewer = is.count in (
      λ q. is.calls q ∙ ap (λ (o : Option Operation). if is_at (nat_cmp k) q then None else o) (h q)
          ∙ left_at (is_at (nat_cmp k) q) None (Some after) (get nat_cmp m q),
      omega (arith, fewer, size),
    )

-- an operation that is left open is that of its call
pub at_if_open : (layout : Layout) (seq : ℕ) (before after op : Operation) (answers : List Answered) → IsAt layout seq before
    → KeepsCall answers before after → (shown_of after).block ≡ (shown_of before).block → left_open answers after ≡ Some op → IsAt layout seq op
at_if_open layout seq before after op [] at keeps block e =
    let same : after ≡ op = cc in
    subst (λ (o : Operation). IsAt layout seq o) same (record { seq = keeps ∙ at.seq; is_operation = block ∙ at.is_operation })
at_if_open layout seq before after op (answered ∷ answers) at keeps block e = cc
