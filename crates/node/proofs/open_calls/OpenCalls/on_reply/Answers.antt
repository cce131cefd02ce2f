-- Which of the machine's cases a reply is.
use Rattle.std.proofs.Common.{◌≡◌, ℕ, cond, List, Option, Some, refl, sym, ◌∙◌, ap, subst, rules}
use Rattle.std.specs.Option.{option_map}
use Rattle.std.specs.Ordering.{nat_cmp}
use Rattle.std.specs.BTreeMap.{get, is_at, btree_map_len}
use Rattle.fab_base.specs.declared.stamps.Stamp.{Stamp}
use Rattle.messages.specs.declared.packets.Message.{Message}
use Rattle.messages.specs.declared.packets.Message.TheVariants as message
use Rattle.protocol.specs.Coordinators as machine
use Rattle.protocol.specs.Coordinators.{Coordinator}
use Rattle.protocol.specs.Nodes.{Node, put, known_after, fresh_stamp}
use Rattle.stripe_code.specs.Codes.{block_code}
use Rattle.coord_phase.specs.Decisions.{decided_on}
use Rattle.protocol.specs.declared.tellings.Answered.{Answered}
use Rattle.node.specs.declared.operations.Operation.{Operation}
use Rattle.node.specs.Operations.{shown_of, coordinator_of}
use Rattle.node.specs.Outcomes.{Outcome}
use Rattle.node.specs.Decisions.{or_waits, known_by, left_by, left_open, CarriesOut}
use Rattle.node.specs.States.{state_with, IsAt}
use Rattle.node.proofs.States.{steps_as, same_states, on_err}
use Rattle.node.proofs.OpenTables.{same_but_one, same_left, same_put}
use Rattle.node.proofs.Tables.{shown_after}
use Rattle.node.proofs.Replied.{replied_is, busy_after, does_node, does_send, does_tell, does_answer, does_report, calls_left, at_if_open}
use Rattle.node.proofs.open_calls.OpenCalls.on_reply.Goals as goal
use Rattle.node.proofs.open_calls.OpenCalls.on_reply.Goals.{After-close_answered}

pub returns-in_err-outs-clause-err : goal.returns-in_err-outs-clause-err
returns-in_err-outs-clause-err c =
    let written = c.get_mut.follows.holds c.on_reply.new.self in
    on_err _ (same_but_one c.args.self.now _ c.args.call.seq (Some c.on_reply.new.self) (written.3 (search rules)).0 c.in-Some.open.now c.on_reply.new.self
    refl (sym c.in-Some.ensures.value) c.in_err-outs.ensures.same refl refl written.2)

pub returns-in_err-outs-clause-same : goal.returns-in_err-outs-clause-same
returns-in_err-outs-clause-same c = λ layout.
    same_put c.args.self.now _ c.args.call.seq (Some c.on_reply.new.self) ((c.get_mut.follows.holds c.on_reply.new.self).3 (search rules)).0 layout
    c.on_reply.new.self refl refl refl
    (λ of. let was = of c.args.call.seq c.in-Some.open.now (sym c.in-Some.ensures.value) in record {
      seq = ap (λ (k : Coordinator). k.call.seq) c.in_err-outs.ensures.same ∙ was.seq;
      is_operation = c.in_err-outs.ensures.block ∙ was.is_operation;
    })

-- the operations that are open then
left_so : (c : After-close_answered)
    → ((q : ℕ) → get nat_cmp c.close_answered.new.values q
    ≡ cond (is_at (nat_cmp c.args.call.seq) q) (left_open c.in_ok-outs.outs.answers c.on_reply.new.self) (get nat_cmp c.args.self.now.operations q))
    × (btree_map_len c.close_answered.new.values ≡ busy_after c.in_ok-outs.outs.answers (btree_map_len c.args.self.now.operations))
left_so c =
    let now = c.on_reply.new.self in
    let held = c.get_mut.follows.holds now in
    calls_left c.in_ok-outs.outs.answers c.args.self.now.operations (c.get_mut.follows.lender now) c.close_answered.new.values c.args.call.seq now
    (held.3 (search rules)).0 held.2 c.close_answered.ensures.calls

pub returns : goal.returns
unfolding state_with
returns c =
    record {
      step = λ layout of parts.
          let me = c.args.self.now.me in
          let from = c.args.packet.now.from in
          let call = c.args.call in
          let reply = c.args.reply.now in
          let before : Node = state_with parts c.args.self.now in
          let m = c.args.self.now.operations in
          let left_calls = c.close_answered.new.values in
          let op : Operation = c.in-Some.open.now in
          let after : Operation = c.on_reply.new.self in
          let outs : Outcome = c.in_ok-outs.outs in
          let k : Coordinator = coordinator_of op in
          let held : get nat_cmp m call.seq ≡ Some op = sym c.in-Some.ensures.value in
          let at : IsAt layout call.seq op = of call.seq op held in
          let known = known_after before.known reply in
          let fresh = fresh_stamp me k.stamp.view c.args.now before.boot known in
          let new : c.fresh_stamp-fresh.result ≡ fresh =
          c.fresh_stamp-fresh.ensures.stamp
          ∙ (λ i. fresh_stamp me (c.stamp_view.ensures i) c.args.now (c.after_reply-stamps.ensures.boot i) (c.after_reply-stamps.ensures.known i)) in
          let next = machine.on_reply layout.block (block_code layout.block) fresh k from call reply in
          let decided : decided_on c.fresh_stamp-fresh.result (shown_of op) from c.args.packet.now.message ≡ next =
          ap (λ (m : Message). decided_on c.fresh_stamp-fresh.result (shown_of op) from m) c.requires.reply
          ∙ ap (λ (f : Option Stamp). decided_on f (shown_of op) from (message.Reply call reply)) new
          ∙ ap (λ (b : ℕ). machine.on_reply b (block_code b) fresh k from call reply) at.is_operation in
          let carried : CarriesOut layout op after c.after_reply-stamps.result.known c.on_reply.new.stamps.known (or_waits k next) outs =
          subst (λ (n : machine.Next). CarriesOut layout op after c.after_reply-stamps.result.known c.on_reply.new.stamps.known (or_waits k n) outs)
          decided (c.in_ok-outs.ensures.step layout at.is_operation) in
          let left = left_so (goal.at.returns c).After-close_answered in
          let f = λ (q : ℕ). option_map coordinator_of (get nat_cmp m q) in
          steps_as me _ _ _ outs
          (replied_is layout me c.args.now from before call reply k (ap (option_map coordinator_of) held) at.seq refl refl)
          (record {
            packets = carried.packets me ∙ sym (does_send layout me before known k next);
            told = carried.told ∙ sym (does_tell layout me before known k next);
            answers = carried.answers ∙ sym (does_answer layout me before known k next);
            reports = carried.reports ∙ sym (does_report layout me before known k next);
            state_is = same_states _ _
                (c.on_reply.ensures.boot ∙ c.after_reply-stamps.ensures.boot)
                refl
                (carried.knows
                ∙ ap (λ (t : ℕ). known_by t (or_waits k next)) c.after_reply-stamps.ensures.known)
                refl
                (left.1 ∙ ap (λ (answers : List Answered). busy_after answers before.busy) carried.answers)
                refl (λ g e. refl) (λ g. refl) (λ g. refl) (λ g e s. refl)
                (λ q. shown_after coordinator_of m left_calls call.seq (left_open outs.answers after) left.0 q
                ∙ ap (λ (o : Option Coordinator). put f call.seq o q) (sym carried.left)
                ∙ ap (λ (s : ℕ). put f s (left_by (or_waits k next)) q) (sym at.seq)) refl refl refl
                ∙ sym (does_node layout me before known k next);
          });
      few = c.in_ok-outs.ensures.few;
      err = tt;
      same = λ layout.
          same_left c.args.self.now _ c.args.call.seq (left_open c.in_ok-outs.outs.answers c.on_reply.new.self)
          (left_so (goal.at.returns c).After-close_answered).0 layout refl (c.on_reply.ensures.boot ∙ c.after_reply-stamps.ensures.boot)
          (λ of operation is.
          let was = of c.args.call.seq c.in-Some.open.now (sym c.in-Some.ensures.value) in
          let carried = c.in_ok-outs.ensures.step layout was.is_operation in
          at_if_open layout c.args.call.seq c.in-Some.open.now c.on_reply.new.self operation c.in_ok-outs.outs.answers was carried.keeps carried.block is);
    }
