-- The new operation is the machine's, and its number was free.
use Rattle.std.proofs.Common.{◌≡◌, ◌+◌, Some, length, refl, sym, ◌∙◌, ap, rules}
use Rattle.std.specs.Option.{option_map}
use Rattle.std.specs.Ordering.{nat_cmp}
use Rattle.std.specs.BTreeMap.{get}
use Rattle.fab_base.specs.declared.identities.CallId.{CallId}
use Rattle.fab_base.specs.declared.stamps.Stamp.{Stamp}
use Rattle.protocol.specs.Coordinators.{Coordinator}
use Rattle.protocol.specs.Nodes.{put, new_stamp, phase_packets, coordinator_in}
use Rattle.stripe_code.specs.Codes.{coding}
use Rattle.coord_phase.specs.Operations as phased
use Rattle.coord_phase.specs.Operations.{group_in_view, first_op}
use Rattle.node.specs.declared.operations.Operation.{Operation}
use Rattle.node.specs.Operations.{coordinator_of}
use Rattle.node.specs.States.{state_with, IsAt}
use Rattle.node.proofs.States.{same_states, on_err}
use Rattle.node.proofs.OpenTables.{same_put, same_seen}
use Rattle.node.proofs.Tables.{shown_after, same_calls, each_same}
use Rattle.node.proofs.Sent.{made_is}
use Rattle.node.proofs.open_calls.OpenCalls.begin.Goals as goal

pub returns-in_err-keep_open-in-Ok-clause-err : goal.returns-in_err-keep_open-in-Ok-clause-err
returns-in_err-keep_open-in-Ok-clause-err c =
    let entries = c.in_err-keep_open-in-Ok.ensures.err in
    on_err _ (same_seen c.args.self.now _ refl refl (ap length entries)
    (λ k. ap (option_map coordinator_of) (same_calls c.args.self.now.operations c.keep_open.new.values entries k)))

pub returns-in_err-keep_open-in-Ok-clause-same : goal.returns-in_err-keep_open-in-Ok-clause-same
returns-in_err-keep_open-in-Ok-clause-same c = record {
  me = refl;
  boot = refl;
  of = λ of.
      each_same (λ k (operation : Operation). IsAt c.args.layout.now k operation) c.args.self.now.operations c.keep_open.new.values c.in_err-keep_open-in-Ok.ensures.err of;
}

pub returns-in_ok-keep_open-in-Ok-clause-begun : goal.returns-in_ok-keep_open-in-Ok-clause-begun
unfolding state_with
returns-in_ok-keep_open-in-Ok-clause-begun c = λ parts.
    let layout = c.args.layout.now in
    let view = c.args.view in
    let me = c.args.self.now.me in
    let before = state_with parts c.args.self.now in
    let m = c.args.self.now.operations in
    let n = c.keep_open.new.values in
    let seq = c.args.self.now.seq + 1 in
    let operation : Operation = c.in-Ok.operation in
    let stamp : c.in-Some.stamp ≡ new_stamp me view.number c.args.now before.boot before.known =
    made_is me view.number c.args.now before.boot before.known c.in-Some.stamp c.requires.known (sym c.fresh_stamp.ensures.stamp ∙ c.in-Some.is) in
    let call : CallId = record { boot = c.args.self.now.stamps.boot; seq = seq } in
    let same : coordinator_of operation
    ≡ coordinator_in (group_in_view layout view.members c.args.ask.now.group.0) view me c.args.now before c.args.ask.now =
    ap (λ (op : phased.Operation). op.state) c.in-Ok.ensures.operation
    ∙ (λ i. (first_op layout view call c.args.ask.now (stamp i)).state) in
    record {
      packets = c.in-Ok.ensures.sends me ∙ ap (phase_packets (coding layout) me) same;
      seq = refl;
      state_is = same_states _ _ refl refl (ap (λ (t : Stamp). t.time) stamp) refl
          c.in_ok-keep_open-in-Ok.ensures.opened.count refl (λ g e. refl) (λ g. refl) (λ g. refl) (λ g e s. refl)
          (λ k. shown_after coordinator_of m n seq (Some operation) c.in_ok-keep_open-in-Ok.ensures.opened.calls k
          ∙ ap (λ (o : Coordinator). put (λ j. option_map coordinator_of (get nat_cmp m j)) seq (Some o) k) same) refl refl refl;
    }

pub returns-in_ok-keep_open-in-Ok-clause-same : goal.returns-in_ok-keep_open-in-Ok-clause-same
returns-in_ok-keep_open-in-Ok-clause-same c =
    let operation = c.in-Ok.ensures.operation in
    same_put c.args.self.now _ (c.args.self.now.seq + 1) (Some c.in-Ok.operation) c.in_ok-keep_open-in-Ok.ensures.opened.calls c.args.layout.now
    c.in-Ok.operation refl refl refl
    (λ of. record {
      seq = ap (λ (op : phased.Operation). op.state.call.seq) operation;
      is_operation = ap (λ (op : phased.Operation). op.block) operation;
    })

pub returns-in-Err : goal.returns-in-Err
returns-in-Err c = search rules
