-- What the open operations send in the order of their numbers is what the machine's calls send.
use Rattle.std.proofs.Common.{◌≡◌, ℕ, [], ◌++◌, Some, length, sym, ◌∙◌, ap, arith}
use Rattle.std.specs.Option.{option_map}
use Rattle.std.specs.List.{flat_map, AllByRecursion}
use Rattle.std.specs.Map.Iter.{deref}
use Rattle.std.specs.BTreeMap.{get, values}
use Rattle.std.specs.Ordering.{nat_cmp}
use Rattle.std.proofs.lemmas.List.{append-nil}
use Rattle.std.proofs.lemmas.Map.Iter.{rest_all}
use Rattle.protocol.specs.Nodes.{resent}
use Rattle.stripe_code.specs.Codes.{coding}
use Rattle.coord_phase.specs.Messages.{packets_from}
use Rattle.node.specs.declared.operations.Operation.{Operation}
use Rattle.node.specs.Operations.{coordinator_of, IsOperationOf}
use Rattle.node.specs.States.{state_with}
use Rattle.node.proofs.Ticks.{IsWithin, values_by_key, all_values}
use Rattle.node.proofs.Resending.{sends_again, all_send_again, resent_by_key, resent_of}
use Rattle.node.proofs.open_calls.OpenCalls.on_tick.Goals as goal

pub loop-operation-init : goal.loop-operation-init
loop-operation-init c =
    let sends = λ (op : Operation). sends_again op in
    let left : c.into_iter-operation-iterator.result ≡ values c.args.self.now.operations = c.into_iter-operation-iterator.ensures.into_iter_gives
    ∙ c.values-operation-items.ensures.rest in
    let same = ap length c.into_iter-operation-iterator.ensures.into_iter_gives in
    record {
      sends = ap (λ front. front ++ flat_map sends c.into_iter-operation-iterator.result) c.new-messages.ensures.items ∙ ap (flat_map sends) left;
      few = omega (arith, c.args.self.now.few, c.values-operation-items.ensures.len);
    }

pub returns-clause-packets : goal.returns-clause-packets
unfolding state_with
returns-clause-packets c = λ layout parts calls_of.
    let node = c.args.self.now in
    let sends = λ (op : Operation). sends_again op in
    let calls = λ (k : ℕ). option_map coordinator_of (get nat_cmp node.operations k) in
    let within : IsWithin node.operations node.seq = record { ordered = c.values-operation-items.ensures.ordered; none = node.from_one; fresh = node.fresh } in
    let none : c.loop-operation.operation-iterator ≡ [] =
    rest_all (deref {X = Operation}) c.loop-operation.operation-iterator c.next.new.self c.next.result c.in-None.is c.next.ensures.steps in
    let each : AllByRecursion (λ (op : Operation). IsOperationOf layout op) (values node.operations) =
    all_values (λ (op : Operation). IsOperationOf layout op) node.operations node.seq within (λ k op is. (calls_of k op is).is_operation) in
    ap (packets_from node.me) (sym (append-nil c.loop-operation.messages.items)
    ∙ ap (λ left. c.loop-operation.messages.items ++ flat_map sends left) (sym none)
    ∙ c.loop-operation.invariant.sends)
    ∙ all_send_again layout node.me (values node.operations) each
    ∙ values_by_key (λ (op : Operation). resent (coding layout) node.me (Some (coordinator_of op))) (λ k. resent (coding layout) node.me (calls k))
    node.operations node.seq within
    (λ k. resent_of (coding layout) node.me (get nat_cmp node.operations k))
    ∙ sym (resent_by_key (coding layout) node.me calls node.seq)
