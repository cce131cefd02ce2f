-- The operation is as it was before it counted.
use Rattle.std.proofs.Common.{◌≡◌, Some, refl, sym, ◌∙◌, ap, rules}
use Rattle.stamp_store.specs.declared.stamp_sources.StampSource.{StampSource}
use Rattle.coord_phase.specs.Operations as phased
use Rattle.coord_phase.specs.Operations.{without_last}
use Rattle.node.specs.declared.operations.Operation.{Operation}
use Rattle.node.specs.Operations.{coordinator_of}
use Rattle.node.specs.States.{state_with}
use Rattle.node.proofs.Counting.{taken_back, there_now, twice_put}
use Rattle.node.proofs.States.{same_states}
use Rattle.node.proofs.Tables.{shown_after}
use Rattle.node.proofs.open_calls.OpenCalls.take_back.Goals as goal

pub returns-in-Some-clause-state : goal.returns-in-Some-clause-state
unfolding state_with
returns-in-Some-clause-state c = λ from message before has parts.
    let seq = c.args.seq in
    let m = before.operations in
    let mid = c.args.self.now.operations in
    let op : Operation = c.in-Some.open.now in
    let after : Operation = c.take_back.new.self in
    let last = c.get_mut.follows.lender after in
    let written = c.get_mut.follows.holds after in
    let now_is : op ≡ has.now = there_now m mid seq has.was has.now has.open_before has.others op (sym c.in-Some.ensures.value) in
    let was : coordinator_of after ≡ coordinator_of has.was =
    ap (λ (o : phased.Operation). o.state) c.take_back.ensures
    ∙ ap (λ (o : Operation). without_last (coordinator_of o)) now_is
    ∙ ap without_last has.now_is ∙ taken_back has.was from message has.counted in
    same_states _ _ (ap (λ (stamps : StampSource). stamps.boot) has.stamps) has.seq_is (ap (λ (stamps : StampSource). stamps.known) has.stamps) refl
    (written.2 ∙ has.count) refl (λ g e. refl) (λ g. refl) (λ g. refl) (λ g e s. refl)
    (λ k. shown_after coordinator_of mid last seq (Some after) (written.3 (search rules)).0 k
    ∙ twice_put m mid seq has.was has.now has.open_before has.others (coordinator_of after) was k) refl refl refl
