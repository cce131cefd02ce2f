-- No operation is open.
use Rattle.std.proofs.Common.{refl, ap}
use Rattle.std.specs.Option.{option_map}
use Rattle.std.specs.Map.{lookup}
use Rattle.std.specs.BTreeMap.{is_at}
use Rattle.std.specs.Ordering.{nat_cmp}
use Rattle.stamp_store.specs.declared.stamp_sources.StampSource.{StampSource}
use Rattle.node.specs.Operations.{coordinator_of}
use Rattle.node.specs.States.{state_with}
use Rattle.node.proofs.States.{same_states}
use Rattle.node.proofs.open_calls.OpenCalls.new.Goals as goal

pub returns-clause-state : goal.returns-clause-state
unfolding state_with
returns-clause-state c =
    λ parts. same_states _ _ (ap (λ (s : StampSource). s.boot) c.new-stamps.ensures) refl (ap (λ (s : StampSource). s.known) c.new-stamps.ensures) refl
    c.new-operations.ensures.len refl (λ g e. refl) (λ g. refl) (λ g. refl) (λ g e s. refl)
    (λ k. ap (λ es. option_map coordinator_of (lookup (is_at (nat_cmp k)) es)) c.new-operations.ensures.empty) refl refl refl
