-- The members are few and enough, as it says that they make a quorum.
use Rattle.std.proofs.Common.{◌≤◌, ℕ, length, refl, sym, subst, arith}
use Rattle.fab_base.specs.Layouts.{Group}
use Rattle.quorum.specs.Quorums.{q_of}
use Rattle.node.proofs.NamedQuorums.{named_few}
use Rattle.node.proofs.tasks.Tasks.scrub_refusal.Goals as goal

pub returns-else-is_spent-clause-few : goal.returns-else-is_spent-clause-few
returns-else-is_spent-clause-few c = λ none.
    let stripes = c.args.kept.now.stripes in
    let group : Group = record { members = c.args.members.now; m = c.m.result; stripes = stripes } in
    let few : length c.args.named.now ≤ length c.args.members.now =
    named_few group c.args.named.now (sym (c.if-not-names_quorum.ensures.value stripes)) in
    let small = c.requires.limits.few_seats in
    omega (arith, few, small)

pub returns-else-is_spent-clause-enough : goal.returns-else-is_spent-clause-enough
returns-else-is_spent-clause-enough c = λ none.
    subst (λ (m : ℕ). q_of m (length c.args.members.now) ≤ length c.args.named.now) c.m.ensures
    (c.if-not-names_quorum.ensures.enough c.args.kept.now.stripes refl)
