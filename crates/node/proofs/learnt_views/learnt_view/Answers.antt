-- A list that stands is within the limits.
use Rattle.std.proofs.Common.{◌≡◌, ℕ, Bool, true, List, Option, Some, sym, ◌∙◌, ap, subst, arith}
use Rattle.std.specs.Prelude.{◌&&◌}
use Rattle.std.proofs.lemmas.Bool.{and_parts}
use Rattle.fab_base.specs.declared.member_lists.View.{View}
use Rattle.quorum.specs.Memberships.{is_membership}
use Rattle.quorum.proofs.MembershipSizes.{have_quorums}
use Rattle.fab_base.specs.declared.identities.BrickId.{BrickId}
use Rattle.synod_laws.specs.Synods.{Kept}
use Rattle.brick_state.specs.States.{group_at}
use Rattle.brick_store.specs.Blocks.{accepted_of}
use Rattle.replica.specs.Parts.{may_be_accepted, lists_stand}
use Rattle.node.proofs.learnt_views.learnt_view.Goals as goal

-- both lists of the view that is kept
lists_kept : (m bricks : ℕ) (known : Option (View × Bool)) (ballots : Kept (List BrickId)) (view : View) (synced : Bool) → known ≡ Some (view, synced)
    → lists_stand m bricks (record { known = known; ballots = ballots }) ≡ true
    → (is_membership m bricks view.members ≡ true) × (is_membership m bricks view.prior ≡ true)
lists_kept m bricks known ballots view synced is stand =
    let stands : lists_stand m bricks (record { known = Some (view, synced); ballots = ballots }) ≡ true =
    subst (λ (k : Option (View × Bool)). lists_stand m bricks (record { known = k; ballots = ballots }) ≡ true) is stand in
    let both = and_parts (is_membership m bricks view.members && is_membership m bricks view.prior)
    (may_be_accepted m bricks (accepted_of (record { known = known; ballots = ballots }))) stands in
    and_parts (is_membership m bricks view.members) (is_membership m bricks view.prior) both.0

pub returns-in-Some-clause-limits : goal.returns-in-Some-clause-limits
returns-in-Some-clause-limits g c = λ layout found lists.
    let kept = group_at c.args.store.now.state c.args.number.0 in
    let both = lists_kept c.args.group.now.m layout.bricks kept.known kept.ballots c.in-Some.view c.in-Some.field-0-1 (sym c.known_view.ensures.value ∙ c.in-Some.is)
    (lists c.args.number.0 c.args.group.now found) in
    have_quorums c.args.group.now.m layout.bricks c.in-Some.view.members c.policy.ensures.limits.some_block c.policy.ensures.limits.few_blocks both.0

pub returns-in-Some-clause-prior : goal.returns-in-Some-clause-prior
returns-in-Some-clause-prior g c = λ layout found lists.
    let kept = group_at c.args.store.now.state c.args.number.0 in
    let m = c.args.group.now.m in
    let both = lists_kept m layout.bricks kept.known kept.ballots c.in-Some.view c.in-Some.field-0-1 (sym c.known_view.ensures.value ∙ c.in-Some.is)
    (lists c.args.number.0 c.args.group.now found) in
    record {
      limits = λ later. have_quorums m layout.bricks c.in-Some.view.prior c.policy.ensures.limits.some_block c.policy.ensures.limits.few_blocks both.1;
    }

pub returns-in-None-clause-prior : goal.returns-in-None-clause-prior
returns-in-None-clause-prior g c = λ layout found lists.
    record { limits = λ later. absurd (let number = ap (λ (view : View). view.number.0) c.first_view.ensures.view in omega (arith, number, later)) }
