-- The brick begins the proposal that is under way then.
use Rattle.std.proofs.Common.{◌≡◌, Some, None, sym, ◌∙◌, ap, subst, rules}
use Rattle.std.specs.Option.{option_copied}
use Rattle.fab_base.specs.declared.answers.Refusal.{Refusal}
use Rattle.fab_base.specs.declared.member_lists.View.{View}
use Rattle.fab_base.specs.Layouts.{group_of}
use Rattle.protocol.specs.Nodes.{proposal_refusal, proposal_refusal_in, proposed}
use Rattle.stripe_code.specs.Codes.{coding}
use Rattle.node.specs.States.{StepsAs, parts_in}
use Rattle.node.specs.Running.{Running, running, state_of}
use Rattle.node.proofs.Proposed.{refused_so, proposes_so}
use Rattle.node.proofs.nodes.Node.propose.Given.{Over}
use Rattle.node.proofs.nodes.Node.propose.Goals as goal
use Rattle.node.proofs.nodes.Node.propose.Goals.{After-proposal_refusal}

pub returns-in_default-clause-refused : goal.returns-in_default-clause-refused
unfolding proposal_refusal
returns-in_default-clause-refused g c =
    let x = c.self.inside in
    let found : group_of x.layout c.args.group.0 ≡ None = sym c.group.ensures.found ∙ ap option_copied c.in_default.is in
    subst (λ (n : Running g.row.D.Denot). proposal_refusal_in (state_of n) c.args.group.0 (group_of n.layout c.args.group.0) ≡ Some Refusal.NoStripe) c.self.view_is
    (ap (proposal_refusal_in (state_of (running x.layout x.tasks x.store)) c.args.group.0) found)

-- the machine refuses it so too
refusal_is : (g : Over) (c : After-proposal_refusal g)
    → proposal_refusal c.args.self.now.layout (state_of c.args.self.now) c.args.group.0 ≡ c.proposal_refusal.result
refusal_is g c =
    let x = c.self.inside in
    let found = sym c.in-Some.ensures.found in
    subst (λ (n : Running g.row.D.Denot). proposal_refusal n.layout (state_of n) c.args.group.0 ≡ c.proposal_refusal.result) c.self.view_is
    (refused_so x.layout x.tasks x.store c.self.invariant.boot c.args.group.0 c.in-Some.kept.now c.proposal_refusal.result found
    (c.proposal_refusal.ensures.value (parts_in x.layout x.store.state) c.in-Some.kept.now c.args.group.0
    (ap (λ (v : View). v.number.0) (sym (c.learnt_view-view.ensures.view x.layout found)))))

pub returns-in-Some-proposal_refusal-clause-refused : goal.returns-in-Some-proposal_refusal-clause-refused
returns-in-Some-proposal_refusal-clause-refused g c =
    refusal_is g (goal.at.returns-in-Some-proposal_refusal-clause-refused g c).After-proposal_refusal ∙ c.in-Some-proposal_refusal.is

pub returns-in_err-propose-clause-refused : goal.returns-in_err-propose-clause-refused
returns-in_err-propose-clause-refused g c =
    let none = refusal_is g (goal.at.returns-in_err-propose-clause-refused g c).After-proposal_refusal ∙ c.in_default-proposal_refusal.is in
    search (rules, none)

pub returns-clause-refused : goal.returns-clause-refused
returns-clause-refused g c = refusal_is g (goal.at.returns-clause-refused g c).After-proposal_refusal ∙ c.in_default-proposal_refusal.is

pub returns-clause-step : goal.returns-clause-step
returns-clause-step g c =
    let x = c.self.inside in
    let group = c.args.group in
    let members = c.args.members.now in
    let found = sym c.in-Some.ensures.found in
    subst
    (λ (n : Running g.row.D.Denot). StepsAs n.me (state_of (running x.layout c.propose.new.self x.store))
    (proposed (coding n.layout) n.me (state_of n) group members) c.in_ok-propose.field-0)
    c.self.view_is
    (proposes_so x.layout x.tasks x.store c.self.invariant.boot c.propose.new.self group c.in-Some.kept.now members c.in_ok-propose.field-0
    c.in_ok-propose.ensures.same.boot found
    (c.in_ok-propose.ensures.step (parts_in x.layout x.store.state) (sym (c.learnt_view-view.ensures.view x.layout found))))
