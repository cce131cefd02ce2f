-- The brick begins the scrub that is under way then.
use Rattle.std.proofs.Common.{◌≡◌, Bool, not, length, List, Option, Some, None, is_some, sym, ◌∙◌, ap, subst, rules}
use Rattle.std.specs.Option.{IfSome, option_copied, option_map}
use Rattle.std.proofs.lemmas.Bool.{true≢false}
use Rattle.fab_base.specs.declared.answers.Refusal.{Refusal}
use Rattle.fab_base.specs.declared.identities.BrickId.{BrickId}
use Rattle.fab_base.specs.Layouts.{Group, group_of}
use Rattle.quorum.specs.Quorums.{IsWithinLimits}
use Rattle.protocol.specs.Coordinators.{AreEnough}
use Rattle.protocol.specs.Views.{kept_by}
use Rattle.protocol.specs.Nodes.{Node, NodeStep, scrub_refusal, scrub_refusal_in, scrubbed_at}
use Rattle.stripe_code.specs.Codes.{coding}
use Rattle.coord_phase.specs.Operations.{PriorIsWithinLimits, group_in_view}
use Rattle.node.specs.Outcomes.{Outcome}
use Rattle.node.specs.Scrubs.{scrubbed_by}
use Rattle.node.specs.States.{StepsAs, parts_in, state_with}
use Rattle.node.specs.Running.{Running, running, state_of}
use Rattle.node.specs.Tasks.{tasks_in}
use Rattle.node.proofs.ScrubBegins.{refusal_so, scrubbed_so}
use Rattle.node.proofs.Steps.{group_in_view_is, steps_so}
use Rattle.node.proofs.nodes.Node.scrub.Given.{Over}
use Rattle.node.proofs.nodes.Node.scrub.Goals as goal
use Rattle.node.proofs.nodes.Node.scrub.Goals.{After-learnt_view-view, After-scrub_refusal}

pub returns-in_default-clause-refused : goal.returns-in_default-clause-refused
unfolding scrub_refusal
returns-in_default-clause-refused g c =
    let x = c.self.inside in
    let node = state_of (running x.layout x.tasks x.store) in
    let found : group_of x.layout c.args.group.0 ≡ None = sym c.group.ensures.found ∙ ap option_copied c.in_default.is in
    subst (λ (n : Running g.row.D.Denot). scrub_refusal n.layout (state_of n) c.args.group c.args.stripe c.args.members.now ≡ Some Refusal.NoStripe) c.self.view_is
    (ap (λ (o : Option Group). scrub_refusal_in node c.args.stripe c.args.members.now (option_map (kept_by (node.learnt c.args.group.0).view.members) o)) found)

-- the group is kept by the members of the view
kept_so : (g : Over) (c : After-learnt_view-view g)
    → group_in_view c.self.inside.layout c.learnt_view-view.result.members c.args.group.0 ≡ kept_by c.learnt_view-view.result.members c.in-Some.kept.now
kept_so g c =
    group_in_view_is c.self.inside.layout c.learnt_view-view.result.members c.args.group.0 c.in-Some.kept.now (sym c.in-Some.ensures.found)

-- the machine refuses it so too
refusal_is : (g : Over) (c : After-scrub_refusal g) → (let now = c.args.self.now in
    scrub_refusal now.layout (state_of now) c.args.group c.args.stripe c.args.members.now ≡ c.scrub_refusal.result)
refusal_is g c =
    let x = c.self.inside in
    let found = sym c.in-Some.ensures.found in
    subst (λ (n : Running g.row.D.Denot). scrub_refusal n.layout (state_of n) c.args.group c.args.stripe c.args.members.now ≡ c.scrub_refusal.result)
    c.self.view_is
    (refusal_so x.layout x.tasks x.store c.args.group c.args.stripe c.args.members.now c.in-Some.kept.now c.learnt_view-view.result c.self.invariant.boot found
    (c.learnt_view-view.ensures.view x.layout found) ∙ sym (c.scrub_refusal.ensures.value (parts_in x.layout x.store.state)))

pub returns-in-Some-scrub_refusal-clause-refused : goal.returns-in-Some-scrub_refusal-clause-refused
returns-in-Some-scrub_refusal-clause-refused g c =
    refusal_is g (goal.at.returns-in-Some-scrub_refusal-clause-refused g c).After-scrub_refusal ∙ c.in-Some-scrub_refusal.is

-- ---- it is not refused

-- the members are few enough
pub unreachable-requires : goal.unreachable-requires
unreachable-requires g c =
    let few = c.scrub_refusal.ensures.few c.in_default-scrub_refusal.is in
    true≢false (sym (c.new.ensures.room.1 few) ∙ ap (λ (o : Option (List BrickId)). is_some o) c.in_default-new.is)

pub scrub-requires-clause-limits : goal.scrub-requires-clause-limits
scrub-requires-clause-limits g c =
    subst (λ (k : Group). IsWithinLimits k.m (length c.learnt_view-view.result.members))
    (sym (kept_so g (goal.at.scrub-requires-clause-limits g c).After-learnt_view-view))
    (c.learnt_view-view.ensures.limits c.self.inside.layout (sym c.in-Some.ensures.found) c.self.invariant.lists)

pub scrub-requires-clause-prior : goal.scrub-requires-clause-prior
scrub-requires-clause-prior g c =
    let view = c.learnt_view-view.result in
    subst (λ (k : Group). PriorIsWithinLimits k.m view.number view.prior) (sym (kept_so g (goal.at.scrub-requires-clause-prior g c).After-learnt_view-view))
    (c.learnt_view-view.ensures.prior c.self.inside.layout (sym c.in-Some.ensures.found) c.self.invariant.lists)

pub scrub-requires-clause-enough : goal.scrub-requires-clause-enough
scrub-requires-clause-enough g c =
    subst (λ (k : Group). AreEnough k (Some c.in-Some-new.members)) (sym (kept_so g (goal.at.scrub-requires-clause-enough g c).After-learnt_view-view))
    (subst (λ (members : List BrickId). AreEnough (kept_by c.learnt_view-view.result.members c.in-Some.kept.now) (Some members))
    (sym c.in-Some-new.ensures.bricks) (c.scrub_refusal.ensures.enough c.in_default-scrub_refusal.is))

pub returns-in_err-outs-clause-refused : goal.returns-in_err-outs-clause-refused
returns-in_err-outs-clause-refused g c =
    let none = refusal_is g (goal.at.returns-in_err-outs-clause-refused g c).After-scrub_refusal ∙ c.in_default-scrub_refusal.is in
    search (rules, none)

-- a time and a call number are left
pub unreachable-requires-in-None : goal.unreachable-requires-in-None
unreachable-requires-in-None g c =
    let kept = parts_in c.self.inside.layout c.self.inside.store.state in
    let left = c.scrub_refusal.ensures.left kept c.in_default-scrub_refusal.is in
    true≢false
    (sym (ap (λ (b : Bool). not b) left) ∙ sym (c.in_ok-outs.ensures.spent kept) ∙ ap (λ (o : Option Outcome). is_some o) c.in-None.is)

pub returns-clause-refused : goal.returns-clause-refused
returns-clause-refused g c = refusal_is g (goal.at.returns-clause-refused g c).After-scrub_refusal ∙ c.in_default-scrub_refusal.is

pub returns-clause-step : goal.returns-clause-step
unfolding state_with
returns-clause-step g c =
    let x = c.self.inside in
    let me = x.tasks.work.calls.me in
    let now = c.args.now in
    let view = c.learnt_view-view.result in
    let found = sym c.in-Some.ensures.found in
    let kept = parts_in x.layout x.store.state in
    let node = tasks_in kept x.tasks in
    let after = c.scrub.new.self in
    let outs = c.in-Some-2.outs in
    let begins = λ (members : List BrickId). scrubbed_by (coding x.layout) (group_in_view x.layout view.members c.args.group.0) view now c.args.group c.args.stripe members me node in
    let steps = subst (λ (o : Option Outcome). IfSome o (StepsAs me (tasks_in kept after) (begins c.in-Some-new.members))) c.in-Some-2.is (c.in_ok-outs.ensures.step kept) in
    subst
    (λ (n : Running g.row.D.Denot). StepsAs n.me (state_of (running x.layout after x.store))
    (scrubbed_at (coding n.layout) n.me now (state_of n) c.args.group c.args.stripe c.args.members.now) outs)
    c.self.view_is
    (steps_so x.layout x.tasks after x.store c.self.invariant.boot
    (λ (n : Node). scrubbed_at (coding x.layout) me now n c.args.group c.args.stripe c.args.members.now) outs c.in_ok-outs.ensures.same.boot
    (subst (λ (step : NodeStep). StepsAs me (tasks_in kept after) step outs)
    (sym (scrubbed_so x.layout me now node c.args.group c.args.stripe c.args.members.now c.in-Some.kept.now view (c.learnt_view-view.ensures.view x.layout found) found))
    (subst (λ (members : List BrickId). StepsAs me (tasks_in kept after) (begins members) outs) c.in-Some-new.ensures.bricks steps)))
