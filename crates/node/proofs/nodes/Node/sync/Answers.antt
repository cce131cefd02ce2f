-- The brick begins the synchronisation that is under way then.
use Rattle.std.proofs.Common.{◌≡◌, Bool, true, false, if◌then◌else◌, Some, None, sym, ◌∙◌, ap, subst, rules}
use Rattle.std.specs.Option.{option_copied}
use Rattle.fab_base.specs.declared.answers.Refusal.{Refusal}
use Rattle.fab_base.specs.Layouts.{group_of}
use Rattle.protocol.specs.Jobs.{sync_refusal_in}
use Rattle.protocol.specs.Nodes.{Node, sync_refusal, synced_at}
use Rattle.stripe_code.specs.Codes.{coding}
use Rattle.node.specs.States.{StepsAs, parts_in}
use Rattle.node.specs.Running.{Running, running, state_of}
use Rattle.node.proofs.Steps.{steps_so}
use Rattle.node.proofs.Syncing.{busy_so}
use Rattle.node.proofs.nodes.Node.sync.Given.{Over}
use Rattle.node.proofs.nodes.Node.sync.Goals as goal
use Rattle.node.proofs.nodes.Node.sync.Goals.{After-synchronises}

pub returns-in_default-clause-refused : goal.returns-in_default-clause-refused
unfolding sync_refusal
returns-in_default-clause-refused g c =
    let x = c.self.inside in
    let found : group_of x.layout c.args.group.0 ≡ None = sym c.group.ensures.found ∙ ap option_copied c.in_default.is in
    subst (λ (n : Running g.row.D.Denot). sync_refusal_in (state_of n).job (group_of n.layout c.args.group.0) ≡ Some Refusal.NoStripe) c.self.view_is
    (ap (sync_refusal_in (state_of (running x.layout x.tasks x.store)).job) found)

-- the machine refuses it where a synchronisation is under way
refusal_is : (g : Over) (c : After-synchronises g) (busy : Bool) → c.synchronises.result ≡ busy
    → sync_refusal c.args.self.now.layout (state_of c.args.self.now) c.args.group.0 ≡ (if busy then Some Refusal.Busy else None)
refusal_is g c busy is =
    let x = c.self.inside in
    subst (λ (n : Running g.row.D.Denot). sync_refusal n.layout (state_of n) c.args.group.0 ≡ (if busy then Some Refusal.Busy else None)) c.self.view_is
    (busy_so x.layout x.tasks x.store c.args.group.0 c.in-Some.kept.now busy (sym c.in-Some.ensures.found) (sym c.synchronises.ensures ∙ is))

pub returns-then-synchronises-clause-refused : goal.returns-then-synchronises-clause-refused
returns-then-synchronises-clause-refused g c =
    refusal_is g (goal.at.returns-then-synchronises-clause-refused g c).After-synchronises true c.if-synchronises.true

pub returns-in_err-sync-clause-refused : goal.returns-in_err-sync-clause-refused
returns-in_err-sync-clause-refused g c =
    let none = refusal_is g (goal.at.returns-in_err-sync-clause-refused g c).After-synchronises false c.if-synchronises.false in
    search (rules, none)

pub returns-clause-refused : goal.returns-clause-refused
returns-clause-refused g c = refusal_is g (goal.at.returns-clause-refused g c).After-synchronises false c.if-synchronises.false

pub returns-clause-step : goal.returns-clause-step
returns-clause-step g c =
    let x = c.self.inside in
    let now = c.args.now in
    let group = c.args.group in
    let me = x.tasks.work.calls.me in
    let found = sym c.in-Some.ensures.found in
    let view = c.learnt_view-view.ensures.view x.layout found in
    let synced = c.is_synced-synced.ensures x.layout in
    subst
    (λ (n : Running g.row.D.Denot). StepsAs n.me (state_of (running x.layout c.sync.new.self x.store))
    (synced_at (coding n.layout) n.me now (state_of n) group) c.in_ok-sync.field-0)
    c.self.view_is
    (steps_so x.layout x.tasks c.sync.new.self x.store c.self.invariant.boot (λ (n : Node). synced_at (coding x.layout) me now n group) c.in_ok-sync.field-0
    c.in_ok-sync.ensures.same.boot
    (c.in_ok-sync.ensures.step (parts_in x.layout x.store.state) (λ i. record { view = sym view i; synced = sym synced i })))
