-- The open calls begin what the brick does.
use Rattle.std.proofs.Common.{◌≡◌, true, length, Option, Some, None, sym, ◌∙◌, ap, subst, rules}
use Rattle.std.proofs.lemmas.Bool.{true≢false}
use Rattle.fab_base.specs.declared.answers.Refusal.{Refusal}
use Rattle.fab_base.specs.Layouts.{Group}
use Rattle.quorum.specs.Quorums.{IsWithinLimits}
use Rattle.coord_phase.specs.Operations.{PriorIsWithinLimits, group_in_view}
use Rattle.protocol.specs.Views.{kept_by}
use Rattle.protocol.specs.Nodes.{Node, refusal_of, invoked, has_block, has_length}
use Rattle.stripe_code.specs.Codes.{coding}
use Rattle.node.specs.Jobs.{reading_in}
use Rattle.node.specs.Scrubs.{scrubbing_in}
use Rattle.node.specs.States.{OtherParts, parts_in, parts_with, state_in, state_with, BeginsAs}
use Rattle.node.specs.Running.{Running, running, state_of}
use Rattle.node.proofs.ScrubsBeside.{refusal_beside_both}
use Rattle.node.proofs.Views.{seen_so}
use Rattle.node.proofs.States.{on_err}
use Rattle.node.proofs.Steps.{begins_so, stays_so, group_in_view_is}
use Rattle.node.proofs.nodes.Node.invoke.Given.{Over}
use Rattle.node.proofs.nodes.Node.invoke.Goals as goal
use Rattle.node.proofs.nodes.Node.invoke.Goals.{After-admit, After-learnt_view-view}

-- the machine refuses it so too
refusal_is : (g : Over) (c : After-admit g) (refusal : Option Refusal)
    → ((parts : OtherParts) → refusal ≡ refusal_of c.self.inside.layout (state_with parts c.self.inside.tasks.work.calls) c.args.ask.now)
    → refusal_of c.args.self.now.layout (state_of c.args.self.now) c.args.ask.now ≡ refusal
refusal_is g c refusal is =
    let x = c.self.inside in
    subst (λ (n : Running g.row.D.Denot). refusal_of n.layout (state_of n) c.args.ask.now ≡ refusal) c.self.view_is
    (ap (λ (s : Node). refusal_of x.layout s c.args.ask.now) (seen_so x.layout x.tasks x.store c.self.invariant.boot)
    ∙ refusal_beside_both x.layout (scrubbing_in x.tasks.scrub) (reading_in x.tasks.job) (state_in (parts_in x.layout x.store.state) x.tasks.work) c.args.ask.now
    ∙ sym (is (parts_with (parts_in x.layout x.store.state) x.tasks.work.proposals)))

-- the group is kept by the members of the view
kept_so : (g : Over) (c : After-learnt_view-view g)
    → group_in_view c.self.inside.layout c.learnt_view-view.result.members c.args.ask.now.group.0 ≡ kept_by c.learnt_view-view.result.members c.in-Ok.group.now
kept_so g c = group_in_view_is c.self.inside.layout c.learnt_view-view.result.members c.args.ask.now.group.0 c.in-Ok.group.now c.in-Ok.ensures.group

pub returns-in-Err : goal.returns-in-Err
returns-in-Err g c =
    record {
      refused = refusal_is g (goal.at.returns-in-Err g c).After-admit (Some c.in-Err.refusal) c.in-Err.ensures.refused;
      begun = tt;
      err = search rules;
      few = tt;
      same = search rules;
      brick = search rules;
      halted = λ is. absurd (true≢false (sym is ∙ sym c.is_halted.ensures.value ∙ c.if-is_halted.false));
      only_halted = λ is. absurd cc;
      not_disk = λ is. absurd cc;
    }

pub returns-in_err-begin-clause-err : goal.returns-in_err-begin-clause-err
returns-in_err-begin-clause-err g c =
    let was = c.self.inside in
    on_err _
    (stays_so was.layout was.tasks c.begin.new.self was.store c.self.invariant.boot c.in_err-begin.ensures.same.boot
    (c.in_err-begin.ensures.err (parts_in was.layout was.store.state))
    ∙ ap (λ (n : Running g.row.D.Denot). state_of n) c.self.view_is)

pub returns-in_err-begin-clause-refused : goal.returns-in_err-begin-clause-refused
returns-in_err-begin-clause-refused g c =
    let none = refusal_is g (goal.at.returns-in_err-begin-clause-refused g c).After-admit None c.in-Ok.ensures.refused in
    search (rules, none)

pub returns-clause-refused : goal.returns-clause-refused
returns-clause-refused g c = refusal_is g (goal.at.returns-clause-refused g c).After-admit None c.in-Ok.ensures.refused

pub begin-requires-clause-limits : goal.begin-requires-clause-limits
begin-requires-clause-limits g c =
    subst (λ (k : Group). IsWithinLimits k.m (length c.learnt_view-view.result.members))
    (sym (kept_so g (goal.at.begin-requires-clause-limits g c).After-learnt_view-view))
    (c.learnt_view-view.ensures.limits c.self.inside.layout c.in-Ok.ensures.group c.self.invariant.lists)

pub begin-requires-clause-prior : goal.begin-requires-clause-prior
begin-requires-clause-prior g c =
    let view = c.learnt_view-view.result in
    subst (λ (k : Group). PriorIsWithinLimits k.m view.number view.prior) (sym (kept_so g (goal.at.begin-requires-clause-prior g c).After-learnt_view-view))
    (c.learnt_view-view.ensures.prior c.self.inside.layout c.in-Ok.ensures.group c.self.invariant.lists)

pub begin-requires-clause-block : goal.begin-requires-clause-block
begin-requires-clause-block g c =
    subst (λ (k : Group). has_block k.m c.args.ask.now.op ≡ true) (sym (kept_so g (goal.at.begin-requires-clause-block g c).After-learnt_view-view))
    c.in-Ok.ensures.block

pub begin-requires-clause-fits : goal.begin-requires-clause-fits
begin-requires-clause-fits g c =
    subst (λ (k : Group). has_length k.m c.self.inside.layout.block c.args.ask.now.op ≡ true)
    (sym (kept_so g (goal.at.begin-requires-clause-fits g c).After-learnt_view-view)) c.in-Ok.ensures.fits

pub returns-clause-begun : goal.returns-clause-begun
unfolding state_of
returns-clause-begun g c =
    let x = c.self.inside in
    let found = c.in-Ok.ensures.group in
    let after = c.begin.new.self in
    subst
    (λ (n : Running g.row.D.Denot). BeginsAs n.me (state_of (running x.layout after x.store))
    (invoked (coding n.layout) n.me c.args.now (state_of n) c.args.ask.now) c.in_ok-begin.field-0)
    c.self.view_is
    (begins_so x.layout x.tasks after x.store c.self.invariant.boot c.args.now c.args.ask.now c.in-Ok.group.now c.learnt_view-view.result c.in_ok-begin.field-0
    c.in_ok-begin.ensures.same.boot (sym (c.learnt_view-view.ensures.view x.layout found)) found
    c.in_ok-begin.ensures.begun)

pub returns-then-is_halted : goal.returns-then-is_halted
returns-then-is_halted g c = search rules
