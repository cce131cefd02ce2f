-- What is under way does what the brick does.
use Rattle.std.proofs.Common.{List, ℕ, refl, sym, ◌∙◌, ap, subst}
use Rattle.protocol.specs.Nodes.{heard}
use Rattle.stripe_code.specs.Codes.{coding}
use Rattle.protocol.specs.Nodes.{Node, NodeStep, replied_at, with_round}
use Rattle.node.specs.States.{StepsAs, parts_in}
use Rattle.node.specs.Running.{IsBrickOf, ImageShows, Running, running, state_of}
use Rattle.node.proofs.Hearing.{heard_untaught}
use Rattle.node.proofs.KeptBricks.{stays_brick}
use Rattle.node.proofs.Views.{still_shows}
use Rattle.node.proofs.States.{on_err}
use Rattle.node.proofs.Steps.{steps_so, stays_so}
use Rattle.node.proofs.nodes.Node.count.Given.{Over}
use Rattle.node.proofs.nodes.Node.count.Goals as goal
use Rattle.node.proofs.nodes.Node.count.Goals.{After-on_reply}

-- what showed the brick shows it still
shown_still : (g : Over) (c : After-on_reply g) (image : List ℕ) → ImageShows c.args.self.now.layout c.args.self.now.me (state_of c.args.self.now) image
    → ImageShows c.args.self.now.layout c.args.self.now.me (state_of (running c.self.inside.layout c.on_reply.new.self c.self.inside.store)) image
shown_still g c =
    let x = c.self.inside in
    subst
    (λ (n : Running g.row.D.Denot). (image : List ℕ) → ImageShows n.layout n.me (state_of n) image
    → ImageShows n.layout n.me (state_of (running x.layout c.on_reply.new.self x.store)) image)
    c.self.view_is (still_shows x.layout x.tasks c.on_reply.new.self x.store x.tasks.work.calls.me)

-- it is a brick of its layout still
brick_so : (g : Over) (c : After-on_reply g) → IsBrickOf c.self.inside.layout c.self.inside.store.shape c.self.inside.store.state c.on_reply.new.self
brick_so g c = stays_brick _ _ c.on_reply.new.self c.self.inside.store c.self.inside.store c.self.invariant c.on_reply.ensures.same refl refl

pub invariant_of-self : goal.invariant_of-self
invariant_of-self g c = brick_so g (goal.at.invariant_of-self g c).After-on_reply

pub invariant_of-self-2 : goal.invariant_of-self-2
invariant_of-self-2 g c = brick_so g (goal.at.invariant_of-self-2 g c).After-on_reply

pub returns-in_err-on_reply-clause-err : goal.returns-in_err-on_reply-clause-err
returns-in_err-on_reply-clause-err g c =
    let was = c.self.inside in
    on_err _
    (stays_so was.layout was.tasks c.on_reply.new.self was.store c.self.invariant.boot c.in_err-on_reply.ensures.same.boot
    (c.in_err-on_reply.ensures.err (parts_in was.layout was.store.state))
    ∙ ap (λ (n : Running g.row.D.Denot). state_of n) c.self.view_is)

pub returns-in_err-on_reply-clause-shown : goal.returns-in_err-on_reply-clause-shown
returns-in_err-on_reply-clause-shown g c = shown_still g (goal.at.returns-in_err-on_reply-clause-shown g c).After-on_reply

pub returns-clause-step : goal.returns-clause-step
returns-clause-step g c =
    let x = c.self.inside in
    let call = c.args.call in
    let reply = c.args.reply.now in
    let from = c.args.packet.now.from in
    let me = x.tasks.work.calls.me in
    let node = state_of (running x.layout x.tasks x.store) in
    subst
    (λ (n : Running g.row.D.Denot). StepsAs n.me (state_of (running x.layout c.on_reply.new.self x.store))
    (heard (coding n.layout) n.me c.args.now from (state_of n) call reply) c.in_ok-on_reply.field-0)
    c.self.view_is
    (subst (λ (step : NodeStep). StepsAs me (state_of (running x.layout c.on_reply.new.self x.store)) step c.in_ok-on_reply.field-0)
    (sym (heard_untaught x.layout me c.args.now from node call reply c.requires.untaught))
    (steps_so x.layout x.tasks c.on_reply.new.self x.store c.self.invariant.boot
    (λ (s : Node). replied_at (coding x.layout) me c.args.now from (with_round s reply) call reply (s.calls call.seq)) c.in_ok-on_reply.field-0
    c.in_ok-on_reply.ensures.same.boot (c.in_ok-on_reply.ensures.step (parts_in x.layout x.store.state))))

pub returns-clause-shown : goal.returns-clause-shown
returns-clause-shown g c = shown_still g (goal.at.returns-clause-shown g c).After-on_reply
