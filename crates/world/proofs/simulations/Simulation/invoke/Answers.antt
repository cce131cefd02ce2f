-- The numbers name a brick that is up and a stripe, or the machine refuses them too.
use Rattle.std.proofs.Common.{sym, ap, ◌∙◌, subst}
use Rattle.std.specs.Prelude.{IfOk}
use Rattle.fab_base.specs.declared.asks.Ask.{Ask}
use Rattle.fab_base.specs.declared.identities.BrickId.{BrickId}
use Rattle.stripe_code.specs.Codes.{coding}
use Rattle.protocol.specs.Worlds.{World, Invokes}
use Rattle.world.specs.Runs.{brick_of, ask_of, op_of}
use Rattle.world.specs.Shown.{TakesEvent, world_in}
use Rattle.world.specs.Texts.{refused_or_begun}
use Rattle.world.proofs.MachineBegins.{refusal_down, refusal_here, happens_down, happens_refused}
use Rattle.world.proofs.BrickListLemmas.{running_not, up_at}
use Rattle.world.proofs.SimulationLemmas.{ask_is, takes_still}
use Rattle.world.proofs.simulations.Simulation.invoke.Goals as goal

pub returns-in-None-clause-ok : goal.returns-in-None-clause-ok
returns-in-None-clause-ok c =
    let layout = c.args.layout.now in
    let w : World = world_in layout c.args.self.now in
    let ask : Ask = ask_of c.args.group c.args.stripe (op_of c.args.access.now) in
    let down = running_not layout c.args.self.now.bricks.items w c.args.brick c.requires.bricks c.in-None.ensures in
    takes_still layout c.args.self.now (Invokes (brick_of c.args.brick) ask) _ c.requires (happens_down (coding layout) w _ _ down)
    (sym (ap refused_or_begun (refusal_down (coding layout) w (brick_of c.args.brick) ask down)))

pub returns-in-None-place_of-clause-ok : goal.returns-in-None-place_of-clause-ok
returns-in-None-place_of-clause-ok c =
    let layout = c.args.layout.now in
    let w : World = world_in layout c.args.self.now in
    let ask : Ask = ask_of c.args.group c.args.stripe (op_of c.args.access.now) in
    let up = up_at layout c.args.self.now.bricks.items c.args.brick c.in-Some.brick c.in-Some.ensures w c.requires.bricks in
    let none = c.in-None-place_of.ensures.none (w.nodes c.args.brick) (op_of c.args.access.now) in
    takes_still layout c.args.self.now (Invokes (brick_of c.args.brick) ask) _ c.requires (happens_refused (coding layout) w _ _ _ none)
    (sym (ap refused_or_begun (refusal_here (coding layout) w (brick_of c.args.brick) ask up ∙ none)))

pub returns-clause-ok : goal.returns-clause-ok
returns-clause-ok c =
    let ask : Ask = record { group = c.in-Some-place_of.place.0; stripe = c.in-Some-place_of.place.1; op = c.in_ok-op.op } in
    subst (λ (x : Ask). IfOk c.begin.result (TakesEvent c.args.layout.now c.args.self.now c.begin.new.self (Invokes (brick_of c.args.brick) x)))
    (ask_is ask c.args.group c.args.stripe (op_of c.args.access.now) c.in-Some-place_of.ensures.some.0 c.in-Some-place_of.ensures.some.1 c.in_ok-op.ensures.value)
    (subst (λ (brick : BrickId). IfOk c.begin.result (TakesEvent c.args.layout.now c.args.self.now c.begin.new.self (Invokes brick ask))) c.in-Some.ensures.0
    c.begin.ensures.ok)
