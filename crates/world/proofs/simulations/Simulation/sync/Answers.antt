-- The numbers name a brick that is up and a group, or the machine refuses them too.
use Rattle.std.proofs.Common.{sym, ap, ◌∙◌, subst}
use Rattle.std.specs.Prelude.{IfOk}
use Rattle.fab_base.specs.declared.identities.BrickId.{BrickId}
use Rattle.fab_base.specs.declared.identities.GroupId.{GroupId}
use Rattle.stripe_code.specs.Codes.{coding}
use Rattle.protocol.specs.Worlds.{World, Syncs}
use Rattle.world.specs.Runs.{brick_of, group_no}
use Rattle.world.specs.Shown.{TakesEvent, world_in}
use Rattle.world.specs.Texts.{refused_or_begun}
use Rattle.world.proofs.MachineBegins.{unsynced_down, unsynced_here, happens_unsynced, happens_unsynced_down}
use Rattle.world.proofs.BrickListLemmas.{running_not, up_at}
use Rattle.world.proofs.SimulationLemmas.{takes_still}
use Rattle.world.proofs.simulations.Simulation.sync.Goals as goal

pub returns-in-None-clause-ok : goal.returns-in-None-clause-ok
returns-in-None-clause-ok c =
    let layout = c.args.layout.now in
    let w : World = world_in layout c.args.self.now in
    let down = running_not layout c.args.self.now.bricks.items w c.args.brick c.requires.bricks c.in-None.ensures in
    takes_still layout c.args.self.now _ _ c.requires (happens_unsynced_down (coding layout) w _ _ down)
    (sym (ap refused_or_begun (unsynced_down (coding layout) w (brick_of c.args.brick) (group_no c.args.group) down)))

pub returns-in-None-group_of-clause-ok : goal.returns-in-None-group_of-clause-ok
returns-in-None-group_of-clause-ok c =
    let layout = c.args.layout.now in
    let w : World = world_in layout c.args.self.now in
    let up = up_at layout c.args.self.now.bricks.items c.args.brick c.in-Some.brick c.in-Some.ensures w c.requires.bricks in
    let none = (c.in-None-group_of.ensures.none (w.nodes c.args.brick)).1 in
    takes_still layout c.args.self.now _ _ c.requires (happens_unsynced (coding layout) w _ _ _ none)
    (sym (ap refused_or_begun (unsynced_here (coding layout) w (brick_of c.args.brick) (group_no c.args.group) up ∙ none)))

pub returns-clause-ok : goal.returns-clause-ok
returns-clause-ok c =
    subst (λ (group : GroupId). IfOk c.begin_sync.result
    (TakesEvent c.args.layout.now c.args.self.now c.begin_sync.new.self (Syncs (brick_of c.args.brick) group)))
    c.in-Some-group_of.ensures.some
    (subst (λ (brick : BrickId). IfOk c.begin_sync.result
    (TakesEvent c.args.layout.now c.args.self.now c.begin_sync.new.self (Syncs brick c.in-Some-group_of.group))) c.in-Some.ensures.0
    c.begin_sync.ensures.ok)
