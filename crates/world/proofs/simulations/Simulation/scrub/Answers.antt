-- The numbers name a brick that is up and a stripe, or the machine refuses them too.
use Rattle.std.proofs.Common.{List, map, sym, ap, ◌∙◌, subst}
use Rattle.std.specs.Prelude.{IfOk}
use Rattle.fab_base.specs.declared.identities.BrickId.{BrickId}
use Rattle.fab_base.specs.declared.identities.GroupId.{GroupId}
use Rattle.fab_base.specs.declared.identities.StripeNo.{StripeNo}
use Rattle.stripe_code.specs.Codes.{coding}
use Rattle.protocol.specs.Worlds.{World, Scrubs}
use Rattle.world.specs.Runs.{brick_of, group_no, stripe_no, member_no}
use Rattle.world.specs.Shown.{TakesEvent, world_in}
use Rattle.world.specs.Texts.{refused_or_begun}
use Rattle.world.proofs.MachineBegins.{unscrubbed_down, unscrubbed_here, happens_unscrubbed, happens_unscrubbed_down}
use Rattle.world.proofs.BrickListLemmas.{running_not, up_at}
use Rattle.world.proofs.SimulationLemmas.{takes_still}
use Rattle.world.proofs.simulations.Simulation.scrub.Goals as goal

pub returns-in-None-clause-ok : goal.returns-in-None-clause-ok
returns-in-None-clause-ok c =
    let layout = c.args.layout.now in
    let w : World = world_in layout c.args.self.now in
    let members : List BrickId = map member_no c.args.members.now in
    let down = running_not layout c.args.self.now.bricks.items w c.args.brick c.requires.bricks c.in-None.ensures in
    takes_still layout c.args.self.now _ _ c.requires (happens_unscrubbed_down (coding layout) w _ _ _ _ down)
    (sym (ap refused_or_begun (unscrubbed_down (coding layout) w (brick_of c.args.brick) (group_no c.args.group) (stripe_no c.args.stripe) members down)))

pub returns-in-None-place_of-clause-ok : goal.returns-in-None-place_of-clause-ok
returns-in-None-place_of-clause-ok c =
    let layout = c.args.layout.now in
    let w : World = world_in layout c.args.self.now in
    let members : List BrickId = map member_no c.args.members.now in
    let up = up_at layout c.args.self.now.bricks.items c.args.brick c.in-Some.brick c.in-Some.ensures w c.requires.bricks in
    let none = c.in-None-place_of.ensures.unscrubbed (w.nodes c.args.brick) members in
    takes_still layout c.args.self.now _ _ c.requires (happens_unscrubbed (coding layout) w _ _ _ _ _ none)
    (sym (ap refused_or_begun
    (unscrubbed_here (coding layout) w (brick_of c.args.brick) (group_no c.args.group) (stripe_no c.args.stripe) members up ∙ none)))

pub returns-clause-ok : goal.returns-clause-ok
returns-clause-ok c =
    let place = c.in-Some-place_of.place in
    subst (λ (members : List BrickId). IfOk c.begin_scrub.result (TakesEvent c.args.layout.now c.args.self.now c.begin_scrub.new.self
    (Scrubs (brick_of c.args.brick) (group_no c.args.group) (stripe_no c.args.stripe) members)))
    (c.deref.ensures.value ∙ c.in_ok-members.ensures)
    (subst (λ (stripe : StripeNo). IfOk c.begin_scrub.result (TakesEvent c.args.layout.now c.args.self.now c.begin_scrub.new.self
    (Scrubs (brick_of c.args.brick) (group_no c.args.group) stripe c.deref.result.now)))
    (ap stripe_no c.in-Some-place_of.ensures.some.1)
    (subst (λ (group : GroupId). IfOk c.begin_scrub.result (TakesEvent c.args.layout.now c.args.self.now c.begin_scrub.new.self
    (Scrubs (brick_of c.args.brick) group place.1 c.deref.result.now)))
    (ap group_no c.in-Some-place_of.ensures.some.0)
    (subst (λ (brick : BrickId). IfOk c.begin_scrub.result (TakesEvent c.args.layout.now c.args.self.now c.begin_scrub.new.self
    (Scrubs brick place.0 place.1 c.deref.result.now))) c.in-Some.ensures.0
    c.begin_scrub.ensures.ok)))
