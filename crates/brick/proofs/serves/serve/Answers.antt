-- The layout has the brick, or not.
use Rattle.std.proofs.Common.{◌<◌, sym, ◌∙◌, subst}
use Rattle.fab_base.specs.declared.identities.BrickId.{BrickId}
use Rattle.fab_host.specs.Opening.{WhereTold}
use Rattle.brick.specs.Hosts.{Has, host_seen}
use Rattle.brick.specs.Openings.{KnowsEquipment, GivesBack}
use Rattle.brick.specs.Serves.{ServesBrick, HasDisk}
use Rattle.brick.specs.Views.{views}
use Rattle.brick.proofs.Completing.{brick_found}
use Rattle.brick.proofs.Found.{brick_has}
use Rattle.brick.proofs.serves.serve.Goals as goal

pub open_and_serve-equipment-requires : goal.open_and_serve-equipment-requires
open_and_serve-equipment-requires g c =
    let has = brick_has c.args.layout c.args.id c.in-Some.me (sym c.brick_of.ensures ∙ c.in-Some.is) in
    subst (λ (b : BrickId). b.0 < c.args.layout.bricks) has.1 has.0

pub port_of-requires : goal.port_of-requires
port_of-requires g c =
    let has = brick_has c.args.layout c.args.id c.in-Some.me (sym c.brick_of.ensures ∙ c.in-Some.is) in
    subst (λ (b : BrickId). b.0 < c.args.layout.bricks) has.1 has.0

pub give_back-requires : goal.give_back-requires
give_back-requires g c =
    let served = c.open_and_serve-equipment in
    subst (λ p. WhereTold (g.H.Host.holds served.new.host) (KnowsEquipment c.args.name.now p served.result.0)) (sym c.port_of.ensures.value) served.ensures.knows

pub returns : goal.returns
returns g c =
    let d = g.H.Disk.Disk in
    let v = views d g.H.Link.Link g.H.Clock.Clock in
    let host = g.H.Host in
    let served = c.open_and_serve-equipment in
    let before = host_seen (host.faults c.args.host.now) (host.asked c.args.host.now) (host.holds c.args.host.now) in
    let now = host_seen (host.faults served.new.host) (host.asked served.new.host) (host.holds served.new.host) in
    let after = host_seen (host.faults c.give_back.new.host) (host.asked c.give_back.new.host) (host.holds c.give_back.new.host) in
    let found = sym c.brick_of.ensures ∙ c.in-Some.is in
    record {
      serves = subst (λ m. ServesBrick v c.args.layout m c.args.turns before after c.args.name.now (g.K.Sink.told c.args.out.now)
          (g.K.Sink.told served.new.out) served.result.1) (sym found)
          (served.ensures.serves after (subst (λ p. GivesBack c.args.name.now p served.result.0 now after) c.port_of.ensures.value c.give_back.ensures.gives));
      stays = λ s. (let held = served.ensures.stays s in c.give_back.ensures.stays held.1 held.0);
      sink = served.ensures.sink;
      done = λ s sink small has. served.ensures.done s sink (subst (λ (b : BrickId). Has (host.holds c.args.host.now) (HasDisk d.tells d.seen c.args.layout b c.args.name.now))
          (brick_has c.args.layout c.args.id c.in-Some.me found).1 has);
    }

pub returns-in-None-clause-done : goal.returns-in-None-clause-done
returns-in-None-clause-done g c = λ s sink small has. absurd (brick_found c.args.layout c.args.id small (sym c.brick_of.ensures ∙ c.in-None.is))
