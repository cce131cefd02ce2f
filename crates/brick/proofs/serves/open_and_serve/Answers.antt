-- A brick was opened, and it serves by the clock; or one of them was refused.
use Rattle.std.proofs.Common.{◌≢◌, Err, sym, ap, ◌∙◌, subst}
use Rattle.std.specs.Prelude.{⊤}
use Rattle.fab_base.proofs.Keeping.{Kept-refl, Kept-narrower}
use Rattle.fab_host.specs.declared.hosts.Asked.TheVariants as calls
use Rattle.fab_host.specs.Held.{IsKnown}
use Rattle.fab_host.specs.Holdings.{with_clock}
use Rattle.serving.specs.Ports.{ports_of, port_of}
use Rattle.brick.specs.declared.endings.Ending.TheVariants.{Disk}
use Rattle.brick.specs.Endings.{status_of, IsDone}
use Rattle.brick.specs.Hosts.{host_seen, IsLent, IsRefused}
use Rattle.brick.specs.Views.{views}
use Rattle.brick.proofs.Lending.{lends_told}
use Rattle.brick.proofs.Refusing.{refused_by, refused_done, refused_not_sink}
use Rattle.brick.proofs.Returning.{refused_serves, unclocked_serves, turns_serve, where_refused, clock_known, brick_known, refused_known, disk_holds, clock_there}
use Rattle.brick.proofs.Starting.{left_by}
use Rattle.brick.proofs.serves.open_and_serve.Goals as goal

pub serve_turns-ending-requires : goal.serve_turns-ending-requires
serve_turns-ending-requires g c = c.in-Ok.ensures.opens.started.runs

pub returns-in-Err : goal.returns-in-Err
returns-in-Err g c =
    let host = g.H.Host in
    let d = g.H.Disk.Disk in
    let v = views d g.H.Link.Link g.H.Clock.Clock in
    let layout = c.args.layout.now in
    let me = c.args.me in
    let name = c.args.name.now in
    let before = host_seen (host.faults c.args.host.now) (host.asked c.args.host.now) (host.holds c.args.host.now) in
    let now = host_seen (host.faults c.open_brick.new.host) (host.asked c.open_brick.new.host) (host.holds c.open_brick.new.host) in
    let refused = c.in-Err.refused in
    let said = c.in-Err.ensures in
    record {
      serves = λ after given. refused_serves v layout me name c.args.turns before now after (g.K.Sink.told c.args.out.now) refused.0 refused.1 said.refuses given;
      knows = refused_known v layout me name before now refused.0 refused.1 said.refuses;
      stays = said.stays;
      sink = Kept-narrower (λ e. absurd (said.sink e)) (Kept-refl _ _);
      done = λ s sink has. said.done s (disk_holds d.tells d.seen layout me name (host.holds c.args.host.now) has);
    }

pub returns-in-Err-clock : goal.returns-in-Err-clock
returns-in-Err-clock g c =
    let host = g.H.Host in
    let d = g.H.Disk.Disk in
    let v = views d g.H.Link.Link g.H.Clock.Clock in
    let layout = c.args.layout.now in
    let me = c.args.me in
    let name = c.args.name.now in
    let before = host_seen (host.faults c.args.host.now) (host.asked c.args.host.now) (host.holds c.args.host.now) in
    let mid = host_seen (host.faults c.open_brick.new.host) (host.asked c.open_brick.new.host) (host.holds c.open_brick.new.host) in
    let now = host_seen (host.faults c.clock.new.self) (host.asked c.clock.new.self) (host.holds c.clock.new.self) in
    let opens = c.in-Ok.ensures.opens in
    let node = c.in-Ok.opened.0 in
    let link = c.in-Ok.opened.1 in
    let fault = c.in-Err-clock.fault in
    let said = c.in-Err-clock.ensures in
    let kept = c.into_disk.ensures in
    let refused = subst (IsRefused mid now calls.Clock) (sym c.refusal.ensures)
    (refused_by mid now calls.Clock _ _ fault said.asked said.lends said.kept.later (λ e. said.kept.rose (ap (λ z. Err z) e))) in
    record {
      serves = λ after given. unclocked_serves v layout me name c.args.turns before now after (g.K.Sink.told c.args.out.now) mid node link c.refusal.result
          c.into_disk.result opens
          (left_by v layout me node c.into_disk.result ⊤ kept.disk opens.started.layout_is opens.started.me_is (λ tells whole. kept.stands tells opens.started.runs))
          refused given;
      knows = where_refused (λ h. IsKnown (h.disks name) × IsKnown (h.links (port_of (ports_of layout) me))) mid now calls.Clock c.refusal.result refused
          (brick_known v layout me name before mid node link opens);
      stays = λ s.
          let opened = c.in-Ok.ensures.stays s in
          (said.kept.stays opened.0, (subst d.sound (sym kept.disk) opened.1.0, opened.1.1));
      sink = Kept-narrower (λ e. absurd (refused_not_sink fault (ap status_of (sym c.refusal.ensures) ∙ e))) (Kept-refl _ _);
      done = λ s sink has. subst IsDone (sym c.refusal.ensures)
          (refused_done (host.holds c.open_brick.new.host) fault (clock_there v layout me name before mid node link d.tells d.seen opens has)
          (λ e. said.kept.only (c.in-Ok.ensures.stays s).0 (ap (λ z. Err z) e)) (λ h p q. p q));
    }

pub returns : goal.returns
returns g c =
    let host = g.H.Host in
    let d = g.H.Disk.Disk in
    let v = views d g.H.Link.Link g.H.Clock.Clock in
    let layout = c.args.layout.now in
    let me = c.args.me in
    let name = c.args.name.now in
    let before = host_seen (host.faults c.args.host.now) (host.asked c.args.host.now) (host.holds c.args.host.now) in
    let mid = host_seen (host.faults c.open_brick.new.host) (host.asked c.open_brick.new.host) (host.holds c.open_brick.new.host) in
    let now = host_seen (host.faults c.clock.new.self) (host.asked c.clock.new.self) (host.holds c.clock.new.self) in
    let opens = c.in-Ok.ensures.opens in
    let node = c.in-Ok.opened.0 in
    let link = c.in-Ok.opened.1 in
    let said = c.in-Ok-clock.ensures in
    let served = c.serve_turns-ending in
    let kept = c.into_disk-2.ensures in
    let lends : IsLent mid now calls.Clock (λ h. h.clock) with_clock c.in-Ok-clock.clock = record { asked = said.asked; later = said.kept.later; told = lends_told _ _ _ _ _ _ said.lends } in
    record {
      serves = λ after given. turns_serve v layout me name c.args.turns before now after (g.K.Sink.told c.args.out.now) mid node served.new.node link served.new.link
          (g.K.Sink.told served.new.out) served.result c.into_disk-2.result opens
          (left_by v layout me served.new.node c.into_disk-2.result (served.result ≢ Disk) kept.disk (served.ensures.same.layout ∙ opens.started.layout_is)
          (served.ensures.same.me ∙ opens.started.me_is) (λ tells not. kept.stands tells (served.ensures.runs not)))
          c.in-Ok-clock.clock served.new.clock lends served.ensures.serves given;
      knows = clock_known name (port_of (ports_of layout) me) mid now c.in-Ok-clock.clock (brick_known v layout me name before mid node link opens) lends;
      stays = λ s.
          let opened = c.in-Ok.ensures.stays s in
          (said.kept.stays opened.0, (subst d.sound (sym kept.disk) (served.ensures.disk opened.1.0), served.ensures.link opened.1.1, served.ensures.clock (said.gives opened.0)));
      sink = served.ensures.sink;
      done = λ s sink has.
          let opened = c.in-Ok.ensures.stays s in
          served.ensures.done opened.1.0 opened.1.1 (said.gives opened.0) sink;
    }
