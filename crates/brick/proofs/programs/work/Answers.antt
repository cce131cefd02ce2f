-- What is wanted was done over the layout that was found.
use Rattle.std.proofs.Common.{Ok, Err, refl, sym, ap, subst}
use Rattle.fab_base.proofs.Keeping.{Kept-refl, Kept-narrower}
use Rattle.brick_words.specs.declared.words.Work.{Work}
use Rattle.brick.specs.Bricks.{DoesWork, FailsAt}
use Rattle.brick.specs.Hosts.{host_seen}
use Rattle.brick.specs.Views.{views, streams}
use Rattle.brick.proofs.Completing.{found_done, format_done, serve_goes}
use Rattle.brick.proofs.Found.{found_not_sink}
use Rattle.brick.proofs.MayHosting.{all_goes}
use Rattle.brick.proofs.Refusing.{not_at}
use Rattle.brick.proofs.programs.work.Goals as goal

pub returns-in-Err : goal.returns-in-Err
returns-in-Err g c =
    let host = g.H.Host in
    let source = g.H.Source.Source in
    let disk = g.H.Disk.Disk in
    let before = host_seen (host.faults c.args.host.now) (host.asked c.args.host.now) (host.holds c.args.host.now) in
    let after = host_seen (host.faults c.find_layout.new.host) (host.asked c.find_layout.new.host) (host.holds c.find_layout.new.host) in
    let said = c.in-Err.ensures in
    record {
      works = record { found = Err c.in-Err.ending; between = after; finds = said.found; goes_on = (refl, refl, refl) };
      stays = said.stays;
      sink = Kept-narrower (λ e. absurd (not_at c.args.words.work c.in-Err.ending
          (found_not_sink source.told source.faults before after c.args.words.layout.now c.in-Err.ending said.found) e)) (Kept-refl _ _);
      done = λ s sink may. found_done source.told disk.tells disk.seen source.faults before after c.args.words.layout.now c.args.words.name.now
          c.args.words.work c.in-Err.ending said.found may (λ e. said.source s (ap (λ z. Err z) e)) (λ e. said.missing s (ap (λ z. Err z) e));
    }

pub returns-in-Format : goal.returns-in-Format
returns-in-Format g c =
    let host = g.H.Host in
    let source = g.H.Source.Source in
    let d = g.H.Disk.Disk in
    let l = g.H.Link.Link in
    let k = g.H.Clock.Clock in
    let v = views d l k in
    let e = streams g.H.Source.Source g.H.Input.Source g.H.Output.Sink in
    let before = host_seen (host.faults c.args.host.now) (host.asked c.args.host.now) (host.holds c.args.host.now) in
    let between = host_seen (host.faults c.find_layout.new.host) (host.asked c.find_layout.new.host) (host.holds c.find_layout.new.host) in
    let after = host_seen (host.faults c.format.new.host) (host.asked c.format.new.host) (host.holds c.format.new.host) in
    let found = c.in-Ok.ensures in
    let made = c.format.ensures in
    record {
      works = record {
        found = Ok c.in-Ok.layout;
        between = between;
        finds = found.found;
        goes_on = subst (λ (w : Work). DoesWork e v c.in-Ok.layout c.args.words.name.now w between after (g.K.Sink.told c.args.out.now)
            (g.K.Sink.told c.args.out.now) c.format.result) (sym c.in-Format.is)
            (made.formats, refl);
      };
      stays = λ s. made.stays (found.stays s);
      sink = Kept-narrower (λ e. made.sink (subst (λ (w : Work). FailsAt w c.format.result) c.in-Format.is e)) (Kept-refl _ _);
      done = λ s sink may. format_done source.told d.tells d.seen source.faults d.may_leave d.faults before between after c.args.words.layout.now
          c.args.words.name.now c.args.words.work c.in-Format.id c.in-Ok.layout c.format.result c.in-Format.is found.found may made.formats
          (made.disk (found.stays s)) (made.taken (found.stays s));
    }

pub returns-in-Serve : goal.returns-in-Serve
returns-in-Serve g c =
    let host = g.H.Host in
    let source = g.H.Source.Source in
    let d = g.H.Disk.Disk in
    let l = g.H.Link.Link in
    let k = g.H.Clock.Clock in
    let v = views d l k in
    let e = streams g.H.Source.Source g.H.Input.Source g.H.Output.Sink in
    let before = host_seen (host.faults c.args.host.now) (host.asked c.args.host.now) (host.holds c.args.host.now) in
    let between = host_seen (host.faults c.find_layout.new.host) (host.asked c.find_layout.new.host) (host.holds c.find_layout.new.host) in
    let after = host_seen (host.faults c.serve.new.host) (host.asked c.serve.new.host) (host.holds c.serve.new.host) in
    let found = c.in-Ok.ensures in
    let served = c.serve.ensures in
    record {
      works = record {
        found = Ok c.in-Ok.layout;
        between = between;
        finds = found.found;
        goes_on = subst (λ (w : Work). DoesWork e v c.in-Ok.layout c.args.words.name.now w between after (g.K.Sink.told c.args.out.now)
            (g.K.Sink.told c.serve.new.out) c.serve.result) (sym c.in-Serve.is) served.serves;
      };
      stays = λ s. served.stays (found.stays s);
      sink = Kept-narrower (λ e. subst (λ (w : Work). FailsAt w c.serve.result) c.in-Serve.is e) served.sink;
      done = λ s sink may.
          let goes = serve_goes source.told d.tells d.seen source.faults before between c.args.words.layout.now c.args.words.name.now c.args.words.work
          c.in-Serve.id c.in-Serve.turns c.in-Ok.layout c.in-Serve.is found.found may in
          served.done (found.stays s) sink goes.0 goes.1;
    }

pub returns-in-HostAll : goal.returns-in-HostAll
returns-in-HostAll g c =
    let host = g.H.Host in
    let source = g.H.Source.Source in
    let d = g.H.Disk.Disk in
    let l = g.H.Link.Link in
    let k = g.H.Clock.Clock in
    let v = views d l k in
    let e = streams g.H.Source.Source g.H.Input.Source g.H.Output.Sink in
    let before = host_seen (host.faults c.args.host.now) (host.asked c.args.host.now) (host.holds c.args.host.now) in
    let between = host_seen (host.faults c.find_layout.new.host) (host.asked c.find_layout.new.host) (host.holds c.find_layout.new.host) in
    let after = host_seen (host.faults c.host_all.new.host) (host.asked c.host_all.new.host) (host.holds c.host_all.new.host) in
    let found = c.in-Ok.ensures in
    let hosted = c.host_all.ensures in
    record {
      works = record {
        found = Ok c.in-Ok.layout;
        between = between;
        finds = found.found;
        goes_on = subst (λ (w : Work). DoesWork e v c.in-Ok.layout c.args.words.name.now w between after (g.K.Sink.told c.args.out.now)
            (g.K.Sink.told c.host_all.new.out) c.host_all.result) (sym c.in-HostAll.is) hosted.hosts;
      };
      stays = λ s. hosted.stays (found.stays s);
      sink = Kept-narrower (λ e. subst (λ (w : Work). FailsAt w c.host_all.result) c.in-HostAll.is e) hosted.sink;
      done = λ s sink may. hosted.done (found.stays s) sink (all_goes source.told d.tells d.seen source.faults before between c.args.words.layout.now
          c.args.words.name.now c.args.words.work c.in-HostAll.task c.in-Ok.layout c.in-HostAll.is found.found may);
    }
