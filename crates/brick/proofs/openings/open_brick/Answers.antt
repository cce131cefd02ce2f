-- A brick was opened, or the first call or store that was refused ends it.
use Rattle.std.proofs.Common.{false, Err, inl, inr, refl, sym, ap, ◌∙◌, subst}
use Rattle.std.specs.Prelude.{⊤}
use Rattle.fab_host.specs.declared.hosts.Asked.TheVariants as calls
use Rattle.fab_host.specs.Held.{IsMissing}
use Rattle.fab_host.specs.Holdings.{with_link}
use Rattle.brick.specs.Endings.{status_of, IsDone}
use Rattle.brick.specs.Hosts.{host_seen, IsLent, IsRefused}
use Rattle.brick.specs.Views.{views}
use Rattle.brick.proofs.Completing.{here_missing}
use Rattle.brick.proofs.Lending.{lends_told}
use Rattle.brick.proofs.Refusing.{refused_by, refused_done, refused_not_sink}
use Rattle.brick.proofs.Returning.{lent_starts_brick}
use Rattle.brick.proofs.Starting.{left_by}
use Rattle.brick.proofs.openings.open_brick.Goals as goal

pub returns-in-Err : goal.returns-in-Err
returns-in-Err g c =
    let host = g.H.Host in
    let before = host_seen (host.faults c.args.host.now) (host.asked c.args.host.now) (host.holds c.args.host.now) in
    let after = host_seen (host.faults c.disk.new.self) (host.asked c.disk.new.self) (host.holds c.disk.new.self) in
    let fault = c.in-Err.fault in
    let said = c.in-Err.ensures in
    let name = c.args.name.now in
    record {
      opens = tt;
      refuses = subst (IsRefused before after (calls.Disk name false)) (sym c.refusal.ensures)
          (refused_by before after (calls.Disk name false) _ _ fault said.asked (said.lends refl) said.kept.later (λ e. said.kept.rose (ap (λ z. Err z) e)));
      stays = λ s. (said.kept.stays s, tt);
      sink = λ six. refused_not_sink fault (ap status_of (sym c.refusal.ensures) ∙ six);
      done = λ s has. subst IsDone (sym c.refusal.ensures)
          (refused_done (host.holds c.args.host.now) fault has (λ e. said.kept.only s (ap (λ z. Err z) e))
          (λ h p q. here_missing (h.disks name) p.disk p.held (q.0 refl)));
    }

pub returns-in-Err-start : goal.returns-in-Err-start
returns-in-Err-start g c =
    let host = g.H.Host in
    let d = g.H.Disk.Disk in
    let lends = c.in-Ok.ensures in
    let said = c.in-Err-start.ensures in
    record {
      opens = tt;
      refuses = record {
        disk = c.in-Ok.disk;
        between = host_seen (host.faults c.disk.new.self) (host.asked c.disk.new.self) (host.holds c.disk.new.self);
        lends = record { asked = lends.asked; later = lends.kept.later; told = lends_told _ _ _ _ _ _ (lends.lends refl) };
        refused = inl (said.refuses, refl);
      };
      stays = λ s. (lends.kept.stays s, said.sound (lends.gives s));
      sink = said.sink;
      done = λ s has. said.done (lends.gives s) (lent_starts_brick d.tells d.seen c.args.layout.now c.args.me _ _ c.args.name.now c.in-Ok.disk
          (lends_told _ _ _ _ _ _ (lends.lends refl)) has).0;
    }

pub returns-in-Err-link : goal.returns-in-Err-link
returns-in-Err-link g c =
    let host = g.H.Host in
    let d = g.H.Disk.Disk in
    let lends = c.in-Ok.ensures in
    let began = c.in-Ok-start.ensures in
    let fault = c.in-Err-link.fault in
    let said = c.in-Err-link.ensures in
    let kept = c.into_disk.ensures in
    let started = began.starts in
    let between = host_seen (host.faults c.disk.new.self) (host.asked c.disk.new.self) (host.holds c.disk.new.self) in
    let after = host_seen (host.faults c.link.new.self) (host.asked c.link.new.self) (host.holds c.link.new.self) in
    let port = c.port_of.ensures.value in
    record {
      opens = tt;
      refuses = record {
        disk = c.in-Ok.disk;
        between = between;
        lends = record { asked = lends.asked; later = lends.kept.later; told = lends_told _ _ _ _ _ _ (lends.lends refl) };
        refused = inr (record {
          node = c.in-Ok-start.node;
          started = started;
          refused = subst (λ p. IsRefused between after (calls.Link p) c.refusal-in-Err-link.result) port
              (subst (IsRefused between after (calls.Link c.port_of.result)) (sym c.refusal-in-Err-link.ensures)
              (refused_by between after (calls.Link c.port_of.result) _ _ fault said.asked said.lends said.kept.later
              (λ e. said.kept.rose (ap (λ z. Err z) e))));
          left = left_by (views d g.H.Link.Link g.H.Clock.Clock) c.args.layout.now c.args.me c.in-Ok-start.node c.into_disk.result ⊤ kept.disk
              started.layout_is started.me_is (λ tells whole. kept.stands tells started.runs);
        });
      };
      stays = λ s. (said.kept.stays (lends.kept.stays s), subst d.sound (sym kept.disk) (began.sound (lends.gives s)));
      sink = λ six. refused_not_sink fault (ap status_of (sym c.refusal-in-Err-link.ensures) ∙ six);
      done = λ s has.
          let there = lent_starts_brick d.tells d.seen c.args.layout.now c.args.me _ _ c.args.name.now c.in-Ok.disk
          (lends_told _ _ _ _ _ _ (lends.lends refl)) has in
          subst IsDone (sym c.refusal-in-Err-link.ensures)
          (refused_done (host.holds c.disk.new.self) fault there.1 (λ e. said.kept.only (lends.kept.stays s) (ap (λ z. Err z) e))
          (λ h p q. p (subst (λ n. IsMissing (h.links n)) port q)));
    }

pub returns-in-Ok-link : goal.returns-in-Ok-link
returns-in-Ok-link g c =
    let host = g.H.Host in
    let lends = c.in-Ok.ensures in
    let began = c.in-Ok-start.ensures in
    let said = c.in-Ok-link.ensures in
    let between = host_seen (host.faults c.disk.new.self) (host.asked c.disk.new.self) (host.holds c.disk.new.self) in
    let after = host_seen (host.faults c.link.new.self) (host.asked c.link.new.self) (host.holds c.link.new.self) in
    record {
      opens = record {
        disk = c.in-Ok.disk;
        between = between;
        lends = record { asked = lends.asked; later = lends.kept.later; told = lends_told _ _ _ _ _ _ (lends.lends refl) };
        started = began.starts;
        links = subst (λ p. IsLent between after (calls.Link p) (λ h. h.links p) (λ h. with_link h p) c.in-Ok-link.link) c.port_of.ensures.value
            (record { asked = said.asked; later = said.kept.later; told = lends_told _ _ _ _ _ _ said.lends });
      };
      stays = λ s. (said.kept.stays (lends.kept.stays s), (began.sound (lends.gives s), said.gives (lends.kept.stays s)));
      refuses = tt;
      sink = tt;
      done = λ s has. tt;
    }
