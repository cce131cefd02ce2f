-- A session is lent, and its client is served.
use Rattle.std.proofs.Common.{Err, inl, inr, refl, sym, ap, subst}
use Rattle.fab_host.specs.declared.hosts.Asked.TheVariants as calls
use Rattle.brick.specs.Endings.{IsDone}
use Rattle.brick.specs.Hosts.{host_seen, IsRefused}
use Rattle.brick.specs.Views.{session_of}
use Rattle.brick.proofs.Knowing.{session_borrowed, session_known, knows_same}
use Rattle.brick.proofs.Lending.{lends_told, regains_told}
use Rattle.brick.proofs.Refusing.{err_knows, refused_by, refused_done}
use Rattle.brick.proofs.SameBricks.{keeps_none}
use Rattle.brick.proofs.commands.run_by_session.Goals as goal

pub keep_session-requires : goal.keep_session-requires
keep_session-requires g c = session_known _ c.args.port _ _ (lends_told _ _ _ _ _ _ c.in-Ok.ensures.lends)

pub returns-in-Err : goal.returns-in-Err
returns-in-Err g c =
    let host = g.H.Host in
    let before = host_seen (host.faults c.args.host.now) (host.asked c.args.host.now) (host.holds c.args.host.now) in
    let after = host_seen (host.faults c.session.new.self) (host.asked c.session.new.self) (host.holds c.session.new.self) in
    let fault = c.in-Err.fault in
    let said = c.in-Err.ensures in
    record {
      hosts = inl (
        subst (IsRefused before after (calls.Session c.args.port)) (sym c.refusal.ensures)
            (refused_by before after (calls.Session c.args.port) _ _ fault said.asked said.lends said.kept.later (λ e. said.kept.rose (ap (λ z. Err z) e))),
        refl,
        refl,
      );
      keeps = keeps_none _ _ _ c.args.bricks c.args.link c.refusal.result;
      knows = err_knows _ _ _ _ fault said.lends;
      stays = said.kept.stays;
      done = λ s sound link has. subst IsDone (sym c.refusal.ensures)
          (refused_done (host.holds c.args.host.now) fault has (λ e. said.kept.only s (ap (λ z. Err z) e)) (λ h p q. p q));
    }

pub returns : goal.returns
returns g c =
    let ran = c.serve-bricks in
    let gives = c.in-Ok.ensures.gives in
    let back = session_of ran.new.source ran.new.sink in
    record {
      hosts = inr (
        c.in-Ok.session,
        back,
        record {
          began = host_seen (g.H.Host.faults c.session.new.self) (g.H.Host.asked c.session.new.self) (g.H.Host.holds c.session.new.self);
          ended = host_seen (g.H.Host.faults c.session.new.self) (g.H.Host.asked c.session.new.self) (g.H.Host.holds c.session.new.self);
          lends = record {
            asked = c.in-Ok.ensures.asked;
            later = c.in-Ok.ensures.kept.later;
            told = lends_told _ _ _ _ _ _ c.in-Ok.ensures.lends;
          };
          does = (refl, ran.ensures.runs);
          asked = c.keep_session.ensures.asked;
          faults = c.keep_session.ensures.faults;
          regains = regains_told _ _ _ c.keep_session.ensures.holds;
        },
      );
      keeps = ran.ensures.keeps;
      knows = session_borrowed _ c.args.port back _ _ _ _ (lends_told _ _ _ _ _ _ c.in-Ok.ensures.lends) (knows_same _)
          (regains_told _ _ _ c.keep_session.ensures.holds);
      stays = λ s. c.keep_session.ensures.sound (ran.ensures.source (gives s).0) (ran.ensures.sink (gives s).1) (c.in-Ok.ensures.kept.stays s);
      done = λ s sound link has. ran.ensures.done sound link (gives s).0 (gives s).1;
    }
