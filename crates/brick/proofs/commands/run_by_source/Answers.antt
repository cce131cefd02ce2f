-- Standard input is lent for the commands.
use Rattle.std.proofs.Common.{Err, inl, inr, refl, sym, ap, ◌∙◌, subst}
use Rattle.fab_base.proofs.Keeping.{Kept-refl, Kept-narrower}
use Rattle.fab_host.specs.declared.hosts.Asked.TheVariants as calls
use Rattle.brick.specs.Endings.{status_of, IsDone}
use Rattle.brick.specs.Hosts.{host_seen, IsRefused}
use Rattle.brick.specs.Locals.{standard_input}
use Rattle.brick.proofs.Knowing.{source_borrowed, source_known, knows_same}
use Rattle.brick.proofs.Lending.{lends_told, regains_told}
use Rattle.brick.proofs.Refusing.{err_knows, refused_by, refused_done, refused_not_sink}
use Rattle.brick.proofs.SameBricks.{keeps_none}
use Rattle.brick.proofs.commands.run_by_source.Goals as goal

pub keep_source-requires : goal.keep_source-requires
keep_source-requires g c = source_known _ standard_input _ _ (lends_told _ _ _ _ _ _ c.in-Ok.ensures.lends)

pub returns-in-Err : goal.returns-in-Err
returns-in-Err g c =
    let host = g.H.Host in
    let before = host_seen (host.faults c.args.host.now) (host.asked c.args.host.now) (host.holds c.args.host.now) in
    let after = host_seen (host.faults c.source.new.self) (host.asked c.source.new.self) (host.holds c.source.new.self) in
    let fault = c.in-Err.fault in
    let said = c.in-Err.ensures in
    record {
      hosts = inl (
        subst (IsRefused before after (calls.Source standard_input)) (sym c.refusal.ensures)
            (refused_by before after (calls.Source standard_input) _ _ fault said.asked said.lends said.kept.later (λ e. said.kept.rose (ap (λ z. Err z) e))),
        refl,
        refl,
        refl,
      );
      keeps = keeps_none _ _ _ c.args.bricks c.args.link c.refusal.result;
      knows = err_knows _ _ _ _ fault said.lends;
      stays = said.kept.stays;
      sink = Kept-narrower (λ e. absurd (refused_not_sink fault (ap status_of (sym c.refusal.ensures) ∙ e))) (Kept-refl _ _);
      done = λ s sound link sink has. subst IsDone (sym c.refusal.ensures)
          (refused_done (host.holds c.args.host.now) fault has (λ e. said.kept.only s (ap (λ z. Err z) e)) (λ h p q. p q));
    }

pub returns : goal.returns
returns g c =
    let ran = c.run-bricks in
    record {
      hosts = inr (
        c.in-Ok.source,
        ran.new.source,
        record {
          began = host_seen (g.H.Host.faults c.source.new.self) (g.H.Host.asked c.source.new.self) (g.H.Host.holds c.source.new.self);
          ended = host_seen (g.H.Host.faults c.source.new.self) (g.H.Host.asked c.source.new.self) (g.H.Host.holds c.source.new.self);
          lends = record {
            asked = c.in-Ok.ensures.asked;
            later = c.in-Ok.ensures.kept.later;
            told = lends_told _ _ _ _ _ _ c.in-Ok.ensures.lends;
          };
          does = (refl, ran.ensures.runs);
          asked = c.keep_source.ensures.asked;
          faults = c.keep_source.ensures.faults;
          regains = regains_told _ _ _ c.keep_source.ensures.holds;
        },
      );
      keeps = ran.ensures.keeps;
      knows = source_borrowed _ standard_input ran.new.source _ _ _ _ (lends_told _ _ _ _ _ _ c.in-Ok.ensures.lends) (knows_same _)
          (regains_told _ _ _ c.keep_source.ensures.holds);
      stays = λ s. c.keep_source.ensures.sound (ran.ensures.source (c.in-Ok.ensures.gives s)) (c.in-Ok.ensures.kept.stays s);
      sink = ran.ensures.sink;
      done = λ s sound link sink has. ran.ensures.done sound link (c.in-Ok.ensures.gives s) sink;
    }
