-- By what is asked for.
use Rattle.std.proofs.Common.{◌≡◌, ℕ, ◌⊎◌, Some, subst, sym, ap, ◌∙◌, refl}
use Rattle.replay_words.specs.declared.requests.Request.{Request}
use Rattle.replay_words.specs.declared.requests.Request.TheVariants.{Run, Audit, Make}
use Rattle.replay_words.specs.Requests.{IsLegal}
use Rattle.replay.specs.Replays.{IsDecided}
use Rattle.replay.specs.Audits.{IsAuditDecided}
use Rattle.replay.proofs.Statuses.{decided}
use Rattle.replay.proofs.Auditing.{audit_decided}
use Rattle.replay.proofs.Makings.{make_decided}
use Rattle.replay.proofs.RequestLemmas.{run_ends, audit_ends, as_asked, decided_as_asked}
use Rattle.replay.proofs.programs.answer.Goals as goal

-- a schedule that is asked for is legal
pub make-requires : goal.make-requires
make-requires g c = subst IsLegal c.in-Make.is (c.requires c.in-Some.request c.in-Some.is)

pub returns-in-Run-clause-answers : goal.returns-in-Run-clause-answers
returns-in-Run-clause-answers g c =
    as_asked c.args.request (Some Run) (g.S.Source.told c.args.source.now) (g.S.Source.told c.run.new.source) (g.S.Source.came c.run.new.source)
    (c.run.new.source ≡ c.args.source.now) (g.K.Sink.told c.args.sink.now) (g.K.Sink.told c.run.new.sink) c.status_of.result
    (c.in-Some.is ∙ ap (λ (r : Request). Some r) c.in-Run.is)
    (run_ends _ _ _ _ _ _ c.run.result _ c.run.ensures.output c.run.ensures.reads c.run.ensures.read c.status_of.ensures)

pub returns-in-Run-clause-decided : goal.returns-in-Run-clause-decided
returns-in-Run-clause-decided g c = λ sink.
    let run = c.run.ensures.output in
    decided_as_asked c.args.request (Some Run) (g.S.Source.sound c.args.source.now) (g.S.Source.told c.args.source.now) c.status_of.result
    (c.in-Some.is ∙ ap (λ (r : Request). Some r) c.in-Run.is)
    (λ source. subst (λ (s : ℕ). IsDecided (g.S.Source.told c.args.source.now) s) (sym c.status_of.ensures)
    (decided _ _ _ run.input run.steps c.run.result run.is_input run.steps_are run.printed (λ e. c.run.ensures.source.never source e)
    (λ e. c.run.ensures.sink.never sink e)))

pub returns-in-Audit-clause-answers : goal.returns-in-Audit-clause-answers
returns-in-Audit-clause-answers g c =
    as_asked c.args.request (Some Audit) (g.S.Source.told c.args.source.now) (g.S.Source.told c.audit_input.new.source)
    (g.S.Source.came c.audit_input.new.source) (c.audit_input.new.source ≡ c.args.source.now) (g.K.Sink.told c.args.sink.now)
    (g.K.Sink.told c.audit_input.new.sink) c.status_of-in-Audit.result (c.in-Some.is ∙ ap (λ (r : Request). Some r) c.in-Audit.is)
    (audit_ends _ _ _ _ _ _ c.audit_input.result _ c.audit_input.ensures.output c.audit_input.ensures.reads c.status_of-in-Audit.ensures)

pub returns-in-Audit-clause-decided : goal.returns-in-Audit-clause-decided
returns-in-Audit-clause-decided g c = λ sink.
    decided_as_asked c.args.request (Some Audit) (g.S.Source.sound c.args.source.now) (g.S.Source.told c.args.source.now) c.status_of-in-Audit.result
    (c.in-Some.is ∙ ap (λ (r : Request). Some r) c.in-Audit.is)
    (λ source. subst (λ (s : ℕ). IsAuditDecided (g.S.Source.told c.args.source.now) s) (sym c.status_of-in-Audit.ensures)
    (audit_decided _ _ _ _ _ c.audit_input.ensures.output (λ e. c.audit_input.ensures.source.never source e) (λ e. c.audit_input.ensures.sink.never sink e)))

pub returns-in-Make-clause-answers : goal.returns-in-Make-clause-answers
returns-in-Make-clause-answers g c =
    as_asked c.args.request (Some (Make c.in-Make.seed c.in-Make.lines)) (g.S.Source.told c.args.source.now) (g.S.Source.told c.args.source.now)
    (g.S.Source.came c.args.source.now) (c.args.source.now ≡ c.args.source.now) (g.K.Sink.told c.args.sink.now) (g.K.Sink.told c.make.new.sink)
    c.status_of-in-Make.result (c.in-Some.is ∙ ap (λ (r : Request). Some r) c.in-Make.is)
    (record { ending = c.make.result; status_is = c.status_of-in-Make.ensures; printed = c.make.ensures.prints }, refl)

pub returns-in-Make-clause-decided : goal.returns-in-Make-clause-decided
returns-in-Make-clause-decided g c = λ sink.
    decided_as_asked c.args.request (Some (Make c.in-Make.seed c.in-Make.lines)) (g.S.Source.sound c.args.source.now) (g.S.Source.told c.args.source.now)
    c.status_of-in-Make.result
    (c.in-Some.is ∙ ap (λ (r : Request). Some r) c.in-Make.is)
    (subst (λ (s : ℕ). (s ≡ 0) ⊎ (s ≡ 7)) (sym c.status_of-in-Make.ensures)
    (make_decided _ _ _ _ c.make.result c.make.ensures.prints (λ e. c.make.ensures.kept.never sink e)))
