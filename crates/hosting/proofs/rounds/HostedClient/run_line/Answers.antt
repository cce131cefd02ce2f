use Rattle.std.proofs.Common.{Bool, Err, Some, IfErr, sym, ap, ◌∙◌, subst}
use Rattle.std.proofs.lemmas.Result.{err_from_is_err_and}
use Rattle.fab_io.specs.Ends.{AppendsFront}
use Rattle.fab_base.proofs.Keeping.{Kept-narrower}
use Rattle.hosting.specs.declared.faults.HostFault.TheVariants.{ClientLink, Sink, NoMemory}
use Rattle.lines.specs.Lines.{content}
use Rattle.hosting.specs.Commands.{line_of}
use Rattle.hosting.specs.Faults.{AtSink}
use Rattle.hosting.specs.Hosting.{printed, StopsLine}
use Rattle.hosting.specs.Rounds.{KeepsBricks, told}
use Rattle.hosting.proofs.Exits.{kept_other, sink-not_link, command-not_sink, sink_call}
use Rattle.hosting.proofs.Running.{RunsLine-bad, RunsLine-nothing}
use Rattle.hosting.proofs.Stopping.{sink-other, sink_others, at_exit, at_met, if_err, written_front, Keeps, Keeps-moved, StopsLine-none, StopsLine-bad, StopsLine-command, StopsLine-answer}
use Rattle.hosting.proofs.rounds.HostedClient.run_line.Goals as goal

pub returns-in_err-refuse_line-in-None-clause-link : goal.returns-in_err-refuse_line-in-None-clause-link
returns-in_err-refuse_line-in-None-clause-link g c =
    let q = err_from_is_err_and c.from_residual-in_err-refuse_line-in-None.result c.from_residual-in_err-refuse_line-in-None.ensures.1 in
    kept_other _ _ _ ClientLink _ _ q.1 q.2 (sink-not_link _ c.in_err-refuse_line-in-None.ensures.only)

pub returns-in_err-answer-in-Some-Run-clause-sink : goal.returns-in_err-answer-in-Some-Run-clause-sink
returns-in_err-answer-in-Some-Run-clause-sink g c =
    let q = err_from_is_err_and c.from_residual-in_err-answer-in-Some-Run.result c.from_residual-in_err-answer-in-Some-Run.ensures.1 in
    kept_other _ _ _ Sink _ _ q.1 q.2 (command-not_sink _ c.in_err-answer-in-Some-Run.ensures.only)

pub returns-in_ok-refuse_line-in-None-clause-runs : goal.returns-in_ok-refuse_line-in-None-clause-runs
returns-in_ok-refuse_line-in-None-clause-runs g c =
    RunsLine-bad _ _ _ _ _ (told (g.L.Link.waiting c.args.self.now.end.link) (g.L.Link.sent c.args.self.now.end.link)) _ _ _ _
    (ap line_of (sym c.content_of.ensures) ∙ sym c.in_ok-parse.ensures ∙ c.in-None.is) c.in_ok-refuse_line-in-None.ensures.content

pub returns-in-Some-Nothing-clause-runs : goal.returns-in-Some-Nothing-clause-runs
returns-in-Some-Nothing-clause-runs g c =
    RunsLine-nothing _ _ _ _ _ (told (g.L.Link.waiting c.args.self.now.end.link) (g.L.Link.sent c.args.self.now.end.link)) _ _ _
    (ap line_of (sym c.content_of.ensures) ∙ sym c.in_ok-parse.ensures ∙ c.in-Some-Nothing.is ∙ ap Some c.in-Some-Nothing.field-0-is)

pub returns-in_ok-answer-in-Some-Run-clause-link : goal.returns-in_ok-answer-in-Some-Run-clause-link
returns-in_ok-answer-in-Some-Run-clause-link g c =
    Kept-narrower (λ e. absurd (sink_call c.print_answer.result c.print_answer.ensures.only e)) c.run_command.ensures.kept

-- ---- where it is stopped

pub returns-in_err-parse-clause-stopped : goal.returns-in_err-parse-clause-stopped
returns-in_err-parse-clause-stopped g c =
    let q = err_from_is_err_and c.from_residual.result c.from_residual.ensures.1 in
    let at = told (g.L.Link.waiting c.args.self.now.end.link) (g.L.Link.sent c.args.self.now.end.link) in
    let sink = g.K.Sink.told c.args.sink.now in
    at_exit c.from_residual.result NoMemory
    (λ r. IfErr r (StopsLine g.B.Bricks.takes g.B.Bricks.stops c.args.layout.now c.args.number c.args.self.now.end.sent c.args.self.now.turns at at c.args.self.now.bricks c.args.self.now.bricks sink sink (line_of (content c.args.line.now)))) q.0 q.1 q.2
    (StopsLine-none g.B.Bricks.takes g.B.Bricks.stops c.args.layout.now c.args.number c.args.self.now.end.sent c.args.self.now.turns at c.args.self.now.bricks sink (line_of (content c.args.line.now)) NoMemory tt)

pub returns-in_err-parse-clause-bricks : goal.returns-in_err-parse-clause-bricks
returns-in_err-parse-clause-bricks g c =
    let q = err_from_is_err_and c.from_residual.result c.from_residual.ensures.1 in
    at_exit c.from_residual.result NoMemory (KeepsBricks g.B.Bricks.sound c.args.self.now.bricks c.args.self.now.bricks) q.0 q.1 q.2
    (Keeps g.B.Bricks.sound _ _ (Err NoMemory) (λ s. s) tt)

pub returns-in_err-refuse_line-in-None-clause-stopped : goal.returns-in_err-refuse_line-in-None-clause-stopped
returns-in_err-refuse_line-in-None-clause-stopped g c =
    let q = err_from_is_err_and c.from_residual-in_err-refuse_line-in-None.result c.from_residual-in_err-refuse_line-in-None.ensures.1 in
    let at = told (g.L.Link.waiting c.args.self.now.end.link) (g.L.Link.sent c.args.self.now.end.link) in
    let met = c.in_err-refuse_line-in-None.field-0.0 in
    at_exit c.from_residual-in_err-refuse_line-in-None.result met
    (λ r. IfErr r (StopsLine g.B.Bricks.takes g.B.Bricks.stops c.args.layout.now c.args.number c.args.self.now.end.sent c.args.self.now.turns at at c.args.self.now.bricks c.args.self.now.bricks
    (g.K.Sink.told c.args.sink.now) (g.K.Sink.told c.refuse_line.new.sink) (line_of (content c.args.line.now)))) q.0 q.1 q.2
    (StopsLine-bad g.B.Bricks.takes g.B.Bricks.stops c.args.layout.now c.args.number c.args.self.now.end.sent c.args.self.now.turns at c.args.self.now.bricks (g.K.Sink.told c.args.sink.now)
    (g.K.Sink.told c.refuse_line.new.sink) (line_of (content c.args.line.now)) met (ap line_of (sym c.content_of.ensures) ∙ sym c.in_ok-parse.ensures ∙ c.in-None.is)
    (sink-other met c.in_err-refuse_line-in-None.ensures.only) c.in_err-refuse_line-in-None.ensures.content)

pub returns-in_err-refuse_line-in-None-clause-bricks : goal.returns-in_err-refuse_line-in-None-clause-bricks
returns-in_err-refuse_line-in-None-clause-bricks g c =
    let q = err_from_is_err_and c.from_residual-in_err-refuse_line-in-None.result c.from_residual-in_err-refuse_line-in-None.ensures.1 in
    let met = c.in_err-refuse_line-in-None.field-0.0 in
    at_exit c.from_residual-in_err-refuse_line-in-None.result met (KeepsBricks g.B.Bricks.sound c.args.self.now.bricks c.args.self.now.bricks) q.0 q.1 q.2
    (Keeps g.B.Bricks.sound _ _ (Err met) (λ s. s) (sink-other met c.in_err-refuse_line-in-None.ensures.only))

pub returns-in_err-answer-in-Some-Run-clause-stopped : goal.returns-in_err-answer-in-Some-Run-clause-stopped
returns-in_err-answer-in-Some-Run-clause-stopped g c =
    let q = err_from_is_err_and c.from_residual-in_err-answer-in-Some-Run.result c.from_residual-in_err-answer-in-Some-Run.ensures.1 in
    let before = told (g.L.Link.waiting c.args.self.now.end.link) (g.L.Link.sent c.args.self.now.end.link) in
    let after = told (g.L.Link.waiting c.run_command.new.self.end.link) (g.L.Link.sent c.run_command.new.self.end.link) in
    let sink = g.K.Sink.told c.args.sink.now in
    let met = c.in_err-answer-in-Some-Run.field-0.0 in
    at_exit c.from_residual-in_err-answer-in-Some-Run.result met
    (λ r. IfErr r (StopsLine g.B.Bricks.takes g.B.Bricks.stops c.args.layout.now c.args.number c.args.self.now.end.sent c.args.self.now.turns before after c.args.self.now.bricks c.run_command.new.self.bricks
    sink sink (line_of (content c.args.line.now)))) q.0 q.1 q.2
    (StopsLine-command g.B.Bricks.takes g.B.Bricks.stops c.args.layout.now c.in-Some-Run.command c.args.number c.args.self.now.end.sent c.args.self.now.turns before after c.args.self.now.bricks
    c.run_command.new.self.bricks sink (line_of (content c.args.line.now)) met
    (ap line_of (sym c.content_of.ensures) ∙ sym c.in_ok-parse.ensures ∙ c.in-Some-Run.is ∙ ap Some c.in-Some-Run.field-0-is) c.in_err-answer-in-Some-Run.ensures.stopped)

pub returns-in_err-answer-in-Some-Run-clause-bricks : goal.returns-in_err-answer-in-Some-Run-clause-bricks
returns-in_err-answer-in-Some-Run-clause-bricks g c =
    let q = err_from_is_err_and c.from_residual-in_err-answer-in-Some-Run.result c.from_residual-in_err-answer-in-Some-Run.ensures.1 in
    let met = c.in_err-answer-in-Some-Run.field-0.0 in
    at_exit c.from_residual-in_err-answer-in-Some-Run.result met (KeepsBricks g.B.Bricks.sound c.args.self.now.bricks c.run_command.new.self.bricks) q.0 q.1 q.2
    (Keeps-moved g.B.Bricks.sound _ _ met c.in_err-answer-in-Some-Run.ensures.bricks)

pub returns-in_ok-answer-in-Some-Run-clause-stopped : goal.returns-in_ok-answer-in-Some-Run-clause-stopped
returns-in_ok-answer-in-Some-Run-clause-stopped g c =
    let before = told (g.L.Link.waiting c.args.self.now.end.link) (g.L.Link.sent c.args.self.now.end.link) in
    let after = told (g.L.Link.waiting c.run_command.new.self.end.link) (g.L.Link.sent c.run_command.new.self.end.link) in
    let runs = c.in_ok-answer-in-Some-Run.ensures.runs in
    if_err c.print_answer.result
    (λ met is. StopsLine-answer g.B.Bricks.takes g.B.Bricks.stops c.args.layout.now c.in-Some-Run.command c.args.number c.args.self.now.end.sent _ _ _ before after c.args.self.now.bricks
    c.run_command.new.self.bricks (g.K.Sink.told c.args.sink.now) (g.K.Sink.told c.print_answer.new.sink) (line_of (content c.args.line.now)) c.in_ok-answer-in-Some-Run.answer runs.0 met
    (ap line_of (sym c.content_of.ensures) ∙ sym c.in_ok-parse.ensures ∙ c.in-Some-Run.is ∙ ap Some c.in-Some-Run.field-0-is) runs.1 runs.2
    (sink-other met (at_met c.print_answer.result met AtSink is c.print_answer.ensures.only)) (subst (λ (b : Bool). AppendsFront (g.K.Sink.told c.args.sink.now) (g.K.Sink.told c.print_answer.new.sink) (printed b c.in_ok-answer-in-Some-Run.answer)) c.reads.ensures
    (written_front (g.K.Sink.told c.args.sink.now) (g.K.Sink.told c.print_answer.new.sink) (printed c.reads.result c.in_ok-answer-in-Some-Run.answer) c.print_answer.result met is
    c.print_answer.ensures.content)))

pub returns-in_ok-answer-in-Some-Run-clause-bricks : goal.returns-in_ok-answer-in-Some-Run-clause-bricks
returns-in_ok-answer-in-Some-Run-clause-bricks g c =
    Keeps g.B.Bricks.sound _ _ c.print_answer.result c.run_command.ensures.bricks.stays (sink_others c.print_answer.result c.print_answer.ensures.only)
