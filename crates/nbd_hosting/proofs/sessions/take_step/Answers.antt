-- Where a step leads, by what it did.
use Rattle.std.proofs.Common.{sym, subst, ◌∙◌, arith}
use Rattle.std.proofs.lemmas.Result.{err_from_is_err_and}
use Rattle.std.specs.Io.KnownBytes.{Appends}
use Rattle.fab_io.specs.Ends.{AppendsFront}
use Rattle.nbd_front.specs.Sessions.{move_of}
use Rattle.nbd_front.proofs.Leading.{owed_asks}
use Rattle.hosting.specs.declared.faults.HostFault.TheVariants.{NoMemory}
use Rattle.hosting.specs.Rounds.{told}
use Rattle.hosting.proofs.Stopping.{at_exit}
use Rattle.nbd_hosting.specs.Serving.{outside}
use Rattle.nbd_hosting.specs.Steps.{ServesOn}
use Rattle.nbd_hosting.proofs.Standings.{ask_is}
use Rattle.nbd_hosting.proofs.Stepping.{ServesOn-idle, ServesOn-ended, ServesOn-sent, ServesOn-unsent, ServesOn-read, ServesOn-run, asks_then}
use Rattle.nbd_hosting.proofs.sessions.take_step.Goals as goal

pub returns-in_err-next-clause-serves : goal.returns-in_err-next-clause-serves
returns-in_err-next-clause-serves g c =
    let q = err_from_is_err_and c.from_residual.result c.from_residual.ensures.1 in
    let client = c.args.client.now in
    let now = outside (g.S.Source.told c.args.source.now) (told (g.L.Link.waiting client.end.link) (g.L.Link.sent client.end.link)) client.bricks
    (g.K.Sink.told c.args.sink.now) in
    at_exit c.from_residual.result NoMemory
    (ServesOn g.B.Bricks.takes g.B.Bricks.stops c.args.layout.now now now c.args.session.now c.next.new.self client.turns client.turns client.end.sent client.end.sent)
    q.0 q.1 q.2
    (ServesOn-idle g.B.Bricks.takes g.B.Bricks.stops c.args.layout.now now c.args.session.now c.next.new.self client.turns client.end.sent NoMemory tt)

pub returns-in_err-write-in-Send-clause-serves : goal.returns-in_err-write-in-Send-clause-serves
returns-in_err-write-in-Send-clause-serves g c =
    let q = err_from_is_err_and c.from_residual-in_err-write-in-Send.result c.from_residual-in_err-write-in-Send.ensures.1 in
    let client = c.args.client.now in
    let now = outside (g.S.Source.told c.args.source.now) (told (g.L.Link.waiting client.end.link) (g.L.Link.sent client.end.link)) client.bricks
    (g.K.Sink.told c.args.sink.now) in
    let met = c.in_err-write-in-Send.field-0.0 in
    at_exit c.from_residual-in_err-write-in-Send.result met
    (ServesOn g.B.Bricks.takes g.B.Bricks.stops c.args.layout.now now (record now { sink = g.K.Sink.told c.write.new.sink }) c.args.session.now c.next.new.self
    client.turns client.turns client.end.sent client.end.sent)
    q.0 q.1 q.2
    (ServesOn-unsent g.B.Bricks.takes g.B.Bricks.stops c.args.layout.now now c.args.session.now c.next.new.self client.turns client.end.sent
    (g.K.Sink.told c.write.new.sink) c.in-Send.bytes met (sym c.in-Send.is ∙ c.in_ok-next.ensures.step) c.in_ok-next.ensures.after
    (subst (AppendsFront (g.K.Sink.told c.args.sink.now) (g.K.Sink.told c.write.new.sink)) c.as_slice.ensures.value c.in_err-write-in-Send.ensures.content)
    c.in_err-write-in-Send.ensures.only)

pub answer_command-requires-clause-asks : goal.answer_command-requires-clause-asks
answer_command-requires-clause-asks g c =
    asks_then c.args.session.now c.next.new.self (sym c.in-Ask.is ∙ c.in_ok-next.ensures.step) c.in_ok-next.ensures.after

pub answer_command-requires-clause-few : goal.answer_command-requires-clause-few
answer_command-requires-clause-few g c =
    let one = owed_asks c.args.session.now (ask_is (move_of c.args.session.now) (sym c.in-Ask.is ∙ c.in_ok-next.ensures.step)) in
    omega (arith, one, c.requires.few)

pub returns-in-Need-clause-serves : goal.returns-in-Need-clause-serves
returns-in-Need-clause-serves g c =
    let client = c.args.client.now in
    let now = outside (g.S.Source.told c.args.source.now) (told (g.L.Link.waiting client.end.link) (g.L.Link.sent client.end.link)) client.bricks
    (g.K.Sink.told c.args.sink.now) in
    ServesOn-read g.B.Bricks.takes g.B.Bricks.stops c.args.layout.now now (g.S.Source.told c.read_part.new.source) c.args.session.now c.next.new.self
    c.read_part.new.session client.turns c.read_part.new.turns client.end.sent c.read_part.result (sym c.in-Need.is ∙ c.in_ok-next.ensures.step)
    c.in_ok-next.ensures.after c.read_part.ensures.reads c.read_part.ensures.within

pub returns-in_ok-write-in-Send-clause-serves : goal.returns-in_ok-write-in-Send-clause-serves
returns-in_ok-write-in-Send-clause-serves g c =
    let client = c.args.client.now in
    let now = outside (g.S.Source.told c.args.source.now) (told (g.L.Link.waiting client.end.link) (g.L.Link.sent client.end.link)) client.bricks
    (g.K.Sink.told c.args.sink.now) in
    ServesOn-sent g.B.Bricks.takes g.B.Bricks.stops c.args.layout.now now c.args.session.now c.next.new.self client.turns client.end.sent
    (g.K.Sink.told c.write.new.sink) c.in-Send.bytes (sym c.in-Send.is ∙ c.in_ok-next.ensures.step) c.in_ok-next.ensures.after c.in_ok-next.ensures.within
    (subst (Appends (g.K.Sink.told c.args.sink.now) (g.K.Sink.told c.write.new.sink)) c.as_slice.ensures.value c.in_ok-write-in-Send.ensures.content)

pub returns-in-Ask-clause-serves : goal.returns-in-Ask-clause-serves
returns-in-Ask-clause-serves g c =
    let client = c.args.client.now in
    let later = c.answer_command.new.client in
    let now = outside (g.S.Source.told c.args.source.now) (told (g.L.Link.waiting client.end.link) (g.L.Link.sent client.end.link)) client.bricks
    (g.K.Sink.told c.args.sink.now) in
    ServesOn-run g.B.Bricks.takes g.B.Bricks.stops c.args.layout.now now (told (g.L.Link.waiting later.end.link) (g.L.Link.sent later.end.link)) later.bricks
    c.args.session.now c.next.new.self c.answer_command.new.session client.turns later.turns client.end.sent later.end.sent c.answer_command.result
    (sym c.in-Ask.is ∙ c.in_ok-next.ensures.step) c.in_ok-next.ensures.after c.answer_command.ensures.runs c.answer_command.ensures.within

pub returns-in-Ended-clause-serves : goal.returns-in-Ended-clause-serves
returns-in-Ended-clause-serves g c =
    let client = c.args.client.now in
    let now = outside (g.S.Source.told c.args.source.now) (told (g.L.Link.waiting client.end.link) (g.L.Link.sent client.end.link)) client.bricks
    (g.K.Sink.told c.args.sink.now) in
    ServesOn-ended g.B.Bricks.takes g.B.Bricks.stops c.args.layout.now now c.args.session.now c.next.new.self client.turns client.end.sent c.in-Ended.end
    (sym c.in-Ended.is ∙ c.in_ok-next.ensures.step)
