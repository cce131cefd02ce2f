-- A session is served on by each step, until it ends or is stopped.
use Rattle.std.proofs.Common.{◌++◌, length, drop, length-append, Err, IfErr, ap, arith, rules}
use Rattle.std.proofs.lemmas.List.{length-take, length-drop}
use Rattle.std.proofs.lemmas.Result.{err_from_is_err_and}
use Rattle.fab_base.proofs.Keeping.{Kept-refl, Kept-trans, Kept-calm, Kept-narrower}
use Rattle.hosting.specs.declared.faults.HostFault.{HostFault}
use Rattle.hosting.specs.declared.faults.HostFault.TheVariants.{ClientLink, Source, Sink, NoMemory}
use Rattle.hosting.specs.Rounds.{KeepsBricks, told}
use Rattle.hosting.proofs.Exits.{was_met, ok_not}
use Rattle.hosting.proofs.Stopping.{at_exit, Keeps, Keeps-later, Keeps-moved}
use Rattle.nbd_hosting.specs.Serving.{outside, ServesUntil}
use Rattle.nbd_hosting.proofs.Standings.{IsServing-begun, Until-none}
use Rattle.nbd_hosting.proofs.sessions.serve.Goals as goal

pub returns-in_err-room-clause-stopped : goal.returns-in_err-room-clause-stopped
returns-in_err-room-clause-stopped g c =
    let q = err_from_is_err_and c.from_residual.result c.from_residual.ensures.1 in
    let client = c.args.client.now in
    let before = outside (g.S.Source.told c.args.source.now) (told (g.L.Link.waiting client.end.link) (g.L.Link.sent client.end.link)) client.bricks
    (g.K.Sink.told c.args.sink.now) in
    at_exit c.from_residual.result NoMemory (λ r. IfErr r (ServesUntil g.B.Bricks.takes g.B.Bricks.stops c.args.layout.now client.turns before before)) q.0 q.1 q.2
    (Until-none g.B.Bricks.takes c.args.layout.now client.turns before g.B.Bricks.stops NoMemory tt)

pub loop-room-init : goal.loop-room-init
loop-room-init g c =
    let client = c.args.client.now in
    let before = outside (g.S.Source.told c.args.source.now) (told (g.L.Link.waiting client.end.link) (g.L.Link.sent client.end.link)) client.bricks
    (g.K.Sink.told c.args.sink.now) in
    record {
      serving = IsServing-begun g.B.Bricks.takes c.args.layout.now client.turns before c.new-session.result client.end.sent c.new-session.ensures.begun
          c.new-session.ensures.within c.requires.begins;
      many = search rules;
      stays = λ s. s;
      link = Kept-refl _ _;
      source = Kept-refl _ _;
      sink = Kept-refl _ _;
    }

pub loop-room-preserved : goal.loop-room-preserved
loop-room-preserved g c =
    let client = c.args.client.now in
    let before = outside (g.S.Source.told c.args.source.now) (told (g.L.Link.waiting client.end.link) (g.L.Link.sent client.end.link)) client.bricks
    (g.K.Sink.told c.args.sink.now) in
    let goes = rw c.in_default.is at c.in_ok-end.ensures.serves in
    let on = goes client.turns before c.loop-room.invariant.serving in
    let items = c.loop-room.room.items in
    let filled = c.take_step.new.room in
    record {
      serving = on.0;
      many = omega (
        arith,
        length-take c.loop-room.room.len (filled ++ drop (length filled) items),
        length-append filled (drop (length filled) items),
        length-drop (length filled) items,
        c.loop-room.invariant.many,
        c.take_step.auto.room,
        c.loop-room.room.ok.0,
      );
      stays = λ s. c.take_step.ensures.bricks.stays (c.loop-room.invariant.stays s);
      link = Kept-trans c.loop-room.invariant.link (Kept-calm c.take_step.ensures.link);
      source = Kept-trans c.loop-room.invariant.source (Kept-calm c.take_step.ensures.source);
      sink = Kept-trans c.loop-room.invariant.sink (Kept-calm c.take_step.ensures.sink);
    }

pub loop-room-smaller : goal.loop-room-smaller
loop-room-smaller g c =
    let client = c.args.client.now in
    let before = outside (g.S.Source.told c.args.source.now) (told (g.L.Link.waiting client.end.link) (g.L.Link.sent client.end.link)) client.bricks
    (g.K.Sink.told c.args.sink.now) in
    let goes = rw c.in_default.is at c.in_ok-end.ensures.serves in
    let on = goes client.turns before c.loop-room.invariant.serving in
    on.1

-- the turns that are left, and that of its request, leave room for the datagrams of a command
pub take_step-requires-clause-few : goal.take_step-requires-clause-few
take_step-requires-clause-few g c = let few = c.loop-room.invariant.serving.few in omega (arith, few)

pub take_step-requires-clause-some : goal.take_step-requires-clause-some
take_step-requires-clause-some g c = let many = c.loop-room.invariant.many in omega (arith, many)

pub returns-in-Some-clause-serves : goal.returns-in-Some-clause-serves
returns-in-Some-clause-serves g c =
    let client = c.args.client.now in
    let before = outside (g.S.Source.told c.args.source.now) (told (g.L.Link.waiting client.end.link) (g.L.Link.sent client.end.link)) client.bricks
    (g.K.Sink.told c.args.sink.now) in
    let ends = rw c.in-Some.is at c.in_ok-end.ensures.serves in
    ends client.turns before c.loop-room.invariant.serving

pub returns-in-Some-clause-bricks : goal.returns-in-Some-clause-bricks
returns-in-Some-clause-bricks g c =
    Keeps g.B.Bricks.sound _ _ _ (λ s. c.take_step.ensures.bricks.stays (c.loop-room.invariant.stays s)) tt

pub returns-in-Some-clause-link : goal.returns-in-Some-clause-link
returns-in-Some-clause-link g c =
    Kept-narrower (ok_not _ ClientLink) (Kept-trans c.loop-room.invariant.link (Kept-calm c.take_step.ensures.link))

pub returns-in-Some-clause-source : goal.returns-in-Some-clause-source
returns-in-Some-clause-source g c =
    Kept-narrower (ok_not _ Source) (Kept-trans c.loop-room.invariant.source (Kept-calm c.take_step.ensures.source))

pub returns-in-Some-clause-sink : goal.returns-in-Some-clause-sink
returns-in-Some-clause-sink g c =
    Kept-narrower (ok_not _ Sink) (Kept-trans c.loop-room.invariant.sink (Kept-calm c.take_step.ensures.sink))

-- ---- where it is stopped

pub returns-in_err-end-clause-stopped : goal.returns-in_err-end-clause-stopped
returns-in_err-end-clause-stopped g c =
    let q = err_from_is_err_and c.from_residual-in_err-end.result c.from_residual-in_err-end.ensures.1 in
    let client = c.args.client.now in
    let later = c.take_step.new.client in
    let met = c.in_err-end.field-0.0 in
    let before = outside (g.S.Source.told c.args.source.now) (told (g.L.Link.waiting client.end.link) (g.L.Link.sent client.end.link)) client.bricks
    (g.K.Sink.told c.args.sink.now) in
    let now = outside (g.S.Source.told c.take_step.new.source) (told (g.L.Link.waiting later.end.link) (g.L.Link.sent later.end.link)) later.bricks
    (g.K.Sink.told c.take_step.new.sink) in
    at_exit c.from_residual-in_err-end.result met (λ r. IfErr r (ServesUntil g.B.Bricks.takes g.B.Bricks.stops c.args.layout.now client.turns before now)) q.0 q.1 q.2
    (c.in_err-end.ensures.serves client.turns before c.loop-room.invariant.serving)

pub returns-in_err-end-clause-bricks : goal.returns-in_err-end-clause-bricks
returns-in_err-end-clause-bricks g c =
    let q = err_from_is_err_and c.from_residual-in_err-end.result c.from_residual-in_err-end.ensures.1 in
    let met = c.in_err-end.field-0.0 in
    at_exit c.from_residual-in_err-end.result met (KeepsBricks g.B.Bricks.sound c.args.client.now.bricks c.take_step.new.client.bricks) q.0 q.1 q.2
    (Keeps-later g.B.Bricks.sound _ c.loop-room.client.bricks _ (Err met) c.loop-room.invariant.stays
    (Keeps-moved g.B.Bricks.sound _ _ met c.in_err-end.ensures.bricks))

pub returns-in_err-end-clause-link : goal.returns-in_err-end-clause-link
returns-in_err-end-clause-link g c =
    let q = err_from_is_err_and c.from_residual-in_err-end.result c.from_residual-in_err-end.ensures.1 in
    Kept-trans c.loop-room.invariant.link
    (Kept-narrower (λ e. ap (λ (f : HostFault). Err f) (was_met _ _ _ _ q.1 q.2 e)) c.in_err-end.ensures.link)

pub returns-in_err-end-clause-source : goal.returns-in_err-end-clause-source
returns-in_err-end-clause-source g c =
    let q = err_from_is_err_and c.from_residual-in_err-end.result c.from_residual-in_err-end.ensures.1 in
    Kept-trans c.loop-room.invariant.source
    (Kept-narrower (λ e. ap (λ (f : HostFault). Err f) (was_met _ _ _ _ q.1 q.2 e)) c.in_err-end.ensures.source)

pub returns-in_err-end-clause-sink : goal.returns-in_err-end-clause-sink
returns-in_err-end-clause-sink g c =
    let q = err_from_is_err_and c.from_residual-in_err-end.result c.from_residual-in_err-end.ensures.1 in
    Kept-trans c.loop-room.invariant.sink
    (Kept-narrower (λ e. ap (λ (f : HostFault). Err f) (was_met _ _ _ _ q.1 q.2 e)) c.in_err-end.ensures.sink)
