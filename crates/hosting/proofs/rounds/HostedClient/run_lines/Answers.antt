use Rattle.std.proofs.Common.{Err, IfErr, ap, ◌∙◌, arith, inl, inr}
use Rattle.std.proofs.lemmas.Result.{err_from_is_err_and}
use Rattle.fab_base.proofs.Keeping.{Kept-refl, Kept-trans, Kept-calm, Kept-narrower}
use Rattle.hosting.specs.declared.faults.HostFault.{HostFault}
use Rattle.hosting.specs.declared.faults.HostFault.TheVariants.{ClientLink, Source, Sink}
use Rattle.hosting.specs.Hosting.{HostsUntil}
use Rattle.hosting.specs.Rounds.{KeepsBricks, told}
use Rattle.hosting.proofs.Exits.{was_met, not_said, ok_not, source-not_link, source-not_sink, line-not_source}
use Rattle.hosting.proofs.Running.{HasRun-begun, HasRun-whole, Hosts-line, Hosts-none, some_turn, some_byte, line-is, line-some, line-whole}
use Rattle.hosting.proofs.Stopping.{source-other, at_exit, Keeps, Keeps-later, Keeps-moved, HostsUntil-read, HostsUntil-line}
use Rattle.hosting.proofs.rounds.HostedClient.run_lines.Goals as goal
use Rattle.hosting.proofs.rounds.HostedClient.run_lines.Goals.{then-waits-via-then-waits, then-waits-via-else-waits+then-line}

pub loop-line-init : goal.loop-line-init
loop-line-init g c = record {
  run = HasRun-begun _ _ _ _ (told (g.L.Link.waiting c.args.self.now.end.link) (g.L.Link.sent c.args.self.now.end.link)) _ _ _ c.requires.begins;
  stays = λ s. s;
  sent_few = omega (arith, c.requires.begins);
  few = omega arith;
  link = Kept-refl _ _;
  source = Kept-refl _ _;
  sink = Kept-refl _ _;
}

pub returns-in_err-line-clause-link : goal.returns-in_err-line-clause-link
returns-in_err-line-clause-link g c =
    let q = err_from_is_err_and c.from_residual.result c.from_residual.ensures.1 in
    Kept-narrower (not_said _ _ _ ClientLink q.1 q.2 (source-not_link _ c.in_err-line.ensures.only)) c.loop-line.invariant.link

pub returns-in_err-line-clause-source : goal.returns-in_err-line-clause-source
returns-in_err-line-clause-source g c =
    let q = err_from_is_err_and c.from_residual.result c.from_residual.ensures.1 in
    Kept-trans c.loop-line.invariant.source
    (Kept-narrower (λ e. ap (λ (f : HostFault). Err f) (was_met _ _ _ _ q.1 q.2 e)) c.in_err-line.ensures.kept)

pub returns-in_err-line-clause-sink : goal.returns-in_err-line-clause-sink
returns-in_err-line-clause-sink g c =
    let q = err_from_is_err_and c.from_residual.result c.from_residual.ensures.1 in
    Kept-narrower (not_said _ _ _ Sink q.1 q.2 (source-not_sink _ c.in_err-line.ensures.only)) c.loop-line.invariant.sink

pub returns-in_err-waits-clause-link : goal.returns-in_err-waits-clause-link
returns-in_err-waits-clause-link g c =
    let q = err_from_is_err_and c.from_residual-in_err-waits.result c.from_residual-in_err-waits.ensures.1 in
    Kept-trans c.loop-line.invariant.link
    (Kept-narrower (λ e. ap (λ (f : HostFault). Err f) (was_met _ _ _ _ q.1 q.2 e)) c.in_err-waits.ensures.link)

pub returns-in_err-waits-clause-source : goal.returns-in_err-waits-clause-source
returns-in_err-waits-clause-source g c =
    let q = err_from_is_err_and c.from_residual-in_err-waits.result c.from_residual-in_err-waits.ensures.1 in
    Kept-narrower (not_said _ _ _ Source q.1 q.2 (line-not_source _ c.in_err-waits.ensures.only))
    (Kept-trans c.loop-line.invariant.source (Kept-calm c.read_line.ensures.kept))

pub returns-in_err-waits-clause-sink : goal.returns-in_err-waits-clause-sink
returns-in_err-waits-clause-sink g c =
    let q = err_from_is_err_and c.from_residual-in_err-waits.result c.from_residual-in_err-waits.ensures.1 in
    Kept-trans c.loop-line.invariant.sink
    (Kept-narrower (λ e. ap (λ (f : HostFault). Err f) (was_met _ _ _ _ q.1 q.2 e)) c.in_err-waits.ensures.sink)

pub returns-in_default-clause-hosts : goal.returns-in_default-clause-hosts
returns-in_default-clause-hosts g c =
    let read = rw c.in_default.is at c.in_ok-line.ensures.reads in
    Hosts-none _ _ _ _ _ _ _ _ _ _ _ _ _ _ _ _ _ _ c.loop-line.invariant.run read.reads read.answers

pub returns-in_default-clause-link : goal.returns-in_default-clause-link
returns-in_default-clause-link g c = Kept-narrower (ok_not _ ClientLink) c.loop-line.invariant.link

pub returns-in_default-clause-source : goal.returns-in_default-clause-source
returns-in_default-clause-source g c =
    Kept-narrower (ok_not _ Source) (Kept-trans c.loop-line.invariant.source (Kept-calm c.read_line.ensures.kept))

pub returns-in_default-clause-sink : goal.returns-in_default-clause-sink
returns-in_default-clause-sink g c = Kept-narrower (ok_not _ Sink) c.loop-line.invariant.sink

pub returns-in_default-clause-bricks : goal.returns-in_default-clause-bricks
returns-in_default-clause-bricks g c = Keeps g.B.Bricks.sound _ _ _ c.loop-line.invariant.stays tt

pub returns-then-waits-clause-hosts : goal.returns-then-waits-clause-hosts
returns-then-waits-clause-hosts g c =
    let read = rw c.in-Some.is at c.in_ok-line.ensures.reads in
    let runs = c.in_ok-waits.ensures.runs in
    Hosts-line _ _ _ _ _ _ (told (g.L.Link.waiting c.args.self.now.end.link) (g.L.Link.sent c.args.self.now.end.link)) _ _ _ _ _ _ _ _ _ _ _ _ _ _ _ _ _ _ _ c.loop-line.invariant.run read.reads
    (c.as_slice.ensures.value ∙ read.answers.0) read.answers.1 runs
    (elim c.then-waits.branch [
      | then-waits-via-then-waits w ↦ inr (runs.used w.if-waits.true)
      | then-waits-via-else-waits+then-line w ↦ inl w.if-line.true
    ])

pub returns-then-waits-clause-link : goal.returns-then-waits-clause-link
returns-then-waits-clause-link g c =
    Kept-narrower (ok_not _ ClientLink) (Kept-trans c.loop-line.invariant.link (Kept-calm c.run_line.ensures.link))

pub returns-then-waits-clause-source : goal.returns-then-waits-clause-source
returns-then-waits-clause-source g c =
    Kept-narrower (ok_not _ Source) (Kept-trans c.loop-line.invariant.source (Kept-calm c.read_line.ensures.kept))

pub returns-then-waits-clause-sink : goal.returns-then-waits-clause-sink
returns-then-waits-clause-sink g c =
    Kept-narrower (ok_not _ Sink) (Kept-trans c.loop-line.invariant.sink (Kept-calm c.run_line.ensures.sink))

pub returns-then-waits-clause-bricks : goal.returns-then-waits-clause-bricks
returns-then-waits-clause-bricks g c =
    Keeps g.B.Bricks.sound _ _ _ (λ s. c.run_line.ensures.bricks.stays (c.loop-line.invariant.stays s)) tt

pub loop-line-preserved : goal.loop-line-preserved
loop-line-preserved g c =
    let read = rw c.in-Some.is at c.in_ok-line.ensures.reads in
    let runs = c.in_ok-waits.ensures.runs in
    let whole = line-whole _ _ _ read.answers.1 c.if-line.false in
    let turn = some_turn _ _ read.reads.turns_of (some_byte _ whole) in
    record {
      run = HasRun-whole _ _ _ _ _ _ (told (g.L.Link.waiting c.args.self.now.end.link) (g.L.Link.sent c.args.self.now.end.link)) _ _ _ _ _ _ _ _ _ _ _ _ _ _ _ _ _ _ c.loop-line.invariant.run read.reads
          (c.as_slice.ensures.value ∙ read.answers.0) whole runs c.if-waits.false;
      stays = λ s. c.run_line.ensures.bricks.stays (c.loop-line.invariant.stays s);
      sent_few = omega (arith, c.loop-line.invariant.sent_few, c.in_ok-waits.ensures.few, read.reads.counted, turn);
      few = omega (arith, c.loop-line.invariant.few, read.reads.counted, runs.counted, turn);
      link = Kept-trans c.loop-line.invariant.link (Kept-calm c.run_line.ensures.link);
      source = Kept-trans c.loop-line.invariant.source (Kept-calm c.read_line.ensures.kept);
      sink = Kept-trans c.loop-line.invariant.sink (Kept-calm c.run_line.ensures.sink);
    }

-- the turn that a line takes leaves room for its number, and for the datagrams of its command
pub overflow_add-number : goal.overflow_add-number
overflow_add-number g c =
    let read = rw c.in-Some.is at c.in_ok-line.ensures.reads in
    let turn = some_turn _ _ read.reads.turns_of (line-some _ _ _ read.answers.1) in
    omega (arith, c.loop-line.invariant.few, read.reads.counted, turn)

pub run_line-requires : goal.run_line-requires
run_line-requires g c =
    let read = rw c.in-Some.is at c.in_ok-line.ensures.reads in
    let turn = some_turn _ _ read.reads.turns_of (line-some _ _ _ read.answers.1) in
    omega (arith, c.loop-line.invariant.sent_few, read.reads.counted, turn)

pub loop-line-smaller : goal.loop-line-smaller
loop-line-smaller g c =
    let read = rw c.in-Some.is at c.in_ok-line.ensures.reads in
    let turn = some_turn _ _ read.reads.turns_of (line-some _ _ _ read.answers.1) in
    omega (arith, read.reads.counted, c.in_ok-waits.ensures.runs.counted, turn)

-- ---- where it is stopped

pub returns-in_err-line-clause-stopped : goal.returns-in_err-line-clause-stopped
returns-in_err-line-clause-stopped g c =
    let q = err_from_is_err_and c.from_residual.result c.from_residual.ensures.1 in
    let before = told (g.L.Link.waiting c.args.self.now.end.link) (g.L.Link.sent c.args.self.now.end.link) in
    let now = told (g.L.Link.waiting c.loop-line.self.end.link) (g.L.Link.sent c.loop-line.self.end.link) in
    let reads = c.in_err-line.ensures.reads in
    let met = c.in_err-line.field-0.0 in
    at_exit c.from_residual.result met
    (λ r. IfErr r (HostsUntil g.B.Bricks.takes g.B.Bricks.stops c.args.layout.now c.args.self.now.turns (g.S.Source.told c.args.source.now) (g.S.Source.told c.read_line.new.source)
    before now c.args.self.now.bricks c.loop-line.self.bricks (g.K.Sink.told c.args.sink.now) (g.K.Sink.told c.loop-line.sink))) q.0 q.1 q.2
    (HostsUntil-read g.B.Bricks.takes g.B.Bricks.stops c.args.layout.now c.args.self.now.turns _ _ _ before now _ _ _ _ _ _ _ _ _ reads.line met c.loop-line.invariant.run
    reads.reads reads.answers c.in_err-line.ensures.only)

pub returns-in_err-line-clause-bricks : goal.returns-in_err-line-clause-bricks
returns-in_err-line-clause-bricks g c =
    let q = err_from_is_err_and c.from_residual.result c.from_residual.ensures.1 in
    let met = c.in_err-line.field-0.0 in
    at_exit c.from_residual.result met (KeepsBricks g.B.Bricks.sound c.args.self.now.bricks c.loop-line.self.bricks) q.0 q.1 q.2
    (Keeps g.B.Bricks.sound _ _ (Err met) c.loop-line.invariant.stays (source-other met c.in_err-line.ensures.only))

pub returns-in_err-waits-clause-stopped : goal.returns-in_err-waits-clause-stopped
returns-in_err-waits-clause-stopped g c =
    let q = err_from_is_err_and c.from_residual-in_err-waits.result c.from_residual-in_err-waits.ensures.1 in
    let read = rw c.in-Some.is at c.in_ok-line.ensures.reads in
    let before = told (g.L.Link.waiting c.args.self.now.end.link) (g.L.Link.sent c.args.self.now.end.link) in
    let now = told (g.L.Link.waiting c.loop-line.self.end.link) (g.L.Link.sent c.loop-line.self.end.link) in
    let after = told (g.L.Link.waiting c.run_line.new.self.end.link) (g.L.Link.sent c.run_line.new.self.end.link) in
    let met = c.in_err-waits.field-0.0 in
    at_exit c.from_residual-in_err-waits.result met
    (λ r. IfErr r (HostsUntil g.B.Bricks.takes g.B.Bricks.stops c.args.layout.now c.args.self.now.turns (g.S.Source.told c.args.source.now) (g.S.Source.told c.read_line.new.source)
    before after c.args.self.now.bricks c.run_line.new.self.bricks (g.K.Sink.told c.args.sink.now) (g.K.Sink.told c.run_line.new.sink))) q.0 q.1 q.2
    (HostsUntil-line g.B.Bricks.takes g.B.Bricks.stops c.args.layout.now c.args.self.now.turns _ _ _ before now after _ _ _ _ _ _ _ _ _ _ _ _ _ met c.loop-line.invariant.run
    read.reads (c.as_slice.ensures.value ∙ read.answers.0) (line-is _ _ _ read.answers.1) c.in_err-waits.ensures.stopped)

pub returns-in_err-waits-clause-bricks : goal.returns-in_err-waits-clause-bricks
returns-in_err-waits-clause-bricks g c =
    let q = err_from_is_err_and c.from_residual-in_err-waits.result c.from_residual-in_err-waits.ensures.1 in
    let met = c.in_err-waits.field-0.0 in
    at_exit c.from_residual-in_err-waits.result met (KeepsBricks g.B.Bricks.sound c.args.self.now.bricks c.run_line.new.self.bricks) q.0 q.1 q.2
    (Keeps-later g.B.Bricks.sound _ c.loop-line.self.bricks _ (Err met) c.loop-line.invariant.stays (Keeps-moved g.B.Bricks.sound _ _ met c.in_err-waits.ensures.bricks))
