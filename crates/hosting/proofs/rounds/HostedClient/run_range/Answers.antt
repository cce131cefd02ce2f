use Rattle.std.proofs.Common.{◌≡◌, ◌+◌, ◌-◌, [], Err, IfErr, inl, inr, arith}
use Rattle.std.proofs.lemmas.Result.{err_from_is_err_and}
use Rattle.fab_io.proofs.Told.{Stays-refl}
use Rattle.fab_base.proofs.Keeping.{Kept-trans, Kept-calm}
use Rattle.hosting.specs.Rounds.{KeepsBricks, StopsRange, told}
use Rattle.serving.proofs.Looks.{Looked-none}
use Rattle.hosting.proofs.Hearing.{IsRunning-first, IsRunning-more, asking_is}
use Rattle.hosting.proofs.Stopping.{link-other, at_exit, Keeps, Keeps-later, Keeps-stop, StopsRange-none, StopsRange-later}
use Rattle.hosting.proofs.rounds.HostedClient.run_range.Goals as goal

pub loop-standing-init : goal.loop-standing-init
loop-standing-init g c =
    let before = told (g.L.Link.waiting c.args.self.now.end.link) (g.L.Link.sent c.args.self.now.end.link) in
    let after = told (g.L.Link.waiting c.ask_next.new.self.link) (g.L.Link.sent c.ask_next.new.self.link) in
    record {
      runs = IsRunning-first g.B.Bricks.takes c.args.port c.args.range c.args.self.now.end.sent c.args.self.now.turns
          (record { sent = c.ask_next.new.self.sent; range = c.args.range }) before after c.args.self.now.bricks
          (asking_is c.args.self.now.end.sent c.ask_next.new.self.sent c.args.range c.in_ok-standing.ensures.sent)
          c.ask_next.ensures.waiting c.in_ok-standing.ensures.asks;
      stands = c.in_ok-standing.ensures.stands;
      parts = c.requires.parts;
      stays = λ s. s;
      few = omega (arith, c.in_ok-standing.ensures.few);
      kept = Kept-calm c.ask_next.ensures.kept;
    }

pub loop-standing-preserved : goal.loop-standing-preserved
loop-standing-preserved g c =
    let once = c.in_ok-standing-2.ensures.hears in
    let left : c.loop-standing.self.turns ≡ c.loop-standing.self.turns - 1 + 1 = omega (arith, c.if-self-eq0.false) in
    record {
      runs = IsRunning-more _ _ _ _ _ _ _ _ _ _ _ _ _ _ _ once.0 c.loop-standing.invariant.runs left c.in_ok-take_turns.ensures.takes once.1;
      stands = c.in_ok-standing-2.ensures.stands;
      parts = c.in_ok-standing-2.ensures.parts;
      stays = λ s. c.take_turns.ensures.stays (c.loop-standing.invariant.stays s);
      few = omega (arith, c.loop-standing.invariant.few, c.in_ok-standing-2.ensures.few, c.if-self-eq0.false);
      kept = Kept-trans c.loop-standing.invariant.kept (Kept-calm c.hear_once.ensures.kept);
    }

-- ---- where it is stopped

pub returns-in_err-standing-clause-stopped : goal.returns-in_err-standing-clause-stopped
returns-in_err-standing-clause-stopped g c =
    let q = err_from_is_err_and c.from_residual.result c.from_residual.ensures.1 in
    let before = told (g.L.Link.waiting c.args.self.now.end.link) (g.L.Link.sent c.args.self.now.end.link) in
    let after = told (g.L.Link.waiting c.ask_next.new.self.link) (g.L.Link.sent c.ask_next.new.self.link) in
    at_exit c.from_residual.result c.in_err-standing.field-0.0
    (λ r. IfErr r (StopsRange g.B.Bricks.takes g.B.Bricks.stops c.args.port c.args.range c.args.self.now.end.sent c.args.self.now.turns before after c.args.self.now.bricks c.args.self.now.bricks)) q.0 q.1 q.2
    (StopsRange-none g.B.Bricks.takes g.B.Bricks.stops c.args.port c.args.range c.args.self.now.end.sent c.args.self.now.turns before after c.args.self.now.bricks
    c.in_err-standing.field-0.0 c.in_err-standing.ensures.waiting c.in_err-standing.ensures.unsent (link-other _ c.in_err-standing.ensures.only))

pub returns-in_err-standing-clause-bricks : goal.returns-in_err-standing-clause-bricks
returns-in_err-standing-clause-bricks g c =
    let q = err_from_is_err_and c.from_residual.result c.from_residual.ensures.1 in
    at_exit c.from_residual.result c.in_err-standing.field-0.0 (KeepsBricks g.B.Bricks.sound c.args.self.now.bricks c.args.self.now.bricks) q.0 q.1 q.2
    (Keeps g.B.Bricks.sound _ _ (Err c.in_err-standing.field-0.0) (λ s. s) (link-other _ c.in_err-standing.ensures.only))

pub returns-in_err-take_turns-clause-stopped : goal.returns-in_err-take_turns-clause-stopped
returns-in_err-take_turns-clause-stopped g c =
    let q = err_from_is_err_and c.from_residual-in_err-take_turns.result c.from_residual-in_err-take_turns.ensures.1 in
    let before = told (g.L.Link.waiting c.args.self.now.end.link) (g.L.Link.sent c.args.self.now.end.link) in
    let now = told (g.L.Link.waiting c.loop-standing.self.end.link) (g.L.Link.sent c.loop-standing.self.end.link) in
    at_exit c.from_residual-in_err-take_turns.result c.in_err-take_turns.field-0.0
    (λ r. IfErr r (StopsRange g.B.Bricks.takes g.B.Bricks.stops c.args.port c.args.range c.args.self.now.end.sent c.args.self.now.turns before now c.args.self.now.bricks c.take_turns.new.self)) q.0 q.1 q.2
    (StopsRange-later g.B.Bricks.takes g.B.Bricks.stops c.args.port c.args.range c.args.self.now.end.sent _ _ _ before now now c.args.self.now.bricks
    c.loop-standing.self.bricks c.take_turns.new.self [] c.in_err-take_turns.field-0.0 c.loop-standing.invariant.runs (omega arith) (Looked-none _ _ (Stays-refl _)) (Stays-refl _)
    (inl c.in_err-take_turns.ensures.takes))

pub returns-in_err-take_turns-clause-bricks : goal.returns-in_err-take_turns-clause-bricks
returns-in_err-take_turns-clause-bricks g c =
    let q = err_from_is_err_and c.from_residual-in_err-take_turns.result c.from_residual-in_err-take_turns.ensures.1 in
    at_exit c.from_residual-in_err-take_turns.result c.in_err-take_turns.field-0.0 (KeepsBricks g.B.Bricks.sound c.args.self.now.bricks c.take_turns.new.self) q.0 q.1 q.2
    (Keeps-later g.B.Bricks.sound _ c.loop-standing.self.bricks _ (Err c.in_err-take_turns.field-0.0) c.loop-standing.invariant.stays
    (Keeps-stop g.B.Bricks.sound c.loop-standing.self.bricks c.take_turns.new.self c.in_err-take_turns.field-0.0 c.in_err-take_turns.ensures.stays c.in_err-take_turns.ensures.never))

pub returns-in_err-standing-2-clause-stopped : goal.returns-in_err-standing-2-clause-stopped
returns-in_err-standing-2-clause-stopped g c =
    let q = err_from_is_err_and c.from_residual-in_err-standing-2.result c.from_residual-in_err-standing-2.ensures.1 in
    let before = told (g.L.Link.waiting c.args.self.now.end.link) (g.L.Link.sent c.args.self.now.end.link) in
    let now = told (g.L.Link.waiting c.loop-standing.self.end.link) (g.L.Link.sent c.loop-standing.self.end.link) in
    let after = told (g.L.Link.waiting c.hear_once.new.self.link) (g.L.Link.sent c.hear_once.new.self.link) in
    let lost = c.in_err-standing-2.ensures.lost in
    at_exit c.from_residual-in_err-standing-2.result c.in_err-standing-2.field-0.0
    (λ r. IfErr r (StopsRange g.B.Bricks.takes g.B.Bricks.stops c.args.port c.args.range c.args.self.now.end.sent c.args.self.now.turns before after c.args.self.now.bricks c.take_turns.new.self)) q.0 q.1 q.2
    (StopsRange-later g.B.Bricks.takes g.B.Bricks.stops c.args.port c.args.range c.args.self.now.end.sent _ _ _ before now after c.args.self.now.bricks
    c.loop-standing.self.bricks c.take_turns.new.self lost.0 c.in_err-standing-2.field-0.0 c.loop-standing.invariant.runs lost.1 lost.2 c.in_err-standing-2.ensures.unsent
    (inr (link-other _ c.in_err-standing-2.ensures.only, inr c.in_ok-take_turns.ensures.takes)))

pub returns-in_err-standing-2-clause-bricks : goal.returns-in_err-standing-2-clause-bricks
returns-in_err-standing-2-clause-bricks g c =
    let q = err_from_is_err_and c.from_residual-in_err-standing-2.result c.from_residual-in_err-standing-2.ensures.1 in
    at_exit c.from_residual-in_err-standing-2.result c.in_err-standing-2.field-0.0 (KeepsBricks g.B.Bricks.sound c.args.self.now.bricks c.take_turns.new.self) q.0 q.1 q.2
    (Keeps g.B.Bricks.sound _ _ (Err c.in_err-standing-2.field-0.0) (λ s. c.take_turns.ensures.stays (c.loop-standing.invariant.stays s)) (link-other _ c.in_err-standing-2.ensures.only))
