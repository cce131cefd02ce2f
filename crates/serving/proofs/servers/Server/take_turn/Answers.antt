-- A turn, by its look, its reading of the clock, and what was done.
use Rattle.std.proofs.Common.{[], ◌∷◌, arith}
use Rattle.std.proofs.lemmas.Result.{err_from_is_err_and}
use Rattle.fab_io.proofs.Told.{Passes-none}
use Rattle.stripe_code.specs.Codes.{coding}
use Rattle.serving.specs.Serves.{outside, TakesTurn}
use Rattle.serving.specs.Turns.{Turn}
use Rattle.serving.specs.Views.{serving_of}
use Rattle.serving.proofs.Ends.{at_exit, link-not_halted, clock-not_halted}
use Rattle.serving.proofs.OneTurn.{turn_taken, turn_stopped, read_as}
use Rattle.serving.proofs.Taking.{StopsBefore-look, Stops-early}
use Rattle.serving.proofs.Waiting.{Does-keeps}
use Rattle.serving.proofs.servers.Server.take_turn.Goals as goal

pub returns-in_err-incoming-clause-turn : goal.returns-in_err-incoming-clause-turn
returns-in_err-incoming-clause-turn g c =
    let q = err_from_is_err_and c.from_residual.result c.from_residual.ensures.1 in
    let node = c.args.node.now in
    let lost = c.in_err-incoming.ensures.lost in
    let now = g.C.Clock.coming c.args.clock.now in
    let before = outside (g.L.Link.waiting c.args.link.now) (g.L.Link.sent c.args.link.now) now in
    let after = outside (g.L.Link.waiting c.look.new.link) (g.L.Link.sent c.look.new.link) now in
    at_exit c.from_residual.result c.in_err-incoming.field-0.0
    (TakesTurn (coding node.layout) node.me (serving_of c.args.self.now node) (serving_of c.args.self.now node) before after) q.0 q.1 q.2
    (Stops-early (coding node.layout) node.me _ _ before after c.in_err-incoming.field-0.0 (link-not_halted c.in_err-incoming.field-0.0 c.in_err-incoming.ensures.only)
    (StopsBefore-look (coding node.layout) node.me (serving_of c.args.self.now node) before after lost.0 lost.1 lost.2 (Passes-none now)
    c.in_err-incoming.ensures.sent))

pub returns-in_err-now-clause-turn : goal.returns-in_err-now-clause-turn
returns-in_err-now-clause-turn g c =
    let q = err_from_is_err_and c.from_residual-in_err-now.result c.from_residual-in_err-now.ensures.1 in
    let node = c.args.node.now in
    let came = c.in_ok-incoming.ensures.came in
    let before = outside (g.L.Link.waiting c.args.link.now) (g.L.Link.sent c.args.link.now) (g.C.Clock.coming c.args.clock.now) in
    let after = outside (g.L.Link.waiting c.look.new.link) (g.L.Link.sent c.look.new.link) (g.C.Clock.coming c.read_clock.new.clock) in
    at_exit c.from_residual-in_err-now.result c.in_err-now.field-0.0
    (TakesTurn (coding node.layout) node.me (serving_of c.args.self.now node) (serving_of c.args.self.now node) before after) q.0 q.1 q.2
    (Stops-early (coding node.layout) node.me _ _ before after c.in_err-now.field-0.0 (clock-not_halted c.in_err-now.field-0.0 c.in_err-now.ensures.only)
    (StopsBefore-look (coding node.layout) node.me (serving_of c.args.self.now node) before after (came.0 ∷ []) (omega arith) came.1 c.in_err-now.ensures.gives
    c.in_ok-incoming.ensures.sent))

pub returns-in_err-handle-clause-turn : goal.returns-in_err-handle-clause-turn
returns-in_err-handle-clause-turn g c =
    let q = err_from_is_err_and c.from_residual-in_err-handle.result c.from_residual-in_err-handle.ensures.1 in
    let node = c.args.node.now in
    let came = c.in_ok-incoming.ensures.came in
    let turn : Turn = record { came = came.0; incoming = c.in_ok-incoming.incoming; now = c.in_ok-now.now } in
    let before = outside (g.L.Link.waiting c.args.link.now) (g.L.Link.sent c.args.link.now) (g.C.Clock.coming c.args.clock.now) in
    let after = outside (g.L.Link.waiting c.handle.new.link) (g.L.Link.sent c.handle.new.link) (g.C.Clock.coming c.read_clock.new.clock) in
    at_exit c.from_residual-in_err-handle.result c.in_err-handle.field-0.0
    (TakesTurn (coding node.layout) node.me (serving_of c.args.self.now node)
    (serving_of c.handle.new.self c.handle.new.node) before after) q.0 q.1 q.2
    (turn_stopped (coding node.layout) node.me (serving_of c.args.self.now node) (serving_of c.handle.new.self c.handle.new.node) before after
    (g.L.Link.waiting c.look.new.link) (g.L.Link.sent c.look.new.link) turn
    (read_as _ _ _ _ _ _ c.requires.server.ports c.requires.server.me came.2) came.1 c.in_ok-incoming.ensures.sent c.in_ok-now.ensures.gives
    c.in_err-handle.ensures.waiting c.handle.result c.in_err-handle.field-0.0 c.in_err-handle.was c.handle.ensures.does)

pub returns-clause-turn : goal.returns-clause-turn
returns-clause-turn g c =
    let node = c.args.node.now in
    let came = c.in_ok-incoming.ensures.came in
    let turn : Turn = record { came = came.0; incoming = c.in_ok-incoming.incoming; now = c.in_ok-now.now } in
    let before = outside (g.L.Link.waiting c.args.link.now) (g.L.Link.sent c.args.link.now) (g.C.Clock.coming c.args.clock.now) in
    let after = outside (g.L.Link.waiting c.handle.new.link) (g.L.Link.sent c.handle.new.link) (g.C.Clock.coming c.read_clock.new.clock) in (
      turn,
      turn_taken (coding node.layout) node.me (serving_of c.args.self.now node) (serving_of c.handle.new.self c.handle.new.node) before after
          (g.L.Link.waiting c.look.new.link) (g.L.Link.sent c.look.new.link) turn
          (read_as _ _ _ _ _ _ c.requires.server.ports c.requires.server.me came.2) came.1 c.in_ok-incoming.ensures.sent c.in_ok-now.ensures.gives
          c.in_ok-handle.ensures.waiting c.in_ok-handle.field-0 c.in_ok-handle.ensures.does,
      c.malformed_count.ensures.value,
    )

-- no client waits for a call that was not made, whether it was stopped or not
pub returns-in_err-handle-clause-fresh : goal.returns-in_err-handle-clause-fresh
returns-in_err-handle-clause-fresh g c =
    let node = c.args.node.now in
    Does-keeps (coding node.layout) node.me (serving_of c.args.self.now node) (serving_of c.handle.new.self c.handle.new.node) c.in_ok-incoming.incoming
    c.in_ok-now.now _ _ c.handle.result c.requires.fresh c.handle.ensures.does

pub returns-clause-fresh : goal.returns-clause-fresh
returns-clause-fresh g c =
    let node = c.args.node.now in
    Does-keeps (coding node.layout) node.me (serving_of c.args.self.now node) (serving_of c.handle.new.self c.handle.new.node) c.in_ok-incoming.incoming
    c.in_ok-now.now _ _ c.handle.result c.requires.fresh c.handle.ensures.does
