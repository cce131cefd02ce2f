-- The turn of a server is that of its brick.
use Rattle.std.proofs.Common.{◌≡◌, true, refl, sym, ◌∙◌, subst}
use Rattle.hosting.specs.Hosted.{Hosted, IsTurn}
use Rattle.hosting.proofs.Turning.{IsTurn-taken}
use Rattle.hosting.proofs.hosted_bricks.HostedBrick.take_turn.Goals as goal

pub returns-then-is_halted : goal.returns-then-is_halted
returns-then-is_halted g c = (
  subst (λ (b : Hosted g.row.D.Denot g.row.L.Denot). b.node.brick.halted ≡ true) c.self.view_is (sym c.is_halted.ensures.value ∙ c.if-is_halted.true),
  refl,
  refl,
)

pub invariant_of-self : goal.invariant_of-self
invariant_of-self g c = record { knows = c.take_turn.ensures.server; fresh = c.take_turn.ensures.fresh }

pub returns : goal.returns
returns g c =
    let x = c.self.inside in
    let before : Hosted g.row.D.Denot g.row.L.Denot = record { waiting = x.server.clients.waiting.entries; ticked = x.server.ticked; node = x.node; link = x.link } in
    let after : Hosted g.row.D.Denot g.row.L.Denot = record { waiting = c.take_turn.new.self.clients.waiting.entries; ticked = c.take_turn.new.self.ticked; node = c.take_turn.new.node; link = c.take_turn.new.link } in
    let said = c.take_turn.ensures in
    subst (λ (b : Hosted g.row.D.Denot g.row.L.Denot). IsTurn g.D.Disk g.L.Link g.C.Clock b after c.args.clock.now c.take_turn.new.clock c.take_turn.result)
    c.self.view_is
    (IsTurn-taken g.D.Disk g.L.Link g.C.Clock before after c.args.clock.now c.take_turn.new.clock c.take_turn.result
    (record { turn = said.turn; same = said.same; runs = said.runs; disk = said.disk; link = said.link; times = said.clock }))
