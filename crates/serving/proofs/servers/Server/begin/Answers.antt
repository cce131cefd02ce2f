-- The client's room is under the number of the brick's next call.
use Rattle.std.proofs.Common.{ℕ, Option, Some, None, sym, ap, ◌∙◌, arith}
use Rattle.protocol.specs.Nodes.{Node, put}
use Rattle.stripe_code.specs.Codes.{coding}
use Rattle.node.specs.Running.{state_of}
use Rattle.serving.specs.declared.clients.Client.{Client}
use Rattle.serving.specs.Clients.{waiting_in}
use Rattle.serving.proofs.Waiting.{invoked-next, put-back}
use Rattle.serving.proofs.servers.Server.begin.Goals as goal

pub unreachable-requires : goal.unreachable-requires
unreachable-requires g c =
    let node = c.args.node.now in
    let next = invoked-next (coding node.layout) node.me c.args.now (state_of node) c.args.ask.now c.in-Ok.ensures.refused in
    let seq = c.in-Ok.ensures.begun.seq in
    let none = c.in_default.ensures in
    let fits = c.number_of.ensures.fits in
    let value = c.number_of.ensures.value in
    none (omega (arith, next, seq, fits, value))

pub returns-in-Ok-invoke-clause-waits : goal.returns-in-Ok-invoke-clause-waits
returns-in-Ok-invoke-clause-waits g c =
    let node = c.args.node.now in
    let next = invoked-next (coding node.layout) node.me c.args.now (state_of node) c.args.ask.now c.in-Ok-invoke.ensures.refused in
    c.in_ok-add.ensures.added
    ∙ ap (λ (k : ℕ). put (waiting_in c.args.self.now.clients) k (Some c.args.client))
    (c.in-Some.ensures.1 ∙ sym (ap (λ (n : Node). n.seq) c.in-Ok-invoke.ensures.begun.state_is ∙ next))

pub returns-in-Err-invoke-clause-err : goal.returns-in-Err-invoke-clause-err
returns-in-Err-invoke-clause-err g c =
    let above = c.in-Some.ensures.1 in (
      c.take.ensures.taken ∙ ap (λ (w : ℕ → Option Client). put w c.in-Some.seq None) c.in_ok-add.ensures.added
          ∙ put-back (waiting_in c.args.self.now.clients) c.in-Some.seq (Some c.args.client) (c.requires.fresh c.in-Some.seq (omega (arith, above))),
      c.in-Err-invoke.ensures.err,
    )
