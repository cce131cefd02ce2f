-- What was counted is taken back.
use Rattle.std.proofs.Common.{ℕ, refl, subst}
use Rattle.messages.specs.declared.packets.Message.TheVariants as message
use Rattle.node.specs.declared.open_work.Turn.{Turn}
use Rattle.node.specs.Moves.{HasCounted, IsTurn}
use Rattle.node.proofs.Turns.{counted_back}
use Rattle.node.proofs.open_work.OpenWork.take_back.Goals as goal

pub returns-in-Counted-clause-state : goal.returns-in-Counted-clause-state
returns-in-Counted-clause-state c = λ layout from call reply before seq is kept.
    let mid = c.args.self.now in
    counted_back layout from call reply before mid (record { calls = c.take_back.new.self; proposals = mid.proposals })
    (subst (λ (turn : Turn). IsTurn layout from call reply before turn mid) c.in-Counted.is is) refl
    (λ b has. c.take_back.ensures.state from (message.Reply call reply) b
    (subst (λ (s : ℕ). HasCounted s from (message.Reply call reply) b mid.calls) seq has)) kept

pub returns-in-Counted-clause-same : goal.returns-in-Counted-clause-same
returns-in-Counted-clause-same c = λ layout.
    let same = c.take_back.ensures.same layout in
    record { me = same.me; boot = same.boot; of = λ of. record { calls = same.of of.calls; proposing = of.proposing } }
