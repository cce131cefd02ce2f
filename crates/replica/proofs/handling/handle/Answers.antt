-- A message is handled by its kind.
use Rattle.std.proofs.Common.{◌≡◌, false, None, sym, ap, subst, ◌∙◌}
use Rattle.fab_base.specs.declared.member_lists.View.{View}
use Rattle.messages.specs.declared.packets.Message.{Message}
use Rattle.replica.specs.Handling.{me_of, Runs}
use Rattle.replica.specs.Reactions.{IsStep}
use Rattle.replica.proofs.Answering.{keeps_refused}
use Rattle.replica.proofs.Messages.{HandlesMessage, message_none, message_noticed}
use Rattle.replica.proofs.Stepping.{other_ignored}
use Rattle.replica.proofs.handling.handle.Goals as goal

pub returns-then-is_halted-clause-change : goal.returns-then-is_halted-clause-change
returns-then-is_halted-clause-change g c node parts =
    let old = c.args.store.now in
    keeps_refused g.D.Disk g.met.D.Disk.only_now (IsStep c.args.layout.now (me_of old) c.args.from c.args.message.now old.state) old _

pub returns-in-Request : goal.returns-in-Request
returns-in-Request g c =
    subst
    (λ (m : Message). HandlesMessage g.D.Disk c.args.layout.now (me_of c.args.store.now) c.args.from m c.args.store.now c.on_request.new.store
    c.on_request.result)
    (sym c.in-Request.is) c.on_request.ensures

pub returns-in-Learn : goal.returns-in-Learn
returns-in-Learn g c =
    message_noticed g.D.Disk c.args.layout.now c.args.from c.args.message.now _ c.args.store.now c.on_learn.new.store c.on_learn.result c.no_answer.result
    (c.in-Learn.is ∙ ap (λ (v : View). Message.Learn c.in-Learn.group v) (sym c.get.ensures)) c.no_answer.ensures (c.on_learn.ensures c.args.from)

pub returns-in-Synced : goal.returns-in-Synced
returns-in-Synced g c =
    message_noticed g.D.Disk c.args.layout.now c.args.from c.args.message.now _ c.args.store.now c.on_synced.new.store c.on_synced.result
    c.no_answer-in-Synced.result c.in-Synced.is c.no_answer-in-Synced.ensures (c.on_synced.ensures c.args.from)

pub returns-in_default : goal.returns-in_default
returns-in_default g c =
    let old = c.args.store.now in
    let halted : old.halted ≡ false = sym c.is_halted.ensures.value ∙ c.if-is_halted.false in
    let runs : Runs g.D.Disk old = record { runs = halted; stands = λ told. c.is_halted.ensures.stands told halted; ordered = c.is_halted.ensures.ordered } in
    let nothing = other_ignored c.args.layout.now (me_of old) c.args.from old.state c.args.message.now c.in_default.not-Request c.in_default.not-Learn
    c.in_default.not-Synced in
    message_none g.D.Disk g.met.D.Disk.only_now old runs c.args.layout.now (me_of old) c.args.from c.args.message.now None nothing.1
    (λ node parts. nothing.0 node)
