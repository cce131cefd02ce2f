-- The operations send again, and then the proposal.
use Rattle.std.proofs.Common.{◌++◌, List, sym, ◌∙◌, ap}
use Rattle.std.proofs.lemmas.List.{append-nil, map-append}
use Rattle.fab_base.specs.declared.identities.BrickId.{BrickId}
use Rattle.messages.specs.declared.packets.Message.{Message}
use Rattle.protocol.specs.Nodes.{ballot_resent, ticked}
use Rattle.node.specs.Proposals.{proposal_in}
use Rattle.coord_phase.specs.Messages.{packets_from}
use Rattle.node.specs.States.{parts_with, state_with}
use Rattle.node.proofs.open_work.OpenWork.on_tick.Goals as goal

pub returns-clause-packets : goal.returns-clause-packets
unfolding ticked state_with
returns-clause-packets c = λ layout kept work.
    let me : BrickId = c.args.self.now.calls.me in
    let operations = c.in_ok-messages.messages.items in
    let last = c.in_ok-last.last.items in
    ap (λ (items : List (BrickId × Message)). packets_from me items) c.in_ok-append.ensures.items
    ∙ map-append (λ (m : BrickId × Message). record { from = me; to = m.0; message = m.1 }) operations last
    ∙ (λ i. c.in_ok-messages.ensures.packets layout (parts_with kept c.args.self.now.proposals) work.calls i
    ++ (c.in_ok-last.ensures.packets me ∙ sym (append-nil (ballot_resent me (proposal_in c.args.self.now.proposals.under_way)))) i)
