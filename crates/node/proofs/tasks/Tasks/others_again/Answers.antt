-- What is under way beside the synchronisation sends again, and then the read.
use Rattle.std.proofs.Common.{◌≡◌, ◌++◌, List, Option, Some, refl, sym, ◌∙◌, ap, subst}
use Rattle.std.specs.Option.{option_map}
use Rattle.std.proofs.lemmas.List.{map-append}
use Rattle.fab_base.specs.declared.identities.BrickId.{BrickId}
use Rattle.messages.specs.declared.packets.Message.{Message}
use Rattle.protocol.specs.Nodes.{ticked}
use Rattle.stripe_code.specs.Codes.{coding}
use Rattle.coord_phase.specs.Messages.{packets_from}
use Rattle.node.specs.declared.jobs.OpenJob.{OpenJob}
use Rattle.node.specs.Jobs.{reading_in, reading_of, with_reading}
use Rattle.node.specs.Operations.{coordinator_of}
use Rattle.node.specs.States.{state_in, state_with}
use Rattle.node.specs.Tasks.{IsJobIn}
use Rattle.node.proofs.Beside.{ticked_beside}
use Rattle.node.proofs.tasks.Tasks.others_again.Goals as goal

pub returns-in_default-clause-packets : goal.returns-in_default-clause-packets
unfolding state_with
returns-in_default-clause-packets c = λ layout kept are.
    let tasks = c.args.self.now in
    let me = tasks.work.calls.me in
    c.in_ok-messages.ensures.packets layout kept are.work_is
    ∙ ap (λ (j : Option OpenJob). ticked (coding layout) me (with_reading (reading_in j) (state_in kept tasks.work))) (sym c.in_default.is)

pub returns-clause-packets : goal.returns-clause-packets
unfolding state_with
returns-clause-packets c = λ layout kept are.
    let tasks = c.args.self.now in
    let me = tasks.work.calls.me in
    let held : OpenJob = c.in-Some.open in
    let here : tasks.job ≡ Some held = c.in-Some.is in
    let at = subst (λ (j : Option OpenJob). IsJobIn layout tasks.work.calls j) here are.job_is in
    let first = c.in_ok-messages.messages.items in
    let last = c.in_ok-read.read.items in
    ap (λ (items : List (BrickId × Message)). packets_from me items) c.in_ok-append.ensures.items
    ∙ map-append (λ (m : BrickId × Message). record { from = me; to = m.0; message = m.1 }) first last
    ∙ (λ i. c.in_ok-messages.ensures.packets layout kept are.work_is i ++ c.in_ok-read.ensures.packets layout me at.open_is i)
    ∙ sym (ticked_beside (coding layout) me (reading_of held) (state_in kept tasks.work) refl refl (ap (option_map coordinator_of) at.apart))
    ∙ ap (λ (j : Option OpenJob). ticked (coding layout) me (with_reading (reading_in j) (state_in kept tasks.work))) (sym here)
