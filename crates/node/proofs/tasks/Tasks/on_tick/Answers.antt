-- What is under way beside the scrub sends again, and then the scrub.
use Rattle.std.proofs.Common.{◌≡◌, ◌++◌, Option, Some, refl, sym, ◌∙◌, ap, subst}
use Rattle.std.proofs.lemmas.List.{map-append}
use Rattle.std.proofs.Common.{List}
use Rattle.fab_base.specs.declared.identities.BrickId.{BrickId}
use Rattle.messages.specs.declared.packets.Message.{Message}
use Rattle.protocol.specs.Nodes.{Node, ticked}
use Rattle.stripe_code.specs.Codes.{coding}
use Rattle.coord_phase.specs.Messages.{packets_from}
use Rattle.node.specs.declared.scrubs.OpenScrub.{OpenScrub}
use Rattle.node.specs.Jobs.{reading_in, with_reading}
use Rattle.node.specs.Scrubs.{scrubbing_in, scrubbing_of, with_scrubbing}
use Rattle.node.specs.States.{state_in, state_with}
use Rattle.node.specs.Tasks.{IsScrubIn}
use Rattle.node.proofs.ScrubCalls.{job_other, scrub_free}
use Rattle.node.proofs.ScrubsBeside.{ticked_beside_scrub}
use Rattle.node.proofs.tasks.Tasks.on_tick.Goals as goal

pub returns-in_default-clause-packets : goal.returns-in_default-clause-packets
unfolding state_with
returns-in_default-clause-packets c = λ layout kept are.
    let tasks = c.args.self.now in
    let me = tasks.work.calls.me in
    c.in_ok-messages.ensures.packets layout kept are
    ∙ ap (λ (s : Option OpenScrub). ticked (coding layout) me (with_scrubbing (scrubbing_in s) (with_reading (reading_in tasks.job) (state_in kept tasks.work))))
    (sym c.in_default.is)

pub returns-clause-packets : goal.returns-clause-packets
unfolding state_with
returns-clause-packets c = λ layout kept are.
    let tasks = c.args.self.now in
    let me = tasks.work.calls.me in
    let held : OpenScrub = c.in-Some.open in
    let here : tasks.scrub ≡ Some held = c.in-Some.is in
    let at = subst (λ (s : Option OpenScrub). IsScrubIn layout tasks.work.calls tasks.job s) here are.scrub_is in
    let node : Node = with_reading (reading_in tasks.job) (state_in kept tasks.work) in
    let first = c.in_ok-messages.messages.items in
    let last = c.in_ok-last.last.items in
    ap (λ (items : List (BrickId × Message)). packets_from me items) c.in_ok-append.ensures.items
    ∙ map-append (λ (m : BrickId × Message). record { from = me; to = m.0; message = m.1 }) first last
    ∙ (λ i. c.in_ok-messages.ensures.packets layout kept are i ++ c.in_ok-last.ensures.packets layout me at.scrub_is i)
    ∙ sym (ticked_beside_scrub (coding layout) me (scrubbing_of held) node refl (scrub_free layout tasks.work tasks.job held kept at) (job_other tasks.job held at.aside))
    ∙ ap (λ (s : Option OpenScrub). ticked (coding layout) me (with_scrubbing (scrubbing_in s) node)) (sym here)
