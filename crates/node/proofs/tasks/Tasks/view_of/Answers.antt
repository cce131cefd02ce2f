-- The view is that of the scrub, of the read, or of the operation that is open.
use Rattle.std.proofs.Common.{◌≡◌, ℕ, Option, sym, ◌∙◌, ap}
use Rattle.std.specs.Option.{option_map}
use Rattle.std.specs.Ordering.{nat_cmp}
use Rattle.std.specs.BTreeMap.{get}
use Rattle.protocol.specs.Coordinators.{Coordinator}
use Rattle.protocol.specs.Nodes.{view_in}
use Rattle.node.specs.Jobs.{calls_with, reading_in}
use Rattle.node.specs.Operations.{coordinator_of}
use Rattle.node.specs.Scrubs.{scrubbing_in}
use Rattle.node.specs.States.{KeptParts, state_in, state_with}
use Rattle.node.specs.Tasks.{tasks_in}
use Rattle.node.proofs.Beside.{calls_apart}
use Rattle.node.proofs.ScrubCalls.{seen_read, seen_scrub}
use Rattle.node.proofs.ScrubsBeside.{calls_apart_scrub}
use Rattle.node.proofs.Underway.{apart_so, mapped_view, scrub_apart_so}
use Rattle.node.proofs.tasks.Tasks.view_of.Goals as goal
use Rattle.node.proofs.tasks.Tasks.view_of.Goals.{After-reads}

pub returns-then-is_scrub : goal.returns-then-is_scrub
returns-then-is_scrub c = λ kept.
    c.scrub_view.ensures
    ∙ seen_scrub c.args.self.now.scrub (calls_with (reading_in c.args.self.now.job) (state_in kept c.args.self.now.work).calls) c.args.seq
    (c.is_scrub.ensures.yes c.if-is_scrub.true)

-- the scrub has another call
unscrubbed : (c : After-reads) (kept : KeptParts) → (let tasks = c.args.self.now in
    (tasks_in kept tasks).calls c.args.seq ≡ calls_with (reading_in tasks.job) (state_in kept tasks.work).calls c.args.seq)
unscrubbed c kept =
    calls_apart_scrub (scrubbing_in c.args.self.now.scrub) (calls_with (reading_in c.args.self.now.job) (state_in kept c.args.self.now.work).calls) c.args.seq
    (scrub_apart_so c.args.self.now.scrub c.args.seq (c.is_scrub.ensures.aside c.if-is_scrub.false))

pub returns-then-reads : goal.returns-then-reads
returns-then-reads c = λ kept.
    c.read_view.ensures
    ∙ seen_read c.args.self.now.job (state_in kept c.args.self.now.work).calls c.args.seq (c.reads.ensures.yes c.if-reads.true)
    ∙ sym (ap (λ (o : Option Coordinator). option_map view_in o) (unscrubbed (goal.at.returns-then-reads c).After-reads kept))

pub returns : goal.returns
unfolding state_with
returns c = λ kept.
    let tasks = c.args.self.now in
    let f = λ (k : ℕ). option_map coordinator_of (get nat_cmp tasks.work.calls.operations k) in
    c.view_of.ensures
    ∙ sym (mapped_view (get nat_cmp tasks.work.calls.operations c.args.seq))
    ∙ sym (ap (λ (o : Option Coordinator). option_map view_in o) (unscrubbed (goal.at.returns c).After-reads kept
    ∙ calls_apart (reading_in tasks.job) f c.args.seq (apart_so tasks.job c.args.seq (c.reads.ensures.aside c.if-reads.false))))
