-- A call is open where the scrub has it, or the read, or an operation.
use Rattle.std.proofs.Common.{ℕ, Option, is_some, sym, ◌∙◌, ap}
use Rattle.std.specs.Option.{option_map}
use Rattle.std.specs.Ordering.{nat_cmp}
use Rattle.std.specs.BTreeMap.{get}
use Rattle.protocol.specs.Coordinators.{Coordinator}
use Rattle.node.specs.Jobs.{calls_with, reading_in}
use Rattle.node.specs.Operations.{coordinator_of}
use Rattle.node.specs.Scrubs.{scrubbing_in}
use Rattle.node.specs.States.{state_in, state_with}
use Rattle.node.proofs.Beside.{calls_apart}
use Rattle.node.proofs.ScrubCalls.{open_read, open_scrub}
use Rattle.node.proofs.ScrubsBeside.{calls_apart_scrub}
use Rattle.node.proofs.Underway.{apart_so, mapped_some, scrub_apart_so}
use Rattle.node.proofs.tasks.Tasks.is_open.Goals as goal

pub returns-then-is_scrub : goal.returns-then-is_scrub
unfolding state_with
returns-then-is_scrub c = λ kept.
    let tasks = c.args.self.now in
    sym (open_scrub tasks.scrub (calls_with (reading_in tasks.job) (state_in kept tasks.work).calls) c.args.seq (c.is_scrub.ensures.yes c.if-is_scrub.true))

pub returns-then-reads : goal.returns-then-reads
unfolding state_with
returns-then-reads c = λ kept.
    let tasks = c.args.self.now in
    sym (open_read tasks.job tasks.scrub (state_in kept tasks.work).calls c.args.seq (c.reads.ensures.yes c.if-reads.true))

pub returns : goal.returns
unfolding state_with
returns c = λ kept.
    let tasks = c.args.self.now in
    let seq = c.args.seq in
    let f = λ (k : ℕ). option_map coordinator_of (get nat_cmp tasks.work.calls.operations k) in
    c.is_open.ensures
    ∙ sym (mapped_some (get nat_cmp tasks.work.calls.operations seq))
    ∙ ap (λ (o : Option Coordinator). is_some o)
    (sym (calls_apart_scrub (scrubbing_in tasks.scrub) (calls_with (reading_in tasks.job) f) seq (scrub_apart_so tasks.scrub seq (c.is_scrub.ensures.aside c.if-is_scrub.false))
    ∙ calls_apart (reading_in tasks.job) f seq (apart_so tasks.job seq (c.reads.ensures.aside c.if-reads.false))))
