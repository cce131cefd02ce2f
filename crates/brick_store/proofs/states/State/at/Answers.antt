-- What the stripe begins with, or else what was added.
use Rattle.std.proofs.Common.{Some, None, List, ℕ, ap, sym, ◌∙◌}
use Rattle.std.specs.List.{find}
use Rattle.std.specs.Option.{option_map, option_copied}
use Rattle.version_log.specs.Versions.{block_of, has_stamp}
use Rattle.brick_store.specs.Logs.{StripeLog, added_in}
use Rattle.brick_store.proofs.HeldLogs.{at_start, at_added, found_is_held}
use Rattle.brick_store.proofs.states.State.at.Goals as goal

pub block_in-requires : goal.block_in-requires
block_in-requires c =
    let x = c.self.inside in
    found_is_held x.zero.now x.blocks.now x.from_start (added_in (option_copied x.added)) c.args.stamp c.in-Some-slot_in.slot c.self.invariant
    (sym c.slot_in.ensures ∙ c.in-Some-slot_in.is)

pub returns-in-Some : goal.returns-in-Some
returns-in-Some c =
    let x = c.self.inside in
    at_start x.zero.now x.blocks.now x.from_start (added_in (option_copied x.added)) c.args.stamp c.in-Some.block.now c.in-Some.ensures
    ∙ ap (λ (s : StripeLog). option_map block_of (find (has_stamp c.args.stamp) s.log)) c.self.view_is

pub returns-in-None : goal.returns-in-None
returns-in-None c =
    let x = c.self.inside in
    at_added x.zero.now x.blocks.now x.from_start (added_in (option_copied x.added)) c.args.stamp None c.in_default.ensures (sym c.in-None.is ∙ c.slot_in.ensures)
    ∙ ap (λ (s : StripeLog). option_map block_of (find (has_stamp c.args.stamp) s.log)) c.self.view_is

pub returns-in-Some-slot_in : goal.returns-in-Some-slot_in
returns-in-Some-slot_in c =
    let x = c.self.inside in
    ap (λ (b : List ℕ). Some b) c.block_in.ensures
    ∙ at_added x.zero.now x.blocks.now x.from_start (added_in (option_copied x.added)) c.args.stamp (Some c.in-Some-slot_in.slot) c.in_default.ensures
    (sym c.in-Some-slot_in.is ∙ c.slot_in.ensures)
    ∙ ap (λ (s : StripeLog). option_map block_of (find (has_stamp c.args.stamp) s.log)) c.self.view_is
