-- The last of what was added below the bound, or else what the stripe begins with.
use Rattle.std.proofs.Common.{Some, List, ℕ, ap, sym, ◌∙◌}
use Rattle.std.specs.Option.{option_copied}
use Rattle.version_log.specs.Versions.{version, below}
use Rattle.brick_store.specs.Logs.{StripeLog, added_in}
use Rattle.brick_store.proofs.HeldLogs.{below_added, below_start, below_is_held}
use Rattle.brick_store.proofs.states.State.below.Goals as goal

pub block_in-requires : goal.block_in-requires
block_in-requires c =
    let x = c.self.inside in
    below_is_held x.zero.now x.blocks.now x.from_start (added_in (option_copied x.added)) c.args.bound c.in-Some.entry c.self.invariant
    (sym c.below_in.ensures ∙ c.in-Some.is)

pub returns-in-Some : goal.returns-in-Some
returns-in-Some c =
    let x = c.self.inside in
    let e = c.in-Some.entry in
    ap (λ (b : List ℕ). Some (version e.stamp b)) c.block_in.ensures
    ∙ below_added x.zero.now x.blocks.now x.from_start (added_in (option_copied x.added)) c.args.bound e (sym c.below_in.ensures ∙ c.in-Some.is)
    ∙ ap (λ (s : StripeLog). below c.args.bound s.log) c.self.view_is

pub returns-in-None : goal.returns-in-None
returns-in-None c =
    let x = c.self.inside in
    c.start_below.ensures ∙ below_start x.zero.now x.blocks.now x.from_start (added_in (option_copied x.added)) c.args.bound (sym c.below_in.ensures ∙ c.in-None.is)
    ∙ ap (λ (s : StripeLog). below c.args.bound s.log) c.self.view_is
