-- The last of what was added, or else what the stripe begins with.
use Rattle.std.proofs.Common.{Some, List, ℕ, ap, sym, ◌∙◌}
use Rattle.std.specs.Option.{option_copied}
use Rattle.version_log.specs.Versions.{version, newest}
use Rattle.brick_store.specs.Logs.{StripeLog, added_in}
use Rattle.brick_store.proofs.HeldLogs.{newest_added, newest_start}
use Rattle.brick_store.proofs.states.State.newest.Goals as goal

pub returns-in-Some : goal.returns-in-Some
returns-in-Some c =
    let x = c.self.inside in
    let e = c.in-Some.entry in
    ap (λ (b : List ℕ). Some (version e.stamp b)) c.block_in.ensures
    ∙ newest_added x.zero.now x.blocks.now x.from_start (added_in (option_copied x.added)) e (sym c.newest_in.ensures ∙ c.in-Some.is)
    ∙ ap (λ (s : StripeLog). newest s.log) c.self.view_is

pub returns-in-None : goal.returns-in-None
returns-in-None c =
    let x = c.self.inside in
    c.start_of.ensures ∙ newest_start x.zero.now x.blocks.now x.from_start (added_in (option_copied x.added)) (sym c.newest_in.ensures ∙ c.in-None.is)
    ∙ ap (λ (s : StripeLog). newest s.log) c.self.view_is
