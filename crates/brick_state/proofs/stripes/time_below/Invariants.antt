use Rattle.std.proofs.Common.{◌≡◌, max, drop}
use Rattle.std.specs.List.{filter}
use Rattle.fab_base.specs.Stamps.{stamp_below}
use Rattle.brick_state.specs.States.{stamp_of}
use Rattle.brick_state.specs.Times.{greatest}
use Rattle.brick_state.proofs.stripes.time_below.Given as goal

abbrev pub invariant-loop-entry : goal.invariant-loop-entry
invariant-loop-entry l = max l.top (greatest (λ e. (stamp_of e).time) (filter (λ e. stamp_below (stamp_of e) l.stamp) (drop l.entry-index l.entries)))
    ≡ greatest (λ e. (stamp_of e).time) (filter (λ e. stamp_below (stamp_of e) l.stamp) l.entries)
