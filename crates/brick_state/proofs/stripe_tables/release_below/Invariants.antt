use Rattle.std.proofs.Common.{◌≡◌, ℕ, ◌+◌, ◌-◌, ◌<◌, ◌≤◌, length, get_or, drop}
use Rattle.std.specs.List.{filter}
use Rattle.fab_base.specs.Stamps.{stamp_below}
use Rattle.brick_state.specs.Tallies.{names_of}
use Rattle.brick_state.proofs.stripe_tables.release_below.Given as goal

abbrev pub invariant-loop-entry : goal.invariant-loop-entry
invariant-loop-entry l = (l.dropped ≤ l.entry-index) × (length l.counts ≡ length l.fn.counts)
    × (l.dropped + length (filter (λ e. stamp_below e.stamp l.stamp) (drop l.entry-index l.entries)) ≡ length (filter (λ e. stamp_below e.stamp l.stamp) l.entries))
    × ((slot : ℕ) → slot < length l.fn.counts → get_or l.counts slot 0 - names_of slot (filter (λ e. stamp_below e.stamp l.stamp) (drop l.entry-index l.entries))
    ≡ get_or l.fn.counts slot 0 - names_of slot (filter (λ e. stamp_below e.stamp l.stamp) l.entries))
