use Rattle.std.proofs.Common.{◌≡◌, ℕ, ◌-◌, ◌<◌, length, get_or}
use Rattle.std.specs.List.{sum_by}
use Rattle.brick_state.specs.Tallies.{names_of}
use Rattle.brick_state.proofs.stripe_tables.release_stripes.Given as goal

abbrev pub invariant-loop-stripe : goal.invariant-loop-stripe
invariant-loop-stripe l = (length l.counts ≡ length l.fn.counts)
    × ((slot : ℕ) → slot < length l.fn.counts → get_or l.counts slot 0 ≡ get_or l.fn.counts slot 0 - sum_by (λ s. names_of slot s.now.added.versions.items) l.yielded)
