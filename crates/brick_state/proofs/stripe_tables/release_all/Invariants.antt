use Rattle.std.proofs.Common.{◌≡◌, ℕ, ◌-◌, ◌<◌, length, get_or, drop}
use Rattle.brick_state.specs.Tallies.{names_of}
use Rattle.brick_state.proofs.stripe_tables.release_all.Given as goal

abbrev pub invariant-loop-entry : goal.invariant-loop-entry
invariant-loop-entry l = (length l.counts ≡ length l.fn.counts)
    × ((slot : ℕ) → slot < length l.fn.counts → get_or l.counts slot 0 - names_of slot (drop l.entry-index l.entries) ≡ get_or l.fn.counts slot 0 - names_of slot l.entries)
