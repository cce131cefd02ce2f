use Rattle.std.proofs.Common.{◌≡◌, not, length}
use Rattle.std.specs.List.{filter}
use Rattle.brick_state.specs.Maps.{is_below_view}
use Rattle.brick_state.proofs.stripe_tables.StripeTable.drop_views.Given as goal

abbrev pub invariant-loop-key : goal.invariant-loop-key
invariant-loop-key l = (l.self.slots ≡ l.fn.self.slots)
    × (filter (λ e. not (is_below_view l.group l.first e.0)) l.self.views.entries ≡ filter (λ e. not (is_below_view l.group l.first e.0)) l.fn.self.views.entries)

abbrev pub decreases-loop-key : goal.decreases-loop-key
decreases-loop-key l = length l.self.views.entries
