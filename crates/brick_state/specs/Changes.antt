-- What may happen to a stripe, and what it takes away and brings.
use Rattle.std.specs.Prelude.{◌≡◌, ℕ, true}
use Rattle.std.specs.List.{filter}
use Rattle.fab_base.specs.Stamps.{stamp_below}
use Rattle.brick_state.specs.Entries.{Entry}
use Rattle.brick_state.specs.declared.stripes.StripeChange.{StripeChange}
use Rattle.brick_state.specs.declared.stripes.StripeChange.TheVariants.{Order, Add, Restart, Collect}
use Rattle.brick_state.specs.States.{StripeOf, stamp_of, has_version, newest_entry, with_order, with_added, with_bottom, with_collected}
use Rattle.brick_state.specs.Folds.{is_above}
use Rattle.brick_state.specs.Times.{greatest}

-- the stripe after it
abbrev pub changed : StripeChange → StripeOf Entry → StripeOf Entry
changed (Order t) s = with_order t s
changed (Add e) s = with_added e s
changed (Restart e) s = with_bottom e s
changed (Collect t) s = with_collected stamp_of t s

-- a version is added above the newest one, and one that is kept is there
abbrev pub IsAllowed : StripeChange → StripeOf Entry → Type 0
IsAllowed (Order t) s = Unit {0}
IsAllowed (Add e) s = is_above (newest_entry s) e.stamp ≡ true
IsAllowed (Restart e) s = Unit {0}
IsAllowed (Collect t) s = has_version t s ≡ true

-- the greatest time that it takes away, and the one that it brings: a version that stays is in the place of those that go
abbrev pub time_lost : StripeChange → StripeOf Entry → ℕ
time_lost (Order t) s = s.order.time
time_lost (Add e) s = 0
time_lost (Restart e) s = greatest (λ e. (stamp_of e).time) s.added
time_lost (Collect t) s = greatest (λ e. (stamp_of e).time) (filter (λ e. stamp_below (stamp_of e) t) s.added)

abbrev pub time_come : StripeChange → ℕ
time_come (Order t) = t.time
time_come (Add e) = e.stamp.time
time_come (Restart e) = e.stamp.time
time_come (Collect t) = t.time
