-- The changes that put no block of their own in a slot.
use Rattle.std.specs.Prelude.{◌≡◌, ℕ, ◌≤◌, ◌<◌, Bool, true, false, length, Some, None}
use Rattle.fab_base.specs.declared.stamps.Stamp.{Stamp}
use Rattle.fab_base.specs.Layouts.{most_groups}
use Rattle.stamp_store.specs.declared.kept_records.Kept.TheVariants.{Boot, Ballots, Order}
use Rattle.stamp_store.specs.declared.kept_records.Kept.TheVariants as kinds
use Rattle.stamp_store.specs.declared.log_records.LogChange.{LogChange}
use Rattle.stamp_store.specs.declared.log_records.LogChange.TheVariants.{Same, Collect, Slot}
use Rattle.stamp_store.specs.Spelling.{AcceptedHasMembers}
use Rattle.version_log.specs.Versions.{Version}
use Rattle.brick_state.specs.declared.records.Record.{Record}
use Rattle.brick_state.specs.declared.records.Record.TheVariants as forms
use Rattle.brick_state.specs.States.{Place, StateOf, stripe_at, group_at, booted, viewed, balloted, ordered, collected}
use Rattle.brick_state.specs.Folds.{place}
use Rattle.brick_store.specs.Blocks.{log_at, learnt_of, learnt_view, version_stamp, HasStamp, IsNext, with_version, adds_stamp}

-- what a log's change makes of the log at a place
abbrev pub log_made_by : ℕ → Place → Stamp → LogChange → StateOf Version → StateOf Version
log_made_by size p t Same st = with_version size p t None st
log_made_by size p t Collect st = collected version_stamp p t st
log_made_by size p t (Slot bottom slot) st = st

-- what a record makes of what a store keeps, blocks of this many bytes
abbrev pub made_by : ℕ → Record → StateOf Version → StateOf Version
made_by size (forms.Kept (Boot count)) st = booted count st
made_by size (forms.Kept (kinds.View g view synced)) st = viewed g.0 view synced st
made_by size (forms.Kept (Ballots g v promised accepted)) st = balloted g.0 promised accepted st
made_by size (forms.Kept (Order g v s t)) st = ordered (place g v s) t st
made_by size (forms.Logged r) st = log_made_by size (place r.group r.view r.stripe) r.stamp r.change st

-- and that it can: a view that is learnt is above the learnt one, and all stripes are in the learnt one; a version without a block has one
-- below it, and one that is kept is there
abbrev pub CanMakeLog : ℕ → Place → Stamp → LogChange → StateOf Version → Type 0
CanMakeLog size p t Same st = IsNext t (log_at size st p) None
CanMakeLog size p t Collect st = HasStamp t (log_at size st p)
CanMakeLog size p t (Slot bottom slot) st = ⊥

abbrev pub CanMake : ℕ → Record → StateOf Version → Type 0
CanMake size (forms.Kept (Boot count)) st = ⊥
CanMake size (forms.Kept (kinds.View g view false)) st =
    (g.0 < most_groups) × (learnt_of (group_at st g.0) < view.number.0) × ((1 ≤ length view.members) × (1 ≤ length view.prior))
CanMake size (forms.Kept (kinds.View g view true)) st = (g.0 < most_groups) × (learnt_view (group_at st g.0) ≡ Some view)
CanMake size (forms.Kept (Ballots g v promised accepted)) st = (g.0 < most_groups) × AcceptedHasMembers accepted
CanMake size (forms.Kept (Order g v s t)) st = g.0 < most_groups
CanMake size (forms.Logged r) st = (r.group.0 < most_groups) × CanMakeLog size (place r.group r.view r.stripe) r.stamp r.change st

-- whether it is one live record more
abbrev pub log_adds : LogChange → Bool
log_adds Same = true
log_adds Collect = false
log_adds (Slot bottom slot) = true

abbrev pub adds_record : Record → StateOf Version → Bool
adds_record (forms.Kept (Boot count)) st = false
adds_record (forms.Kept (kinds.View g view synced)) st = false
adds_record (forms.Kept (Ballots g v promised accepted)) st = false
adds_record (forms.Kept (Order g v s t)) st = adds_stamp t (stripe_at st (place g v s)).order
adds_record (forms.Logged r) st = log_adds r.change
