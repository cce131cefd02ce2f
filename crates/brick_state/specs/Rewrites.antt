-- The records that bring back what a brick keeps from nothing: the boot count; per group its view and its ballots; and per
-- stripe, by place, its order stamp and its versions from the lowest on.
use Rattle.std.specs.Prelude.{ℕ, suc, Bool, true, false, ◌==◌, if◌then◌else◌, Option, Some, None, List, [], ◌∷◌, ◌++◌}
use Rattle.fab_base.specs.declared.identities.GroupId.{GroupId}
use Rattle.fab_base.specs.declared.identities.ViewNo.{ViewNo}
use Rattle.fab_base.specs.declared.identities.StripeNo.{StripeNo}
use Rattle.fab_base.specs.declared.identities.BrickId.{BrickId}
use Rattle.fab_base.specs.declared.member_lists.View.{View}
use Rattle.fab_base.specs.declared.stamps.Stamp.{Stamp}
use Rattle.fab_base.specs.declared.stamps.Ballot.{Ballot}
use Rattle.fab_base.specs.Stamps.{stamp_same, first_stamp}
use Rattle.stamp_store.specs.declared.kept_records.Kept.TheVariants.{Boot, Ballots, Order}
use Rattle.stamp_store.specs.declared.kept_records.Kept.TheVariants as kinds
use Rattle.stamp_store.specs.declared.log_records.LogChange.{LogChange}
use Rattle.stamp_store.specs.declared.log_records.LogChange.TheVariants.{Same, Slot}
use Rattle.brick_state.specs.declared.groups.Group.{Group}
use Rattle.brick_state.specs.declared.records.Record.{Record}
use Rattle.brick_state.specs.declared.records.Record.TheVariants as forms
use Rattle.brick_state.specs.Entries.{Entry}
use Rattle.brick_state.specs.States.{Place, StripeOf, StateOf}

abbrev pub group_id : ℕ → GroupId
group_id g = record { 0 = g }

abbrev pub view_no : ℕ → ViewNo
view_no v = record { 0 = v }

abbrev pub stripe_no : ℕ → StripeNo
stripe_no s = record { 0 = s }

-- the number of the greatest view learnt, which is 1 before a view was
abbrev pub learnt_number : Option (View × Bool) → ℕ
learnt_number None = 1
learnt_number (Some known) = known.0.number.0

abbrev pub view_record : ℕ → View × Bool → Record
view_record g known = forms.Kept (kinds.View (group_id g) known.0 known.1)

abbrev pub view_records : ℕ → Option (View × Bool) → List Record
view_records g None = []
view_records g (Some known) = view_record g known ∷ []

abbrev pub ballot_record : ℕ → ℕ → Ballot × Option (Ballot × List BrickId) → Record
ballot_record g v b = forms.Kept (Ballots (group_id g) (view_no v) b.0 b.1)

abbrev pub ballot_records : ℕ → ℕ → Option (Ballot × Option (Ballot × List BrickId)) → List Record
ballot_records g v None = []
ballot_records g v (Some b) = ballot_record g v b ∷ []

abbrev pub group_records : ℕ → Group → List Record
group_records g group = view_records g group.known ++ ballot_records g (learnt_number group.known) group.ballots

unfoldable pub groups_records : ℕ → List Group → List Record
groups_records g [] = []
groups_records g (group ∷ groups) = group_records g group ++ groups_records (suc g) groups

abbrev pub order_record : Place → Stamp → Record
order_record p t = forms.Kept (Order (group_id p.0) (view_no p.1) (stripe_no p.2) t)

abbrev pub order_records : Place → Stamp → List Record
order_records p t = if stamp_same t first_stamp then [] else order_record p t ∷ []

-- A version by the one below it: with its block, or in a slot of its own. Where none stays below it, all below were dropped.
abbrev pub version_change : Option Entry → Entry → LogChange
version_change None e = Slot true e.block
version_change (Some under) e = if under.block == e.block then Same else Slot false e.block

abbrev pub version_record : Place → Option Entry → Entry → Record
version_record p under e =
    forms.Logged (record { group = group_id p.0; view = view_no p.1; stripe = stripe_no p.2; stamp = e.stamp; change = version_change under e })

unfoldable pub version_records : Place → Option Entry → List Entry → List Record
version_records p under [] = []
version_records p under (e ∷ entries) = version_record p under e ∷ version_records p (Some e) entries

-- the version that a stripe begins with, while it is there
abbrev pub start_of : Bool → Option Entry
start_of from_start = if from_start then Some (record { stamp = first_stamp; block = 4294967295 }) else None

abbrev pub stripe_records : Place → StripeOf Entry → List Record
stripe_records p s = order_records p s.order ++ version_records p (start_of s.from_start) s.added

unfoldable pub stripes_records : List (Place × StripeOf Entry) → List Record
stripes_records [] = []
stripes_records (e ∷ stripes) = stripe_records e.0 e.1 ++ stripes_records stripes

abbrev pub live_records : StateOf Entry → List Record
live_records st = forms.Kept (Boot st.boot) ∷ (groups_records 0 st.groups ++ stripes_records st.stripes)
