-- A change that puts no block of its own in a slot: what it makes of the index is what a clause sees of it.
use Rattle.std.proofs.Common.{◌≡◌, ℕ, ◌<◌, ◌≤◌, length, Bool, true, false, Some, None, List, refl, sym, ap, subst, ◌∙◌}
use Rattle.std.specs.List.{AllByRecursion}
use Rattle.fab_base.specs.declared.stamps.Stamp.{Stamp}
use Rattle.std.specs.List.{slice_index_or}
use Rattle.fab_base.specs.declared.member_lists.View.{View}
use Rattle.fab_base.specs.declared.identities.GroupId.{GroupId}
use Rattle.fab_base.specs.declared.identities.ViewNo.{ViewNo}
use Rattle.fab_base.specs.declared.identities.StripeNo.{StripeNo}
use Rattle.stamp_store.specs.declared.kept_records.Kept.TheVariants.{Boot, Ballots, Order}
use Rattle.stamp_store.specs.declared.kept_records.Kept.TheVariants as kinds
use Rattle.stamp_store.specs.declared.log_records.LogChange.{LogChange}
use Rattle.stamp_store.specs.declared.log_records.LogChange.TheVariants.{Same, Collect, Slot}
use Rattle.frame_store.specs.Stores.{Held}
use Rattle.version_log.specs.Versions.{Version}
use Rattle.brick_state.specs.declared.records.Record.{Record}
use Rattle.brick_state.specs.declared.records.Record.TheVariants as forms
use Rattle.brick_state.specs.declared.groups.Group.{Group}
use Rattle.brick_state.specs.KeptStates.{IsKeptState}
use Rattle.brick_state.specs.Rewrites.{learnt_number}
use Rattle.brick_state.specs.Entries.{Entry}
use Rattle.brick_state.specs.States.{StripeOf, StateOf, stripe_at, viewed, balloted, ordered, collected, added, stamp_of, has_version, no_group}
use Rattle.brick_state.specs.Folds.{Limits, applied, place, entry, is_full}
use Rattle.brick_store.specs.BlockTables.{SlotBlocks}
use Rattle.brick_store.specs.Blocks.{resolved, cached, log_of, HasStamp, adds_stamp, learnt_view}
use Rattle.brick_store.specs.Bricks.{Brick}
use Rattle.brick_store.specs.Images.{limits_of}
use Rattle.brick_store.specs.Standing.{AllSlots, GroupHasMembers}
use Rattle.brick_store.specs.Steps.{RecordHasMembers}
use Rattle.brick_store.specs.PlainChanges.{made_by, CanMake, CanMakeLog, adds_record, log_adds}
use Rattle.brick_store.proofs.Changed.{order_applied, ballots_applied, view_applied, collect_applied, members_balloted, members_viewed, above_learnt, learnt_view_is, slots_ordered, slots_viewed, slots_collected, held_of}
use Rattle.brick_store.proofs.Changing.{brick_of}
use Rattle.brick_store.proofs.Resolving.{groups-resolved, stripe_at-resolved, ordered-resolved, viewed-resolved, balloted-resolved, collected-resolved}
use Rattle.brick_store.proofs.Versions.{some_newest, above_of, same_block, same_applied, slots_same, with_version_seen, next_seen}

module _ {D : Type 0} (blocks : SlotBlocks) (frames : Held D) where
  -- the record makes this of the index, in slots that were named before, and in lists of members that have some
  pub record IsPlain (limits : Limits) (item : Record) (st next : StateOf Entry) : Type 1 where
    pub is : applied limits item st ≡ Some next
    pub slots : (P : ℕ → Type 0) → P 4294967295 → AllSlots P st → AllSlots P next
    pub members : AllByRecursion GroupHasMembers st.groups → AllByRecursion GroupHasMembers next.groups
    pub has : RecordHasMembers item
    pub shown : resolved (cached frames.shape.block blocks) next ≡ made_by frames.shape.block item (resolved (cached frames.shape.block blocks) st)

  plain_log : (limits : Limits) (g : GroupId) (v : ViewNo) (s : StripeNo) (t : Stamp) (change : LogChange) (st : StateOf Entry) → g.0 < 64
      → CanMakeLog frames.shape.block (place g v s) t change (resolved (cached frames.shape.block blocks) st)
      → (log_adds change ≡ true → is_full limits st ≡ false)
      → (next : StateOf Entry) × IsPlain limits
      (forms.Logged (record { group = g; view = v; stripe = s; stamp = t; change = change })) st next
  plain_log limits g v s t Same st group can free =
      let p = place g v s in
      let size = frames.shape.block in
      let next = next_seen blocks frames st p t None (brick_of blocks frames st) refl can in
      let u = some_newest size blocks (stripe_at st p) t next in
      let above = above_of size blocks (stripe_at st p) t None next in (
        added p (entry t u.0.block) st,
        record {
          is = same_applied limits g v s t u.0 st group (free refl) u.1 above;
          slots = λ P zero all. slots_same P p t u.0 st u.1 zero all;
          members = λ all. all;
          has = tt;
          shown = with_version_seen blocks frames st p t None u.0.block (brick_of blocks frames st) refl
              (same_block size blocks (stripe_at st p) u.0 u.1);
        },
      )
  plain_log limits g v s t Collect st group can free =
      let p = place g v s in
      let size = frames.shape.block in
      let held : has_version t (stripe_at st p) ≡ true = held_of size (cached size blocks) t (stripe_at st p)
      (subst (λ (x : StripeOf Version). HasStamp t (log_of size x)) (stripe_at-resolved (cached size blocks) st p) can) in (
        collected stamp_of p t st,
        record {
          is = collect_applied limits g v s t st group held;
          slots = λ P zero all. slots_collected P p t st all;
          members = λ all. all;
          has = tt;
          shown = collected-resolved (cached size blocks) p t st;
        },
      )
  plain_log limits g v s t (Slot bottom slot) st group can free = absurd can

  plain_view : (limits : Limits) (g : GroupId) (view : View) (synced : Bool) (st : StateOf Entry) → g.0 < 64 → 2 ≤ view.number.0
      → (1 ≤ length view.members) × (1 ≤ length view.prior)
      → (next : StateOf Entry) × IsPlain limits (forms.Kept (kinds.View g view synced)) st next
  plain_view limits g view synced st group above some = (
    viewed g.0 view synced st,
    record {
      is = view_applied limits g view synced st group above;
      slots = λ P zero all. slots_viewed P g.0 view synced st all;
      members = λ all. members_viewed g.0 view synced st some.0 some.1 all;
      has = some;
      shown = viewed-resolved (cached frames.shape.block blocks) g.0 view synced st;
    },
  )

  plain : (limits : Limits) (item : Record) (st : StateOf Entry) → IsKeptState (limits_of frames.shape) st
      → AllByRecursion GroupHasMembers st.groups → CanMake frames.shape.block item (resolved (cached frames.shape.block blocks) st)
      → (adds_record item (resolved (cached frames.shape.block blocks) st) ≡ true → is_full limits st ≡ false)
      → (next : StateOf Entry) × IsPlain limits item st next
  plain limits (forms.Kept (Boot count)) st kept named can free = absurd can
  plain limits (forms.Kept (kinds.View g view false)) st kept named can free =
      let above = subst (λ (gs : List Group). learnt_number (slice_index_or gs g.0 no_group).known < view.number.0)
      (groups-resolved (cached frames.shape.block blocks) st) can.1 in
      plain_view limits g view false st can.0 (above_learnt (limits_of frames.shape) g.0 view.number.0 st kept above) can.2
  plain limits (forms.Kept (kinds.View g view true)) st kept named can free =
      let is = subst (λ (gs : List Group). learnt_view (slice_index_or gs g.0 no_group) ≡ Some view)
      (groups-resolved (cached frames.shape.block blocks) st) can.1 in
      let sound = learnt_view_is (limits_of frames.shape) g.0 st view is kept named in
      plain_view limits g view true st can.0 sound.0 sound.1
  plain limits (forms.Kept (Ballots g v promised accepted)) st kept named can free = (
    balloted g.0 promised accepted st,
    record {
      is = ballots_applied limits g v promised accepted st can.0;
      slots = λ P zero all. all;
      members = λ all. members_balloted g.0 promised accepted st can.1 all;
      has = can.1;
      shown = balloted-resolved (cached frames.shape.block blocks) g.0 promised accepted st;
    },
  )
  plain limits (forms.Kept (Order g v s t)) st kept named can free =
      let p = place g v s in
      let block = cached frames.shape.block blocks in
      let same = ap (λ (x : StripeOf Version). adds_stamp t x.order) (stripe_at-resolved block st p) in (
        ordered p t st,
        record {
          is = order_applied limits g v s t st can (λ adds. free (same ∙ adds));
          slots = λ P zero all. slots_ordered P p t st all;
          members = λ all. all;
          has = tt;
          shown = ordered-resolved block p t st;
        },
      )
  plain limits (forms.Logged r) st kept named can free = plain_log limits r.group r.view r.stripe r.stamp r.change st can.0 can.1 free

  -- in the words of what a clause sees of the store
  pub plain_seen : (limits : Limits) (item : Record) (st : StateOf Entry) (b : Brick D) (adds : Bool) → IsKeptState (limits_of frames.shape) st
      → AllByRecursion GroupHasMembers st.groups → brick_of blocks frames st ≡ b → CanMake b.shape.block item b.state → adds ≡ adds_record item b.state → (adds ≡ true → is_full limits st ≡ false)
      → (next : StateOf Entry) × IsPlain limits item st next
  plain_seen limits item st b adds kept named view can same free =
      plain limits item st kept named (subst (λ (x : Brick D). CanMake x.shape.block item x.state) (sym view) can)
      (λ is. free (same ∙ sym (ap (λ (x : Brick D). adds_record item x.state) view) ∙ is))
