-- A version with a block of its own, once its record was tried.
use Rattle.std.proofs.Common.{◌≡◌, ◌≢◌, ℕ, ◌<◌, true, false, Some, List, length, Result, refl, sym, ap, subst, ◌∙◌, arith}
use Rattle.std.specs.Result.{OnOk, OnErr}
use Rattle.std.proofs.lemmas.Option.{same_Some}
use Rattle.fab_base.specs.declared.stamps.Stamp.{Stamp}
use Rattle.fab_base.specs.declared.identities.GroupId.{GroupId}
use Rattle.fab_base.specs.declared.identities.ViewNo.{ViewNo}
use Rattle.fab_base.specs.declared.identities.StripeNo.{StripeNo}
use Rattle.fab_disk.specs.declared.disk.Disk as on_disk
use Rattle.stamp_store.specs.declared.log_records.LogChange.TheVariants.{Slot}
use Rattle.frame_store.specs.Stores.{Held}
use Rattle.brick_state.specs.declared.records.Record.{Record}
use Rattle.brick_state.specs.declared.records.Record.TheVariants as forms
use Rattle.brick_state.specs.declared.indexes.Index.{Index}
use Rattle.brick_state.specs.States.{stripe_at, added}
use Rattle.brick_state.specs.Folds.{Limits, applied, is_full, place, entry}
use Rattle.brick_state.specs.Indexes.{state_of, limits_of}
use Rattle.brick_store.specs.BlockTables.{SlotBlocks, block_under}
use Rattle.brick_store.specs.declared.faults.StoreFault.{StoreFault}
use Rattle.brick_store.specs.Blocks.{log_at, with_version, IsNext}
use Rattle.brick_store.specs.Bricks.{Brick}
use Rattle.brick_store.specs.Calls.{calls_of}
use Rattle.brick_store.specs.Ends.{end_of, StateChange}
use Rattle.brick_store.specs.Standing.{AllSlots, Standing}
use Rattle.brick_store.specs.Steps.{changed, Step}
use Rattle.brick_store.proofs.Changing.{Longer, Told, brick_of, told_of}
use Rattle.brick_store.proofs.Versions.{above_of, next_seen, slot_applied, slots_added, with_version_seen}
use Rattle.brick_store.proofs.Adding.{SameUnder, brick_same, standing_same, same_settled, changes_put, standing_put, cached_is}

-- the record of a version whose block lies in the slot
abbrev pub put_record : GroupId → ViewNo → StripeNo → Stamp → ℕ → Record
put_record group view stripe stamp slot =
    forms.Logged (record { group = group; view = view; stripe = stripe; stamp = stamp; change = Slot false slot })

-- it adds the version, if there is room for one
pub version_adds : {D : Type 0} (group : GroupId) (view : ViewNo) (stripe : StripeNo) (stamp : Stamp) (slot : ℕ) (block : List ℕ) (blocks : SlotBlocks)
    (frames : Held D) (index : Index) (b : Brick D) → brick_of blocks frames (state_of index) ≡ b → group.0 < 64
    → is_full (limits_of index) (state_of index) ≡ false → IsNext stamp (log_at b.shape.block b.state (place group view stripe)) (Some block)
    → slot < (limits_of index).slots
    → applied (limits_of index) (put_record group view stripe stamp slot) (state_of index)
    ≡ Some (added (place group view stripe) (entry stamp slot) (state_of index))
version_adds group view stripe stamp slot block blocks frames index b seen few free above within =
    let st = state_of index in
    let p = place group view stripe in
    slot_applied (limits_of index) group view stripe stamp slot st few free within
    (above_of frames.shape.block blocks (stripe_at st p) stamp (Some block) (next_seen blocks frames st p stamp (Some block) b seen above))

-- What the call told, and that the store stands after it. Its block was held in memory, and was forgotten again where the record was refused.
pub version_put : {D : Type 0} (d : on_disk.Ghosts D) (group : GroupId) (view : ViewNo) (stripe : StripeNo) (stamp : Stamp) (slot : ℕ)
    (block bytes : List ℕ) (before blocks last : SlotBlocks) (zero_block : List ℕ) (old new : Held D) (index index_now : Index) (b : Brick D)
    (result : Result (Unit {0}) StoreFault)
    → brick_of before old (state_of index) ≡ b → Standing d.tells d.seen d.may_leave old index before zero_block
    → AllSlots (SameUnder before blocks) (state_of index) → old.halted ≡ false → is_full (limits_of index) (state_of index) ≡ false → group.0 < 64
    → IsNext stamp (log_at b.shape.block b.state (place group view stripe)) (Some block)
    → slot < (limits_of index).slots → AllSlots (λ other. other ≢ slot) (state_of index)
    → block_under blocks slot ≡ Some block → length block ≡ b.shape.block → block_under blocks slot ≡ Some bytes
    → limits_of index_now ≡ limits_of index
    → Step d (state_of index) (changed (limits_of index) (put_record group view stripe stamp slot) (state_of index)) (Longer old (state_of index) 35)
    old new result
    → OnOk result (state_of index_now ≡ changed (limits_of index) (put_record group view stripe stamp slot) (state_of index))
    → OnErr result (state_of index_now ≡ state_of index)
    → StateChange d (calls_of (brick_of blocks old (state_of index)) 35 5) old (Some (slot, bytes)) (state_of index)
    (changed (limits_of index) (put_record group view stripe stamp slot) (state_of index)) new.disk (end_of result)
    → OnOk result (last ≡ blocks) → ((other : ℕ) → other ≢ slot → SameUnder blocks last other)
    → Told d b (brick_of last new (state_of index_now)) (with_version b.shape.block (place group view stripe) stamp (Some block) b.state) 35 true
    (calls_of b 35 5) result
    × Standing d.tells d.seen d.may_leave new index_now last zero_block
version_put {D} d group view stripe stamp slot block bytes before blocks last zero_block old new index index_now b result was stood same runs free few above
    within unnamed held long given limits step made not_made change kept others =
    let st = state_of index in
    let now = state_of index_now in
    let p = place group view stripe in
    let item = put_record group view stripe stamp slot in
    let next = added p (entry stamp slot) st in
    let seen = brick_same before blocks old st same ∙ was in
    let standing = standing_same d before blocks zero_block old index same stood in
    let adds = version_adds group view stripe stamp slot block blocks old index b seen few free above within in
    let small : slot < 4294967295 = omega (arith, within, ap (λ (l : Limits). l.slots) standing.indexed.limits_are, standing.limits.few_slots) in
    let len : length bytes ≡ old.shape.block = ap length (same_Some _ _ (sym given ∙ held)) ∙ long ∙ sym (ap (λ (x : Brick D). x.shape.block) seen) in
    let settled = same_settled blocks last slot st now result kept others not_made unnamed in
    let after = with_version b.shape.block p stamp (Some block) in
    let told = told_of d blocks old new st now next b after (λ s. true) (λ x. calls_of x 35 5) 35 true _ result seen
    (with_version_seen blocks old st p stamp (Some block) slot b seen (cached_is old.shape.block blocks slot block small held)) refl refl
    (changes_put d slot bytes blocks zero_block old new index item now next 35 result standing runs free adds
    (λ P here all. slots_added P p stamp slot st here all) small given unnamed step made not_made change) in (
      subst (λ (x : Brick D). Told d b x (after b.state) 35 true (calls_of b 35 5) result) (sym (brick_same blocks last new now settled)) told,
      standing_same d blocks last zero_block new index_now settled
          (standing_put d slot bytes blocks zero_block old new index index_now item next result standing runs adds
          (λ P here all. slots_added P p stamp slot st here all) small given len unnamed standing.indexed.members limits step made not_made change),
    )
