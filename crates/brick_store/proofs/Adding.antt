-- A version that is added with a block of its own.
use Rattle.std.proofs.Common.{◌≡◌, ◌≢◌, inl, inr, ℕ, ◌<◌, Bool, true, false, cond, eqb, Option, Some, List, [], ◌∷◌, length, Result, Ok, Err, refl, sym, ap, subst, ◌∙◌, arith}
use Rattle.std.specs.Option.{unwrap_or}
use Rattle.std.specs.List.{AllByRecursion}
use Rattle.std.specs.Prelude.{replicate}
use Rattle.std.specs.Result.{OnOk, OnErr}
use Rattle.std.proofs.lemmas.Bool.Decides.{nat_tests}
use Rattle.fab_disk.specs.declared.disk.Disk as on_disk
use Rattle.fab_disk.proofs.Changing.{same as at_once}
use Rattle.frame_store.specs.declared.shapes.Shape.{Shape}
use Rattle.frame_store.specs.declared.shapes.Form.TheVariants.{New}
use Rattle.frame_store.specs.Images.{StandsIn, KeepsSlots}
use Rattle.frame_store.specs.Layouts.{formed}
use Rattle.frame_store.specs.Listed.{size_of}
use Rattle.frame_store.specs.Stores.{Held}
use Rattle.version_log.specs.Versions.{Version}
use Rattle.brick_state.specs.declared.records.Record.{Record}
use Rattle.brick_state.specs.Entries.{Entry}
use Rattle.brick_state.specs.declared.indexes.Index.{Index}
use Rattle.brick_state.specs.States.{Place, StripeOf, StateOf, live}
use Rattle.brick_state.specs.Folds.{Limits, applied, is_full}
use Rattle.brick_state.specs.Indexes.{state_of}
use Rattle.brick_state.specs.Indexes as indexes
use Rattle.brick_state.proofs.Keeping.{applied_keeps}
use Rattle.brick_store.specs.BlockTables.{SlotBlocks, block_under}
use Rattle.brick_store.specs.declared.faults.StoreFault.{StoreFault}
use Rattle.brick_store.specs.declared.faults.StoreFault.TheVariants.{NoMemory}
use Rattle.brick_store.specs.Blocks.{resolved, cached}
use Rattle.brick_store.specs.Bricks.{Brick, IsAnswer}
use Rattle.brick_store.specs.Images.{limits_of, StandsFor}
use Rattle.brick_store.specs.Standing.{AllSlots, IsCached, IsStored, GroupHasMembers, Standing}
use Rattle.brick_store.specs.Steps.{changed, Step}
use Rattle.brick_store.specs.Ends.{end_of, StateChange}
use Rattle.brick_store.proofs.Changed.{changed_to, not_full}
use Rattle.brick_store.proofs.Lengths.{lists_refused}
use Rattle.brick_store.proofs.Changing.{Longer, brick_of, Told, may_of, stored_still, changes_tried, standing_after}
use Rattle.brick_store.proofs.Resolving.{resolved_same, slots_imply, live-resolved}

-- no slot for want of memory
abbrev no_slot : StoreFault → Result ℕ StoreFault
no_slot fault = Err fault

pub no_slot_fault : (fault : StoreFault) → no_slot fault ≡ no_slot NoMemory → fault ≡ NoMemory
no_slot_fault fault h = cc

-- both hold of the slot of each version
entries_both : (P Q : ℕ → Type 0) (entries : List Entry) → AllByRecursion (λ v. P v.block) entries → AllByRecursion (λ v. Q v.block) entries
    → AllByRecursion (λ v. P v.block × Q v.block) entries
entries_both P Q [] all also = tt
entries_both P Q (e ∷ entries) all also = ((all.0, also.0), entries_both P Q entries all.1 also.1)

stripes_both : (P Q : ℕ → Type 0) (stripes : List (Place × StripeOf Entry)) → AllByRecursion (λ e. AllByRecursion (λ v. P v.block) e.1.added) stripes
    → AllByRecursion (λ e. AllByRecursion (λ v. Q v.block) e.1.added) stripes
    → AllByRecursion (λ e. AllByRecursion (λ v. P v.block × Q v.block) e.1.added) stripes
stripes_both P Q [] all also = tt
stripes_both P Q (e ∷ stripes) all also = (entries_both P Q e.1.added all.0 also.0, stripes_both P Q stripes all.1 also.1)

pub slots_both : (P Q : ℕ → Type 0) (st : StateOf Entry) → AllSlots P st → AllSlots Q st → AllSlots (λ slot. P slot × Q slot) st
slots_both P Q st all also = stripes_both P Q st.stripes all also

-- memory holds the same under a slot as other memory does
abbrev pub SameUnder : SlotBlocks → SlotBlocks → ℕ → Type 0
SameUnder blocks now slot = block_under now slot ≡ block_under blocks slot

-- as it does where one slot changed that no version names
pub same_others : (blocks now : SlotBlocks) (slot : ℕ) (st : StateOf Entry)
    → ((other : ℕ) → other ≢ slot → block_under now other ≡ block_under blocks other) → AllSlots (λ other. other ≢ slot) st
    → AllSlots (SameUnder blocks now) st
same_others blocks now slot st others unnamed = slots_imply (λ other. other ≢ slot) (SameUnder blocks now) others st unnamed

-- it is so of each version where it is so of each slot
entries_every : (P : ℕ → Type 0) → ((slot : ℕ) → P slot) → (entries : List Entry) → AllByRecursion (λ v. P v.block) entries
entries_every P each [] = tt
entries_every P each (e ∷ entries) = (each e.block, entries_every P each entries)

stripes_every : (P : ℕ → Type 0) → ((slot : ℕ) → P slot) → (stripes : List (Place × StripeOf Entry))
    → AllByRecursion (λ e. AllByRecursion (λ v. P v.block) e.1.added) stripes
stripes_every P each [] = tt
stripes_every P each (e ∷ stripes) = (entries_every P each e.1.added, stripes_every P each stripes)

-- the slot of a version that was not added is forgotten
pub same_settled : (blocks now : SlotBlocks) (slot : ℕ) (st st_now : StateOf Entry) (result : Result (Unit {0}) StoreFault)
    → OnOk result (now ≡ blocks) → ((other : ℕ) → other ≢ slot → SameUnder blocks now other) → OnErr result (st_now ≡ st)
    → AllSlots (λ other. other ≢ slot) st → AllSlots (SameUnder blocks now) st_now
same_settled blocks now slot st st_now (Ok u) added others same unnamed = stripes_every (SameUnder blocks now)
    (λ other. ap (λ (b : SlotBlocks). block_under b other) added) st_now.stripes
same_settled blocks now slot st st_now (Err e) added others same unnamed =
    subst (λ (s : StateOf Entry). AllSlots (SameUnder blocks now) s) (sym same)
    (slots_imply (λ other. other ≢ slot) (SameUnder blocks now) others st unnamed)

pub cached_same : (size : ℕ) (blocks now : SlotBlocks) (slot : ℕ) → SameUnder blocks now slot → cached size now slot ≡ cached size blocks slot
cached_same size blocks now slot same = ap (λ (o : Option (List ℕ)). cond (eqb slot 4294967295) (replicate size 0) (unwrap_or o [])) same

-- the block in a slot that is held
pub cached_is : (size : ℕ) (blocks : SlotBlocks) (slot : ℕ) (bytes : List ℕ) → slot < 4294967295 → block_under blocks slot ≡ Some bytes
    → cached size blocks slot ≡ bytes
cached_is size blocks slot bytes small held =
    let other : eqb slot 4294967295 ≡ false = grind (arith, nat_tests, small) in
    ap (λ (b : Bool). cond b (replicate size 0) (unwrap_or (block_under blocks slot) [])) other ∙ ap (λ (o : Option (List ℕ)). unwrap_or o []) held

-- a clause sees no difference
pub brick_same : {D : Type 0} (blocks now : SlotBlocks) (frames : Held D) (st : StateOf Entry) → AllSlots (SameUnder blocks now) st
    → brick_of now frames st ≡ brick_of blocks frames st
brick_same {D} blocks now frames st same =
    ap with_state (resolved_same (cached frames.shape.block now) (cached frames.shape.block blocks) st
    (slots_imply (SameUnder blocks now) (λ slot. cached frames.shape.block now slot ≡ cached frames.shape.block blocks slot)
    (cached_same frames.shape.block blocks now) st same))
  where
    with_state : StateOf Version → Brick D
    with_state s = record { disk = frames.disk; shape = formed New frames.shape; state = s; listed = size_of frames.frames; halted = frames.halted }

module _ {D : Type 0} (d : on_disk.Ghosts D) where
  -- and the store stands with it
  pub standing_same : (blocks now : SlotBlocks) (zero_block : List ℕ) (frames : Held D) (index : Index) → AllSlots (SameUnder blocks now)
      (state_of index)
      → Standing d.tells d.seen d.may_leave frames index blocks zero_block → Standing d.tells d.seen d.may_leave frames index now zero_block
  standing_same blocks now zero_block frames index same standing = record {
    limits = standing.limits;
    slotted = standing.slotted;
    indexed = standing.indexed;
    cached_all = slots_imply (λ slot. IsCached frames.shape.block blocks slot × SameUnder blocks now slot)
        (IsCached frames.shape.block now) cached_now (state_of index)
        (slots_both (IsCached frames.shape.block blocks) (SameUnder blocks now) (state_of index) standing.cached_all same);
    zero_is = standing.zero_is;
    on_disk = λ told runs. let was = standing.on_disk told runs in record {
      only = was.only;
      shows = was.shows;
      closed = was.closed;
      stored = slots_imply (λ slot. IsStored frames.shape blocks (d.seen frames.disk) slot × SameUnder blocks now slot)
          (IsStored frames.shape now (d.seen frames.disk)) stored_now (state_of index)
          (slots_both (IsStored frames.shape blocks (d.seen frames.disk)) (SameUnder blocks now) (state_of index) was.stored same);
    };
  }
    where
      cached_now : (slot : ℕ) → IsCached frames.shape.block blocks slot × SameUnder blocks now slot → IsCached frames.shape.block now slot
      cached_now slot (inl zero, under) = inl zero
      cached_now slot (inr held, under) = inr (held.0, under ∙ held.1, held.2)

      stored_now : (slot : ℕ) → IsStored frames.shape blocks (d.seen frames.disk) slot × SameUnder blocks now slot
          → IsStored frames.shape now (d.seen frames.disk) slot
      stored_now slot (inl zero, under) = inl zero
      stored_now slot (inr there, under) = inr (there.0, there.1 ∙ sym (cached_same frames.shape.block blocks now slot under))

  -- what stood in the slots of versions still does, and the block that was put
  stored_before : (slot : ℕ) (bytes : List ℕ) (blocks : SlotBlocks) (zero_block : List ℕ) (old : Held D) (index : Index)
      → Standing d.tells d.seen d.may_leave old index blocks zero_block → old.halted ≡ false
      → AllSlots (λ other. other ≢ slot) (state_of index) → d.tells → (content : List ℕ) → KeepsSlots old.shape (Some (slot, bytes))
      (d.seen old.disk) content → AllSlots (IsStored old.shape blocks content) (state_of index)
  stored_before slot bytes blocks zero_block old index standing runs unnamed told content kept =
      slots_imply (λ other. IsStored old.shape blocks (d.seen old.disk) other × (other ≢ slot)) (IsStored old.shape blocks content)
      (λ other both. stored_still old.shape (Some (slot, bytes)) blocks (d.seen old.disk) content kept other both.1 both.0) (state_of index)
      (slots_both (IsStored old.shape blocks (d.seen old.disk)) (λ other. other ≢ slot) (state_of index) (standing.on_disk told runs).stored unnamed)

  stored_here : (slot : ℕ) (bytes : List ℕ) (blocks : SlotBlocks) (shape : Shape) (content : List ℕ) → slot < 4294967295
      → block_under blocks slot ≡ Some bytes → StandsIn shape (Some (slot, bytes)) content → IsStored shape blocks content slot
  stored_here slot bytes blocks shape content small held put =
      inr (put.0, put.1 ∙ sym (cached_is shape.block blocks slot bytes small held))

  -- what the record of a version with a block of its own says of the whole call
  pub changes_put : {calls : ℕ} (slot : ℕ) (bytes : List ℕ) (blocks : SlotBlocks) (zero_block : List ℕ) (old new : Held D) (index : Index)
      (item : Record) (st_now next : StateOf Entry) (body : ℕ) (result : Result (Unit {0}) StoreFault)
      → Standing d.tells d.seen d.may_leave old index blocks zero_block → old.halted ≡ false → is_full (indexes.limits_of index) (state_of index) ≡ false
      → applied (indexes.limits_of index) item (state_of index) ≡ Some next
      → ((P : ℕ → Type 0) → P slot → AllSlots P (state_of index) → AllSlots P next)
      → slot < 4294967295 → block_under blocks slot ≡ Some bytes → AllSlots (λ other. other ≢ slot) (state_of index)
      → Step d (state_of index) (changed (indexes.limits_of index) item (state_of index)) (Longer old (state_of index) body) old new result
      → OnOk result (st_now ≡ changed (indexes.limits_of index) item (state_of index)) → OnErr result (st_now ≡ state_of index)
      → StateChange d calls old (Some (slot, bytes)) (state_of index) (changed (indexes.limits_of index) item (state_of index)) new.disk (end_of result)
      → Told d (brick_of blocks old (state_of index)) (brick_of blocks new st_now)
      (resolved (cached old.shape.block blocks) next) body true calls result
  changes_put {calls} slot bytes blocks zero_block old new index item st_now next body result standing runs free is slots small held unnamed step made not_made change =
      let st = state_of index in
      let limits = indexes.limits_of index in
      let to = changed_to limits item st next is in
      let step_next = subst (λ (n : StateOf Entry). Step d st n (Longer old st body) old new result) to step in
      let made_next = subst (λ (n : StateOf Entry). OnOk result (st_now ≡ n)) to made in
      let change_next = subst (λ (n : StateOf Entry). StateChange d calls old (Some (slot, bytes)) st n new.disk (end_of result)) to change in
      let records : limits.records ≡ old.shape.records = ap (λ (l : Limits). l.records) standing.indexed.limits_are in
      let before = stored_before slot bytes blocks zero_block old index standing runs unnamed in
      changes_tried d (Some (slot, bytes)) blocks st next old new st_now body true calls result (may_of d blocks zero_block old index standing runs)
      (λ add at. not_full limits st free (at ∙ sym records))
      before (λ told content kept put. slots (IsStored old.shape blocks content) (stored_here slot bytes blocks old.shape content small held put)
      (before told content kept)) step_next made_next not_made change_next

  -- and that the store stands after it
  pub standing_put : {calls : ℕ} {Listed : ℕ → Type 0} (slot : ℕ) (bytes : List ℕ) (blocks : SlotBlocks) (zero_block : List ℕ) (old new : Held D) (index index_now : Index)
      (item : Record) (next : StateOf Entry) (result : Result (Unit {0}) StoreFault)
      → Standing d.tells d.seen d.may_leave old index blocks zero_block → old.halted ≡ false
      → applied (indexes.limits_of index) item (state_of index) ≡ Some next
      → ((P : ℕ → Type 0) → P slot → AllSlots P (state_of index) → AllSlots P next)
      → slot < 4294967295 → block_under blocks slot ≡ Some bytes → length bytes ≡ old.shape.block → AllSlots (λ other. other ≢ slot) (state_of index)
      → AllByRecursion GroupHasMembers next.groups → indexes.limits_of index_now ≡ indexes.limits_of index
      → Step d (state_of index) (changed (indexes.limits_of index) item (state_of index)) Listed old new result
      → OnOk result (state_of index_now ≡ changed (indexes.limits_of index) item (state_of index))
      → OnErr result (state_of index_now ≡ state_of index)
      → StateChange d calls old (Some (slot, bytes)) (state_of index) (changed (indexes.limits_of index) item (state_of index)) new.disk (end_of result)
      → Standing d.tells d.seen d.may_leave new index_now blocks zero_block
  standing_put {calls} {Listed} slot bytes blocks zero_block old new index index_now item next result standing runs is slots small held len unnamed members limits step made not_made change =
      let st = state_of index in
      let to = changed_to (indexes.limits_of index) item st next is in
      let change_next = subst (λ (n : StateOf Entry). StateChange d calls old (Some (slot, bytes)) st n new.disk (end_of result)) to change in
      let step_next = subst (λ (n : StateOf Entry). Step d st n Listed old new result) to step in
      let made_next = subst (λ (n : StateOf Entry). OnOk result (state_of index_now ≡ n)) to made in
      let shaped = subst (λ (l : Limits). applied l item st ≡ Some next) standing.indexed.limits_are is in
      let kept = applied_keeps (limits_of old.shape) item st next standing.indexed.kept shaped in
      let before = stored_before slot bytes blocks zero_block old index standing runs unnamed in
      standing_after d {calls = calls}
      (Some (slot, bytes)) blocks zero_block next old new index index_now result standing runs limits step_next made_next not_made change_next kept members
      (slots (IsCached old.shape.block blocks) (inr (bytes, held, len)) standing.cached_all)
      (λ told content kept_slots put. slots (IsStored old.shape blocks content) (stored_here slot bytes blocks old.shape content small held put)
      (before told content kept_slots))

  -- a store of which a call was refused before it tried, for want of memory
  pub changes_stopped : (only_now : (disk : D) (image : List ℕ) → d.left_since disk (d.moment disk) image → d.may_leave disk image)
      (blocks : SlotBlocks) (zero_block : List ℕ) (old : Held D) (index : Index) (after : StateOf Version) (body calls : ℕ)
      → Standing d.tells d.seen d.may_leave old index blocks zero_block → old.halted ≡ false → is_full (indexes.limits_of index) (state_of index) ≡ false
      → Told d (brick_of blocks old (state_of index))
      (brick_of blocks old (state_of index)) after body true calls (Err NoMemory)
  changes_stopped only_now blocks zero_block old index after body calls standing running free = (
    at_once d only_now calls (StandsFor (formed New old.shape) (resolved (cached old.shape.block blocks) (state_of index))) _
        (StandsFor (formed New old.shape) after)
        (λ image at. inl at) old.disk,
    record {
      ok = tt;
      refused = record { shape = refl; state = refl };
      listed = lists_refused NoMemory _ (size_of old.frames);
      answer = subst (λ n. IsAnswer old.shape.records n true old.halted old.halted (Err NoMemory))
          (sym (live-resolved (cached old.shape.block blocks) (state_of index))) memory;
    },
  )
    where
      differ : true ≡ false → ⊥
      differ e = cc

      memory : IsAnswer old.shape.records (live (state_of index)) true old.halted old.halted (Err NoMemory)
      memory = record {
        refused = λ h. absurd (differ (sym h ∙ running));
        only_then = λ h. absurd cc;
        full = λ runs add at. absurd (not_full (indexes.limits_of index) (state_of index) free
            (at ∙ sym (ap (λ (l : Limits). l.records) standing.indexed.limits_are)));
        only_full = λ n h. absurd cc;
        halts = refl;
      }

  -- in the words of what a clause sees of the store
  pub told_stopped : (only_now : (disk : D) (image : List ℕ) → d.left_since disk (d.moment disk) image → d.may_leave disk image)
      (blocks : SlotBlocks) (zero_block : List ℕ) (old : Held D) (index : Index) (b : Brick D) (after : StateOf Version) (body calls : ℕ)
      (fault : StoreFault)
      → brick_of blocks old (state_of index) ≡ b → fault ≡ NoMemory → Standing d.tells d.seen d.may_leave old index blocks zero_block → old.halted ≡ false
      → is_full (indexes.limits_of index) (state_of index) ≡ false
      → Told d b (brick_of blocks old (state_of index)) after body true calls (Err fault)
  told_stopped only_now blocks zero_block old index b after body calls fault view memory standing runs free =
      subst (λ (e : StoreFault). Told d b (brick_of blocks old (state_of index)) after body true calls
      (Err e)) (sym memory)
      (subst (λ (x : Brick D). Told d x (brick_of blocks old (state_of index)) after body true calls
      (Err NoMemory)) view
      (changes_stopped only_now blocks zero_block old index after body calls standing runs free))
