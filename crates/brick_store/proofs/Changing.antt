-- What a step of the list says of the store.
use Rattle.std.proofs.Common.{◌≡◌, ◌≢◌, ◌⊎◌, inl, inr, ⊎_elim, ℕ, Bool, true, false, cond, eqb, Option, Some, None, List, [], ◌∷◌, Result, Ok, Err, refl, sym, ap, subst, ◌∙◌, arith}
use Rattle.std.specs.Option.{unwrap_or, option_map}
use Rattle.std.proofs.lemmas.Option.{same_Some}
use Rattle.std.specs.List.{AllByRecursion}
use Rattle.std.specs.Prelude.{replicate}
use Rattle.std.specs.Result.{OnOk, OnErr}
use Rattle.fab_disk.specs.declared.disk.Disk as on_disk
use Rattle.fab_disk.specs.Disk.{Only}
use Rattle.fab_disk.specs.Changing.{End, NotBegun}
use Rattle.fab_disk.proofs.Changing.{widen, same as at_once}
use Rattle.fab_base.specs.declared.member_lists.View.{View}
use Rattle.frame_store.specs.declared.frames.Frame.{Frame}
use Rattle.frame_store.specs.declared.shapes.Shape.{Shape}
use Rattle.frame_store.specs.declared.shapes.Form.{Form}
use Rattle.frame_store.specs.declared.shapes.Form.TheVariants.{Old, New, Moved}
use Rattle.frame_store.specs.Layouts.{IsShape, formed, is_old, is_old_form}
use Rattle.frame_store.specs.Listed.{size_of}
use Rattle.frame_store.specs.Images.{OpensAs, block_in, StandsIn, IsOther, KeepsSlots}
use Rattle.frame_store.specs.Stores.{Held}
use Rattle.version_log.specs.Versions.{Version}
use Rattle.brick_state.specs.declared.records.Record.{Record}
use Rattle.brick_state.specs.Entries.{Entry}
use Rattle.brick_state.specs.States.{StateOf, empty, live}
use Rattle.brick_state.specs.declared.indexes.Index.{Index}
use Rattle.brick_state.specs.Folds.{Limits, applied, folded, is_full}
use Rattle.brick_state.specs.Indexes.{state_of}
use Rattle.brick_state.specs.Indexes as indexes
use Rattle.brick_state.specs.KeptStates.{IsKeptState}
use Rattle.brick_store.specs.BlockTables.{SlotBlocks, block_under}
use Rattle.brick_store.specs.declared.faults.StoreFault.{StoreFault}
use Rattle.brick_store.specs.declared.faults.StoreFault.TheVariants.{Disk, Full, Halted, NoMemory}
use Rattle.brick_store.specs.Blocks.{resolved, cached}
use Rattle.brick_store.specs.Bricks.{Brick, Keeps, IsAnswer, halted_after}
use Rattle.brick_store.specs.Images.{records_of, limits_of, block_at, state_by, slot_state_in, StandsFor}
use Rattle.brick_store.specs.Standing.{Leads, AllSlots, IsCached, IsStored, GroupHasMembers, IsIndexed, IsOnDisk, Standing}
use Rattle.brick_store.specs.Steps.{changed, LeadsTo, IsUnchanged, IsChanged, Step, CanChange, IsRefused}
use Rattle.brick_store.specs.Ends.{end_of, StateChange, BrickChange}
use Rattle.brick_store.specs.Calls.{has_room_for}
use Rattle.brick_store.specs.Lengths.{IsAppended}
use Rattle.brick_store.specs.Sizes.{view_size, known_size}
use Rattle.brick_store.specs.Changes.{Answers}
use Rattle.brick_state.proofs.Keeping.{applied_keeps}
use Rattle.brick_store.proofs.Lengths.{lists_refused, lists_tried}
use Rattle.brick_store.proofs.Stepping.{refused, slots_same}
use Rattle.brick_store.proofs.Changed.{changed_to, not_full}
use Rattle.brick_store.proofs.Resolving.{resolved_same, slots_imply, live-resolved}

-- ---- images

-- what the frames lead to is what they make
pub leads_folded : (limits : Limits) (frames : List Frame) (old st : StateOf Entry) → Leads limits frames old st
    → folded limits (records_of frames) old ≡ st
unfolding Leads records_of folded
leads_folded limits [] old st leads = leads
leads_folded limits (frame ∷ frames) old st leads = rw leads.1 (rw leads.3 (leads_folded limits frames leads.2 st leads.4))

-- what lies in the slot is what is held in memory
pub stored_same : (shape : Shape) (blocks : SlotBlocks) (image : List ℕ) (slot : ℕ) → IsStored shape blocks image slot
    → block_at shape image slot ≡ cached shape.block blocks slot
stored_same shape blocks image slot (inl zero) = rw zero refl
stored_same shape blocks image slot (inr there) = by (eqb slot 4294967295) refl
  where
    by : (b : Bool) → eqb slot 4294967295 ≡ b → cond b (replicate shape.block 0) (block_in shape slot image) ≡ cond b (replicate shape.block 0)
        (unwrap_or (block_under blocks slot) [])
    by true at = refl
    by false at = there.1 ∙ ap (λ (c : Bool). cond c (replicate shape.block 0) (unwrap_or (block_under blocks slot) [])) at

-- in a store of the new format the blocks lie in slots
pub slot_state : (form : Form) (shape : Shape) (frames : List Frame) (image : List ℕ) → is_old_form form ≡ false
    → state_by form shape frames image ≡ slot_state_in shape frames image
slot_state Old shape frames image slotted = absurd cc
slot_state New shape frames image slotted = refl
slot_state Moved shape frames image slotted = refl

-- an image whose slots hold the blocks stands for the state
pub stands_for : (shape : Shape) (blocks : SlotBlocks) (st : StateOf Entry) (image : List ℕ) → is_old shape ≡ false → LeadsTo shape st image
    → AllSlots (IsStored shape blocks image) st
    → StandsFor (formed New shape) (resolved (cached shape.block blocks) st) image
stands_for shape blocks st image slotted leads stored = record {
  form = shape.form;
  frames = leads.frames;
  opens = leads.opens;
  state =
      slot_state shape.form shape leads.frames image slotted
      ∙ ap (resolved (block_at shape image)) (leads_folded (limits_of shape) leads.frames empty st leads.leads)
      ∙ resolved_same (block_at shape image) (cached shape.block blocks) st
      (slots_imply (IsStored shape blocks image) (λ slot. block_at shape image slot ≡ cached shape.block blocks slot)
      (stored_same shape blocks image) st stored);
}

-- a block that lay in its slot still does
pub stored_still : (shape : Shape) (put : Option (ℕ × List ℕ)) (blocks : SlotBlocks) (content image : List ℕ)
    → KeepsSlots shape put content image
    → (slot : ℕ) → IsOther put slot → IsStored shape blocks content slot → IsStored shape blocks image slot
stored_still shape put blocks content image kept slot free (inl zero) = inl zero
stored_still shape put blocks content image kept slot free (inr there) =
    inr (record { is_slot = there.0.is_slot; inside = omega (arith, there.0.inside, kept.size) }, kept.same slot there.0 free ∙ there.1)

-- ---- a store

-- what a clause sees of a store of these frames, blocks and state
abbrev pub brick_of : {D : Type 0} → SlotBlocks → Held D → StateOf Entry → Brick D
brick_of blocks frames st = record {
  disk = frames.disk;
  shape = formed New frames.shape;
  state = resolved
      (cached frames.shape.block blocks) st;
  listed = size_of frames.frames;
  halted = frames.halted;
}

-- the bytes of the view that a group learnt
pub known_is : (known : Option (View × Bool)) (view : View) → option_map (λ k. k.0) known ≡ Some view → view_size view ≡ known_size known
known_is None view is = absurd cc
known_is (Some known) view is = ap view_size (sym (same_Some _ _ is))

-- the answer of a call that was tried
answers_of : (r : Result (Unit {0}) StoreFault) (x : StoreFault) → OnErr r ((r ≡ Err Disk) ⊎ (r ≡ Err NoMemory)) → r ≡ Err x → (x ≡ Disk)
    ⊎ (x ≡ NoMemory)
answers_of (Ok u) x only is = absurd cc
answers_of (Err e) x (inl h) is = inl cc
answers_of (Err e) x (inr h) is = inr cc

tried_answer : (records live : ℕ) (adds halted_now : Bool) (result : Result (Unit {0}) StoreFault) → (adds ≡ true → live ≢ records)
    → OnErr result ((result ≡ Err Disk) ⊎ (result ≡ Err NoMemory))
    → halted_now ≡ halted_after false result → IsAnswer records live adds false halted_now result
tried_answer records live adds halted_now result free only halts = record {
  refused = λ h. absurd cc;
  only_then = λ h. absurd (⊎_elim (λ e. halted_disk e) (λ e. halted_memory e) (answers_of result Halted only h));
  full = λ runs add at. absurd (free add at);
  only_full = λ n h. absurd (⊎_elim (λ e. full_disk n e) (λ e. full_memory n e) (answers_of result (Full n) only h));
  halts = halts;
}
  where
    halted_disk : Halted ≡ Disk → ⊥
    halted_disk e = cc

    halted_memory : Halted ≡ NoMemory → ⊥
    halted_memory e = cc

    full_disk : (n : ℕ) → Full n ≡ Disk → ⊥
    full_disk n e = cc

    full_memory : (n : ℕ) → Full n ≡ NoMemory → ⊥
    full_memory n e = cc

-- and of one that was not
refused_answer : (records live : ℕ) (adds halted : Bool) (fault : StoreFault) → IsRefused halted adds records live (Err fault)
    → IsAnswer records live adds halted halted (Err fault)
refused_answer records live adds halted fault (inl is) =
    let f : fault ≡ Halted = cc in
    subst (λ (x : StoreFault). IsAnswer records live adds halted halted (Err x)) (sym f) (record {
      refused = λ h. refl;
      only_then = λ h. is.0;
      full = λ runs add at. absurd (differ (sym is.0 ∙ runs));
      only_full = λ n h. absurd cc;
      halts = refl;
    })
  where
    differ : true ≡ false → ⊥
    differ e = cc
refused_answer records live adds halted fault (inr is) =
    let f : fault ≡ Full live = cc in
    subst (λ (x : StoreFault). IsAnswer records live adds halted halted (Err x)) (sym f) (record {
      refused = λ h. absurd (differ (sym h ∙ is.0));
      only_then = λ h. absurd cc;
      full = λ runs add at. refl;
      only_full = λ n h. (is.0, is.1, is.2, same n live h);
      halts = refl;
    })
  where
    differ : true ≡ false → ⊥
    differ e = cc

    same : (m n : ℕ) → refused (Full n) ≡ refused (Full m) → m ≡ n
    same m n h = cc

-- it made no call of the disk
refused_ends : (halted adds : Bool) (records live : ℕ) (fault : StoreFault) → IsRefused halted adds records live (Err fault)
    → NotBegun ≡ end_of (refused fault)
refused_ends halted adds records live fault (inl is) =
    let f : fault ≡ Halted = cc in sym (ap (λ (x : StoreFault). end_of (refused x)) f)
refused_ends halted adds records live fault (inr is) =
    let f : fault ≡ Full live = cc in sym (ap (λ (x : StoreFault). end_of (refused x)) f)

-- what a change promises: what became of the disk, and of the store
abbrev pub Told : {D : Type 0} → on_disk.Ghosts D → Brick D → Brick D → StateOf Version → ℕ → Bool → ℕ → Result (Unit {0}) StoreFault → Type 0
Told d old new after body adds calls result = BrickChange d calls old after new.disk (end_of result) × Answers old new after body adds result

-- of the same answer
pub told_as : {D : Type 0} (d : on_disk.Ghosts D) (old new : Brick D) (after : StateOf Version) (body : ℕ) (adds : Bool) (calls : ℕ)
    (r other : Result (Unit {0}) StoreFault) → r ≡ other → Told d old new after body adds calls other → Told d old new after body adds calls r
told_as d old new after body adds calls r other is told =
    subst (λ (a : Result (Unit {0}) StoreFault). Told d old new after body adds calls a) (sym is) told

-- how long the list is that a record with such a body is appended to
abbrev pub Longer : {D : Type 0} → Held D → StateOf Entry → ℕ → ℕ → Type 0
Longer old st body = IsAppended (has_room_for old.shape (size_of old.frames) body) (live st) (size_of old.frames) body

module _ {D : Type 0} (d : on_disk.Ghosts D) where
  -- a store between two calls can be changed, while it is not halted
  pub may_of : (blocks : SlotBlocks) (zero_block : List ℕ) (old : Held D) (index : Index)
      → Standing d.tells d.seen d.may_leave old index blocks zero_block → old.halted ≡ false → CanChange d (state_of index) old
  may_of blocks zero_block old index standing runs = record {
    runs = runs;
    slotted = standing.slotted;
    leads = standing.indexed.leads;
    settled = λ told. let was = standing.on_disk told runs in
        record { only = was.only; shows = was.shows; closed = was.closed };
  }

  -- what the change of the list says of the whole call
  pub changes_tried : (put : Option (ℕ × List ℕ)) (blocks : SlotBlocks) (st next : StateOf Entry) (old new : Held D) (st_now : StateOf Entry)
      (body : ℕ) (adds : Bool) (calls : ℕ) (result : Result (Unit {0}) StoreFault)
      → CanChange d st old → (adds ≡ true → live st ≢ old.shape.records)
      → (d.tells → (content : List ℕ) → KeepsSlots old.shape put (d.seen old.disk) content → AllSlots (IsStored old.shape blocks content) st)
      → (d.tells → (content : List ℕ) → KeepsSlots old.shape put (d.seen old.disk) content → StandsIn old.shape put content
      → AllSlots (IsStored old.shape blocks content) next)
      → Step d st next (Longer old st body) old new result → OnOk result (st_now ≡ next) → OnErr result (st_now ≡ st)
      → StateChange d calls old put st next new.disk (end_of result)
      → Told d (brick_of blocks old st) (brick_of blocks new st_now) (resolved (cached old.shape.block blocks) next) body adds calls result
  changes_tried put blocks st next old new st_now body adds calls result may free before after step made not_made change = (
    widen d calls (IsUnchanged old.shape put st (d.seen old.disk)) _ (IsChanged old.shape put next (d.seen old.disk))
        (StandsFor (formed New old.shape) (resolved (cached old.shape.block blocks) st)) _
        (StandsFor (formed New old.shape) (resolved (cached old.shape.block blocks) next))
        old.disk new.disk (end_of result)
        (λ told here. record {
          opens = record {
            frames = old.frames;
            opens = subst (λ (b : Bool). OpensAs old.shape old.frames b (d.seen old.disk)) (may.settled told).closed (may.settled told).shows.opens;
            leads = may.leads;
          };
          slots = slots_same old.shape put (d.seen old.disk) (d.seen old.disk) refl;
        })
        (λ told here image at. stands_for old.shape blocks st image may.slotted at.opens (before told image at.slots))
        (λ told here image. ⊎_elim (λ at. inl (stands_for old.shape blocks st image may.slotted at.opens (before told image at.slots)))
        (λ at. inr (stands_for old.shape blocks next image may.slotted at.opens (after told image at.slots at.stands))))
        (λ told image at. stands_for old.shape blocks next image may.slotted at.opens (after told image at.slots at.stands))
        change,
    record {
      ok = keeps_ok result made;
      refused = keeps_err result not_made;
      listed = lists_tried result _ (size_of old.frames) (size_of new.frames)
          (subst (λ (n : ℕ). OnOk result (IsAppended (has_room_for old.shape (size_of old.frames) body) n (size_of old.frames) body (size_of new.frames)))
          (sym (live-resolved (cached old.shape.block blocks) st)) step.listed) step.as_long step.only;
      answer = subst (λ (b : Bool). IsAnswer old.shape.records (live (resolved (cached old.shape.block blocks) st)) adds b new.halted result)
          (sym may.runs)
          (subst (λ n. IsAnswer old.shape.records n adds false new.halted result) (sym (live-resolved (cached old.shape.block blocks) st))
          (tried_answer old.shape.records (live st) adds new.halted result free step.only step.halts));
    },
  )
    where
      now_is : (s : StateOf Entry) → st_now ≡ s → resolved (cached new.shape.block blocks) st_now ≡ resolved (cached old.shape.block blocks) s
      now_is s is = ap (resolved (cached new.shape.block blocks)) is ∙ ap (λ (h : Shape). resolved (cached h.block blocks) s) step.shape

      keeps_ok : (r : Result (Unit {0}) StoreFault) → OnOk r (st_now ≡ next)
          → OnOk r (Keeps (resolved (cached old.shape.block blocks) next) (brick_of blocks old st) (brick_of blocks new st_now))
      keeps_ok (Ok u) h = record { shape = ap (formed New) step.shape; state = now_is next h }
      keeps_ok (Err e) h = tt

      keeps_err : (r : Result (Unit {0}) StoreFault) → OnErr r (st_now ≡ st)
          → OnErr r (Keeps (resolved (cached old.shape.block blocks) st) (brick_of blocks old st) (brick_of blocks new st_now))
      keeps_err (Ok u) h = tt
      keeps_err (Err e) h = record { shape = ap (formed New) step.shape; state = now_is st h }

  -- the store stands after the call
  pub standing_after : {calls : ℕ} {Listed : ℕ → Type 0} (put : Option (ℕ × List ℕ)) (blocks : SlotBlocks) (zero_block : List ℕ) (next : StateOf Entry)
      (old new : Held D) (index index_now : Index) (result : Result (Unit {0}) StoreFault)
      → Standing d.tells d.seen d.may_leave old index blocks zero_block → old.halted ≡ false
      → indexes.limits_of index_now ≡ indexes.limits_of index → Step d (state_of index) next Listed old new result
      → OnOk result (state_of index_now ≡ next) → OnErr result (state_of index_now ≡ state_of index)
      → StateChange d calls old put (state_of index) next new.disk (end_of result)
      → IsKeptState (limits_of old.shape) next → AllByRecursion GroupHasMembers next.groups → AllSlots (IsCached old.shape.block blocks) next
      → (d.tells → (content : List ℕ) → KeepsSlots old.shape put (d.seen old.disk) content → StandsIn old.shape put content
      → AllSlots (IsStored old.shape blocks content) next)
      → Standing d.tells d.seen d.may_leave new index_now blocks zero_block
  standing_after {calls} put blocks zero_block next old new index index_now result standing started_running limits step made not_made change kept members cached_next after =
      by result step.made step.not_made step.only step.halts made not_made change
    where
      of : (st : StateOf Entry) → state_of index_now ≡ st → Leads (limits_of old.shape) new.frames empty st → IsKeptState (limits_of old.shape) st
          → AllByRecursion GroupHasMembers st.groups → AllSlots (IsCached old.shape.block blocks) st
          → (d.tells → new.halted ≡ false → IsOnDisk d.tells d.seen d.may_leave blocks new st)
          → Standing d.tells d.seen d.may_leave new index_now blocks zero_block
      of st is leads kept_st named held_all on_disk =
          let indexed : IsIndexed old.shape new.frames (indexes.limits_of index_now) st = record {
            limits_are = limits
                ∙ standing.indexed.limits_are;
            leads = leads;
            kept = kept_st;
            members = named;
          } in
          let back = sym is in
          record {
            limits = subst IsShape (sym step.shape) standing.limits;
            slotted = subst (λ (h : Shape). is_old h ≡ false) (sym step.shape) standing.slotted;
            indexed = subst (λ (s : StateOf Entry). IsIndexed new.shape new.frames (indexes.limits_of index_now) s) back
                (subst (λ (h : Shape). IsIndexed h new.frames (indexes.limits_of index_now) st) (sym step.shape) indexed);
            cached_all = subst (λ (s : StateOf Entry). AllSlots (IsCached new.shape.block blocks) s) back
                (subst (λ (h : Shape). AllSlots (IsCached h.block blocks) st) (sym step.shape) held_all);
            zero_is = standing.zero_is ∙ ap (λ (h : Shape). replicate h.block 0) (sym step.shape);
            on_disk = λ told runs. subst (λ (s : StateOf Entry). IsOnDisk d.tells d.seen d.may_leave blocks new s) back (on_disk told runs);
          }

      on_new : (st : StateOf Entry) → d.tells → new.halted ≡ false → Only (d.seen new.disk) (d.may_leave new.disk)
          → AllSlots (IsStored old.shape blocks (d.seen new.disk)) st → IsOnDisk d.tells d.seen d.may_leave blocks new st
      on_new st told runs only stored = record {
        only = only;
        shows = step.shows told runs;
        closed = step.closed (standing.on_disk told started_running).closed;
        stored = subst (λ (h : Shape). AllSlots (IsStored h blocks (d.seen new.disk)) st) (sym step.shape) stored;
      }

      halted_disk : (b : Bool) → b ≡ halted_after false (Err Disk) → b ≡ false → ⊥
      halted_disk b h k = absurd (differ (sym h ∙ k))
        where
          differ : true ≡ false → ⊥
          differ e = cc

      by : (r : Result (Unit {0}) StoreFault) → OnOk r (Leads (limits_of old.shape) new.frames empty next)
          → OnErr r (Leads (limits_of old.shape) new.frames empty (state_of index)) → OnErr r ((r ≡ Err Disk) ⊎ (r ≡ Err NoMemory))
          → new.halted ≡ halted_after false r → OnOk r (state_of index_now ≡ next) → OnErr r (state_of index_now ≡ state_of index)
          → StateChange d calls old put (state_of index) next new.disk (end_of r)
          → Standing d.tells d.seen d.may_leave new index_now blocks zero_block
      by (Ok u) leads not_leads only halts is is_not whole =
          of next is leads kept members cached_next (λ told runs. let made = whole.whole refl told in
          on_new next told runs made.only (after told (d.seen new.disk) made.has.slots made.has.stands))
      by (Err e) leads not_leads (inl disk) halts is is_not cut =
          of (state_of index) is_not not_leads standing.indexed.kept standing.indexed.members standing.cached_all
          (λ told runs. absurd (halted_disk new.halted (halts ∙ ap (halted_after false) disk) runs))
      by (Err e) leads not_leads (inr memory) halts is is_not not_begun =
          of (state_of index) is_not not_leads standing.indexed.kept standing.indexed.members standing.cached_all (λ told runs.
          let was = standing.on_disk told started_running in
          let untouched = not_begun.not_begun (ap (λ (r : Result (Unit {0}) StoreFault). end_of r) memory) in
          on_new (state_of index) told runs
          (λ image left. was.only image (untouched.crash image left) ∙ sym untouched.content)
          (subst (λ (x : List ℕ). AllSlots (IsStored old.shape blocks x) (state_of index)) (sym untouched.content) was.stored))

  -- a store of which a call was refused before it tried
  pub changes_refused : (only_now : (disk : D) (image : List ℕ) → d.left_since disk (d.moment disk) image → d.may_leave disk image)
      (blocks : SlotBlocks) (zero_block : List ℕ) (old : Held D) (index : Index) (after : StateOf Version) (body : ℕ) (adds : Bool) (calls : ℕ)
      (fault : StoreFault)
      → Standing d.tells d.seen d.may_leave old index blocks zero_block → IsRefused old.halted adds (indexes.limits_of index).records
      (live (state_of index)) (Err fault)
      → Told d (brick_of blocks old (state_of index)) (brick_of blocks old (state_of index)) after body adds calls (Err fault)
  changes_refused only_now blocks zero_block old index after body adds calls fault standing is = (
    subst (λ (end : End). BrickChange d calls (brick_of blocks old (state_of index)) after old.disk end)
        (refused_ends old.halted adds (indexes.limits_of index).records (live (state_of index)) fault is)
        (at_once d only_now calls (StandsFor (formed New old.shape) (resolved (cached old.shape.block blocks) (state_of index))) _
        (StandsFor (formed New old.shape) after)
        (λ image at. inl at) old.disk),
    record {
      ok = tt;
      refused = record { shape = refl; state = refl };
      listed = lists_refused fault _ (size_of old.frames);
      answer = subst (λ n. IsAnswer old.shape.records n adds old.halted old.halted (Err fault))
          (sym (live-resolved (cached old.shape.block blocks) (state_of index)))
          (refused_answer old.shape.records (live (state_of index)) adds old.halted fault
          (subst (λ (l : Limits). IsRefused old.halted adds l.records (live (state_of index)) (Err fault)) standing.indexed.limits_are is));
    },
  )

  -- what stood in the slots of versions still does, where no block is put
  stored_plain : (blocks : SlotBlocks) (zero_block : List ℕ) (old : Held D) (index : Index)
      → Standing d.tells d.seen d.may_leave old index blocks zero_block → old.halted ≡ false → d.tells → (content : List ℕ)
      → KeepsSlots old.shape None (d.seen old.disk) content → AllSlots (IsStored old.shape blocks content) (state_of index)
  stored_plain blocks zero_block old index standing runs told content kept =
      slots_imply (IsStored old.shape blocks (d.seen old.disk)) (IsStored old.shape blocks content)
      (λ slot. stored_still old.shape None blocks (d.seen old.disk) content kept slot tt) (state_of index) (standing.on_disk told runs).stored

  -- what the record of a change that adds no block of its own says of the whole call
  pub changes_plain : {calls : ℕ} (blocks : SlotBlocks) (zero_block : List ℕ) (old new : Held D) (index : Index) (item : Record)
      (st_now next : StateOf Entry) (body : ℕ) (adds : Bool) (result : Result (Unit {0}) StoreFault)
      → Standing d.tells d.seen d.may_leave old index blocks zero_block → old.halted ≡ false
      → (adds ≡ true → is_full (indexes.limits_of index) (state_of index) ≡ false)
      → applied (indexes.limits_of index) item (state_of index) ≡ Some next → ((P : ℕ → Type 0) → P 4294967295 → AllSlots P (state_of index)
      → AllSlots P next)
      → Step d (state_of index) (changed (indexes.limits_of index) item (state_of index)) (Longer old (state_of index) body) old new result
      → OnOk result (st_now ≡ changed (indexes.limits_of index) item (state_of index)) → OnErr result (st_now ≡ state_of index)
      → StateChange d calls old None (state_of index) (changed (indexes.limits_of index) item (state_of index)) new.disk (end_of result)
      → Told d (brick_of blocks old (state_of index)) (brick_of blocks new st_now) (resolved (cached old.shape.block blocks) next) body adds calls result
  changes_plain {calls} blocks zero_block old new index item st_now next body adds result standing runs free is slots step made not_made change =
      let st = state_of index in
      let limits = indexes.limits_of index in
      let to = changed_to limits item st next is in
      let records : limits.records ≡ old.shape.records = ap (λ (l : Limits). l.records) standing.indexed.limits_are in
      let stored = stored_plain blocks zero_block old index standing runs in
      changes_tried None blocks st next old new st_now body adds calls result (may_of blocks zero_block old index standing runs)
      (λ add at. not_full limits st (free add) (at ∙ sym records))
      stored (λ told content kept put. slots (IsStored old.shape blocks content) (inl refl) (stored told content kept))
      (subst (λ (n : StateOf Entry). Step d st n (Longer old st body) old new result) to step)
      (subst (λ (n : StateOf Entry). OnOk result (st_now ≡ n)) to made) not_made
      (subst (λ (n : StateOf Entry). StateChange d calls old None st n new.disk (end_of result)) to change)

  -- and that the store stands after it
  pub standing_plain : {calls : ℕ} {Listed : ℕ → Type 0} (blocks : SlotBlocks) (zero_block : List ℕ) (old new : Held D) (index index_now : Index) (item : Record)
      (next : StateOf Entry) (result : Result (Unit {0}) StoreFault)
      → Standing d.tells d.seen d.may_leave old index blocks zero_block → old.halted ≡ false
      → applied (indexes.limits_of index) item (state_of index) ≡ Some next → ((P : ℕ → Type 0) → P 4294967295 → AllSlots P (state_of index)
      → AllSlots P next)
      → AllByRecursion GroupHasMembers next.groups → indexes.limits_of index_now ≡ indexes.limits_of index
      → Step d (state_of index) (changed (indexes.limits_of index) item (state_of index)) Listed old new result
      → OnOk result (state_of index_now ≡ changed (indexes.limits_of index) item (state_of index))
      → OnErr result (state_of index_now ≡ state_of index)
      → StateChange d calls old None (state_of index) (changed (indexes.limits_of index) item (state_of index)) new.disk (end_of result)
      → Standing d.tells d.seen d.may_leave new index_now blocks zero_block
  standing_plain {calls} {Listed} blocks zero_block old new index index_now item next result standing runs is slots members limits step made not_made change =
      let st = state_of index in
      let to = changed_to (indexes.limits_of index) item st next is in
      let shaped = subst (λ (l : Limits). applied l item st ≡ Some next) standing.indexed.limits_are is in
      let kept = applied_keeps (limits_of old.shape) item st next standing.indexed.kept shaped in
      standing_after {calls = calls} None blocks zero_block next old new index index_now result standing runs limits
      (subst (λ (n : StateOf Entry). Step d st n Listed old new result) to step)
      (subst (λ (n : StateOf Entry). OnOk result (state_of index_now ≡ n)) to made) not_made
      (subst (λ (n : StateOf Entry). StateChange d calls old None st n new.disk (end_of result)) to change) kept members
      (slots (IsCached old.shape.block blocks) (inl refl) standing.cached_all)
      (λ told content kept_slots put. slots (IsStored old.shape blocks content) (inl refl)
      (stored_plain blocks zero_block old index standing runs told content kept_slots))

  -- in the words of what a clause sees of the store
  pub told_of : (blocks : SlotBlocks) (old new : Held D) (st st_now next : StateOf Entry) (b : Brick D)
      (F : StateOf Version → StateOf Version) (A : StateOf Version → Bool) (C : Brick D → ℕ) (body : ℕ) (adds : Bool) (calls : ℕ)
      (result : Result (Unit {0}) StoreFault)
      → brick_of blocks old st ≡ b → resolved (cached old.shape.block blocks) next ≡ F (resolved (cached old.shape.block blocks) st)
      → adds ≡ A (resolved (cached old.shape.block blocks) st) → calls ≡ C (brick_of blocks old st)
      → Told d (brick_of blocks old st) (brick_of blocks new st_now)
      (resolved (cached old.shape.block blocks) next) body adds calls result
      → Told d b (brick_of blocks new st_now) (F b.state) body (A b.state) (C b) result
  told_of blocks old new st st_now next b F A C body adds calls result view after add number tried =
      subst (λ (x : Brick D). Told d x (brick_of blocks new st_now) (F x.state) body
      (A x.state) (C x) result) view
      (subst (λ (n : ℕ). Told d (brick_of blocks old st) (brick_of blocks new st_now)
      (F (resolved (cached old.shape.block blocks) st)) body (A (resolved (cached old.shape.block blocks) st)) n result) number
      (subst (λ (a : StateOf Version). Told d (brick_of blocks old st)
      (brick_of blocks new st_now) a body (A (resolved (cached old.shape.block blocks) st)) calls result) after
      (subst (λ (x : Bool). Told d (brick_of blocks old st) (brick_of blocks new st_now)
      (resolved (cached old.shape.block blocks) next) body x calls result) add tried)))

  pub told_refused : (only_now : (disk : D) (image : List ℕ) → d.left_since disk (d.moment disk) image → d.may_leave disk image)
      (blocks : SlotBlocks) (zero_block : List ℕ) (old : Held D) (index : Index) (b : Brick D) (F : StateOf Version → StateOf Version)
      (A : StateOf Version → Bool) (body : ℕ) (adds : Bool) (calls : ℕ) (fault : StoreFault)
      → brick_of blocks old (state_of index) ≡ b → adds ≡ A (resolved (cached old.shape.block blocks) (state_of index))
      → Standing d.tells d.seen d.may_leave old index blocks zero_block
      → IsRefused old.halted adds (indexes.limits_of index).records (live (state_of index)) (Err fault)
      → Told d b b (F b.state) body (A b.state) calls (Err fault)
  told_refused only_now blocks zero_block old index b F A body adds calls fault view add standing is =
      let st = state_of index in
      subst (λ (x : Brick D). Told d x x (F x.state) body (A x.state) calls (Err fault)) view
      (subst (λ (x : Bool). Told d (brick_of blocks old st) (brick_of blocks old st)
      (F (resolved (cached old.shape.block blocks) st)) body x calls (Err fault)) add
      (changes_refused only_now blocks zero_block old index (F (resolved (cached old.shape.block blocks) st)) body adds calls fault standing is))
