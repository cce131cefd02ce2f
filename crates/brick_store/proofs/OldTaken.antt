-- What an opening that brought an old store over keeps in memory.
use Rattle.std.proofs.Common.{◌≡◌, inl, inr, ℕ, ◌+◌, true, false, List, refl, sym, ap, subst, ◌∙◌, arith}
use Rattle.std.specs.Prelude.{replicate, length}
use Rattle.std.specs.List.{AllByRecursion}
use Rattle.fab_disk.specs.declared.disk.Disk as on_disk
use Rattle.frame_store.specs.declared.frames.Frame.{Frame}
use Rattle.frame_store.specs.declared.shapes.Form.TheVariants.{Moved}
use Rattle.frame_store.specs.declared.shapes.Shape.{Shape}
use Rattle.frame_store.specs.Images.{AreBlocks}
use Rattle.frame_store.specs.Layouts.{IsShape, formed, is_old}
use Rattle.frame_store.specs.Listed.{Fits, size_of}
use Rattle.frame_store.specs.Stores.{Held}
use Rattle.version_log.specs.Versions.{Version}
use Rattle.brick_state.specs.Entries.{Entry}
use Rattle.brick_state.specs.States.{StateOf, booted, empty, live}
use Rattle.brick_state.specs.Folds.{Limits}
use Rattle.brick_state.specs.declared.indexes.Index.{Index}
use Rattle.brick_state.specs.Indexes.{state_of}
use Rattle.brick_state.specs.Indexes as indexes
use Rattle.brick_state.specs.KeptStates.{IsKeptState}
use Rattle.brick_state.proofs.Keeping.{boot_kept}
use Rattle.brick_store.specs.BlockTables.{SlotBlocks}
use Rattle.brick_store.specs.Blocks.{cached, resolved}
use Rattle.brick_store.specs.BringingOver.{IsBroughtTo, IsCut, LiesIn, cut_block}
use Rattle.brick_store.specs.Images.{limits_of}
use Rattle.brick_store.specs.Lengths.{IsAppended}
use Rattle.brick_store.specs.Sizes.{framed}
use Rattle.brick_store.specs.Standing.{AllSlots, GroupHasMembers, IsCached, IsStored, Leads, Standing}
use Rattle.brick_store.specs.Steps.{IsSettled}
use Rattle.brick_store.proofs.Adding.{slots_both}
use Rattle.brick_store.proofs.Opened.{counted_seen}
use Rattle.brick_store.proofs.Resolving.{resolved_same, slots_imply, live-resolved}

module _ (shape : Shape) (st : StateOf Version) (limits : Limits) (now : StateOf Entry) (blocks : SlotBlocks) (bytes : List ℕ) (frames : List Frame)
    (over : IsBroughtTo shape.block shape.records st limits now blocks bytes frames) where
  -- what the store is brought over with
  pub over_blocks : AreBlocks shape (length frames) bytes
  over_blocks = record { count = over.count; long = over.long; few = over.few; slots = over.slots }

  pub over_fits : Fits shape frames 4
  over_fits = omega (arith, over.listed, over.kept.within)

  -- the blocks in memory are those that the state has
  pub over_state : resolved (cached shape.block blocks) now ≡ st
  over_state =
      sym (resolved_same (cut_block shape.block bytes) (cached shape.block blocks) now
      (slots_imply (IsCut shape.block bytes blocks) (λ slot. cut_block shape.block bytes slot ≡ cached shape.block blocks slot) (λ slot is. is) now over.cut))
      ∙ over.state

  pub over_counted : (index : StateOf Entry) → index ≡ booted (now.boot + 1) now → resolved (cached shape.block blocks) index ≡ booted (st.boot + 1) st
  over_counted index is =
      ap (resolved (cached shape.block blocks)) is ∙ counted_seen (cached shape.block blocks) now ∙ ap (λ (s : StateOf Version). booted (s.boot + 1) s) over_state

  -- as many live records as before
  over_live : live now ≡ live st
  over_live = sym (live-resolved (cut_block shape.block bytes) now) ∙ ap (λ (s : StateOf Version). live s) over.state

  -- the list was written anew, and its count appended
  pub over_listed : (before after : ℕ) → after ≡ size_of frames + framed 4 → IsAppended false (live st) before 4 after
  over_listed before after is = record {
    longer = λ no. absurd (differ no);
    rewritten = λ same. omega (arith, is, over.listed, over_live);
  }
    where
      differ : false ≡ true → ⊥
      differ e = cc

  module _ {D : Type 0} (d : on_disk.Ghosts D) where
    -- so stands a store that was brought over, and then counted
    pub over_stands : (new : Held D) (index : Index) (zero_block : List ℕ) → new.shape ≡ formed Moved shape → IsShape shape
        → zero_block ≡ replicate shape.block 0 → indexes.limits_of index ≡ limits → state_of index ≡ booted (now.boot + 1) now
        → Leads (limits_of shape) new.frames empty (state_of index) → (d.tells → IsSettled d new)
        → (d.tells → AllSlots (LiesIn (formed Moved shape) bytes (d.seen new.disk)) now) → Standing d.tells d.seen d.may_leave new index blocks zero_block
    over_stands new index zero_block is limits_ok zero_is index_limits counted leads settled lie =
        let to : formed Moved shape ≡ new.shape = sym is in
        let back : booted (now.boot + 1) now ≡ state_of index = sym counted in
        record {
          limits = subst IsShape to
              (record { some_bytes = limits_ok.some_bytes; few_bytes = limits_ok.few_bytes; some_slots = limits_ok.some_slots; few_slots = limits_ok.few_slots });
          slotted = subst (λ (s : Shape). is_old s ≡ false) to refl;
          indexed = record {
            limits_are = index_limits ∙ over.limits_are ∙ ap limits_of to;
            leads = subst (λ (s : Shape). Leads (limits_of s) new.frames empty (state_of index)) to leads;
            kept = subst (λ (s : Shape). IsKeptState (limits_of s) (state_of index)) to
                (subst (λ (x : StateOf Entry). IsKeptState (limits_of shape) x) back (boot_kept (limits_of shape) (now.boot + 1) now over.kept));
            members = subst (λ (x : StateOf Entry). AllByRecursion GroupHasMembers x.groups) back over.members;
          };
          cached_all = subst (λ (s : Shape). AllSlots (IsCached s.block blocks) (state_of index)) to
              (subst (λ (x : StateOf Entry). AllSlots (IsCached shape.block blocks) x) back over.held);
          zero_is = zero_is ∙ ap (λ (s : Shape). replicate s.block 0) to;
          on_disk = λ told runs. record {
            only = (settled told).only;
            shows = (settled told).shows;
            closed = (settled told).closed;
            stored = subst (λ (s : Shape). AllSlots (IsStored s blocks (d.seen new.disk)) (state_of index)) to
                (subst (λ (x : StateOf Entry). AllSlots (IsStored (formed Moved shape) blocks (d.seen new.disk)) x) back
                (slots_imply (λ slot. LiesIn (formed Moved shape) bytes (d.seen new.disk) slot × IsCut shape.block bytes blocks slot)
                (IsStored (formed Moved shape) blocks (d.seen new.disk)) (λ slot at. stored (d.seen new.disk) slot at.0 at.1) now
                (slots_both (LiesIn (formed Moved shape) bytes (d.seen new.disk)) (IsCut shape.block bytes blocks) now (lie told) over.cut)));
          };
        }
      where
        stored : (content : List ℕ) (slot : ℕ) → LiesIn (formed Moved shape) bytes content slot → IsCut shape.block bytes blocks slot
            → IsStored (formed Moved shape) blocks content slot
        stored content slot (inl zero_block) is = inl zero_block
        stored content slot (inr lies) is = inr (lies.0, lies.1 ∙ is)
