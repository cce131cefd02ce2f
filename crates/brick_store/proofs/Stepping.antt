-- How one change of a store's list of frames is put together.
use Rattle.std.proofs.Common.{◌≡◌, ◌⊎◌, inl, inr, ℕ, ◌+◌, ◌*◌, ◌≤◌, min, max, length, if◌then◌else◌, Bool, true, false, Option, Some, None, List, [], ◌∷◌, ◌++◌, map, Result, Ok, Err, refl, sym, ap, subst, ◌∙◌, arith}
use Rattle.std.specs.Option.{IsSome, unwrap_or}
use Rattle.std.specs.Result.{OnOk, OnErr}
use Rattle.fab_disk.specs.declared.disk.Disk as on_disk
use Rattle.fab_disk.specs.Disk.{IsUntouched}
use Rattle.frame_store.specs.declared.frames.Frame.{Frame}
use Rattle.frame_store.specs.declared.shapes.Shape.{Shape}
use Rattle.frame_store.specs.declared.faults.FrameFault.{FrameFault}
use Rattle.frame_store.specs.declared.faults.FrameFault.TheVariants as frames
use Rattle.frame_store.specs.Images.{KeepsSlots}
use Rattle.frame_store.specs.Layouts.{is_old, store_end}
use Rattle.frame_store.specs.Listed.{size_of}
use Rattle.frame_store.specs.Stores.{Held, IsRead, IsSame, HasNow, HasRoom, HasRoomAhead}
use Rattle.frame_store.specs.Stores as held
use Rattle.brick_state.specs.declared.records.Record.{Record}
use Rattle.brick_state.specs.Entries.{Entry}
use Rattle.brick_state.specs.States.{StateOf, empty}
use Rattle.brick_state.specs.Folds.{Limits, applied}
use Rattle.brick_state.proofs.Rewriting as records
use Rattle.brick_store.specs.declared.faults.StoreFault.{StoreFault}
use Rattle.brick_store.specs.declared.faults.StoreFault.TheVariants.{Disk, NoMemory}
use Rattle.brick_store.specs.Bricks.{halted_after, fault_of}
use Rattle.brick_store.specs.Images.{record_of, limits_of}
use Rattle.brick_store.specs.Standing.{Leads}
use Rattle.brick_store.specs.Steps.{changed, Step, CanChange}

-- ---- frames and what they lead to

-- one frame more
pub leads_more : (limits : Limits) (frames : List Frame) (frame : Frame) (r : Record) (old st next : StateOf Entry) → Leads limits frames old st
    → record_of frame ≡ Some r → applied limits r st ≡ Some next
    → Leads limits (frames ++ frame ∷ []) old next
unfolding Leads
leads_more limits [] frame r old st next leads is can = (
  r,
  is,
  next,
  subst (λ (s : StateOf Entry). applied limits r s ≡ Some next) (sym leads) can,
  refl,
)
leads_more limits (first ∷ frames) frame r old st next leads is can = (
  leads.0,
  leads.1,
  leads.2,
  leads.3,
  leads_more limits frames frame r leads.2 st next leads.4 is can,
)

-- what a record that can be makes of a state
pub changed_is : (limits : Limits) (r : Record) (st : StateOf Entry) → IsSome (applied limits r st) → applied limits r st ≡ Some (changed limits r st)
unfolding changed
changed_is limits r st can = by (applied limits r st) can
  where
    by : (next : Option (StateOf Entry)) → IsSome next → next ≡ Some (unwrap_or next st)
    by None h = absurd cc
    by (Some next) h = refl

pub leads_changed : (limits shaped : Limits) (frames : List Frame) (frame : Frame) (r : Record) (st : StateOf Entry) → limits ≡ shaped
    → Leads shaped frames empty st → record_of frame ≡ Some r → IsSome (applied limits r st)
    → Leads shaped (frames ++ frame ∷ []) empty (changed limits r st)
leads_changed limits shaped frames frame r st same leads is can =
    leads_more shaped frames frame r empty st (changed limits r st) leads is (subst (λ (l : Limits). applied l r st ≡ Some (changed limits r st)) same
    (changed_is limits r st can))

-- the frames of records that lead to a state lead there
pub leads_from_records : (limits : Limits) (frames : List Frame) (rs : List Record) (old st : StateOf Entry) → map record_of frames ≡ map Some rs
    → records.Leads limits rs old st → Leads limits frames old st
unfolding Leads records.Leads
leads_from_records limits [] [] old st same leads = leads
leads_from_records limits [] (r ∷ rs) old st same leads = absurd cc
leads_from_records limits (frame ∷ frames) [] old st same leads = absurd cc
leads_from_records limits (frame ∷ frames) (r ∷ rs) old st same leads =
    (r, head same, leads.0, leads.1, leads_from_records limits frames rs leads.0 st (tail same) leads.2)
  where
    head : record_of frame ∷ map record_of frames ≡ Some r ∷ map Some rs → record_of frame ≡ Some r
    head h = cc

    tail : record_of frame ∷ map record_of frames ≡ Some r ∷ map Some rs → map record_of frames ≡ map Some rs
    tail h = cc

-- ---- slots

pub slots_same : (shape : Shape) (put : Option (ℕ × List ℕ)) (content image : List ℕ) → image ≡ content → KeepsSlots shape put content image
slots_same shape put content image is =
    subst (λ (x : List ℕ). KeepsSlots shape put content x) (sym is) (record { size = omega arith; same = λ slot has free. refl })

pub slots_then : (shape : Shape) (put : Option (ℕ × List ℕ)) (a b c : List ℕ) → KeepsSlots shape None a b → KeepsSlots shape put b c
    → KeepsSlots shape put a c
slots_then shape put a b c first second = record {
  size = omega (arith, first.size, second.size);
  same = λ slot has free. second.same slot (record { is_slot = has.is_slot; inside = omega (arith, has.inside, first.size) }) free
      ∙ first.same slot has tt;
}

pub slots_wider : (shape : Shape) (put : Option (ℕ × List ℕ)) (a b : List ℕ) → KeepsSlots shape None a b → KeepsSlots shape put a b
slots_wider shape put a b kept = record { size = kept.size; same = λ slot has free. kept.same slot has tt }

-- ---- steps

abbrev pub refused : {E : Type 0} → E → Result (Unit {0}) E
refused e = Err e

-- memory was refused where the list says so
pub memory_refused : (fault : FrameFault) → refused (fault_of fault) ≡ refused NoMemory → fault ≡ frames.NoMemory
memory_refused frames.Disk is = absurd cc
memory_refused frames.NoMemory is = refl
memory_refused frames.Halted is = absurd cc

-- a store that has the same shape is of the new format too
pub reserved_new : {D : Type 0} (old new : Held D) → is_old old.shape ≡ false → IsSame old new → is_old new.shape ≡ false
reserved_new old new slotted same = subst (λ (s : Shape). is_old s ≡ false) (sym same.shape) slotted

-- the room that was made in a store of the new format, for a sync, a rewrite and an append
pub ahead_new : {D : Type 0} (has_room : D → ℕ → ℕ → ℕ → Type 0) (s : Held D) (frames : List Frame) (body : ℕ) → is_old s.shape ≡ false
    → HasRoomAhead has_room s frames body
    → HasRoom has_room s 13 (size_of frames + 34 + (s.shape.block + body + 7)) (max (size_of frames + 1) (body + 6))
ahead_new has_room s frames body slotted room =
    let none : 0 + (size_of frames + 34) + (s.shape.block + body + 7) ≡ size_of frames + 34 + (s.shape.block + body + 7) = omega arith in
    subst (λ (bytes : ℕ). HasRoom has_room s 13 bytes (max (size_of frames + 1) (body + 6))) none
    (subst (λ (b : Bool). HasRoom has_room s (if b then 14 else 13)
    ((if b then (min (length frames) s.shape.records * s.shape.block) else 0) + (size_of frames + 34) + (s.shape.block + body + 7))
    (max (size_of frames + 1) (body + 6))) slotted room)

-- room for more is room for less
pub room_less : {D : Type 0} (has_room : D → ℕ → ℕ → ℕ → Type 0) (for_less : (disk : D) (calls bytes end fewer less nearer : ℕ) → fewer ≤ calls
    → less ≤ bytes → nearer ≤ end → has_room disk calls bytes end → has_room disk fewer less nearer)
    → (s : Held D) (calls bytes line fewer less shorter : ℕ) → fewer ≤ calls → less ≤ bytes → shorter ≤ line
    → HasRoom has_room s calls bytes line → HasRoom has_room s fewer less shorter
room_less has_room for_less s calls bytes line fewer less shorter a b c room = record {
  disk = for_less s.disk calls bytes (store_end s.shape) fewer less (store_end s.shape) a b (omega arith) room.disk;
  line = omega (arith, c, room.line);
}

-- what a failed call of the list comes to, where the store was not halted
refused_by : (fault : FrameFault) → (fault ≡ frames.Halted → ⊥)
    → (refused (fault_of fault) ≡ refused Disk) ⊎ (refused (fault_of fault) ≡ refused NoMemory)
refused_by frames.Disk a = inl refl
refused_by frames.NoMemory a = inr refl
refused_by frames.Halted a = absurd (a refl)

halts_same : (fault : FrameFault) → held.halted_after {T = Unit {0}} false (Err fault) ≡ halted_after false (Err (fault_of fault))
halts_same frames.Disk = refl
halts_same frames.NoMemory = refl
halts_same frames.Halted = refl

-- no call of a store that is not halted answers Halted
pub not_halted : {halted now : Bool} (fault : FrameFault) → halted ≡ false → held.IsAnswer {T = Unit {0}} halted now (Err fault)
    → fault ≡ frames.Halted → ⊥
not_halted fault runs answer is = differ (sym (answer.only_then (ap (refused {E = FrameFault}) is)) ∙ runs)
  where
    differ : true ≡ false → ⊥
    differ e = cc

module _ {D : Type 0} (d : on_disk.Ghosts D) where
  -- a call that changed the list
  pub call_made : (before after : StateOf Entry) (Listed : ℕ → Type 0) (listed : List Frame) (old new : Held D) → CanChange d before old
      → Leads (limits_of old.shape) listed empty after → Listed (size_of listed) → HasNow listed old new → IsRead d.tells d.seen new
      → new.halted ≡ old.halted → Step d before after Listed old new (Ok tt)
  call_made before after Listed listed old new may leads long has read halts = record {
    shape = has.shape;
    listed = subst (λ (fs : List Frame). Listed (size_of fs)) (sym has.frames) long;
    as_long = λ is. absurd cc;
    made = subst (λ (fs : List Frame). Leads (limits_of old.shape) fs empty after) (sym has.frames) leads;
    not_made = tt;
    closed = λ was. has.closed;
    only = tt;
    shows = read;
    halts = halts ∙ may.runs;
  }

  -- a call that did not
  pub call_refused : (before after : StateOf Entry) (Listed : ℕ → Type 0) (old new : Held D) (fault : FrameFault) → CanChange d before old
      → IsSame old new → IsRead d.tells d.seen new → held.IsAnswer {T = Unit {0}} old.halted new.halted (Err fault)
      → Step d before after Listed old new (Err (fault_of fault))
  call_refused before after Listed old new fault may same read answer = record {
    shape = same.shape;
    listed = tt;
    as_long = λ is. ap size_of same.frames;
    made = tt;
    not_made = subst (λ (fs : List Frame). Leads (limits_of old.shape) fs empty before) (sym same.frames) may.leads;
    closed = λ was. same.closed ∙ was;
    only = refused_by fault (not_halted fault may.runs answer);
    shows = read;
    halts = answer.halts ∙ ap (λ b. held.halted_after {T = Unit {0}} b (Err fault)) may.runs ∙ halts_same fault;
  }

  -- a store of which nothing was asked but room in memory can still be changed
  pub may_still : (before : StateOf Entry) (old new : Held D) → CanChange d before old → IsSame old new
      → IsUntouched d.seen d.may_leave d.moment d.left_since old.disk new.disk → IsRead d.tells d.seen new → new.halted ≡ old.halted
      → CanChange d before new
  may_still before old new may same untouched read halts =
      let runs : new.halted ≡ false = halts ∙ may.runs in
      record {
        runs = runs;
        slotted = subst (λ (s : Shape). is_old s ≡ false) (sym same.shape) may.slotted;
        leads = subst (λ (s : Shape). Leads (limits_of s) new.frames empty before) (sym same.shape)
            (subst (λ (fs : List Frame). Leads (limits_of old.shape) fs empty before) (sym same.frames) may.leads);
        settled = λ told. record {
          only = λ image left. (may.settled told).only image (untouched.crash image left) ∙ sym untouched.content;
          shows = read told runs;
          closed = same.closed ∙ (may.settled told).closed;
        };
      }

  -- a step that was made, from a store that had the same shape, and a closed gate behind its list
  pub step_from : (before after : StateOf Entry) (Listed : ℕ → Type 0) (old mid new : Held D) (result : Result (Unit {0}) StoreFault)
      → mid.shape ≡ old.shape → (old.closed ≡ true → mid.closed ≡ true) → (result ≡ Err NoMemory → size_of mid.frames ≡ size_of old.frames)
      → Step d before after Listed mid new result → Step d before after Listed old new result
  step_from before after Listed old mid new result shape closed long step = record {
    shape = step.shape ∙ shape;
    listed = step.listed;
    as_long = λ is. step.as_long is ∙ long is;
    made = subst (λ (s : Shape). OnOk result (Leads (limits_of s) new.frames empty after)) shape step.made;
    not_made = subst (λ (s : Shape). OnErr result (Leads (limits_of s) new.frames empty before)) shape step.not_made;
    closed = λ was. step.closed (closed was);
    only = step.only;
    shows = step.shows;
    halts = step.halts;
  }

  -- a step in other words of how long the list is
  pub step_made : (before after : StateOf Entry) {Also Listed : ℕ → Type 0} (implies : (bytes : ℕ) → Also bytes → Listed bytes) (old new : Held D)
      (result : Result (Unit {0}) StoreFault) → Step d before after Also old new result → Step d before after Listed old new result
  step_made before after {Also} {Listed} implies old new result step = record {
    shape = step.shape;
    listed = by result step.listed;
    as_long = step.as_long;
    made = step.made;
    not_made = step.not_made;
    closed = step.closed;
    only = step.only;
    shows = step.shows;
    halts = step.halts;
  }
    where
      by : (r : Result (Unit {0}) StoreFault) → OnOk r (Also (size_of new.frames)) → OnOk r (Listed (size_of new.frames))
      by (Ok value) long = implies (size_of new.frames) long
      by (Err fault) long = tt

  -- a step that keeps the state was refused, and so was the change
  pub step_stopped : (before after : StateOf Entry) (Listed Also : ℕ → Type 0) (old new : Held D) (fault : StoreFault)
      → Step d before before Also old new (Err fault) → Step d before after Listed old new (Err fault)
  step_stopped before after Listed Also old new fault step = record {
    shape = step.shape;
    listed = tt;
    as_long = step.as_long;
    made = tt;
    not_made = step.not_made;
    closed = step.closed;
    only = step.only;
    shows = step.shows;
    halts = step.halts;
  }
