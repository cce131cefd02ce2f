-- What a call that changed the list of frames, or was refused, comes to for what the frames lead to.
use Rattle.std.proofs.Common.{◌≡◌, ◌≢◌, ◌⊎◌, ⊎_elim, ℕ, ◌+◌, ◌≤◌, Bool, true, false, Option, Some, None, IsSome, List, [], ◌∷◌, ◌++◌, length, map, Result, Ok, Err, sym, ap, subst, ◌∙◌, arith}
use Rattle.fab_disk.specs.declared.disk.Disk as on_disk
use Rattle.fab_disk.specs.Changing.{Whole, NotBegun, Still}
use Rattle.frame_store.specs.declared.frames.Frame.{Frame}
use Rattle.frame_store.specs.declared.faults.FrameFault.{FrameFault}
use Rattle.frame_store.specs.declared.faults.FrameFault.TheVariants as frames
use Rattle.frame_store.specs.Ends as lists
use Rattle.frame_store.specs.Listed.{size_of}
use Rattle.frame_store.specs.declared.shapes.Shape.{Shape}
use Rattle.frame_store.specs.Stores.{Held, IsSame, IsRead}
use Rattle.frame_store.proofs.Listing.{size_of-append}
use Rattle.brick_state.specs.Entries.{Entry}
use Rattle.brick_state.specs.States.{StateOf, empty, live}
use Rattle.brick_state.specs.declared.records.Record.{Record}
use Rattle.brick_state.specs.Folds.{Limits, applied}
use Rattle.brick_state.specs.KeptStates.{IsKeptState}
use Rattle.brick_state.specs.Rewrites.{live_records}
use Rattle.brick_store.proofs.FreshLists.{live_lead}
use Rattle.brick_store.specs.declared.faults.StoreFault.{StoreFault}
use Rattle.brick_store.specs.Bricks.{fault_of}
use Rattle.brick_store.specs.Images.{record_of, limits_of}
use Rattle.brick_store.specs.Standing.{Leads}
use Rattle.brick_store.specs.Lengths.{HasMadeRoom}
use Rattle.brick_store.specs.Sizes.{body_size, framed, most_listed}
use Rattle.brick_store.specs.Calls.{calls_with, has_room_for, version_calls}
use Rattle.brick_store.specs.Steps.{ListAnswer, changed, HasAppendRoom, Step, CanChange}
use Rattle.brick_store.specs.Ends.{end_of, StateChange}
use Rattle.brick_store.proofs.Stepping.{call_made, call_refused, step_from, may_still, refused}
use Rattle.brick_store.proofs.Changing.{Longer}
use Rattle.brick_store.proofs.Counting.{room_then}
use Rattle.brick_store.proofs.Lengths.{appended}
use Rattle.brick_store.proofs.StateChanges.{not_begun_so, at_fault, state_change, may_go_on, change_leads, reserved_then, room_then_changed}

-- the answer of the list as one of the store
abbrev pub raised : Result (Unit {0}) FrameFault → Result (Unit {0}) StoreFault
raised (Ok value) = Ok value
raised (Err fault) = Err (fault_of fault)

-- no memory was refused, so that nothing was left undone for it
begun_or : {P : Type 0} (result : Result (Unit {0}) FrameFault) → (result ≡ Err frames.Halted → ⊥) → (result ≡ Err frames.NoMemory → P)
    → end_of (raised result) ≡ NotBegun → P
begun_or (Ok value) runs memory is = absurd cc
begun_or (Err fault) runs memory is = not_begun_so fault (λ e. runs (ap (refused {E = FrameFault}) e)) (λ e. memory (ap (refused {E = FrameFault}) e)) is

module _ {D : Type 0} (d : on_disk.Ghosts D) where
  -- The list was changed by so many calls, with a block put in its slot if one is, and what it leads to with it.
  pub record Made (calls : ℕ) (put : Option (ℕ × List ℕ)) (before after : StateOf Entry) (Listed : ℕ → Type 0) (old new : Held D)
      (result : Result (Unit {0}) StoreFault) : Type 0 where
    pub step : Step d before after Listed old new result
    pub change : StateChange d calls old put before after new.disk (end_of result)

  -- one call of the list
  pub made : (calls : ℕ) (listed : List Frame) (put : Option (ℕ × List ℕ)) (before after : StateOf Entry) (Listed : ℕ → Type 0) (old new : Held D)
      (result : Result (Unit {0}) FrameFault) → CanChange d before old → Leads (limits_of old.shape) listed empty after → Listed (size_of listed)
      → ListAnswer d calls listed put old new result → Made calls put before after Listed old new (raised result)
  made calls listed put before after Listed old new (Ok value) may leads long call = record {
    step = call_made d before after Listed listed old new may leads long call.ok call.read call.answer.halts;
    change = state_change d calls put before after listed old new.disk Whole may leads call.change;
  }
  made calls listed put before after Listed old new (Err fault) may leads long call = record {
    step = call_refused d before after Listed old new fault may call.refused call.read call.answer;
    change = at_fault d calls put before after old new.disk fault
        (state_change d calls put before after listed old new.disk (lists.end_of (refused fault)) may leads call.change);
  }

  -- and one before which room in the half was made
  pub made_after : {Room : ℕ → Type 0} (first second calls : ℕ) (body : ℕ) (listed : List Frame) (put : Option (ℕ × List ℕ))
      (before after : StateOf Entry) (Listed : ℕ → Type 0) (old mid new : Held D) (result : Result (Unit {0}) FrameFault) → calls ≡ first + second
      → CanChange d before old → Step d before before Room old mid (Ok tt) → StateChange d first old None before before mid.disk Whole
      → (mid ≡ old) ⊎ HasAppendRoom d.has_room mid body → (HasAppendRoom d.has_room mid body → result ≢ Err frames.NoMemory)
      → Leads (limits_of mid.shape) listed empty after → Listed (size_of listed) → ListAnswer d second listed put mid new result
      → Made calls put before after Listed old new (raised result)
  made_after first second calls body listed put before after Listed old mid new result sum may step change room never leads long call =
      let may_mid = may_go_on d first None before before old mid may step change in
      let two = made second listed put before after Listed mid new result may_mid leads long call in
      let runs = λ (is : result ≡ Err frames.Halted). differ (call.answer.only_then is) may_mid.runs in
      let same = begun_or {P = mid ≡ old} result runs (λ is. ⊎_elim (λ at. at) (λ had. absurd (never had is)) room) in
      record {
        step = step_from d before after Listed old mid new (raised result) step.shape step.closed
            (λ is. ap (λ (s : Held D). size_of s.frames) (same (ap end_of is))) two.step;
        change = room_then_changed d put before after old mid step.shape first second calls new.disk (end_of (raised result)) sum same change two.change;
      }
    where
      differ : {b : Bool} → b ≡ true → b ≡ false → ⊥
      differ a b = cc

  -- and one before which room in memory was
  pub made_behind : ((disk : D) (image : List ℕ) → d.left_since disk (d.moment disk) image → d.may_leave disk image)
      → ((disk : D) (t : ℕ) (image : List ℕ) → t ≤ d.moment disk → d.may_leave disk image → d.left_since disk t image) → (calls : ℕ)
      (put : Option (ℕ × List ℕ)) (before after : StateOf Entry) (Listed : ℕ → Type 0) (old mid new : Held D) (F : Type 0)
      (result : Result (Unit {0}) StoreFault) → IsSame old mid → Still d old.disk mid.disk F → Made calls put before after Listed mid new result
      → Made calls put before after Listed old new result
  made_behind only_now counts_now calls put before after Listed old mid new F result same rest two = record {
    step = step_from d before after Listed old mid new result same.shape (λ was. same.closed ∙ was) (λ is. ap size_of same.frames) two.step;
    change = reserved_then d only_now counts_now calls put before after old mid new.disk (end_of result) F same.shape rest two.change;
  }

  -- The frame of a record that can be was appended, behind room of at least its body's length.
  pub record_made : (limits : Limits) (item : Record) (frame : Frame) (put : Option (ℕ × List ℕ)) (st : StateOf Entry) (old mid new : Held D) (len : ℕ)
      (result : Result (Unit {0}) FrameFault) → CanChange d st old → limits ≡ limits_of old.shape → record_of frame ≡ Some item
      → IsSome (applied limits item st) → len ≡ length frame.body → length frame.body ≡ body_size item
      → Step d st st (HasMadeRoom (has_room_for old.shape (size_of old.frames) len) (live st) (size_of old.frames)) old mid (Ok tt)
      → StateChange d (calls_with old.shape (size_of old.frames) len 0) old None st st mid.disk Whole
      → (mid ≡ old) ⊎ HasAppendRoom d.has_room mid len → (HasAppendRoom d.has_room mid (length frame.body) → result ≢ Err frames.NoMemory)
      → ListAnswer d (version_calls put) (mid.frames ++ frame ∷ []) put mid new result
      → Made (calls_with old.shape (size_of old.frames) (body_size item) (version_calls put)) put st (changed limits item st)
      (Longer old st (body_size item)) old new (raised result)
  record_made limits item frame put st old mid new len result may limits_are read can long body step change room never call =
      let first = calls_with old.shape (size_of old.frames) len 0 in
      let sum = ap (λ (n : ℕ). calls_with old.shape (size_of old.frames) n (version_calls put)) (sym (long ∙ body))
      ∙ room_then old.shape (size_of old.frames) len (version_calls put) in
      let leads = change_leads d limits item st old mid frame (may_go_on d first None st st old mid may step change) step.shape limits_are read can in
      let size : size_of (mid.frames ++ frame ∷ []) ≡ size_of mid.frames + framed len =
      omega (arith, size_of-append mid.frames (frame ∷ []), long) in
      let longer = subst (λ (n : ℕ). Longer old st n (size_of (mid.frames ++ frame ∷ []))) (long ∙ body) (appended step.listed size) in
      made_after first (version_calls put) _ len (mid.frames ++ frame ∷ []) put st (changed limits item st) (Longer old st (body_size item)) old mid
      new result sum may step change room (λ had. never (subst (λ (n : ℕ). HasAppendRoom d.has_room mid n) long had)) leads longer call

  -- The frames of what the index keeps were put in the place of the list, behind room in memory.
  pub reserved_made : ((disk : D) (image : List ℕ) → d.left_since disk (d.moment disk) image → d.may_leave disk image)
      → ((disk : D) (t : ℕ) (image : List ℕ) → t ≤ d.moment disk → d.may_leave disk image → d.left_since disk t image) → (fresh : List Frame)
      (st : StateOf Entry) (old mid new : Held D) (F : Type 0) (result : Result (Unit {0}) FrameFault) → CanChange d st old
      → IsKeptState (limits_of old.shape) st → map record_of fresh ≡ map Some (live_records st) → size_of fresh ≤ most_listed (live st)
      → IsSame old mid → Still d old.disk mid.disk F → IsRead d.tells d.seen mid → mid.halted ≡ old.halted → ListAnswer d 7 fresh None mid new result
      → Made 7 None st st (λ bytes. bytes ≤ most_listed (live st)) old new (raised result)
  reserved_made only_now counts_now fresh st old mid new F result may kept read few same rest shows halts call =
      made_behind only_now counts_now 7 None st st _ old mid new F (raised result) same rest
      (made 7 fresh None st st _ mid new result (may_still d st old mid may same rest.untouched shows halts)
      (live_lead (limits_of mid.shape) fresh st (subst (λ (s : Shape). IsKeptState (limits_of s) st) (sym same.shape) kept) read) few call)
