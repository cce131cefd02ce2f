-- A call that handles a request, from the change of the store that it makes.
use Rattle.std.proofs.Common.{◌≡◌, ◌≢◌, inl, inr, ⊎_elim, ℕ, Bool, true, false, Option, Some, None, List, Result, Ok, Err, refl, sym, ap, subst, ◌∙◌, arith}
use Rattle.std.specs.Option.{option_map}
use Rattle.std.specs.Result.{IfOk, IsErrAnd, OnOk, OnErr}
use Rattle.fab_disk.specs.declared.disk.Disk as on_disk
use Rattle.fab_disk.specs.Disk.{IsUntouched}
use Rattle.fab_disk.specs.Changing.{End, Whole, Cut, NotBegun, Stands, Still}
use Rattle.fab_disk.proofs.Changing.{widen, still}
use Rattle.fab_base.specs.Layouts.{Layout}
use Rattle.messages.specs.declared.replies.Reply.{Reply}
use Rattle.messages.specs.declared.replies.Reply.TheVariants.{Full}
use Rattle.frame_store.specs.declared.shapes.Shape.{Shape}
use Rattle.version_log.specs.Versions.{Version}
use Rattle.brick_state.specs.States.{StateOf, live}
use Rattle.brick_store.specs.declared.faults.StoreFault.{StoreFault}
use Rattle.brick_store.specs.declared.faults.StoreFault.TheVariants as faults
use Rattle.brick_store.specs.Bricks.{Brick}
use Rattle.brick_store.specs.Calls.{Append, append_of, calls_for, calls_of, IsListedAfter}
use Rattle.brick_store.specs.Changes.{Answers}
use Rattle.brick_store.specs.Ends.{BrickChange}
use Rattle.brick_store.specs.Ends as store_ends
use Rattle.brick_store.specs.Images.{StandsFor}
use Rattle.brick_store.specs.Lengths.{ListsBy}
use Rattle.replica.specs.declared.faults.ReplicaFault.{ReplicaFault}
use Rattle.replica.specs.declared.faults.ReplicaFault.TheVariants.{Disk, Halted, NoMemory}
use Rattle.replica.specs.Handling.{Runs, Handles, KeepsAll, StandsForNext, NextChange, KeepsNext, end_of, halted_after, answered, seen_as}
use Rattle.replica.proofs.Runs.{run_of_none}

differ : {A : Type 0} → false ≡ true → A
differ h = absurd cc

abbrev AnswerOf : Type 0 → Type 0
AnswerOf A = Result (Option A) ReplicaFault

on_ok : {A : Type 0} (P : Type 0) (result : AnswerOf A) → P → OnOk result P
on_ok P (Ok answer) h = h
on_ok P (Err fault) h = tt

on_err : {A : Type 0} (P : Type 0) (result : AnswerOf A) → P → OnErr result P
on_err P (Ok answer) h = tt
on_err P (Err fault) h = h

-- a store that did not answer Disk is halted where it was
same_halted : {A : Type 0} (halted : Bool) (result : AnswerOf A) → result ≢ Err Disk → halted ≡ halted_after halted result
same_halted halted (Ok answer) other = refl
same_halted halted (Err Disk) other = absurd (other refl)
same_halted halted (Err Halted) other = refl
same_halted halted (Err NoMemory) other = refl

-- how a call ended is told by any answer that it is seen as
ends_seen : {A B : Type 0} (f : A → B) (result : AnswerOf A) → end_of result ≡ end_of (seen_as f result)
ends_seen f (Ok answer) = refl
ends_seen f (Err Disk) = refl
ends_seen f (Err Halted) = refl
ends_seen f (Err NoMemory) = refl

-- ---- what becomes of the disk

module _ {D : Type 0} (d : on_disk.Ghosts D) where
  -- a change that was refused left the disk alone
  pub still_of : (calls : ℕ) (old : Brick D) (after : StateOf Version) (new : D) → BrickChange d calls old after new NotBegun
      → Still d old.disk new ⊥
  still_of calls old after new run = record {
    untouched = run.not_begun refl;
    plan = record { same = run.run.waits (λ is. absurd cc) (λ is. absurd cc); stays = run.run.stays; never = λ free is. is };
    cause = record { later = run.cause.later; rose = λ is. absurd is; stays = run.cause.stays; never = λ sound is. is };
  }

  -- a call that left the disk as it is
  pub still_here : (disk : D) → Still d disk disk ⊥
  still_here disk = record {
    untouched = record {
      content = refl;
      crash = λ image left. left;
      clock = refl;
      time = record { later = omega arith; nothing_else = λ t image le left. inl left; keeps = λ t image le left. left };
    };
    plan = record { same = refl; stays = λ free. free; never = λ free is. is };
    cause = record { later = omega arith; rose = λ is. absurd is; stays = λ sound. sound; never = λ sound is. is };
  }

  module _ {A : Type 0} (only_now : (disk : D) (image : List ℕ) → d.left_since disk (d.moment disk) image → d.may_leave disk image)
      (Follows : Option A → StateOf Version → Type 0) (old : Brick D) (new : D) (rest : Still d old.disk new ⊥) where
    -- a call that was refused
    pub next_refused : (given : ℕ) → NextChange d given old Follows new NotBegun
    next_refused given =
        still d only_now (StandsFor old.shape old.state) _ (λ image at. inl at) old.disk new ⊥ rest given (StandsForNext old.shape Follows)

    -- a call that had nothing to change
    pub next_none : (d.tells → Stands d (StandsFor old.shape old.state) old.disk) → (answer : Option A) → Follows answer old.state
        → NextChange d 0 old Follows new Whole
    next_none stands answer follows = record {
      moments = (next_refused 0).moments;
      whole = λ is told. record {
        only = λ image left. (stands told).only image (rest.untouched.crash image left) ∙ sym rest.untouched.content;
        has = (old.state, answer, subst (StandsFor old.shape old.state) (sym rest.untouched.content) (stands told).has, follows);
      };
      cut = λ is. absurd cc;
      not_begun = λ is. absurd cc;
      run = run_of_none d.tells d.moment d.plan d.unlisted old.disk new rest.plan.same rest.plan.stays _ _ (λ is. absurd cc) rest.untouched.clock;
      cause = record { later = rest.cause.later; rose = λ is. absurd cc; stays = rest.cause.stays; never = λ sound is. absurd cc };
    }

  -- a change to a state that follows
  pub next_as : {A : Type 0} (Follows : Option A → StateOf Version → Type 0) (old : Brick D) (new : D) (after : StateOf Version) (answer : Option A)
      (calls given : ℕ) (end : End) → Follows answer after → given ≡ calls → BrickChange d calls old after new end
      → NextChange d given old Follows new end
  next_as Follows old new after answer calls given end follows is run =
      subst (λ (n : ℕ). NextChange d n old Follows new end) (sym is)
      (widen d calls (StandsFor old.shape old.state) _ (StandsFor old.shape after) (StandsFor old.shape old.state) _
      (StandsForNext old.shape Follows) old.disk new end (λ told here. here) (λ told here image at. at)
      (λ told here image. ⊎_elim (λ at. inl at) (λ at. inr (after, answer, at, follows)))
      (λ told image at. (after, answer, at, follows)) run)

  -- a call that had nothing to append
  pub keeps_none : {A : Type 0} (only_now : (disk : D) (image : List ℕ) → d.left_since disk (d.moment disk) image → d.may_leave disk image)
      (Follows : Option A → StateOf Version → Type 0) (old : Brick D) (given : Option Append) → given ≡ None
      → (d.tells → Stands d (StandsFor old.shape old.state) old.disk) → (answer : Option A) → Follows answer old.state
      → KeepsNext d given Follows old old Whole
  keeps_none only_now Follows old given none stands answer follows =
      subst (λ (a : Option Append). KeepsNext d a Follows old old Whole) (sym none) (record {
        change = next_none only_now Follows old old.disk (still_here old.disk) stands answer follows;
        listed = record { whole = λ is. refl; not_begun = λ is. refl };
      })

  -- one that was refused at once
  pub keeps_refused : {A : Type 0} (only_now : (disk : D) (image : List ℕ) → d.left_since disk (d.moment disk) image → d.may_leave disk image)
      (Follows : Option A → StateOf Version → Type 0) (old : Brick D) (given : Option Append) → KeepsNext d given Follows old old NotBegun
  keeps_refused only_now Follows old given = record {
    change = next_refused only_now Follows old old.disk (still_here old.disk) (calls_for old.shape old.listed given);
    listed = record { whole = λ is. absurd cc; not_begun = λ is. refl };
  }

  -- in the words of another answer
  pub next_seen : {A B : Type 0} (f : A → B) (Follows : Option A → StateOf Version → Type 0) (Also : Option B → StateOf Version → Type 0)
      (implies : (answer : Option A) (st : StateOf Version) → Follows answer st → Also (option_map f answer) st) (given : Option Append) (old new : Brick D)
      (result : Result (Option A) ReplicaFault) → KeepsNext d given Follows old new (end_of result)
      → KeepsNext d given Also old new (end_of (seen_as f result))
  next_seen f Follows Also implies given old new result keeps =
      subst (λ (end : End). KeepsNext d given Also old new end) (ends_seen f result) (record {
        change = widen d (calls_for old.shape old.listed given) (StandsFor old.shape old.state) _ (StandsForNext old.shape Follows)
            (StandsFor old.shape old.state) _ (StandsForNext old.shape Also) old.disk new.disk (end_of result) (λ told here. here)
            (λ told here image at. at) (λ told here image. ⊎_elim (λ at. inl at) (λ at. inr (seen image at))) (λ told image. seen image) keeps.change;
        listed = keeps.listed;
      })
    where
      seen : (image : List ℕ) → StandsForNext old.shape Follows image → StandsForNext old.shape Also image
      seen image at = (at.0, option_map f at.1, at.2, implies at.1 at.0 at.3)

-- ---- what becomes of the store

module _ {D A : Type 0} (d : on_disk.Ghosts D) (Follows : Option A → StateOf Version → Type 0) where
  not_running : (old : Brick D) (result : AnswerOf A) → Runs d old → old.halted ≡ true → result ≡ Err Halted
  not_running old result runs halted = differ (sym runs.runs ∙ halted)

  -- a call that left the disk and the state as they were
  pub handles_untouched : (old new : Brick D) (result : AnswerOf A) → Runs d old → new.shape ≡ old.shape → new.state ≡ old.state
      → new.halted ≡ old.halted → IsUntouched d.seen d.may_leave d.moment d.left_since old.disk new.disk
      → result ≢ Err Disk → result ≢ Err Halted → IfOk result (λ reply. Follows reply old.state) → Handles d Follows old new result
  handles_untouched old new result runs shape state halted untouched not_disk not_halted follows = record {
    ok = followed result follows;
    refused = on_err (new.state ≡ old.state) result state;
    shape = shape;
    stood = λ told running. runs.stands told;
    stands = λ told. on_ok (Stands d (StandsFor new.shape new.state) new.disk) result (stands_still told);
    still = on_ok ((layout : Layout) → KeepsAll layout old.shape.block old.state new.state → (new.state ≡ old.state)
        × IsUntouched d.seen d.may_leave d.moment d.left_since old.disk new.disk) result (λ layout same. (state, untouched));
    halted = not_running old result runs;
    only_halted = λ is. absurd (not_halted is);
    halts = halted ∙ same_halted old.halted result not_disk;
  }
    where
      stands_still : d.tells → Stands d (StandsFor new.shape new.state) new.disk
      stands_still told =
          let was = runs.stands told in
          record {
            only = λ image left. was.only image (untouched.crash image left) ∙ sym untouched.content;
            has = subst (λ (image : List ℕ). StandsFor new.shape new.state image) (sym untouched.content)
                (subst (λ (x : Shape). StandsFor x new.state (d.seen old.disk)) (sym shape)
                (subst (λ (st : StateOf Version). StandsFor old.shape st (d.seen old.disk)) (sym state) was.has));
          }

      followed : (r : AnswerOf A) → IfOk r (λ reply. Follows reply old.state) → IfOk r (λ reply. Follows reply new.state)
      followed (Ok reply) h = subst (λ (st : StateOf Version). Follows reply st) (sym state) h
      followed (Err fault) h = tt

-- what a call promises of the store, and of its disk by what is appended
abbrev pub HandlesBy : {D A : Type 0} → on_disk.Ghosts D → Option Append → (Option A → StateOf Version → Type 0) → Brick D → Brick D → AnswerOf A → Type 0
HandlesBy d given Follows old new result = record {
  handles : Handles d Follows old new result;
  change : KeepsNext d given Follows old new (end_of result);
}

module _ {D A : Type 0} (d : on_disk.Ghosts D)
    (only_now : (disk : D) (image : List ℕ) → d.left_since disk (d.moment disk) image → d.may_leave disk image)
    (Follows : Option A → StateOf Version → Type 0) (old : Brick D) (runs : Runs d old) (given : Option Append) where
  -- a call that had nothing to change
  pub handles_none : given ≡ None → (answer : Option A) → Follows answer old.state → HandlesBy d given Follows old old (Ok answer)
  handles_none none answer follows = record {
    handles = handles_untouched d Follows old old (Ok answer) runs refl refl refl (still_here d old.disk).untouched (λ h. absurd cc) (λ h. absurd cc) follows;
    change = keeps_none d only_now Follows old given none runs.stands answer follows;
  }

  -- one that memory was refused at once
  pub handles_refused : (result : AnswerOf A) → IsErrAnd result (λ fault. fault ≡ NoMemory) → HandlesBy d given Follows old old result
  handles_refused (Ok answer) refused = absurd refused
  handles_refused (Err fault) refused =
      subst (λ (f : ReplicaFault). HandlesBy d given Follows old old (Err f)) (sym refused) (record {
        handles = handles_untouched d Follows old old (Err NoMemory) runs refl refl refl (still_here d old.disk).untouched (λ h. absurd cc) (λ h. absurd cc) tt;
        change = keeps_refused d only_now Follows old given;
      })

module _ {D : Type 0} (d : on_disk.Ghosts D) (Follows : Option Reply → StateOf Version → Type 0) where
  -- A change of the store, and the reply that says so, if there is one.
  module _ (old new : Brick D) (after : StateOf Version) (body : ℕ) (adds : Bool) (appends : ℕ) (reply : Option Reply) (runs : Runs d old)
      (made : (adds ≡ true → live old.state ≡ old.shape.records → ⊥) → Follows reply after)
      (none : adds ≡ true → live old.state ≡ old.shape.records → Follows (Some (Full (live old.state))) old.state)
      (moves : (layout : Layout) → KeepsAll layout old.shape.block old.state after → ⊥) where
    -- it was made, or the disk failed
    room : (answer : Result (Unit {0}) StoreFault) → Answers old new after body adds answer → answer ≢ Err (faults.Full (live old.state)) → adds ≡ true
        → live old.state ≡ old.shape.records → ⊥
    room answer change other add full = other (change.answer.full runs.runs add full)

    pub handles_change : (answer : Result (Unit {0}) StoreFault) → BrickChange d (calls_of old body appends) old after new.disk (store_ends.end_of answer)
        → Answers old new after body adds answer → Handles d Follows old new (answered reply answer)
    handles_change (Ok done) run change =
        let follows : Follows reply after = made (room (Ok done) change (λ h. absurd cc)) in
        record {
          ok = subst (λ (st : StateOf Version). Follows reply st) (sym change.ok.state) follows;
          refused = tt;
          shape = change.ok.shape;
          stood = λ told running. runs.stands told;
          stands = λ told. subst (λ (x : Shape). Stands d (StandsFor x new.state) new.disk) (sym change.ok.shape)
              (subst (λ (st : StateOf Version). Stands d (StandsFor old.shape st) new.disk) (sym change.ok.state) (run.whole refl told));
          still = λ layout same. absurd (moves layout (subst (λ (st : StateOf Version). KeepsAll layout old.shape.block old.state st) change.ok.state same));
          halted = λ h. differ (sym runs.runs ∙ h);
          only_halted = λ h. absurd cc;
          halts = change.answer.halts;
        }
    handles_change (Err faults.Disk) run change = record {
      ok = tt;
      refused = change.refused.state;
      shape = change.refused.shape;
      stood = λ told running. runs.stands told;
      stands = λ told. tt;
      still = tt;
      halted = λ h. differ (sym runs.runs ∙ h);
      only_halted = λ h. absurd cc;
      halts = change.answer.halts;
    }
    handles_change (Err (faults.Full n)) run change =
        let was = change.answer.only_full n refl in
        handles_untouched d Follows old new (Ok (Some (Full n))) runs change.refused.shape change.refused.state change.answer.halts
        (run.not_begun refl) (λ h. absurd cc) (λ h. absurd cc)
        (subst (λ (m : ℕ). Follows (Some (Full m)) old.state) (sym was.3) (none was.1 was.2))
    handles_change (Err faults.Halted) run change = differ (sym runs.runs ∙ change.answer.only_then refl)
    handles_change (Err faults.NoMemory) run change =
        handles_untouched d Follows old new (Err NoMemory) runs change.refused.shape change.refused.state change.answer.halts (run.not_begun refl)
        (λ h. absurd cc) (λ h. absurd cc) tt

    -- The disk was changed so, by what the message was to append, or left alone for want of room.
    change_next : ((disk : D) (image : List ℕ) → d.left_since disk (d.moment disk) image → d.may_leave disk image) → (given : Option Append)
        → ((adds ≡ true → live old.state ≡ old.shape.records → ⊥) → given ≡ Some (append_of body appends))
        → (adds ≡ true → live old.state ≡ old.shape.records → given ≡ None) → (answer : Result (Unit {0}) StoreFault) → BrickChange d (calls_of old body appends) old after new.disk (store_ends.end_of answer)
        → Answers old new after body adds answer → NextChange d (calls_for old.shape old.listed given) old Follows new.disk (end_of (answered reply answer))
    change_next only_now given some zero (Ok done) run change =
        let free = room (Ok done) change (λ h. absurd cc) in
        next_as d Follows old new.disk after reply (calls_of old body appends) _ Whole (made free) (ap (calls_for old.shape old.listed) (some free)) run
    change_next only_now given some zero (Err faults.Disk) run change =
        let free = room (Err faults.Disk) change (λ h. absurd cc) in
        next_as d Follows old new.disk after reply (calls_of old body appends) _ Cut (made free) (ap (calls_for old.shape old.listed) (some free)) run
    change_next only_now given some zero (Err (faults.Full n)) run change =
        let was = change.answer.only_full n refl in
        let follows : Follows (Some (Full n)) old.state = subst (λ (m : ℕ). Follows (Some (Full m)) old.state) (sym was.3) (none was.1 was.2) in
        subst (λ (a : Option Append). NextChange d (calls_for old.shape old.listed a) old Follows new.disk Whole) (sym (zero was.1 was.2))
        (next_none d only_now Follows old new.disk (still_of d (calls_of old body appends) old after new.disk run) runs.stands (Some (Full n)) follows)
    change_next only_now given some zero (Err faults.Halted) run change = differ (sym runs.runs ∙ change.answer.only_then refl)
    change_next only_now given some zero (Err faults.NoMemory) run change =
        next_refused d only_now Follows old new.disk (still_of d (calls_of old body appends) old after new.disk run) _

    -- The list is longer by that, or as it was.
    lists_next : (given : Option Append) → ((adds ≡ true → live old.state ≡ old.shape.records → ⊥) → given ≡ Some (append_of body appends))
        → (adds ≡ true → live old.state ≡ old.shape.records → given ≡ None) → (answer : Result (Unit {0}) StoreFault)
        → Answers old new after body adds answer
        → ListsBy (end_of (answered reply answer)) (IsListedAfter old.shape (live old.state) old.listed given) old.listed new.listed
    lists_next given some zero (Ok done) change = record {
      whole = λ is. subst (λ (a : Option Append). IsListedAfter old.shape (live old.state) old.listed a new.listed)
          (sym (some (room (Ok done) change (λ h. absurd cc)))) (change.listed.whole refl);
      not_begun = λ is. absurd cc;
    }
    lists_next given some zero (Err faults.Disk) change = record { whole = λ is. absurd cc; not_begun = λ is. absurd cc }
    lists_next given some zero (Err (faults.Full n)) change = record {
      whole = λ is. let was = change.answer.only_full n refl in
          subst (λ (a : Option Append). IsListedAfter old.shape (live old.state) old.listed a new.listed) (sym (zero was.1 was.2))
          (change.listed.not_begun refl);
      not_begun = λ is. absurd cc;
    }
    lists_next given some zero (Err faults.Halted) change = differ (sym runs.runs ∙ change.answer.only_then refl)
    lists_next given some zero (Err faults.NoMemory) change = record { whole = λ is. absurd cc; not_begun = λ is. change.listed.not_begun refl }

    -- and both of the answer that the brick gave
    pub changed_next : ((disk : D) (image : List ℕ) → d.left_since disk (d.moment disk) image → d.may_leave disk image) → (given : Option Append)
        → ((adds ≡ true → live old.state ≡ old.shape.records → ⊥) → given ≡ Some (append_of body appends))
        → (adds ≡ true → live old.state ≡ old.shape.records → given ≡ None) → (answer : Result (Unit {0}) StoreFault) (result : AnswerOf Reply) → result ≡ answered reply answer
        → BrickChange d (calls_of old body appends) old after new.disk (store_ends.end_of answer) → Answers old new after body adds answer
        → HandlesBy d given Follows old new result
    changed_next only_now given some zero answer result is run change =
        subst (λ (r : AnswerOf Reply). HandlesBy d given Follows old new r) (sym is) (record {
          handles = handles_change answer run change;
          change = record { change = change_next only_now given some zero answer run change; listed = lists_next given some zero answer change };
        })

abbrev fails : (A : Type 0) → ReplicaFault → AnswerOf A
fails A fault = Err fault

fault_in : (A : Type 0) → AnswerOf A → ReplicaFault
fault_in A (Ok answer) = NoMemory
fault_in A (Err fault) = fault

-- the faults of two calls are the same where the calls fail in the same way
err_same : (A B : Type 0) (fault other : ReplicaFault) → fails A fault ≡ fails A other → fails B fault ≡ fails B other
unfolding fault_in
err_same A B fault other h = ap (fails B) (ap (fault_in A) h)

halts_same : (A B : Type 0) (halted : Bool) (fault : ReplicaFault) → halted_after halted (fails A fault) ≡ halted_after halted (fails B fault)
halts_same A B halted Disk = refl
halts_same A B halted Halted = refl
halts_same A B halted NoMemory = refl

-- a call whose answer is seen as another, of which what follows is implied
pub handles_seen : {D A B : Type 0} (d : on_disk.Ghosts D) (f : A → B) (Follows : Option A → StateOf Version → Type 0)
    (Also : Option B → StateOf Version → Type 0) (implies : (answer : Option A) (st : StateOf Version) → Follows answer st → Also (option_map f answer) st)
    (old new : Brick D) (result : AnswerOf A) → Handles d Follows old new result → Handles d Also old new (seen_as f result)
handles_seen d f Follows Also implies old new (Ok answer) handles = record {
  ok = implies answer new.state handles.ok;
  refused = tt;
  shape = handles.shape;
  stood = handles.stood;
  stands = handles.stands;
  still = handles.still;
  halted = λ h. let wrong = handles.halted h in absurd cc;
  only_halted = λ h. absurd cc;
  halts = handles.halts;
}
handles_seen {D} {A} {B} d f Follows Also implies old new (Err fault) handles = record {
  ok = tt;
  refused = handles.refused;
  shape = handles.shape;
  stood = handles.stood;
  stands = λ told. tt;
  still = tt;
  halted = λ h. err_same A B fault Halted (handles.halted h);
  only_halted = λ h. handles.only_halted (err_same B A fault Halted h);
  halts = handles.halts ∙ halts_same A B old.halted fault;
}
