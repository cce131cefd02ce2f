-- An opening that brings an old store over, in the words of what the disk stands for.
use Rattle.std.proofs.Common.{◌≡◌, ℕ, ◌+◌, ◌<◌, ◌≤◌, Bool, true, false, not, ◌&&◌, if◌then◌else◌, List, refl, sym, subst, ◌∙◌}
use Rattle.fab_disk.specs.declared.disk.Disk as on_disk
use Rattle.fab_disk.specs.Disk.{IsUntouched, LeavesOnly}
use Rattle.fab_disk.specs.Changing.{End, Still}
use Rattle.fab_disk.proofs.Moments.{kept_both}
use Rattle.fab_disk.proofs.Plans.{run_after, run_calls}
use Rattle.frame_store.specs.declared.frames.Frame.{Frame}
use Rattle.frame_store.specs.declared.shapes.Form.{Form}
use Rattle.frame_store.specs.declared.shapes.Form.TheVariants.{Old, New, Moved}
use Rattle.frame_store.specs.declared.shapes.Shape.{Shape}
use Rattle.frame_store.specs.Images.{OpensAs}
use Rattle.frame_store.specs.Layouts.{formed, is_old, is_old_form}
use Rattle.frame_store.specs.Listed.{size_of}
use Rattle.frame_store.specs.Stores.{Held, Shows}
use Rattle.frame_store.proofs.Openings.{opens_once, opens_in_one_form, untouched_both}
use Rattle.version_log.specs.Versions.{Version}
use Rattle.brick_state.specs.States.{StateOf, booted, empty}
use Rattle.brick_store.specs.Images.{limits_of, state_by, IsFound, StandsFor, StandsForEither}
use Rattle.brick_store.specs.Calls.{has_room_for, opening_calls}
use Rattle.brick_store.specs.Lengths.{IsAppended}
use Rattle.brick_store.specs.OldLists.{old_state_in}
use Rattle.brick_store.specs.Openings.{IsAllowedOr, IsCounted, IsListedOnOpening, IsWornOut, Opens, StartsOver, StopsOpening, calls_on_opening, is_whole, opens_appendable}
use Rattle.brick_store.proofs.CutOpenings.{read_first}
use Rattle.brick_store.proofs.Opened.{finds}
use Rattle.brick_store.proofs.Starting.{then_allowed}

-- in an old store the blocks are in the list
pub old_state : (form : Form) (shape : Shape) (frames : List Frame) (image : List ℕ) → is_old_form form ≡ true
    → state_by form shape frames image ≡ old_state_in shape.block shape.records frames
old_state Old shape frames image old = refl
old_state New shape frames image old = absurd cc
old_state Moved shape frames image old = absurd cc

-- the old store that was read
module _ {D : Type 0} (seen : D → List ℕ) (held : Held D) (shows : Shows seen held) (old : is_old held.shape ≡ true) where
  abbrev state : StateOf Version
  state = old_state_in held.shape.block held.shape.records held.frames

  pub is_found : (content : List ℕ) → seen held.disk ≡ content → IsFound (formed New held.shape) state content
  is_found content content_is = subst (λ (x : List ℕ). IsFound (formed New held.shape) state x) content_is (record {
    form = held.shape.form;
    frames = held.frames;
    closed = held.closed;
    opens = shows.opens;
    state = old_state held.shape.form held.shape held.frames (seen held.disk) old;
  })

  -- it is the one that the disk stood for
  pub stood : (st : StateOf Version) → StandsFor (formed New held.shape) st (seen held.disk) → (held.closed ≡ true) × (state ≡ st)
  stood st stands =
      let is = finds (formed New held.shape) st (seen held.disk) held.shape.form held.frames held.closed shows.opens stands in
      (is.0, sym (old_state held.shape.form held.shape held.frames (seen held.disk) old) ∙ is.1)

  pub over_counted : (content : List ℕ) → seen held.disk ≡ content → (now : StateOf Version) → now ≡ booted (state.boot + 1) state
      → state.boot < 4294967295 → IsCounted (formed New held.shape) content now
  over_counted content content_is now counted few =
      record { before = state; found = is_found content content_is; not_worn = few; counted = counted }

  pub over_worn : (content : List ℕ) → seen held.disk ≡ content → state.boot ≡ 4294967295 → IsWornOut (formed New held.shape) content
  over_worn content content_is worn = record { before = state; found = is_found content content_is; worn = worn }

  -- its list was written anew, whatever it was
  pub over_listed_on : (content : List ℕ) → seen held.disk ≡ content → (lives listed : ℕ) → IsAppended false lives (size_of held.frames) 4 listed
      → IsListedOnOpening (formed New held.shape) content lives listed
  over_listed_on content content_is lives listed is form frames closed there =
      let opens : OpensAs held.shape held.frames held.closed content = subst (λ (x : List ℕ). OpensAs held.shape held.frames held.closed x) content_is shows.opens in
      let form_is : held.shape.form ≡ form = opens_in_one_form held.shape held.shape.form form content held.frames frames held.closed closed opens there in
      let once = opens_once held.shape content held.frames frames held.closed closed opens
      (subst (λ (f : Form). OpensAs (formed f held.shape) frames closed content) (sym form_is) there) in
      let whole = (is_whole (limits_of held.shape) frames empty && closed) && has_room_for held.shape (size_of frames) 4 in
      subst (λ (f : Form). IsAppended (opens_appendable (formed f held.shape) frames closed) lives (size_of frames) 4 listed) form_is
      (subst (λ (b : Bool). IsAppended (not b && whole) lives (size_of frames) 4 listed) (sym old)
      (subst (λ (fs : List Frame). IsAppended false lives (size_of fs) 4 listed) once.0 is))

-- an opening of an old store makes thirteen calls
over_calls : (shape : Shape) (form : Form) (frames : List Frame) (closed : Bool) → is_old shape ≡ true → shape.form ≡ form
    → 13 ≡ calls_on_opening (formed form shape) frames closed
over_calls shape form frames closed old is =
    subst (λ (f : Form). 13 ≡ calls_on_opening (formed f shape) frames closed) is (each shape.form _ old)
  where
    each : (f : Form) (b : Bool) → is_old_form f ≡ true → 13 ≡ (if is_old_form f then 13 else opening_calls (not (is_old_form f) && b))
    each Old b was = refl
    each New b was = absurd cc
    each Moved b was = absurd cc

module _ {D : Type 0} (d : on_disk.Ghosts D) (only_now : (disk : D) (image : List ℕ) → d.left_since disk (d.moment disk) image → d.may_leave disk image)
    (counts : (disk : D) (t : ℕ) (image : List ℕ) → t ≤ d.moment disk → d.may_leave disk image → d.left_since disk t image)
    (disk new : D) (held : Held D) (end : End) (F : Type 0) (shows : d.tells → Shows d.seen held) (old : is_old held.shape ≡ true)
    (still : Still d disk held.disk F) (certain : d.certain held.disk ≡ d.certain disk) where
  abbrev st : StateOf Version
  st = old_state_in held.shape.block held.shape.records held.frames

  abbrev shape : Shape
  shape = formed New held.shape

  untouched : IsUntouched d.seen d.may_leave d.moment d.left_since disk held.disk
  untouched = still.untouched

  -- what the disk stood for is what was read
  here : (told : d.tells) (found : StateOf Version) → StandsFor shape found (d.seen disk) → (held.closed ≡ true) × (st ≡ found)
  here told found stands =
      stood d.seen held (shows told) old found (subst (λ (x : List ℕ). StandsFor shape found x) (sym untouched.content) stands)

  calls : d.tells → (form : Form) (frames : List Frame) (closed : Bool) → OpensAs (formed form shape) frames closed (d.seen disk)
      → 13 ≡ calls_on_opening (formed form shape) frames closed
  calls told form frames closed opens =
      over_calls held.shape form frames closed old
      (opens_in_one_form held.shape held.shape.form form (d.seen disk) held.frames frames held.closed closed
      (subst (OpensAs held.shape held.frames held.closed) untouched.content (shows told).opens) opens)

  pub over_opens : StartsOver d st held new end → Opens d shape disk new end
  over_opens run = record {
    moments = λ told found stands.
        let is = here told found stands in
        subst (λ (s : StateOf Version). LeavesOnly d.moment d.left_since disk new (IsAllowedOr (d.may_leave disk)
        (StandsForEither shape s (booted (s.boot + 1) s)))) is.1
        (then_allowed d.seen d.may_leave d.moment d.left_since only_now disk held.disk new
        (λ content. StandsForEither shape st (booted (st.boot + 1) st)) untouched (run.moments told is.0));
    run = λ told form frames closed opens. run_after d.tells d.moment d.plan d.unlisted _ disk held.disk new F _ _ still.plan untouched.clock
        (run_calls d.tells d.moment d.plan d.unlisted _ _ held.disk new _ _ (calls told form frames closed opens) run.run);
    not_worn = λ is told free found stands.
        subst (λ (s : StateOf Version). s.boot < 4294967295) (here told found stands).1 (run.not_worn is (still.plan.stays free));
    cut = λ is told free form frames closed opens found stands.
        let same = here told found stands in
        subst (λ (s : StateOf Version). StopsOpening d.seen d.certain d.moment (calls_on_opening (formed form shape) frames closed) disk new
        (StandsFor shape s) (StandsFor shape (booted (s.boot + 1) s))) same.1
        (subst (λ (n : ℕ). StopsOpening d.seen d.certain d.moment n disk new (StandsFor shape st) (StandsFor shape (booted (st.boot + 1) st)))
        (calls told form frames closed opens)
        (read_first d.seen d.certain d.may_leave d.moment d.left_since 13 disk held.disk new (λ content. StandsFor shape st)
        (λ content. StandsFor shape (booted (st.boot + 1) st)) untouched certain (run.cut is told (still.plan.stays free) same.0)));
    not_begun = λ is. untouched_both d.seen d.may_leave d.moment d.left_since counts disk held.disk new untouched (run.not_begun is);
    cause = kept_both (d.faults disk) (d.faults held.disk) (d.faults new) _ _ _ _ _ still.cause run.cause;
  }
