-- How long the list of frames is.
use Rattle.std.proofs.Common.{◌≡◌, ◌⊎◌, inl, inr, ℕ, ◌+◌, ◌≤◌, Bool, true, false, not, ◌&&◌, List, Result, Ok, Err, refl, sym, ap, subst, ◌∙◌, arith}
use Rattle.std.specs.Result.{OnOk, OnErr}
use Rattle.std.proofs.lemmas.Bool.{le-leb}
use Rattle.std.proofs.lemmas.Bool.Decides.{nat_tests}
use Rattle.fab_disk.specs.Changing.{Cut, NotBegun}
use Rattle.frame_store.specs.declared.frames.Frame.{Frame}
use Rattle.frame_store.specs.declared.shapes.Shape.{Shape}
use Rattle.frame_store.specs.Images.{OpensAs}
use Rattle.frame_store.specs.declared.shapes.Form.{Form}
use Rattle.frame_store.specs.declared.shapes.Form.TheVariants.{New}
use Rattle.frame_store.specs.Layouts.{formed, is_old, index_half_size}
use Rattle.frame_store.specs.Listed.{size_of}
use Rattle.frame_store.specs.Stores.{Held, IsSame}
use Rattle.frame_store.proofs.Openings.{opens_once, opens_in_one_form}
use Rattle.brick_state.specs.Entries.{Entry}
use Rattle.brick_state.specs.States.{StateOf, empty, live}
use Rattle.brick_store.specs.declared.faults.StoreFault.{StoreFault}
use Rattle.brick_store.specs.declared.faults.StoreFault.TheVariants.{Disk, NoMemory}
use Rattle.brick_store.specs.Calls.{has_room_for, is_appendable}
use Rattle.brick_store.specs.Ends.{end_of}
use Rattle.brick_store.specs.Images.{limits_of}
use Rattle.brick_store.specs.Lengths.{HasMadeRoom, IsAppended, ListsBy}
use Rattle.brick_store.specs.Openings.{IsListedOnOpening, found_in, is_whole, opens_appendable}
use Rattle.brick_store.specs.Sizes.{framed, most_listed}
use Rattle.brick_store.proofs.Counting.{appendable_is}
use Rattle.brick_store.proofs.StateChanges.{not_whole}
use Rattle.brick_store.proofs.Stepping.{refused}

-- a frame more is on a list that room was made in
pub appended : {room : Bool} {live before mid body after : ℕ} → HasMadeRoom room live before mid → after ≡ mid + framed body
    → IsAppended room live before body after
appended made sum = record {
  longer = λ is. omega (arith, sum, made.kept is);
  rewritten = λ is. omega (arith, sum, made.rewritten is);
}

differ : {A : Type 0} → true ≡ false → A
differ h = absurd cc

-- a list that has room stays as it is, and one that has none is written anew
pub room_there : {room : Bool} {live before : ℕ} → room ≡ true → HasMadeRoom room live before before
room_there there = record { kept = λ is. refl; rewritten = λ is. differ (sym there ∙ is) }

pub room_made : {room : Bool} {live before after : ℕ} → room ≡ false → after ≤ most_listed live → HasMadeRoom room live before after
room_made none few = record { kept = λ is. differ (sym is ∙ none); rewritten = λ is. few }

-- the half has room for a frame that fits, and for no other
pub fits_there : (shape : Shape) (listed body : ℕ) → listed + 6 + body + 1 ≤ index_half_size shape → has_room_for shape listed body ≡ true
fits_there shape listed body fits = le-leb (listed + 6 + body + 1) (index_half_size shape) fits

pub fits_not : (shape : Shape) (listed body : ℕ) → (listed + 6 + body + 1 ≤ index_half_size shape → ⊥) → has_room_for shape listed body ≡ false
fits_not shape listed body full = by (has_room_for shape listed body) refl
  where
    by : (b : Bool) → has_room_for shape listed body ≡ b → b ≡ false
    by true is = absurd (full (grind (arith, nat_tests, is)))
    by false is = refl

-- a change that was refused leaves the list as it was
pub lists_refused : (fault : StoreFault) (Made : ℕ → Type 0) (listed : ℕ) → ListsBy (end_of (refused fault)) Made listed listed
lists_refused fault Made listed = record { whole = λ is. absurd (not_whole fault is); not_begun = λ is. refl }

-- how long it is after one that was tried
pub lists_tried : (result : Result (Unit {0}) StoreFault) (Made : ℕ → Type 0) (before after : ℕ) → OnOk result (Made after)
    → (result ≡ Err NoMemory → after ≡ before) → OnErr result ((result ≡ Err Disk) ⊎ (result ≡ Err NoMemory)) → ListsBy (end_of result) Made before after
lists_tried (Ok value) Made before after made as_long only = record { whole = λ is. made; not_begun = λ is. absurd cc }
lists_tried (Err fault) Made before after made as_long (inl disk) = record {
  whole = λ is. absurd (not_whole fault is);
  not_begun = λ is. cut (sym (ap (λ (r : Result (Unit {0}) StoreFault). end_of r) disk) ∙ is);
}
  where
    cut : {A : Type 0} → Cut ≡ NotBegun → A
    cut h = absurd cc
lists_tried (Err fault) Made before after made as_long (inr memory) =
    record { whole = λ is. absurd (not_whole fault is); not_begun = λ is. as_long memory }

-- ---- openings

-- a list that an opening wrote anew, if it did
pub renewed : {E : Type 0} (room : Bool) (live before after : ℕ) (result : Result (Unit {0}) E) → room ≡ false
    → OnOk result (after ≤ most_listed live) → OnOk result (HasMadeRoom room live before after)
renewed room live before after (Ok value) none few = room_made none few
renewed room live before after (Err fault) none few = tt

-- and then its count was appended
pub counted_on : {E : Type 0} {room : Bool} {live before mid : ℕ} (body after : ℕ) (result : Result (Unit {0}) E) → HasMadeRoom room live before mid
    → OnOk result (after ≡ mid + framed body) → OnOk result (IsAppended room live before body after)
counted_on body after (Ok value) made sum = appended made sum
counted_on body after (Err fault) made sum = tt

module _ {D : Type 0} (old : Held D) (after : ℕ) where
  -- to a list that is the same as one that was read
  pub counted_loaded : (mid : Held D) (whole now : Bool) (st found : StateOf Entry) → IsSame old mid → whole ≡ now → found ≡ st
      → IsAppended (is_appendable whole mid 4) (live st) (size_of mid.frames) 4 after
      → IsAppended (is_appendable now old 4) (live found) (size_of old.frames) 4 after
  counted_loaded mid whole now st found same whole_is is listed =
      subst (λ (s : StateOf Entry). IsAppended (is_appendable now old 4) (live s) (size_of old.frames) 4 after) (sym is)
      (subst (λ (b : Bool). IsAppended b (live st) (size_of old.frames) 4 after)
      (appendable_is mid whole now old.shape old.frames old.closed whole_is same.shape same.frames same.closed)
      (subst (λ (fs : List Frame). IsAppended (is_appendable whole mid 4) (live st) (size_of fs) 4 after) same.frames listed))

  -- in the words of what the image held
  pub counted_there : (image : List ℕ) (shape : Shape) (records : ℕ) → is_old old.shape ≡ false → OpensAs old.shape old.frames old.closed image
      → shape ≡ old.shape → records ≡ live (found_in old.shape old.frames)
      → IsAppended (is_appendable (is_whole (limits_of old.shape) old.frames empty) old 4) (live (found_in old.shape old.frames)) (size_of old.frames) 4 after
      → IsListedOnOpening (formed New shape) image records after
  counted_there image shape records slotted opens same lives listed =
      subst (λ (s : Shape). IsListedOnOpening (formed New s) image records after) (sym same) here
    where
      here : IsListedOnOpening (formed New old.shape) image records after
      here form frames closed there =
          let form_is : old.shape.form ≡ form = opens_in_one_form old.shape old.shape.form form image old.frames frames old.closed closed opens there in
          let once = opens_once old.shape image old.frames frames old.closed closed opens
          (subst (λ (f : Form). OpensAs (formed f old.shape) frames closed image) (sym form_is) there) in
          let found : ℕ = live (found_in old.shape old.frames) in
          let whole = λ (fs : List Frame) (b : Bool). (is_whole (limits_of old.shape) fs empty && b) && has_room_for old.shape (size_of fs) 4 in
          subst (λ (f : Form). IsAppended (opens_appendable (formed f old.shape) frames closed) records (size_of frames) 4 after) form_is
          (subst (λ (b : Bool). IsAppended (not b && whole frames closed) records (size_of frames) 4 after) (sym slotted)
          (subst (λ (n : ℕ). IsAppended (whole frames closed) n (size_of frames) 4 after) (sym lives)
          (subst (λ (b : Bool). IsAppended (whole frames b) found (size_of frames) 4 after) once.1
          (subst (λ (fs : List Frame). IsAppended (whole fs old.closed) found (size_of fs) 4 after) once.0 listed))))
