-- A list of frames that is written anew.
use Rattle.std.proofs.Common.{◌≡◌, ◌⊎◌, inl, inr, ℕ, Some, None, List, map, sym, subst, ◌∙◌}
use Rattle.fab_disk.specs.Disk.{IsUntouched, LeavesOnly, Elapses}
use Rattle.fab_disk.proofs.Moments.{goes_on, widened, joined}
use Rattle.frame_store.specs.declared.frames.Frame.{Frame}
use Rattle.frame_store.specs.declared.shapes.Shape.{Shape}
use Rattle.frame_store.specs.Images.{Lists, ListsWith}
use Rattle.frame_store.specs.Stores.{Held}
use Rattle.brick_state.specs.Entries.{Entry}
use Rattle.brick_state.specs.States.{StateOf, empty}
use Rattle.brick_state.specs.Folds.{Limits, folded}
use Rattle.brick_state.specs.Rewrites.{live_records}
use Rattle.brick_state.specs.KeptStates.{IsKeptState}
use Rattle.brick_state.proofs.StateRewrites.{records_lead}
use Rattle.brick_store.specs.Images.{record_of, records_of, limits_of}
use Rattle.brick_store.specs.Standing.{Leads}
use Rattle.brick_store.specs.Openings.{IsKeptIn, IsAllowedOr}
use Rattle.brick_store.proofs.Stepping.{leads_from_records}
use Rattle.brick_store.proofs.Changing.{leads_folded}
use Rattle.brick_store.proofs.Starting.{still_allowed}

-- those of the live records bring the state back
pub live_lead : (limits : Limits) (frames : List Frame) (st : StateOf Entry) → IsKeptState limits st → map record_of frames ≡ map Some
    (live_records st) → Leads limits frames empty st
live_lead limits frames st kept same = leads_from_records limits frames (live_records st) empty st same (records_lead limits st kept)

kept_either : (shape : Shape) (frames after : List Frame) (st : StateOf Entry) (content image : List ℕ)
    → folded (limits_of shape) (records_of frames) empty ≡ st → folded (limits_of shape) (records_of after) empty ≡ st
    → Lists shape frames None content image ⊎ ListsWith shape after None content image → IsKeptIn shape st content image
kept_either shape frames after st content image is then (inl at) = record { frames = frames; opens = at.opens; state = is; slots = at.slots }
kept_either shape frames after st content image is then (inr at) = record { frames = after; opens = at.opens; state = then; slots = at.slots }

module _ {D : Type 0} (tells : Type 0) (seen : D → List ℕ) (may_leave : D → List ℕ → Type 0) (moment : D → ℕ)
    (left_since : D → ℕ → List ℕ → Type 0) where
  -- a disk that was left alone, and then synced
  pub synced_allowed : ((disk : D) (image : List ℕ) → left_since disk (moment disk) image → may_leave disk image)
      → (old mid new : D) (P : List ℕ → Type 0) → IsUntouched seen may_leave moment left_since old mid
      → Elapses (moment mid) (moment new) (left_since mid) (left_since new) (may_leave new)
      → ((image : List ℕ) → may_leave new image → may_leave mid image) → LeavesOnly moment left_since old new (IsAllowedOr (may_leave old) P)
  synced_allowed only_now old mid new P untouched time crash =
      goes_on moment left_since old mid new (IsAllowedOr (may_leave old) P) (may_leave new)
      (still_allowed seen may_leave moment left_since only_now old mid P untouched) time
      (λ image left. inl (untouched.crash image (crash image left)))

  -- a list that is being replaced by one of the same state
  pub replaced_kept : (held : Held D) (new : D) (after : List Frame) (st : StateOf Entry) → folded (limits_of held.shape)
      (records_of held.frames) empty ≡ st → Leads (limits_of held.shape) after empty st
      → LeavesOnly moment left_since held.disk new (λ image. Lists held.shape held.frames None (seen held.disk) image ⊎ ListsWith held.shape after None (seen held.disk) image)
      → LeavesOnly moment left_since held.disk new (IsKeptIn held.shape st (seen held.disk))
  replaced_kept held new after st is leads run =
      widened moment left_since held.disk new (λ image. Lists held.shape held.frames None (seen held.disk) image ⊎ ListsWith held.shape after None (seen held.disk) image)
      (IsKeptIn held.shape st (seen held.disk))
      (λ image at. kept_either held.shape held.frames after st (seen held.disk) image is
      (leads_folded (limits_of held.shape) after empty st leads) at) run

  -- and that after the disk was synced
  pub renewed : ((disk : D) (image : List ℕ) → left_since disk (moment disk) image → may_leave disk image) → (old held : Held D) (mid new : D)
      (after : List Frame) (st : StateOf Entry) → IsUntouched seen may_leave moment left_since old.disk mid
      → Elapses (moment mid) (moment held.disk) (left_since mid) (left_since held.disk) (may_leave held.disk)
      → ((image : List ℕ) → may_leave held.disk image → may_leave mid image) → seen held.disk ≡ seen mid
      → held.shape ≡ old.shape → held.frames ≡ old.frames → folded (limits_of old.shape) (records_of old.frames) empty ≡ st
      → Leads (limits_of old.shape) after empty st
      → LeavesOnly moment left_since held.disk new (λ image. Lists held.shape held.frames None (seen held.disk) image ⊎ ListsWith held.shape after None (seen held.disk) image)
      → LeavesOnly moment left_since old.disk new (IsAllowedOr (may_leave old.disk) (IsKeptIn old.shape st (seen old.disk)))
  renewed only_now old held mid new after st untouched time crash content shape frames is leads run =
      let Q : List ℕ → Type 0 = IsKeptIn old.shape st (seen old.disk) in
      let found : folded (limits_of held.shape) (records_of held.frames) empty ≡ st =
      subst (λ (s : Shape). folded (limits_of s) (records_of held.frames) empty ≡ st) (sym shape)
      (subst (λ (fs : List Frame). folded (limits_of old.shape) (records_of fs) empty ≡ st) (sym frames) is) in
      let lead = subst (λ (s : Shape). Leads (limits_of s) after empty st) (sym shape) leads in
      let kept = replaced_kept held new after st found lead run in
      let here : LeavesOnly moment left_since held.disk new Q =
      subst (λ (x : List ℕ). LeavesOnly moment left_since held.disk new (IsKeptIn old.shape st x)) (content ∙ untouched.content)
      (subst (λ (s : Shape). LeavesOnly moment left_since held.disk new (IsKeptIn s st (seen held.disk))) shape kept) in
      joined moment left_since old.disk held.disk new (IsAllowedOr (may_leave old.disk) Q)
      (synced_allowed only_now old.disk mid held.disk Q untouched time crash)
      (widened moment left_since held.disk new Q (IsAllowedOr (may_leave old.disk) Q) (λ image at. inr at) here)
