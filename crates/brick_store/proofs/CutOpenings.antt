-- An opening that was cut short.
use Rattle.std.proofs.Common.{◌≡◌, inl, inr, ⊎_elim, ℕ, ◌+◌, ◌≤◌, ◌<◌, true, false, None, List, sym, subst, ◌∙◌, arith}
use Rattle.std.proofs.lemmas.Bool.{cases_lt}
use Rattle.fab_disk.specs.declared.disk.Plan.{Plan}
use Rattle.fab_disk.specs.declared.disk.Plan.TheVariants.{Never, Stop, Fail}
use Rattle.fab_disk.specs.Disk.{IsUntouched, StopsEarly}
use Rattle.fab_disk.specs.Plan.{IsRun, IsWithin, calls_made}
use Rattle.frame_store.specs.declared.frames.Frame.{Frame}
use Rattle.frame_store.specs.declared.shapes.Shape.{Shape}
use Rattle.frame_store.specs.declared.shapes.Form.TheVariants.{New}
use Rattle.frame_store.specs.Layouts.{formed, is_old}
use Rattle.frame_store.specs.Images.{OpensAs, KeepsSlots, Lists, ListsWith}
use Rattle.frame_store.specs.Stores.{Held, Shows}
use Rattle.version_log.specs.Versions.{Version}
use Rattle.brick_state.specs.Entries.{Entry}
use Rattle.brick_state.specs.States.{StateOf, booted, empty}
use Rattle.brick_state.specs.Folds.{folded}
use Rattle.brick_store.specs.Images.{records_of, limits_of, StandsFor}
use Rattle.brick_store.specs.Standing.{Leads}
use Rattle.brick_store.specs.Steps.{IsUnchanged, IsChanged}
use Rattle.brick_store.specs.Openings.{found_in, IsKeptIn, StopsOpening, StopsReadying}
use Rattle.brick_store.proofs.Stepping.{slots_same}
use Rattle.brick_store.proofs.Changing.{leads_folded}
use Rattle.brick_store.proofs.Starting.{kept_leads}
use Rattle.brick_store.proofs.Opened.{before_stands, after_stands, closed_there}

-- a plan that names one of so many calls lets no more of them be made
made_within : (calls : ℕ) (plan : Plan) → IsWithin calls plan → calls_made plan ≤ calls
made_within calls Never is = omega arith
made_within calls (Stop number) is = is.reached
made_within calls (Fail number) is = omega (arith, is.reached)

-- so many calls at most were made of a run that was cut short
pub run_clock : {D tells : Type 0} {moment : D → ℕ} {plan : D → Plan} {unlisted : D → Type 0} {calls : ℕ} {old new : D} {whole cut : Type 0}
    → IsRun tells moment plan unlisted calls old new whole cut → tells → unlisted old → cut → moment new ≤ moment old + calls
run_clock {plan = plan} {calls = calls} {old = old} run told free is =
    omega (arith, run.stopped told free is, made_within calls (plan old) (run.named free is))

module _ {D : Type 0} (seen certain : D → List ℕ) (may_leave : D → List ℕ → Type 0) (moment : D → ℕ) (left_since : D → ℕ → List ℕ → Type 0) where
  -- the disk was left alone, and then its sync failed
  pub sync_cut : (calls : ℕ) (old : Held D) (mid new : D) (st : StateOf Entry)
      → Shows seen old → old.closed ≡ true → folded (limits_of old.shape) (records_of old.frames) empty ≡ st
      → IsUntouched seen may_leave moment left_since old.disk mid → seen new ≡ seen mid
      → certain mid ≡ certain old.disk → certain new ≡ certain mid → moment new ≤ moment mid + calls
      → StopsReadying seen certain moment calls old.disk new (IsKeptIn old.shape st (seen old.disk))
  sync_cut calls old mid new st shows closed is untouched content first second clock =
      let same : seen new ≡ seen old.disk = content ∙ untouched.content in
      let opens : OpensAs old.shape old.frames true (seen old.disk) = subst (λ b. OpensAs old.shape old.frames b (seen old.disk)) closed shows.opens in
      record {
        clock = omega (arith, clock, untouched.clock);
        settled = inl (second ∙ first);
        same = record {
          frames = old.frames;
          opens = subst (λ (x : List ℕ). OpensAs old.shape old.frames true x) (sym same) opens;
          state = is;
          slots = slots_same old.shape None (seen old.disk) (seen new) same;
        };
      }

  -- it was synced, and then the rewriting of the list was cut short
  pub rewrite_cut : (old held : Held D) (mid new : D) (after : List Frame) (st : StateOf Entry)
      → IsUntouched seen may_leave moment left_since old.disk mid → seen held.disk ≡ seen mid → moment held.disk ≡ moment mid + 1
      → held.shape ≡ old.shape → held.frames ≡ old.frames → folded (limits_of old.shape) (records_of old.frames) empty ≡ st
      → Leads (limits_of old.shape) after empty st
      → StopsEarly seen certain moment 7 held.disk new (Lists held.shape held.frames None (seen held.disk))
      (ListsWith held.shape after None (seen held.disk))
      → StopsReadying seen certain moment 8 old.disk new (IsKeptIn old.shape st (seen old.disk))
  rewrite_cut old held mid new after st untouched content clock shape frames is leads stops =
      let found : folded (limits_of held.shape) (records_of held.frames) empty ≡ st =
      subst (λ (s : Shape). folded (limits_of s) (records_of held.frames) empty ≡ st) (sym shape)
      (subst (λ (fs : List Frame). folded (limits_of old.shape) (records_of fs) empty ≡ st) (sym frames) is) in
      let lead = subst (λ (s : Shape). Leads (limits_of s) after empty st) (sym shape) leads in
      let kept = λ (image : List ℕ) (at : IsKeptIn held.shape st (seen held.disk) image).
      subst (λ (x : List ℕ). IsKeptIn old.shape st x image) (content ∙ untouched.content)
      (subst (λ (s : Shape). IsKeptIn s st (seen held.disk) image) shape at) in
      let before = λ (image : List ℕ) (at : Lists held.shape held.frames None (seen held.disk) image).
      kept image (record { frames = held.frames; opens = at.opens; state = found; slots = at.slots }) in
      let later = λ (image : List ℕ) (at : ListsWith held.shape after None (seen held.disk) image).
      kept image (record { frames = after; opens = at.opens; state = leads_folded (limits_of held.shape) after empty st lead; slots = at.slots }) in
      record {
        clock = omega (arith, stops.clock, clock, untouched.clock);
        settled = inr (before (certain new) stops.settled);
        same = ⊎_elim (λ late. later (seen new) (stops.late late)) (λ early. before (seen new) (stops.early early))
            (cases_lt (moment held.disk + 7) (moment new + 2));
      }

  -- the opening was cut short before its count
  pub readying_cut : (first : ℕ) (old new : D) (P Q : List ℕ → Type 0) → StopsReadying seen certain moment first old new P
      → StopsOpening seen certain moment (first + 4) old new P Q
  readying_cut first old new P Q stops = record {
    clock = omega (arith, stops.clock);
    settled = stops.settled;
    early = λ at. stops.same;
    late = λ at. absurd (never stops.clock at);
  }
    where
      never : moment new ≤ moment old + first → moment old + (first + 4) < moment new + 2 → ⊥
      never clock at = omega (arith, clock, at)

  -- or in the midst of it
  pub count_cut : (first : ℕ) (shape : Shape) (st next : StateOf Entry) (old mid new : D) → moment mid ≡ moment old + first
      → KeepsSlots shape None (seen old) (seen mid)
      → StopsEarly seen certain moment 4 mid new (IsUnchanged shape None st (seen mid)) (IsChanged shape None next (seen mid))
      → StopsOpening seen certain moment (first + 4) old new (IsKeptIn shape st (seen old)) (IsKeptIn shape next (seen old))
  count_cut first shape st next old mid new clock slots stops =
      let before = λ (image : List ℕ) (at : IsUnchanged shape None st (seen mid) image).
      kept_leads shape st (seen old) (seen mid) image slots at.slots at.opens in
      record {
        clock = omega (arith, stops.clock, clock);
        settled = inr (before (certain new) stops.settled);
        early = λ at. before (seen new) (stops.early (omega (arith, at, clock)));
        late = λ at. let is = stops.late (omega (arith, at, clock)) in
            kept_leads shape next (seen old) (seen mid) (seen new) slots is.slots is.opens;
      }

  -- reading comes first
  pub read_first : (calls : ℕ) (old mid new : D) (Q R : List ℕ → List ℕ → Type 0) → IsUntouched seen may_leave moment left_since old mid
      → certain mid ≡ certain old
      → StopsOpening seen certain moment calls mid new (Q (seen mid)) (R (seen mid))
      → StopsOpening seen certain moment calls old new (Q (seen old)) (R (seen old))
  read_first calls old mid new Q R untouched same stops = record {
    clock = omega (arith, stops.clock, untouched.clock);
    settled = ⊎_elim (λ had. inl (had ∙ same))
        (λ now. inr (subst (λ (c : List ℕ). Q c (certain new)) untouched.content now)) stops.settled;
    early = λ at. subst (λ (c : List ℕ). Q c (seen new)) untouched.content (stops.early (omega (arith, at, untouched.clock)));
    late = λ at. subst (λ (c : List ℕ). R c (seen new)) untouched.content (stops.late (omega (arith, at, untouched.clock)));
  }

  -- in the words of what the disk stood for
  pub opening_cut : (calls : ℕ) (disk new : D) (held : Held D) → Shows seen held → is_old held.shape ≡ false → IsUntouched seen may_leave moment left_since disk held.disk
      → certain held.disk ≡ certain disk
      → (held.closed ≡ true → StopsOpening seen certain moment calls held.disk new
      (IsKeptIn held.shape (found_in held.shape held.frames) (seen held.disk))
      (IsKeptIn held.shape (booted ((found_in held.shape held.frames).boot + 1) (found_in held.shape held.frames)) (seen held.disk)))
      → (st : StateOf Version) → StandsFor (formed New held.shape) st (seen disk)
      → StopsOpening seen certain moment calls disk new (StandsFor (formed New held.shape) st) (StandsFor (formed New held.shape) (booted (st.boot + 1) st))
  opening_cut calls disk new held shows slotted untouched same run st stands =
      let here : StandsFor (formed New held.shape) st (seen held.disk) =
      subst (λ (x : List ℕ). StandsFor (formed New held.shape) st x) (sym untouched.content) stands in
      let stops = run (closed_there seen held shows slotted st here) in
      record {
        clock = omega (arith, stops.clock, untouched.clock);
        settled = ⊎_elim (λ had. inl (had ∙ same)) (λ now. inr (before_stands seen held shows slotted st here (certain new) now)) stops.settled;
        early = λ at. before_stands seen held shows slotted st here (seen new) (stops.early (omega (arith, at, untouched.clock)));
        late = λ at. after_stands seen held shows slotted st here (seen new) (stops.late (omega (arith, at, untouched.clock)));
      }
