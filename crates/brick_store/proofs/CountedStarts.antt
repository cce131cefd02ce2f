-- An opening that makes the list of a store ready, and then is counted.
use Rattle.std.proofs.Common.{◌≡◌, ℕ, ◌+◌, ◌<◌, Bool, None, List, refl, sym, subst, arith}
use Rattle.fab_disk.specs.declared.disk.Disk as on_disk
use Rattle.fab_disk.specs.Changing.{End, Whole, Cut, NotBegun}
use Rattle.fab_disk.proofs.Moments.{kept_both}
use Rattle.fab_disk.proofs.Plans.{run_as, run_both, run_cut}
use Rattle.frame_store.specs.Images.{KeepsSlots}
use Rattle.frame_store.specs.Stores.{Held}
use Rattle.frame_store.proofs.Stills.{still_none}
use Rattle.brick_state.specs.Entries.{Entry}
use Rattle.brick_state.specs.States.{StateOf, booted}
use Rattle.brick_store.specs.Calls.{is_appendable, opening_calls}
use Rattle.brick_store.specs.Ends.{StateChange}
use Rattle.brick_store.specs.Openings.{IsKeptIn, Readies, Starts, StopsOpening}
use Rattle.brick_store.specs.Steps.{CanChange}
use Rattle.brick_store.proofs.BootCounts.{count_change, count_stands}
use Rattle.brick_store.proofs.CutOpenings.{count_cut, readying_cut}
use Rattle.brick_store.proofs.OpeningLaws.{refused_starts}
use Rattle.brick_store.proofs.Starting.{counted_moments, settled_moments}

-- nothing was begun
pub untouched_starts : {D : Type 0} (d : on_disk.Ghosts D)
    → ((disk : D) (image : List ℕ) → d.left_since disk (d.moment disk) image → d.may_leave disk image)
    → (whole : Bool) (st : StateOf Entry) (old : Held D) → Starts d whole st old old.disk NotBegun
untouched_starts d only_now whole st old =
    refused_starts d only_now whole st old old.disk NotBegun ⊥ (λ is. absurd cc) (λ is. absurd cc) (still_none d old.disk)

module _ {D : Type 0} (d : on_disk.Ghosts D) (whole : Bool) (st : StateOf Entry) (old : Held D) (first : ℕ)
    (sum : opening_calls (is_appendable whole old 4) ≡ first + 4) (boots : st.boot < 4294967295) where
  abbrev next : StateOf Entry
  next = booted (st.boot + 1) st

  abbrev Stops : ℕ → D → Type 0
  Stops calls new =
      StopsOpening d.seen d.certain d.moment calls old.disk new (IsKeptIn old.shape st (d.seen old.disk)) (IsKeptIn old.shape next (d.seen old.disk))

  -- what stops within the calls of both stops within the opening's
  stops : (new : D) → Stops (first + 4) new → Stops (opening_calls (is_appendable whole old 4)) new
  stops new within = subst (λ (n : ℕ). Stops n new) (sym sum) within

  -- it was not made ready
  pub unready_starts : (new : D) (end : End) → (end ≡ Whole → ⊥) → Readies d first st old new end → Starts d whole st old new end
  unready_starts new end not_whole ready = record {
    moments = λ told closed. settled_moments d.moment d.left_since (d.may_leave old.disk) old.shape st next (d.seen old.disk) old.disk new
        (ready.moments told closed);
    run = run_cut d.tells d.moment d.plan d.unlisted first _ old.disk new _ _ (omega (arith, sum)) not_whole (ready.run.waits not_whole)
        (run_as d.tells d.moment d.plan d.unlisted first old.disk new _ _ _ _ (λ never. absurd never) (λ is. is) (λ a b. ready.run.waits not_whole b)
        ready.run);
    not_worn = λ is free. boots;
    cut = λ is told free closed. stops new
        (readying_cut d.seen d.certain d.may_leave d.moment d.left_since first old.disk new _ _ (ready.cut is told free closed));
    not_begun = ready.not_begun;
    cause = ready.cause;
  }

  -- it was, and then it was counted, or that was cut short
  pub counted_starts : (mid : Held D) (after : StateOf Entry) (new : D) (end : End) → Readies d first st old mid.disk Whole
      → (d.tells → KeepsSlots old.shape None (d.seen old.disk) (d.seen mid.disk)) → mid.shape ≡ old.shape → CanChange d st mid → after ≡ next
      → StateChange d 4 mid None st after new end → ((end ≡ Whole → ⊥) → (end ≡ Cut → ⊥) → ⊥) × (end ≡ NotBegun → ⊥) → Starts d whole st old new end
  counted_starts mid after new end ready slots shape may is count ends =
      let change = count_change d old.shape st mid shape after next new end is count in
      let stands = count_stands d old.shape st mid shape may in
      record {
        moments = λ told closed. counted_moments d.moment d.left_since (d.may_leave old.disk) old.shape st next (d.seen old.disk) old.disk mid.disk new
            (d.seen mid.disk) (slots told) (ready.moments told closed) (change.moments told (stands told));
        run = run_both d.tells d.moment d.plan d.unlisted first 4 _ old.disk mid.disk new _ _ _ _ sum refl ends.0 ready.run change.run;
        not_worn = λ is free. boots;
        cut = λ is told free closed. stops new
            (count_cut d.seen d.certain d.may_leave d.moment d.left_since first old.shape st next old.disk mid.disk new (ready.run.counted told refl)
            (slots told) (change.cut is told (stands told)));
        not_begun = λ is. absurd (ends.1 is);
        cause = kept_both (d.faults old.disk) (d.faults mid.disk) (d.faults new) _ _ _ _ _ ready.cause change.cause;
      }
