-- A frame that is taken as one record, or that is none.
use Rattle.std.proofs.Common.{◌≡◌, ℕ, Bool, true, false, Option, Some, None, Result, Ok, List, refl, sym, ap, subst, ◌∙◌}
use Rattle.std.specs.Option.{option_map}
use Rattle.std.specs.Result.{IfOk}
use Rattle.fab_base.specs.declared.faults.NoMem.{NoMem}
use Rattle.fab_base.specs.declared.identities.GroupId.{GroupId}
use Rattle.fab_base.specs.declared.identities.StripeNo.{StripeNo}
use Rattle.fab_base.specs.declared.identities.ViewNo.{ViewNo}
use Rattle.fab_base.specs.declared.stamps.Stamp.{Stamp}
use Rattle.stamp_store.specs.declared.kept_records.Kept.{Kept}
use Rattle.stamp_store.specs.declared.log_records.LogChange.{LogChange}
use Rattle.stamp_store.specs.declared.log_records.LogChange.TheVariants.{Same, Collect, Slot}
use Rattle.stamp_store.specs.declared.log_records.Logged.{Logged}
use Rattle.stamp_store.specs.Reading.{made_boot, made_order, kept_at, read_of}
use Rattle.stamp_store.specs.LogSpelling.{SpellsLogged, logged_kind, logged_at, logged_of}
use Rattle.frame_store.specs.declared.frames.Frame.{Frame}
use Rattle.frame_store.specs.Listed.{frame_of}
use Rattle.brick_state.specs.declared.records.Record.{Record}
use Rattle.brick_state.specs.declared.records.Record.TheVariants as forms
use Rattle.brick_state.specs.Entries.{Entry}
use Rattle.brick_state.specs.States.{StateOf}
use Rattle.brick_state.specs.Folds.{Limits, applied}
use Rattle.brick_state.specs.Indexes.{Answers}
use Rattle.brick_store.specs.Images.{or_logged, record_of}
use Rattle.brick_store.specs.Openings.{TakesOrEnds}
use Rattle.brick_store.specs.Steps.{RecordHasMembers}
use Rattle.brick_store.proofs.Members.{refused_none, answered_members}
use Rattle.brick_store.proofs.Reading.{ends_refused, ends_unread, never_refused, never_unread}

-- an answer that says that the change was made
leads_of : (now : StateOf Entry) (next : Option (StateOf Entry)) → Answers now next true → next ≡ Some now
leads_of now None h = absurd cc
leads_of now (Some st) h = ap (λ (s : StateOf Entry). Some s) (sym h.1)

-- a frame whose record was applied
pub answered_takes : (limits : Limits) (frame : Frame) (r : Record) (old new : StateOf Entry) (answer : Result Bool NoMem) → record_of frame ≡ Some r
    → RecordHasMembers r → IfOk answer (λ taken. Answers new (applied limits r old) taken) → (answer ≡ Ok false → new ≡ old)
    → TakesOrEnds limits frame old new answer
answered_takes limits frame r old new answer is has answers refused =
    let told : (said : Result Bool NoMem) → answer ≡ said → IfOk said (λ taken. Answers new (applied limits r old) taken)
    = λ said same. subst (λ (a : Result Bool NoMem). IfOk a (λ taken. Answers new (applied limits r old) taken)) same answers in
    record {
      taken = λ yes. record { read = r; is = is; leads = leads_of new (applied limits r old) (told (Ok true) yes) };
      ended = λ no. record {
        same = refused no;
        never = never_refused limits frame r old is (refused_none new (applied limits r old) (told (Ok false) no));
        ends = λ rest. ends_refused limits frame r rest old is (refused_none new (applied limits r old) (told (Ok false) no));
      };
      members = λ ok all. answered_members limits r old new answer ok answers refused has all;
    }

abbrev refused : Result Bool NoMem
refused = Ok false

abbrev taken : Result Bool NoMem
taken = Ok true

differ : refused ≡ taken → ⊥
differ h = cc

-- a frame that is no record
pub unread_ends : (limits : Limits) (frame : Frame) (st : StateOf Entry) → record_of frame ≡ None → TakesOrEnds limits frame st st (Ok false)
unread_ends limits frame st none = record {
  taken = λ yes. absurd (differ yes);
  ended = λ no. record { same = refl; never = never_unread limits frame st none; ends = λ rest. ends_unread limits frame rest st none };
  members = λ ok all. all;
}

-- ---- which record a frame is

-- of a count of openings
pub boot_record : (body : List ℕ) (found : Option ℕ) → option_map made_boot found ≡ read_of 1 body
    → record_of (frame_of 1 body) ≡ option_map (λ count. forms.Kept (made_boot count)) found
unfolding logged_of logged_at
boot_record body found read = ap (λ (k : Option Kept). or_logged k 1 body) (sym read) ∙ by found
  where
    no_log : option_map forms.Logged (logged_of 1 body) ≡ None
    no_log = refl

    by : (o : Option ℕ) → or_logged (option_map made_boot o) 1 body ≡ option_map (λ count. forms.Kept (made_boot count)) o
    by None = no_log
    by (Some count) = refl

-- of an order stamp
pub order_record : (body : List ℕ) (found : Option (GroupId × (ViewNo × (StripeNo × Stamp)))) → option_map made_order found ≡ read_of 4 body
    → record_of (frame_of 4 body) ≡ option_map (λ order. forms.Kept (made_order order)) found
unfolding logged_of logged_at
order_record body found read = ap (λ (k : Option Kept). or_logged k 4 body) (sym read) ∙ by found
  where
    no_log : option_map forms.Logged (logged_of 4 body) ≡ None
    no_log = refl

    by : (o : Option (GroupId × (ViewNo × (StripeNo × Stamp)))) → or_logged (option_map made_order o) 4 body ≡ option_map (λ order. forms.Kept (made_order order)) o
    by None = no_log
    by (Some order) = refl

-- of a change of a log: no kind is of both
pub logged_record : (kind : ℕ) (body : List ℕ) (logged : Logged) → SpellsLogged kind body logged → read_of kind body ≡ None
unfolding read_of kept_at
logged_record kind body logged spells = ap (λ (k : ℕ). read_of k body) spells.kind_is ∙ by logged.change
  where
    by : (change : LogChange) → read_of (logged_kind change) body ≡ None
    by Same = refl
    by Collect = refl
    by (Slot bottom slot) = refl
