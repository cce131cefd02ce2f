-- Frames read as records, one after the other.
use Rattle.std.proofs.Common.{◌≡◌, ℕ, Bool, true, false, Option, Some, None, List, [], ◌∷◌, ◌++◌, refl, sym, ap, subst, ◌∙◌}
use Rattle.std.proofs.lemmas.List.{append-nil}
use Rattle.std.specs.List.{AllByRecursion}
use Rattle.std.specs.Option.{IfSome, option_and_then}
use Rattle.stamp_store.specs.declared.kept_records.Kept.{Kept}
use Rattle.stamp_store.specs.declared.kept_records.Kept.TheVariants.{Boot, Ballots, Order}
use Rattle.stamp_store.specs.declared.kept_records.Kept.TheVariants as kinds
use Rattle.stamp_store.specs.declared.log_records.Logged.{Logged}
use Rattle.stamp_store.specs.Spelling.{Fits, Spells, HasMembers, AcceptedFits, AcceptedHasMembers}
use Rattle.stamp_store.specs.Reading.{read_of}
use Rattle.stamp_store.specs.LogSpelling.{SpellsLogged, logged_of}
use Rattle.stamp_store.proofs.Fields.{IsBytes}
use Rattle.stamp_store.proofs.Records.{read_spells, spells_read}
use Rattle.stamp_store.proofs.LogRecords.{logged_spells, spells_logged}
use Rattle.fab_base.specs.declared.stamps.Ballot.{Ballot}
use Rattle.fab_base.specs.declared.identities.BrickId.{BrickId}
use Rattle.frame_store.specs.declared.frames.Frame.{Frame}
use Rattle.brick_state.specs.declared.records.Record.{Record}
use Rattle.brick_state.specs.declared.records.Record.TheVariants as forms
use Rattle.brick_state.specs.Entries.{Entry}
use Rattle.brick_state.specs.States.{StateOf, empty}
use Rattle.brick_state.specs.Folds.{Limits, applied, folded}
use Rattle.brick_store.specs.Images.{or_logged, record_of, records_of}
use Rattle.brick_store.specs.Standing.{GroupHasMembers, Leads}
use Rattle.brick_store.specs.Openings.{IsFold, IsTaken, EndsBefore, taken_by, goes_on, is_whole}
use Rattle.brick_store.proofs.Stepping.{leads_more}
use Rattle.brick_store.proofs.Changing.{leads_folded}

-- ---- one frame

-- what a reader found is what the bytes say
pub kept_is : (kind : ℕ) (body : List ℕ) (found : Option Kept) → IsBytes body → IfSome found (Spells kind body)
    → ((kept : Kept) → Spells kind body kept → found ≡ Some kept) → read_of kind body ≡ found
kept_is kind body (Some kept) bytes spells only = spells_read kind body kept spells
kept_is kind body None bytes spells only = by (read_of kind body) refl
  where
    by : (read : Option Kept) → read_of kind body ≡ read → read ≡ None
    by None at = refl
    by (Some kept) at = sym (only kept (read_spells kind body kept bytes at))

pub logged_is : (kind : ℕ) (body : List ℕ) (found : Option Logged) → IsBytes body → IfSome found (SpellsLogged kind body)
    → ((logged : Logged) → SpellsLogged kind body logged → found ≡ Some logged) → logged_of kind body ≡ found
logged_is kind body (Some logged) bytes spells only = spells_logged kind body logged spells
logged_is kind body None bytes spells only = by (logged_of kind body) refl
  where
    by : (read : Option Logged) → logged_of kind body ≡ read → read ≡ None
    by None at = refl
    by (Some logged) at = sym (only logged (logged_spells kind body logged bytes at))

-- the record that the bytes are
pub kept_first : (kind : ℕ) (body : List ℕ) (kept : Kept) → read_of kind body ≡ Some kept → Some (forms.Kept kept) ≡ or_logged
    (read_of kind body) kind body
kept_first kind body kept at = rw at refl

pub logged_next : (kind : ℕ) (body : List ℕ) (logged : Logged) → read_of kind body ≡ None → logged_of kind body ≡ Some logged
    → Some (forms.Logged logged) ≡ or_logged (read_of kind body) kind body
logged_next kind body logged none at = rw (none, at) refl

pub nothing_read : (kind : ℕ) (body : List ℕ) → read_of kind body ≡ None → logged_of kind body ≡ None → None ≡ or_logged (read_of kind body) kind body
nothing_read kind body none nothing = rw (none, nothing) refl

-- what fits its fields has members
accepted_members : (accepted : Option (Ballot × List BrickId)) → AcceptedFits accepted → AcceptedHasMembers accepted
accepted_members None fits = tt
accepted_members (Some a) fits = fits.1.some

pub has_members : (kept : Kept) → Fits kept → HasMembers kept
has_members (Boot count) fits = tt
has_members (kinds.View group view synced) fits = (fits.1.1.0.some, fits.1.1.1.0.some)
has_members (Ballots group view promised accepted) fits = accepted_members accepted fits.1.1.1
has_members (Order group view stripe stamp) fits = tt

-- ---- one after the other

-- what they lead to is what is made of them, and the others go on from there
pub leads_then : (limits : Limits) (xs rest : List Frame) (a b : StateOf Entry) → Leads limits xs a b
    → folded limits (records_of (xs ++ rest)) a ≡ folded limits (records_of rest) b
unfolding Leads folded records_of
leads_then limits [] rest a b leads = ap (folded limits (records_of rest)) leads
leads_then limits (x ∷ xs) rest a b leads = rw (leads.1, leads.3) (leads_then limits xs rest leads.2 b leads.4)

-- the list ends before a frame that is no record, and before one that can't be
pub ends_unread : (limits : Limits) (frame : Frame) (rest : List Frame) (st : StateOf Entry) → record_of frame ≡ None
    → folded limits (records_of (frame ∷ rest)) st ≡ st
unfolding folded records_of
ends_unread limits frame rest st none = rw none refl

pub ends_refused : (limits : Limits) (frame : Frame) (r : Record) (rest : List Frame) (st : StateOf Entry) → record_of frame ≡ Some r
    → applied limits r st ≡ None → folded limits (records_of (frame ∷ rest)) st ≡ st
unfolding folded records_of
ends_refused limits frame r rest st is never = rw (is, never) refl

-- they are taken, and it is left to the others
pub whole_then : (limits : Limits) (xs rest : List Frame) (a b : StateOf Entry) → Leads limits xs a b
    → is_whole limits (xs ++ rest) a ≡ is_whole limits rest b
unfolding Leads is_whole
whole_then limits [] rest a b leads = ap (is_whole limits rest) leads
whole_then limits (x ∷ xs) rest a b leads = rw (leads.1, leads.3) (whole_then limits xs rest leads.2 b leads.4)

pub never_unread : (limits : Limits) (frame : Frame) (st : StateOf Entry) → record_of frame ≡ None → taken_by limits frame st ≡ None
never_unread limits frame st none = rw none refl

pub never_refused : (limits : Limits) (frame : Frame) (r : Record) (st : StateOf Entry) → record_of frame ≡ Some r → applied limits r st ≡ None
    → taken_by limits frame st ≡ None
never_refused limits frame r st is never = rw (is, never) refl

stops_whole : (limits : Limits) (frame : Frame) (rest : List Frame) (st : StateOf Entry) → taken_by limits frame st ≡ None
    → is_whole limits (frame ∷ rest) st ≡ false
unfolding is_whole
stops_whole limits frame rest st never = ap (λ (o : Option (StateOf Entry)). goes_on o (is_whole limits rest)) never

all_whole : (limits : Limits) (st : StateOf Entry) → is_whole limits [] st ≡ true
unfolding is_whole
all_whole limits st = refl

-- what comes after a list that ended early changes nothing
stopped_more : (limits : Limits) (xs rest : List Frame) (a : StateOf Entry) → is_whole limits xs a ≡ false
    → (folded limits (records_of (xs ++ rest)) a ≡ folded limits (records_of xs) a) × (is_whole limits (xs ++ rest) a ≡ false)
unfolding is_whole folded records_of
stopped_more limits [] rest a ended = absurd cc
stopped_more limits (x ∷ xs) rest a ended = by (λ b at. stopped_more limits xs rest b at) (record_of x) refl
  where
    by : ((b : StateOf Entry) → is_whole limits xs b ≡ false
        → (folded limits (records_of (xs ++ rest)) b ≡ folded limits (records_of xs) b) × (is_whole limits (xs ++ rest) b ≡ false))
        → (r : Option Record) → record_of x ≡ r
        → (folded limits (records_of (x ∷ xs ++ rest)) a ≡ folded limits (records_of (x ∷ xs)) a) × (is_whole limits (x ∷ xs ++ rest) a ≡ false)
    by more None at = (rw at refl, rw at refl)
    by more (Some r) at = then (applied limits r a) refl
      where
        then : (next : Option (StateOf Entry)) → applied limits r a ≡ next
            → (folded limits (records_of (x ∷ xs ++ rest)) a ≡ folded limits (records_of (x ∷ xs)) a) × (is_whole limits (x ∷ xs ++ rest) a ≡ false)
        then None never = (rw (at, never) refl, rw (at, never) refl)
        then (Some b) on =
            let rest_of = more b (subst (λ (o : Option (StateOf Entry)). goes_on o (is_whole limits xs) ≡ false) on
            (subst (λ (o : Option Record). goes_on (option_and_then (λ read. applied limits read a) o) (is_whole limits xs) ≡ false) at ended)) in
            (rw (at, on) rest_of.0, rw (at, on) rest_of.1)

-- ---- a list that is folded as it is read

-- before the first frame
pub no_fold : (limits : Limits) (st : StateOf Entry) → st ≡ empty → AllByRecursion GroupHasMembers st.groups → IsFold limits [] st true
unfolding folded records_of is_whole Leads
no_fold limits st is members = record { found = sym is; whole_is = refl; leads = λ whole. sym is; members = members }

-- one frame more, which was taken or ended the list
pub fold_more : (limits : Limits) (frames : List Frame) (frame : Frame) (st next : StateOf Entry) (whole now : Bool) → whole ≡ true
    → IsFold limits frames st whole → (now ≡ true → IsTaken limits frame st next) → (now ≡ false → EndsBefore limits frame st next)
    → AllByRecursion GroupHasMembers next.groups → IsFold limits (frames ++ frame ∷ []) next now
fold_more limits frames frame st next whole true is so_far taken ended members =
    let take = taken refl in
    let leads = leads_more limits frames frame take.read empty st next (so_far.leads is) take.is take.leads in
    record {
      found = leads_folded limits (frames ++ frame ∷ []) empty next leads;
      whole_is = sym (all_whole limits next) ∙ sym (whole_then limits (frames ++ frame ∷ []) [] empty next leads)
          ∙ ap (λ (xs : List Frame). is_whole limits xs empty) (append-nil (frames ++ frame ∷ []));
      leads = λ all. leads;
      members = members;
    }
fold_more limits frames frame st next whole false is so_far taken ended members =
    let leads = so_far.leads is in
    let ends = ended refl in
    record {
      found = leads_then limits frames (frame ∷ []) empty st leads ∙ ends.ends [] ∙ sym ends.same;
      whole_is = sym (stops_whole limits frame [] st ends.never) ∙ sym (whole_then limits frames (frame ∷ []) empty st leads);
      leads = λ all. absurd cc;
      members = members;
    }

-- what comes behind a list that ended early changes nothing
pub fold_past : (limits : Limits) (frames : List Frame) (frame : Frame) (st : StateOf Entry) (whole : Bool) → whole ≡ false
    → IsFold limits frames st whole → IsFold limits (frames ++ frame ∷ []) st whole
fold_past limits frames frame st whole is so_far =
    let more = stopped_more limits frames (frame ∷ []) empty (sym so_far.whole_is ∙ is) in
    record { found = more.0 ∙ so_far.found; whole_is = is ∙ sym more.1; leads = λ all. absurd (differ (sym is ∙ all)); members = so_far.members }
  where
    differ : false ≡ true → ⊥
    differ e = cc
