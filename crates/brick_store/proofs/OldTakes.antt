-- A frame of an old list is taken where it can be, and else the list ends before it.
use Rattle.std.proofs.Common.{◌≡◌, ◌≢◌, inl, inr, ℕ, ◌+◌, ◌<◌, Bool, true, false, not, ◌&&◌, ◌||◌, cond, eqb, ltb, leb, Option, Some, None, Result, Ok, Err, List, length, refl, sym, ap, subst, ◌∙◌, arith}
use Rattle.std.specs.Prelude.{take, drop}
use Rattle.std.specs.List.{AllByRecursion}
use Rattle.std.specs.Option.{option_map, option_and_then}
use Rattle.std.specs.Result.{IfOk}
use Rattle.std.proofs.lemmas.Option.{same_Some}
use Rattle.fab_base.specs.declared.faults.NoMem.{NoMem}
use Rattle.fab_base.specs.declared.stamps.Stamp.{Stamp}
use Rattle.fab_base.specs.Stamps.{stamp_below}
use Rattle.stamp_store.specs.declared.kept_records.Kept.TheVariants.{Boot, Ballots, Order}
use Rattle.stamp_store.specs.declared.kept_records.Kept.TheVariants as kinds
use Rattle.stamp_store.specs.declared.log_records.LogChange.{LogChange}
use Rattle.stamp_store.specs.declared.log_records.LogChange.TheVariants.{Same, Collect, Slot}
use Rattle.stamp_store.specs.declared.log_records.Logged.{Logged}
use Rattle.stamp_store.specs.LogSpelling.{logged_of}
use Rattle.version_log.specs.Versions.{Version}
use Rattle.frame_store.specs.declared.frames.Frame.{Frame}
use Rattle.brick_state.specs.declared.records.Record.{Record}
use Rattle.brick_state.specs.declared.records.Record.TheVariants as forms
use Rattle.brick_state.specs.Entries.{Entry}
use Rattle.brick_state.specs.States.{Place, StripeOf, StateOf, stripe_at, with_added, with_bottom, with_collected, stamp_of, ordered, booted, viewed, balloted, newest_entry, has_version}
use Rattle.brick_state.specs.Folds.{Limits, applied, log_changed, same_added, is_above, is_slot, placed, place, entry, is_full, adds_order, slot_named}
use Rattle.brick_state.specs.Indexes.{Answers}
use Rattle.brick_state.specs.KeptStates.{IsKeptState}
use Rattle.brick_state.proofs.Keeping.{applied_keeps}
use Rattle.brick_store.specs.BlockTables.{SlotBlocks, block_under}
use Rattle.brick_store.specs.Blocks.{cached, resolved}
use Rattle.brick_store.specs.Images.{record_of}
use Rattle.brick_store.specs.OldLists.{old_taken, old_block_of, record_put, version_put}
use Rattle.brick_store.specs.Openings.{OldAnswers, TakesOld, TakesOrEnds, memory_limits, taken_by}
use Rattle.brick_store.specs.Standing.{AllSlots, GroupHasMembers, IsCached}
use Rattle.brick_store.proofs.Adding.{SameUnder, cached_is, cached_same, slots_both}
use Rattle.brick_store.proofs.Resolving.{resolved_same, slots_imply}
use Rattle.brick_store.proofs.Changed.{slots_put, slots_ordered, slots_viewed, slots_collected}
use Rattle.brick_store.proofs.OldTaking.{record_seen, version_seen}
use Rattle.brick_store.proofs.Members.{applied_members}
use Rattle.brick_store.proofs.Versions.{slots_added, slots_same}

-- ---- slots

-- what is chosen has it where something is
chosen : (P : ℕ → Type 0) (c : Bool) (x next : StateOf Entry) → AllSlots P x → cond c (Some x) None ≡ Some next → AllSlots P next
chosen P true x next has is = subst (AllSlots P) (same_Some x next is) has
chosen P false x next has is = absurd cc

refused : (P : ℕ → Type 0) (c d : Bool) (x next : StateOf Entry) → AllSlots P x → cond c (cond d None (Some x)) None ≡ Some next → AllSlots P next
refused P true true x next has is = absurd cc
refused P true false x next has is = subst (AllSlots P) (same_Some x next is) has
refused P false d x next has is = absurd cc

-- A change of a log names no slot but those that were named, and the one that it names.
log_slots : (P : ℕ → Type 0) (limits : Limits) (full : Bool) (change : LogChange) (t : Stamp) (p : Place) (st next : StateOf Entry)
    → placed p st (log_changed limits full change t (stripe_at st p)) ≡ Some next → P 4294967295 → P (slot_named change) → AllSlots P st → AllSlots P next
unfolding log_changed
log_slots P limits full Same t p st next is zero_has here all = by full (newest_entry (stripe_at st p)) refl is
  where
    one : (b : Bool) (u : Entry) → newest_entry (stripe_at st p) ≡ Some u
        → placed p st (cond b (Some (with_added (entry t u.block) (stripe_at st p))) None) ≡ Some next → AllSlots P next
    one true u newest is = subst (AllSlots P) (same_Some _ next is) (slots_same P p t u st newest zero_has all)
    one false u newest is = absurd cc

    by : (f : Bool) (o : Option Entry) → newest_entry (stripe_at st p) ≡ o → placed p st (cond f None (same_added o t (stripe_at st p))) ≡ Some next
        → AllSlots P next
    by true o newest is = absurd cc
    by false None newest is = absurd cc
    by false (Some u) newest is = one (stamp_below u.stamp t) u newest is
log_slots P limits full Collect t p st next is zero_has here all = by (has_version t (stripe_at st p)) is
  where
    by : (b : Bool) → placed p st (cond b (Some (with_collected stamp_of t (stripe_at st p))) None) ≡ Some next → AllSlots P next
    by true is = subst (AllSlots P) (same_Some _ next is) (slots_collected P p t st all)
    by false is = absurd cc
log_slots P limits full (Slot bottom slot) t p st next is zero_has here all = by (is_slot limits slot) bottom is
  where
    s : StripeOf Entry
    s = stripe_at st p

    low : (b : Bool) → placed p st (cond b None (Some (with_bottom (entry t slot) s))) ≡ Some next → AllSlots P next
    low true is = absurd cc
    low false is = subst (AllSlots P) (same_Some _ next is) (slots_put P p (with_bottom (entry t slot) s) st (here, tt) all)

    high : (b : Bool) → placed p st (cond b None (Some (with_added (entry t slot) s))) ≡ Some next → AllSlots P next
    high true is = absurd cc
    high false is = subst (AllSlots P) (same_Some _ next is) (slots_added P p t slot st here all)

    by : (c b : Bool) → placed p st (cond c (cond b (cond (eqb (length s.added) 0 && full) None (Some (with_bottom (entry t slot) s)))
        (cond (full || not (is_above (newest_entry s) t)) None (Some (with_added (entry t slot) s)))) None) ≡ Some next → AllSlots P next
    by true true is = low (eqb (length s.added) 0 && full) is
    by true false is = high (full || not (is_above (newest_entry s) t)) is
    by false b is = absurd cc

-- And so does a record.
pub applied_slots : (P : ℕ → Type 0) (limits : Limits) (r : Record) (st next : StateOf Entry) → applied limits r st ≡ Some next → P 4294967295
    → ((l : Logged) → r ≡ forms.Logged l → P (slot_named l.change)) → AllSlots P st → AllSlots P next
unfolding applied
applied_slots P limits (forms.Kept (Boot count)) st next is zero_has here all = subst (AllSlots P) (same_Some (booted count st) next is) all
applied_slots P limits (forms.Kept (kinds.View g view synced)) st next is zero_has here all =
    chosen P (ltb g.0 64 && leb 2 view.number.0) (viewed g.0 view synced st) next (slots_viewed P g.0 view synced st all) is
applied_slots P limits (forms.Kept (Ballots g v promised accepted)) st next is zero_has here all =
    chosen P (ltb g.0 64) (balloted g.0 promised accepted st) next all is
applied_slots P limits (forms.Kept (Order g v n t)) st next is zero_has here all =
    let p = place g v n in
    refused P (ltb g.0 64) (adds_order t (stripe_at st p) && is_full limits st) (ordered p t st) next (slots_ordered P p t st all) is
applied_slots P limits (forms.Logged r) st next is zero_has here all = by (ltb r.group.0 64) is
  where
    by : (c : Bool) → cond c (placed (place r.group r.view r.stripe) st
        (log_changed limits (is_full limits st) r.change r.stamp (stripe_at st (place r.group r.view r.stripe)))) None ≡ Some next → AllSlots P next
    by true is = log_slots P limits (is_full limits st) r.change r.stamp (place r.group r.view r.stripe) st next is zero_has (here r refl) all
    by false is = absurd cc

-- ---- a frame that is no version

module _ (size records : ℕ) (blocks : SlotBlocks) where
  abbrev state : StateOf Entry → StateOf Version
  state = resolved (cached size blocks)

  -- it makes of the state with its blocks what it makes of the index
  other_seen : (frame : Frame) (st : StateOf Entry) → eqb frame.kind 5 ≡ false → eqb frame.kind 8 ≡ false
      → ((r : Record) → record_of frame ≡ Some r → (bottom : Bool) (slot : ℕ) (l : Logged) → r ≡ forms.Logged l → l.change ≢ Slot bottom slot)
      → old_taken size records frame (state st) ≡ option_map state (taken_by (memory_limits records) frame st)
  other_seen frame st no_version no_slot none = rw (no_version, no_slot) (by (record_of frame) refl)
    where
      by : (o : Option Record) → record_of frame ≡ o → option_and_then (λ r. record_put size records r (state st)) o
          ≡ option_map state (option_and_then (λ r. applied (memory_limits records) r st) o)
      by None is = refl
      by (Some r) is = record_seen size records blocks (memory_limits records) r st refl (none r is)

  -- so it is taken, or ends the list
  pub other_takes : (frame : Frame) (old new : StateOf Entry) (answer : Result Bool NoMem) → eqb frame.kind 5 ≡ false → eqb frame.kind 8 ≡ false
      → ((r : Record) → record_of frame ≡ Some r → (bottom : Bool) (slot : ℕ) (l : Logged) → r ≡ forms.Logged l → l.change ≢ Slot bottom slot)
      → TakesOrEnds (memory_limits records) frame old new answer → IsKeptState (memory_limits records) old → AllSlots (IsCached size blocks) old
      → IfOk answer (λ taken. TakesOld size records frame old new blocks blocks taken)
  other_takes frame old new (Err fault) no_version no_slot none takes kept held = tt
  other_takes frame old new (Ok true) no_version no_slot none takes kept held =
      let one = takes.taken refl in
      let is : old_taken size records frame (state old) ≡ Some (state new) =
      other_seen frame old no_version no_slot none
      ∙ ap (λ (o : Option Record). option_map state (option_and_then (λ r. applied (memory_limits records) r old) o)) one.is
      ∙ ap (λ (o : Option (StateOf Entry)). option_map state o) one.leads in
      record {
        answers = subst (λ (o : Option (StateOf Version)). OldAnswers (state old) (state new) o true) (sym is) (refl, refl);
        kept = applied_keeps (memory_limits records) one.read old new kept one.leads;
        held = applied_slots (IsCached size blocks) (memory_limits records) one.read old new one.leads (inl refl)
            (λ l same. named l.change (λ bottom slot. none one.read one.is bottom slot l same)) held;
        members = takes.members refl;
      }
    where
      named : (change : LogChange) → ((bottom : Bool) (slot : ℕ) → change ≢ Slot bottom slot) → IsCached size blocks (slot_named change)
      named Same never = inl refl
      named Collect never = inl refl
      named (Slot bottom slot) never = absurd (never bottom slot refl)
  other_takes frame old new (Ok false) no_version no_slot none takes kept held =
      let one = takes.ended refl in
      let is : old_taken size records frame (state old) ≡ None =
      other_seen frame old no_version no_slot none ∙ ap (λ (o : Option (StateOf Entry)). option_map state o) one.never in
      record {
        answers = subst (λ (o : Option (StateOf Version)). OldAnswers (state old) (state new) o false) (sym is) (refl, ap state one.same);
        kept = subst (IsKeptState (memory_limits records)) (sym one.same) kept;
        held = subst (AllSlots (IsCached size blocks)) (sym one.same) held;
        members = takes.members refl;
      }

  -- a frame that ends the list
  pub none_takes : (frame : Frame) (st : StateOf Entry) → old_taken size records frame (state st) ≡ None → IsKeptState (memory_limits records) st
      → AllSlots (IsCached size blocks) st → TakesOld size records frame st st blocks blocks false
  none_takes frame st is kept held = record {
    answers = subst (λ (o : Option (StateOf Version)). OldAnswers (state st) (state st) o false) (sym is) (refl, refl);
    kept = kept;
    held = held;
    members = λ all. all;
  }

-- ---- a version

-- its block is held in memory under a number that no version has
pub version_takes : (size records : ℕ) (blocks now : SlotBlocks) (frame : Frame) (r : Logged) (bottom : Bool) (bytes : List ℕ) (slot : ℕ)
    (old new : StateOf Entry) (answer : Result Bool NoMem) → records < 4294967295 → eqb frame.kind 5 ≡ true
    → logged_of 6 (take 30 frame.body) ≡ Some r → old_block_of size (drop 30 frame.body) ≡ Some (bottom, bytes) → length bytes ≡ size
    → slot < records + 1 → AllSlots (λ other. other ≢ slot) old → block_under now slot ≡ Some bytes → AllSlots (SameUnder blocks now) old
    → IfOk answer (λ taken. Answers new (applied (memory_limits records)
    (forms.Logged (record { group = r.group; view = r.view; stripe = r.stripe; stamp = r.stamp; change = Slot bottom slot })) old) taken)
    → (answer ≡ Ok false → new ≡ old) → IsKeptState (memory_limits records) old → AllSlots (IsCached size blocks) old
    → IfOk answer (λ taken. TakesOld size records frame old new blocks now taken)
version_takes size records blocks now frame r bottom bytes slot old new (Err fault) few version place told long within unnamed there same answers refused kept held = tt
version_takes size records blocks now frame r bottom bytes slot old new (Ok taken) few version place told long within unnamed there same answers refused kept held =
    by (applied limits item old) refl answers
  where
    limits : Limits
    limits = memory_limits records

    item : Record
    item = forms.Logged (record { group = r.group; view = r.view; stripe = r.stripe; stamp = r.stamp; change = Slot bottom slot })

    -- what was held before is held still
    before : resolved (cached size now) old ≡ resolved (cached size blocks) old
    before = resolved_same (cached size now) (cached size blocks) old
        (slots_imply (SameUnder blocks now) (λ other. cached size now other ≡ cached size blocks other) (cached_same size blocks now) old same)

    held_now : AllSlots (IsCached size now) old
    held_now = slots_imply (λ other. IsCached size blocks other × SameUnder blocks now other) (IsCached size now) (λ other at. still other at.0 at.1) old
        (slots_both (IsCached size blocks) (SameUnder blocks now) old held same)
      where
        still : (other : ℕ) → IsCached size blocks other → SameUnder blocks now other → IsCached size now other
        still other (inl zero_block) same = inl zero_block
        still other (inr some) same = inr (some.0, same ∙ some.1, some.2)

    is : old_taken size records frame (resolved (cached size blocks) old) ≡ option_map (resolved (cached size now)) (applied limits item old)
    is =
        ap (λ (s : StateOf Version). old_taken size records frame s) (sym before)
        ∙ rw version (ap (λ (o : Option Logged). option_and_then (λ p. option_and_then (λ block. version_put size records p block
        (resolved (cached size now) old)) (old_block_of size (drop 30 frame.body))) o) place
        ∙ ap (λ (o : Option (Bool × List ℕ)). option_and_then (λ block. version_put size records r block (resolved (cached size now) old)) o) told
        ∙ ap (λ (block : List ℕ). version_put size records r (bottom, block) (resolved (cached size now) old))
        (sym (cached_is size now slot bytes (omega (arith, within, few)) there))
        ∙ version_seen size records now limits r bottom slot old refl within)

    by : (o : Option (StateOf Entry)) → applied limits item old ≡ o → Answers new o taken → TakesOld size records frame old new blocks now taken
    by None at ended =
        let same_state : new ≡ old = refused (ap Ok ended) in
        let none : old_taken size records frame (resolved (cached size blocks) old) ≡ None =
        is ∙ ap (λ (o : Option (StateOf Entry)). option_map (resolved (cached size now)) o) at in
        record {
          answers = subst (λ (o : Option (StateOf Version)). OldAnswers (resolved (cached size blocks) old) (resolved (cached size now) new) o taken) (sym none)
              (ended, ap (resolved (cached size now)) same_state ∙ before);
          kept = subst (IsKeptState limits) (sym same_state) kept;
          held = subst (AllSlots (IsCached size now)) (sym same_state) held_now;
          members = λ all. subst (λ (s : StateOf Entry). AllByRecursion GroupHasMembers s.groups) (sym same_state) all;
        }
    by (Some next) at made =
        let to : applied limits item old ≡ Some new = at ∙ ap (λ (s : StateOf Entry). Some s) (sym made.1) in
        let some : old_taken size records frame (resolved (cached size blocks) old) ≡ Some (resolved (cached size now) new) =
        is ∙ ap (λ (o : Option (StateOf Entry)). option_map (resolved (cached size now)) o) to in
        record {
          answers = subst (λ (o : Option (StateOf Version)). OldAnswers (resolved (cached size blocks) old) (resolved (cached size now) new) o taken) (sym some)
              (made.0, refl);
          kept = applied_keeps limits item old new kept to;
          held = applied_slots (IsCached size now) limits item old new to (inl refl)
              (λ l same_item. subst (λ (x : LogChange). IsCached size now (slot_named x)) (change_same l same_item) (inr (bytes, there, long))) held_now;
          members = λ all. applied_members limits item old new tt to all;
        }
      where
        change_same : (l : Logged) → item ≡ forms.Logged l → Slot bottom slot ≡ l.change
        change_same l same_item = ap (λ (x : Record). change_in x) same_item
          where
            change_in : Record → LogChange
            change_in (forms.Logged x) = x.change
            change_in (forms.Kept x) = Same
