-- A version more in a log: the record that adds it, and the slot and the block that it has.
use Rattle.std.proofs.Common.{◌≡◌, ℕ, ◌-◌, ◌<◌, ltb, eqb, ◌||◌, Bool, true, false, cond, Option, Some, None, List, [], ◌∷◌, ◌++◌, length, map, refl, sym, ap, subst, ◌∙◌}
use Rattle.std.specs.Prelude.{replicate}
use Rattle.std.specs.Option.{IsSome, ForSome, unwrap_or, option_map}
use Rattle.std.specs.Bool.{IsTrue}
use Rattle.std.specs.List.{AllByRecursion, slice_get}
use Rattle.std.proofs.lemmas.Bool.{lt-ltb}
use Rattle.std.proofs.lemmas.List.{length-map}
use Rattle.std.proofs.lemmas.Option.{slice_get-map}
use Rattle.fab_base.specs.declared.stamps.Stamp.{Stamp}
use Rattle.fab_base.specs.declared.identities.GroupId.{GroupId}
use Rattle.fab_base.specs.declared.identities.ViewNo.{ViewNo}
use Rattle.fab_base.specs.declared.identities.StripeNo.{StripeNo}
use Rattle.fab_base.specs.Stamps.{stamp_below, first_stamp}
use Rattle.stamp_store.specs.declared.log_records.LogChange.TheVariants.{Same, Slot}
use Rattle.version_log.specs.Versions.{Version, version, newest, block_of}
use Rattle.brick_state.specs.declared.records.Record.TheVariants as forms
use Rattle.brick_state.specs.Entries.{Entry}
use Rattle.brick_state.specs.States.{Place, StripeOf, StateOf, stripe_at, with_added, added, newest_entry, last}
use Rattle.brick_state.specs.Folds.{Limits, applied, log_changed, same_added, place, placed, entry, is_full, is_above}
use Rattle.brick_state.specs.Rewrites.{start_of}
use Rattle.brick_state.proofs.SoundStripes.{newest_of, newest_entry_is}
use Rattle.brick_store.specs.BlockTables.{SlotBlocks}
use Rattle.brick_store.specs.Blocks.{resolved, resolved_stripe, log_of, log_at, cached, block_added, with_version, IsNext}
use Rattle.brick_store.specs.Bricks.{Brick}
use Rattle.frame_store.specs.Stores.{Held}
use Rattle.brick_store.proofs.Changing.{brick_of}
use Rattle.brick_store.specs.Standing.{AllSlots}
use Rattle.brick_store.proofs.Changed.{slots_put, slots_at}
use Rattle.brick_store.proofs.Resolving.{version_of, stripe_at-resolved, added-resolved}

some_same : {X : Type 0} {a b : X} → Some a ≡ Some b → a ≡ b
some_same h = cc

-- ---- the newest version

newest_some : (x : Entry) (entries : List Entry) → (u : Entry) × (newest_of (Some x) entries ≡ Some u)
newest_some x [] = (x, refl)
newest_some x (e ∷ entries) = newest_some e entries

newest_all : (P : ℕ → Type 0) (under : Option Entry) (entries : List Entry) (u : Entry) → ((v : Entry) → under ≡ Some v → P v.block)
    → AllByRecursion (λ v. P v.block) entries → newest_of under entries ≡ Some u → P u.block
newest_all P under [] u below all is = below u is
newest_all P under (e ∷ entries) u below all is = newest_all P (Some e) entries u
    (λ v same. subst (λ (x : Entry). P x.block) (some_same same) all.0) all.1 is

start_all : (P : ℕ → Type 0) → P 4294967295 → (from : Bool) (v : Entry) → start_of from ≡ Some v → P v.block
start_all P zero true v same = subst (λ (x : Entry). P x.block) (some_same same) zero
start_all P zero false v same = absurd cc

-- the slots of the state with a version more, in the slot of the newest one or in this one
pub slots_added : (P : ℕ → Type 0) (p : Place) (t : Stamp) (slot : ℕ) (st : StateOf Entry) → P slot → AllSlots P st
    → AllSlots P (added p (entry t slot) st)
slots_added P p t slot st here all = slots_put P p (with_added (entry t slot) (stripe_at st p)) st
    (push (stripe_at st p).added (slots_at P p st.stripes all)) all
  where
    push : (entries : List Entry) → AllByRecursion (λ v. P v.block) entries → AllByRecursion (λ v. P v.block) (entries ++ entry t slot ∷ [])
    push [] h = (here, tt)
    push (e ∷ entries) h = (h.0, push entries h.1)

pub slots_same : (P : ℕ → Type 0) (p : Place) (t : Stamp) (u : Entry) (st : StateOf Entry) → newest_entry (stripe_at st p) ≡ Some u → P 4294967295
    → AllSlots P st → AllSlots P (added p (entry t u.block) st)
slots_same P p t u st is zero all =
    let s = stripe_at st p in
    slots_added P p t u.block st (newest_all P (start_of s.from_start) s.added u (start_all P zero s.from_start) (slots_at P p st.stripes all)
    (sym (newest_entry_is s) ∙ is)) all

-- the newest version of a log is that of the newest entry
last_map : (f : Entry → Version) (xs : List Entry) → slice_get (map f xs) (length (map f xs) - 1) ≡ option_map f (slice_get xs (length xs - 1))
last_map f xs = ap (λ (n : ℕ). slice_get (map f xs) (n - 1)) (length-map xs f) ∙ slice_get-map f xs (length xs - 1)

pub newest_seen : (size : ℕ) (blocks : SlotBlocks) (s : StripeOf Entry)
    → newest (log_of size (resolved_stripe (cached size blocks) s)) ≡ option_map (version_of (cached size blocks)) (newest_entry s)
newest_seen size blocks s = by s.from_start
  where
    f : Entry → Version
    f = version_of (cached size blocks)

    by : (from : Bool) → newest (cond from (version first_stamp (replicate size 0) ∷ []) [] ++ map f s.added) ≡ option_map f
        (last (cond from (record { stamp = first_stamp; block = 4294967295 } ∷ []) [] ++ s.added))
    by true = last_map f (record { stamp = first_stamp; block = 4294967295 } ∷ s.added)
    by false = last_map f s.added

-- a stamp that may be the next one is above the newest entry's; without a block of its own there is one
pub above_of : (size : ℕ) (blocks : SlotBlocks) (s : StripeOf Entry) (t : Stamp) (block : Option (List ℕ))
    → IsNext t (log_of size (resolved_stripe (cached size blocks) s)) block → is_above (newest_entry s) t ≡ true
above_of size blocks s t block next = by (newest_entry s) (subst (λ (o : Option Version). ForSome o (λ top. IsTrue (stamp_below top.stamp t)))
    (newest_seen size blocks s) next.above)
  where
    by : (o : Option Entry) → ForSome (option_map (version_of (cached size blocks)) o) (λ top. IsTrue (stamp_below top.stamp t)) → is_above o t ≡ true
    by None h = refl
    by (Some u) h = h (version_of (cached size blocks) u) refl

abbrev no_block : Option (List ℕ)
no_block = None

pub some_newest : (size : ℕ) (blocks : SlotBlocks) (s : StripeOf Entry) (t : Stamp)
    → IsNext t (log_of size (resolved_stripe (cached size blocks) s)) None → (u : Entry) × (newest_entry s ≡ Some u)
some_newest size blocks s t next =
    let found = by s.from_start s.added next.content in
    (found.0, newest_entry_is s ∙ found.1)
  where
    f : Entry → Version
    f = version_of (cached size blocks)

    by : (from : Bool) (entries : List Entry) → (cond from (version first_stamp (replicate size 0) ∷ []) [] ++ map f entries ≡ [] → IsSome no_block)
        → (u : Entry) × (newest_of (start_of from) entries ≡ Some u)
    by true entries content = newest_some (record { stamp = first_stamp; block = 4294967295 }) entries
    by false [] content = absurd (nothing (content refl))
      where
        nothing : IsSome no_block → ⊥
        nothing h = cc
    by false (e ∷ entries) content = newest_some e entries

-- and the block that is added is the newest version's
pub same_block : (size : ℕ) (blocks : SlotBlocks) (s : StripeOf Entry) (u : Entry) → newest_entry s ≡ Some u
    → cached size blocks u.block ≡ block_added None (log_of size (resolved_stripe (cached size blocks) s))
same_block size blocks s u is = sym (ap (λ (o : Option Version). unwrap_or (option_map block_of o) [])
    (newest_seen size blocks s ∙ ap (option_map (version_of (cached size blocks))) is))

-- ---- what a clause sees

-- a stamp that may be the next one in what a clause sees may be it in the index
pub next_seen : {D : Type 0} (blocks : SlotBlocks) (frames : Held D) (st : StateOf Entry) (p : Place) (t : Stamp) (block : Option (List ℕ))
    (b : Brick D) → brick_of blocks frames st ≡ b
    → IsNext t (log_at b.shape.block b.state p) block
    → IsNext t (log_of frames.shape.block (resolved_stripe (cached frames.shape.block blocks) (stripe_at st p))) block
next_seen {D} blocks frames st p t block b view next =
    subst (λ (s : StripeOf Version). IsNext t (log_of frames.shape.block s) block) (stripe_at-resolved (cached frames.shape.block blocks) st p)
    (subst (λ (x : Brick D). IsNext t (log_at x.shape.block x.state p) block) (sym view) next)

-- the state with the version, where the block that is added lies in the slot
pub with_version_seen : {D : Type 0} (blocks : SlotBlocks) (frames : Held D) (st : StateOf Entry) (p : Place) (t : Stamp)
    (block : Option (List ℕ)) (slot : ℕ) (b : Brick D) → brick_of blocks frames st ≡ b
    → cached frames.shape.block blocks slot ≡ block_added block
    (log_of frames.shape.block (resolved_stripe (cached frames.shape.block blocks) (stripe_at st p)))
    → resolved (cached frames.shape.block blocks) (added p (entry t slot) st) ≡ with_version b.shape.block p t block
    (resolved (cached frames.shape.block blocks) st)
with_version_seen {D} blocks frames st p t block slot b view is =
    let held = cached frames.shape.block blocks in
    added-resolved held p (entry t slot) st
    ∙ ap (λ (bytes : List ℕ). added p (version t bytes) (resolved held st))
    (is ∙ ap (λ (s : StripeOf Version). block_added block (log_of frames.shape.block s)) (sym (stripe_at-resolved held st p)))
    ∙ ap (λ (x : Brick D). with_version x.shape.block p t block (resolved held st)) view

-- ---- records that can be

pub slot_applied : (limits : Limits) (g : GroupId) (v : ViewNo) (s : StripeNo) (t : Stamp) (slot : ℕ) (st : StateOf Entry) → g.0 < 64
    → is_full limits st ≡ false → slot < limits.slots
    → is_above (newest_entry (stripe_at st (place g v s))) t ≡ true
    → applied limits (forms.Logged (record { group = g; view = v; stripe = s; stamp = t; change = Slot false slot })) st ≡ Some
    (added (place g v s) (entry t slot) st)
unfolding applied log_changed
slot_applied limits g v s t slot st group free within above =
    rw (lt-ltb g.0 64 group) (rw (in_store (eqb slot 4294967295)) (rw free (rw above refl)))
  where
    in_store : (b : Bool) → (b || ltb slot limits.slots) ≡ true
    in_store true = refl
    in_store false = lt-ltb slot limits.slots within

pub same_applied : (limits : Limits) (g : GroupId) (v : ViewNo) (s : StripeNo) (t : Stamp) (u : Entry) (st : StateOf Entry) → g.0 < 64
    → is_full limits st ≡ false
    → newest_entry (stripe_at st (place g v s)) ≡ Some u → is_above (newest_entry (stripe_at st (place g v s))) t ≡ true
    → applied limits (forms.Logged (record { group = g; view = v; stripe = s; stamp = t; change = Same })) st ≡ Some
    (added (place g v s) (entry t u.block) st)
unfolding applied log_changed
same_applied limits g v s t u st group free is above =
    let below : stamp_below u.stamp t ≡ true = subst (λ (o : Option Entry). is_above o t ≡ true) is above in
    rw (lt-ltb g.0 64 group) (rw free (ap (λ (o : Option Entry). placed (place g v s) st (same_added o t (stripe_at st (place g v s)))) is
    ∙ rw below refl))
