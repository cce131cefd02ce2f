-- What a record makes of the index is what it makes of the state with its blocks.
use Rattle.std.proofs.Common.{◌≡◌, ◌≢◌, ℕ, ◌<◌, Bool, true, false, not, ◌&&◌, ◌||◌, cond, eqb, ltb, leb, Option, Some, None, List, [], ◌∷◌, ◌++◌, length, map, refl, sym, ap, ◌∙◌}
use Rattle.std.specs.Prelude.{replicate}
use Rattle.std.specs.Option.{option_map}
use Rattle.std.specs.List.{list_any}
use Rattle.std.proofs.lemmas.Bool.{lt-ltb}
use Rattle.std.proofs.lemmas.List.{length-map}
use Rattle.fab_base.specs.declared.identities.GroupId.{GroupId}
use Rattle.fab_base.specs.declared.identities.StripeNo.{StripeNo}
use Rattle.fab_base.specs.declared.identities.ViewNo.{ViewNo}
use Rattle.fab_base.specs.declared.stamps.Stamp.{Stamp}
use Rattle.fab_base.specs.Stamps.{first_stamp, stamp_below, stamp_same}
use Rattle.stamp_store.specs.declared.kept_records.Kept.TheVariants.{Boot, Ballots, Order}
use Rattle.stamp_store.specs.declared.kept_records.Kept.TheVariants as kinds
use Rattle.stamp_store.specs.declared.log_records.LogChange.{LogChange}
use Rattle.stamp_store.specs.declared.log_records.LogChange.TheVariants.{Same, Collect, Slot}
use Rattle.stamp_store.specs.declared.log_records.Logged.{Logged}
use Rattle.version_log.specs.Versions.{Version, version, has_stamp}
use Rattle.brick_state.specs.declared.records.Record.{Record}
use Rattle.brick_state.specs.declared.records.Record.TheVariants as forms
use Rattle.brick_state.specs.Entries.{Entry}
use Rattle.brick_state.specs.States.{Place, StripeOf, StateOf, stripe_at, with_added, with_bottom, with_collected, stamp_of, ordered, viewed, balloted, live, newest_entry, has_version}
use Rattle.brick_state.specs.Folds.{Limits, applied, log_changed, same_added, is_above, placed, place, entry, is_full}
use Rattle.brick_store.specs.BlockTables.{SlotBlocks}
use Rattle.brick_store.specs.Blocks.{cached, log_of, resolved, resolved_stripe, version_stamp, adds_stamp}
use Rattle.brick_store.specs.OldLists.{at_place, block_put, has_most, is_above_newest, log_put, newest_again, record_put, version_put}
use Rattle.brick_store.proofs.Resolving.{version_of, with_stripe-resolved, with_added-resolved, with_collected-resolved, stripe_at-resolved, ordered-resolved, viewed-resolved, balloted-resolved, booted-resolved, live-resolved}
use Rattle.brick_store.proofs.Versions.{newest_seen}

-- a choice is mapped as what is chosen
map_cond : {A B : Type 0} (f : A → B) (c : Bool) (x y : Option A) → cond c (option_map f x) (option_map f y) ≡ option_map f (cond c x y)
map_cond f true x y = refl
map_cond f false x y = refl

any_map : {A B : Type 0} (f : A → B) (p : B → Bool) (xs : List A) → list_any p (map f xs) ≡ list_any (λ x. p (f x)) xs
any_map f p [] = refl
any_map f p (x ∷ xs) = ap (λ (b : Bool). p (f x) || b) (any_map f p xs)

module _ (size records : ℕ) (blocks : SlotBlocks) where
  abbrev seen : ℕ → List ℕ
  seen = cached size blocks

  abbrev stripe : StripeOf Entry → StripeOf Version
  stripe = resolved_stripe seen

  abbrev state : StateOf Entry → StateOf Version
  state = resolved seen

  -- ---- a stripe

  -- a version with the block of the newest one
  same_seen : (o : Option Entry) (t : Stamp) (s : StripeOf Entry) → newest_again (option_map (version_of seen) o) t (stripe s)
      ≡ option_map stripe (same_added o t s)
  same_seen None t s = refl
  same_seen (Some u) t s =
      ap (λ (x : StripeOf Version). cond (stamp_below u.stamp t) (Some x) None) (sym (with_added-resolved seen (entry t u.block) s))
      ∙ map_cond stripe (stamp_below u.stamp t) (Some (with_added (entry t u.block) s)) None

  above_seen : (o : Option Entry) (t : Stamp) → is_above_newest (option_map (version_of seen) o) t ≡ is_above o t
  above_seen None t = refl
  above_seen (Some u) t = refl

  -- a version of a stamp is in the log
  held_seen : (t : Stamp) (s : StripeOf Entry) → list_any (has_stamp t) (log_of size (stripe s)) ≡ has_version t s
  held_seen t s = by s.from_start
    where
      added : list_any (has_stamp t) (map (version_of seen) s.added) ≡ list_any (λ e. stamp_same e.stamp t) s.added
      added = any_map (version_of seen) (has_stamp t) s.added

      by : (from : Bool) → list_any (has_stamp t) (cond from (version first_stamp (replicate size 0) ∷ []) [] ++ map (version_of seen) s.added)
          ≡ ((from && stamp_same first_stamp t) || list_any (λ e. stamp_same e.stamp t) s.added)
      by true = ap (λ (b : Bool). stamp_same first_stamp t || b) added
      by false = added

  -- changes of a log that bring no block
  log_seen_same : (limits : Limits) (full : Bool) (t : Stamp) (s : StripeOf Entry)
      → log_put size full Same t (stripe s) ≡ option_map stripe (log_changed limits full Same t s)
  unfolding log_changed
  log_seen_same limits full t s =
      ap (λ (o : Option Version). cond full None (newest_again o t (stripe s))) (newest_seen size blocks s)
      ∙ ap (λ (o : Option (StripeOf Version)). cond full None o) (same_seen (newest_entry s) t s)
      ∙ map_cond stripe full None (same_added (newest_entry s) t s)

  log_seen_collect : (limits : Limits) (full : Bool) (t : Stamp) (s : StripeOf Entry)
      → log_put size full Collect t (stripe s) ≡ option_map stripe (log_changed limits full Collect t s)
  unfolding log_changed
  log_seen_collect limits full t s =
      ap (λ (b : Bool). cond b (Some (with_collected version_stamp t (stripe s))) None) (held_seen t s)
      ∙ ap (λ (x : StripeOf Version). cond (has_version t s) (Some x) None) (sym (with_collected-resolved seen t s))
      ∙ map_cond stripe (has_version t s) (Some (with_collected stamp_of t s)) None

  -- a version with a block of its own
  block_seen : (limits : Limits) (full bottom : Bool) (t : Stamp) (slot : ℕ) (s : StripeOf Entry) → slot < limits.slots
      → block_put size full bottom t (seen slot) (stripe s) ≡ option_map stripe (log_changed limits full (Slot bottom slot) t s)
  unfolding log_changed
  block_seen limits full bottom t slot s within = by bottom ∙ ap (λ (b : Bool). option_map stripe (cond b (chosen bottom) None)) (sym in_store)
    where
      chosen : Bool → Option (StripeOf Entry)
      chosen b = cond b (cond (eqb (length s.added) 0 && full) None (Some (with_bottom (entry t slot) s)))
          (cond (full || not (is_above (newest_entry s) t)) None (Some (with_added (entry t slot) s)))

      in_store : (eqb slot 4294967295 || ltb slot limits.slots) ≡ true
      in_store = or_true (eqb slot 4294967295) (lt-ltb slot limits.slots within)
        where
          or_true : (b : Bool) {c : Bool} → c ≡ true → (b || c) ≡ true
          or_true true is = refl
          or_true false is = is

      by : (b : Bool) → block_put size full b t (seen slot) (stripe s) ≡ option_map stripe (chosen b)
      by true =
          ap (λ (n : ℕ). cond (eqb n 0 && full) None (Some (with_bottom (version t (seen slot)) (stripe s)))) (length-map s.added (version_of seen))
          ∙ map_cond stripe (eqb (length s.added) 0 && full) None (Some (with_bottom (entry t slot) s))
      by false =
          ap (λ (o : Option Version). cond (full || not (is_above_newest o t)) None (Some (with_added (version t (seen slot)) (stripe s))))
          (newest_seen size blocks s)
          ∙ ap (λ (b : Bool). cond (full || not b) None (Some (with_added (version t (seen slot)) (stripe s)))) (above_seen (newest_entry s) t)
          ∙ ap (λ (x : StripeOf Version). cond (full || not (is_above (newest_entry s) t)) None (Some x)) (sym (with_added-resolved seen (entry t slot) s))
          ∙ map_cond stripe (full || not (is_above (newest_entry s) t)) None (Some (with_added (entry t slot) s))

  -- ---- a state

  placed_seen : (p : Place) (st : StateOf Entry) (o : Option (StripeOf Entry)) → at_place p (state st) (option_map stripe o) ≡ option_map state (placed p st o)
  placed_seen p st None = refl
  placed_seen p st (Some s) = ap (λ (x : StateOf Version). Some x) (sym (with_stripe-resolved seen p s st))

  most_seen : (limits : Limits) (st : StateOf Entry) → limits.records ≡ records → has_most records (state st) ≡ is_full limits st
  most_seen limits st is = ap (λ (n : ℕ). leb records n) (live-resolved seen st) ∙ ap (λ (n : ℕ). leb n (live st)) (sym is)

  -- a change of a log, by what it makes of the stripe
  logged_seen : (limits : Limits) (r : Logged) (st : StateOf Entry) (F : Bool → StripeOf Version → Option (StripeOf Version))
      → limits.records ≡ records
      → ((full : Bool) (s : StripeOf Entry) → F full (stripe s) ≡ option_map stripe (log_changed limits full r.change r.stamp s))
      → cond (ltb r.group.0 64) (at_place (place r.group r.view r.stripe) (state st)
      (F (has_most records (state st)) (stripe_at (state st) (place r.group r.view r.stripe)))) None
      ≡ option_map state (applied limits (forms.Logged r) st)
  unfolding applied
  logged_seen limits r st F is step =
      let p = place r.group r.view r.stripe in
      let s = stripe_at st p in
      let full = is_full limits st in
      ap (λ (b : Bool). cond (ltb r.group.0 64) (at_place p (state st) (F b (stripe_at (state st) p))) None) (most_seen limits st is)
      ∙ ap (λ (x : StripeOf Version). cond (ltb r.group.0 64) (at_place p (state st) (F full x)) None) (stripe_at-resolved seen st p)
      ∙ ap (λ (o : Option (StripeOf Version)). cond (ltb r.group.0 64) (at_place p (state st) o) None) (step full s)
      ∙ ap (λ (o : Option (StateOf Version)). cond (ltb r.group.0 64) o None) (placed_seen p st (log_changed limits full r.change r.stamp s))
      ∙ map_cond state (ltb r.group.0 64) (placed p st (log_changed limits full r.change r.stamp s)) None

  -- a version whose block is held in memory
  pub version_seen : (limits : Limits) (r : Logged) (bottom : Bool) (slot : ℕ) (st : StateOf Entry) → limits.records ≡ records → slot < limits.slots
      → version_put size records r (bottom, seen slot) (state st)
      ≡ option_map state (applied limits
      (forms.Logged (record { group = r.group; view = r.view; stripe = r.stripe; stamp = r.stamp; change = Slot bottom slot })) st)
  version_seen limits r bottom slot st is within =
      logged_seen limits (record { group = r.group; view = r.view; stripe = r.stripe; stamp = r.stamp; change = Slot bottom slot }) st
      (λ full s. block_put size full bottom r.stamp (seen slot) s) is (λ full s. block_seen limits full bottom r.stamp slot s within)

  -- an order stamp
  order_seen : (limits : Limits) (g : GroupId) (v : ViewNo) (n : StripeNo) (t : Stamp) (st : StateOf Entry) → limits.records ≡ records
      → record_put size records (forms.Kept (Order g v n t)) (state st) ≡ option_map state (applied limits (forms.Kept (Order g v n t)) st)
  unfolding applied record_put
  order_seen limits g v n t st is =
      let p = place g v n in
      let o = (stripe_at st p).order in
      let c = adds_stamp t o && is_full limits st in
      ap (λ (x : Stamp). cond (ltb g.0 64) (cond (adds_stamp t x && has_most records (state st)) None (Some (ordered p t (state st)))) None)
      (ap (λ (s : StripeOf Version). s.order) (stripe_at-resolved seen st p))
      ∙ ap (λ (b : Bool). cond (ltb g.0 64) (cond (adds_stamp t o && b) None (Some (ordered p t (state st)))) None) (most_seen limits st is)
      ∙ ap (λ (x : StateOf Version). cond (ltb g.0 64) (cond c None (Some x)) None) (sym (ordered-resolved seen p t st))
      ∙ ap (λ (x : Option (StateOf Version)). cond (ltb g.0 64) x None) (map_cond state c None (Some (ordered p t st)))
      ∙ map_cond state (ltb g.0 64) (cond c None (Some (ordered p t st))) None

  -- each record but a version with a slot
  pub record_seen : (limits : Limits) (r : Record) (st : StateOf Entry) → limits.records ≡ records
      → ((bottom : Bool) (slot : ℕ) (l : Logged) → r ≡ forms.Logged l → l.change ≢ Slot bottom slot)
      → record_put size records r (state st) ≡ option_map state (applied limits r st)
  unfolding applied record_put
  record_seen limits (forms.Kept (Boot count)) st is no_slot = ap (λ (x : StateOf Version). Some x) (sym (booted-resolved seen count st))
  record_seen limits (forms.Kept (kinds.View g view synced)) st is no_slot =
      let c = ltb g.0 64 && leb 2 view.number.0 in
      ap (λ (x : StateOf Version). cond c (Some x) None) (sym (viewed-resolved seen g.0 view synced st))
      ∙ map_cond state c (Some (viewed g.0 view synced st)) None
  record_seen limits (forms.Kept (Ballots g v promised accepted)) st is no_slot =
      ap (λ (x : StateOf Version). cond (ltb g.0 64) (Some x) None) (sym (balloted-resolved seen g.0 promised accepted st))
      ∙ map_cond state (ltb g.0 64) (Some (balloted g.0 promised accepted st)) None
  record_seen limits (forms.Kept (Order g v n t)) st is no_slot = order_seen limits g v n t st is
  record_seen limits (forms.Logged r) st is no_slot =
      logged_seen limits r st (λ full s. log_put size full r.change r.stamp s) is (by r.change (λ bottom slot. no_slot bottom slot r refl))
    where
      by : (change : LogChange) → ((bottom : Bool) (slot : ℕ) → change ≢ Slot bottom slot) → (full : Bool) (s : StripeOf Entry)
          → log_put size full change r.stamp (stripe s) ≡ option_map stripe (log_changed limits full change r.stamp s)
      by Same never full s = log_seen_same limits full r.stamp s
      by Collect never full s = log_seen_collect limits full r.stamp s
      by (Slot bottom slot) never full s = absurd (never bottom slot refl)
