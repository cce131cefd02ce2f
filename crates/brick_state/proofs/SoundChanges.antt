-- A stripe stays sound through each change of its log that can be, and grows by one live record at most.
use Rattle.std.proofs.Common.{◌≡◌, ℕ, ◌+◌, ◌≤◌, Bool, true, false, not, ◌&&◌, ◌||◌, cond, eqb, Option, Some, None, List, [], ◌∷◌, length, refl, sym, subst, ◌∙◌, arith}
use Rattle.std.specs.List.{filter, list_any}
use Rattle.std.proofs.lemmas.List.{length-append}
use Rattle.std.proofs.lemmas.Bool.{and_parts}
use Rattle.fab_base.specs.declared.stamps.Stamp.{Stamp}
use Rattle.fab_base.specs.Stamps.{stamp_below, stamp_same, first_stamp}
use Rattle.fab_base.proofs.StampOrder.{stamp_below_trans, stamp_below_irrefl, stamp_same_true}
use Rattle.stamp_store.specs.declared.log_records.LogChange.{LogChange}
use Rattle.stamp_store.specs.declared.log_records.LogChange.TheVariants.{Same, Collect, Slot}
use Rattle.brick_state.specs.Entries.{Entry}
use Rattle.brick_state.specs.States.{Place, StripeOf, newest_entry, has_version, stamp_of, weight, with_added, with_bottom, with_collected}
use Rattle.brick_state.specs.Folds.{Limits, log_changed, same_added, is_above, is_slot, entry}
use Rattle.brick_state.specs.Rewrites.{start_of}
use Rattle.brick_state.specs.KeptStates.{IsAbove, Rises}
use Rattle.brick_state.proofs.SoundStripes.{IsSound, newest_entry_is, newest_slot, start_slot, added_sound, bottom_sound}

-- ---- versions of which some are left out

-- what lies above one version lies above all below it
rises_under : (limits : Limits) (under lower : Option Entry) (entries : List Entry) → ((e : Entry) → IsAbove under e → IsAbove lower e)
    → Rises limits under entries → Rises limits lower entries
rises_under limits under lower [] above rises = tt
rises_under limits under lower (e ∷ entries) above rises = (above e rises.0, rises.1)

above_trans : (under : Option Entry) (x e : Entry) → IsAbove under x → stamp_below x.stamp e.stamp ≡ true → IsAbove under e
above_trans None x e above more = tt
above_trans (Some u) x e above more = stamp_below_trans u.stamp x.stamp e.stamp above more

rises_filter : (limits : Limits) (keep : Entry → Bool) (under : Option Entry) (entries : List Entry) → Rises limits under entries
    → Rises limits under (filter keep entries)
rises_filter limits keep under [] rises = tt
rises_filter limits keep under (e ∷ entries) rises = by (keep e) (rises_filter limits keep (Some e) entries rises.1.1)
  where
    by : (b : Bool) → Rises limits (Some e) (filter keep entries) → Rises limits under (cond b (e ∷ filter keep entries) (filter keep entries))
    by true rest = (rises.0, (rises.1.0, rest))
    by false rest = rises_under limits (Some e) under (filter keep entries) (λ x more. above_trans under e x rises.0 more) rest

-- the version from the start, where it is dropped
rises_start : (limits : Limits) (from stays : Bool) (entries : List Entry) → Rises limits (start_of from) entries
    → Rises limits (start_of (from && stays)) entries
rises_start limits true true entries rises = rises
rises_start limits true false entries rises = rises_under limits (start_of true) None entries (λ e above. tt) rises
rises_start limits false stays entries rises = rises

-- a version of the stamp stays
held_stays : (t : Stamp) (entries : List Entry) → list_any (λ e. stamp_same e.stamp t) entries ≡ true
    → filter (λ e. not (stamp_below (stamp_of e) t)) entries ≡ [] → ⊥
held_stays t [] held none = cc
held_stays t (e ∷ entries) held none = by (stamp_same e.stamp t) (stamp_below e.stamp t) refl refl held none (held_stays t entries)
  where
    by : (same below : Bool) → stamp_same e.stamp t ≡ same → stamp_below e.stamp t ≡ below
        → (same || list_any (λ x. stamp_same x.stamp t) entries) ≡ true
        → cond (not below) (e ∷ filter (λ x. not (stamp_below (stamp_of x) t)) entries) (filter (λ x. not (stamp_below (stamp_of x) t)) entries) ≡ []
        → (list_any (λ x. stamp_same x.stamp t) entries ≡ true → filter (λ x. not (stamp_below (stamp_of x) t)) entries ≡ [] → ⊥) → ⊥
    by true true same below any out ih =
        let it : e.stamp ≡ t = stamp_same_true e.stamp t same in
        let itself : stamp_below t t ≡ true = subst (λ (x : Stamp). stamp_below x t ≡ true) it below in
        let never : stamp_below t t ≡ false = stamp_below_irrefl t in
        cc
    by false true same below any out ih = ih any out
    by b false same below any out ih = cc

collected_sound : (limits : Limits) (p : Place) (t : Stamp) (s : StripeOf Entry) → IsSound limits p s → has_version t s ≡ true
    → IsSound limits p (with_collected stamp_of t s)
collected_sound limits p t s sound held = record {
  start = λ h. sound.start ((and_parts s.from_start (not (stamp_below first_stamp t)) h).0);
  no_start = λ from none. nothing s.from_start refl from none;
  rises = rises_start limits s.from_start (not (stamp_below first_stamp t)) (filter (λ e. not (stamp_below (stamp_of e) t)) s.added)
      (rises_filter limits (λ e. not (stamp_below (stamp_of e) t)) (start_of s.from_start) s.added sound.rises);
}
  where
    in_added : (from below : Bool) → s.from_start ≡ from → stamp_below first_stamp t ≡ below → (from && not below) ≡ false
        → list_any (λ e. stamp_same e.stamp t) s.added ≡ true
    in_added false below is at out = subst (λ (b : Bool).
        ((b && stamp_same first_stamp t) || list_any (λ e. stamp_same e.stamp t) s.added) ≡ true) is held
    in_added true false is at out = absurd cc
    in_added true true is at out = by (stamp_same first_stamp t) refl
        (subst (λ (b : Bool). ((b && stamp_same first_stamp t) || list_any (λ e. stamp_same e.stamp t) s.added) ≡ true) is held)
      where
        by : (same : Bool) → stamp_same first_stamp t ≡ same → (same || list_any (λ e. stamp_same e.stamp t) s.added) ≡ true
            → list_any (λ e. stamp_same e.stamp t) s.added ≡ true
        by true same any =
            let itself : stamp_below t t ≡ true = subst (λ (x : Stamp). stamp_below x t ≡ true) (stamp_same_true first_stamp t same) at in
            let never : stamp_below t t ≡ false = stamp_below_irrefl t in
            absurd cc
        by false same any = any

    nothing : (from : Bool) → s.from_start ≡ from → (s.from_start && not (stamp_below first_stamp t)) ≡ false
        → filter (λ e. not (stamp_below (stamp_of e) t)) s.added ≡ [] → eqb p.1 1 ≡ false
    nothing from is out none =
        absurd (held_stays t s.added (in_added s.from_start (stamp_below first_stamp t) refl refl out) none)

-- no more are left
fewer : {X : Type 0} (keep : X → Bool) (xs : List X) → length (filter keep xs) ≤ length xs
fewer keep [] = omega arith
fewer {X} keep (x ∷ xs) = by (keep x) (fewer keep xs)
  where
    by : (b : Bool) → length (filter keep xs) ≤ length xs → length (cond b (x ∷ filter keep xs) (filter keep xs)) ≤ length (x ∷ xs)
    by true h = omega arith
    by false h = omega arith

-- ---- a change

some_same : {X : Type 0} {a b : X} → Some a ≡ Some b → a ≡ b
some_same h = cc

above_from : (newest : Option Entry) (e : Entry) → is_above newest e.stamp ≡ true → IsAbove newest e
above_from None e h = tt
above_from (Some u) e h = h

-- what a change of a log keeps, and by how much it grows
pub record Changed (limits : Limits) (full : Bool) (p : Place) (s next : StripeOf Entry) : Type 0 where
  pub sound : IsSound limits p next
  pub grows : weight next ≤ weight s + 1
  pub bounded : full ≡ true → weight next ≤ weight s

module _ (limits : Limits) (p : Place) (t : Stamp) (s : StripeOf Entry) (sound : IsSound limits p s) where
  more : (e : Entry) → weight (with_added e s) ≡ weight s + 1
  more e = omega (arith, length-append s.added (e ∷ []))

  same_changed : (newest : Option Entry) (next : StripeOf Entry) → newest_entry s ≡ newest → same_added newest t s ≡ Some next
      → Changed limits false p s next
  same_changed None next at h = absurd cc
  same_changed (Some u) next at h = by (stamp_below u.stamp t) refl h
    where
      by : (b : Bool) → stamp_below u.stamp t ≡ b → cond b (Some (with_added (entry t u.block) s)) None ≡ Some next → Changed limits false p s next
      by false below is = absurd cc
      by true below is =
          let e = entry t u.block in
          let slot : is_slot limits u.block ≡ true = newest_slot limits (start_of s.from_start) s.added u (start_slot limits s.from_start) sound.rises
          (sym (newest_entry_is s) ∙ at) in
          let made : Changed limits false p s (with_added e s) = record {
            sound = added_sound limits p s e sound (subst (λ (o : Option Entry). IsAbove o e) (sym at) below) slot;
            grows = omega (arith, more e);
            bounded = λ full. absurd cc;
          } in
          subst (λ (n : StripeOf Entry). Changed limits false p s n) (some_same is) made

  slot_changed : (full bottom : Bool) (slot : ℕ) (next : StripeOf Entry) → is_slot limits slot ≡ true
      → cond bottom (cond ((eqb (length s.added) 0) && full) None (Some (with_bottom (entry t slot) s)))
      (cond (full || not (is_above (newest_entry s) t)) None (Some (with_added (entry t slot) s))) ≡ Some next
      → Changed limits full p s next
  slot_changed full true slot next is_there is = by (eqb (length s.added) 0) full refl refl is
    where
      made : (some : Bool) → full ≡ some → (full ≡ true → 1 ≤ length s.added) → Changed limits full p s (with_bottom (entry t slot) s)
      made some at has = record {
        sound = bottom_sound limits p s (entry t slot) is_there;
        grows = omega arith;
        bounded = λ now. omega
            (arith, has now);
      }

      by : (none all : Bool) → eqb (length s.added) 0 ≡ none → full ≡ all → cond (none && all) None (Some (with_bottom (entry t slot) s)) ≡ Some next
          → Changed limits full p s next
      by true true at as_full is = absurd cc
      by true false at as_full is = subst (λ (n : StripeOf Entry). Changed limits full p s n) (some_same is) (made false as_full (λ now. absurd cc))
      by false all at as_full is = subst (λ (n : StripeOf Entry). Changed limits full p s n) (some_same is)
          (made all as_full (λ now. some_added s.added at))
        where
          some_added : (xs : List Entry) → eqb (length xs) 0 ≡ false → 1 ≤ length xs
          some_added [] h = absurd cc
          some_added (x ∷ xs) h = omega arith
  slot_changed full false slot next is_there is = by full (is_above (newest_entry s) t) refl refl is
    where
      by : (all above : Bool) → full ≡ all → is_above (newest_entry s) t ≡ above
          → cond (all || not above) None (Some (with_added (entry t slot) s)) ≡ Some next → Changed limits full p s next
      by true above at up is = absurd cc
      by false false at up is = absurd cc
      by false true at up is =
          let e = entry t slot in
          let made : Changed limits full p s (with_added e s) = record {
            sound = added_sound limits p s e sound (above_from (newest_entry s) e up) is_there;
            grows = omega (arith, more e);
            bounded = λ now. absurd cc;
          } in
          subst (λ (n : StripeOf Entry). Changed limits full p s n) (some_same is) made

  collect_changed : (full : Bool) (next : StripeOf Entry) → cond (has_version t s) (Some (with_collected stamp_of t s)) None ≡ Some next
      → Changed limits full p s next
  collect_changed full next is = by (has_version t s) refl is
    where
      by : (b : Bool) → has_version t s ≡ b → cond b (Some (with_collected stamp_of t s)) None ≡ Some next → Changed limits full p s next
      by false held is = absurd cc
      by true held is =
          let made : Changed limits full p s (with_collected stamp_of t s) = record {
            sound = collected_sound limits p t s sound held;
            grows = omega (arith, fewer (λ e. not (stamp_below (stamp_of e) t)) s.added);
            bounded = λ now. omega (arith, fewer (λ e. not (stamp_below (stamp_of e) t)) s.added);
          } in
          subst (λ (n : StripeOf Entry). Changed limits full p s n) (some_same is) made

  pub log_changed_keeps : (full : Bool) (change : LogChange) (next : StripeOf Entry) → log_changed limits full change t s ≡ Some next
      → Changed limits full p s next
  unfolding log_changed
  log_changed_keeps true Same next h = absurd cc
  log_changed_keeps false Same next h = same_changed (newest_entry s) next refl h
  log_changed_keeps full Collect next h = collect_changed full next h
  log_changed_keeps full (Slot bottom slot) next h = by (is_slot limits slot) refl h
    where
      by : (b : Bool) → is_slot limits slot ≡ b
          → cond b (cond bottom (cond ((eqb (length s.added) 0) && full) None (Some (with_bottom (entry t slot) s)))
          (cond (full || not (is_above (newest_entry s) t)) None (Some (with_added (entry t slot) s)))) None ≡ Some next
          → Changed limits full p s next
      by true there is = slot_changed full bottom slot next there is
      by false there is = absurd cc
