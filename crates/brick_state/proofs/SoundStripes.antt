-- A stripe stays sound through each change that can be.
use Rattle.std.proofs.Common.{◌≡◌, suc, ◌-◌, ◌<◌, Bool, true, false, cond, eqb, Option, Some, List, [], ◌∷◌, ◌++◌, length, refl, sym, ap, subst, ◌∙◌, arith}
use Rattle.std.specs.declared.cmp.Ordering.{Ordering}
use Rattle.std.specs.declared.cmp.Ordering.TheVariants.{Less, Equal, Greater}
use Rattle.std.specs.Ordering.{is_eq}
use Rattle.std.specs.List.{AllByRecursion}
use Rattle.std.specs.Map.{lookup}
use Rattle.std.specs.BTreeMap.{is_at}
use Rattle.std.specs.Option.{unwrap_or}
use Rattle.std.proofs.lemmas.List.{length-append}
use Rattle.std.proofs.lemmas.Option.{none-some}
use Rattle.fab_base.specs.declared.stamps.Stamp.{Stamp}
use Rattle.fab_base.specs.Stamps.{first_stamp}
use Rattle.brick_state.specs.Entries.{Entry}
use Rattle.brick_state.specs.States.{Place, StripeOf, place_cmp, first_stripe, is_first, stripe_in, last, newest_entry, with_order, with_added, with_bottom}
use Rattle.version_log.specs.Versions.{IsNewer}
use Rattle.brick_state.specs.Folds.{Limits, is_slot, is_above}
use Rattle.brick_state.specs.Rewrites.{start_of}
use Rattle.brick_state.specs.KeptStates.{IsAbove, Rises, IsKeptStripe}
use Rattle.brick_state.proofs.StripeMaps.{place_exact}

-- what holds of a stripe, listed or not
pub record IsSound (limits : Limits) (p : Place) (s : StripeOf Entry) : Type 0 where
  pub start : s.from_start ≡ true → eqb p.1 1 ≡ true
  pub no_start : s.from_start ≡ false → s.added ≡ [] → eqb p.1 1 ≡ false
  pub rises : Rises limits (start_of s.from_start) s.added

pub kept_from_sound : (limits : Limits) (p : Place) (s : StripeOf Entry) → p.0 < 64 → IsSound limits p s → is_first p s ≡ false
    → IsKeptStripe limits p s
kept_from_sound limits p s group sound changed = record { group = group; changed = changed; start = sound.start; no_start = sound.no_start; rises = sound.rises }

sound_from_kept : (limits : Limits) (p : Place) (s : StripeOf Entry) → IsKeptStripe limits p s → IsSound limits p s
sound_from_kept limits p s kept = record { start = kept.start; no_start = kept.no_start; rises = kept.rises }

rises_nothing : (limits : Limits) (under : Option Entry) → Rises limits under []
rises_nothing limits under = tt

-- the stripe at a place is sound
pub sound_at : (limits : Limits) (p : Place) (stripes : List (Place × StripeOf Entry)) → AllByRecursion (λ e. IsKeptStripe limits e.0 e.1) stripes
    → IsSound limits p (stripe_in stripes p)
sound_at limits p [] all = record { start = λ h. h; no_start = λ h none. h; rises = rises_nothing limits (start_of (eqb p.1 1)) }
sound_at limits p (e ∷ stripes) all = by (place_cmp p e.0) refl (sound_at limits p stripes all.1)
  where
    by : (r : Ordering) → place_cmp p e.0 ≡ r → IsSound limits p (stripe_in stripes p)
        → IsSound limits p (unwrap_or (cond (is_eq r) (Some e.1) (lookup (is_at (place_cmp p)) stripes)) (first_stripe p))
    by Less at rest = rest
    by Greater at rest = rest
    by Equal at rest = subst (λ (q : Place). IsSound limits q e.1) (sym (place_exact p e.0 at)) (sound_from_kept limits e.0 e.1 all.0)

-- the newest of versions over one that is below them
abbrev pub newest_of : Option Entry → List Entry → Option Entry
newest_of under [] = under
newest_of under (e ∷ entries) = newest_of (Some e) entries

rises_push : (limits : Limits) (under : Option Entry) (entries : List Entry) (e : Entry) → Rises limits under entries
    → IsAbove (newest_of under entries) e → is_slot limits e.block ≡ true → Rises limits under (entries ++ e ∷ [])
rises_push limits under [] e rises above slot = (above, (slot, tt))
rises_push limits under (x ∷ entries) e rises above slot = (rises.0, (rises.1.0, rises_push limits (Some x) entries e rises.1.1 above slot))

last_cons : (x y : Entry) (ys : List Entry) → last (x ∷ y ∷ ys) ≡ last (y ∷ ys)
last_cons x y ys = let at : length (x ∷ y ∷ ys) - 1 ≡ suc (length (y ∷ ys) - 1) = omega arith in rw at refl

newest_is : (x : Entry) (entries : List Entry) → last (x ∷ entries) ≡ newest_of (Some x) entries
newest_is x [] = refl
newest_is x (y ∷ entries) = last_cons x y entries ∙ newest_is y entries

pub newest_entry_is : (s : StripeOf Entry) → newest_entry s ≡ newest_of (start_of s.from_start) s.added
newest_entry_is s = by s.from_start s.added
  where
    by : (from : Bool) (added : List Entry) → last (cond from (record { stamp = first_stamp; block = 4294967295 } ∷ []) [] ++ added) ≡ newest_of
        (start_of from) added
    by true added = newest_is (record { stamp = first_stamp; block = 4294967295 }) added
    by false [] = refl
    by false (e ∷ added) = newest_is e added

-- a stamp above the newest version is above those that were added
pub newer_than_added : (s : StripeOf Entry) (t : Stamp) → is_above (newest_entry s) t ≡ true → IsNewer t s.added
newer_than_added s t above = by (start_of s.from_start) s.added (subst (λ (o : Option Entry). is_above o t ≡ true) (newest_entry_is s) above)
  where
    by : (under : Option Entry) (added : List Entry) → is_above (newest_of under added) t ≡ true → IsNewer t added
    by under [] h = λ top found. absurd (none-some top found)
    by under (e ∷ added) h = λ top found. subst (λ (o : Option Entry). is_above o t ≡ true) (sym (newest_is e added) ∙ found) h

-- the slot of the newest version is one of the store's
pub newest_slot : (limits : Limits) (under : Option Entry) (entries : List Entry) (u : Entry)
    → ((v : Entry) → under ≡ Some v → is_slot limits v.block ≡ true) → Rises limits under entries → newest_of under entries ≡ Some u
    → is_slot limits u.block ≡ true
newest_slot limits under [] u below rises is = below u is
newest_slot limits under (e ∷ entries) u below rises is =
    newest_slot limits (Some e) entries u (λ v same. subst (λ (x : Entry). is_slot limits x.block ≡ true) (some_same same) rises.1.0) rises.1.1 is
  where
    some_same : {a b : Entry} → Some a ≡ Some b → a ≡ b
    some_same h = cc

pub start_slot : (limits : Limits) (from : Bool) (v : Entry) → start_of from ≡ Some v → is_slot limits v.block ≡ true
start_slot limits true v same = subst (λ (x : Entry). is_slot limits x.block ≡ true) (some_same same) refl
  where
    some_same : {a b : Entry} → Some a ≡ Some b → a ≡ b
    some_same h = cc
start_slot limits false v same = absurd cc

-- a version above the newest, in a slot of the store
pub added_sound : (limits : Limits) (p : Place) (s : StripeOf Entry) (e : Entry) → IsSound limits p s → IsAbove (newest_entry s) e
    → is_slot limits e.block ≡ true → IsSound limits p (with_added e s)
added_sound limits p s e sound above slot = record {
  start = sound.start;
  no_start = λ from none. absurd (not_nothing s.added e none);
  rises = rises_push limits (start_of s.from_start) s.added e sound.rises (subst (λ (o : Option Entry). IsAbove o e) (newest_entry_is s) above) slot;
}
  where
    not_nothing : (xs : List Entry) (x : Entry) → xs ++ x ∷ [] ≡ [] → ⊥
    not_nothing xs x h = let n : length (xs ++ x ∷ []) ≡ 0 = ap length h in omega (arith, length-append xs (x ∷ []))

pub bottom_sound : (limits : Limits) (p : Place) (s : StripeOf Entry) (e : Entry) → is_slot limits e.block ≡ true → IsSound limits p (with_bottom e s)
bottom_sound limits p s e slot = record { start = λ h. absurd cc; no_start = λ from none. absurd cc; rises = (tt, (slot, tt)) }

pub order_sound : (limits : Limits) (p : Place) (t : Stamp) (s : StripeOf Entry) → IsSound limits p s → IsSound limits p (with_order t s)
order_sound limits p t s sound = record { start = sound.start; no_start = sound.no_start; rises = sound.rises }
