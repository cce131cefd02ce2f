-- What is dropped of a log below a version that it has, and what is left.
use Rattle.std.proofs.Common.{◌≡◌, ◌≢◌, ℕ, ◌+◌, ◌-◌, ◌<◌, Bool, true, false, not, ◌&&◌, ◌||◌, cond, None, List, [], ◌∷◌, ◌++◌, length, map, refl, sym, ap, ◌∙◌, arith}
use Rattle.std.specs.Prelude.{replicate, is_some}
use Rattle.std.specs.List.{filter}
use Rattle.std.proofs.lemmas.List.{length-map}
use Rattle.std.proofs.lemmas.List.Elements.{filter-append}
use Rattle.std.proofs.lemmas.List.Filters.{length-filter_both}
use Rattle.fab_base.specs.declared.stamps.Stamp.{Stamp}
use Rattle.fab_base.specs.Stamps.{stamp_below, stamp_same, first_stamp}
use Rattle.fab_base.proofs.StampOrder.{stamp_same_true}
use Rattle.messages.specs.declared.requests.Version.{Version}
use Rattle.version_log.specs.Versions.{Version as Kept, version, newest, is_below}
use Rattle.version_log.specs.Versions.{below as found_below}
use Rattle.version_log.proofs.RisingLogs.{filter-map}
use Rattle.brick_state.specs.States.{StripeOf, with_collected}
use Rattle.brick_store.specs.Blocks.{log_of, version_stamp}
use Rattle.protocol.specs.Replicas.{Replica, Reaction, is_held, below, not_below, drops_start, ignored, collected}
use Rattle.replica.specs.Parts.{as_version, IsBegun}
use Rattle.replica.proofs.Logs.{newest_cons}

differ : {A : Type 0} → false ≡ true → A
differ h = absurd cc

-- ---- the reaction

-- the versions below one are dropped
abbrev pub dropped : Replica → Stamp → Reaction
dropped part t =
    record {
      replica = record part { log = not_below t part.log; from_start = part.from_start && not (stamp_below first_stamp t) };
      reply = None;
      adds = 0;
      drops = length (below t part.log) - cond (drops_start part t) 1 0;
    }

-- so it is where that one is held
pub collected_held : (part : Replica) (t : Stamp) → is_held t part.log ≡ true → collected part t ≡ dropped part t
collected_held part t held = ap (λ (b : Bool). cond b (dropped part t) (ignored part)) held

-- where it is not, nothing is
pub collected_other : (part : Replica) (t : Stamp) → is_held t part.log ≡ false → ignored part ≡ collected part t
collected_other part t other = sym (ap (λ (b : Bool). cond b (dropped part t) (ignored part)) other)

-- nothing is below a stamp, so all is left
all_left : (t : Stamp) (log : List Version) → below t log ≡ [] → not_below t log ≡ log
all_left t [] none = refl
all_left t (v ∷ log) none = by (stamp_below v.stamp t) none (all_left t log)
  where
    by : (b : Bool) → cond b (v ∷ below t log) (below t log) ≡ [] → (below t log ≡ [] → not_below t log ≡ log)
        → cond (not b) (v ∷ not_below t log) (not_below t log) ≡ v ∷ log
    by true some rest = absurd cc
    by false none' rest = ap (λ (vs : List Version). v ∷ vs) (rest none')

-- a version that is held is not below the stamp either
held_left : (t u : Stamp) (log : List Version) → below t log ≡ [] → is_held u log ≡ true → stamp_below u t ≡ false
held_left t u [] none held = differ held
held_left t u (v ∷ log) none held = by (stamp_below v.stamp t) refl (stamp_same v.stamp u) refl none held (held_left t u log)
  where
    by : (b : Bool) → stamp_below v.stamp t ≡ b → (same : Bool) → stamp_same v.stamp u ≡ same → cond b (v ∷ below t log) (below t log) ≡ []
        → (same || is_held u log) ≡ true → (below t log ≡ [] → is_held u log ≡ true → stamp_below u t ≡ false) → stamp_below u t ≡ false
    by true at same is some h rest = absurd cc
    by false at true is none' h rest = ap (λ (s : Stamp). stamp_below s t) (sym (stamp_same_true v.stamp u is)) ∙ at
    by false at false is none' h rest = rest none' h

-- so the first one stays where it is there
start_left : (t : Stamp) (from : Bool) (log : List Version) → IsBegun from log → below t log ≡ [] → (from && stamp_below first_stamp t) ≡ false
start_left t false log begun none = refl
start_left t true log begun none = held_left t first_stamp log none (begun refl)

-- and nothing is dropped
pub collected_lowest : (part : Replica) (t : Stamp) → IsBegun part.from_start part.log → below t part.log ≡ [] → ignored part ≡ collected part t
collected_lowest part t begun none = by (is_held t part.log)
  where
    left : List Version → List Version → Bool → Bool → Reaction
    left log gone from start =
        record { replica = record { order = part.order; log = log; from_start = from }; reply = None; adds = 0; drops = length gone - cond start 1 0 }

    same : (from b : Bool) → (from && b) ≡ false → (from && not b) ≡ from
    same false b h = refl
    same true b h = ap not h

    stays : (from : Bool) → (from && stamp_below first_stamp t) ≡ false → (from && not (stamp_below first_stamp t)) ≡ from
    stays from = same from (stamp_below first_stamp t)

    kept : drops_start part t ≡ false
    kept = start_left t part.from_start part.log begun none

    by : (b : Bool) → ignored part ≡ cond b (dropped part t) (ignored part)
    by false = refl
    by true = sym (λ i. left (all_left t part.log none i) (none i) (stays part.from_start kept i) (kept i))

-- ---- what is below

-- a list has a newest version exactly where it is not empty
none_newest : (log : List Kept) → is_some (newest log) ≡ false → log ≡ []
none_newest [] none = refl
none_newest (v ∷ log) none = absurd (differ (sym none ∙ some v log))
  where
    some : (v : Kept) (log : List Kept) → is_some (newest (v ∷ log)) ≡ true
    some v [] = refl
    some v (w ∷ log) = rw (newest_cons v w log) (some w log)

some_newest : (log : List Kept) → is_some (newest log) ≡ true → log ≢ []
some_newest log some none = differ (sym (ap (λ (vs : List Kept). is_some (newest vs)) none) ∙ some)

-- what is below a stamp in a log is what the machine drops
below_map : (t : Stamp) (log : List Kept) → below t (map as_version log) ≡ map as_version (filter (is_below t) log)
below_map t log = filter-map as_version (λ v. stamp_below v.stamp t) log

-- a look-up finds something below a stamp exactly where the machine drops something below it
pub below_some : (t : Stamp) (log : List Kept) → is_some (found_below t log) ≡ true → below t (map as_version log) ≢ []
below_some t log some none = some_newest (filter (is_below t) log) some (unmapped (filter (is_below t) log) (sym (below_map t log) ∙ none))
  where
    unmapped : (vs : List Kept) → map as_version vs ≡ [] → vs ≡ []
    unmapped [] h = refl
    unmapped (v ∷ vs) h = absurd cc

pub below_none : (t : Stamp) (log : List Kept) → is_some (found_below t log) ≡ false → below t (map as_version log) ≡ []
below_none t log none = below_map t log ∙ ap (map as_version) (none_newest (filter (is_below t) log) none)

-- what is dropped and what is left are all
pub parted : (t : Stamp) (log : List Version) → length (below t log) + length (not_below t log) ≡ length log
parted t log = length-filter_both (λ v. stamp_below v.stamp t) (λ v. not (stamp_below v.stamp t)) (λ v. refl) log

-- so a log gets shorter where something is below the stamp
pub shorter : (t : Stamp) (log : List Version) → below t log ≢ [] → length (not_below t log) < length log
shorter t log some = by (below t log) some (parted t log)
  where
    by : (gone : List Version) → gone ≢ [] → length gone + length (not_below t log) ≡ length log → length (not_below t log) < length log
    by [] some' sum = absurd (some' refl)
    by (v ∷ gone) some' sum = omega (arith, sum)

-- ---- what a store drops

-- the log that is left is the machine's
pub log_left : (block : ℕ) (t : Stamp) (s : StripeOf Kept)
    → map as_version (log_of block (with_collected version_stamp t s)) ≡ not_below t (map as_version (log_of block s))
log_left block t s =
    ap (map as_version) (by s.from_start)
    ∙ ap (map as_version) (sym (filter-append stays (start s.from_start) s.added))
    ∙ sym (filter-map as_version (λ v. not (stamp_below v.stamp t)) (log_of block s))
  where
    stays : Kept → Bool
    stays v = not (stamp_below v.stamp t)

    start : Bool → List Kept
    start from = cond from (version first_stamp (replicate block 0) ∷ []) []

    by : (from : Bool) → start (from && not (stamp_below first_stamp t)) ++ filter stays s.added ≡ filter stays (start from) ++ filter stays s.added
    by true = refl
    by false = refl

-- the versions that were added and are dropped are as many as the machine counts
pub drops_added : (block : ℕ) (t : Stamp) (s : StripeOf Kept)
    → length (below t (map as_version (log_of block s))) ≡ cond (s.from_start && stamp_below first_stamp t) 1 0 + length (filter (is_below t) s.added)
drops_added block t s =
    ap length (below_map t (log_of block s) ∙ ap (map as_version) (filter-append (is_below t) (start s.from_start) s.added))
    ∙ by s.from_start
  where
    start : Bool → List Kept
    start from = cond from (version first_stamp (replicate block 0) ∷ []) []

    long : (vs : List Kept) → length (map as_version vs) ≡ length vs
    long vs = length-map vs as_version

    begun : (b : Bool) → length (map as_version (cond b (version first_stamp (replicate block 0) ∷ []) [] ++ filter (is_below t) s.added))
        ≡ cond b 1 0 + length (filter (is_below t) s.added)
    begun true = omega (arith, long (filter (is_below t) s.added))
    begun false = omega (arith, long (filter (is_below t) s.added))

    by : (from : Bool) → length (map as_version (filter (is_below t) (start from) ++ filter (is_below t) s.added))
        ≡ cond (from && stamp_below first_stamp t) 1 0 + length (filter (is_below t) s.added)
    by true = begun (stamp_below first_stamp t)
    by false = omega (arith, long (filter (is_below t) s.added))
