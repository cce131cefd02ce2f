-- What the machine finds in the log of a part is what a look-up of the store finds.
use Rattle.std.proofs.Common.{◌≡◌, ℕ, zero, suc, ◌-◌, Bool, true, false, ◌||◌, cond, Option, Some, None, List, [], ◌∷◌, length, map, refl, sym, ap, subst, ◌∙◌, arith}
use Rattle.std.specs.List.{filter, find}
use Rattle.std.specs.Option.{option_map, is_some}
use Rattle.fab_base.specs.declared.stamps.Stamp.{Stamp}
use Rattle.fab_base.specs.Stamps.{stamp_below, stamp_same}
use Rattle.fab_base.proofs.StampOrder.{stamp_below_irrefl, stamp_same_true}
use Rattle.messages.specs.declared.requests.Version.{Version}
use Rattle.version_log.specs.Versions.{Version as Kept, newest, below, is_below, has_stamp, block_of, IsRising}
use Rattle.version_log.proofs.RisingLogs.{filter-map}
use Rattle.protocol.specs.Replicas.{newest_of, is_held}
use Rattle.protocol.specs.Replicas as machine
use Rattle.replica.specs.Parts.{as_version}

pub option_map-option_map : {X Y Z : Type 0} (f : Y → Z) (g : X → Y) (found : Option X) → option_map (λ x. f (g x)) found ≡ option_map f
    (option_map g found)
option_map-option_map f g None = refl
option_map-option_map f g (Some x) = refl

pub newest_cons : (v w : Kept) (log : List Kept) → newest (v ∷ w ∷ log) ≡ newest (w ∷ log)
newest_cons v w log = let at : length (v ∷ w ∷ log) - 1 ≡ suc (length (w ∷ log) - 1) = omega arith in rw at refl

-- the newest version
pub newest_seen : (log : List Kept) → newest_of (map as_version log) ≡ option_map as_version (newest log)
newest_seen [] = refl
newest_seen (v ∷ []) = refl
newest_seen (v ∷ w ∷ log) = newest_seen (w ∷ log) ∙ ap (option_map as_version) (sym (newest_cons v w log))

-- the newest version below a bound
pub below_seen : (bound : Stamp) (log : List Kept) → newest_of (machine.below bound (map as_version log)) ≡ option_map as_version (below bound log)
below_seen bound log =
    ap newest_of (filter-map as_version (λ v. stamp_below v.stamp bound) log) ∙ newest_seen (filter (is_below bound) log)

-- whether there is a version of a stamp
pub held_seen : (t : Stamp) (log : List Kept) → is_held t (map as_version log) ≡ is_some (find (has_stamp t) log)
held_seen t [] = refl
held_seen t (v ∷ log) = by (stamp_same v.stamp t) (held_seen t log)
  where
    by : (b : Bool) → is_held t (map as_version log) ≡ is_some (find (has_stamp t) log) → (b || is_held t (map as_version log)) ≡ is_some
        (cond b (Some v) (find (has_stamp t) log))
    by true rest = refl
    by false rest = rest

-- ---- the version of a stamp

-- what rises goes on rising, and is above its first version
rising_rest : (v : Kept) (log : List Kept) → IsRising (v ∷ log) → IsRising log
rising_rest v log rising i j d lt within = rising (suc i) (suc j) d (omega arith) (omega arith)

-- no later version has the stamp of the first
none_again : (t : Stamp) (v : Kept) (log : List Kept) → stamp_same v.stamp t ≡ true → IsRising (v ∷ log) → filter (has_stamp t) log ≡ []
none_again t v [] is rising = refl
none_again t v (w ∷ log) is rising = by (stamp_same w.stamp t) refl (none_again t v log is (skipped rising))
  where
    skipped : IsRising (v ∷ w ∷ log) → IsRising (v ∷ log)
    skipped up zero zero d lt within = absurd (omega arith)
    skipped up zero (suc j) d lt within = up 0 (suc (suc j)) d (omega arith) (omega arith)
    skipped up (suc i) zero d lt within = absurd (omega arith)
    skipped up (suc i) (suc j) d lt within = up (suc (suc i)) (suc (suc j)) d (omega arith) (omega arith)

    above : stamp_below v.stamp w.stamp ≡ true
    above = rising 0 1 v (omega arith) (omega arith)

    by : (b : Bool) → stamp_same w.stamp t ≡ b → filter (has_stamp t) log ≡ [] → cond b (w ∷ filter (has_stamp t) log) (filter (has_stamp t) log) ≡ []
    by false at rest = rest
    by true at rest =
        let same : v.stamp ≡ w.stamp = stamp_same_true v.stamp t is ∙ sym (stamp_same_true w.stamp t at) in
        let below_itself : stamp_below w.stamp w.stamp ≡ true = subst (λ (u : Stamp). stamp_below u w.stamp ≡ true) same above in
        absurd (differ (sym (stamp_below_irrefl w.stamp) ∙ below_itself))
      where
        differ : false ≡ true → ⊥
        differ h = cc

newest_found : (t : Stamp) (log : List Kept) → IsRising log → newest (filter (has_stamp t) log) ≡ find (has_stamp t) log
newest_found t [] rising = refl
newest_found t (v ∷ log) rising = by (stamp_same v.stamp t) refl (newest_found t log (rising_rest v log rising))
  where
    by : (b : Bool) → stamp_same v.stamp t ≡ b → newest (filter (has_stamp t) log) ≡ find (has_stamp t) log
        → newest (cond b (v ∷ filter (has_stamp t) log) (filter (has_stamp t) log)) ≡ cond b (Some v) (find (has_stamp t) log)
    by false at rest = rest
    by true at rest = ap (λ (vs : List Kept). newest (v ∷ vs)) (none_again t v log at rising)

at_seen : (t : Stamp) (log : List Kept) → IsRising log → newest_of (filter (λ v. stamp_same v.stamp t) (map as_version log)) ≡ option_map as_version
    (find (has_stamp t) log)
at_seen t log rising =
    ap newest_of (filter-map as_version (λ v. stamp_same v.stamp t) log) ∙ newest_seen (filter (has_stamp t) log)
    ∙ ap (option_map as_version) (newest_found t log rising)

-- it is the one with this block
pub found_at : (t : Stamp) (log : List Kept) (found : Option (List ℕ)) → IsRising log → found ≡ option_map block_of (find (has_stamp t) log)
    → option_map (λ block. record { stamp = t; block = block }) found ≡ newest_of (filter (λ v. stamp_same v.stamp t) (map as_version log))
found_at t log found rising is = by (find (has_stamp t) log) (passes log) is ∙ sym (at_seen t log rising)
  where
    carried : List ℕ → Version
    carried block = record { stamp = t; block = block }

    passes : (vs : List Kept) (v : Kept) → find (has_stamp t) vs ≡ Some v → v.stamp ≡ t
    passes [] v h = absurd cc
    passes (w ∷ vs) v h = at (stamp_same w.stamp t) refl (passes vs v) h
      where
        at : (b : Bool) → stamp_same w.stamp t ≡ b → (find (has_stamp t) vs ≡ Some v → v.stamp ≡ t) → cond b (Some w) (find (has_stamp t) vs) ≡ Some v
            → v.stamp ≡ t
        at true same rest h' = ap (λ (x : Kept). x.stamp) (sym (some_same h')) ∙ stamp_same_true w.stamp t same
          where
            some_same : {a b : Kept} → Some a ≡ Some b → a ≡ b
            some_same e = cc
        at false same rest h' = rest h'

    by : (kept : Option Kept) → ((v : Kept) → kept ≡ Some v → v.stamp ≡ t) → found ≡ option_map block_of kept
        → option_map (λ block. record { stamp = t; block = block }) found ≡ option_map as_version kept
    by None stamp h = rw h refl
    by (Some v) stamp h = rw h (ap (λ (u : Stamp). Some (record { stamp = u; block = v.block })) (sym (stamp v refl)))
