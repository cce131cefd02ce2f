-- Look-ups in a log of versions, and that it goes on rising.
use Rattle.std.proofs.Common.{◌≡◌, ◌≢◌, ℕ, zero, suc, ◌-◌, ◌<◌, ◌≤◌, ◌||◌, Bool, true, false, cond, Option, Some, None, List, [], ◌∷◌, ◌++◌, length, get_or, map, take, drop, refl, ap, sym, subst, ◌∙◌, ⊎_elim, arith}
use Rattle.std.specs.List.{find, filter, slice_get, list_any}
use Rattle.std.specs.List.Sorted.{IsPartitionPoint, IsPartitionedBy}
use Rattle.std.specs.Option.{option_map, is_some}
use Rattle.std.proofs.lemmas.Bool.{cases_eq}
use Rattle.std.proofs.lemmas.Bool.Decides.{nat_tests}
use Rattle.std.proofs.lemmas.List.{length-map}
use Rattle.std.proofs.lemmas.List.Kept.{AllPairs-filter}
use Rattle.std.proofs.lemmas.List.Quantifiers.{all_pairs_push}
use Rattle.std.proofs.lemmas.Option.{slice_get-get_or, slice_get-map}
use Rattle.fab_base.specs.declared.stamps.Stamp.{Stamp}
use Rattle.fab_base.specs.Stamps.{stamp_below, stamp_same}
use Rattle.fab_base.proofs.StampOrder.{stamp_below_trans}
use Rattle.version_log.specs.declared.versions.Version.{Version}
use Rattle.version_log.specs.Versions.{IsRising, IsNewer, is_below, has_stamp, block_of}

-- what is found in a list, and in its images
pub find-map : {X Y : Type 0} (f : X → Y) (p : Y → Bool) (xs : List X) → find p (map f xs) ≡ option_map f (find (λ x. p (f x)) xs)
find-map f p [] = refl
find-map f p (x ∷ xs) = found (p (f x)) (find-map f p xs)
  where
    found : (b : Bool) → find p (map f xs) ≡ option_map f (find (λ y. p (f y)) xs)
        → cond b (Some (f x)) (find p (map f xs)) ≡ option_map f (cond b (Some x) (find (λ y. p (f y)) xs))
    found true e = refl
    found false e = e

-- what passes in a list, and in its images
pub filter-map : {X Y : Type 0} (f : X → Y) (p : Y → Bool) (xs : List X) → filter p (map f xs) ≡ map f (filter (λ x. p (f x)) xs)
filter-map f p [] = refl
filter-map f p (x ∷ xs) = kept (p (f x)) (filter-map f p xs)
  where
    kept : (b : Bool) → filter p (map f xs) ≡ map f (filter (λ y. p (f y)) xs)
        → cond b (f x ∷ filter p (map f xs)) (filter p (map f xs)) ≡ map f (cond b (x ∷ filter (λ y. p (f y)) xs) (filter (λ y. p (f y)) xs))
    kept true e = ap (λ ys. f x ∷ ys) e
    kept false e = e

-- the last element of a list
abbrev pub last : {X : Type 0} → List X → Option X
last xs = slice_get xs (length xs - 1)

-- the last image is the image of the last
pub last-map : {X Y : Type 0} (f : X → Y) (xs : List X) → last (map f xs) ≡ option_map f (last xs)
last-map f xs = rw length-map (slice_get-map f xs (length xs - 1))

-- an option has a value exactly if its image has
pub is_some-option_map : {X Y : Type 0} (f : X → Y) (o : Option X) → is_some (option_map f o) ≡ is_some o
is_some-option_map f None = refl
is_some-option_map f (Some x) = refl

-- whether any element passes, and whether one is found
pub any_found : {X : Type 0} (p : X → Bool) (xs : List X) → is_some (find p xs) ≡ list_any p xs
any_found p [] = refl
any_found p (x ∷ xs) = by (p x) (any_found p xs)
  where
    by : (b : Bool) → is_some (find p xs) ≡ list_any p xs → is_some (cond b (Some x) (find p xs)) ≡ (b || list_any p xs)
    by true e = refl
    by false e = e

-- a version above the newest is above all
pub IsRising-push : {B : Type 0} (log : List (Version B)) (v : Version B) → IsRising log → IsNewer v.stamp log → IsRising (log ++ v ∷ [])
IsRising-push {B} log v rising above =
    all_pairs_push (λ (a b : Version B). stamp_below a.stamp b.stamp ≡ true) log v rising (λ k d below.
    let top : stamp_below (get_or log (length log - 1) d).stamp v.stamp ≡ true
    = above (get_or log (length log - 1) d) (slice_get-get_or log (length log - 1) d (omega arith)) in
    ⊎_elim
    (λ (last : k ≡ length log - 1). subst (λ (i : ℕ). stamp_below (get_or log i d).stamp v.stamp ≡ true) (sym last) top)
    (λ (lower : k ≢ length log - 1).
    stamp_below_trans (get_or log k d).stamp (get_or log (length log - 1) d).stamp v.stamp
    (rising k (length log - 1) d (omega arith) (omega arith)) top)
    (cases_eq k (length log - 1)))

-- what is left of a rising log rises
pub IsRising-filter : {B : Type 0} (p : Version B → Bool) (log : List (Version B)) → IsRising log → IsRising (filter p log)
IsRising-filter {B} p log rising = AllPairs-filter (λ (a b : Version B). stamp_below a.stamp b.stamp ≡ true) p log rising

-- ---- searches by bisection

-- in a rising log the versions below a bound stand in front
pub below_parted : {B : Type 0} (bound : Stamp) (log : List (Version B)) → IsRising log → IsPartitionedBy (is_below bound) log
below_parted bound log rising i j d upward within below =
    ⊎_elim (λ same. subst (λ (k : ℕ). stamp_below (get_or log k d).stamp bound ≡ true) (sym same) below)
    (λ apart. stamp_below_trans (get_or log i d).stamp (get_or log j d).stamp bound (rising i j d (omega (arith, upward, apart)) within) below)
    (cases_eq i j)

module _ {X : Type 0} (p : X → Bool) where
  -- those that pass, where they stand in front
  pub filter_at_point : (xs : List X) (i : ℕ) → i ≤ length xs → IsPartitionPoint (λ y. p y ≡ true) (λ y. p y ≡ false) xs i → filter p xs ≡ take i xs
  filter_at_point [] zero within point = refl
  filter_at_point [] (suc i) within point = refl
  filter_at_point (x ∷ xs) zero within point =
      let fails : p x ≡ false = point.1 0 x (omega arith) (omega arith) in
      rw fails (filter_at_point xs zero (omega arith)
      ((λ k d from to. absurd (omega (arith, to))), (λ k d from to. point.1 (suc k) d (omega arith) (omega (arith, to)))))
  filter_at_point (x ∷ xs) (suc i) within point =
      let passes : p x ≡ true = point.0 0 x (omega arith) (omega arith) in
      rw passes (ap (λ ys. x ∷ ys) (filter_at_point xs i (omega (arith, within))
      ((λ k d from to. point.0 (suc k) d (omega arith) (omega (arith, to))), (λ k d from to. point.1 (suc k) d (omega (arith, from)) (omega (arith, to))))))

  -- an element, where it passes
  abbrev pub passing : Option X → Option X
  passing None = None
  passing (Some x) = cond (p x) (Some x) None

-- of two stamps one below the other is not the same
apart : (a b : Stamp) → stamp_below a b ≡ true → stamp_same a b ≡ false
unfolding stamp_below stamp_same
apart a b h = grind (arith, nat_tests)

apart_above : (a b : Stamp) → stamp_below b a ≡ true → stamp_same a b ≡ false
unfolding stamp_below stamp_same
apart_above a b h = grind (arith, nat_tests)

-- a stamp that is neither below another nor the same is above it
is_above : (a b : Stamp) → stamp_below a b ≡ false → stamp_same a b ≡ false → stamp_below b a ≡ true
unfolding stamp_below stamp_same
is_above a b h k = grind (arith, nat_tests)

module _ {B : Type 0} (s : Stamp) where
  -- no version above a stamp has it
  none_above : (log : List (Version B)) → ((k : ℕ) (d : Version B) → k < length log → stamp_below s (get_or log k d).stamp ≡ true)
      → find (has_stamp s) log ≡ None
  none_above [] above = refl
  none_above (v ∷ log) above =
      let other : stamp_same v.stamp s ≡ false = apart_above v.stamp s (above 0 v (omega arith)) in
      rw other (none_above log (λ k d within. above (suc k) d (omega (arith, within))))

  -- the version of a stamp stands behind those below it, if there is one
  found_at_point : (log : List (Version B)) (i : ℕ) → IsRising log
      → IsPartitionPoint (λ v. is_below s v ≡ true) (λ v. is_below s v ≡ false) log i
      → find (has_stamp s) log ≡ passing (has_stamp s) (slice_get (drop i log) 0)
  found_at_point [] zero rising point = refl
  found_at_point [] (suc i) rising point = refl
  found_at_point (v ∷ log) zero rising point = here (stamp_same v.stamp s) refl
    where
      here : (b : Bool) → stamp_same v.stamp s ≡ b → cond b (Some v) (find (has_stamp s) log) ≡ cond b (Some v) None
      here true e = refl
      here false e =
          let above : stamp_below s v.stamp ≡ true = is_above v.stamp s (point.1 0 v (omega arith) (omega arith)) e in
          none_above log (λ k d within. stamp_below_trans s v.stamp (get_or log k d).stamp above (rising 0 (suc k) d (omega arith) (omega (arith, within))))
  found_at_point (v ∷ log) (suc i) rising point =
      let other : stamp_same v.stamp s ≡ false = apart v.stamp s (point.0 0 v (omega arith) (omega arith)) in
      rw other (found_at_point log i (λ j k d lt within. rising (suc j) (suc k) d (omega (arith, lt)) (omega (arith, within)))
      ((λ k d from to. point.0 (suc k) d (omega arith) (omega (arith, to))), (λ k d from to. point.1 (suc k) d (omega (arith, from)) (omega (arith, to)))))

  -- its block is that of the first version that is not below the stamp, where that one has it
  pub block_at_point : (log : List (Version B)) (i : ℕ) (first : Option (Version B)) → IsRising log
      → IsPartitionPoint (λ v. is_below s v ≡ true) (λ v. is_below s v ≡ false) log i → first ≡ slice_get (drop i log) 0
      → option_map block_of (passing (has_stamp s) first) ≡ option_map block_of (find (has_stamp s) log)
  block_at_point log i first rising point is =
      ap (λ (o : Option (Version B)). option_map block_of (passing (has_stamp s) o)) is
      ∙ sym (ap (option_map block_of) (found_at_point log i rising point))
