-- Maps as lists of entries in the order of their keys, of which some are left out.
use Rattle.std.proofs.Common.{◌≡◌, Bool, true, false, cond, Option, Some, None, List, [], ◌∷◌, ◌++◌, map, refl, sym, ap, subst, ◌∙◌}
use Rattle.std.specs.declared.cmp.Ordering.{Ordering}
use Rattle.std.specs.declared.cmp.Ordering.TheVariants.{Less, Equal, Greater}
use Rattle.std.specs.Ordering.{is_eq, match_ordering, ordering_reverse}
use Rattle.std.proofs.lemmas.Cmp.{tied_itself}
use Rattle.std.specs.Cmp.{IsTotalOrder}
use Rattle.std.specs.List.{filter, AllByRecursion}
use Rattle.std.specs.List.Sorted.{IsStrictlySortedBy}
use Rattle.std.specs.Map.{lookup, remove_entry, set_value, keys_of}
use Rattle.std.specs.BTreeMap.{insert_entry, is_at}
use Rattle.std.specs.Option.{IsSome}
use Rattle.std.proofs.lemmas.Map.{NonePasses, lookup-none}
use Rattle.std.proofs.lemmas.Map.Entries.{none_below_head}
use Rattle.std.proofs.lemmas.Map.Keys.{sorted_head, sorted_tail}

module _ {K X : Type 0} {R : K → K → Ordering} (o : IsTotalOrder R) (exact : (x y : K) → R x y ≡ Equal → x ≡ y) where
  -- an entry whose key is below all keys goes to the front
  pub insert_front : (k : K) (v : X) (es : List (K × X)) → AllByRecursion (λ e. R k e.0 ≡ Less) es → insert_entry R es k v ≡ (k, v) ∷ es
  insert_front k v [] below = refl
  insert_front k v (e ∷ es) below = rw (below.0) refl

  -- no entry at this key is taken away
  pub remove_none : (test : K → Bool) (es : List (K × X)) → NonePasses test es → remove_entry test es ≡ es
  remove_none test [] none = refl
  remove_none test (e ∷ es) none = rw (none.0, remove_none test es none.1) refl

  -- keys that are above a key are so after some are left out
  pub above_filter : (k : K) (keep : K × X → Bool) (es : List (K × X)) → AllByRecursion (λ y. R k y ≡ Less) (keys_of es)
      → AllByRecursion (λ e. R k e.0 ≡ Less) (filter keep es)
  above_filter k keep [] above = tt
  above_filter k keep (e ∷ es) above = kept (keep e) (above_filter k keep es above.1)
    where
      kept : (b : Bool) → AllByRecursion (λ f. R k f.0 ≡ Less) (filter keep es) → AllByRecursion (λ f. R k f.0 ≡ Less)
          (cond b (e ∷ filter keep es) (filter keep es))
      kept true rest = (above.0, rest)
      kept false rest = rest

  -- where each key is above, none is at the key
  pub none_at : (k : K) (es : List (K × X)) → AllByRecursion (λ e. R k e.0 ≡ Less) es → NonePasses (is_at (R k)) es
  none_at k [] above = tt
  none_at k (e ∷ es) above = (ap is_eq above.0, none_at k es above.1)

  -- A value written at a key that is there, seen through a filter: it is put in, or taken away.
  pub filter-set_value : (keep : K × X → Bool) (k : K) (w : X) (es : List (K × X)) → IsStrictlySortedBy R (keys_of es)
      → IsSome (lookup (is_at (R k)) es)
      → filter keep (set_value (is_at (R k)) es w) ≡ cond (keep (k, w)) (insert_entry R (filter keep es) k w)
      (remove_entry (is_at (R k)) (filter keep es))
  filter-set_value keep k w [] sorted there = absurd cc
  filter-set_value keep k w (e ∷ es) sorted there = by_order (R k e.0) refl
      (λ rest. filter-set_value keep k w es (sorted_tail R e.0 (keys_of es) sorted) rest)
    where
      above : R k e.0 ≡ Equal → AllByRecursion (λ y. R k y ≡ Less) (keys_of es)
      above at = all_moved (keys_of es) (sorted_head R e.0 (keys_of es) sorted)
        where
          all_moved : (ks : List K) → AllByRecursion (λ y. R e.0 y ≡ Less) ks → AllByRecursion (λ y. R k y ≡ Less) ks
          all_moved [] all = tt
          all_moved (q ∷ ks) all = (o.congr k e.0 q at ∙ all.0, all_moved ks all.1)

      here : (at : R k e.0 ≡ Equal) → filter keep ((e.0, w) ∷ es) ≡ cond (keep (k, w)) (insert_entry R (filter keep (e ∷ es)) k w)
          (remove_entry (is_at (R k)) (filter keep (e ∷ es)))
      here at =
          let same : k ≡ e.0 = exact k e.0 at in
          let F = filter keep es in
          let up = above_filter k keep es (above at) in
          let inserted : insert_entry R (filter keep (e ∷ es)) k w ≡ (e.0, w) ∷ F = put_in (keep e) up in
          let taken : remove_entry (is_at (R k)) (filter keep (e ∷ es)) ≡ F = taken_out (keep e) up in
          subst (λ (q : K). filter keep ((e.0, w) ∷ es) ≡ cond (keep (q, w)) (insert_entry R (filter keep (e ∷ es)) k w)
          (remove_entry (is_at (R k)) (filter keep (e ∷ es)))) (sym same)
          (rw (inserted, taken) refl)
        where
          put_in : (b : Bool) → AllByRecursion (λ f. R k f.0 ≡ Less) (filter keep es)
              → insert_entry R (cond b (e ∷ filter keep es) (filter keep es)) k w ≡ (e.0, w) ∷ filter keep es
          put_in true up = rw at refl
          put_in false up = insert_front k w (filter keep es) up ∙ ap (λ (q : K). (q, w) ∷ filter keep es) (exact k e.0 at)

          taken_out : (b : Bool) → AllByRecursion (λ f. R k f.0 ≡ Less) (filter keep es)
              → remove_entry (is_at (R k)) (cond b (e ∷ filter keep es) (filter keep es)) ≡ filter keep es
          taken_out true up = rw at refl
          taken_out false up = remove_none (is_at (R k)) (filter keep es) (none_at k (filter keep es) up)

      later : (at : R k e.0 ≡ Greater) → filter keep (set_value (is_at (R k)) es w) ≡ cond (keep (k, w)) (insert_entry R (filter keep es) k w)
          (remove_entry (is_at (R k)) (filter keep es))
          → filter keep (e ∷ set_value (is_at (R k)) es w) ≡ cond (keep (k, w)) (insert_entry R (filter keep (e ∷ es)) k w)
          (remove_entry (is_at (R k)) (filter keep (e ∷ es)))
      later at ih = past (keep e) (keep (k, w)) ih
        where
          past : (b kept : Bool) → filter keep (set_value (is_at (R k)) es w) ≡ cond kept (insert_entry R (filter keep es) k w)
              (remove_entry (is_at (R k)) (filter keep es))
              → cond b (e ∷ filter keep (set_value (is_at (R k)) es w)) (filter keep (set_value (is_at (R k)) es w))
              ≡ cond kept (insert_entry R (cond b (e ∷ filter keep es) (filter keep es)) k w)
              (remove_entry (is_at (R k)) (cond b (e ∷ filter keep es) (filter keep es)))
          past true true ih = rw at (ap (λ (fs : List (K × X)). e ∷ fs) ih)
          past true false ih = rw at (ap (λ (fs : List (K × X)). e ∷ fs) ih)
          past false true ih = ih
          past false false ih = ih

      by_order : (r : Ordering) → R k e.0 ≡ r
          → (IsSome (lookup (is_at (R k)) es) → filter keep (set_value (is_at (R k)) es w) ≡ cond (keep (k, w)) (insert_entry R (filter keep es) k w)
          (remove_entry (is_at (R k)) (filter keep es)))
          → filter keep (set_value (is_at (R k)) (e ∷ es) w) ≡ cond (keep (k, w)) (insert_entry R (filter keep (e ∷ es)) k w)
          (remove_entry (is_at (R k)) (filter keep (e ∷ es)))
      by_order Equal at ih = rw at (here at)
      by_order Greater at ih = rw at (later at (ih (subst (λ (b : Bool). IsSome (cond b (Some e.1) (lookup (is_at (R k)) es))) (ap is_eq at) there)))
      by_order Less at ih = absurd (lost (lookup-none (is_at (R k)) (e ∷ es) (none_below_head o k e es sorted at)) there)
        where
          lost : {r : Option X} → r ≡ None → IsSome r → ⊥
          lost none some = let is : false ≡ true = subst IsSome none some in cc

  -- a look-up seen through a filter
  pub lookup-filter : (keep : K × X → Bool) (k : K) (v : X) (es : List (K × X)) → IsStrictlySortedBy R (keys_of es) → lookup (is_at (R k)) es ≡ Some v
      → lookup (is_at (R k)) (filter keep es) ≡ cond (keep (k, v)) (Some v) None
  lookup-filter keep k v [] sorted found = absurd cc
  lookup-filter keep k v (e ∷ es) sorted found = by_order (R k e.0) refl found (lookup-filter keep k v es (sorted_tail R e.0 (keys_of es) sorted))
    where
      past : (b : Bool) → R k e.0 ≡ Greater → lookup (is_at (R k)) (cond b (e ∷ filter keep es) (filter keep es)) ≡ lookup (is_at (R k))
          (filter keep es)
      past true at = rw at refl
      past false at = refl

      all_moved : (at : R k e.0 ≡ Equal) (ks : List K) → AllByRecursion (λ y. R e.0 y ≡ Less) ks → AllByRecursion (λ y. R k y ≡ Less) ks
      all_moved at [] all = tt
      all_moved at (q ∷ ks) all = (o.congr k e.0 q at ∙ all.0, all_moved at ks all.1)

      here : (b : Bool) → R k e.0 ≡ Equal → lookup (is_at (R k)) (cond b (e ∷ filter keep es) (filter keep es)) ≡ cond b (Some e.1) None
      here true at = rw at refl
      here false at = lookup-none (is_at (R k)) (filter keep es)
          (none_at k (filter keep es) (above_filter k keep es (all_moved at (keys_of es) (sorted_head R e.0 (keys_of es) sorted))))

      by_order : (r : Ordering) → R k e.0 ≡ r → lookup (is_at (R k)) (e ∷ es) ≡ Some v
          → (lookup (is_at (R k)) es ≡ Some v → lookup (is_at (R k)) (filter keep es) ≡ cond (keep (k, v)) (Some v) None)
          → lookup (is_at (R k)) (filter keep (e ∷ es)) ≡ cond (keep (k, v)) (Some v) None
      by_order Equal at found ih =
          let value : e.1 ≡ v = some_value (sym (ap (λ (b : Bool). cond b (Some e.1) (lookup (is_at (R k)) es)) (ap is_eq at)) ∙ found) in
          let same : e ≡ (k, v) = pair_is (sym (exact k e.0 at)) value in
          here (keep e) at ∙ ap (λ (w : X). cond (keep e) (Some w) None) value ∙ ap (λ (f : K × X). cond (keep f) (Some v) None) same
        where
          some_value : {a b : X} → Some a ≡ Some b → a ≡ b
          some_value h = cc

          pair_is : e.0 ≡ k → e.1 ≡ v → e ≡ (k, v)
          pair_is p q = ap (λ (x : K). (x, e.1)) p ∙ ap (λ (y : X). (k, y)) q
      by_order Greater at found ih =
          past (keep e) at ∙ ih (sym (ap (λ (b : Bool). cond b (Some e.1) (lookup (is_at (R k)) es)) (ap is_eq at)) ∙ found)
      by_order Less at found ih = absurd (none_some (sym (lookup-none (is_at (R k)) (e ∷ es) (none_below_head o k e es sorted at)) ∙ found))
        where
          none_some : None ≡ Some v → ⊥
          none_some h = cc

-- a look-up that finds nothing finds nothing through a filter
pub lookup-filter-none : {K X : Type 0} (test : K → Bool) (keep : K × X → Bool) (es : List (K × X)) → lookup test es ≡ None
    → lookup test (filter keep es) ≡ None
lookup-filter-none test keep [] none = refl
lookup-filter-none {K} {X} test keep (e ∷ es) none = by_test (test e.0) refl none (lookup-filter-none test keep es)
  where
    kept : (b : Bool) → test e.0 ≡ false → lookup test (filter keep es) ≡ None → lookup test (cond b (e ∷ filter keep es) (filter keep es)) ≡ None
    kept true past rest = rw past rest
    kept false past rest = rest

    by_test : (b : Bool) → test e.0 ≡ b → cond (test e.0) (Some e.1) (lookup test es) ≡ None
        → (lookup test es ≡ None → lookup test (filter keep es) ≡ None) → lookup test (filter keep (e ∷ es)) ≡ None
    by_test true at h ih = absurd (some_none (sym (ap (λ (b : Bool). cond b (Some e.1) (lookup test es)) at) ∙ h))
      where
        some_none : Some e.1 ≡ None → ⊥
        some_none k = cc
    by_test false at h ih = kept (keep e) at (ih (sym (ap (λ (b : Bool). cond b (Some e.1) (lookup test es)) at) ∙ h))

-- an entry that is left out changes nothing, where its key is new
pub filter-insert_left_out : {K X : Type 0} (R : K → K → Ordering) (keep : K × X → Bool) (k : K) (v : X) (es : List (K × X))
    → lookup (is_at (R k)) es ≡ None → keep (k, v) ≡ false
    → filter keep (insert_entry R es k v) ≡ filter keep es
filter-insert_left_out R keep k v [] none out = rw out refl
filter-insert_left_out {K} {X} R keep k v (e ∷ es) none out = by_order (R k e.0) refl (λ rest. filter-insert_left_out R keep k v es rest out)
  where
    after : (b : Bool) → filter keep (insert_entry R es k v) ≡ filter keep es → cond b (e ∷ filter keep (insert_entry R es k v))
        (filter keep (insert_entry R es k v)) ≡ cond b (e ∷ filter keep es) (filter keep es)
    after b same = ap (λ (fs : List (K × X)). cond b (e ∷ fs) fs) same

    by_order : (r : Ordering) → R k e.0 ≡ r → (lookup (is_at (R k)) es ≡ None → filter keep (insert_entry R es k v) ≡ filter keep es)
        → filter keep (insert_entry R (e ∷ es) k v) ≡ filter keep (e ∷ es)
    by_order Less at ih = rw (at, out) refl
    by_order Equal at ih = absurd (some_none (sym (ap (λ (b : Bool). cond b (Some e.1) (lookup (is_at (R k)) es)) (ap is_eq at)) ∙ none))
      where
        some_none : Some e.1 ≡ None → ⊥
        some_none h = cc
    by_order Greater at ih = rw at (after (keep e) (ih (sym (ap (λ (b : Bool). cond b (Some e.1) (lookup (is_at (R k)) es)) (ap is_eq at)) ∙ none)))

-- two filters in either order
pub filter-filter : {X : Type 0} (p q : X → Bool) (xs : List X) → filter p (filter q xs) ≡ filter q (filter p xs)
filter-filter p q [] = refl
filter-filter {X} p q (x ∷ xs) = by (p x) (q x) refl refl (filter-filter p q xs)
  where
    by : (b d : Bool) → p x ≡ b → q x ≡ d → filter p (filter q xs) ≡ filter q (filter p xs)
        → filter p (cond d (x ∷ filter q xs) (filter q xs)) ≡ filter q (cond b (x ∷ filter p xs) (filter p xs))
    by true true ep eq h = rw (ep, eq) (ap (λ (ys : List X). x ∷ ys) h)
    by true false ep eq h = rw eq h
    by false true ep eq h = rw ep h
    by false false ep eq h = h

-- each value seen as something else
abbrev pub map_values : {K X Y : Type 0} → (X → Y) → List (K × X) → List (K × Y)
map_values f es = map (λ e. (e.0, f e.1)) es

pub map_values-set_value : {K X Y : Type 0} (f : X → Y) (test : K → Bool) (es : List (K × X)) (w : X)
    → map_values f (set_value test es w) ≡ set_value test (map_values f es) (f w)
map_values-set_value f test [] w = refl
map_values-set_value {K} {X} {Y} f test (e ∷ es) w = by (test e.0) (map_values-set_value f test es w)
  where
    by : (b : Bool) → map_values f (set_value test es w) ≡ set_value test (map_values f es) (f w)
        → map_values f (cond b ((e.0, w) ∷ es) (e ∷ set_value test es w)) ≡ cond b ((e.0, f w) ∷ map_values f es)
        ((e.0, f e.1) ∷ set_value test (map_values f es) (f w))
    by true h = refl
    by false h = ap (λ (fs : List (K × Y)). (e.0, f e.1) ∷ fs) h

pub map_values-insert_entry : {K X Y : Type 0} (f : X → Y) (R : K → K → Ordering) (es : List (K × X)) (k : K) (v : X)
    → map_values f (insert_entry R es k v) ≡ insert_entry R (map_values f es) k (f v)
map_values-insert_entry f R [] k v = refl
map_values-insert_entry {K} {X} {Y} f R (e ∷ es) k v = by (R k e.0) (map_values-insert_entry f R es k v)
  where
    by : (r : Ordering) → map_values f (insert_entry R es k v) ≡ insert_entry R (map_values f es) k (f v)
        → map_values f (match_ordering r ((k, v) ∷ e ∷ es) ((e.0, v) ∷ es) (e ∷ insert_entry R es k v))
        ≡ match_ordering r ((k, f v) ∷ (e.0, f e.1) ∷ map_values f es) ((e.0, f v) ∷ map_values f es)
        ((e.0, f e.1) ∷ insert_entry R (map_values f es) k (f v))
    by Less h = refl
    by Equal h = refl
    by Greater h = ap (λ (fs : List (K × Y)). (e.0, f e.1) ∷ fs) h

pub map_values-remove_entry : {K X Y : Type 0} (f : X → Y) (test : K → Bool) (es : List (K × X))
    → map_values f (remove_entry test es) ≡ remove_entry test (map_values f es)
map_values-remove_entry f test [] = refl
map_values-remove_entry {K} {X} {Y} f test (e ∷ es) = by (test e.0) (map_values-remove_entry f test es)
  where
    by : (b : Bool) → map_values f (remove_entry test es) ≡ remove_entry test (map_values f es)
        → map_values f (cond b es (e ∷ remove_entry test es)) ≡ cond b (map_values f es) ((e.0, f e.1) ∷ remove_entry test (map_values f es))
    by true h = refl
    by false h = ap (λ (fs : List (K × Y)). (e.0, f e.1) ∷ fs) h

-- a filter by the keys
pub map_values-filter : {K X Y : Type 0} (f : X → Y) (keep : K → Bool) (es : List (K × X)) → map_values f (filter (λ e. keep e.0) es) ≡ filter
    (λ e. keep e.0) (map_values f es)
map_values-filter f keep [] = refl
map_values-filter {K} {X} {Y} f keep (e ∷ es) = by (keep e.0) (map_values-filter f keep es)
  where
    by : (b : Bool) → map_values f (filter (λ g. keep g.0) es) ≡ filter (λ g. keep g.0) (map_values f es)
        → map_values f (cond b (e ∷ filter (λ g. keep g.0) es) (filter (λ g. keep g.0) es)) ≡ cond b
        ((e.0, f e.1) ∷ filter (λ g. keep g.0) (map_values f es)) (filter (λ g. keep g.0) (map_values f es))
    by true h = ap (λ (fs : List (K × Y)). (e.0, f e.1) ∷ fs) h
    by false h = h

-- ---- an entry above all others

after_from : {K : Type 0} {R : K → K → Ordering} → IsTotalOrder R → (k q : K) → R q k ≡ Less → R k q ≡ Greater
after_from o k q less = o.antisymm k q ∙ ap ordering_reverse less

module _ {K X : Type 0} {R : K → K → Ordering} (o : IsTotalOrder R) where
  -- each key is below this one
  abbrev pub AllBelow : K → List (K × X) → Type 0
  AllBelow k es = AllByRecursion (λ e. R e.0 k ≡ Less) es

  pub insert_last : (k : K) (v : X) (es : List (K × X)) → AllBelow k es → insert_entry R es k v ≡ es ++ (k, v) ∷ []
  insert_last k v [] below = refl
  insert_last k v (e ∷ es) below = rw (after_from o k e.0 below.0) (ap (λ (fs : List (K × X)). e ∷ fs) (insert_last k v es below.1))

  pub insert_again : (k : K) (v w : X) (es : List (K × X)) → AllBelow k es → insert_entry R (es ++ (k, v) ∷ []) k w ≡ es ++ (k, w) ∷ []
  insert_again k v w [] below = rw (tied_itself o k) refl
  insert_again k v w (e ∷ es) below = rw (after_from o k e.0 below.0) (ap (λ (fs : List (K × X)). e ∷ fs) (insert_again k v w es below.1))

  pub lookup_last : (k : K) (v : X) (es : List (K × X)) → AllBelow k es → lookup (is_at (R k)) (es ++ (k, v) ∷ []) ≡ Some v
  lookup_last k v [] below = rw (tied_itself o k) refl
  lookup_last k v (e ∷ es) below = rw (after_from o k e.0 below.0) (lookup_last k v es below.1)

  pub lookup_above : (k : K) (es : List (K × X)) → AllBelow k es → lookup (is_at (R k)) es ≡ None
  lookup_above k [] below = refl
  lookup_above k (e ∷ es) below = rw (after_from o k e.0 below.0) (lookup_above k es below.1)

  pub remove_above : (k : K) (es : List (K × X)) → AllBelow k es → remove_entry (is_at (R k)) es ≡ es
  remove_above k [] below = refl
  remove_above k (e ∷ es) below = rw (after_from o k e.0 below.0) (ap (λ (fs : List (K × X)). e ∷ fs) (remove_above k es below.1))

  pub remove_last : (k : K) (v : X) (es : List (K × X)) → AllBelow k es → remove_entry (is_at (R k)) (es ++ (k, v) ∷ []) ≡ es
  remove_last k v [] below = rw (tied_itself o k) refl
  remove_last k v (e ∷ es) below = rw (after_from o k e.0 below.0) (ap (λ (fs : List (K × X)). e ∷ fs) (remove_last k v es below.1))

-- ---- order, and what holds of each entry, after a change

module _ {K X : Type 0} {R : K → K → Ordering} (o : IsTotalOrder R) where
  all_inserted : (q k : K) (v : X) (es : List (K × X)) → R q k ≡ Less → AllByRecursion (λ y. R q y ≡ Less) (keys_of es)
      → AllByRecursion (λ y. R q y ≡ Less) (keys_of (insert_entry R es k v))
  all_inserted q k v [] less all = (less, tt)
  all_inserted q k v (e ∷ es) less all = by (R k e.0) (all_inserted q k v es less all.1)
    where
      by : (r : Ordering) → AllByRecursion (λ y. R q y ≡ Less) (keys_of (insert_entry R es k v))
          → AllByRecursion (λ y. R q y ≡ Less) (keys_of (match_ordering r ((k, v) ∷ e ∷ es) ((e.0, v) ∷ es) (e ∷ insert_entry R es k v)))
      by Less rest = (less, all)
      by Equal rest = all
      by Greater rest = (all.0, rest)

  below_all : (k q : K) (es : List (K × X)) → R k q ≡ Less → AllByRecursion (λ y. R q y ≡ Less) (keys_of es) → AllByRecursion (λ y. R k y ≡ Less)
      (keys_of es)
  below_all k q [] less all = tt
  below_all k q (e ∷ es) less all = (o.trans k q e.0 less all.0, below_all k q es less all.1)

  pub sorted_inserted : (k : K) (v : X) (es : List (K × X)) → IsStrictlySortedBy R (keys_of es)
      → IsStrictlySortedBy R (keys_of (insert_entry R es k v))
  unfolding IsStrictlySortedBy
  sorted_inserted k v [] sorted = (tt, tt)
  sorted_inserted k v (e ∷ es) sorted = by (R k e.0) refl (sorted_inserted k v es sorted.1)
    where
      by : (r : Ordering) → R k e.0 ≡ r → IsStrictlySortedBy R (keys_of (insert_entry R es k v))
          → IsStrictlySortedBy R (keys_of (match_ordering r ((k, v) ∷ e ∷ es) ((e.0, v) ∷ es) (e ∷ insert_entry R es k v)))
      by Less at rest = ((at, below_all k e.0 es at sorted.0), sorted)
      by Equal at rest = sorted
      by Greater at rest = (all_inserted e.0 k v es (o.antisymm e.0 k ∙ ap ordering_reverse at) sorted.0, rest)

-- what holds of each entry holds of each once one more is put in, or one is taken away, or some are left out
pub all_insert : {K X : Type 0} (P : K × X → Type 0) (R : K → K → Ordering) (exact : (x y : K) → R x y ≡ Equal → x ≡ y) (k : K) (v : X)
    (es : List (K × X)) → P (k, v) → AllByRecursion P es → AllByRecursion P (insert_entry R es k v)
all_insert P R exact k v [] new all = (new, tt)
all_insert {K} {X} P R exact k v (e ∷ es) new all = by (R k e.0) refl (all_insert P R exact k v es new all.1)
  where
    by : (r : Ordering) → R k e.0 ≡ r → AllByRecursion P (insert_entry R es k v)
        → AllByRecursion P (match_ordering r ((k, v) ∷ e ∷ es) ((e.0, v) ∷ es) (e ∷ insert_entry R es k v))
    by Less at rest = (new, all)
    by Equal at rest = (subst (λ (q : K). P (q, v)) (exact k e.0 at) new, all.1)
    by Greater at rest = (all.0, rest)

pub all_remove : {K X : Type 0} (P : K × X → Type 0) (test : K → Bool) (es : List (K × X)) → AllByRecursion P es
    → AllByRecursion P (remove_entry test es)
all_remove P test [] all = tt
all_remove {K} {X} P test (e ∷ es) all = by (test e.0) (all_remove P test es all.1)
  where
    by : (b : Bool) → AllByRecursion P (remove_entry test es) → AllByRecursion P (cond b es (e ∷ remove_entry test es))
    by true rest = all.1
    by false rest = (all.0, rest)

pub all_filter : {X : Type 0} (P : X → Type 0) (keep : X → Bool) (xs : List X) → AllByRecursion P xs → AllByRecursion P (filter keep xs)
all_filter P keep [] all = tt
all_filter {X} P keep (x ∷ xs) all = by (keep x) (all_filter P keep xs all.1)
  where
    by : (b : Bool) → AllByRecursion P (filter keep xs) → AllByRecursion P (cond b (x ∷ filter keep xs) (filter keep xs))
    by true rest = (all.0, rest)
    by false rest = rest

pub sorted_removed : {K X : Type 0} (R : K → K → Ordering) (test : K → Bool) (es : List (K × X)) → IsStrictlySortedBy R (keys_of es)
    → IsStrictlySortedBy R (keys_of (remove_entry test es))
unfolding IsStrictlySortedBy
sorted_removed R test [] sorted = tt
sorted_removed {K} {X} R test (e ∷ es) sorted = by (test e.0) (sorted_removed R test es sorted.1) (keys_left e.0 es sorted.0)
  where
    keys_left : (q : K) (fs : List (K × X)) → AllByRecursion (λ y. R q y ≡ Less) (keys_of fs) → AllByRecursion (λ y. R q y ≡ Less)
        (keys_of (remove_entry test fs))
    keys_left q [] all = tt
    keys_left q (f ∷ fs) all = one (test f.0) (keys_left q fs all.1)
      where
        one : (b : Bool) → AllByRecursion (λ y. R q y ≡ Less) (keys_of (remove_entry test fs)) → AllByRecursion (λ y. R q y ≡ Less)
            (keys_of (cond b fs (f ∷ remove_entry test fs)))
        one true rest = all.1
        one false rest = (all.0, rest)

    by : (b : Bool) → IsStrictlySortedBy R (keys_of (remove_entry test es)) → AllByRecursion (λ y. R e.0 y ≡ Less) (keys_of (remove_entry test es))
        → IsStrictlySortedBy R (keys_of (cond b es (e ∷ remove_entry test es)))
    by true rest all = sorted.1
    by false rest all = (all, rest)

pub sorted_filter : {K X : Type 0} (R : K → K → Ordering) (keep : K × X → Bool) (es : List (K × X)) → IsStrictlySortedBy R (keys_of es)
    → IsStrictlySortedBy R (keys_of (filter keep es))
unfolding IsStrictlySortedBy
sorted_filter R keep [] sorted = tt
sorted_filter {K} {X} R keep (e ∷ es) sorted = by (keep e) (sorted_filter R keep es sorted.1) (keys_left e.0 es sorted.0)
  where
    keys_left : (q : K) (fs : List (K × X)) → AllByRecursion (λ y. R q y ≡ Less) (keys_of fs) → AllByRecursion (λ y. R q y ≡ Less)
        (keys_of (filter keep fs))
    keys_left q [] all = tt
    keys_left q (f ∷ fs) all = one (keep f) (keys_left q fs all.1)
      where
        one : (b : Bool) → AllByRecursion (λ y. R q y ≡ Less) (keys_of (filter keep fs)) → AllByRecursion (λ y. R q y ≡ Less)
            (keys_of (cond b (f ∷ filter keep fs) (filter keep fs)))
        one true rest = (all.0, rest)
        one false rest = rest

    by : (b : Bool) → IsStrictlySortedBy R (keys_of (filter keep es)) → AllByRecursion (λ y. R e.0 y ≡ Less) (keys_of (filter keep es))
        → IsStrictlySortedBy R (keys_of (cond b (e ∷ filter keep es) (filter keep es)))
    by true rest all = (all, rest)
    by false rest all = rest
