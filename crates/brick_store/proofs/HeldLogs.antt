-- Look-ups in the log of a stripe that memory holds.
use Rattle.std.proofs.Common.{◌≡◌, ℕ, ◌+◌, ◌-◌, Bool, true, false, cond, Option, Some, None, List, [], ◌∷◌, ◌++◌, length, get_or, map, refl, sym, ap, subst, ◌∙◌, inl, inr, arith}
use Rattle.std.specs.List.{AllByRecursion, find, filter}
use Rattle.std.specs.Prelude.{replicate}
use Rattle.std.specs.Option.{IsSome, option_map, option_or}
use Rattle.std.proofs.lemmas.List.{append-nil, length-append, get_or-append-add}
use Rattle.std.proofs.lemmas.List.Elements.{filter-append}
use Rattle.std.proofs.lemmas.List.Folds.{find-append}
use Rattle.std.proofs.lemmas.Option.{slice_get-get_or, none-some, same_Some}
use Rattle.fab_base.specs.declared.stamps.Stamp.{Stamp}
use Rattle.fab_base.specs.Stamps.{stamp_below, stamp_same}
use Rattle.version_log.specs.Versions.{Version, newest, below, is_below, has_stamp, block_of}
use Rattle.version_log.proofs.RisingLogs.{find-map, filter-map, last-map}
use Rattle.brick_state.specs.Entries.{Entry}
use Rattle.brick_state.specs.States.{last, Place, StripeOf, StateOf, stripe_at}
use Rattle.brick_state.proofs.Listings.{all_filter}
use Rattle.brick_store.specs.BlockTables.{SlotBlocks}
use Rattle.brick_store.specs.Blocks.{resolved, cached, log_of, log_at}
use Rattle.brick_store.specs.Standing.{IsCached}
use Rattle.brick_store.proofs.Resolving.{stripe_at-resolved}
use Rattle.brick_store.specs.Logs.{held, held_version, start_held, log_held, IsHeld, AllHeld}

-- ---- lists

some_last : {X : Type 0} (ys : List X) (x : X) (xs : List X) → last (ys ++ x ∷ xs) ≡ Some (get_or (x ∷ xs) (length xs) x)
some_last ys x xs =
    let at : length (ys ++ x ∷ xs) - 1 ≡ length ys + length xs = omega (arith, length-append ys (x ∷ xs)) in
    rw at (slice_get-get_or (ys ++ x ∷ xs) (length ys + length xs) x (omega (arith, length-append ys (x ∷ xs)))
    ∙ ap Some (get_or-append-add ys (x ∷ xs) (length xs) x))

-- the last of two lists, one after the other
pub last-append : {X : Type 0} (ys xs : List X) → last (ys ++ xs) ≡ option_or (last xs) (last ys)
last-append ys [] = rw append-nil refl
last-append {X} ys (x ∷ xs) = some_last ys x xs ∙ sym (ap (λ (o : Option X). option_or o (last ys)) (some_last [] x xs))

-- what holds of all elements holds of the last one, and of one that is found
pub all_last : {X : Type 0} (P : X → Type 0) (xs : List X) (x : X) → AllByRecursion P xs → last xs ≡ Some x → P x
all_last P [] x all e = absurd (none-some x e)
all_last P (y ∷ []) x all e = subst P (same_Some _ _ e) all.0
all_last P (y ∷ z ∷ xs) x all e = all_last P (z ∷ xs) x all.1 (some_last [] z xs ∙ sym (some_last (y ∷ []) z xs) ∙ e)

pub all_found : {X : Type 0} (P : X → Type 0) (p : X → Bool) (xs : List X) (x : X) → AllByRecursion P xs → find p xs ≡ Some x → P x
all_found P p [] x all e = absurd (none-some x e)
all_found {X} P p (y ∷ xs) x all e = by (p y) (all_found P p xs x all.1) e
  where
    by : (b : Bool) → (find p xs ≡ Some x → P x) → cond b (Some y) (find p xs) ≡ Some x → P x
    by true later e' = subst P (same_Some _ _ e') all.0
    by false later e' = later e'

-- ---- the log of a stripe

module _ (zero : List ℕ) (blocks : SlotBlocks) (from_start : Bool) (added : List Entry) where
  abbrev log : List Version
  log = log_held zero blocks from_start added

  abbrev made : Entry → Version
  made = held_version zero blocks

  abbrev start : List Version
  start = start_held zero from_start

  newest-held : newest log ≡ option_or (option_map made (last added)) (newest start)
  newest-held = last-append start (map made added) ∙ ap (λ (o : Option Version). option_or o (newest start)) (last-map made added)

  pub newest_added : (e : Entry) → last added ≡ Some e → Some (made e) ≡ newest log
  newest_added e found = sym (newest-held ∙ ap (λ (o : Option Entry). option_or (option_map made o) (newest start)) found)

  pub newest_start : last added ≡ None → newest start ≡ newest log
  newest_start none = sym (newest-held ∙ ap (λ (o : Option Entry). option_or (option_map made o) (newest start)) none)

  below-held : (bound : Stamp) → below bound log ≡ option_or (option_map made (last (filter (λ e. stamp_below e.stamp bound) added)))
      (below bound start)
  below-held bound =
      ap (λ (vs : List Version). newest vs) (filter-append (is_below bound) start (map made added))
      ∙ last-append (filter (is_below bound) start) (filter (is_below bound) (map made added))
      ∙ ap (λ (vs : List Version). option_or (newest vs) (below bound start)) (filter-map made (is_below bound) added)
      ∙ ap (λ (o : Option Version). option_or o (below bound start)) (last-map made (filter (λ e. stamp_below e.stamp bound) added))

  pub below_added : (bound : Stamp) (e : Entry) → last (filter (λ e. stamp_below e.stamp bound) added) ≡ Some e → Some (made e) ≡ below bound log
  below_added bound e found = sym (below-held bound ∙ ap (λ (o : Option Entry). option_or (option_map made o) (below bound start)) found)

  pub below_start : (bound : Stamp) → last (filter (λ e. stamp_below e.stamp bound) added) ≡ None → below bound start ≡ below bound log
  below_start bound none = sym (below-held bound ∙ ap (λ (o : Option Entry). option_or (option_map made o) (below bound start)) none)

  at-held : (t : Stamp) → option_map block_of (find (has_stamp t) log) ≡ option_or (option_map block_of (find (has_stamp t) start))
      (option_map (λ e. held zero blocks e.block) (find (λ e. stamp_same e.stamp t) added))
  at-held t =
      ap (option_map block_of) (find-append (has_stamp t) start (map made added) ∙ ap (λ (o : Option Version). option_or (find (has_stamp t) start) o)
      (find-map made (has_stamp t) added))
      ∙ blocks_or (find (has_stamp t) start) (find (λ e. stamp_same e.stamp t) added)
    where
      blocks_or : (under : Option Version) (found : Option Entry) → option_map block_of (option_or under (option_map made found)) ≡ option_or
          (option_map block_of under) (option_map (λ e. held zero blocks e.block) found)
      blocks_or None None = refl
      blocks_or None (Some e) = refl
      blocks_or (Some v) found = refl

  pub at_start : (t : Stamp) (block : List ℕ) → Some block ≡ option_map block_of (find (has_stamp t) start) → Some block ≡ option_map block_of
      (find (has_stamp t) log)
  at_start t block is = sym (at-held t ∙ ap (λ (o : Option (List ℕ)). option_or o
      (option_map (λ e. held zero blocks e.block) (find (λ e. stamp_same e.stamp t) added))) (sym is))

  pub at_added : (t : Stamp) (found : Option ℕ) → None ≡ option_map block_of (find (has_stamp t) start)
      → found ≡ option_map block_of (find (has_stamp t) added)
      → option_map (held zero blocks) found ≡ option_map block_of (find (has_stamp t) log)
  at_added t found none is =
      ap (option_map (held zero blocks)) is ∙ mapped (find (has_stamp t) added)
      ∙ sym (at-held t ∙ ap (λ (o : Option (List ℕ)). option_or o
      (option_map (λ e. held zero blocks e.block) (find (λ e. stamp_same e.stamp t) added))) (sym none))
    where
      mapped : (o : Option Entry) → option_map (held zero blocks) (option_map block_of o) ≡ option_map (λ e. held zero blocks e.block) o
      mapped None = refl
      mapped (Some e) = refl

  -- what is found is held

  pub below_is_held : (bound : Stamp) (e : Entry) → AllHeld blocks added → last (filter (λ e. stamp_below e.stamp bound) added) ≡ Some e
      → IsHeld blocks e.block
  below_is_held bound e all found =
      all_last (λ (v : Entry). IsHeld blocks v.block) (filter (λ v. stamp_below v.stamp bound) added) e
      (all_filter (λ (v : Entry). IsHeld blocks v.block) (λ v. stamp_below v.stamp bound) added all) found

  pub found_is_held : (t : Stamp) (slot : ℕ) → AllHeld blocks added → option_map block_of (find (has_stamp t) added) ≡ Some slot → IsHeld blocks slot
  found_is_held t slot all found = by (find (has_stamp t) added) refl found
    where
      by : (o : Option Entry) → find (has_stamp t) added ≡ o → option_map block_of o ≡ Some slot → IsHeld blocks slot
      by None at is = absurd (none-some slot is)
      by (Some e) at is = subst (IsHeld blocks) (same_Some _ _ is) (all_found (λ (v : Entry). IsHeld blocks v.block) (has_stamp t) added e all at)

-- what lies in memory is held
pub cached_held : (size : ℕ) (blocks : SlotBlocks) (added : List Entry) → AllByRecursion (λ e. IsCached size blocks e.block) added
    → AllHeld blocks added
cached_held size blocks [] all = tt
cached_held size blocks (e ∷ added) all = (by all.0, cached_held size blocks added all.1)
  where
    by : IsCached size blocks e.block → IsHeld blocks e.block
    by (inl zero) = inl zero
    by (inr there) = inr (subst (λ (o : Option (List ℕ)). IsSome o) (sym there.1) refl)

-- what is held of a stripe is what is seen of it
pub log_seen : (size : ℕ) (zero : List ℕ) (blocks : SlotBlocks) (st : StateOf Entry) (p : Place) (from_start : Bool) (added : List Entry)
    → zero ≡ replicate size 0
    → (stripe_at st p).from_start ≡ from_start → (stripe_at st p).added ≡ added → log_held zero blocks from_start added ≡ log_at size
    (resolved (cached size blocks) st) p
log_seen size zero blocks st p from_start added zero_is from_is added_is =
    ap (λ (z : List ℕ). log_held z blocks from_start added) zero_is
    ∙ ap (λ (b : Bool). log_held (replicate size 0) blocks b added) (sym from_is)
    ∙ ap (λ (es : List Entry). log_held (replicate size 0) blocks (stripe_at st p).from_start es) (sym added_is)
    ∙ ap (λ (s : StripeOf Version). log_of size s) (sym (stripe_at-resolved (cached size blocks) st p))

pub order_seen : (block : ℕ → List ℕ) (st : StateOf Entry) (p : Place) → (stripe_at st p).order ≡ (stripe_at (resolved block st) p).order
order_seen block st p = ap (λ (s : StripeOf Version). s.order) (sym (stripe_at-resolved block st p))
