-- The blocks that a list of the old format keeps are as long as the store's, for a version of another length ends the list.
use Rattle.std.proofs.Common.{◌≡◌, ℕ, zero, suc, ◌-◌, ◌≤◌, Bool, true, false, ◌&&◌, ◌||◌, not, cond, List, [], ◌∷◌, length, replicate, Option, Some, None, refl, arith}
use Rattle.std.specs.Prelude.{◌==◌, nat_le, nat_lt, slice_get, take, drop, option_and_then, unwrap_or}
use Rattle.std.specs.Option.{IfSome}
use Rattle.std.specs.List.{AllByRecursion, list_any}
use Rattle.std.specs.Map.{lookup, remove_entry}
use Rattle.std.specs.BTreeMap.{insert_entry, is_at}
use Rattle.std.proofs.lemmas.Bool.{cond_both}
use Rattle.std.proofs.lemmas.List.{length-replicate}
use Rattle.fab_base.specs.Stamps.{stamp_below, first_stamp}
use Rattle.fab_base.specs.declared.stamps.Stamp.{Stamp}
use Rattle.stamp_store.specs.declared.kept_records.Kept.TheVariants.{Boot, View, Ballots, Order}
use Rattle.stamp_store.specs.declared.log_records.LogChange.{LogChange}
use Rattle.stamp_store.specs.declared.log_records.LogChange.TheVariants.{Same, Collect, Slot}
use Rattle.stamp_store.specs.declared.log_records.Logged.{Logged}
use Rattle.stamp_store.specs.LogSpelling.{logged_of}
use Rattle.version_log.specs.Versions.{Version as Kept, version, newest, block_of, has_stamp}
use Rattle.frame_store.specs.declared.frames.Frame.{Frame}
use Rattle.brick_state.specs.declared.records.Record.{Record}
use Rattle.brick_state.specs.declared.records.Record.TheVariants as forms
use Rattle.brick_state.specs.States.{Place, StripeOf, StateOf, place_cmp, first_stripe, is_first, stripe_at, is_of_view, with_stripe, with_order, with_added, with_bottom, with_collected, ordered, empty}
use Rattle.brick_state.specs.Folds.{place}
use Rattle.brick_state.proofs.Listings.{all_insert, all_remove, all_filter}
use Rattle.brick_state.proofs.StripeMaps.{place_exact}
use Rattle.brick_store.specs.Blocks.{log_of, adds_stamp, version_stamp}
use Rattle.brick_store.specs.OldLists.{old_block_of, has_most, at_place, is_above_newest, block_put, newest_again, log_put, version_put, record_put, old_taken, old_onward, old_folded, old_state_in}
use Rattle.brick_store.specs.Records.{record_of}
use Rattle.brick_store.proofs.OldVersions.{block_long}
use Rattle.serving.proofs.Everywhere.{all_append}

-- a version that is kept has a short block
abbrev pub KeptShort : ℕ → Kept → Type 0
KeptShort size v = length v.block ≤ size

abbrev pub StripeShort : ℕ → StripeOf Kept → Type 0
StripeShort size s = AllByRecursion (KeptShort size) s.added

-- so has each version of each stripe
abbrev pub AllShort : ℕ → StateOf Kept → Type 0
AllShort size st = AllByRecursion (λ e. StripeShort size e.1) st.stripes

pub zeros_short : (n : ℕ) → length {A = ℕ} (replicate n 0) ≤ n
zeros_short n = let long : length {A = ℕ} (replicate n 0) ≡ n = length-replicate n 0 in omega (arith, long)

-- ---- stripes

pub at_short : (size : ℕ) (p : Place) (stripes : List (Place × StripeOf Kept)) → AllByRecursion (λ e. StripeShort size e.1) stripes
    → StripeShort size (unwrap_or (lookup (is_at (place_cmp p)) stripes) (first_stripe p))
at_short size p [] all = tt
at_short size p (e ∷ stripes) all = by (is_at (place_cmp p) e.0) (at_short size p stripes all.1)
  where
    by : (b : Bool) → StripeShort size (unwrap_or (lookup (is_at (place_cmp p)) stripes) (first_stripe p))
        → StripeShort size (unwrap_or (cond b (Some e.1) (lookup (is_at (place_cmp p)) stripes)) (first_stripe p))
    by true rest = all.0
    by false rest = rest

put_short : (size : ℕ) (p : Place) (s : StripeOf Kept) (st : StateOf Kept) → StripeShort size s → AllShort size st → AllShort size (with_stripe p s st)
put_short size p s st one all =
    cond_both (is_first p s) (remove_entry (is_at (place_cmp p)) st.stripes) (insert_entry place_cmp st.stripes p s)
    (λ (es : List (Place × StripeOf Kept)). AllByRecursion (λ e. StripeShort size e.1) es)
    (λ gone. all_remove (λ e. StripeShort size e.1) (is_at (place_cmp p)) st.stripes all)
    (λ there. all_insert (λ e. StripeShort size e.1) place_cmp place_exact p s st.stripes one all)

-- the stripe that is put, if one is
placed_short : (size : ℕ) (p : Place) (st : StateOf Kept) (s : Option (StripeOf Kept)) → IfSome s (StripeShort size) → AllShort size st
    → IfSome (at_place p st s) (AllShort size)
placed_short size p st None one all = tt
placed_short size p st (Some s) one all = put_short size p s st one all

-- ---- logs

log_short : (size : ℕ) (s : StripeOf Kept) → StripeShort size s → AllByRecursion (KeptShort size) (log_of size s)
log_short size s short =
    all_append (KeptShort size) (cond s.from_start (version first_stamp (replicate size 0) ∷ []) []) s.added
    (cond_both s.from_start (version first_stamp (replicate size 0) ∷ []) [] (AllByRecursion (KeptShort size)) (λ there. (zeros_short size, tt)) (λ gone. tt))
    short

get_short : (size : ℕ) (log : List Kept) (i : ℕ) → AllByRecursion (KeptShort size) log → IfSome (slice_get log i) (KeptShort size)
get_short size [] i all = tt
get_short size (v ∷ log) zero all = all.0
get_short size (v ∷ log) (suc i) all = get_short size log i all.1

-- ---- what a frame makes

block_short : (size : ℕ) (full bottom : Bool) (t : Stamp) (block : List ℕ) (s : StripeOf Kept) → length block ≤ size → StripeShort size s
    → IfSome (block_put size full bottom t block s) (StripeShort size)
block_short size full true t block s one all =
    cond_both ((length s.added == 0) && full) None (Some (with_bottom (version t block) s)) (λ o. IfSome o (StripeShort size)) (λ none. tt)
    (λ put. (one, tt))
block_short size full false t block s one all =
    cond_both (full || not (is_above_newest (newest (log_of size s)) t)) None (Some (with_added (version t block) s)) (λ o. IfSome o (StripeShort size))
    (λ none. tt) (λ put. all_append (KeptShort size) s.added (version t block ∷ []) all (one, tt))

again_short : (size : ℕ) (t : Stamp) (s : StripeOf Kept) → StripeShort size s → (top : Option Kept) → IfSome top (KeptShort size)
    → IfSome (newest_again top t s) (StripeShort size)
again_short size t s all None one = tt
again_short size t s all (Some top) one =
    cond_both (stamp_below top.stamp t) (Some (with_added (version t (block_of top)) s)) None (λ o. IfSome o (StripeShort size))
    (λ put. all_append (KeptShort size) s.added (version t (block_of top) ∷ []) all (one, tt)) (λ none. tt)

change_short : (size : ℕ) (full : Bool) (change : LogChange) (t : Stamp) (s : StripeOf Kept) → StripeShort size s
    → IfSome (log_put size full change t s) (StripeShort size)
change_short size full Same t s all =
    cond_both full None (newest_again (newest (log_of size s)) t s) (λ o. IfSome o (StripeShort size)) (λ none. tt)
    (λ put. again_short size t s all (newest (log_of size s)) (get_short size (log_of size s) (length (log_of size s) - 1) (log_short size s all)))
change_short size full Collect t s all =
    cond_both (list_any (has_stamp t) (log_of size s)) (Some (with_collected version_stamp t s)) None (λ o. IfSome o (StripeShort size))
    (λ put. all_filter (KeptShort size) (λ v. not (stamp_below (version_stamp v) t)) s.added all) (λ none. tt)
change_short size full (Slot bottom slot) t s all = tt

-- the state that is made, if one is
abbrev MadeShort : ℕ → Option (StateOf Kept) → Type 0
MadeShort size made = IfSome made (AllShort size)

kept_short : (size records : ℕ) (r : Record) (st : StateOf Kept) → AllShort size st → MadeShort size (record_put size records r st)
unfolding record_put
kept_short size records (forms.Kept (Boot count)) st all = all
kept_short size records (forms.Kept (View g view synced)) st all =
    cond_both (nat_lt g.0 64 && nat_le 2 view.number.0) (Some _) None (MadeShort size)
    (λ put. all_filter (λ e. StripeShort size e.1) (λ e. not (is_of_view g.0 (cond synced view.number.0 (view.number.0 - 1)) e.0)) st.stripes all)
    (λ none. tt)
kept_short size records (forms.Kept (Ballots g v promised accepted)) st all = cond_both (nat_lt g.0 64) (Some _) None (MadeShort size) (λ put. all) (λ none. tt)
kept_short size records (forms.Kept (Order g v s t)) st all =
    cond_both (nat_lt g.0 64) (cond (adds_stamp t (stripe_at st (place g v s)).order && has_most records st) None (Some (ordered (place g v s) t st))) None
    (MadeShort size)
    (λ there. cond_both (adds_stamp t (stripe_at st (place g v s)).order && has_most records st) None (Some (ordered (place g v s) t st)) (MadeShort size)
    (λ none. tt)
    (λ put. put_short size (place g v s) (with_order t (stripe_at st (place g v s))) st (at_short size (place g v s) st.stripes all) all))
    (λ none. tt)
kept_short size records (forms.Logged r) st all =
    let p : Place = place r.group r.view r.stripe in
    cond_both (nat_lt r.group.0 64) (at_place p st (log_put size (has_most records st) r.change r.stamp (stripe_at st p))) None (MadeShort size)
    (λ there. placed_short size p st _ (change_short size (has_most records st) r.change r.stamp (stripe_at st p) (at_short size p st.stripes all)) all)
    (λ none. tt)

told_short : (size records : ℕ) (r : Logged) (told : Bool × List ℕ) (st : StateOf Kept) → length told.1 ≤ size → AllShort size st
    → MadeShort size (version_put size records r told st)
told_short size records r told st one all =
    let p : Place = place r.group r.view r.stripe in
    cond_both (nat_lt r.group.0 64) (at_place p st (block_put size (has_most records st) told.0 r.stamp told.1 (stripe_at st p))) None (MadeShort size)
    (λ there. placed_short size p st _ (block_short size (has_most records st) told.0 r.stamp told.1 (stripe_at st p) one (at_short size p st.stripes all)) all)
    (λ none. tt)

version_short : (size records : ℕ) (r : Logged) (bytes : List ℕ) (st : StateOf Kept) → AllShort size st
    → MadeShort size (option_and_then (λ told. version_put size records r told st) (old_block_of size bytes))
version_short size records r bytes st all = by (old_block_of size bytes) refl
  where
    by : (o : Option (Bool × List ℕ)) → old_block_of size bytes ≡ o → MadeShort size (option_and_then (λ told. version_put size records r told st) o)
    by None at = tt
    by (Some told) at =
        let long : length told.1 ≡ size = block_long size bytes told.0 told.1 at in
        told_short size records r told st (omega (arith, long)) all

read_short : (size records : ℕ) (bytes : List ℕ) (st : StateOf Kept) → AllShort size st → (o : Option Logged)
    → MadeShort size (option_and_then (λ r. option_and_then (λ told. version_put size records r told st) (old_block_of size bytes)) o)
read_short size records bytes st all None = tt
read_short size records bytes st all (Some r) = version_short size records r bytes st all

record_short : (size records : ℕ) (st : StateOf Kept) → AllShort size st → (o : Option Record)
    → MadeShort size (option_and_then (λ r. record_put size records r st) o)
record_short size records st all None = tt
record_short size records st all (Some r) = kept_short size records r st all

frame_short : (size records : ℕ) (frame : Frame) (st : StateOf Kept) → AllShort size st → MadeShort size (old_taken size records frame st)
frame_short size records frame st all =
    cond_both (frame.kind == 5) _ _ (MadeShort size) (λ put. read_short size records (drop 30 frame.body) st all (logged_of 6 (take 30 frame.body)))
    (λ other. cond_both (frame.kind == 8) None (option_and_then (λ r. record_put size records r st) (record_of frame)) (MadeShort size) (λ none. tt)
    (λ put. record_short size records st all (record_of frame)))

fold_short : (size records : ℕ) (frames : List Frame) (st : StateOf Kept) → AllShort size st → AllShort size (old_folded size records frames st)
unfolding old_folded
fold_short size records [] st all = all
fold_short size records (frame ∷ frames) st all =
    by (old_taken size records frame st) (frame_short size records frame st all) (λ next made. fold_short size records frames next made)
  where
    by : (o : Option (StateOf Kept)) → MadeShort size o
        → ((next : StateOf Kept) → AllShort size next → AllShort size (old_folded size records frames next))
        → AllShort size (old_onward o st (old_folded size records frames))
    by None made more = all
    by (Some next) made more = more next made

pub old_short : (size records : ℕ) (frames : List Frame) → AllShort size (old_state_in size records frames)
old_short size records frames = fold_short size records frames empty tt
