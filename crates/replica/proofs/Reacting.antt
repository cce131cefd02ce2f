-- The machine's reactions, over what a store keeps.
use Rattle.std.proofs.Common.{◌≡◌, ◌≢◌, ℕ, ◌+◌, ◌-◌, Bool, true, false, not, ◌&&◌, cond, eqb, ltb, Option, Some, None, List, [], ◌∷◌, ◌++◌, length, map, refl, sym, ap, subst, ◌∙◌, arith, eq-eqb, append_assoc}
use Rattle.std.specs.List.Sorted.{IsStrictlySortedBy}
use Rattle.std.specs.Map.{keys_of}
use Rattle.std.specs.Prelude.{replicate}
use Rattle.std.proofs.lemmas.Bool.{eqb-true}
use Rattle.std.proofs.lemmas.List.{length-append, map-append}
use Rattle.std.proofs.lemmas.List.Filters.{length-filter_both}
use Rattle.fab_base.specs.declared.stamps.Stamp.{Stamp}
use Rattle.fab_base.specs.Stamps.{stamp_below, stamp_same, first_stamp}
use Rattle.fab_base.proofs.StampOrder.{stamp_below_first, stamp_below_irrefl, stamp_same_true}
use Rattle.messages.specs.declared.requests.Version.{Version}
use Rattle.messages.specs.declared.replies.Reply.{Reply}
use Rattle.messages.specs.declared.replies.Reply.TheVariants.{Full, Stored}
use Rattle.version_log.specs.Versions.{Version as Kept, version, is_below}
use Rattle.brick_state.specs.States.{Place, StripeOf, StateOf, place_cmp, stripe_at, with_stripe, with_order, with_added, with_collected, ordered, added, live}
use Rattle.brick_state.specs.States as states
use Rattle.brick_store.specs.Blocks.{log_of, adds_stamp, version_stamp}
use Rattle.protocol.specs.Replicas.{Replica, Reaction, stays, promised, stored, collected, unless_full, is_held, below, not_below}
use Rattle.protocol.specs.Nodes.{full_at, put, with_part}
use Rattle.messages.specs.declared.calls.Call.{Call}
use Rattle.replica.specs.Parts.{as_version, part_of, part_in, live_at}
use Rattle.replica.specs.Reactions.{place_of, part_at, IsReacted}
use Rattle.replica.proofs.Places.{put_here, put_other, live_put}
use Rattle.replica.proofs.Weights.{live_in_put, live_in_same}
use Rattle.replica.proofs.Dropping.{dropped, collected_held, shorter, log_left, drops_added}

differ : {A : Type 0} → false ≡ true → A
differ h = absurd cc

-- ---- parts

-- the part that a stripe is
abbrev part_from : ℕ → StripeOf Kept → Replica
part_from block s = part_of s.order (log_of block s) s.from_start

-- one part is changed, and no other
parts_put : (block : ℕ) (call : Call) (new : StripeOf Kept) (st : StateOf Kept) → IsStrictlySortedBy place_cmp (keys_of st.stripes) → (h v t : ℕ)
    → part_in block (with_stripe (place_of call) new st) h v t ≡ with_part (part_in block st) call (part_from block new) h v t
parts_put block call new st sorted h v t = by (eqb h g) refl
  where
    g : ℕ
    g = call.group.0

    e : ℕ
    e = call.view.0

    s : ℕ
    s = call.stripe.0

    changed : ℕ → ℕ → ℕ → Replica
    changed = part_in block (with_stripe (place_of call) new st)

    away : ((h, v, t) ≡ place_of call → ⊥) → changed h v t ≡ part_in block st h v t
    away other = ap (part_from block) (put_other (place_of call) (h, v, t) new st.stripes other)

    here : h ≡ g → v ≡ e → t ≡ s → changed h v t ≡ part_from block new
    here group view stripe =
        ap (λ (i : ℕ). changed i v t) group
        ∙ ap (λ (i : ℕ). changed g i t) view
        ∙ ap (λ (i : ℕ). changed g e i) stripe
        ∙ ap (part_from block) (put_here (place_of call) new st.stripes sorted)

    inmost : (d : Bool) → h ≡ g → v ≡ e → eqb t s ≡ d → changed h v t ≡ cond d (part_from block new) (part_in block st g e t)
    inmost true group view stripe = here group view (eqb-true t s stripe)
    inmost false group view stripe =
        away (λ same. differ (sym stripe ∙ eq-eqb t s (ap (λ (p : Place). p.2) same)))
        ∙ ap (λ (i : ℕ). part_in block st i v t) group ∙ ap (λ (i : ℕ). part_in block st g i t) view

    inside : (d : Bool) → h ≡ g → eqb v e ≡ d
        → changed h v t ≡ cond d (put (part_in block st g e) s (part_from block new)) (part_in block st g v) t
    inside true group view = inmost (eqb t s) group (eqb-true v e view) refl
    inside false group view =
        away (λ same. differ (sym view ∙ eq-eqb v e (ap (λ (p : Place). p.1) same))) ∙ ap (λ (i : ℕ). part_in block st i v t) group

    by : (b : Bool) → eqb h g ≡ b
        → changed h v t ≡ cond b (put (part_in block st g) e (put (part_in block st g e) s (part_from block new))) (part_in block st h) v t
    by true group = inside (eqb v e) (eqb-true h g group) refl
    by false group = away (λ same. differ (sym group ∙ eq-eqb h g (ap (λ (p : Place). p.0) same)))

-- a part put where it is changes nothing
parts_same : (f : ℕ → ℕ → ℕ → Replica) (call : Call) (h v t : ℕ)
    → f h v t ≡ with_part f call (f call.group.0 call.view.0 call.stripe.0) h v t
parts_same f call h v t = by (eqb h g) refl
  where
    g : ℕ
    g = call.group.0

    e : ℕ
    e = call.view.0

    s : ℕ
    s = call.stripe.0

    inmost : (d : Bool) → h ≡ g → v ≡ e → eqb t s ≡ d → f h v t ≡ cond d (f g e s) (f g e t)
    inmost true group view stripe = ap (λ (i : ℕ). f i v t) group ∙ ap (λ (i : ℕ). f g i t) view ∙ ap (f g e) (eqb-true t s stripe)
    inmost false group view stripe = ap (λ (i : ℕ). f i v t) group ∙ ap (λ (i : ℕ). f g i t) view

    inside : (d : Bool) → h ≡ g → eqb v e ≡ d → f h v t ≡ cond d (put (f g e) s (f g e s)) (f g v) t
    inside true group view = inmost (eqb t s) group (eqb-true v e view) refl
    inside false group view = ap (λ (i : ℕ). f i v t) group

    by : (b : Bool) → eqb h g ≡ b → f h v t ≡ cond b (put (f g) e (put (f g e) s (f g e s))) (f h) v t
    by true group = inside (eqb v e) (eqb-true h g group) refl
    by false group = refl

-- ---- a part that stays

pub reacted_stays : (block : ℕ) (call : Call) (reply : Option Reply) (st : StateOf Kept)
    → IsReacted block call st (record { replica = part_at block st call; reply = reply; adds = 0; drops = 0 }) reply st
reacted_stays block call reply st = record {
  told = refl;
  boot = refl;
  groups = refl;
  live = omega arith;
  live_in = live_in_same (live_at st) call (record { replica = part_at block st call; reply = reply; adds = 0; drops = 0 }) refl refl;
  parts = λ h v t. parts_same (part_in block st) call h v t;
}

-- ---- an order stamp

later_not_first : (order t : Stamp) → stamp_below order t ≡ true → stamp_same t first_stamp ≡ false
later_not_first order t later = by (stamp_same t first_stamp) refl
  where
    by : (b : Bool) → stamp_same t first_stamp ≡ b → b ≡ false
    by false is = refl
    by true is = differ (sym (stamp_below_first order) ∙ ap (stamp_below order) (sym (stamp_same_true t first_stamp is)) ∙ later)

-- it is one live record more where the one before it was the first
order_adds : (b c : Bool) (n was now : ℕ) → c ≡ false → now + (cond b 0 1 + n) ≡ was + (cond c 0 1 + n) → now ≡ was + cond (b && not c) 1 0 - 0
order_adds true false n was now is sum = omega arith
order_adds false false n was now is sum = omega arith
order_adds true true n was now is sum = differ (sym is)
order_adds false true n was now is sum = differ (sym is)

module _ (block : ℕ) (call : Call) (st : StateOf Kept) (sorted : IsStrictlySortedBy place_cmp (keys_of st.stripes)) where
  abbrev stripe : StripeOf Kept
  stripe = stripe_at st (place_of call)

  reacted_order : (t : Stamp) (reply : Reply) → stamp_below stripe.order t ≡ true → IsReacted block call st (promised (part_at block st call) t reply)
      (Some reply) (ordered (place_of call) t st)
  reacted_order t reply later = record {
    told = refl;
    boot = refl;
    groups = refl;
    live = order_adds (stamp_same stripe.order first_stamp) (stamp_same t first_stamp) (length stripe.added) (live st) (live (ordered (place_of call) t st))
        (later_not_first stripe.order t later)
        (live_put (place_of call) (with_order t stripe) st.stripes sorted);
    live_in = live_in_put call (with_order t stripe) st sorted (promised (part_at block st call) t reply)
        (λ now was. order_adds (stamp_same stripe.order first_stamp) (stamp_same t first_stamp) (length stripe.added) was now
        (later_not_first stripe.order t later));
    parts = parts_put block call (with_order t stripe) st sorted;
  }

  pub order_moves : (t : Stamp) → stamp_below stripe.order t ≡ true → part_in block (ordered (place_of call) t st) call.group.0 call.view.0 call.stripe.0 ≡ part_at block st call → ⊥
  order_moves t later same =
      let now : (part_in block (ordered (place_of call) t st) call.group.0 call.view.0 call.stripe.0).order ≡ t = ap (λ (x : StripeOf Kept). x.order)
      (put_here (place_of call) (with_order t stripe) st.stripes sorted) in
      let is : t ≡ stripe.order = sym now ∙ ap (λ (r : Replica). r.order) same in
      differ (sym (stamp_below_irrefl stripe.order) ∙ ap (stamp_below stripe.order) (sym is) ∙ later)

  -- ---- a version

  log_added : (v : Kept) → part_from block (with_added v stripe) ≡ record {
    order = stripe.order;
    log = map as_version (log_of block stripe) ++
        (as_version v ∷ []);
    from_start = stripe.from_start;
  }
  log_added v =
      let start = cond stripe.from_start (version first_stamp (replicate block 0) ∷ []) [] in
      ap (λ (vs : List Kept). part_of stripe.order vs stripe.from_start) (sym (append_assoc start stripe.added (v ∷ []))) ∙ ap (λ (vs : List Version). part_with vs)
      (map-append as_version (start ++ stripe.added) (v ∷ []))
    where
      part_with : List Version → Replica
      part_with vs = record { order = stripe.order; log = vs; from_start = stripe.from_start }

  reacted_store : (t : Stamp) (bytes : List ℕ) → IsReacted block call st (stored (part_at block st call) t bytes) (Some Stored)
      (added (place_of call) (version t bytes) st)
  reacted_store t bytes =
      let v = version t bytes in
      record {
        told = refl;
        boot = refl;
        groups = refl;
        live = omega (arith, live_put (place_of call) (with_added v stripe) st.stripes sorted, length-append stripe.added (v ∷ []));
        parts = λ h e i.
            subst (λ (r : Replica). part_in block (added (place_of call) v st) h e i ≡ with_part (part_in block st) call r h e i)
            (log_added v) (parts_put block call (with_added v stripe) st sorted h e i);
        live_in = live_in_put call (with_added v stripe) st sorted (stored (part_at block st call) t bytes)
            (λ now was sum. omega (arith, sum, length-append stripe.added (v ∷ [])));
      }

  pub store_moves : (t : Stamp) (bytes : List ℕ) → part_in block (added (place_of call) (version t bytes) st) call.group.0 call.view.0 call.stripe.0 ≡ part_at block st call → ⊥
  store_moves t bytes same =
      let v = version t bytes in
      let now = ap (part_from block) (put_here (place_of call) (with_added v stripe) st.stripes sorted) ∙ log_added v in
      let longer : length (map as_version (log_of block stripe) ++ (as_version v ∷ [])) ≡ length (map as_version (log_of block stripe)) = ap
      (λ (r : Replica). length r.log) (sym now ∙ same) in
      omega (arith, longer, length-append (map as_version (log_of block stripe)) (as_version v ∷ []))

  -- ---- what is dropped

  -- the part that is left
  part_left : (t : Stamp) → part_from block (with_collected version_stamp t stripe) ≡ (dropped (part_at block st call) t).replica
  part_left t =
      ap (λ (vs : List Version). record { order = stripe.order; log = vs; from_start = stripe.from_start && not (stamp_below first_stamp t) })
      (log_left block t stripe)

  -- it is the machine's, and the live records fall by the versions that were added
  pub reacted_collect : (t : Stamp) → is_held t (part_at block st call).log ≡ true
      → IsReacted block call st (collected (part_at block st call) t) None (states.collected version_stamp (place_of call) t st)
  reacted_collect t held =
      subst (λ (r : Reaction). IsReacted block call st r None (states.collected version_stamp (place_of call) t st))
      (sym (collected_held (part_at block st call) t held)) (record {
        told = refl;
        boot = refl;
        groups = refl;
        live = omega (
          arith,
          live_put (place_of call) (with_collected version_stamp t stripe) st.stripes sorted,
          drops_added block t stripe,
          length-filter_both (is_below t) (λ v. not (stamp_below v.stamp t)) (λ v. refl) stripe.added,
        );
        parts = λ h e i.
            subst (λ (r : Replica). part_in block (states.collected version_stamp (place_of call) t st) h e i ≡ with_part (part_in block st) call r h e i)
            (part_left t) (parts_put block call (with_collected version_stamp t stripe) st sorted h e i);
        live_in = live_in_put call (with_collected version_stamp t stripe) st sorted (dropped (part_at block st call) t)
            (λ now was sum. omega (
              arith,
              sum,
              drops_added block t stripe,
              length-filter_both (is_below t) (λ v. not (stamp_below v.stamp t)) (λ v. refl) stripe.added,
            ));
      })

  -- where something is below the stamp, the part changes
  pub collect_moves : (t : Stamp) → below t (part_at block st call).log ≢ []
      → part_in block (states.collected version_stamp (place_of call) t st) call.group.0 call.view.0 call.stripe.0 ≡ part_at block st call → ⊥
  collect_moves t some same =
      let now = ap (part_from block) (put_here (place_of call) (with_collected version_stamp t stripe) st.stripes sorted) ∙ part_left t in
      let long : length (not_below t (part_at block st call).log) ≡ length (part_at block st call).log = ap (λ (r : Replica). length r.log) (sym now ∙ same) in
      omega (arith, long, shorter t (part_at block st call).log some)

  -- ---- where there is room, and where there is none

  -- the reaction takes more records than it gives back
  abbrev grows : Reaction → Bool
  grows reaction = ltb reaction.drops reaction.adds

  pub unless_room : (records : ℕ) (part : Replica) (reaction : Reaction) → (grows reaction ≡ true → live st ≡ records → ⊥)
      → reaction ≡ unless_full (full_at records (live st)) part reaction
  unless_room records part reaction free = by (eqb (live st) records) refl
    where
      adding : (d : Bool) → grows reaction ≡ d → live st ≡ records → reaction ≡ cond d (stays part (Full (live st))) reaction
      adding true adds full = absurd (free adds full)
      adding false adds full = refl

      by : (b : Bool) → eqb (live st) records ≡ b → reaction ≡ unless_full (cond b (Some (live st)) None) part reaction
      by false at = refl
      by true at = adding (grows reaction) refl (eqb-true (live st) records at)

  pub unless_none : (records : ℕ) (part : Replica) (reaction : Reaction) → grows reaction ≡ true → live st ≡ records
      → stays part (Full (live st)) ≡ unless_full (full_at records (live st)) part reaction
  unless_none records part reaction adds full = rw (eq-eqb (live st) records full) (rw adds refl)

  abbrev Reacts : Reaction → Option Reply → StateOf Kept → Type 0
  Reacts reaction reply after = IsReacted block call st reaction reply after

  -- a promise takes a record where the store adds a stamp
  one_more : (b : Bool) → ltb 0 (cond b 1 0) ≡ b
  one_more true = refl
  one_more false = refl

  pub promise_grows : (t : Stamp) (reply : Reply) → grows (promised (part_at block st call) t reply) ≡ adds_stamp t stripe.order
  promise_grows t reply = one_more (adds_stamp t stripe.order)

  pub order_made : (records : ℕ) (t : Stamp) (reply : Reply) → stamp_below stripe.order t ≡ true
      → (adds_stamp t stripe.order ≡ true → live st ≡ records → ⊥)
      → Reacts (unless_full (full_at records (live st)) (part_at block st call) (promised (part_at block st call) t reply)) (Some reply)
      (ordered (place_of call) t st)
  order_made records t reply later free =
      subst (λ (r : Reaction). Reacts r (Some reply) (ordered (place_of call) t st))
      (unless_room records (part_at block st call) (promised (part_at block st call) t reply) (λ grows_so. free (sym (promise_grows t reply) ∙ grows_so)))
      (reacted_order t reply later)

  pub store_made : (records : ℕ) (t : Stamp) (bytes : List ℕ) → (true ≡ true → live st ≡ records → ⊥)
      → Reacts (unless_full (full_at records (live st)) (part_at block st call) (stored (part_at block st call) t bytes)) (Some Stored)
      (added (place_of call) (version t bytes) st)
  store_made records t bytes free =
      subst (λ (r : Reaction). Reacts r (Some Stored) (added (place_of call) (version t bytes) st))
      (unless_room records (part_at block st call) (stored (part_at block st call) t bytes) free) (reacted_store t bytes)

  pub none_made : (records : ℕ) (reaction : Reaction) → grows reaction ≡ true → live st ≡ records
      → Reacts (unless_full (full_at records (live st)) (part_at block st call) reaction) (Some (Full (live st))) st
  none_made records reaction adds full =
      subst (λ (r : Reaction). Reacts r (Some (Full (live st))) st) (unless_none records (part_at block st call) reaction adds full)
      (reacted_stays block call (Some (Full (live st))) st)
