-- The records of a stripe bring it back.
use Rattle.std.proofs.Common.{◌≡◌, ℕ, ◌+◌, ◌-◌, ◌<◌, ◌≤◌, Bool, true, false, not, ◌&&◌, ◌||◌, cond, eqb, Option, Some, None, List, [], ◌∷◌, ◌++◌, length, refl, sym, ap, subst, ◌∙◌, append_assoc, arith}
use Rattle.std.proofs.lemmas.Bool.{lt-ltb, eqb-true, lt-leb}
use Rattle.std.proofs.lemmas.List.{length-append, append-nil, get_or_push, length_push}
use Rattle.std.proofs.lemmas.Option.{slice_get-get_or}
use Rattle.fab_base.specs.declared.stamps.Stamp.{Stamp}
use Rattle.fab_base.specs.Stamps.{stamp_same, first_stamp}
use Rattle.fab_base.proofs.StampOrder.{stamp_same_true}
use Rattle.stamp_store.specs.declared.log_records.LogChange.TheVariants.{Same, Slot}
use Rattle.brick_state.specs.declared.groups.Group.{Group}
use Rattle.brick_state.specs.Entries.{Entry}
use Rattle.brick_state.specs.States.{Place, StripeOf, StateOf, first_stripe, stripe_at, put, ordered, weight, live_in, last, newest_entry, with_order, with_added, with_bottom}
use Rattle.brick_state.specs.Folds.{Limits, applied, log_changed, same_added, is_above, is_full, is_slot, entry, adds_order}
use Rattle.brick_state.specs.Rewrites.{version_change, version_records, order_record, order_records, stripe_records, start_of}
use Rattle.brick_state.specs.KeptStates.{IsAbove, Rises, IsKeptStripe}
use Rattle.brick_state.proofs.StripeMaps.{is_first-first, stripe_is}
use Rattle.brick_state.proofs.Rewriting.{Leads, leads_append, leads_one}
use Rattle.brick_state.proofs.Growing.{Stripes, parts, IsPast, with_last, stripe_last, put_last, changed_last}

last_push : {X : Type 0} (xs : List X) (x : X) → last (xs ++ x ∷ []) ≡ Some x
last_push xs x =
    let at : length (xs ++ x ∷ []) - 1 ≡ length xs = omega (arith, length_push xs x) in
    rw at (slice_get-get_or (xs ++ x ∷ []) (length xs) x (omega (arith, length_push xs x)) ∙ ap Some (get_or_push xs x x (length xs) refl))

-- the stripe with one version more
abbrev grown : Option Entry → Entry → StripeOf Entry → StripeOf Entry
grown None e s = with_bottom e s
grown (Some under) e s = with_added e s

newest_grown : (under : Option Entry) (e : Entry) (s : StripeOf Entry) → newest_entry (grown under e s) ≡ Some e
newest_grown None e s = refl
newest_grown (Some u) e s =
    ap last (sym (append_assoc (cond s.from_start (record { stamp = first_stamp; block = 4294967295 } ∷ []) []) s.added (e ∷ [])))
    ∙ last_push (cond s.from_start (record { stamp = first_stamp; block = 4294967295 } ∷ []) [] ++ s.added) e

-- the version below is the newest
abbrev UnderIs : Option Entry → StripeOf Entry → Type 0
UnderIs None s = Unit {0}
UnderIs (Some under) s = newest_entry s ≡ Some under

-- the change that a version's record tells can be
change_is : (limits : Limits) (under : Option Entry) (e : Entry) (s : StripeOf Entry) → is_slot limits e.block ≡ true → UnderIs under s
    → IsAbove under e
    → log_changed limits false (version_change under e) e.stamp s ≡ Some (grown under e s)
unfolding log_changed
change_is limits None e s slot below above = rw slot (by (eqb (length s.added) 0))
  where
    by : (b : Bool) → cond (b && false) None (Some (with_bottom e s)) ≡ Some (with_bottom e s)
    by true = refl
    by false = refl
change_is limits (Some u) e s slot below above = by (eqb u.block e.block) refl
  where
    same : u.block ≡ e.block → same_added (newest_entry s) e.stamp s ≡ Some (with_added e s)
    same at =
        ap (λ (found : Option Entry). same_added found e.stamp s) below
        ∙ ap (λ (b : Bool). cond b (Some (with_added (entry e.stamp u.block) s)) None) above
        ∙ ap (λ (k : ℕ). Some (with_added (entry e.stamp k) s)) at

    own : cond (is_slot limits e.block) (cond (false || not (is_above (newest_entry s) e.stamp)) None (Some (with_added e s))) None ≡ Some
        (with_added e s)
    own =
        ap (λ (b : Bool). cond b (cond (false || not (is_above (newest_entry s) e.stamp)) None (Some (with_added e s))) None) slot
        ∙ ap (λ (found : Option Entry). cond (false || not (is_above found e.stamp)) None (Some (with_added e s))) below
        ∙ ap (λ (b : Bool). cond (false || not b) None (Some (with_added e s))) above

    by : (b : Bool) → eqb u.block e.block ≡ b → log_changed limits false (cond b Same (Slot false e.block)) e.stamp s ≡ Some (with_added e s)
    by true at = same (eqb-true _ _ at)
    by false at = own

-- the stripe with all versions
abbrev grow : Option Entry → StripeOf Entry → List Entry → StripeOf Entry
grow under s [] = s
grow under s (e ∷ entries) = grow (Some e) (grown under e s) entries

grow_some : (u : Entry) (s : StripeOf Entry) (entries : List Entry)
    → grow (Some u) s entries ≡ record { order = s.order; from_start = s.from_start; added = s.added ++ entries }
grow_some u s [] = stripe_is s s.order s.from_start (s.added ++ []) refl refl (sym (append-nil s.added))
grow_some u s (e ∷ entries) = grow_some e (with_added e s) entries
    ∙ ap (λ (xs : List Entry). record { order = s.order; from_start = s.from_start; added = xs }) (append_assoc s.added (e ∷ []) entries)

weight_grown : (under : Option Entry) (e : Entry) (s : StripeOf Entry) → weight (grown under e s) ≤ weight s + 1
weight_grown None e s = omega arith
weight_grown (Some u) e s = omega (arith, length-append s.added (e ∷ []))

-- the records of the versions bring them back
versions_lead : (limits : Limits) (n : ℕ) (groups : List Group) (p : Place) (done : Stripes) → p.0 < 64 → IsPast p done
    → (under : Option Entry) (s : StripeOf Entry) (entries : List Entry) → UnderIs under s → Rises limits under entries
    → live_in done + weight s + length entries ≤ limits.records
    → Leads limits (version_records p under entries) (parts n groups (with_last p s done)) (parts n groups (with_last p (grow under s entries) done))
unfolding version_records Leads
versions_lead limits n groups p done group past under s [] below rises room = refl
versions_lead limits n groups p done group past under s (e ∷ entries) below rises room = (
  parts n groups (with_last p (grown under e s) done),
  changed_last limits n groups p s (grown under e s) done under e group past (omega arith) (change_is limits under e s rises.1.0 below rises.0),
  versions_lead limits n groups p done group past (Some e) (grown under e s) entries (newest_grown under e s) rises.1.1
      (omega (arith, weight_grown under e s)),
)

-- a stripe that has an order stamp alone
abbrev with_stamp : Place → Stamp → StripeOf Entry
with_stamp p t = record { order = t; from_start = eqb p.1 1; added = [] }

nothing_last : (p : Place) (done : Stripes) → with_last p (first_stripe p) done ≡ done
nothing_last p done = ap (λ (b : Bool). cond b done (done ++ (p, first_stripe p) ∷ [])) (is_first-first Entry p)

-- the record of the order stamp brings it back
order_lead : (limits : Limits) (n : ℕ) (groups : List Group) (p : Place) (t : Stamp) (done : Stripes) → p.0 < 64 → IsPast p done
    → (stamp_same t first_stamp ≡ false → live_in done < limits.records)
    → Leads limits (order_records p t) (parts n groups done) (parts n groups (with_last p (with_stamp p t) done))
unfolding applied Leads
order_lead limits n groups p t done group past room = by (stamp_same t first_stamp) refl
  where
    there : stripe_at (parts n groups done) p ≡ first_stripe p
    there = ap (λ (stripes : Stripes). stripe_at (parts n groups stripes) p) (sym (nothing_last p done)) ∙ stripe_last p (first_stripe p) done past

    placed_at : put p (with_stamp p t) done ≡ with_last p (with_stamp p t) done
    placed_at = ap (put p (with_stamp p t)) (sym (nothing_last p done)) ∙ put_last p (first_stripe p) (with_stamp p t) done past

    no_more : (b : Bool) (x y : Option (StateOf Entry)) → cond (b && false) x y ≡ y
    no_more true x y = refl
    no_more false x y = refl

    one : stamp_same t first_stamp ≡ false → applied limits (order_record p t) (parts n groups done) ≡ Some
        (parts n groups (with_last p (with_stamp p t) done))
    one other =
        let st = parts n groups done in
        let free : is_full limits st ≡ false = lt-leb _ _ (room other) in
        ap (λ (b : Bool). cond b (cond (adds_order t (stripe_at st p) && is_full limits st) None (Some (ordered p t st))) None) (lt-ltb p.0 64 group)
        ∙ ap (λ (b : Bool). cond (adds_order t (stripe_at st p) && b) None (Some (ordered p t st))) free
        ∙ no_more (adds_order t (stripe_at st p)) None (Some (ordered p t st))
        ∙ ap (λ (s : StripeOf Entry). Some (parts n groups (put p (with_order t s) done))) there
        ∙ ap (λ (stripes : Stripes). Some (parts n groups stripes)) placed_at

    by : (b : Bool) → stamp_same t first_stamp ≡ b → Leads limits (cond b [] (order_record p t ∷ [])) (parts n groups done)
        (parts n groups (with_last p (with_stamp p t) done))
    by true at = ap (parts n groups) (sym (nothing_last p done) ∙ ap (λ (x : Stamp). with_last p (with_stamp p x) done)
        (sym (stamp_same_true t first_stamp at)))
    by false at = leads_one limits (order_record p t) (parts n groups done) (parts n groups (with_last p (with_stamp p t) done)) (one at)

-- all that is written of a stripe brings it back
grow_all : (limits : Limits) (p : Place) (s : StripeOf Entry) → IsKeptStripe limits p s
    → grow (start_of s.from_start) (with_stamp p s.order) s.added ≡ s
grow_all limits p s kept = by s.from_start s.added refl refl
  where
    by : (from : Bool) (added : List Entry) → s.from_start ≡ from → s.added ≡ added → grow (start_of from) (with_stamp p s.order) added ≡ s
    by true added f a =
        grow_some (record { stamp = first_stamp; block = 4294967295 }) (with_stamp p s.order) added
        ∙ sym (stripe_is s s.order (eqb p.1 1) added refl (f ∙ sym (kept.start f)) a)
    by false [] f a = sym (stripe_is s s.order (eqb p.1 1) [] refl (f ∙ sym (kept.no_start f a)) a)
    by false (e ∷ entries) f a = grow_some e (with_bottom e (with_stamp p s.order)) entries ∙ sym (stripe_is s s.order false (e ∷ entries) refl f a)

start_under : (limits : Limits) (p : Place) (s : StripeOf Entry) → IsKeptStripe limits p s → UnderIs (start_of s.from_start) (with_stamp p s.order)
start_under limits p s kept = by s.from_start refl
  where
    by : (from : Bool) → s.from_start ≡ from → UnderIs (start_of from) (with_stamp p s.order)
    by true f = rw (kept.start f) refl
    by false f = tt

weight_stamp : (p : Place) (s : StripeOf Entry) → weight (with_stamp p s.order) + length s.added ≡ weight s
weight_stamp p s = omega arith

room_for_order : (s : StripeOf Entry) (live records : ℕ) → live + weight s ≤ records → stamp_same s.order first_stamp ≡ false → live < records
room_for_order s live records room other =
    let w : weight s ≡ 1 + length s.added = ap (λ (b : Bool). cond b 0 1 + length s.added) other in
    omega arith

pub stripe_lead : (limits : Limits) (n : ℕ) (groups : List Group) (p : Place) (s : StripeOf Entry) (done : Stripes) → IsKeptStripe limits p s
    → IsPast p done → live_in done + weight s ≤ limits.records
    → Leads limits (stripe_records p s) (parts n groups done) (parts n groups (done ++ (p, s) ∷ []))
stripe_lead limits n groups p s done kept past room =
    let first = order_lead limits n groups p s.order done kept.group past (room_for_order s (live_in done) limits.records room) in
    let rest = versions_lead limits n groups p done kept.group past (start_of s.from_start) (with_stamp p s.order) s.added
    (start_under limits p s kept) kept.rises (omega (arith, weight_stamp p s)) in
    let both = leads_append limits (order_records p s.order) (version_records p (start_of s.from_start) s.added) _ _ _ first rest in
    let end : with_last p (grow (start_of s.from_start) (with_stamp p s.order) s.added) done ≡ done ++ (p, s) ∷ []
    = ap (λ (x : StripeOf Entry). with_last p x done) (grow_all limits p s kept)
    ∙ ap (λ (b : Bool). cond b done (done ++ (p, s) ∷ [])) kept.changed in
    subst (λ (stripes : Stripes). Leads limits (stripe_records p s) (parts n groups done) (parts n groups stripes)) end both
