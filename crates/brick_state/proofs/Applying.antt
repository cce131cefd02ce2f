-- What the answer of a change says.
use Rattle.std.proofs.Common.{◌≡◌, ℕ, ◌<◌, ◌||◌, Bool, true, false, not, cond, eqb, ltb, Option, Some, None, List, refl, sym, ap, subst, ◌∙◌}
use Rattle.std.proofs.lemmas.Bool.{lt-ltb}
use Rattle.stamp_store.specs.declared.log_records.Logged.{Logged}
use Rattle.stamp_store.specs.declared.log_records.LogChange.{LogChange}
use Rattle.stamp_store.specs.declared.log_records.LogChange.TheVariants.{Same, Collect, Slot}
use Rattle.fab_base.specs.declared.stamps.Stamp.{Stamp}
use Rattle.brick_state.specs.Entries.{Entry}
use Rattle.brick_state.specs.States.{Place, StripeOf, StateOf, stripe_at, newest_entry, with_order, with_added, ordered, added}
use Rattle.brick_state.specs.Folds.{Limits, slot_limits, log_changed, log_set, placed, place, entry, is_above, is_full}
use Rattle.brick_state.specs.Maps.{AnswersAt}
use Rattle.brick_state.specs.Indexes.{Answers}

or_right : (a b : Bool) → b ≡ true → (a || b) ≡ true
or_right true b h = refl
or_right false b h = h

-- of a log's change only the number of slots counts
pub log_changed-slots : (limits : Limits) (full : Bool) (change : LogChange) (t : Stamp) (s : StripeOf Entry)
    → log_changed (slot_limits limits.slots) full change t s ≡ log_changed limits full change t s
unfolding log_changed
log_changed-slots limits full Same t s = refl
log_changed-slots limits full Collect t s = refl
log_changed-slots limits full (Slot bottom slot) t s = refl

-- the state with these stripes
abbrev pub with_stripes : StateOf Entry → List (Place × StripeOf Entry) → StateOf Entry
with_stripes st stripes = record { boot = st.boot; groups = st.groups; stripes = stripes }

-- a change of a stripe is one of the state
pub placed_answer : (p : Place) (st : StateOf Entry) (new : List (Place × StripeOf Entry)) (changed : Option (StripeOf Entry)) (answer : Bool)
    → AnswersAt p st.stripes new changed answer → Answers (with_stripes st new) (placed p st changed) answer
placed_answer p st new None answer h = h.0
placed_answer p st new (Some s) answer h = (h.0, ap (with_stripes st) h.1)

-- an order stamp of a stripe is one of the state
pub order_answer : (p : Place) (t : Stamp) (st : StateOf Entry) (new : List (Place × StripeOf Entry)) (refused answer : Bool)
    → AnswersAt p st.stripes new (cond refused None (Some (with_order t (stripe_at st p)))) answer
    → Answers (with_stripes st new) (cond refused None (Some (ordered p t st))) answer
order_answer p t st new true answer h = h.0
order_answer p t st new false answer h = (h.0, ap (with_stripes st) h.1)

-- a change that can't be leaves the stripes as they were
pub placed_refused : (p : Place) (old new : List (Place × StripeOf Entry)) (changed : Option (StripeOf Entry)) (answer : Bool)
    → AnswersAt p old new changed answer → answer ≡ false → new ≡ old
placed_refused p old new None answer h refused = h.1
placed_refused p old new (Some s) answer h refused = absurd cc

-- a test that held
pub tested : (b : Bool) (now : StateOf Entry) (next : Option (StateOf Entry)) (answer : Bool) → b ≡ true → Answers now next answer
    → Answers now (cond b next None) answer
tested true now next answer is h = h
tested false now next answer is h = absurd cc

slot_changed : (limits : Limits) (full : Bool) (slot : ℕ) (t : Stamp) (s : StripeOf Entry) → full ≡ false → slot < limits.slots
    → is_above (newest_entry s) t ≡ true → log_changed limits full (Slot false slot) t s ≡ Some (with_added (entry t slot) s)
unfolding log_changed
slot_changed limits full slot t s free there above =
    ap (λ (b : Bool). cond b (cond (full || not (is_above (newest_entry s) t)) None (Some (with_added (entry t slot) s))) None)
    (or_right (eqb slot 4294967295) (ltb slot limits.slots) (lt-ltb slot limits.slots there))
    ∙ ap (λ (b : Bool). cond (b || not (is_above (newest_entry s) t)) None (Some (with_added (entry t slot) s))) free
    ∙ ap (λ (b : Bool). cond (not b) None (Some (with_added (entry t slot) s))) above

-- a version that is added above the newest one, with a slot of its own, is the change of the log
pub added_answer : (limits : Limits) (r : Logged) (slot : ℕ) (st now : StateOf Entry) → r.change ≡ Slot false slot → r.group.0 < 64
    → is_full limits st ≡ false → slot < limits.slots → is_above (newest_entry (stripe_at st (place r.group r.view r.stripe))) r.stamp ≡ true
    → now ≡ added (place r.group r.view r.stripe) (entry r.stamp slot) st → Answers now (log_set limits r st) true
added_answer limits r slot st now is group free there above made =
    tested (ltb r.group.0 64) now (placed p st (log_changed limits (is_full limits st) r.change r.stamp s)) true (lt-ltb r.group.0 64 group)
    (subst (λ (o : Option (StripeOf Entry)). Answers now (placed p st o) true) (sym can) (refl, made))
  where
    p : Place
    p = place r.group r.view r.stripe

    s : StripeOf Entry
    s = stripe_at st p

    can : log_changed limits (is_full limits st) r.change r.stamp s ≡ Some (with_added (entry r.stamp slot) s)
    can = ap (λ (c : LogChange). log_changed limits (is_full limits st) c r.stamp s) is
        ∙ slot_changed limits (is_full limits st) slot r.stamp s free there above
