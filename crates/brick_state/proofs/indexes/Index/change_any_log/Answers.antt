-- The change of the stripe is that of the state.
use Rattle.std.proofs.Common.{nat_lt, ℕ, Bool, Option, List, subst, sym, ◌∙◌, arith}
use Rattle.std.proofs.lemmas.Bool.{lt-ltb}
use Rattle.brick_state.specs.Entries.{Entry}
use Rattle.brick_state.specs.States.{Place, stripe_in, StripeOf}
use Rattle.brick_state.specs.Folds.{place, is_full, log_changed, slot_limits, placed}
use Rattle.brick_state.specs.Indexes.{state_of, limits_of}
use Rattle.brick_state.specs.Maps.{listed_in, AnswersAt}
use Rattle.brick_state.proofs.Applying.{log_changed-slots, placed_answer, tested, with_stripes}
use Rattle.brick_state.proofs.Tallies.{full_fits}
use Rattle.brick_state.proofs.indexes.Index.change_any_log.Goals as goal

pub returns-clause-answer : goal.returns-clause-answer
returns-clause-answer c =
    let st = state_of c.args.self.now in
    let limits = limits_of c.args.self.now in
    let logged = c.args.logged.now in
    let p = place logged.group logged.view logged.stripe in
    let new = listed_in c.change_log.new.stripes.views in
    let mid = listed_in c.make_room.new.self.views in
    let answer = c.change_log.result in
    let told = subst (λ (b : Bool). AnswersAt p mid new (log_changed (slot_limits c.make_room.new.self.slots) b logged.change logged.stamp
    (stripe_in mid p)) answer) c.is_full-full.ensures c.change_log.ensures.answer in
    let slots = subst (λ (n : ℕ). AnswersAt p mid new (log_changed (slot_limits n) (is_full limits (with_stripes st mid)) logged.change logged.stamp
    (stripe_in mid p)) answer) c.make_room.ensures.slots told in
    let here = subst (λ (xs : List (Place × StripeOf Entry)). AnswersAt p xs new
    (log_changed (slot_limits limits.slots) (is_full limits (with_stripes st xs)) logged.change logged.stamp
    (stripe_in xs p)) answer) c.make_room.ensures.same slots in
    let counted = subst (λ (o : Option (StripeOf Entry)). AnswersAt p st.stripes new o answer)
    (log_changed-slots limits (is_full limits st) logged.change logged.stamp (stripe_in st.stripes p)) here in
    tested (nat_lt logged.group.0 64) (with_stripes st new)
    (placed p st (log_changed limits (is_full limits st) logged.change logged.stamp (stripe_in st.stripes p))) answer
    (lt-ltb logged.group.0 64 (omega arith)) (placed_answer p st new _ answer counted)

pub change_log-requires-clause-fits : goal.change_log-requires-clause-fits
change_log-requires-clause-fits c = λ free.
    full_fits c.args.self.now.records (listed_in c.make_room.new.self.views) (sym c.is_full-full.ensures ∙ free) c.args.self.now.few
