-- The change of the stripe is that of the state.
use Rattle.std.proofs.Common.{nat_lt, ◌&&◌, Bool, cond, List, None, Some, subst, sym, ◌∙◌, arith}
use Rattle.std.proofs.lemmas.Bool.{lt-ltb}
use Rattle.brick_state.specs.Entries.{Entry}
use Rattle.brick_state.specs.States.{Place, StripeOf, stripe_in, stripe_at, with_order, ordered}
use Rattle.brick_state.specs.Folds.{is_full, adds_order}
use Rattle.brick_state.specs.Indexes.{state_of, limits_of}
use Rattle.brick_state.specs.Maps.{listed_in, AnswersAt}
use Rattle.brick_state.proofs.Applying.{order_answer, tested, with_stripes}
use Rattle.brick_state.proofs.Tallies.{full_fits}
use Rattle.brick_state.proofs.indexes.Index.put_order.Goals as goal

pub returns-clause-answer : goal.returns-clause-answer
returns-clause-answer c =
    let st = state_of c.args.self.now in
    let limits = limits_of c.args.self.now in
    let p = c.args.place in
    let t = c.args.stamp in
    let new = listed_in c.set_order.new.self.views in
    let mid = listed_in c.make_room.new.self.views in
    let told = subst (λ (b : Bool). AnswersAt p mid new (cond (adds_order t (stripe_in mid p) && b) None (Some (with_order t (stripe_in mid p)))) c.set_order.result)
    c.is_full-full.ensures c.set_order.ensures.answer in
    let here = subst (λ (xs : List (Place × StripeOf Entry)). AnswersAt p xs new
    (cond (adds_order t (stripe_in xs p) && is_full limits (with_stripes st xs)) None (Some (with_order t (stripe_in xs p)))) c.set_order.result)
    c.make_room.ensures.same told in
    let refused = adds_order t (stripe_at st p) && is_full limits st in
    tested (nat_lt p.0 64) (with_stripes st new) (cond refused None (Some (ordered p t st))) c.set_order.result (lt-ltb p.0 64 (omega arith))
    (order_answer p t st new refused c.set_order.result here)

pub set_order-requires-clause-fits : goal.set_order-requires-clause-fits
set_order-requires-clause-fits c = λ free.
    full_fits c.args.self.now.records (listed_in c.make_room.new.self.views) (sym c.is_full-full.ensures ∙ free) c.args.self.now.few
