-- What is left of the view gives the records that are left.
use Rattle.std.proofs.Common.{ℕ, List, ◌++◌, sym, ap, ◌∙◌, append_assoc}
use Rattle.std.proofs.lemmas.List.{append-nil}
use Rattle.brick_state.specs.declared.stripes.Stripe.{Stripe}
use Rattle.brick_state.specs.States.{Place, stripe_of}
use Rattle.brick_state.specs.Maps.{listed, placed}
use Rattle.brick_state.specs.Rewrites.{stripe_records, stripes_records}
use Rattle.brick_state.proofs.LiveRecords.{stripes_step, stripes_none}
use Rattle.brick_state.proofs.rewrites.put_table.Goals as goal

pub loop-number-preserved : goal.loop-number-preserved
unfolding placed
loop-number-preserved c =
    let k = c.args.key in
    let p : Place = (k.0, k.1, c.in-Some.number.now) in
    let s = c.in-Some.stripe.now in
    let rest = c.next.new.self in
    let done = c.loop-number.records.items in
    ap (λ xs. xs ++ stripes_records (listed (placed k rest))) c.in_ok-put_stripe.ensures
    ∙ append_assoc done (stripe_records p (stripe_of s)) (stripes_records (listed (placed k rest)))
    ∙ ap (λ xs. done ++ xs) (sym (stripes_step p s (placed k rest)))
    ∙ ap (λ (es : List (ℕ × Stripe)). done ++ stripes_records (listed (placed k es))) (sym c.in-Some.ensures.steps)
    ∙ c.loop-number.invariant

pub returns : goal.returns
unfolding placed
returns c =
    let done = c.loop-number.records.items in
    sym (append-nil done) ∙ ap (λ xs. done ++ xs) (sym stripes_none)
    ∙ ap (λ (es : List (ℕ × Stripe)). done ++ stripes_records (listed (placed c.args.key es))) (sym c.in-None.ensures.steps.0)
    ∙ c.loop-number.invariant
