-- A stripe that nothing happened to is not seen.
use Rattle.std.proofs.Common.{ap, ◌∙◌, refl}
use Rattle.brick_state.specs.declared.stripes.Stripe.{Stripe}
use Rattle.brick_state.specs.Maps.{key_of, placed, listed}
use Rattle.brick_state.proofs.StripeMaps.{same_versions}
use Rattle.brick_state.proofs.ViewMaps.{new_placed}
use Rattle.brick_state.proofs.view_stripes.list.Goals as goal

pub returns-clause-same : goal.returns-clause-same
returns-clause-same c =
    let made : Stripe = record c.first-stripe.result { added = c.reserve.new.self } in
    ap (λ es. listed (placed (key_of c.args.place) es)) c.in_ok-insert.ensures.entries
    ∙ new_placed c.args.place c.args.stripes.now.entries made c.requires.new
    (same_versions c.first-stripe.result made refl refl c.reserve.ensures.same ∙ c.first-stripe.ensures)
