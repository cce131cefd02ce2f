-- A view without stripes is not seen.
use Rattle.std.proofs.Common.{sym, ap, ◌∙◌}
use Rattle.brick_state.specs.Maps.{flat, listed}
use Rattle.brick_state.proofs.StripeMaps.{none_is}
use Rattle.brick_state.proofs.ViewMaps.{new-flat}
use Rattle.brick_state.proofs.stripe_maps.make_table.Goals as goal

pub returns-clause-same : goal.returns-clause-same
returns-clause-same c =
    let none = none_is _ (sym c.contains_key.ensures ∙ c.if-contains_key.false) in
    ap (λ es. listed (flat es)) c.in_ok-insert.ensures.entries
    ∙ ap listed (new-flat c.args.key c.new.result c.args.views.now.entries none c.new.ensures)
