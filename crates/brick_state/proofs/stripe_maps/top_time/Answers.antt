-- The greatest time of all stripes is that of the views.
use Rattle.std.proofs.Common.{sym, ◌∙◌}
use Rattle.brick_state.proofs.ViewMaps.{time-flat}
use Rattle.brick_state.proofs.stripe_maps.top_time.Goals as goal

pub returns : goal.returns
returns c = c.top_of_all.ensures ∙ sym (time-flat c.args.views.now.entries)
