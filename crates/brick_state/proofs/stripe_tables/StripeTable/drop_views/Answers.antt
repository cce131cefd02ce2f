-- One view less that is not kept, and at the end none is left.
use Rattle.std.proofs.Common.{Bool, ◌≡◌, not, Option, List, [], subst, ap, ◌∙◌}
use Rattle.std.specs.Option.{IfNone}
use Rattle.std.specs.List.{filter}
use Rattle.brick_state.specs.declared.view_tables.ViewTable.{ViewTable}
use Rattle.brick_state.specs.Maps.{ViewKey, is_below_view}
use Rattle.brick_state.proofs.ViewMaps.{kept-removed, dropped-flat}
use Rattle.brick_state.proofs.stripe_tables.StripeTable.drop_views.Goals as goal

pub loop-key-preserved : goal.loop-key-preserved
loop-key-preserved c =
    let keep : ViewKey → Bool = λ k. not (is_below_view c.args.group c.args.first k) in
    let inv = c.loop-key.invariant in (
      c.drop_view.ensures.slots ∙ inv.0,
      ap (λ (es : List (ViewKey × ViewTable)). filter (λ e. keep e.0) es) c.drop_view.ensures.removed
          ∙ kept-removed keep c.in-Some.key c.loop-key.self.views.entries (ap not c.in-Some.ensures.some) ∙ inv.1,
    )

pub returns-clause-kept : goal.returns-clause-kept
returns-clause-kept c =
    let none : filter (λ e. is_below_view c.args.group c.args.first e.0) c.loop-key.self.views.entries ≡ [] =
    subst (λ (o : Option ViewKey). IfNone o (filter (λ e. is_below_view c.args.group c.args.first e.0) c.loop-key.self.views.entries ≡ []))
    c.in_default.is c.first_below.ensures.none in
    dropped-flat c.args.group c.args.first c.args.self.now.views.entries c.loop-key.self.views.entries none c.loop-key.invariant.1

pub loop-key-smaller : goal.loop-key-smaller
loop-key-smaller c = c.drop_view.ensures.fewer
