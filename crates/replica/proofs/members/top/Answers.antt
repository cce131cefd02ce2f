-- The order stamp, or the newest version's where that is later.
use Rattle.std.proofs.Common.{◌≡◌, Bool, true, cond, Some, None, sym, ap, ◌∙◌}
use Rattle.fab_base.specs.declared.stamps.Stamp.{Stamp}
use Rattle.fab_base.specs.Stamps.{stamp_below}
use Rattle.version_log.specs.Versions.{version}
use Rattle.replica.proofs.Deciding.{top_is}
use Rattle.replica.proofs.members.top.Goals as goal

pub returns-in-None : goal.returns-in-None
returns-in-None c start = c.order-order.ensures ∙ sym (top_is c.args.part.now.order c.args.part.now.log start None c.in-None.ensures)

pub returns-then-is_below : goal.returns-then-is_below
returns-then-is_below c start =
    let order = c.args.part.now.order in
    let newest = c.in-Some.newest in
    let above : stamp_below order newest ≡ true = ap (λ (o : Stamp). stamp_below o newest) (sym c.order-order.ensures) ∙ sym c.is_below.ensures
    ∙ c.if-is_below.true in
    sym (top_is order c.args.part.now.log start (Some (version newest c.in-Some.field-0-1.now)) c.in-Some.ensures
    ∙ ap (λ (b : Bool). cond b newest order) above)

pub returns-else-is_below : goal.returns-else-is_below
returns-else-is_below c start =
    let order = c.args.part.now.order in
    let newest = c.in-Some.newest in
    let not_above = ap (λ (o : Stamp). stamp_below o newest) (sym c.order-order.ensures) ∙ sym c.is_below.ensures ∙ c.if-is_below.false in
    c.order-order.ensures ∙ sym (top_is order c.args.part.now.log start (Some (version newest c.in-Some.field-0-1.now)) c.in-Some.ensures
    ∙ ap (λ (b : Bool). cond b newest order) not_above)
