-- One view more, and at the end all of them.
use Rattle.std.proofs.Common.{◌≡◌, ℕ, max, map, refl, sym, ap, ◌∙◌, Bor}
use Rattle.std.specs.BTreeMap.{values}
use Rattle.std.proofs.lemmas.Map.Iter.{iter_end}
use Rattle.brick_state.specs.declared.view_tables.ViewTable.{ViewTable}
use Rattle.brick_state.specs.Times.{greatest}
use Rattle.brick_state.specs.ViewStripes.{time_of}
use Rattle.brick_state.proofs.Greatest.{greatest-push, greatest-map}
use Rattle.brick_state.proofs.stripe_maps.top_of_all.Goals as goal

pub loop-table-init : goal.loop-table-init
unfolding greatest
loop-table-init c = refl

pub loop-table-preserved : goal.loop-table-preserved
loop-table-preserved c =
    c.max-top.ensures ∙ (ap (λ (n : ℕ). max n c.top_time.result) c.loop-table.invariant
    ∙ ap (max (greatest (λ (t : Bor ViewTable). time_of t.now.stripes.entries) c.loop-table.yielded)) c.top_time.ensures)
    ∙ sym (greatest-push (λ (t : Bor ViewTable). time_of t.now.stripes.entries) c.loop-table.yielded c.in-Some.table)

pub returns : goal.returns
returns c =
    let all : map (λ (t : Bor ViewTable). t.now) c.loop-table.yielded ≡ values c.args.views.now = (iter_end (λ (t : Bor ViewTable). t.now)
    (values c.args.views.now) _ _ _ _ _ (c.into_iter-table-iterator.ensures.into_iter_gives
    ∙ c.values-table-items.ensures.rest) c.loop-table.yielded_by c.in-None.is c.next.ensures.steps).0 in
    c.loop-table.invariant ∙ sym (greatest-map (λ t. time_of t.stripes.entries) (λ (t : Bor ViewTable). t.now) c.loop-table.yielded)
    ∙ ap (greatest (λ t. time_of t.stripes.entries)) all
