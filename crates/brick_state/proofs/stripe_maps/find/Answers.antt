-- What a view has at the number is what a clause sees at the place.
use Rattle.std.proofs.Common.{◌≡◌, sym, subst}
use Rattle.std.specs.Ordering.{nat_cmp}
use Rattle.std.specs.BTreeMap.{BTreeMap, get}
use Rattle.std.specs.Option.{option_copied}
use Rattle.brick_state.specs.declared.stripes.Stripe.{Stripe}
use Rattle.std.proofs.Common.{ℕ}
use Rattle.brick_state.proofs.StripeMaps.{listed_sorted}
use Rattle.brick_state.proofs.ViewMaps.{sorted-flat, table_finds, table_misses, no_table}
use Rattle.brick_state.proofs.stripe_maps.find.Goals as goal

pub returns-in-Some-clause-none : goal.returns-in-Some-clause-none
returns-in-Some-clause-none c = table_misses c.args.views.now c.len-count.ensures.ordered c.args.place c.in-Some.table.now (sym c.in-Some.ensures.value)
    c.get-in-Some.result
    (subst (λ (m : BTreeMap ℕ Stripe). get nat_cmp m c.args.place.2 ≡ option_copied c.get-in-Some.result) c.stripes.ensures (sym c.get-in-Some.ensures.value))

pub returns-in-Some-clause-some : goal.returns-in-Some-clause-some
returns-in-Some-clause-some c = table_finds c.args.views.now c.len-count.ensures.ordered c.args.place c.in-Some.table.now (sym c.in-Some.ensures.value)
    c.get-in-Some.result
    (subst (λ (m : BTreeMap ℕ Stripe). get nat_cmp m c.args.place.2 ≡ option_copied c.get-in-Some.result) c.stripes.ensures (sym c.get-in-Some.ensures.value))

pub returns-in-Some-clause-sorted : goal.returns-in-Some-clause-sorted
returns-in-Some-clause-sorted c = listed_sorted _ (sorted-flat c.args.views.now.entries c.len-count.ensures.ordered)

pub returns-in-None-clause-none : goal.returns-in-None-clause-none
returns-in-None-clause-none c = no_table c.args.views.now.entries c.len-count.ensures.ordered c.args.place (sym c.in-None.ensures.value)

pub returns-in-None-clause-sorted : goal.returns-in-None-clause-sorted
returns-in-None-clause-sorted c = listed_sorted _ (sorted-flat c.args.views.now.entries c.len-count.ensures.ordered)
