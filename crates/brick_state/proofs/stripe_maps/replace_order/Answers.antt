-- An order stamp that is exchanged in its view is exchanged among all stripes.
use Rattle.std.proofs.Common.{Option, Some, None, sym, ap, ◌∙◌, arith}
use Rattle.std.specs.Option.{IfSome, IfNone}
use Rattle.fab_base.specs.declared.stamps.Stamp.{Stamp}
use Rattle.brick_state.specs.States.{with_order}
use Rattle.brick_state.specs.Maps.{key_of, placed, flat, listed}
use Rattle.brick_state.proofs.StripeMaps.{listed_sorted}
use Rattle.brick_state.proofs.ViewMaps.{part_within, same-flat, changed-flat, table_found, sorted-flat}
use Rattle.brick_state.proofs.stripe_maps.replace_order.Goals as goal

none_then : {P Q : Type 0} (found : Option Stamp) → (P → Q) → IfNone found P → IfNone found Q
none_then None from h = from h
none_then (Some t) from h = tt

some_then : {P Q : Stamp → Type 0} (found : Option Stamp) → ((t : Stamp) → P t → Q t) → IfSome found P → IfSome found Q
some_then None from h = tt
some_then (Some t) from h = from t h

pub replace_order-requires : goal.replace_order-requires
replace_order-requires c = record {
  few = omega (arith, c.requires.few, part_within (key_of c.args.place) c.in-Some.table.now c.args.views.now.entries (sym c.in-Some.ensures.value));
}

pub returns-in-Some-clause-sorted : goal.returns-in-Some-clause-sorted
returns-in-Some-clause-sorted c = listed_sorted _ (sorted-flat c.args.views.now.entries c.get_mut.ensures.ordered)

pub returns-in-Some-clause-none : goal.returns-in-Some-clause-none
returns-in-Some-clause-none c = none_then c.replace_order.result
    (λ same. ap (λ es. listed (flat es)) (c.get_mut.follows.holds c.replace_order.new.self).0
    ∙ same-flat (key_of c.args.place) c.in-Some.table.now c.replace_order.new.self c.args.views.now.entries (sym c.in-Some.ensures.value)
    (ap (λ m. listed (placed (key_of c.args.place) m.entries)) same)) c.replace_order.ensures.none

pub returns-in-Some-clause-replaced : goal.returns-in-Some-clause-replaced
returns-in-Some-clause-replaced c = some_then c.replace_order.result
    (λ t reordered. record {
      is = ap (λ es. listed (flat es)) (c.get_mut.follows.holds c.replace_order.new.self).0
          ∙ changed-flat c.args.views.now.entries c.get_mut.ensures.ordered c.args.place c.in-Some.table.now c.replace_order.new.self
          (λ s. with_order c.args.stamp s) (sym c.in-Some.ensures.value) reordered.is;
      was = reordered.was ∙ sym (ap (λ s. s.order) (table_found c.args.views.now.entries c.get_mut.ensures.ordered c.args.place c.in-Some.table.now
          reordered.is.from (sym c.in-Some.ensures.value) reordered.is.there));
    }) c.replace_order.ensures.replaced

pub returns-in-None-clause-sorted : goal.returns-in-None-clause-sorted
returns-in-None-clause-sorted c = listed_sorted _ (sorted-flat c.args.views.now.entries c.get_mut.ensures.ordered)
