-- A version that is added in its view is added among all stripes.
use Rattle.std.proofs.Common.{◌≡◌, sym, ap, subst, ◌∙◌, rules, arith}
use Rattle.std.proofs.lemmas.Option.{same_Some}
use Rattle.std.specs.Ordering.{nat_cmp}
use Rattle.std.specs.Map.{lookup}
use Rattle.std.specs.BTreeMap.{is_at}
use Rattle.brick_state.specs.declared.view_tables.ViewTable.{ViewTable}
use Rattle.brick_state.specs.States.{StripeOf, newest_entry, with_added}
use Rattle.brick_state.specs.Entries.{Entry}
use Rattle.brick_state.specs.Folds.{is_above}
use Rattle.std.proofs.Common.{true}
use Rattle.brick_state.specs.Maps.{key_of, placed, flat, listed}
use Rattle.brick_state.proofs.StripeMaps.{listed_sorted}
use Rattle.brick_state.proofs.ViewMaps.{part_within, same-flat, changed-flat, table_found, sorted-flat}
use Rattle.brick_state.proofs.stripe_maps.add_listed.Goals as goal

pub add_listed-requires : goal.add_listed-requires
add_listed-requires c = record {
  few = omega (arith, c.requires.few, part_within (key_of c.args.place) c.in-Some.table.now c.args.views.now.entries (sym c.in-Some.ensures.value));
}

pub returns-in-Some-clause-sorted : goal.returns-in-Some-clause-sorted
returns-in-Some-clause-sorted c = listed_sorted _ (sorted-flat c.args.views.now.entries c.get_mut.ensures.ordered)

pub returns-in-Some-clause-left : goal.returns-in-Some-clause-left
returns-in-Some-clause-left c = λ refused.
    ap (λ es. listed (flat es)) (c.get_mut.follows.holds c.add_listed.new.self).0
    ∙ same-flat (key_of c.args.place) c.in-Some.table.now c.add_listed.new.self c.args.views.now.entries (sym c.in-Some.ensures.value)
    (ap (λ es. listed (placed (key_of c.args.place) es)) (c.add_listed.ensures.left refused))

pub returns-in-Some-clause-room : goal.returns-in-Some-clause-room
returns-in-Some-clause-room c = λ room refused.
    let table : room.table ≡ c.in-Some.table.now = same_Some _ _ (sym room.there ∙ sym c.in-Some.ensures.value) in
    record {
      table = c.add_listed.new.self;
      there = ((c.get_mut.follows.holds c.add_listed.new.self).3 (search rules)).1;
      at = record {
        stripe = room.at.stripe;
        there = ap (lookup (is_at (nat_cmp c.args.place.2))) (c.add_listed.ensures.left refused ∙ ap (λ (t : ViewTable). t.stripes.entries) (sym table)) ∙ room.at.there;
        room = room.at.room;
      };
    }

pub returns-in-Some-clause-added : goal.returns-in-Some-clause-added
returns-in-Some-clause-added c = λ done.
    let extended = c.add_listed.ensures.added done in
    record {
      is = ap (λ es. listed (flat es)) (c.get_mut.follows.holds c.add_listed.new.self).0
          ∙ changed-flat c.args.views.now.entries c.get_mut.ensures.ordered c.args.place c.in-Some.table.now c.add_listed.new.self
          (λ s. with_added c.args.entry s) (sym c.in-Some.ensures.value) extended.is;
      above = subst (λ (s : StripeOf Entry). is_above (newest_entry s) c.args.entry.stamp ≡ true)
          (sym (table_found c.args.views.now.entries c.get_mut.ensures.ordered c.args.place c.in-Some.table.now extended.is.from
          (sym c.in-Some.ensures.value) extended.is.there)) extended.above;
    }

pub returns-in-None-clause-sorted : goal.returns-in-None-clause-sorted
returns-in-None-clause-sorted c = listed_sorted _ (sorted-flat c.args.views.now.entries c.get_mut.ensures.ordered)
