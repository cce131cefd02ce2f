-- Each value that is read is one of the list's, and has to be a table.
use Rattle.std.proofs.Common.{◌≡◌, ◌+◌, List, drop, get_or, map, option_map, Some, None, refl, sym, ap, ◌∙◌, rules}
use Rattle.std.proofs.lemmas.List.{map-append}
use Rattle.toml.specs.Data.{as_table}
use Rattle.toml.specs.View.{view, items_view, table_view}
use Rattle.toml.specs.declared.value.Value.{Value}
use Rattle.layout.specs.Checks.{tables_in}
use Rattle.layout.proofs.Readings.{with_rest, one_read, none_read}
use Rattle.layout.proofs.tables.tables_in.Goals as goal

pub loop-value-preserved : goal.loop-value-preserved
loop-value-preserved c =
    let values : List Value = c.args.array.now.items in
    let i = c.loop-value.value-index in
    let value : Value = c.value-item.result in
    let here : value ≡ get_or values i value =
    c.value-item.is ∙ ap (λ (values : List Value). get_or values i value) c.deref-value-items.ensures.value in
    let read : as_table (view (get_or values i value)) ≡ Some (table_view c.in-Some.table.now) =
    ap (λ (value : Value). as_table (view value)) (sym here) ∙ sym c.as_table.ensures
    ∙ ap (λ table. option_map (λ table. table_view table.now) table) c.in-Some.is in
    c.loop-value.invariant
    ∙ one_read (λ values. tables_in (items_view values)) (λ value. as_table (view value)) (λ _ _. refl) values i value
    (map (λ table. table_view table.now) c.loop-value.tables.items) (table_view c.in-Some.table.now) (search rules) read
    ∙ ap (λ tables. with_rest tables (tables_in (items_view (drop (i + 1) values)))) (rw (c.in_ok-push.ensures.items, map-append))

pub returns-in_default : goal.returns-in_default
returns-in_default c =
    let values : List Value = c.args.array.now.items in
    let i = c.loop-value.value-index in
    let value : Value = c.value-item.result in
    let here : value ≡ get_or values i value =
    c.value-item.is ∙ ap (λ (values : List Value). get_or values i value) c.deref-value-items.ensures.value in
    let read : as_table (view (get_or values i value)) ≡ None =
    ap (λ (value : Value). as_table (view value)) (sym here) ∙ sym c.as_table.ensures
    ∙ ap (λ table. option_map (λ table. table_view table.now) table) c.in_default.is in
    sym (c.loop-value.invariant
    ∙ none_read (λ values. tables_in (items_view values)) (λ value. as_table (view value)) (λ _ _. refl) values i value
    (map (λ table. table_view table.now) c.loop-value.tables.items) (search rules) read)
