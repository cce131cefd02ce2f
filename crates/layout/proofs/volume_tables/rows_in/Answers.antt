-- Each value that is read is one of the list's, and has to be a row.
use Rattle.std.proofs.Common.{◌≡◌, ◌+◌, List, drop, get_or, map, option_map, Some, None, refl, sym, ap, ◌∙◌, rules}
use Rattle.std.proofs.lemmas.List.{map-append}
use Rattle.toml.specs.View.{view, items_view}
use Rattle.toml.specs.declared.value.Value.{Value}
use Rattle.layout.specs.Checks.{row_in, rows_in}
use Rattle.layout.proofs.Readings.{with_rest, one_read, none_read}
use Rattle.layout.proofs.volume_tables.rows_in.Goals as goal

pub loop-value-preserved : goal.loop-value-preserved
loop-value-preserved c =
    let values : List Value = c.args.array.now.items in
    let i = c.loop-value.value-index in
    let value : Value = c.value-item.result in
    let here : value ≡ get_or values i value =
    c.value-item.is ∙ ap (λ (values : List Value). get_or values i value) c.deref-value-items.ensures.value in
    let read : row_in (view (get_or values i value)) ≡ Some c.in-Some.row.items =
    ap (λ (value : Value). row_in (view value)) (sym here) ∙ sym c.in_ok-row.ensures
    ∙ ap (λ row. option_map (λ row. row.items) row) c.in-Some.is in
    c.loop-value.invariant
    ∙ one_read (λ values. rows_in (items_view values)) (λ value. row_in (view value)) (λ _ _. refl) values i value
    (map (λ row. row.items) c.loop-value.rows.items) c.in-Some.row.items (search rules) read
    ∙ ap (λ rows. with_rest rows (rows_in (items_view (drop (i + 1) values)))) (rw (c.in_ok-push.ensures.items, map-append))

pub returns-in_default : goal.returns-in_default
returns-in_default c =
    let values : List Value = c.args.array.now.items in
    let i = c.loop-value.value-index in
    let value : Value = c.value-item.result in
    let here : value ≡ get_or values i value =
    c.value-item.is ∙ ap (λ (values : List Value). get_or values i value) c.deref-value-items.ensures.value in
    let read : row_in (view (get_or values i value)) ≡ None =
    ap (λ (value : Value). row_in (view value)) (sym here) ∙ sym c.in_ok-row.ensures
    ∙ ap (λ row. option_map (λ row. row.items) row) c.in_default.is in
    sym (c.loop-value.invariant
    ∙ none_read (λ values. rows_in (items_view values)) (λ value. row_in (view value)) (λ _ _. refl) values i value
    (map (λ row. row.items) c.loop-value.rows.items) (search rules) read)
