-- Each value that is read is one of the list's, and has to be a whole number.
use Rattle.std.proofs.Common.{◌≡◌, ◌+◌, List, drop, get_or, Some, None, refl, sym, ap, ◌∙◌, w64, rules}
use Rattle.std.proofs.lemmas.Int.{to_z-of_z}
use Rattle.toml.specs.Data.{as_integer}
use Rattle.toml.specs.View.{view, items_view}
use Rattle.toml.specs.declared.value.Value.{Value}
use Rattle.layout.specs.Checks.{integers_in}
use Rattle.layout.proofs.Readings.{with_rest, one_read, none_read}
use Rattle.layout.proofs.tables.integers_in.Goals as goal

pub loop-value-preserved : goal.loop-value-preserved
loop-value-preserved c =
    let values : List Value = c.args.array.now.items in
    let i = c.loop-value.value-index in
    let value : Value = c.value-item.result in
    let here : value ≡ get_or values i value =
    c.value-item.is ∙ ap (λ (values : List Value). get_or values i value) c.deref-value-items.ensures.value in
    let read : as_integer (view (get_or values i value)) ≡ Some c.in-Some.number =
    ap (λ (value : Value). as_integer (view value)) (sym here) ∙ sym c.as_integer.ensures
    ∙ c.in-Some.is in
    c.loop-value.invariant
    ∙ one_read (λ values. integers_in (items_view values)) (λ value. as_integer (view value)) (λ _ _. refl) values i value
    c.loop-value.numbers.items c.in-Some.number (search rules) read
    ∙ ap (λ numbers. with_rest numbers (integers_in (items_view (drop (i + 1) values)))) (rw (c.in_ok-push.ensures.items, to_z-of_z w64 c.in-Some.number (search rules)))

pub returns-in_default : goal.returns-in_default
returns-in_default c =
    let values : List Value = c.args.array.now.items in
    let i = c.loop-value.value-index in
    let value : Value = c.value-item.result in
    let here : value ≡ get_or values i value =
    c.value-item.is ∙ ap (λ (values : List Value). get_or values i value) c.deref-value-items.ensures.value in
    let read : as_integer (view (get_or values i value)) ≡ None =
    ap (λ (value : Value). as_integer (view value)) (sym here) ∙ sym c.as_integer.ensures
    ∙ c.in_default.is in
    sym (c.loop-value.invariant
    ∙ none_read (λ values. integers_in (items_view values)) (λ value. as_integer (view value)) (λ _ _. refl) values i value
    c.loop-value.numbers.items (search rules) read)
