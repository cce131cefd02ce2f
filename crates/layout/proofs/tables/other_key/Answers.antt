-- The keys of the map ascend, so the first that is not known is the least.
use Rattle.std.proofs.Common.{◌≡◌, ◌∷◌, List, String, Global, Some, ap, sym, subst, ◌∙◌, ℕ}
use Rattle.std.specs.List.Sorted.{IsStrictlySortedBy}
use Rattle.std.specs.String.{string_cmp}
use Rattle.layout.specs.Checks.{least_other, is_known}
use Rattle.layout.proofs.Keys.{texts_of, keys_of-view, sorted_rest, least_other-first, least_other-known}
use Rattle.layout.proofs.tables.other_key.Goals as goal

pub loop-key-init : goal.loop-key-init
loop-key-init c =
    let rest = c.into_iter-key-iterator.ensures.into_iter_gives ∙ c.keys-key-items.ensures.rest in (
      tt,
      tt,
      subst (λ (keys : List (String Global)). IsStrictlySortedBy string_cmp keys) (sym rest) c.keys-key-items.ensures.ordered,
      ap (least_other c.args.known.now) (keys_of-view c.args.table.now.entries)
          ∙ ap (λ (keys : List (String Global)). least_other c.args.known.now (texts_of keys)) (sym rest),
    )

pub loop-key-preserved : goal.loop-key-preserved
loop-key-preserved c =
    let step : c.loop-key.key-iterator ≡ c.in-Some.key.now ∷ c.next.new.self = c.in-Some.ensures.steps in (
      tt,
      tt,
      sorted_rest _ _ (subst (λ (keys : List (String Global)). IsStrictlySortedBy string_cmp keys) step c.loop-key.invariant.2),
      c.loop-key.invariant.3
          ∙ ap (λ (keys : List (String Global)). least_other c.args.known.now (texts_of keys)) step
          ∙ least_other-known c.args.known.now c.in-Some.key.now c.next.new.self
          (ap (λ (text : List ℕ). is_known c.args.known.now text) (sym c.as_str-key.ensures.value) ∙ sym c.is_known.ensures
          ∙ c.if-not-is_known.false),
    )

pub returns-then-not-is_known : goal.returns-then-not-is_known
returns-then-not-is_known c =
    let step : c.loop-key.key-iterator ≡ c.in-Some.key.now ∷ c.next.new.self = c.in-Some.ensures.steps in
    let sorted : IsStrictlySortedBy string_cmp (c.in-Some.key.now ∷ c.next.new.self) =
    subst (λ (keys : List (String Global)). IsStrictlySortedBy string_cmp keys) step c.loop-key.invariant.2 in
    ap (λ (text : List ℕ). Some text) c.as_str-key.ensures.value
    ∙ sym (c.loop-key.invariant.3
    ∙ ap (λ (keys : List (String Global)). least_other c.args.known.now (texts_of keys)) step
    ∙ least_other-first c.args.known.now c.in-Some.key.now c.next.new.self sorted
    (ap (λ (text : List ℕ). is_known c.args.known.now text) (sym c.as_str-key.ensures.value) ∙ sym c.is_known.ensures ∙ c.if-not-is_known.true))
