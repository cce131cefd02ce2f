-- Each number that is read is one of the list's, and has to be the number of a brick.
use Rattle.std.proofs.Common.{◌≡◌, ◌+◌, drop, get_or, pos, Some, None, refl, sym, ap, ◌∙◌, w64, rules}
use Rattle.std.proofs.lemmas.Int.{to_z-of_z}
use Rattle.layout.specs.Checks.{brick_in, bricks_in}
use Rattle.layout.proofs.Readings.{with_rest, one_read, none_read}
use Rattle.layout.proofs.tables.bricks_in.Goals as goal

pub loop-number-preserved : goal.loop-number-preserved
loop-number-preserved c =
    let numbers = c.args.numbers.now in
    let z = get_or numbers c.loop-number.number-index (pos 0) in
    let read : brick_in c.args.bricks z ≡ Some c.in-Some.brick =
    ap (brick_in c.args.bricks) (sym (to_z-of_z w64 z (search rules))) ∙ sym c.brick_in.ensures ∙ c.in-Some.is in
    c.loop-number.invariant
    ∙ one_read (bricks_in c.args.bricks) (brick_in c.args.bricks) (λ _ _. refl) numbers c.loop-number.number-index (pos 0)
    c.loop-number.members.items c.in-Some.brick (search rules) read
    ∙ ap (λ members. with_rest members (bricks_in c.args.bricks (drop (c.loop-number.number-index + 1) numbers))) (sym c.in_ok-push.ensures.items)

pub returns-in_default : goal.returns-in_default
returns-in_default c =
    let numbers = c.args.numbers.now in
    let z = get_or numbers c.loop-number.number-index (pos 0) in
    let read : brick_in c.args.bricks z ≡ None =
    ap (brick_in c.args.bricks) (sym (to_z-of_z w64 z (search rules))) ∙ sym c.brick_in.ensures ∙ c.in_default.is in
    sym (c.loop-number.invariant
    ∙ none_read (bricks_in c.args.bricks) (brick_in c.args.bricks) (λ _ _. refl) numbers c.loop-number.number-index (pos 0)
    c.loop-number.members.items (search rules) read)
