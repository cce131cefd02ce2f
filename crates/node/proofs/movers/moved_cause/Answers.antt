-- The replies that count, with this one, are enough or too few.
use Rattle.std.proofs.Common.{◌<◌, ◌≤◌, ◌+◌, ◌++◌, ◌∷◌, [], List, length, refl, sym, ◌∙◌, ap, arith}
use Rattle.fab_base.specs.Layouts.{Group, seat_in}
use Rattle.messages.specs.declared.replies.Reply.TheVariants.{Moved}
use Rattle.protocol.specs.declared.phases.Counted.{Counted}
use Rattle.protocol.specs.Coordinators.{lowest_mover, needed}
use Rattle.node.proofs.Moved.{no_member, waits_on, ends_on}
use Rattle.node.proofs.movers.moved_cause.Goals as goal

pub returns-in_default : goal.returns-in_default
returns-in_default c =
    no_member c.args.op.now.state c.args.from c.args.view
    (ap (λ (group : Group). seat_in group.members c.args.from.0) (sym c.asked.ensures) ∙ sym c.in_default.ensures.seat)

pub returns-then-counted-needed : goal.returns-then-counted-needed
returns-then-counted-needed c =
    let op = c.args.op.now.state in
    let here = ap (λ (group : Group). seat_in group.members c.args.from.0) (sym c.asked.ensures) ∙ sym c.in-Some.ensures.seat in
    let counted = ap (λ (xs : List Counted). length xs) c.counted-counted.ensures in
    let few : length op.counted + 1 < needed op = omega (arith, counted, c.needed.ensures.value, c.if-counted-needed.true) in
    waits_on op c.args.from c.args.view c.in-Some.seat here few

pub returns : goal.returns
returns c =
    let op = c.args.op.now.state in
    let here = ap (λ (group : Group). seat_in group.members c.args.from.0) (sym c.asked.ensures) ∙ sym c.in-Some.ensures.seat in
    let same = c.counted-counted.ensures in
    let counted = ap (λ (xs : List Counted). length xs) same in
    let many : needed op ≤ length op.counted + 1 = omega (arith, counted, c.needed.ensures.value, c.if-counted-needed.false) in
    ends_on op c.args.from c.args.view c.in-Some.seat here many c.lowest_mover.result
    (λ lineage.
    let told : Counted = record { seat = c.in-Some.seat; brick = c.args.from; reply = Moved c.args.view lineage } in
    ap (λ (xs : List Counted). lowest_mover (xs ++ (told ∷ []))) (sym same) ∙ c.lowest_mover.ensures told refl)
