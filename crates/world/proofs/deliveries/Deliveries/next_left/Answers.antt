-- Each message of the operation is looked at, from the last one down.
use Rattle.std.proofs.Common.{◌≡◌, ℕ, ◌+◌, ◌-◌, ◌<◌, Bool, List, length, Option, Some, None, ap, sym, ◌∙◌, subst, arith}
use Rattle.std.specs.Prelude.{slice_get}
use Rattle.std.proofs.lemmas.Option.{slice_get-get_or, same_Some}
use Rattle.messages.specs.declared.packets.Packet.{Packet}
use Rattle.world.specs.Deliveries.{FindsLeft}
use Rattle.world.specs.Sendings.{CallKey, IsBehind}
use Rattle.world.proofs.ChainWalks.{none_behind, found_below, found_here, found_least}
use Rattle.world.proofs.deliveries.Deliveries.next_left.Goals as goal
use Rattle.world.proofs.deliveries.Deliveries.next_left.Goals.{then-is_left, else-is_left}

pub loop-end-init : goal.loop-end-init
loop-end-init c = record {
  within = omega (arith, c.end_of-end.ensures.within, c.args.sent.now.packets.ok.0);
  finds = none_behind c.args.self.now.reached.items c.args.operation c.args.bricks.now c.args.sent.now.packets.items c.end_of-end.result
      (subst (λ (call : CallKey). IsBehind c.args.sent.now.packets.items call c.end_of-end.result) c.call_of.ensures c.end_of-end.ensures.behind);
  least = λ k none. absurd (let never : None ≡ Some k = none in cc);
}

pub loop-end-preserved : goal.loop-end-preserved
loop-end-preserved c =
    let reached : List Bool = c.args.self.now.reached.items in
    let packets : List Packet = c.args.sent.now.packets.items in
    let place : ℕ = c.loop-end.end - 1 in
    let within : place < length packets = omega (arith, c.loop-end-test.true, c.loop-end.invariant.within) in
    let next : c.loop-end.end ≡ place + 1 = omega (arith, c.loop-end-test.true) in
    let at : slice_get packets place ≡ Some c.index.result.now =
    slice_get-get_or packets place c.index.result.now within ∙ ap Some (sym c.index.ensures) in
    record {
      within = omega (arith, c.end_before-end.ensures.before, within);
      finds = elim c.if-is_left.branch [
        | then-is_left w ↦
            subst (λ (found : Option ℕ). FindsLeft reached c.args.operation c.args.bricks.now c.end_before-end.result packets found) (sym w.found-is)
            (found_here reached c.args.operation c.args.bricks.now packets c.end_before-end.result place c.index.result.now c.end_before-end.ensures.before at
            (sym c.is_left.ensures ∙ w.if-is_left.true) c.end_before-end.ensures.between)
        | else-is_left w ↦
            subst (λ (found : Option ℕ). FindsLeft reached c.args.operation c.args.bricks.now c.end_before-end.result packets found) (sym w.found-is)
            (found_below reached c.args.operation c.args.bricks.now packets c.loop-end.end c.end_before-end.result place c.index.result.now next
            c.end_before-end.ensures.before at (sym c.is_left.ensures ∙ w.if-is_left.false) c.end_before-end.ensures.between c.loop-end.found
            c.loop-end.invariant.finds)
      ];
      least = elim c.if-is_left.branch [
        | then-is_left w ↦ λ k is.
            (let same : place ≡ k = same_Some place k (sym w.found-is ∙ is) in omega (arith, same, c.loop-end-test.true))
        | else-is_left w ↦ λ k is. c.loop-end.invariant.least k (sym w.found-is ∙ is)
      ];
    }

pub returns : goal.returns
returns c =
    found_least c.args.self.now.reached.items c.args.operation c.args.bricks.now c.args.sent.now.packets.items c.loop-end.end c.args.from
    (omega (arith, c.loop-end-test.false)) c.loop-end.found c.loop-end.invariant.least c.loop-end.invariant.finds
