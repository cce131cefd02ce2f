-- Each message of the operation is looked at, from the last one down.
use Rattle.std.proofs.Common.{◌≡◌, ℕ, ◌-◌, ◌<◌, ◌≤◌, true, false, List, length, Some, get_or, ⊎_elim, sym, ap, ◌∙◌, subst, arith}
use Rattle.std.specs.Prelude.{slice_get}
use Rattle.std.proofs.lemmas.Bool.{cases_lt}
use Rattle.std.proofs.lemmas.Option.{slice_get-get_or, same_Some}
use Rattle.messages.specs.declared.packets.Packet.{Packet}
use Rattle.world.specs.Deliveries.{is_of}
use Rattle.world.specs.Sendings.{CallKey, IsBehind}
use Rattle.world.proofs.ChainWalks.{of_call}
use Rattle.world.proofs.deliveries.Deliveries.is_untouched.Goals as goal
use Rattle.world.proofs.deliveries.Deliveries.is_untouched.Goals.{else-is_of-via-then-is_of+else-is_reached, else-is_of-via-else-is_of}

pub loop-end-init : goal.loop-end-init
loop-end-init c = record {
  within = omega (arith, c.end_of-end.ensures.within, c.args.sent.now.packets.ok.0);
  none = λ k packet least at of.
      (let behind : IsBehind c.args.sent.now.packets.items (c.args.operation.brick.0, c.args.operation.boot, c.args.operation.seq) c.end_of-end.result =
      subst (λ (call : CallKey). IsBehind c.args.sent.now.packets.items call c.end_of-end.result) c.call_of.ensures c.end_of-end.ensures.behind in
      let less : k < c.end_of-end.result = behind k packet at (of_call _ _ _ packet of) in
      absurd (omega (arith, less, least)));
}

pub returns-then-is_reached : goal.returns-then-is_reached
returns-then-is_reached c =
    let within : c.loop-end.end - 1 < length c.args.sent.now.packets.items = omega (arith, c.loop-end-test.true, c.loop-end.invariant.within) in (
      c.loop-end.end - 1,
      c.index.result.now,
      slice_get-get_or c.args.sent.now.packets.items (c.loop-end.end - 1) c.index.result.now within ∙ ap Some (sym c.index.ensures),
      sym c.is_of.ensures ∙ c.if-is_of.true,
      sym c.is_reached.ensures ∙ c.if-is_reached.true,
    )

pub loop-end-preserved : goal.loop-end-preserved
loop-end-preserved c =
    let packets : List Packet = c.args.sent.now.packets.items in
    let place : ℕ = c.loop-end.end - 1 in
    let within : place < length packets = omega (arith, c.loop-end-test.true, c.loop-end.invariant.within) in
    let at : slice_get packets place ≡ Some c.index.result.now =
    slice_get-get_or packets place c.index.result.now within ∙ ap Some (sym c.index.ensures) in
    record {
      within = omega (arith, c.end_before-end.ensures.before, within);
      none = λ k packet least found of. ⊎_elim
          (λ (under : k < place).
          let lower : k < c.end_before-end.result = c.end_before-end.ensures.between k packet found (of_call _ _ _ packet of) under in
          absurd (omega (arith, lower, least)))
          (λ (over : place ≤ k). ⊎_elim
          (λ (here : k < c.loop-end.end).
          let same : place ≡ k = omega (arith, here, over, c.loop-end-test.true) in
          let this : packet ≡ c.index.result.now = same_Some packet c.index.result.now (sym found ∙ ap (slice_get packets) (sym same) ∙ at) in
          ap (λ (i : ℕ). get_or c.args.self.now.reached.items i false) (sym same)
          ∙ elim c.else-is_of.branch [
            | else-is_of-via-then-is_of+else-is_reached w ↦ sym w.is_reached.ensures ∙ w.if-is_reached.false
            | else-is_of-via-else-is_of w ↦
                absurd (let never : true ≡ false =
                sym of ∙ ap (is_of c.args.operation.brick.0 c.args.operation.boot c.args.operation.seq) this ∙ sym c.is_of.ensures ∙ w.if-is_of.false in cc)
          ])
          (λ (later : c.loop-end.end ≤ k). c.loop-end.invariant.none k packet later found of) (cases_lt k c.loop-end.end)) (cases_lt k place);
    }

pub returns : goal.returns
returns c k packet at of = c.loop-end.invariant.none k packet (omega (arith, c.loop-end-test.false)) at of
