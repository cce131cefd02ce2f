-- One message more was put, with the one that teaches its receiver.
use Rattle.std.proofs.Common.{[], ◌∷◌, ◌++◌, List, sym, ◌∙◌, ap, arith}
use Rattle.std.proofs.lemmas.List.{append_assoc, length-append}
use Rattle.fab_base.specs.declared.identities.BrickId.{BrickId}
use Rattle.messages.specs.declared.packets.Message.{Message}
use Rattle.node.specs.Teaching.{each_taught}
use Rattle.node.proofs.Taught.{each_taught_more}
use Rattle.node.proofs.teaching.teaching.Goals as goal

pub loop-to-preserved : goal.loop-to-preserved
loop-to-preserved c =
    let group = c.args.group in
    let view = c.args.view.now in
    let yielded = c.loop-to.yielded in
    let sent : BrickId × Message = (c.in-Some.to, c.in-Some.message) in
    let teach : BrickId × Message = (c.in-Some.to, Message.Learn group view) in
    let longer = length-append yielded (sent ∷ []) in
    record {
      items = c.in_ok-push-2.ensures.items
          ∙ ap (λ (front : List (BrickId × Message)). front ++ (sent ∷ []))
          (c.in_ok-push.ensures.items ∙ (λ i. c.loop-to.invariant.items i ++ ((c.in-Some.to, c.in_ok-learn_message.ensures i) ∷ [])))
          ∙ append_assoc (each_taught group view yielded) (teach ∷ []) (sent ∷ []) ∙ sym (each_taught_more group view yielded sent);
      count = omega (arith, longer, c.in_ok-push-2.ensures.len, c.in_ok-push.ensures.len, c.loop-to.invariant.count);
    }
