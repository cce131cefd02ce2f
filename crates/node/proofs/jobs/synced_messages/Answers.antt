-- One brick more is told.
use Rattle.std.proofs.Common.{◌-◌, ◌+◌, [], ◌∷◌, ◌++◌, List, sym, ◌∙◌, ap, arith}
use Rattle.std.proofs.lemmas.List.{append_assoc, map-append}
use Rattle.fab_base.specs.declared.identities.BrickId.{BrickId}
use Rattle.messages.specs.declared.packets.Message.{Message}
use Rattle.messages.specs.declared.packets.Packet.{Packet}
use Rattle.protocol.specs.Nodes.{synced_packets}
use Rattle.coord_phase.specs.Messages.{packets_from}
use Rattle.node.proofs.Following.{one_told}
use Rattle.node.proofs.jobs.synced_messages.Goals as goal

pub loop-brick-preserved : goal.loop-brick-preserved
loop-brick-preserved c =
    let group = c.args.group in
    let view = c.args.view in
    let brick = c.loop-brick.brick in
    let so_far = c.loop-brick.messages.items in
    record {
      sends = λ me.
          let rest = synced_packets me group view (c.args.bricks - (brick + 1)) (brick + 1) in
          let one : Packet = record { from = me; to = record { 0 = brick }; message = Message.Synced group view } in
          let sent : BrickId × Message = (record { 0 = brick }, Message.Synced group view) in
          ap (λ (items : List (BrickId × Message)). packets_from me items ++ rest) c.in_ok-push.ensures.items
          ∙ ap (λ (front : List Packet). front ++ rest)
          (map-append (λ (m : BrickId × Message). record { from = me; to = m.0; message = m.1 }) so_far (sent ∷ []))
          ∙ append_assoc (packets_from me so_far) (one ∷ []) rest
          ∙ ap (λ (back : List Packet). packets_from me so_far ++ back) (sym (one_told me group view c.args.bricks brick c.loop-brick-test.true))
          ∙ c.loop-brick.invariant.sends me;
      count = omega (arith, c.in_ok-push.ensures.len, c.loop-brick.invariant.count);
    }
