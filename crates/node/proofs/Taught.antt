-- Messages that teach views, as the machine's packets.
use Rattle.std.proofs.Common.{◌≡◌, ◌<◌, ◌+◌, ◌-◌, ℕ, suc, Bool, true, false, if◌then◌else◌, nat_lt, List, [], ◌∷◌, ◌++◌, refl, ap, arith}
use Rattle.fab_base.specs.declared.identities.BrickId.{BrickId}
use Rattle.fab_base.specs.declared.identities.GroupId.{GroupId}
use Rattle.fab_base.specs.declared.member_lists.View.{View}
use Rattle.messages.specs.declared.packets.Message.{Message}
use Rattle.messages.specs.declared.packets.Packet.{Packet}
use Rattle.protocol.specs.Nodes as machine
use Rattle.protocol.specs.Nodes.{learn_packets}
use Rattle.coord_phase.specs.Messages.{packets_from}
use Rattle.node.specs.Teaching.{each_taught, teaching}

-- each message right after one that teaches its receiver the view
each_taught_is : (me : BrickId) (group : GroupId) (view : View) (messages : List (BrickId × Message))
    → packets_from me (each_taught group view messages) ≡ machine.each_taught group view (packets_from me messages)
each_taught_is me group view [] = refl
each_taught_is me group view (sent ∷ messages) =
    ap (λ (rest : List Packet). record { from = me; to = sent.0; message = Message.Learn group view } ∷ (record { from = me; to = sent.0; message = sent.1 } ∷ rest))
    (each_taught_is me group view messages)

-- one message more goes with the one that teaches its receiver
pub each_taught_more : (group : GroupId) (view : View) (messages : List (BrickId × Message)) (sent : BrickId × Message)
    → each_taught group view (messages ++ (sent ∷ [])) ≡ each_taught group view messages ++ ((sent.0, Message.Learn group view) ∷ (sent ∷ []))
each_taught_more group view [] sent = refl
each_taught_more group view (first ∷ messages) sent =
    ap (λ (rest : List (BrickId × Message)). (first.0, Message.Learn group view) ∷ (first ∷ rest)) (each_taught_more group view messages sent)

-- messages of a view are the machine's
pub teaching_is : (me : BrickId) (group : GroupId) (view : View) (messages : List (BrickId × Message))
    → packets_from me (teaching group view messages) ≡ machine.teaching group view (packets_from me messages)
teaching_is me group view messages = by (nat_lt 1 view.number.0)
  where
    by : (b : Bool) → packets_from me (if b then each_taught group view messages else messages)
        ≡ (if b then machine.each_taught group view (packets_from me messages) else packets_from me messages)
    by true = each_taught_is me group view messages
    by false = refl

-- one more brick is taught
pub one_taught : (me : BrickId) (group : GroupId) (view : View) (bricks brick : ℕ) → brick < bricks
    → learn_packets me group view (bricks - brick) brick
    ≡ record { from = me; to = record { 0 = brick }; message = Message.Learn group view } ∷ learn_packets me group view (bricks - (brick + 1)) (brick + 1)
one_taught me group view bricks brick below =
    let left : bricks - brick ≡ suc (bricks - (brick + 1)) = omega (arith, below) in
    ap (λ (n : ℕ). learn_packets me group view n brick) left
