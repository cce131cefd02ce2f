-- An operation of which no message was delivered is as it began: its coordinator is in its first phase, with no reply that counts, and its packets are
-- that phase's, once for its beginning and once more for each tick since.
use Rattle.std.proofs.Common.{◌≡◌, ◌≢◌, ℕ, zero, suc, ◌≤◌, ◌<◌, Bool, true, false, ◌&&◌, List, [], ◌∷◌, ◌++◌, length, Option, Some, None, refl, sym, ap, ◌∙◌, ◌+◌, ⊎_elim, arith, subst}
use Rattle.std.specs.Prelude.{slice_get, nat_eq, filter, if◌then◌else◌}
use Rattle.std.proofs.lemmas.Bool.{cond_both, cond-true, cond-false, eq-eqb, eqb-true, ne_eqb, and_parts, cases_lt, false≢true, and_from}
use Rattle.std.proofs.lemmas.List.{append_assoc, append-nil}
use Rattle.std.proofs.lemmas.List.Elements.{filter-append}
use Rattle.fab_base.specs.declared.identities.BrickId.{BrickId}
use Rattle.messages.specs.declared.packets.Message.{Message}
use Rattle.messages.specs.declared.packets.Packet.{Packet}
use Rattle.protocol.specs.Proposals.{Proposal}
use Rattle.view_laws.proofs.Calling.{Rises}
use Rattle.protocol.specs.Settings.{Setting}
use Rattle.protocol.specs.Coordinators.{Coordinator}
use Rattle.protocol.specs.Nodes.{Node, put, first_phase, given_content, phase_packets}
use Rattle.protocol.specs.Worlds.{World, Operation, number_of, is_brick, packet_of}
use Rattle.protocol.specs.Calms.{operation_of, open_at, open_call, IsUntouched}
use Rattle.protocol_laws.proofs.Books.{Books, IsOperation}
use Rattle.protocol.proofs.Tables.{put_each, get_kept}
use Rattle.calm_laws.proofs.Known.{repeated}

-- the packets of operation n
abbrev pub packets_of : World → ℕ → List Packet
packets_of w n = filter (λ packet. nat_eq (operation_of w packet) n) w.packets

-- once more at the end is once more
pub repeated_more : (k : ℕ) (packets : List Packet) → repeated k packets ++ packets ≡ packets ++ repeated k packets
repeated_more zero packets = sym (append-nil packets)
repeated_more (suc k) packets =
    append_assoc packets (repeated k packets) packets ∙ ap (λ (l : List Packet). packets ++ l) (repeated_more k packets)

-- an open operation is as it began
pub record IsFresh (setting : Setting) (w : World) (n : ℕ) (c : Coordinator) : Type 0 where
  pub there : is_brick setting.layout c.stamp.brick ≡ true
  pub counted : c.counted ≡ []
  pub phase : c.phase ≡ first_phase c.ask.op
  pub number : c.call.phase ≡ 1
  pub round : c.round ≡ 1
  pub base : c.base ≡ None
  pub content : c.content ≡ given_content c.ask.op
  pub copies : ℕ
  pub packets : packets_of w n ≡ repeated (suc copies) (phase_packets setting c.stamp.brick c)

-- a brick has made the call of this boot and number
abbrev pub IsMade : Node → ℕ → ℕ → Type 0
IsMade node boot seq = (boot ≤ node.boot) × (boot ≡ node.boot → seq ≤ node.seq)

-- the call of a packet was made by the brick that asks
abbrev pub IsMadeBy : (ℕ → Node) → Packet → Type 0
IsMadeBy nodes packet = of packet.message
  where
    of : Message → Type 0
    of (Message.Request call request) = IsMade (nodes packet.from.0) call.boot call.seq
    of (Message.Reply call reply) = IsMade (nodes packet.to.0) call.boot call.seq
    of message = Unit {0}

-- What the numbers of calls tell: each is its operation's; a proposal's call has none; each packet's call was made; and what was not sent was not
-- delivered.
pub record IsNumbered (w : World) : Type 0 where
  pub numbers : (j b k : ℕ) → 1 ≤ w.numbers j b k
      → (o : Operation) × IsOperation w (w.numbers j b k) o × (o.brick.0 ≡ j) × (o.boot ≡ b) × (o.seq ≡ k)
  pub drafts : (i : ℕ) (p : Proposal) → (w.nodes i).proposal ≡ Some p → w.numbers i p.call.boot p.call.seq ≡ 0
  pub packets : (k : ℕ) (packet : Packet) → slice_get w.packets k ≡ Some packet → IsMadeBy w.nodes packet
  pub reached : (k : ℕ) → length w.packets < k → w.reached k ≡ false

-- Operations have numbers that were given, and calls that their bricks have made; and so has a proposal.
pub record AreMade (w : World) : Type 0 where
  pub begun : (a : ℕ) (o : Operation) → IsOperation w a o → a ≤ w.begun
  pub called : (a : ℕ) (o : Operation) → IsOperation w a o → (w.nodes o.brick.0).boot ≡ o.boot → o.seq ≤ (w.nodes o.brick.0).seq
  pub drafts : (i : ℕ) (p : Proposal) → (w.nodes i).proposal ≡ Some p → IsMade (w.nodes i) p.call.boot p.call.seq

-- What two worlds have in common: bricks, packets, operations, the numbers of calls, which bricks are up, and which messages were delivered.
pub record AreAlike (v w : World) : Type 0 where
  pub nodes : v.nodes ≡ w.nodes
  pub packets : v.packets ≡ w.packets
  pub operations : v.operations ≡ w.operations
  pub numbers : v.numbers ≡ w.numbers
  pub up : v.up ≡ w.up
  pub reached : v.reached ≡ w.reached

-- what a brick has made it has still made once its counters rose
pub rises_made : (node next : Node) (boot seq : ℕ) → Rises node next → IsMade node boot seq → IsMade next boot seq
rises_made node next boot seq rises made = ⊎_elim
    (λ (later : node.boot < next.boot). let old = made.0 in
    ((let low : boot ≤ next.boot = omega (arith, later, old) in low), (λ same. absurd (omega (arith, later, old, same)))))
    (λ (now : (next.boot ≡ node.boot) × (node.seq ≤ next.seq) × (node.round ≤ next.round)). let old = made.0 in let boots = now.0 in let more = now.1 in
    ((let low : boot ≤ next.boot = omega (arith, boots, old) in low), (λ same. let was = made.1 (same ∙ now.0) in omega (arith, was, more))))
    rises

-- so it is with the call of a packet, where one brick's counters rose
pub made_put : (nodes : ℕ → Node) (i : ℕ) (next : Node) → Rises (nodes i) next → (packet : Packet) → IsMadeBy nodes packet
    → IsMadeBy (put nodes i next) packet
made_put nodes i next rises packet = of packet.from packet.to packet.message
  where
    at : (j boot seq : ℕ) → IsMade (nodes j) boot seq → IsMade (put nodes i next j) boot seq
    at j boot seq =
        put_each (λ k (n : Node). IsMade (nodes k) boot seq → IsMade n boot seq) nodes i next (λ made. rises_made (nodes i) next boot seq rises made)
        (λ k other made. made) j

    of : (from to : BrickId) (message : Message) → IsMadeBy nodes (record { from = from; to = to; message = message })
        → IsMadeBy (put nodes i next) (record { from = from; to = to; message = message })
    of from to (Message.Request call request) made = at from.0 call.boot call.seq made
    of from to (Message.Reply call reply) made = at to.0 call.boot call.seq made
    of from to message made = tt

-- each operation that is open, and of which no message was delivered, is as it began
abbrev pub AreFresh : Setting → World → Type 0
AreFresh setting w = (n : ℕ) (c : Coordinator) → open_call w n ≡ Some c → IsUntouched w n → IsFresh setting w n c

-- none of these is operation n's
pub filter_none : (p : Packet → Bool) (packets : List Packet) → ((j : ℕ) (packet : Packet) → slice_get packets j ≡ Some packet → p packet ≡ false)
    → filter p packets ≡ []
filter_none p [] none = refl
filter_none p (packet ∷ packets) none =
    cond-false (p packet) (packet ∷ filter p packets) (filter p packets) (none 0 packet refl) ∙ filter_none p packets (λ j x at. none (suc j) x at)

-- all are
pub filter_every : (p : Packet → Bool) (packets : List Packet) → ((j : ℕ) (packet : Packet) → slice_get packets j ≡ Some packet → p packet ≡ true)
    → filter p packets ≡ packets
filter_every p [] every = refl
filter_every p (packet ∷ packets) every =
    cond-true (p packet) (packet ∷ filter p packets) (filter p packets) (every 0 packet refl)
    ∙ ap (λ (l : List Packet). packet ∷ l) (filter_every p packets (λ j x at. every (suc j) x at))

-- two tests that agree on these
pub filter_same : (p r : Packet → Bool) (packets : List Packet) → ((j : ℕ) (packet : Packet) → slice_get packets j ≡ Some packet → p packet ≡ r packet)
    → filter p packets ≡ filter r packets
filter_same p r [] same = refl
filter_same p r (packet ∷ packets) same =
    ap (λ (b : Bool). if b then packet ∷ filter p packets else filter p packets) (same 0 packet refl)
    ∙ ap (λ (l : List Packet). if r packet then packet ∷ l else l) (filter_same p r packets (λ j x at. same (suc j) x at))

-- where packets are added, those of n are the old ones, and the new ones of n
pub packets_added : (w next : World) (n : ℕ) (more : List Packet) → next.packets ≡ w.packets ++ more
    → ((j : ℕ) (packet : Packet) → slice_get w.packets j ≡ Some packet → operation_of next packet ≡ operation_of w packet)
    → packets_of next n ≡ packets_of w n ++ filter (λ packet. nat_eq (operation_of next packet) n) more
packets_added w next n more packets old =
    ap (λ (l : List Packet). filter (λ packet. nat_eq (operation_of next packet) n) l) packets
    ∙ filter-append (λ packet. nat_eq (operation_of next packet) n) w.packets more
    ∙ ap (λ (l : List Packet). l ++ filter (λ packet. nat_eq (operation_of next packet) n) more)
    (filter_same (λ packet. nat_eq (operation_of next packet) n) (λ packet. nat_eq (operation_of w packet) n) w.packets
    (λ j packet at. ap (λ (m : ℕ). nat_eq m n) (old j packet at)))

-- and where none of them is
pub packets_kept : (w next : World) (n : ℕ) (more : List Packet) → next.packets ≡ w.packets ++ more
    → ((j : ℕ) (packet : Packet) → slice_get w.packets j ≡ Some packet → operation_of next packet ≡ operation_of w packet)
    → ((j : ℕ) (packet : Packet) → slice_get more j ≡ Some packet → operation_of next packet ≢ n)
    → packets_of next n ≡ packets_of w n
packets_kept w next n more packets old new =
    packets_added w next n more packets old
    ∙ ap (λ (l : List Packet). packets_of w n ++ l)
    (filter_none (λ packet. nat_eq (operation_of next packet) n) more (λ j packet at. ne_eqb (operation_of next packet) n (new j packet at)))
    ∙ append-nil (packets_of w n)

-- an operation that stays as it began, where its packets do
pub fresh_on : (setting : Setting) (w next : World) (n : ℕ) (c : Coordinator) → packets_of next n ≡ packets_of w n → IsFresh setting w n c
    → IsFresh setting next n c
fresh_on setting w next n c same fresh = record {
  there = fresh.there;
  counted = fresh.counted;
  phase = fresh.phase;
  number = fresh.number;
  round = fresh.round;
  base = fresh.base;
  content = fresh.content;
  copies = fresh.copies;
  packets = same ∙ fresh.packets;
}

-- a world with what another one has of these
abbrev as_in : World → World → World
as_in v w = record w { nodes = v.nodes; packets = v.packets; operations = v.operations; numbers = v.numbers; up = v.up; reached = v.reached }

-- it is the other one, where they have it in common
as_is : (v w : World) → AreAlike v w → as_in v w ≡ w
as_is v w alike = λ i. record w {
  nodes = alike.nodes i;
  packets = alike.packets i;
  operations = alike.operations i;
  numbers = alike.numbers i;
  up = alike.up i;
  reached = alike.reached i;
}

-- so numbers and fresh operations are as in a world that is alike
pub numbered_alike : (v w : World) → AreAlike v w → IsNumbered v → IsNumbered w
numbered_alike v w alike is =
    subst (λ (z : World). IsNumbered z) (as_is v w alike)
    (record { numbers = is.numbers; drafts = is.drafts; packets = is.packets; reached = is.reached })

pub fresh_alike : (setting : Setting) (v w : World) → AreAlike v w → AreFresh setting v → AreFresh setting w
fresh_alike setting v w alike fresh =
    subst (λ (z : World). AreFresh setting z) (as_is v w alike)
    (λ n c opens untouched. fresh_on setting v (as_in v w) n c refl (fresh n c opens untouched))

-- the coordinator of an open operation is its brick's
pub record IsOpenAt (w : World) (n : ℕ) (c : Coordinator) : Type 0 where
  pub operation : Operation
  pub operation_is : IsOperation w n operation
  pub up : w.up operation.brick.0 ≡ true
  pub boot : (w.nodes operation.brick.0).boot ≡ operation.boot
  pub call : (w.nodes operation.brick.0).calls operation.seq ≡ Some c

pub opens_at : (w : World) (n : ℕ) (c : Coordinator) → open_call w n ≡ Some c → IsOpenAt w n c
opens_at w n c is = at (w.operations n) refl is
  where
    at : (z : Option Operation) → w.operations n ≡ z → open_at w z ≡ Some c → IsOpenAt w n c
    at None none bad = let never : None ≡ Some c = bad in cc
    at (Some o) some here =
        cond_both (w.up o.brick.0 && nat_eq (w.nodes o.brick.0).boot o.boot) ((w.nodes o.brick.0).calls o.seq) None
        (λ (z : Option Coordinator). z ≡ Some c → IsOpenAt w n c)
        (λ both call.
        let parts = and_parts (w.up o.brick.0) (nat_eq (w.nodes o.brick.0).boot o.boot) both in
        record { operation = o; operation_is = some; up = parts.0; boot = eqb-true (w.nodes o.brick.0).boot o.boot parts.1; call = call })
        (λ neither bad. let never : None ≡ Some c = bad in cc)
        here

-- it is open in another world where it is there too
pub opens_in : (w : World) (n : ℕ) (o : Operation) (c : Coordinator) → IsOperation w n o → w.up o.brick.0 ≡ true
    → (w.nodes o.brick.0).boot ≡ o.boot → (w.nodes o.brick.0).calls o.seq ≡ Some c → open_call w n ≡ Some c
opens_in w n o c is up boot call =
    ap (λ (z : Option Operation). open_at w z) is
    ∙ cond-true (w.up o.brick.0 && nat_eq (w.nodes o.brick.0).boot o.boot) ((w.nodes o.brick.0).calls o.seq) None
    (and_from (w.up o.brick.0) (nat_eq (w.nodes o.brick.0).boot o.boot) up (eq-eqb (w.nodes o.brick.0).boot o.boot boot))
    ∙ call

-- what was true only where another was made true was so before
pub put_before : (f : ℕ → Bool) (k j : ℕ) → put f k true j ≡ false → f j ≡ false
put_before f k j = put_each (λ i b. b ≡ false → f i ≡ false) f k true (λ bad. absurd (false≢true (sym bad))) (λ i other is. is) j

-- the packet of a number is the same where more were sent
pub packet_kept : (packets more : List Packet) (number : ℕ) (packet : Packet) → packet_of packets number ≡ Some packet
    → packet_of (packets ++ more) number ≡ Some packet
packet_kept packets more zero packet is = let never : ⊥ = cc in absurd never
packet_kept packets more (suc k) packet is = get_kept packets more k packet is

-- a packet of a number stands in the list
pub packet_stands : (packets : List Packet) (number : ℕ) (packet : Packet) → packet_of packets number ≡ Some packet
    → (k : ℕ) × (number ≡ suc k) × (slice_get packets k ≡ Some packet)
packet_stands packets zero packet is = let never : ⊥ = cc in absurd never
packet_stands packets (suc k) packet is = (k, refl, is)

-- an operation that no message reached before either
pub untouched_before : (w next : World) (n : ℕ) (more : List Packet) → next.packets ≡ w.packets ++ more
    → ((j : ℕ) (packet : Packet) → slice_get w.packets j ≡ Some packet → operation_of next packet ≡ operation_of w packet)
    → ((k : ℕ) → next.reached k ≡ false → w.reached k ≡ false) → IsUntouched next n → IsUntouched w n
untouched_before w next n more packets old reached untouched k packet is its =
    let place = packet_stands w.packets k packet is in
    reached k (untouched k packet
    (ap (λ (l : List Packet). packet_of l k) packets ∙ packet_kept w.packets more k packet is)
    (old place.0 packet place.2 ∙ its))

-- an operation that was as it began still is, where its coordinator stays, and no packet of it is sent
pub fresh_kept : (setting : Setting) (w next : World) (more : List Packet) → AreFresh setting w → next.packets ≡ w.packets ++ more
    → ((j : ℕ) (packet : Packet) → slice_get w.packets j ≡ Some packet → operation_of next packet ≡ operation_of w packet)
    → ((k : ℕ) → next.reached k ≡ false → w.reached k ≡ false) → (n : ℕ) (c : Coordinator) → IsUntouched next n → open_call w n ≡ Some c
    → ((j : ℕ) (packet : Packet) → slice_get more j ≡ Some packet → operation_of next packet ≢ n) → IsFresh setting next n c
fresh_kept setting w next more fresh packets old reached n c untouched opens new =
    fresh_on setting w next n c (packets_kept w next n more packets old new)
    (fresh n c opens (untouched_before w next n more packets old reached untouched))

-- the number of an operation's call at its brick
pub own_number : (setting : Setting) (w : World) → Books setting w → (n : ℕ) (o : Operation) → IsOperation w n o → (w.nodes o.brick.0).boot ≡ o.boot
    → number_of w o.brick.0 o.seq ≡ n
own_number setting w books n o is boot = ap (λ (b : ℕ). w.numbers o.brick.0 b o.seq) boot ∙ (books.operations n o is).number

-- a brick's next call has no number
pub next_unnumbered : (setting : Setting) (w : World) → Books setting w → IsNumbered w → (i : ℕ) → w.numbers i (w.nodes i).boot ((w.nodes i).seq + 1) ≡ 0
next_unnumbered setting w books numbered i = ⊎_elim
    (λ (none : w.numbers i (w.nodes i).boot ((w.nodes i).seq + 1) < 1). omega (arith, none))
    (λ (some : 1 ≤ w.numbers i (w.nodes i).boot ((w.nodes i).seq + 1)).
    let was = numbered.numbers i (w.nodes i).boot ((w.nodes i).seq + 1) some in
    let most : was.0.seq ≤ (w.nodes was.0.brick.0).seq
    = (books.operations (w.numbers i (w.nodes i).boot ((w.nodes i).seq + 1)) was.0 was.1).called.1
    (was.3 ∙ ap (λ (j : ℕ). (w.nodes j).boot) (sym was.2)) in
    let same : (w.nodes was.0.brick.0).seq ≡ (w.nodes i).seq = ap (λ (j : ℕ). (w.nodes j).seq) was.2 in
    let seq = was.4 in
    absurd (omega (arith, most, same, seq)))
    (cases_lt (w.numbers i (w.nodes i).boot ((w.nodes i).seq + 1)) 1)
