-- An operation that begins is fresh, and the others stay so.
use Rattle.std.proofs.lemmas.Option.{same_Some}
use Rattle.std.proofs.Common.{◌≡◌, ◌≢◌, ℕ, ◌+◌, ◌≤◌, ◌<◌, true, List, [], ◌++◌, Option, Some, refl, sym, ap, ◌∙◌, subst, ⊎_elim, inr, arith, length-append}
use Rattle.std.specs.Prelude.{slice_get, nat_eq, filter}
use Rattle.std.proofs.lemmas.Bool.{cases_eq, eq-eqb, ne_eqb, cases_lt}
use Rattle.std.proofs.lemmas.List.{append-nil}
use Rattle.fab_base.specs.declared.identities.BrickId.{BrickId}
use Rattle.fab_base.specs.declared.asks.Ask.{Ask}
use Rattle.fab_base.specs.Layouts.{Group}
use Rattle.messages.specs.declared.packets.Message.{Message}
use Rattle.messages.specs.declared.packets.Packet.{Packet}
use Rattle.protocol.specs.Settings.{Setting}
use Rattle.protocol.specs.Coordinators.{Coordinator, request_of, asked_group}
use Rattle.protocol.specs.Nodes.{Node, put, phase_packets}
use Rattle.protocol.specs.Jobs.{Job}
use Rattle.fab_base.specs.declared.member_lists.View.{View}
use Rattle.protocol.specs.Worlds.{World, Operation, is_brick}
use Rattle.protocol.specs.Calms.{operation_of}
use Rattle.protocol_laws.proofs.Books.{IsOperation}
use Rattle.protocol.proofs.Tables.{put_each, put_same, get_grown}
use Rattle.protocol.proofs.Puts.{put_other}
use Rattle.calm_laws.proofs.StepsOf.{members_are_of}
use Rattle.view_laws.proofs.Calling.{Rises}
use Rattle.protocol.proofs.Packets.{OfEach, each_member}
use Rattle.calm_laws.proofs.Fresh.{packets_of, IsFresh, IsMade, IsMadeBy, IsNumbered, AreFresh, AreMade, made_put, filter_none, filter_every, packets_added, IsOpenAt, opens_at, opens_in, fresh_kept}
use Rattle.protocol_laws.proofs.BooksBegins.{coordinator_of}
use Rattle.protocol.specs.Scrubs.{Scrub}

-- the coordinator of an operation that a brick begins in a view, which is its next call
abbrev pub begun_coordinator : Group → View → Option (List BrickId) → BrickId → ℕ → Ask → Node → Coordinator
begun_coordinator group view only brick now ask node = coordinator_of group view only brick now node ask

-- the brick then
abbrev pub begun_node : ℕ → Option Job → Option Scrub → Coordinator → Node → Node
begun_node busy job scrub c node =
    record node { seq = node.seq + 1; known = c.stamp.time; busy = busy; calls = put node.calls (node.seq + 1) (Some c); job = job; scrub = scrub }

-- the operation, as the world has it
abbrev pub begun_operation : Operation → BrickId → Node → Operation
begun_operation o brick node = record o { brick = brick; boot = node.boot; seq = node.seq + 1 }

-- the numbers of calls, with that of the brick's next call
abbrev pub next_numbers : (ℕ → ℕ → ℕ → ℕ) → ℕ → Node → ℕ → ℕ → ℕ → ℕ → ℕ
next_numbers numbers i node n = put numbers i (put (numbers i) node.boot (put (numbers i node.boot) (node.seq + 1) n))

-- A world in which a brick, which was this node, began an operation: so many operations it has open then, and this synchronisation and scrub. What else is known of the
-- operation is what is known of this one.
abbrev pub world_begun : Setting → World → BrickId → Node → Coordinator → ℕ → Option Job → Option Scrub → Operation → World
world_begun setting w brick node c busy job scrub o =
    record w {
      nodes = put w.nodes brick.0 (begun_node busy job scrub c node);
      packets = w.packets ++ phase_packets setting brick c;
      begun = w.begun + 1;
      operations = put w.operations (w.begun + 1) (Some (begun_operation o brick node));
      numbers = next_numbers w.numbers brick.0 node (w.begun + 1);
    }

module _ (setting : Setting) (w : World) (all_made : AreMade w) (numbered : IsNumbered w) (fresh : AreFresh setting w) where
  -- a brick begins an operation
  module _ (brick : BrickId) (there : is_brick setting.layout brick ≡ true) (group : Group) (view : View) (only : Option (List BrickId)) (now : ℕ) (ask : Ask) (busy : ℕ)
      (job : Option Job) (scrub : Option Scrub) (o : Operation) where
    abbrev began_coordinator : Coordinator
    began_coordinator = begun_coordinator group view only brick now ask (w.nodes brick.0)

    abbrev began_node : Node
    began_node = begun_node busy job scrub began_coordinator (w.nodes brick.0)

    abbrev began_packets : List Packet
    began_packets = phase_packets setting brick began_coordinator

    abbrev begun_world : World
    begun_world = world_begun setting w brick (w.nodes brick.0) began_coordinator busy job scrub o

    -- the numbers of the calls that were made stay
    old_number : (j b k : ℕ) → (j ≡ brick.0 → b ≡ (w.nodes brick.0).boot → k ≤ (w.nodes brick.0).seq) → begun_world.numbers j b k ≡ w.numbers j b k
    old_number j b k past =
        put_each (λ i f. (i ≡ brick.0 → b ≡ (w.nodes brick.0).boot → k ≤ (w.nodes brick.0).seq) → f b k ≡ w.numbers i b k) w.numbers brick.0
        (put (w.numbers brick.0) (w.nodes brick.0).boot (put (w.numbers brick.0 (w.nodes brick.0).boot) ((w.nodes brick.0).seq + 1) (w.begun + 1)))
        (λ here.
        put_each (λ c f. (c ≡ (w.nodes brick.0).boot → k ≤ (w.nodes brick.0).seq) → f k ≡ w.numbers brick.0 c k) (w.numbers brick.0) (w.nodes brick.0).boot
        (put (w.numbers brick.0 (w.nodes brick.0).boot) ((w.nodes brick.0).seq + 1) (w.begun + 1))
        (λ now.
        put_each (λ l v. l ≤ (w.nodes brick.0).seq → v ≡ w.numbers brick.0 (w.nodes brick.0).boot l)
        (w.numbers brick.0 (w.nodes brick.0).boot) ((w.nodes brick.0).seq + 1) (w.begun + 1)
        (λ bad. absurd (omega (arith, bad))) (λ l other is. refl) k (now refl))
        (λ c other is. refl) b (here refl))
        (λ i other is. refl) j past

    made_number : (j b k : ℕ) → IsMade (w.nodes j) b k → begun_world.numbers j b k ≡ w.numbers j b k
    made_number j b k made =
        old_number j b k
        (λ same boot.
        let most : k ≤ (w.nodes j).seq = made.1 (boot ∙ ap (λ (i : ℕ). (w.nodes i).boot) (sym same)) in
        let seqs : (w.nodes j).seq ≡ (w.nodes brick.0).seq = ap (λ (i : ℕ). (w.nodes i).seq) same in
        omega (arith, most, seqs))

    -- and so do the operations of the packets that there were
    old_belongs : (from to : BrickId) (message : Message) → IsMadeBy w.nodes (record { from = from; to = to; message = message })
        → operation_of begun_world (record { from = from; to = to; message = message }) ≡ operation_of w (record { from = from; to = to; message = message })
    old_belongs from to (Message.Request call request) made = made_number from.0 call.boot call.seq made
    old_belongs from to (Message.Reply call reply) made = made_number to.0 call.boot call.seq made
    old_belongs from to message made = refl

    old_packets : (j : ℕ) (packet : Packet) → slice_get w.packets j ≡ Some packet → operation_of begun_world packet ≡ operation_of w packet
    old_packets j packet at = old_belongs packet.from packet.to packet.message (numbered.packets j packet at)

    -- the brick's counters rise
    rises : Rises (w.nodes brick.0) began_node
    rises = inr (refl, omega arith, omega arith)

    new_made : OfEach (IsMadeBy begun_world.nodes) began_packets
    new_made =
        each_member (IsMadeBy begun_world.nodes) brick began_coordinator.call (request_of setting.code began_coordinator)
        (λ seat to.
        subst (λ (n : Node). IsMade n (w.nodes brick.0).boot ((w.nodes brick.0).seq + 1)) (sym (put_same w.nodes brick.0 began_node))
        (omega arith, λ same. omega arith)) 0 (asked_group began_coordinator).members

    -- the new operation's number
    its_number : begun_world.numbers brick.0 (w.nodes brick.0).boot ((w.nodes brick.0).seq + 1) ≡ w.begun + 1
    its_number =
        ap (λ f. f (w.nodes brick.0).boot ((w.nodes brick.0).seq + 1)) (put_same w.numbers brick.0
        (put (w.numbers brick.0) (w.nodes brick.0).boot (put (w.numbers brick.0 (w.nodes brick.0).boot) ((w.nodes brick.0).seq + 1) (w.begun + 1))))
        ∙ ap (λ f. f ((w.nodes brick.0).seq + 1)) (put_same (w.numbers brick.0) (w.nodes brick.0).boot
        (put (w.numbers brick.0 (w.nodes brick.0).boot) ((w.nodes brick.0).seq + 1) (w.begun + 1)))
        ∙ put_same (w.numbers brick.0 (w.nodes brick.0).boot) ((w.nodes brick.0).seq + 1) (w.begun + 1)

    new_packets : (j : ℕ) (packet : Packet) → slice_get began_packets j ≡ Some packet → operation_of begun_world packet ≡ w.begun + 1
    new_packets j packet at =
        members_are_of begun_world brick began_coordinator.call (request_of setting.code began_coordinator) 0 (asked_group began_coordinator).members j packet at ∙ its_number

    -- the operation that begins
    abbrev new_operation : Operation
    new_operation = begun_operation o brick (w.nodes brick.0)

    new_is : begun_world.operations (w.begun + 1) ≡ Some new_operation
    new_is = put_same w.operations (w.begun + 1) (Some new_operation)

    -- the operations that there were stay
    old_operations : (a : ℕ) (p : Operation) → IsOperation w a p → begun_world.operations a ≡ w.operations a
    old_operations a p is =
        put_other w.operations (w.begun + 1) (Some new_operation) a
        (λ same. let most = all_made.begun a p is in absurd (omega (arith, most, same)))

    -- an operation of this number, at this call
    abbrev IsAt : ℕ → ℕ → ℕ → ℕ → Type 0
    IsAt v j b k = (p : Operation) × IsOperation begun_world v p × (p.brick.0 ≡ j) × (p.boot ≡ b) × (p.seq ≡ k)

    old_at : (j b k : ℕ) → 1 ≤ w.numbers j b k → IsAt (w.numbers j b k) j b k
    old_at j b k some =
        let was = numbered.numbers j b k some in
        (was.0, old_operations (w.numbers j b k) was.0 was.1 ∙ was.1, was.2, was.3, was.4)

    all_at : (j b k : ℕ) → 1 ≤ begun_world.numbers j b k → IsAt (begun_world.numbers j b k) j b k
    all_at j b k =
        put_each (λ i f. 1 ≤ f b k → IsAt (f b k) i b k) w.numbers brick.0
        (put (w.numbers brick.0) (w.nodes brick.0).boot (put (w.numbers brick.0 (w.nodes brick.0).boot) ((w.nodes brick.0).seq + 1) (w.begun + 1)))
        (put_each (λ c f. 1 ≤ f k → IsAt (f k) brick.0 c k) (w.numbers brick.0) (w.nodes brick.0).boot
        (put (w.numbers brick.0 (w.nodes brick.0).boot) ((w.nodes brick.0).seq + 1) (w.begun + 1))
        (put_each (λ l v. 1 ≤ v → IsAt v brick.0 (w.nodes brick.0).boot l) (w.numbers brick.0 (w.nodes brick.0).boot) ((w.nodes brick.0).seq + 1) (w.begun + 1)
        (λ some. (new_operation, new_is, refl, refl, refl)) (λ l other. old_at brick.0 (w.nodes brick.0).boot l) k)
        (λ c other. old_at brick.0 c k) b)
        (λ i other. old_at i b k) j

    pub began_numbered : IsNumbered begun_world
    began_numbered = record {
      numbers = all_at;
      drafts = λ i p is.
          let was : (w.nodes i).proposal ≡ Some p
          = sym (put_each (λ j (x : Node). x.proposal ≡ (w.nodes j).proposal) w.nodes brick.0 began_node refl (λ j other. refl) i) ∙ is in
          made_number i p.call.boot p.call.seq (all_made.drafts i p was) ∙ numbered.drafts i p was;
      packets = λ k packet at. ⊎_elim
          (λ (old : slice_get w.packets k ≡ Some packet). made_put w.nodes brick.0 began_node rises packet (numbered.packets k packet old))
          (λ (new : (j : ℕ) × (slice_get began_packets j ≡ Some packet)). new_made new.0 packet new.1)
          (get_grown w.packets began_packets k packet at);
      reached = λ k beyond.
          let longer = length-append w.packets began_packets in numbered.reached k (omega (arith, longer, beyond));
    }

    -- no packet was of the new operation before
    number_within : (j b k : ℕ) → w.numbers j b k ≤ w.begun
    number_within j b k = ⊎_elim
        (λ (none : w.numbers j b k < 1). omega (arith, none))
        (λ (some : 1 ≤ w.numbers j b k). let was = numbered.numbers j b k some in all_made.begun (w.numbers j b k) was.0 was.1)
        (cases_lt (w.numbers j b k) 1)

    packet_within : (from to : BrickId) (message : Message) → operation_of w (record { from = from; to = to; message = message }) ≤ w.begun
    packet_within from to (Message.Request call request) = number_within from.0 call.boot call.seq
    packet_within from to (Message.Reply call reply) = number_within to.0 call.boot call.seq
    packet_within from to message = omega arith

    none_before : packets_of w (w.begun + 1) ≡ []
    none_before =
        filter_none (λ packet. nat_eq (operation_of w packet) (w.begun + 1)) w.packets
        (λ j packet at. ne_eqb (operation_of w packet) (w.begun + 1)
        (λ same. let most = packet_within packet.from packet.to packet.message in absurd (omega (arith, same, most))))

    -- the new operation is as it began
    new_fresh : IsFresh setting begun_world (w.begun + 1) began_coordinator
    new_fresh = record {
      there = there;
      counted = refl;
      phase = refl;
      number = refl;
      round = refl;
      base = refl;
      content = refl;
      copies = 0;
      packets =
          packets_added w begun_world (w.begun + 1) began_packets refl old_packets
          ∙ ap (λ (l : List Packet). l ++ filter (λ packet. nat_eq (operation_of begun_world packet) (w.begun + 1)) began_packets) none_before
          ∙ filter_every (λ packet. nat_eq (operation_of begun_world packet) (w.begun + 1)) began_packets
          (λ j packet at. eq-eqb (operation_of begun_world packet) (w.begun + 1) (new_packets j packet at))
          ∙ sym (append-nil began_packets);
    }

    -- its brick's call of it is its coordinator
    new_call : (c : Coordinator) → IsOpenAt begun_world (w.begun + 1) c → began_coordinator ≡ c
    new_call c at =
        let same : at.operation ≡ new_operation = same_Some at.operation new_operation (sym at.operation_is ∙ new_is) in
        let here : (put w.nodes brick.0 began_node brick.0).calls ((w.nodes brick.0).seq + 1) ≡ Some c
        = ap (λ (p : Operation). (put w.nodes brick.0 began_node p.brick.0).calls p.seq) (sym same) ∙ at.call in
        same_Some began_coordinator c
        (sym (ap (λ (x : Node). x.calls ((w.nodes brick.0).seq + 1)) (put_same w.nodes brick.0 began_node)
        ∙ put_same (w.nodes brick.0).calls ((w.nodes brick.0).seq + 1) (Some began_coordinator)) ∙ here)

    pub began_fresh : AreFresh setting begun_world
    began_fresh n c opens untouched = ⊎_elim
        (λ (own : n ≡ w.begun + 1).
        subst (λ (a : ℕ). IsFresh setting begun_world a c) (sym own)
        (subst (λ (d : Coordinator). IsFresh setting begun_world (w.begun + 1) d)
        (new_call c (subst (λ (a : ℕ). IsOpenAt begun_world a c) own (opens_at begun_world n c opens))) new_fresh))
        (λ (other : n ≢ w.begun + 1).
        let at : IsOpenAt begun_world n c = opens_at begun_world n c opens in
        let own : Operation = at.operation in
        let is : IsOperation w n own = sym (put_other w.operations (w.begun + 1) (Some new_operation) n other) ∙ at.operation_is in
        let boot : (w.nodes own.brick.0).boot ≡ own.boot
        = sym (put_each (λ j x. x.boot ≡ (w.nodes j).boot) w.nodes brick.0 began_node refl (λ j apart'. refl) own.brick.0) ∙ at.boot in
        let most : own.seq ≤ (w.nodes own.brick.0).seq = all_made.called n own is boot in
        let call : (w.nodes own.brick.0).calls own.seq ≡ Some c
        = sym (put_each (λ j x. j ≡ own.brick.0 → x.calls own.seq ≡ (w.nodes j).calls own.seq) w.nodes brick.0 began_node
        (λ same. put_other (w.nodes brick.0).calls ((w.nodes brick.0).seq + 1) (Some began_coordinator) own.seq
        (λ equal. let seqs : (w.nodes brick.0).seq ≡ (w.nodes own.brick.0).seq = ap (λ (j : ℕ). (w.nodes j).seq) same in
        absurd (omega (arith, most, equal, seqs))))
        (λ j apart' same. refl) own.brick.0 refl) ∙ at.call in
        fresh_kept setting w begun_world began_packets fresh refl old_packets (λ k is_false. is_false) n c untouched
        (opens_in w n own c is at.up boot call)
        (λ j packet at' same. other (sym same ∙ new_packets j packet at')))
        (cases_eq n (w.begun + 1))
