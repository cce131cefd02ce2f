-- Where a message is delivered, or a brick begins a proposal, fresh operations stay fresh, but for the one whose message it is.
use Rattle.std.proofs.lemmas.Option.{slice_get_within}
use Rattle.std.proofs.Common.{◌++◌, ◌≡◌, ◌≢◌, ℕ, suc, ◌+◌, ◌≤◌, ◌<◌, ◌⊎◌, inl, inr, Bool, true, false, List, [], ◌∷◌, length, Option, None, Some, refl, subst, sym, ap, ◌∙◌, ⊎_elim, arith, length-append}
use Rattle.std.specs.Prelude.{slice_get}
use Rattle.std.proofs.lemmas.Bool.{and_parts, false≢true, cases_lt}
use Rattle.std.proofs.lemmas.List.{append_assoc}
use Rattle.fab_base.specs.declared.identities.BrickId.{BrickId}
use Rattle.fab_base.specs.declared.identities.GroupId.{GroupId}
use Rattle.fab_base.specs.declared.stamps.Ballot.{Ballot}
use Rattle.messages.specs.declared.calls.Call.{Call}
use Rattle.messages.specs.declared.packets.Message.{Message}
use Rattle.messages.specs.declared.packets.Packet.{Packet}
use Rattle.messages.specs.declared.requests.Request.{Request}
use Rattle.protocol.specs.Settings.{Setting}
use Rattle.protocol.specs.Coordinators.{Coordinator}
use Rattle.protocol.specs.Proposals.{Proposal}
use Rattle.protocol.specs.declared.phases.Counted.{Counted}
use Rattle.protocol.specs.Nodes.{Node, NodeStep, put, received, proposed, synced_at, no_step, with_job, then_does, read_closed, read_begun_by, phase_packets, scrubbed_at, begun_aside, reading_aside}
use Rattle.protocol.specs.Worlds.{World, Operation, Choices, is_brick, is_up, read_of_call, number_of, world_stepped, packet_of, replies_with, voiced}
use Rattle.protocol.specs.Calms.{open_call, operation_of, IsUntouched}
use Rattle.protocol_laws.proofs.Books.{Books, IsOperation}
use Rattle.protocol_laws.proofs.Proposing.{IsBallot, proposed_each}
use Rattle.view_laws.proofs.Calling.{OfBallots, IsOfDraft, IsOldDraft, IsNewDraft, StepCalls, Called, called_after, IsBallotOf}
use Rattle.view_laws.proofs.CallSteps.{Calls, received_calls, proposed_calls, synced_calls, scrubbed_calls}
use Rattle.view_laws.proofs.SyncReads.{read_call, synced_at_each, scrubbed_at_each}
use Rattle.protocol.proofs.Packets.{each_none}
use Rattle.protocol.specs.Jobs.{Job, begun_job, job_ask}
use Rattle.protocol.specs.declared.tellings.Report.{Report}
use Rattle.fab_base.specs.Layouts.{Group}
use Rattle.fab_base.specs.declared.answers.Answer.{Answer}
use Rattle.fab_base.specs.declared.stamps.Stamp.{Stamp}
use Rattle.protocol.proofs.Tables.{put_each, put_same, put_twice, get_added, get_grown}
use Rattle.protocol.proofs.Puts.{put_other}
use Rattle.calm_laws.proofs.Queues.{operation_same}
use Rattle.calm_laws.proofs.StepsOf.{StepIsOf, StepGoes, StepReads, IsKeyed, IsKeyedOrNone, IsOfNone, of_none, keyed_of, keyed_made, key_of, message_is_of, quiet_is_of}
use Rattle.calm_laws.proofs.Fresh.{IsFresh, IsMade, IsMadeBy, IsNumbered, AreFresh, IsOpenAt, opens_at, opens_in, put_before, packet_kept, packet_stands, fresh_kept, made_put, next_unnumbered, own_number, AreMade, AreAlike, numbered_alike, fresh_alike}
use Rattle.calm_laws.proofs.Keys.{SameKeys, reached_stepped, ups_stepped}
use Rattle.calm_laws.proofs.FreshBegun.{world_begun, began_numbered, began_fresh}
use Rattle.protocol.specs.Scrubs.{Scrub, scrub_ask}
use Rattle.protocol_laws.proofs.BooksBegins.{coordinator_of}
use Rattle.fab_base.specs.declared.member_lists.View.{View}
use Rattle.fab_base.specs.declared.asks.Ask.{Ask}
use Rattle.fab_base.specs.declared.identities.StripeNo.{StripeNo}

module _ (setting : Setting) (w : World) (books : Books setting w) (calls : Calls w) (numbered : IsNumbered w) (fresh : AreFresh setting w) where
  -- no operation has a call of boot 0
  none_numbered : w.numbers 0 0 0 ≡ 0
  none_numbered = ⊎_elim
      (λ (none : w.numbers 0 0 0 < 1). omega (arith, none))
      (λ (some : 1 ≤ w.numbers 0 0 0).
      let was = numbered.numbers 0 0 0 some in
      let booted = (books.operations (w.numbers 0 0 0) was.0 was.1).booted.0 in
      let none = was.3 in
      absurd (omega (arith, booted, none)))
      (cases_lt (w.numbers 0 0 0) 1)

  -- a brick takes a step of a call that was made
  module _ (me : BrickId) (step : NodeStep) (i boot seq : ℕ) (step_is : StepIsOf setting w me step i boot seq) (made : IsMade (w.nodes i) boot seq)
      (own : StepCalls me.0 (w.nodes me.0) step.node step.packets) (replies : ℕ → ℕ → List Counted) (choices : Choices) (reached : ℕ → Bool)
      (reached_then : (k : ℕ) → reached k ≡ false → w.reached k ≡ false) (unreached : (k : ℕ) → length w.packets < k → reached k ≡ false) where
    -- the world before it, the one after it, and the number of the call
    abbrev before : World
    before = record w { replies = replies; choices = choices; reached = reached }

    abbrev after : World
    after = world_stepped setting before me step

    abbrev m : ℕ
    m = w.numbers i boot seq

    -- what it leaves as it is
    numbers_same : after.numbers ≡ w.numbers
    numbers_same = step_is.numbers replies choices reached

    reached_same : after.reached ≡ reached
    reached_same = reached_stepped setting before me step

    ups_same : after.up ≡ w.up
    ups_same = ups_stepped setting before me step

    belongs : (x : Packet) → operation_of after x ≡ operation_of w x
    belongs x = operation_same w after x numbers_same

    -- a proposal's call has no number: neither that of one that was open, nor that of a new one
    draft_none : (q : Proposal) → step.node.proposal ≡ Some q → w.numbers me.0 q.call.boot q.call.seq ≡ 0
    draft_none q is = ⊎_elim
        (λ (old : IsOldDraft (w.nodes me.0) step.node q).
        ap (λ (b : ℕ). w.numbers me.0 b q.call.seq) old.call_boot ∙ ap (λ (k : ℕ). w.numbers me.0 old.was.call.boot k) old.call_seq
        ∙ numbered.drafts me.0 old.was old.is)
        (λ (new : IsNewDraft me.0 (w.nodes me.0) step.node q).
        ap (λ (b : ℕ). w.numbers me.0 b q.call.seq) new.call_boot ∙ ap (λ (k : ℕ). w.numbers me.0 (w.nodes me.0).boot k) new.call_seq
        ∙ next_unnumbered setting w books numbered me.0)
        (own.drafts q is)

    -- so what is of views alone is no operation's
    ballot_none : (from : BrickId) (call : Call) (b : Ballot) → IsOfDraft me.0 step.node from.0 call b → w.numbers from.0 call.boot call.seq ≡ 0
    ballot_none from call b of =
        ap (λ (j : ℕ). w.numbers j call.boot call.seq) of.from_is ∙ ap (λ (c : ℕ). w.numbers me.0 c call.seq) of.boot
        ∙ ap (λ (k : ℕ). w.numbers me.0 of.draft.call.boot k) of.seq ∙ draft_none of.draft of.is

    request_none : (from : BrickId) (call : Call) (request : Request) → IsBallot request
        → OfBallots (IsOfDraft me.0 step.node from.0) (Message.Request call request) → w.numbers from.0 call.boot call.seq ≡ 0
    request_none from call (Request.Prepare b) is of = ballot_none from call b of
    request_none from call (Request.Accept b members) is of = ballot_none from call b of
    request_none from call request is of = absurd is

    views_none : (from to : BrickId) (message : Message) → IsOfNone message → OfBallots (IsOfDraft me.0 step.node from.0) message
        → operation_of w (record { from = from; to = to; message = message }) ≡ 0
    views_none from to (Message.Request call request) is of = request_none from call request is of
    views_none from to (Message.Learn group view) is of = refl
    views_none from to (Message.Synced group view) is of = refl
    views_none from to message is of = absurd is

    -- a packet that is sent is of the call's operation, or of none
    new_of : (j : ℕ) (x : Packet) → slice_get step.packets j ≡ Some x → (operation_of w x ≡ m) ⊎ (operation_of w x ≡ 0)
    new_of j x at = ⊎_elim
        (λ (keyed : IsKeyed i boot seq x). inl (keyed_of w i boot seq x keyed))
        (λ (of : IsOfNone x.message). inr (views_none x.from x.to x.message of (own.packets j x at)))
        (step_is.packets j x at)

    -- and its call was made
    after_called : Called (w.packets ++ step.packets) (put w.nodes me.0 step.node)
    after_called = called_after w.packets w.nodes calls.called me.0 step.node step.packets own

    request_made : (from : BrickId) (call : Call) (request : Request) → IsBallot request
        → OfBallots (IsBallotOf (w.packets ++ step.packets) (put w.nodes me.0 step.node from.0) from.0) (Message.Request call request)
        → IsMade (put w.nodes me.0 step.node from.0) call.boot call.seq
    request_made from call (Request.Prepare b) is of = (of.past, λ same. (of.now same).0)
    request_made from call (Request.Accept b members) is of = (of.past, λ same. (of.now same).0)
    request_made from call request is of = absurd is

    views_made : (from to : BrickId) (message : Message) → IsOfNone message
        → OfBallots (IsBallotOf (w.packets ++ step.packets) (put w.nodes me.0 step.node from.0) from.0) message
        → IsMadeBy (put w.nodes me.0 step.node) (record { from = from; to = to; message = message })
    views_made from to (Message.Request call request) is of = request_made from call request is of
    views_made from to (Message.Learn group view) is of = tt
    views_made from to (Message.Synced group view) is of = tt
    views_made from to message is of = absurd is

    new_made : (j : ℕ) (x : Packet) → slice_get step.packets j ≡ Some x → IsMadeBy (put w.nodes me.0 step.node) x
    new_made j x at = ⊎_elim
        (λ (keyed : IsKeyed i boot seq x). made_put w.nodes me.0 step.node own.rises x (keyed_made w.nodes i boot seq made x keyed))
        (λ (of : IsOfNone x.message).
        let there = get_added w.packets step.packets j x at in
        views_made x.from x.to x.message of (after_called.requests there.0 x there.1))
        (step_is.packets j x at)

    pub stepped_numbered : IsNumbered after
    stepped_numbered = record {
      numbers = λ j b k some.
          let same : after.numbers j b k ≡ w.numbers j b k = ap (λ f. f j b k) numbers_same in
          let was = numbered.numbers j b k (omega (arith, some, same)) in
          let is = (step_is.keys replies choices reached).on (w.numbers j b k) was.0 was.1 in
          (is.0, ap (λ a. after.operations a) same ∙ is.1, ap (λ x. x.0) is.2 ∙ was.2, is.3 ∙ was.3, is.4 ∙ was.4);
      drafts = λ j p is.
          ap (λ f. f j p.call.boot p.call.seq) numbers_same
          ∙ put_each (λ k (n : Node). n.proposal ≡ Some p → w.numbers k p.call.boot p.call.seq ≡ 0) w.nodes me.0 step.node (λ here. draft_none p here)
          (λ k other was. numbered.drafts k p was) j is;
      packets = λ k x at. ⊎_elim
          (λ (old : slice_get w.packets k ≡ Some x). made_put w.nodes me.0 step.node own.rises x (numbered.packets k x old))
          (λ (new : (j : ℕ) × (slice_get step.packets j ≡ Some x)). new_made new.0 x new.1)
          (get_grown w.packets step.packets k x at);
      reached = λ k beyond.
          let longer : length after.packets ≡ length w.packets + length step.packets = length-append w.packets step.packets in
          ap (λ f. f k) reached_same ∙ unreached k (omega (arith, longer, beyond));
    }

    -- operations' and proposals' calls are made still
    pub stepped_made : AreMade after
    stepped_made = record {
      begun = λ a o is.
          let was = keys.back a o is in
          let most = (books.operations a was.0 was.1).begun in let more = step_is.begun replies choices reached in omega (arith, most, more);
      called = λ a o is boot.
          let was = keys.back a o is in
          let own_brick : was.0.brick.0 ≡ o.brick.0 = ap (λ (x : BrickId). x.0) was.2 in
          put_each (λ k (n : Node). k ≡ o.brick.0 → n.boot ≡ o.boot → o.seq ≤ n.seq) w.nodes me.0 step.node
          (λ here now.
          let at : was.0.brick.0 ≡ me.0 = own_brick ∙ sym here in
          let most = (books.operations a was.0 was.1).called.1
          (was.3 ∙ sym now ∙ step_is.boot_is ∙ ap (λ (k : ℕ). (w.nodes k).boot) (sym at)) in
          let nodes : (w.nodes was.0.brick.0).seq ≡ (w.nodes me.0).seq = ap (λ (k : ℕ). (w.nodes k).seq) at in
          let seqs = was.4 in
          let rose : (w.nodes me.0).seq ≤ step.node.seq = ⊎_elim
          (λ (later : (w.nodes me.0).boot < step.node.boot). let still = step_is.boot_is in absurd (omega (arith, later, still)))
          (λ (now : (step.node.boot ≡ (w.nodes me.0).boot) × ((w.nodes me.0).seq ≤ step.node.seq) × ((w.nodes me.0).round ≤ step.node.round)). now.1) own.rises in
          omega (arith, most, nodes, seqs, rose))
          (λ k other here now.
          let at : was.0.brick.0 ≡ k = own_brick ∙ sym here in
          let most = (books.operations a was.0 was.1).called.1 (was.3 ∙ sym now ∙ ap (λ (l : ℕ). (w.nodes l).boot) (sym at)) in
          let nodes : (w.nodes was.0.brick.0).seq ≡ (w.nodes k).seq = ap (λ (l : ℕ). (w.nodes l).seq) at in
          let seqs = was.4 in
          omega (arith, most, nodes, seqs)) o.brick.0 refl boot;
      drafts = λ i p is.
          let draft = after_called.drafts i p is in
          ((let now = draft.now in let low : p.call.boot ≤ (after.nodes i).boot = omega (arith, now) in low), (λ same. draft.seq));
    }
      where
        keys : SameKeys w.operations after.operations
        keys = step_is.keys replies choices reached

    -- another operation stays as it began
    pub stepped_fresh : (n : ℕ) → n ≢ m → (c : Coordinator) → open_call after n ≡ Some c → IsUntouched after n → IsFresh setting after n c
    stepped_fresh n other c opens untouched =
        let at : IsOpenAt after n c = opens_at after n c opens in
        let o : Operation = at.operation in
        let is : IsOperation w n o = sym (step_is.operations replies choices reached n other) ∙ at.operation_is in
        let some : 1 ≤ n = (books.operations n o is).from_one in
        let boot_is : (w.nodes o.brick.0).boot ≡ o.boot
        = sym (put_each (λ j (x : Node). x.boot ≡ (w.nodes j).boot) w.nodes me.0 step.node step_is.boot_is (λ j apart'. refl) o.brick.0) ∙ at.boot in
        let call : (w.nodes o.brick.0).calls o.seq ≡ Some c
        = sym (put_each (λ j (x : Node). j ≡ o.brick.0 → x.calls o.seq ≡ (w.nodes j).calls o.seq) w.nodes me.0 step.node
        (λ same. step_is.calls o.seq
        (λ equal. other (sym (own_number setting w books n o is boot_is) ∙ ap (λ j. number_of w j o.seq) (sym same) ∙ equal)))
        (λ j apart' same. refl) o.brick.0 refl) ∙ at.call in
        fresh_kept setting w after step.packets fresh refl (λ j x at'. belongs x)
        (λ k is_false. reached_then k (sym (ap (λ f. f k) reached_same) ∙ is_false)) n c untouched
        (opens_in w n o c is (sym (ap (λ f. f o.brick.0) ups_same) ∙ at.up) boot_is call)
        (λ j x at' same. ⊎_elim
        (λ (its : operation_of w x ≡ m). other (sym same ∙ belongs x ∙ its))
        (λ (none : operation_of w x ≡ 0). let zero_is = sym same ∙ belongs x ∙ none in omega (arith, some, zero_is))
        (new_of j x at'))

  -- calls were made
  pub now_made : AreMade w
  now_made = record {
    begun = λ a o is. (books.operations a o is).begun;
    called = λ a o is boot. (books.operations a o is).called.1 (sym boot);
    drafts = λ i p is.
        let draft = calls.called.drafts i p is in
        ((let now = draft.now in let low : p.call.boot ≤ (w.nodes i).boot = omega (arith, now) in low), (λ same. draft.seq));
  }

  -- A brick's read is closed and the next begins in one step: the world is alike to the one in which the next begins after the read was closed.
  module _ (me : BrickId) (node : Node) (known : ℕ) (c : Coordinator) (answer : Answer) (stored : Option Stamp) (now : ℕ) (group : Group) (job : Job)
      (replies : ℕ → ℕ → List Counted) (choices : Choices) (reached : ℕ → Bool) where
    abbrev closed : Option Stamp → NodeStep
    closed seen = read_closed me node known c answer seen stored

    abbrev closed_world : Option Stamp → World
    closed_world seen = world_stepped setting (record w { replies = replies; choices = choices; reached = reached }) me (closed seen)

    abbrev next_call : Option Stamp → Coordinator
    next_call seen = read_call group job me now (closed seen).node

    abbrev both_steps : Option Stamp → NodeStep
    both_steps seen = then_does (closed seen) (read_begun_by setting me (closed seen).node job (next_call seen))

    abbrev both_world : Option Stamp → World
    both_world seen = world_stepped setting (record w { replies = replies; choices = choices; reached = reached }) me (both_steps seen)

    -- the next read, as the world has it
    abbrev next_operation : Option Stamp → Operation
    next_operation seen =
        read_of_call (put w.nodes me.0 (both_steps seen).node) (record w { replies = replies; choices = choices; reached = reached }) me (next_call seen).call

    abbrev next_begun : Option Stamp → World
    next_begun seen =
        world_begun setting (closed_world seen) me (closed seen).node (next_call seen) (closed seen).node.busy
        (Some (record job { seq = (closed seen).node.seq + 1 })) (closed seen).node.scrub (next_operation seen)

    both_alike : (seen : Option Stamp) → AreAlike (next_begun seen) (both_world seen)
    both_alike None = record {
      nodes = put_twice w.nodes me.0 (closed None).node (both_steps None).node;
      packets = append_assoc w.packets (closed None).packets (phase_packets setting me (next_call None));
      operations = refl;
      numbers = refl;
      up = refl;
      reached = refl;
    }
    both_alike (Some v) = record {
      nodes = put_twice w.nodes me.0 (closed (Some v)).node (both_steps (Some v)).node;
      packets = append_assoc w.packets (closed (Some v)).packets (phase_packets setting me (next_call (Some v)));
      operations = refl;
      numbers = refl;
      up = refl;
      reached = refl;
    }

  -- a message is delivered
  module _ (number : ℕ) (packet : Packet) (sent : packet_of w.packets number ≡ Some packet) where
    -- the step, the world after it, and the packet's call
    abbrev step_of : NodeStep
    step_of = received setting packet.to (w.clocks packet.to.0) (w.nodes packet.to.0) packet

    abbrev next : World
    next = world_stepped setting
        (record w { replies = replies_with setting w packet; choices = voiced setting w packet; reached = put w.reached number true }) packet.to step_of

    abbrev key : ℕ × ℕ × ℕ
    key = key_of packet.from packet.to packet.message

    place : (k : ℕ) × (number ≡ suc k) × (slice_get w.packets k ≡ Some packet)
    place = packet_stands w.packets number packet sent

    -- the call was made
    key_made : IsMade (w.nodes key.0) key.1 key.2
    key_made = of packet.from packet.to packet.message (numbered.packets place.0 packet place.2)
      where
        of : (from to : BrickId) (message : Message) → IsMadeBy w.nodes (record { from = from; to = to; message = message })
            → (let its = key_of from to message in IsMade (w.nodes its.0) its.1 its.2)
        of from to (Message.Request call request) made = made
        of from to (Message.Reply call reply) made = made
        of from to message made = (omega arith, λ same. omega arith)

    -- what was not sent is not delivered
    beyond : (k : ℕ) → length w.packets < k → put w.reached number true k ≡ false
    beyond k above =
        let inside : place.0 < length w.packets = slice_get_within w.packets place.0 packet place.2 in
        let number_is = place.1 in
        put_other w.reached number true k (λ same. absurd (omega (arith, above, inside, number_is, same))) ∙ numbered.reached k above

    -- the step is of that call, or closes a read and begins the next
    its_step : StepGoes setting w packet.to step_of key.0 key.1 key.2
    its_step = message_is_of setting w books (w.clocks packet.to.0) packet.from packet.to packet.message

    its_calls : StepCalls packet.to.0 (w.nodes packet.to.0) step_of.node step_of.packets
    its_calls = received_calls setting packet.to (w.clocks packet.to.0) (w.nodes packet.to.0) packet

    -- the world after a step on the packet
    abbrev world_on : NodeStep → World
    world_on step =
        world_stepped setting
        (record w { replies = replies_with setting w packet; choices = voiced setting w packet; reached = put w.reached number true }) packet.to step

    -- the packet is of the operation of its key
    key_number : (from to : BrickId) (message : Message)
        → (let its = key_of from to message in operation_of w (record { from = from; to = to; message = message }) ≡ w.numbers its.0 its.1 its.2)
    key_number from to (Message.Request call request) = refl
    key_number from to (Message.Reply call reply) = refl
    key_number from to message = sym none_numbered

    -- it reached an operation's messages, and so not those of one that none reached
    apart : (step : NodeStep) → (world_on step).numbers ≡ w.numbers → (n : ℕ) → IsUntouched (world_on step) n → n ≢ w.numbers key.0 key.1 key.2
    apart step numbers_now n untouched same =
        let reached_now : (world_on step).reached ≡ put w.reached number true
        = reached_stepped setting
        (record w { replies = replies_with setting w packet; choices = voiced setting w packet; reached = put w.reached number true }) packet.to step in
        false≢true (sym (untouched number packet (packet_kept w.packets step.packets number packet sent)
        (operation_same w (world_on step) packet numbers_now ∙ key_number packet.from packet.to packet.message ∙ sym same))
        ∙ ap (λ f. f number) reached_now ∙ put_same w.reached number true)

    -- a step that is of the packet's call keeps both
    abbrev BothKept : World → Type 0
    BothKept v = IsNumbered v × AreFresh setting v

    of_call : (step : NodeStep) → StepIsOf setting w packet.to step key.0 key.1 key.2 → StepCalls packet.to.0 (w.nodes packet.to.0) step.node step.packets
        → BothKept (world_on step)
    of_call step is own = (
      stepped_numbered packet.to step key.0 key.1 key.2 is key_made own (replies_with setting w packet) (voiced setting w packet) (put w.reached number true)
          (λ k. put_before w.reached number k) beyond,
      (λ n c opens untouched.
          stepped_fresh packet.to step key.0 key.1 key.2 is key_made own (replies_with setting w packet) (voiced setting w packet) (put w.reached number true)
          (λ k. put_before w.reached number k) beyond n
          (apart step (is.numbers (replies_with setting w packet) (voiced setting w packet) (put w.reached number true)) n untouched) c opens untouched),
    )

    -- so does one that closes a read and begins the next, in turn
    module _ (step : NodeStep) (reads : StepReads setting w packet.to step key.0 key.1 key.2) (there : is_brick setting.layout packet.to ≡ true) where
      abbrev read_end : NodeStep
      read_end = read_closed packet.to reads.node reads.known reads.c reads.answer reads.seen reads.stored

      abbrev read_next : Node → Coordinator
      read_next node = read_call reads.group reads.job packet.to reads.now node

      abbrev in_turn : NodeStep
      in_turn = then_does read_end (read_begun_by setting packet.to read_end.node reads.job (read_next read_end.node))

      -- the next read, as the world has it
      abbrev its_operation : Operation
      its_operation =
          read_of_call (put w.nodes packet.to.0 in_turn.node)
          (record w { replies = replies_with setting w packet; choices = voiced setting w packet; reached = put w.reached number true }) packet.to
          (read_next read_end.node).call

      -- the world in which it begins after the other was closed, where the brick is this node
      abbrev world_then : Node → World
      world_then node =
          world_begun setting (world_on read_end) packet.to node (read_next node) read_end.node.busy (Some (record reads.job { seq = read_end.node.seq + 1 }))
          read_end.node.scrub its_operation

      closing_kept : BothKept (world_on read_end)
      closing_kept = of_call read_end reads.closed_is reads.closed_calls

      closing_made : AreMade (world_on read_end)
      closing_made =
          stepped_made packet.to read_end key.0 key.1 key.2 reads.closed_is key_made reads.closed_calls (replies_with setting w packet)
          (voiced setting w packet) (put w.reached number true) (λ k. put_before w.reached number k) beyond

      begins_then : BothKept (world_then ((world_on read_end).nodes packet.to.0))
      begins_then = (
        began_numbered setting (world_on read_end) closing_made closing_kept.0 closing_kept.1 packet.to there reads.group reads.job.view None
            reads.now (job_ask reads.job) read_end.node.busy (Some (record reads.job { seq = read_end.node.seq + 1 })) read_end.node.scrub its_operation,
        began_fresh setting (world_on read_end) closing_made closing_kept.0 closing_kept.1 packet.to there reads.group reads.job.view None
            reads.now (job_ask reads.job) read_end.node.busy (Some (record reads.job { seq = read_end.node.seq + 1 })) read_end.node.scrub its_operation,
      )

      of_reads : BothKept (world_on step)
      of_reads =
          let begun : BothKept (world_then read_end.node) = subst (λ (z : Node). BothKept (world_then z)) (put_same w.nodes packet.to.0 read_end.node) begins_then in
          let alike : AreAlike (world_then read_end.node) (world_on in_turn)
          = both_alike packet.to reads.node reads.known reads.c reads.answer reads.stored reads.now reads.group reads.job (replies_with setting w packet)
          (voiced setting w packet) (put w.reached number true) reads.seen in
          subst (λ (z : NodeStep). BothKept (world_on z)) (sym reads.step_is)
          (numbered_alike (world_then read_end.node) (world_on in_turn) alike begun.0, fresh_alike setting (world_then read_end.node) (world_on in_turn) alike begun.1)

    pub delivered_kept : is_up setting.layout w packet.to ≡ true → BothKept next
    delivered_kept up = ⊎_elim
        (λ (is : StepIsOf setting w packet.to step_of key.0 key.1 key.2). of_call step_of is its_calls)
        (λ (reads : StepReads setting w packet.to step_of key.0 key.1 key.2).
        of_reads step_of reads (and_parts (is_brick setting.layout packet.to) (w.up packet.to.0) up).0)
        its_step

  none_made : IsMade (w.nodes 0) 0 0
  none_made = (omega arith, λ same. omega arith)

  -- a brick begins a proposal
  module _ (brick : BrickId) (group : GroupId) (members : List BrickId) where
    -- its step is of no call, and changes no operation
    abbrev proposal_step : NodeStep
    proposal_step = proposed setting brick (w.nodes brick.0) group members

    abbrev proposing_world : World
    proposing_world = world_stepped setting w brick proposal_step

    proposal_is_of : StepIsOf setting w brick proposal_step 0 0 0
    proposal_is_of =
        proposed_each (λ (step : NodeStep). StepIsOf setting w brick step 0 0 0) setting brick (w.nodes brick.0) group members
        (λ seq round proposal packets reports more are.
        quiet_is_of setting w brick (record (w.nodes brick.0) { seq = seq; round = round; proposal = proposal }) packets reports 0 0 0 refl refl
        (λ j packet at. inr (of_none packet.message (are j packet at))))

    operations_stay : proposing_world.operations ≡ w.operations
    operations_stay =
        proposed_each (λ (step : NodeStep). (world_stepped setting w brick step).operations ≡ w.operations) setting brick (w.nodes brick.0) group members
        (λ seq round proposal packets reports more are. refl)

    pub proposed_numbered : IsNumbered proposing_world
    proposed_numbered =
        stepped_numbered brick proposal_step 0 0 0 proposal_is_of none_made (proposed_calls setting brick (w.nodes brick.0) group members) w.replies w.choices
        w.reached (λ k is. is) numbered.reached

    pub proposed_fresh : AreFresh setting proposing_world
    proposed_fresh n c opens untouched =
        let at : IsOpenAt proposing_world n c = opens_at proposing_world n c opens in
        let some : 1 ≤ n = (books.operations n at.operation (ap (λ f. f n) (sym operations_stay) ∙ at.operation_is)).from_one in
        stepped_fresh brick proposal_step 0 0 0 proposal_is_of none_made (proposed_calls setting brick (w.nodes brick.0) group members) w.replies w.choices
        w.reached (λ k is. is) numbered.reached n
        (λ same. let none = none_numbered in omega (arith, some, same, none)) c opens untouched

  -- a brick begins a read of its own
  module _ (brick : BrickId) (there : is_brick setting.layout brick ≡ true) where
    abbrev ReadKept : NodeStep → Type 0
    ReadKept step = StepCalls brick.0 (w.nodes brick.0) step.node step.packets
        → IsNumbered (world_stepped setting w brick step) × AreFresh setting (world_stepped setting w brick step)

    -- nothing begins
    quiet_kept : (step : NodeStep) → StepIsOf setting w brick step 0 0 0 → (world_stepped setting w brick step).operations ≡ w.operations → ReadKept step
    quiet_kept step is operations own = (
      stepped_numbered brick step 0 0 0 is none_made own w.replies w.choices w.reached (λ k unreached. unreached) numbered.reached,
      (λ n c opens untouched.
          let at : IsOpenAt (world_stepped setting w brick step) n c = opens_at (world_stepped setting w brick step) n c opens in
          let some : 1 ≤ n = (books.operations n at.operation (ap (λ f. f n) (sym operations) ∙ at.operation_is)).from_one in
          stepped_fresh brick step 0 0 0 is none_made own w.replies w.choices w.reached (λ k unreached. unreached) numbered.reached n
          (λ same. let none = none_numbered in omega (arith, some, same, none)) c opens untouched),
    )

    -- it begins
    module _ (group : Group) (view : View) (only : Option (List BrickId)) (ask : Ask) (job : Option Job) (scrub : Option Scrub) where
      abbrev reader : Coordinator
      reader = coordinator_of group view only brick (w.clocks brick.0) (w.nodes brick.0) ask

      abbrev aside_step : NodeStep
      aside_step = begun_aside setting brick (record (reading_aside (w.nodes brick.0) reader) { job = job; scrub = scrub }) reader

      abbrev aside_next : World
      aside_next = world_stepped setting w brick aside_step

      abbrev aside_operation : Operation
      aside_operation = read_of_call (put w.nodes brick.0 aside_step.node) w brick reader.call

      abbrev aside_begun : World
      aside_begun = world_begun setting w brick (w.nodes brick.0) reader (w.nodes brick.0).busy job scrub aside_operation

      aside_alike : AreAlike aside_begun aside_next
      aside_alike = record { nodes = refl; packets = refl; operations = refl; numbers = refl; up = refl; reached = refl }

      aside_kept : IsNumbered aside_next × AreFresh setting aside_next
      aside_kept = (
        numbered_alike aside_begun aside_next aside_alike
            (began_numbered setting w now_made numbered fresh brick there group view only (w.clocks brick.0) ask (w.nodes brick.0).busy job scrub aside_operation),
        fresh_alike setting aside_begun aside_next aside_alike
            (began_fresh setting w now_made numbered fresh brick there group view only (w.clocks brick.0) ask (w.nodes brick.0).busy job scrub aside_operation),
      )

    -- that of a synchronisation
    pub synced_kept : (group : GroupId) → (let next = world_stepped setting w brick (synced_at setting brick (w.clocks brick.0) (w.nodes brick.0) group) in
        IsNumbered next × AreFresh setting next)
    synced_kept group =
        synced_at_each ReadKept setting brick (w.clocks brick.0) (w.nodes brick.0) group
        (quiet_kept (no_step (w.nodes brick.0)) (quiet (w.nodes brick.0) [] refl refl) refl)
        (λ answer. quiet_kept _ (quiet (w.nodes brick.0) (Report.Sync group answer ∷ []) refl refl) refl)
        (λ answer. quiet_kept _ (quiet (with_job (w.nodes brick.0) None) (Report.Sync group answer ∷ []) refl refl) refl)
        (λ kept is own.
        let job : Job = begun_job group ((w.nodes brick.0).learnt group.0).view in
        aside_kept kept job.view None (job_ask job) (Some (record job { seq = (w.nodes brick.0).seq + 1 })) (w.nodes brick.0).scrub)
        (synced_calls setting brick (w.clocks brick.0) (w.nodes brick.0) group)
      where
        quiet : (node : Node) (reports : List Report) → node.boot ≡ (w.nodes brick.0).boot → node.calls ≡ (w.nodes brick.0).calls
            → StepIsOf setting w brick (record { node = node; packets = []; told = []; answers = []; reports = reports }) 0 0 0
        quiet node reports boot calls = quiet_is_of setting w brick node [] reports 0 0 0 boot calls (each_none (IsKeyedOrNone 0 0 0))

    -- that of a scrub
    pub scrubbed_kept : (group : GroupId) (stripe : StripeNo) (members : List BrickId)
        → (let next = world_stepped setting w brick (scrubbed_at setting brick (w.clocks brick.0) (w.nodes brick.0) group stripe members) in
        IsNumbered next × AreFresh setting next)
    scrubbed_kept group stripe members =
        scrubbed_at_each ReadKept setting brick (w.clocks brick.0) (w.nodes brick.0) group stripe members
        (quiet_kept (no_step (w.nodes brick.0))
        (quiet_is_of setting w brick (w.nodes brick.0) [] [] 0 0 0 refl refl (each_none (IsKeyedOrNone 0 0 0))) refl)
        (λ kept is own.
        aside_kept kept ((w.nodes brick.0).learnt group.0).view (Some members) (scrub_ask group stripe) (w.nodes brick.0).job
        (Some (record { seq = (w.nodes brick.0).seq + 1; lagging = [] })))
        (scrubbed_calls setting brick (w.clocks brick.0) (w.nodes brick.0) group stripe members)
