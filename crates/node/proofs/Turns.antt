-- What a reply that counts, and tells a later view, comes to.
use Rattle.std.proofs.Common.{◌≡◌, ℕ, ◌-◌, true, [], ◌∷◌, Option, Some, None, is_some, refl, sym, ◌∙◌, ap, subst}
use Rattle.std.specs.Option.{option_map}
use Rattle.std.specs.Ordering.{nat_cmp}
use Rattle.std.specs.BTreeMap.{get}
use Rattle.fab_base.specs.declared.answers.Answer.{Answer}
use Rattle.fab_base.specs.declared.identities.BrickId.{BrickId}
use Rattle.fab_base.specs.declared.identities.ViewNo.{ViewNo}
use Rattle.fab_base.specs.Layouts.{Layout}
use Rattle.messages.specs.declared.calls.Call.{Call}
use Rattle.messages.specs.declared.packets.Message.TheVariants as message
use Rattle.messages.specs.declared.replies.Lineage.{Lineage}
use Rattle.messages.specs.declared.replies.Reply.{Reply}
use Rattle.messages.specs.declared.replies.Reply.TheVariants.{Moved}
use Rattle.stripe_code.specs.Codes.{block_code, coding}
use Rattle.protocol.specs.Coordinators as machine
use Rattle.protocol.specs.Coordinators.{Coordinator, on_reply, with_reply}
use Rattle.protocol.specs.Proposals.{Proposal}
use Rattle.protocol.specs.Nodes.{NodeStep, put, no_step, carried_out, replied_at, replied_ballot, fresh_stamp, known_after, with_call, with_known}
use Rattle.coord_phase.specs.Messages.{packets_from}
use Rattle.coord_phase.specs.Decisions.{decided_on}
use Rattle.coord_phase.specs.Operations.{counts, heard, heard_at, seat_told}
use Rattle.node.specs.declared.operations.Operation.{Operation}
use Rattle.stamp_store.specs.declared.stamp_sources.StampSource.{StampSource}
use Rattle.node.specs.declared.open_work.OpenWork.{OpenWork}
use Rattle.node.specs.declared.proposals.Proposals.{Proposals}
use Rattle.node.specs.Operations.{shown_of, coordinator_of, ends_or_waits, EndsOrWaits}
use Rattle.node.specs.declared.open_calls.OpenCalls.{OpenCalls}
use Rattle.node.specs.declared.open_work.Turn.TheVariants as turn
use Rattle.node.specs.declared.proposals.Heard.{Heard}
use Rattle.node.specs.Moves.{HasCounted, IsTurn, ended_step, step_on}
use Rattle.node.specs.Outcomes.{Outcome}
use Rattle.node.specs.Proposals.{proposal_in}
use Rattle.node.specs.States.{KeptParts, OtherParts, parts_with, state_in, state_with, IsAt, StepsAs}
use Rattle.node.proofs.States.{same_states}
use Rattle.node.proofs.Tables.{shown_after}

-- a value that is there
pub there : {A : Type 0} (o : Option A) → is_some o ≡ true → (x : A) × (o ≡ Some x)
there None is = absurd cc
there (Some x) is = (x, refl)

module _ (layout : Layout) (before : OpenWork) (from : BrickId) (call : Call) (op : Operation) (held : get nat_cmp before.calls.operations call.seq ≡ Some op)
    (at : IsAt layout call.seq op) (view : ViewNo) (lineage : Lineage)
    (counted : counts (shown_of op) from (message.Reply call (Moved view (Some lineage))) ≡ true) where
  abbrev reply : Reply
  reply = Moved view (Some lineage)

  -- the coordinator of the operation, once it counted the reply at a seat
  abbrev with_it : ℕ → Coordinator
  with_it seat = with_reply (coordinator_of op) seat from reply

  -- the reply counts at some seat
  pub seat_found : (seat : ℕ) × (machine.counts_at (shown_of op).block (coordinator_of op) from.0 call reply ≡ Some seat)
  unfolding seat_told
  seat_found = there (machine.counts_at (shown_of op).block (coordinator_of op) from.0 call reply) counted

  -- so it is heard there
  pub heard_is : (heard (shown_of op) from (message.Reply call reply)).state ≡ with_it seat_found.0
  unfolding seat_told
  heard_is = ap (λ (seat : Option ℕ). (heard_at (shown_of op) from (message.Reply call reply) seat).state) seat_found.1

  -- where it waits for more, that is what is decided
  pub waits_decided : EndsOrWaits (coordinator_of op) from view None
      → decided_on None (shown_of op) from (message.Reply call reply) ≡ machine.Waits (heard (shown_of op) from (message.Reply call reply)).state
  waits_decided ends =
      let block = (shown_of op).block in
      ends block (block_code block) None call (Some lineage) seat_found.0 seat_found.1 ∙ ap (λ (c : Coordinator). machine.Waits c) (sym heard_is)

  -- what the machine's brick does
  steps_by : (ended : Option Answer) → EndsOrWaits (coordinator_of op) from view ended → (now : ℕ) (kept : KeptParts)
      → (let node = state_in kept before in step_on layout now from call reply before kept
      ≡ carried_out (coding layout) before.calls.me node node.known (coordinator_of op) (ends_or_waits ended (with_it seat_found.0)))
  unfolding state_with
  steps_by ended ends now kept =
      let node = state_in kept before in
      let c = coordinator_of op in
      let me = before.calls.me in
      let fresh = fresh_stamp me c.stamp.view now node.boot node.known in
      let counts_here = ap (λ (block : ℕ). machine.counts_at block c from.0 call reply) (sym at.is_operation) ∙ seat_found.1 in
      ap (replied_at (coding layout) me now from node call reply) (ap (option_map coordinator_of) held)
      ∙ ap (carried_out (coding layout) me node node.known c)
      (ends layout.block (block_code layout.block) fresh call (Some lineage) seat_found.0 counts_here)

  -- an operation that ends does as the machine's
  pub ends_step : (answer : Answer) → EndsOrWaits (coordinator_of op) from view (Some answer) → (now : ℕ) (kept : KeptParts)
      → step_on layout now from call reply before kept ≡ ended_step (state_in kept before) call.seq answer
  ends_step answer ends now kept =
      steps_by (Some answer) ends now kept ∙ ap (λ (seq : ℕ). ended_step (state_in kept before) seq answer) at.seq

  -- so does one that waits
  pub waits_step : EndsOrWaits (coordinator_of op) from view None → (after : OpenWork) → HasCounted call.seq from (message.Reply call reply) before.calls after.calls
      → after.proposals ≡ before.proposals → (now : ℕ) (kept : KeptParts) → step_on layout now from call reply before kept ≡ no_step (state_in kept after)
  unfolding state_with
  waits_step ends after has same now kept =
      let was_is : has.was ≡ op = (let both : Some has.was ≡ Some op = sym has.open_before ∙ held in cc) in
      let now_is : coordinator_of has.now ≡ with_it seat_found.0 =
      has.now_is ∙ ap (λ (o : Operation). (heard (shown_of o) from (message.Reply call reply)).state) was_is ∙ heard_is in
      let f = λ (q : ℕ). option_map coordinator_of (get nat_cmp before.calls.operations q) in
      steps_by None ends now kept
      ∙ ap no_step (sym (same_states _ _ (ap (λ (stamps : StampSource). stamps.boot) has.stamps) has.seq_is (ap (λ (stamps : StampSource). stamps.known) has.stamps)
      (ap (λ (proposals : Proposals). proposals.rounds) same) has.count refl (λ g e. refl) (λ g. refl) (λ g. refl) (λ g e s. refl)
      (λ k. shown_after coordinator_of before.calls.operations after.calls.operations call.seq (Some has.now) has.others k
      ∙ ap (λ (c : Coordinator). put f call.seq (Some c) k) now_is
      ∙ ap (λ (seq : ℕ). put f seq (Some (with_it seat_found.0)) k) (sym at.seq))
      (ap (λ (proposals : Proposals). proposal_in proposals.under_way) same) refl refl))

-- a reply that tells a later view is to the proposal, where no operation of its call is open
pub goes_is : (layout : Layout) (now : ℕ) (from : BrickId) (call : Call) (told : Reply) (work : OpenWork) (kept : KeptParts) (view : ViewNo) (lineage : Lineage)
    → get nat_cmp work.calls.operations call.seq ≡ None → told ≡ Moved view (Some lineage)
    → (let node = state_in kept work in
    step_on layout now from call told work kept ≡ replied_ballot layout work.calls.me from node call told (proposal_in work.proposals.under_way))
unfolding state_with
goes_is layout now from call told work kept view lineage none moved =
    let node = state_in kept work in
    let me = work.calls.me in
    ap (replied_at (coding layout) me now from node call told) (ap (option_map coordinator_of) none)
    ∙ ap (λ (r : Reply). replied_ballot layout me from (with_known node (known_after node.known r)) call told (proposal_in work.proposals.under_way)) moved

-- ---- what is still to be done, and what is taken back

module _ (layout : Layout) (from : BrickId) (call : Call) (told : Reply) (before mid : OpenWork) where
  -- where an operation counted the reply and takes it back, all is as it was
  pub counted_back : (after : OpenWork) → IsTurn layout from call told before turn.Counted mid → after.proposals ≡ mid.proposals
      → ((b : OpenCalls) → HasCounted call.seq from (message.Reply call told) b mid.calls → (parts : OtherParts) → state_with parts after.calls ≡ state_with parts b)
      → (kept : KeptParts) → state_in kept after ≡ state_in kept before
  counted_back after is same back kept =
      ap (λ (proposals : Proposals). state_with (parts_with kept proposals) after.calls) (same ∙ is.1) ∙ back before.calls is.0 (parts_with kept before.proposals)

  -- an operation that counted it has done all
  pub counted_done : (outs : Outcome) → outs ≡ record { messages = []; told = []; answers = []; reports = [] } → IsTurn layout from call told before turn.Counted mid
      → (now : ℕ) (kept : KeptParts) → StepsAs before.calls.me (state_in kept mid) (step_on layout now from call told before kept) outs
  counted_done outs nothing is now kept =
      subst (λ (step : NodeStep). StepsAs before.calls.me (state_in kept mid) step outs) (sym (is.2 now kept)) (record {
        packets = ap (λ (o : Outcome). packets_from before.calls.me o.messages) nothing;
        told = ap (λ (o : Outcome). o.told) nothing;
        answers = ap (λ (o : Outcome). o.answers) nothing;
        reports = ap (λ (o : Outcome). o.reports) nothing;
        state_is = refl;
      })

  -- an operation that is to end ends
  pub ends_done : (answer : Answer) (after : OpenWork) (outs : Outcome)
      → outs ≡ record { messages = []; told = []; answers = record { seq = call.seq; answer = answer } ∷ []; reports = [] }
      → after.proposals ≡ mid.proposals
      → ((parts : OtherParts) → state_with parts after.calls ≡ with_call (state_with parts mid.calls) mid.calls.stamps.known ((state_with parts mid.calls).busy - 1) call.seq None)
      → IsTurn layout from call told before (turn.Ends answer) mid
      → (now : ℕ) (kept : KeptParts) → StepsAs before.calls.me (state_in kept after) (step_on layout now from call told before kept) outs
  unfolding state_with
  ends_done answer after outs answered same closed is now kept =
      subst (λ (step : NodeStep). StepsAs before.calls.me (state_in kept after) step outs) (sym (is.2 now kept)) (record {
        packets = ap (λ (o : Outcome). packets_from before.calls.me o.messages) answered;
        told = ap (λ (o : Outcome). o.told) answered;
        answers = ap (λ (o : Outcome). o.answers) answered;
        reports = ap (λ (o : Outcome). o.reports) answered;
        state_is = ap (λ (proposals : Proposals). state_with (parts_with kept proposals) after.calls) same ∙ closed (parts_with kept mid.proposals)
            ∙ ap (λ (w : OpenWork). (ended_step (state_in kept w) call.seq answer).node) is.0;
      })

  -- the proposal goes on
  pub goes_done : (held : Heard) (after : OpenWork) (outs : Outcome) → outs ≡ held.outs → after.calls ≡ mid.calls → after.proposals.rounds ≡ mid.proposals.rounds
      → after.proposals.under_way ≡ held.left → IsTurn layout from call told before (turn.Goes held) mid
      → (now : ℕ) (kept : KeptParts) → StepsAs before.calls.me (state_in kept after) (step_on layout now from call told before kept) outs
  unfolding state_with
  goes_done held after outs sent calls rounds left is now kept =
      let goes = is.2 now kept in
      let parts = λ (round : ℕ) (proposal : Option Proposal).
      record (parts_with kept before.proposals) { round = round; proposal = proposal } in
      record {
        packets = ap (λ (o : Outcome). packets_from before.calls.me o.messages) sent ∙ goes.packets;
        told = ap (λ (o : Outcome). o.told) sent ∙ goes.told;
        answers = ap (λ (o : Outcome). o.answers) sent ∙ goes.answers;
        reports = ap (λ (o : Outcome). o.reports) sent ∙ goes.reports;
        state_is =
            (λ i. state_with (parts (rounds i) (proposal_in (left i))) (calls i))
            ∙ ap (λ (w : OpenWork). state_with (parts w.proposals.rounds (proposal_in held.left)) w.calls) is.0
            ∙ sym goes.node_is;
      }
