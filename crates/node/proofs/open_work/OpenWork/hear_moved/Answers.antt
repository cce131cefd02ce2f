-- Which turn a reply that counts, and tells a later view, is.
use Rattle.std.proofs.Common.{◌≡◌, ℕ, Option, Some, None, true, refl, sym, ◌∙◌, ap, subst}
use Rattle.std.specs.Ordering.{nat_cmp}
use Rattle.std.specs.BTreeMap.{get}
use Rattle.messages.specs.declared.packets.Message.{Message}
use Rattle.messages.specs.declared.packets.Message.TheVariants as message
use Rattle.messages.specs.declared.replies.Reply.{Reply}
use Rattle.messages.specs.declared.replies.Reply.TheVariants.{Moved}
use Rattle.protocol.specs.Nodes.{NodeStep, no_step}
use Rattle.coord_phase.specs.Operations.{counts}
use Rattle.node.specs.Operations.{shown_of, coordinator_of, EndsOrWaits}
use Rattle.node.specs.declared.open_work.OpenWork.{OpenWork}
use Rattle.node.specs.declared.operations.Operation.{Operation}
use Rattle.node.specs.Moves.{EndsIfOpen, HasCounted, WaitsOn, counts_with, ended_step, step_on}
use Rattle.node.specs.Proposals.{GoesAs}
use Rattle.node.specs.States.{IsAt, IsSameWork, KeptParts, state_in, state_with}
use Rattle.node.proofs.Hearing.{none_of}
use Rattle.node.proofs.Turns.{there, goes_is, ends_step, waits_decided, waits_step}
use Rattle.node.proofs.Underway.{same_work}
use Rattle.node.proofs.open_work.OpenWork.hear_moved.Goals as goal
use Rattle.node.proofs.open_work.OpenWork.hear_moved.Goals.{After-count, After-ended_by}

pub returns-then-not-is_open-clause-turn : goal.returns-then-not-is_open-clause-turn
unfolding state_with
returns-then-not-is_open-clause-turn c = (
  refl,
  c.in_ok-heard.ensures.left,
  λ now kept.
      let work = c.args.self.now in
      let none = none_of (get nat_cmp work.calls.operations c.args.call.seq) (sym c.is_open.ensures ∙ c.if-not-is_open.true) in
      subst (λ (step : NodeStep). GoesAs work.calls.me (state_in kept work) step c.in_ok-heard.heard.outs c.in_ok-heard.heard.left)
      (sym (goes_is c.args.layout.now now c.args.packet.now.from c.args.call c.args.reply.now work kept c.args.view c.requires.moved.0 none c.requires.moved.1))
      (c.in_ok-heard.ensures.hears work.calls.me (state_in kept work) c.args.reply.now c.requires.reply refl),
)

-- ---- of an operation that is open

-- the operation
held_op : (c : After-ended_by) → (op : Operation) × (get nat_cmp c.args.self.now.calls.operations c.args.call.seq ≡ Some op)
held_op c = there (get nat_cmp c.args.self.now.calls.operations c.args.call.seq) (sym c.is_open.ensures ∙ c.if-not-is_open.false)

-- the message
said_is : (c : After-ended_by) → c.args.packet.now.message ≡ message.Reply c.args.call (Moved c.args.view (Some c.requires.moved.0))
said_is c = c.requires.reply ∙ ap (message.Reply c.args.call) c.requires.moved.1

-- it counts in the operation
counted_so : (c : After-ended_by)
    → counts (shown_of (held_op c).0) c.args.packet.now.from (message.Reply c.args.call (Moved c.args.view (Some c.requires.moved.0))) ≡ true
counted_so c =
    subst (λ (m : Message). counts (shown_of (held_op c).0) c.args.packet.now.from m ≡ true) (said_is c)
    (subst (λ (o : Option Operation). counts_with c.args.self.now c.args.packet.now.from c.args.packet.now.message o ≡ true) (held_op c).1 c.requires.counts)

-- which waits for more then, if it does not end
waits_so : (c : After-ended_by) → EndsIfOpen (get nat_cmp c.args.self.now.calls.operations c.args.call.seq) c.args.packet.now.from c.args.view None
    → EndsOrWaits (coordinator_of (held_op c).0) c.args.packet.now.from c.args.view None
waits_so c = subst (λ (o : Option Operation). EndsIfOpen o c.args.packet.now.from c.args.view None) (held_op c).1

-- it is of the layout
at_held : (c : After-ended_by) → IsAt c.args.layout.now c.args.call.seq (held_op c).0
at_held c = c.requires.of.calls c.args.call.seq (held_op c).0 (held_op c).1

-- the machine's step is that on the reply which tells the view
step_so : (c : After-ended_by) (done : KeptParts → NodeStep)
    → ((now : ℕ) (kept : KeptParts) → step_on c.args.layout.now now c.args.packet.now.from c.args.call (Moved c.args.view (Some c.requires.moved.0))
    c.args.self.now kept ≡ done kept)
    → (now : ℕ) (kept : KeptParts) → step_on c.args.layout.now now c.args.packet.now.from c.args.call c.args.reply.now c.args.self.now kept ≡ done kept
step_so c done =
    subst (λ (r : Reply). (now : ℕ) (kept : KeptParts) → step_on c.args.layout.now now c.args.packet.now.from c.args.call r c.args.self.now kept ≡ done kept)
    (sym c.requires.moved.1)

pub returns-in-Some-clause-turn : goal.returns-in-Some-clause-turn
returns-in-Some-clause-turn c =
    let d = (goal.at.returns-in-Some-clause-turn c).After-ended_by in
    let op = held_op d in
    let ends = subst (λ (o : Option Operation). EndsIfOpen o c.args.packet.now.from c.args.view (Some c.in-Some.answer)) op.1 c.in-Some.ensures in
    let step = step_so d (λ kept. ended_step (state_in kept c.args.self.now) c.args.call.seq c.in-Some.answer)
    (ends_step c.args.layout.now c.args.self.now c.args.packet.now.from c.args.call op.0 op.1 (at_held d) c.args.view c.requires.moved.0 (counted_so d)
    c.in-Some.answer ends) in
    (refl, sym c.is_open.ensures ∙ c.if-not-is_open.false, step)

pub count-requires : goal.count-requires
count-requires c =
    let d = (goal.at.count-requires c).After-ended_by in
    let held = held_op d in
    let decided = waits_decided c.args.layout.now c.args.self.now c.args.packet.now.from c.args.call held.0 held.1 (at_held d) c.args.view c.requires.moved.0
    (counted_so d) (waits_so d c.in_default.ensures) in
    record {
      waits = subst (λ (o : Option Operation). WaitsOn o c.args.packet.now.from c.args.packet.now.message) (sym held.1)
          (subst (λ (m : Message). WaitsOn (Some held.0) c.args.packet.now.from m) (sym (said_is d)) (counted_so d, decided));
    }

pub returns-clause-turn : goal.returns-clause-turn
returns-clause-turn c =
    let d = (goal.at.returns-clause-turn c).After-ended_by in
    let before = c.args.self.now in
    let call = c.args.call in
    let after : OpenWork = record { calls = c.count.new.self; proposals = before.proposals } in
    let has = subst (λ (m : Message). HasCounted call.seq c.args.packet.now.from m before.calls after.calls) c.requires.reply c.in_ok-count.ensures.counted in
    let step = step_so d (λ kept. no_step (state_in kept after))
    (waits_step c.args.layout.now before c.args.packet.now.from call (held_op d).0 (held_op d).1 (at_held d) c.args.view c.requires.moved.0 (counted_so d)
    (waits_so d c.in_default.ensures) after
    (subst (λ (r : Reply). HasCounted call.seq c.args.packet.now.from (message.Reply call r) before.calls after.calls) c.requires.moved.1 has) refl) in
    (has, refl, step)

-- the work is of the same brick, whether it was counted or not
same_so : (c : After-count) → IsSameWork c.args.layout.now c.args.self.now (record { calls = c.count.new.self; proposals = c.args.self.now.proposals })
same_so c = same_work c.args.layout.now c.args.self.now c.count.new.self c.args.self.now.proposals (c.count.ensures.same c.args.layout.now) (λ on. on)

pub returns-in_err-count-clause-same : goal.returns-in_err-count-clause-same
returns-in_err-count-clause-same c = same_so (goal.at.returns-in_err-count-clause-same c).After-count

pub returns-clause-same : goal.returns-clause-same
returns-clause-same c = same_so (goal.at.returns-clause-same c).After-count
