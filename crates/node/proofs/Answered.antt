-- What follows from what an operation answers to a message.
use Rattle.std.proofs.Common.{◌≡◌, ℕ, Bool, true, false, if◌then◌else◌, Option, refl, sym, ◌∙◌, ap, subst}
use Rattle.fab_base.specs.declared.identities.BrickId.{BrickId}
use Rattle.fab_base.specs.declared.stamps.Stamp.{Stamp}
use Rattle.coord_phase.specs.declared.operations.News.{News}
use Rattle.messages.specs.declared.packets.Message.{Message}
use Rattle.messages.specs.declared.turns.Next.{Next}
use Rattle.messages.specs.declared.turns.Next.TheVariants.{Wait, Send, End, Recover}
use Rattle.messages.specs.declared.turns.Turn.{Turn}
use Rattle.protocol.specs.Coordinators as machine
use Rattle.protocol.specs.Coordinators.{Coordinator}
use Rattle.std.proofs.lemmas.Bool.{false≢true}
use Rattle.stripe_code.specs.Codes.{block_code}
use Rattle.coord_phase.specs.Operations.{Operation, StaysAsked, counts}
use Rattle.coord_phase.specs.Decisions.{Answers, AsksRecovery, IsWait, IsSend, SendsPhase, begins_in, decision, decided_on}
use Rattle.coord_recover.specs.Recoveries.{entered}
use Rattle.node.specs.Decisions.{or_waits}
use Rattle.node.proofs.Phases.{Begins, Follows, on_reply_follows}

-- a phase that begins is no reply that is left out
pub or_waits-begins : (c d : Coordinator) (news : News) → or_waits c (begins_in news d) ≡ begins_in news d
or_waits-begins c d News.Nothing = refl
or_waits-begins c d News.Made = refl
or_waits-begins c d (News.Seen version) = refl
or_waits-begins c d News.Stored = refl

-- a phase that begins is the call's next, and no reply counts in it yet
pub begins_so : (news : News) (c d : Coordinator) → Follows c (begins_in news d) → Begins c d
begins_so News.Nothing c d is = is
begins_so News.Made c d is = is
begins_so (News.Seen version) c d is = is
begins_so News.Stored c d is = is

-- an operation that may never ask for a recovery asks for one only where it may
pub never_asks : (block other : ℕ) (next : Next) (before after c d : Coordinator) → AsksRecovery false other next c d
    → AsksRecovery true block next before after
never_asks block other (Send messages) before after c d is = tt
never_asks block other Wait before after c d is = tt
never_asks block other (End answer) before after c d is = tt
never_asks block other (Recover turn) before after c d is = absurd (false≢true is.may_be)

-- what follows from what a message lets an operation decide
decided_follows : (fresh : Option Stamp) (op : Operation) (from : BrickId) (message : Message) → Follows op.state (decided_on fresh op from message)
decided_follows fresh op from (Message.Request call request) = tt
decided_follows fresh op from (Message.Reply call reply) = on_reply_follows op.block (block_code op.block) fresh op.state from call reply
decided_follows fresh op from (Message.Learn group view) = tt
decided_follows fresh op from (Message.Synced group view) = tt
decided_follows fresh op from (Message.Client ask) = tt
decided_follows fresh op from (Message.ClientReply id answer) = tt

-- a test that decides between two, where it is true
chosen : (b : Bool) (x y : machine.Next) → b ≡ true → (if b then x else y) ≡ x
chosen true x y e = refl
chosen false x y e = cc

module _ (fresh : Option Stamp) (before : Operation) (from : BrickId) (message : Message) where
  -- what it answers is what is known of it
  pub answers_as : (answered next : Next) (after : Operation) → answered ≡ next → Answers fresh before from message answered after
      → Answers fresh before from message next after
  answers_as answered next after same is = subst (λ (n : Next). Answers fresh before from message n after) same is

  -- an operation that does something had the message count
  counts_then : (answered : Next) (after : Operation) → (IsWait answered → ⊥) → Answers fresh before from message answered after → (b : Bool)
      → counts before from message ≡ b → counts before from message ≡ true
  counts_then answered after busy is true e = e
  counts_then answered after busy is false e = absurd (busy (is.ignored e).0)

  -- and what it does is the machine's decision
  pub decided_if_busy : (answered : Next) (after : Operation) → (IsWait answered → ⊥) → Answers fresh before from message answered after
      → decided_on fresh before from message ≡ decision after answered
  decided_if_busy answered after busy is =
      is.decided ∙ chosen (counts before from message) (decision after answered) machine.Ignores
      (counts_then answered after busy is (counts before from message) refl)

  -- what follows of it
  pub follows_if_busy : (answered : Next) (after : Operation) → (IsWait answered → ⊥) → Answers fresh before from message answered after
      → Follows before.state (decision after answered)
  follows_if_busy answered after busy is =
      subst (λ (next : machine.Next). Follows before.state next) (decided_if_busy answered after busy is) (decided_follows fresh before from message)

  -- one that waits does so as the machine says, in the same phase of its call
  waits_by : (after : Operation) → Answers fresh before from message Wait after → (b : Bool) → counts before from message ≡ b
      → (machine.Waits after.state ≡ or_waits before.state (decided_on fresh before from message)) × (after.state.call ≡ before.state.call)
  waits_by after is true e =
      let decided : decided_on fresh before from message ≡ machine.Waits after.state =
      is.decided ∙ chosen (counts before from message) (machine.Waits after.state) machine.Ignores e in (
        ap (or_waits before.state) (sym decided),
        subst (λ (next : machine.Next). Follows before.state next) decided (decided_follows fresh before from message),
      )
  waits_by after is false e =
      let same : after.state ≡ before.state = (is.ignored e).1 in
      let decided : decided_on fresh before from message ≡ machine.Ignores =
      is.decided ∙ ap (λ (b : Bool). if b then machine.Waits after.state else machine.Ignores) e in (
        ap (λ (c : Coordinator). machine.Waits c) same ∙ ap (or_waits before.state) (sym decided),
        ap (λ (c : Coordinator). c.call) same,
      )

  pub waits_so : (after : Operation) → Answers fresh before from message Wait after
      → (machine.Waits after.state ≡ or_waits before.state (decided_on fresh before from message)) × (after.state.call ≡ before.state.call)
  waits_so after is = waits_by after is (counts before from message) refl

  -- a recovery that has entered in the place of an operation answers what that did
  entered_decides : (mid : Operation) (turn : Turn) (next : Next) → IsSend next → decision (entered mid turn) next ≡ decision mid (Recover turn)
  entered_decides mid Turn.Order (Send messages) send = refl
  entered_decides mid (Turn.Down bound) (Send messages) send = refl
  entered_decides mid (Turn.Store base content) (Send messages) send = refl
  entered_decides mid turn Wait send = absurd send
  entered_decides mid turn (End answer) send = absurd send
  entered_decides mid turn (Recover other) send = absurd send

  entered_stays : (mid : Operation) (turn : Turn) → StaysAsked before mid → StaysAsked before (entered mid turn)
  entered_stays mid Turn.Order is = record { block = is.block; group = is.group; prior = is.prior; only = is.only; ask = is.ask }
  entered_stays mid (Turn.Down bound) is = record { block = is.block; group = is.group; prior = is.prior; only = is.only; ask = is.ask }
  entered_stays mid (Turn.Store base content) is = record { block = is.block; group = is.group; prior = is.prior; only = is.only; ask = is.ask }

  entered_answers : (mid : Operation) (turn : Turn) (next : Next) → Answers fresh before from message (Recover turn) mid → IsSend next
      → SendsPhase (entered mid turn) next → Answers fresh before from message next (entered mid turn)
  entered_answers mid turn next is send sent =
      let decided = decided_if_busy (Recover turn) mid (λ wrong. wrong) is in
      let some = counts_then (Recover turn) mid (λ wrong. wrong) is (counts before from message) refl in
      record {
        decided = decided ∙ sym (entered_decides mid turn next send)
            ∙ sym (chosen (counts before from message) (decision (entered mid turn) next) machine.Ignores some);
        ignored = λ none. let wrong : true ≡ false = sym some ∙ none in cc;
        sent = sent;
        stays = entered_stays mid turn is.stays;
      }

  pub recovery_answers : (mid after : Operation) (turn : Turn) (next : Next) → Answers fresh before from message (Recover turn) mid
      → after ≡ entered mid turn → IsSend next → SendsPhase after next → Answers fresh before from message next after
  recovery_answers mid after turn next is entered_is send sent =
      subst (λ (op : Operation). Answers fresh before from message next op) (sym entered_is)
      (entered_answers mid turn next is send (subst (λ (op : Operation). SendsPhase op next) entered_is sent))
