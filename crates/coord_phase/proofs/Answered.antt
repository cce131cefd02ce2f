-- What the machine decides on a message, by what the coordinator found of it.
use Rattle.std.proofs.Common.{◌≡◌, ℕ, ◌-◌, Bool, true, false, not, cond, nat_lt, List, [], ◌∷◌, ◌++◌, length, take, Option, Some, None, refl, sym, ap, ◌∙◌, subst, rules, length-append}
use Rattle.std.proofs.lemmas.List.{take_at}
use Rattle.std.specs.Prelude.{is_some}
use Rattle.std.proofs.lemmas.Bool.{false≢true}
use Rattle.fab_base.specs.declared.identities.BrickId.{BrickId}
use Rattle.fab_base.specs.declared.stamps.Stamp.{Stamp}
use Rattle.messages.specs.declared.calls.Call.{Call}
use Rattle.messages.specs.declared.packets.Message.{Message}
use Rattle.messages.specs.declared.packets.Message.TheVariants as messages
use Rattle.messages.specs.declared.replies.Reply.{Reply}
use Rattle.messages.specs.declared.turns.Next.{Next as Answer}
use Rattle.messages.specs.declared.turns.Next.TheVariants.{Wait, Send, End, Recover}
use Rattle.coord_phase.specs.declared.operations.News.{News}
use Rattle.protocol.specs.declared.phases.Counted.{Counted}
use Rattle.protocol.specs.declared.phases.FullMember.{FullMember}
use Rattle.protocol.specs.declared.phases.Mover.{Mover}
use Rattle.protocol.specs.declared.phases.Dropper.{Dropper}
use Rattle.protocol.specs.Coordinators.{Next, Ignores, Waits, counts_at, lowest_full, aborted_full, lowest_mover, aborted_moved, lowest_dropper, aborted_gone, needed, decided, on_reply, counted_at}
use Rattle.stripe_code.specs.Codes.{block_code}
use Rattle.coord_phase.specs.Operations.{Operation, StaysAsked, with_state, without_last, telling, seat_told, counts, heard, heard_at}
use Rattle.coord_phase.specs.Decisions.{decided_on, decision, Answers, AsksRecovery, HasBlocks, SendsPhase, IsWait}

-- what is decided, by whether the message counts, and whether a quorum then counts
abbrev pub after_hearing : Option Stamp → Operation → Bool → Next
after_hearing fresh op full =
    cond full (decided op.block (block_code op.block) fresh op.state) (Waits op.state)

abbrev pub is_full : Operation → Bool
is_full op = not (nat_lt (length op.state.counted) (needed op.state))

-- what is known of a message that was heard at a seat
record Heard (fresh : Option Stamp) (before : Operation) (after : Operation) (next : Next) (counted : Bool) : Type 0 where
  ignored : counted ≡ false → next ≡ Ignores
  heard : counted ≡ true → next ≡ after_hearing fresh after (is_full after)
  unchanged : counted ≡ false → after ≡ before
  uncounted : counted ≡ true
      → with_state after (without_last after.state) ≡ before
  stays : StaysAsked before after

not_full : (b : Bool) (x y : Next) → cond b x y ≡ cond (not b) y x
not_full true x y = refl
not_full false x y = refl

-- the replies but the last
all_but_last : (counted : List Counted) (x : Counted) → take (length (counted ++ (x ∷ [])) - 1) (counted ++ (x ∷ [])) ≡ counted
all_but_last counted x = rw length-append (search (rules, take_at))

heard_reply : (fresh : Option Stamp) (op : Operation) (from : BrickId) (call : Call) (reply : Reply) (seat : Option ℕ)
    → counts_at op.block op.state from.0 call reply ≡ seat
    → Heard fresh op (heard_at op from (messages.Reply call reply) seat)
    (on_reply op.block (block_code op.block) fresh op.state from call reply) (is_some seat)
unfolding on_reply
heard_reply fresh op from call reply None is =
    record {
      ignored = λ none. ap (counted_at op.block (block_code op.block) fresh op.state from reply) is;
      heard = λ some. absurd (false≢true some);
      unchanged = λ none. refl;
      uncounted = λ some. absurd (false≢true some);
      stays = record { block = refl; group = refl; prior = refl; only = refl; ask = refl };
    }
heard_reply fresh op from call reply (Some seat) is =
    let after = heard_at op from (messages.Reply call reply) (Some seat) in
    record {
      ignored = λ none. absurd (false≢true (sym none));
      heard = λ some. ap (counted_at op.block (block_code op.block) fresh op.state from reply) is
          ∙ not_full (nat_lt (length after.state.counted) (needed op.state)) (Waits after.state)
          (decided op.block (block_code op.block) fresh after.state);
      unchanged = λ none. absurd (false≢true (sym none));
      uncounted = λ some. ap (λ (counted : List Counted). with_state op (record op.state { counted = counted })) (all_but_last op.state.counted _);
      stays = record { block = refl; group = refl; prior = refl; only = refl; ask = refl };
    }

heard_message : (fresh : Option Stamp) (op : Operation) (from : BrickId) (message : Message)
    → Heard fresh op (heard op from message) (decided_on fresh op from message) (counts op from message)
unfolding seat_told
heard_message fresh op from (messages.Reply call reply) = heard_reply fresh op from call reply _ refl
heard_message fresh op from message =
    record {
      ignored = λ none. refl;
      heard = λ some. absurd (false≢true some);
      unchanged = λ none. refl;
      uncounted = λ some. absurd (false≢true some);
      stays = record { block = refl; group = refl; prior = refl; only = refl; ask = refl };
    }

-- a message that does not count changes nothing, and the machine leaves it out
pub ignored : (fresh : Option Stamp) (op : Operation) (from : BrickId) (message : Message)
    → counts op from message ≡ false → (decided_on fresh op from message ≡ Ignores) × (heard op from message ≡ op)
ignored fresh op from message none = let is = heard_message fresh op from message in (is.ignored none, is.unchanged none)

-- with one that counts the machine waits, or decides where a quorum counts
pub decided_with : (fresh : Option Stamp) (op : Operation) (from : BrickId) (message : Message) (full : Bool)
    → counts op from message ≡ true → full ≡ is_full (heard op from message)
    → decided_on fresh op from message ≡ after_hearing fresh (heard op from message) full
decided_with fresh op from message full some is =
    (heard_message fresh op from message).heard some ∙ ap (after_hearing fresh (heard op from message)) (sym is)

-- once its reply is taken back, nothing has changed
pub taken_back : (op : Operation) (from : BrickId) (message : Message) → counts op from message ≡ true
    → with_state (heard op from message) (without_last (heard op from message).state) ≡ op
taken_back op from message some = (heard_message None op from message).uncounted some

-- a message does not change what is asked
pub heard_stays : (op : Operation) (from : BrickId) (message : Message) → StaysAsked op (heard op from message)
heard_stays op from message = (heard_message None op from message).stays

-- what is asked stays so from one step to the next
pub stays_both : (a b c : Operation) → StaysAsked a b → StaysAsked b c → StaysAsked a c
stays_both a b c first second =
    record { block = second.block ∙ first.block; group = second.group ∙ first.group; prior = second.prior ∙ first.prior; only = second.only ∙ first.only; ask = second.ask ∙ first.ask }

stays_telling : (mid after : Operation) (news : News) → after ≡ telling mid mid.state news → StaysAsked mid after
stays_telling mid after news is =
    record {
      block = ap (λ (op : Operation). op.block) is;
      group = ap (λ (op : Operation). op.state.group) is;
      prior = ap (λ (op : Operation). op.state.prior) is;
      only = ap (λ (op : Operation). op.state.only) is;
      ask = ap (λ (op : Operation). op.state.ask) is;
    }

heard_then : (before : Operation) (from : BrickId) (message : Message) (mid after : Operation) → mid ≡ heard before from message
    → StaysAsked mid after → StaysAsked before after
heard_then before from message mid after heard_is stays =
    stays_both before mid after (subst (λ (op : Operation). StaysAsked before op) (sym heard_is) (heard_stays before from message)) stays

-- after a message that does not count an operation waits, as it was
pub answers_ignored : (fresh : Option Stamp) (before : Operation) (from : BrickId) (message : Message) (mid after : Operation) (answered : Answer)
    → mid ≡ heard before from message → counts before from message ≡ false → answered ≡ Wait → after ≡ telling mid mid.state News.Nothing
    → Answers fresh before from message answered after
answers_ignored fresh before from message mid after answered heard_is none waits is =
    let machine = ignored fresh before from message none in
    let same : mid ≡ before = heard_is ∙ machine.1 in
    record {
      decided = machine.0 ∙ sym (ap (λ (b : Bool). cond b (decision after answered) Ignores) none);
      ignored = λ _. (subst IsWait (sym waits) tt, ap (λ (op : Operation). op.state) (is ∙ ap (λ (op : Operation). telling op op.state News.Nothing) same));
      sent = subst (SendsPhase after) (sym waits) tt;
      stays = heard_then before from message mid after heard_is (stays_telling mid after News.Nothing is);
    }

-- with a reply that counts, but no quorum, it waits
pub answers_waiting : (fresh : Option Stamp) (before : Operation) (from : BrickId) (message : Message) (mid after : Operation) (answered : Answer)
    (full : Bool)
    → mid ≡ heard before from message → counts before from message ≡ true → full ≡ is_full mid → full ≡ false → answered ≡ Wait
    → after ≡ telling mid mid.state News.Nothing
    → Answers fresh before from message answered after
answers_waiting fresh before from message mid after answered full heard_is some full_is few waits is =
    let machine : decided_on fresh before from message ≡ Waits mid.state =
    decided_with fresh before from message full some (full_is ∙ ap is_full heard_is)
    ∙ ap (λ (b : Bool). after_hearing fresh (heard before from message) b) few
    ∙ ap (λ (op : Operation). Waits op.state) (sym heard_is) in
    let holds : decision after answered ≡ Waits mid.state = ap (decision after) waits ∙ ap (λ (op : Operation). Waits op.state) is in
    record {
      decided = machine ∙ sym holds ∙ sym (ap (λ (b : Bool). cond b (decision after answered) Ignores) some);
      ignored = λ none. absurd (false≢true (sym none ∙ some));
      sent = subst (SendsPhase after) (sym waits) tt;
      stays = heard_then before from message mid after heard_is (stays_telling mid after News.Nothing is);
    }

-- with a quorum it answers what the machine decides
pub answers_decided : (fresh : Option Stamp) (before : Operation) (from : BrickId) (message : Message) (mid after : Operation) (answered : Answer)
    (full : Bool)
    → mid ≡ heard before from message → counts before from message ≡ true → full ≡ is_full mid → full ≡ true
    → decision after answered ≡ decided mid.block (block_code mid.block) fresh mid.state → SendsPhase after answered
    → StaysAsked mid after
    → Answers fresh before from message answered after
answers_decided fresh before from message mid after answered full heard_is some full_is enough next sent stays =
    let machine : decided_on fresh before from message ≡ decided mid.block (block_code mid.block) fresh mid.state =
    decided_with fresh before from message full some (full_is ∙ ap is_full heard_is)
    ∙ ap (λ (b : Bool). after_hearing fresh (heard before from message) b) enough
    ∙ ap (λ (op : Operation). decided op.block (block_code op.block) fresh op.state) (sym heard_is) in
    record {
      decided = machine ∙ sym next ∙ sym (ap (λ (b : Bool). cond b (decision after answered) Ignores) some);
      ignored = λ none. absurd (false≢true (sym none ∙ some));
      sent = sent;
      stays = heard_then before from message mid after heard_is stays;
    }

-- a member that told a later view aborts it, whatever the others told
moved_decided : (fresh : Option Stamp) (op : Operation) (m : Mover) → lowest_mover op.state.counted ≡ Some m
    → decided op.block (block_code op.block) fresh op.state ≡ aborted_moved m
unfolding decided
moved_decided fresh op m is = rw is refl

pub answers_moved : (fresh : Option Stamp) (before : Operation) (from : BrickId) (message : Message) (mid after : Operation) (answered : Answer)
    (full : Bool) (m : Mover)
    → mid ≡ heard before from message → counts before from message ≡ true → full ≡ is_full mid → full ≡ true
    → lowest_mover mid.state.counted ≡ Some m → decision after answered ≡ aborted_moved m → SendsPhase after answered
    → after ≡ telling mid mid.state News.Nothing
    → Answers fresh before from message answered after
answers_moved fresh before from message mid after answered full m heard_is some full_is enough told aborts sent is =
    let decides = moved_decided fresh mid m told in
    answers_decided fresh before from message mid after answered full heard_is some full_is enough (aborts ∙ sym decides) sent
    (stays_telling mid after News.Nothing is)

-- where no member told one, and a member has dropped its versions of the view before, that aborts it
gone_decided : (fresh : Option Stamp) (op : Operation) (d : Dropper) → lowest_mover op.state.counted ≡ None
    → lowest_dropper op.state.counted ≡ Some d
    → decided op.block (block_code op.block) fresh op.state ≡ aborted_gone d
unfolding decided
gone_decided fresh op d none is = rw none (rw is refl)

pub answers_gone : (fresh : Option Stamp) (before : Operation) (from : BrickId) (message : Message) (mid after : Operation) (answered : Answer)
    (full : Bool) (d : Dropper)
    → mid ≡ heard before from message → counts before from message ≡ true → full ≡ is_full mid → full ≡ true
    → lowest_mover mid.state.counted ≡ None → lowest_dropper mid.state.counted ≡ Some d → decision after answered ≡ aborted_gone d
    → SendsPhase after answered → after ≡ telling mid mid.state News.Nothing
    → Answers fresh before from message answered after
answers_gone fresh before from message mid after answered full d heard_is some full_is enough none told aborts sent is =
    let decides = gone_decided fresh mid d none told in
    answers_decided fresh before from message mid after answered full heard_is some full_is enough (aborts ∙ sym decides) sent
    (stays_telling mid after News.Nothing is)

-- where no member told either, and a member's store is full, that aborts it
full_decided : (fresh : Option Stamp) (op : Operation) (f : FullMember) → lowest_mover op.state.counted ≡ None
    → lowest_dropper op.state.counted ≡ None → lowest_full op.state.counted ≡ Some f
    → decided op.block (block_code op.block) fresh op.state ≡ aborted_full f
unfolding decided
full_decided fresh op f none kept is = rw none (rw kept (rw is refl))

pub answers_full : (fresh : Option Stamp) (before : Operation) (from : BrickId) (message : Message) (mid after : Operation) (answered : Answer)
    (full : Bool) (f : FullMember)
    → mid ≡ heard before from message → counts before from message ≡ true → full ≡ is_full mid → full ≡ true
    → lowest_mover mid.state.counted ≡ None → lowest_dropper mid.state.counted ≡ None → lowest_full mid.state.counted ≡ Some f
    → decision after answered ≡ aborted_full f → SendsPhase after answered → after ≡ telling mid mid.state News.Nothing
    → Answers fresh before from message answered after
answers_full fresh before from message mid after answered full f heard_is some full_is enough none kept told aborts sent is =
    let decides = full_decided fresh mid f none kept told in
    answers_decided fresh before from message mid after answered full heard_is some full_is enough (aborts ∙ sym decides) sent
    (stays_telling mid after News.Nothing is)

-- a recovery that is asked for once a reply counted is asked for by the operation as it was before the reply
pub asked_as_before : (before : Operation) (from : BrickId) (message : Message) (mid after : Operation) (may : Bool) (answered : Answer)
    → mid ≡ heard before from message → counts before from message ≡ true → AsksRecovery may mid.block answered mid.state after.state
    → AsksRecovery may before.block answered before.state (without_last after.state)
asked_as_before before from message mid after may (Recover turn) heard_is some asks =
    record {
      may_be = asks.may_be;
      blocks = subst (λ (block : ℕ). HasBlocks block after.state.group.m turn)
          (ap (λ (op : Operation). op.block) heard_is ∙ (heard_stays before from message).block) asks.blocks;
      room = asks.room;
      same = ap without_last (asks.same ∙ ap (λ (op : Operation). op.state) heard_is)
          ∙ ap (λ (op : Operation). op.state) (taken_back before from message some);
    }
asked_as_before before from message mid after may (Send messages) heard_is some asks = tt
asked_as_before before from message mid after may Wait heard_is some asks = tt
asked_as_before before from message mid after may (End answer) heard_is some asks = tt
