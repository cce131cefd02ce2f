-- The evidence of what a proposal does: the replies that counted in its phase.
use Rattle.std.specs.Prelude.{◌≡◌, ◌⊎◌, ℕ, ◌+◌, ◌≤◌, Bool, true, false, not, nat_lt, List, [], ◌∷◌, length, All, Option, Some, None, is_some}
use Rattle.std.specs.List.{list_all}
use Rattle.fab_base.specs.declared.identities.BrickId.{BrickId}
use Rattle.messages.specs.declared.packets.Message.{Message}
use Rattle.messages.specs.declared.packets.Message.TheVariants as message
use Rattle.messages.specs.declared.replies.Reply.{Reply}
use Rattle.messages.specs.declared.replies.Reply.TheVariants.{Promise, Accepted}
use Rattle.protocol.specs.declared.phases.Counted.{Counted}
use Rattle.protocol.specs.declared.tellings.ViewAnswer.{ViewAnswer}
use Rattle.protocol.specs.declared.tellings.ViewAnswer.TheVariants as answer
use Rattle.view_synod.specs.declared.answers.ViewNext.{ViewNext}
use Rattle.view_synod.specs.declared.answers.ViewNext.TheVariants as next
use Rattle.synod_laws.specs.Synods.{Synod, Agrees, IsSafe, SaysPromise, value_or}
use Rattle.protocol.specs.Proposals.{Proposal, asking, ballot_quorum, greatest_choice, moved_view, outbid_ballot, promises, seat_voting, unsynced_brick, with_voice}
use Rattle.view_synod.specs.Proposers.{ballot_messages}
use Rattle.view_synod.specs.Proposers.{Proposing, are_apart}

-- the reply grants what the phase asks for: a promise while it prepares, an acceptance once it asks for a list
abbrev pub grants : Option (List BrickId) → Reply → Bool
grants asks (Promise accepted) = not (is_some asks)
grants asks Accepted = is_some asks
grants asks reply = false

-- The list was accepted under the proposal's ballot: the proposal asked for it, and a quorum of the view's members has accepted, each at a seat of its own.
pub record IsAccepted (p : Proposal) (members : List BrickId) : Type 0 where
  pub asked : p.asks ≡ Some members
  pub many : ballot_quorum p ≤ length p.counted
  pub accepted : list_all (λ c. grants (Some members) c.reply) p.counted ≡ true
  pub seats : list_all (λ c. nat_lt c.seat (length p.view.members)) p.counted ≡ true
  pub apart : are_apart p.counted ≡ true

-- The list is safe at the proposal's ballot, by the promises that count. Take any history of the view's seats that agrees so far, in which this ballot was not
-- proposed, and what each seat told is a promise. Then nothing but this list is chosen under a lower ballot, ever.
abbrev pub IsSafeToAsk : Proposal → List BrickId → Type 0
IsSafeToAsk p members =
    (synod : Synod (List BrickId)) → synod.proposals p.ballot ≡ None → Agrees (length p.view.members) (ballot_quorum p) synod
    → All (λ told. SaysPromise synod told.0 p.ballot told.1) (promises p.counted)
    → IsSafe (length p.view.members) (ballot_quorum p) synod p.ballot members

-- The list may be proposed: a quorum of the view's members has promised, each at a seat of its own; it is the list of the greatest ballot that these told, or else
-- the proposal's own; and so it is safe.
pub record IsPromised (p : Proposal) (members : List BrickId) : Type 0 where
  pub prepared : p.asks ≡ None
  pub many : ballot_quorum p ≤ length p.counted
  pub promised : list_all (λ c. grants None c.reply) p.counted ≡ true
  pub seats : list_all (λ c. nat_lt c.seat (length p.view.members)) p.counted ≡ true
  pub apart : are_apart p.counted ≡ true
  pub greatest : members ≡ value_or p.own (greatest_choice p.counted)
  pub safe : IsSafeToAsk p members

-- one of the replies tells this
abbrev pub IsTold : {X : Type 0} → (Counted → Option X) → List Counted → X → Type 0
IsTold tells [] x = ⊥
IsTold tells (c ∷ counted) x = (tells c ≡ Some x) ⊎ IsTold tells counted x

-- The replies that count show the end: a list is decided as the next view where it was accepted; and each refusal was told.
abbrev pub ShowsEnd : Proposal → ViewAnswer → Type 0
ShowsEnd p (answer.Decided view members) = (view.0 ≡ p.view.number.0 + 1) × IsAccepted p members
ShowsEnd p (answer.Moved view) = IsTold moved_view p.counted view
ShowsEnd p (answer.NotSynced brick) = IsTold unsynced_brick p.counted brick
ShowsEnd p (answer.Outbid ballot) = IsTold outbid_ballot p.counted ballot
ShowsEnd p answer.BadMembers = ⊥

-- the reply that brought an end counts, and the replies with this one show it
abbrev pub EndsBy : Option Proposing → BrickId → Message → ViewAnswer → Type 0
EndsBy (Some x) from (message.Reply call reply) answer =
    (seat : ℕ) × (seat_voting x.bricks x.state from.0 call reply ≡ Some seat) × ShowsEnd (with_voice x.state seat from reply) answer
EndsBy x from message answer = ⊥

-- the reply that brought a request to accept a list counts, and the replies with this one show that the list may be proposed
abbrev pub AsksBy : Option Proposing → BrickId → Message → List (BrickId × Message) → Type 0
AsksBy (Some x) from (message.Reply call reply) sent =
    (seat : ℕ) × (members : List BrickId) × (seat_voting x.bricks x.state from.0 call reply ≡ Some seat)
    × (sent ≡ ballot_messages (asking (with_voice x.state seat from reply) members)) × IsPromised (with_voice x.state seat from reply) members
AsksBy x from message sent = ⊥

-- What a proposal does with a message has its evidence: that it asks for a list, and that it ends.
abbrev pub HasEvidence : Option Proposing → BrickId → Message → ViewNext → Type 0
HasEvidence x from message (next.End answer) = EndsBy x from message answer
HasEvidence x from message (next.Send messages) = AsksBy x from message messages.items
HasEvidence x from message next.Wait = Unit {0}
