-- The history of the replies that counted: what it says of each open operation, and what the marks show by it.
use Rattle.std.proofs.Common.{◌≡◌, ℕ, ◌+◌, ◌<◌, ◌≤◌, ◌⊎◌, true, false, List, [], ◌++◌, Some, None, is_some, Option}
use Rattle.fab_base.specs.declared.identities.BrickId.{BrickId}
use Rattle.fab_base.specs.declared.stamps.Stamp.{Stamp}
use Rattle.std.specs.Prelude.{slice_get}
use Rattle.fab_base.specs.declared.answers.Cause.{Cause}
use Rattle.fab_base.specs.declared.answers.Answer.TheVariants.{Aborted}
use Rattle.reg_model.specs.declared.marks.Mark.TheVariants.{End}
use Rattle.fab_base.specs.Stamps.{stamp_below}
use Rattle.messages.specs.declared.calls.Call.{Call}
use Rattle.messages.specs.declared.packets.Message.TheVariants as Message
use Rattle.messages.specs.declared.packets.Packet.{Packet}
use Rattle.messages.specs.declared.requests.Request.{Request}
use Rattle.messages.specs.declared.replies.Reply.TheVariants as Reply
use Rattle.protocol.specs.declared.phases.Counted.{Counted}
use Rattle.protocol.specs.Coordinators.{Coordinator, looks_back, greatest_refuser, greatest_found, dropper_of}
use Rattle.protocol.specs.Worlds.{World, Operation, number_of, known_in}
use Rattle.protocol_laws.specs.Laws.{WasSent, RequestSent, AskedAt, stamp_asked, order_of, Evidence, IsCallOf, CountedWereSent, HasNotEnded}
use Rattle.protocol_laws.proofs.Books.{Replies, IsOperation, IsCall}
use Rattle.protocol.specs.declared.phases.Phase.{Phase}
use Rattle.protocol.specs.declared.phases.Phase.TheVariants.{LooksBack}
use Rattle.protocol_laws.proofs.Counting.{NoneStops}
use Rattle.protocol_laws.proofs.Outcomes.{IsRebuild, IsRound, first_round, IsLook}
use Rattle.protocol_laws.proofs.Said.{EachCounted}
use Rattle.protocol.specs.Scrubs.{Scrub, is_look, lagging_of}
use Rattle.fab_base.specs.Layouts.{seat_in}

-- The replies of a phase are those that its coordinator has, after those that it forgot, of which none stops the operation, or told a later stamp in a phase that
-- does not look back, or a version in one that reads no base back; where it looks for what all keep, it forgot none.
pub record IsTally (phase : Phase) (replies counted : List Counted) : Type 0 where
  pub forgotten : List Counted
  pub are : replies ≡ forgotten ++ counted
  pub stops : NoneStops forgotten
  pub refused : looks_back phase ≡ false → greatest_refuser forgotten ≡ None
  pub found : (greatest_found forgotten ≡ None) ⊎ IsRebuild phase
  pub whole : IsLook phase → forgotten ≡ []

-- a packet is one of these
abbrev pub IsAmong : List Packet → Packet → Type 0
IsAmong packets packet = (k : ℕ) × (slice_get packets k ≡ Some packet)

-- The operation of a call of brick i had begun to look back by the call's phase: in one of its phases it asked a member for what that keeps in the view before, below no
-- bound, and no reply that counted in the phase just before told a version.
pub record BeganBack (packets : List Packet) (replies : ℕ → List Counted) (i : ℕ) (call : Call) : Type 0 where
  pub first : Call
  pub before : ℕ
  pub member : BrickId
  pub boot : first.boot ≡ call.boot
  pub seq : first.seq ≡ call.seq
  pub most : first.phase ≤ call.phase
  pub asked : IsAmong packets (record { from = record { 0 = i }; to = member; message = Message.Request first (Request.OldRead None) })
  pub follows : first.phase ≡ before + 1
  pub nothing : greatest_found (replies before) ≡ None

-- in this phase the operation of a call of brick i asked a member for what that keeps in the view before
abbrev pub AskedBack : List Packet → ℕ → Call → ℕ → Type 0
AskedBack packets i call phase =
    (old : Call) × (old.boot ≡ call.boot) × (old.seq ≡ call.seq) × (old.phase ≡ phase)
    × ((to : BrickId) × (bound : Option Stamp)
    × IsAmong packets (record { from = record { 0 = i }; to = to; message = Message.Request old (Request.OldRead bound) }))

-- where these members alone count, each reply that counted is one of theirs, or the phase asked for what is kept in the view before
abbrev pub CountsAlone : List Packet → (ℕ → List Counted) → ℕ → Call → List BrickId → Type 0
CountsAlone packets replies i call only =
    (p j : ℕ) (x : Counted) → slice_get (replies p) j ≡ Some x → (is_some (seat_in only x.brick.0) ≡ true) ⊎ AskedBack packets i call p

-- who lagged, as a scrub has noted it, are those that did by these replies
abbrev pub NotedLagging : List Counted → Coordinator → Scrub → Type 0
NotedLagging replies c s = (2 ≤ c.call.phase) × (s.lagging ≡ lagging_of c.group.members replies)

-- The open operation of number n at coordinator c of brick i, which has this scrub: in its present phase those replies counted that c has, but for those that it forgot, and
-- none in a later one; each round of ordering before the present one had counted a later stamp; and where it looks back, it had begun so. Where some members alone
-- count, the replies are theirs; and where it is the scrub, some do, and once it looks no longer for what all keep, it is noted who lagged.
pub record CallTallied (packets : List Packet) (replies : Replies) (i n : ℕ) (scrub : Option Scrub) (c : Coordinator) : Type 0 where
  pub now : IsTally c.phase (replies n c.call.phase) c.counted
  pub later : (p : ℕ) → c.call.phase < p → replies n p ≡ []
  pub refused : IsRound c.phase → (p : ℕ) → first_round c.phase ≤ p → p < c.call.phase → is_some (greatest_refuser (replies n p)) ≡ true
  pub back : looks_back c.phase ≡ true → BeganBack packets (replies n) i c.call
  pub alone : (only : List BrickId) → c.only ≡ Some only → CountsAlone packets (replies n) i c.call only
  pub named : (s : Scrub) → scrub ≡ Some s → s.seq ≡ c.call.seq → is_some c.only ≡ true
  pub lagged : (s : Scrub) → scrub ≡ Some s → s.seq ≡ c.call.seq → is_look c.phase ≡ false → NotedLagging (replies n 1) c s

-- a reply that counted in a phase of operation n was sent to it
abbrev pub CountedSent : World → ℕ → ℕ → Counted → Type 0
CountedSent w n phase x =
    (o : Operation) × IsOperation w n o
    × ((call : Call) × IsCallOf call o × (call.phase ≡ phase)
    × WasSent w (record { from = x.brick; to = o.brick; message = Message.Reply call x.reply }))

-- the abort of operation n shows its evidence
abbrev pub OwnShown : World → ℕ → Cause → Type 0
OwnShown w n cause = (o : Operation) × IsOperation w n o × Evidence w n o cause

-- so does that of the operation whose marks have number n
abbrev pub AbortShown : World → ℕ → Cause → Type 0
AbortShown w n cause = (a : ℕ) × (o : Operation) × IsOperation w a o × (o.mark ≡ n) × Evidence w a o cause

-- each abort that is marked shows its evidence
abbrev pub AbortsAreShown : World → Type 0
AbortsAreShown w = (k p n : ℕ) (cause : Cause) → slice_get w.marks k ≡ Some (End p n (Aborted cause)) → AbortShown w n cause

-- the history of a world
pub record Tallied (w : World) : Type 0 where
  pub calls : (i k : ℕ) (c : Coordinator) → IsCall w i k c → CallTallied w.packets w.replies i (number_of w i k) (w.nodes i).scrub c
  pub unbegun : (n p : ℕ) → w.begun < n → w.replies n p ≡ []
  pub counted : CountedWereSent w
  pub aborts : AbortsAreShown w
  pub marked : (k p n : ℕ) (cause : Cause) → slice_get w.marks k ≡ Some (End p n (Aborted cause)) → 1 ≤ n
  pub closed : (n : ℕ) (o : Operation) (cause : Cause) → IsOperation w n o → o.closed ≡ Some (Some cause) → Evidence w n o cause

-- an operation that orders under a call asks nothing else under it
abbrev pub OrdersAlone : World → Type 0
OrdersAlone w =
    (n : ℕ) (o : Operation) (call : Call) (to other : BrickId) (request : Request) (t u : Stamp) → IsOperation w n o → IsCallOf call o
    → RequestSent w call o.brick to request → stamp_asked request ≡ Some t → RequestSent w call o.brick other (order_of o.ask.op u)
    → request ≡ order_of o.ask.op t

-- What the messages of a world show: a later stamp answers what was asked at a lower one; an operation that orders under a call asks nothing else under
-- it, and it does so in a round of ordering; the replies that a coordinator has were sent to it, and tell of versions that were dropped only where it looks back;
-- and where it looks back, a member was asked so.
pub record MessagesShow (w : World) : Type 0 where
  pub later : (call : Call) (from to : BrickId) (x : Stamp)
      → WasSent w (record { from = from; to = to; message = Message.Reply call (Reply.Later x) })
      → (t : Stamp) × AskedAt w call to from t × (stamp_below t x ≡ true)
  pub orders_alone : OrdersAlone w
  pub in_round : (i k : ℕ) (c : Coordinator) (to : BrickId) (t : Stamp) → IsCall w i k c
      → RequestSent w c.call (record { 0 = i }) to (order_of c.ask.op t) → IsRound c.phase
  pub counted : (i k : ℕ) (c : Coordinator) → IsCall w i k c
      → EachCounted (λ x. WasSent w (record { from = x.brick; to = record { 0 = i }; message = Message.Reply c.call x.reply })) c.counted
  pub kept : (i k : ℕ) (c : Coordinator) → IsCall w i k c → looks_back c.phase ≡ false → EachCounted (λ x. dropper_of x ≡ None) c.counted
  pub asks_back : (i k : ℕ) (c : Coordinator) → IsCall w i k c → (bound : Option Stamp) → c.phase ≡ LooksBack bound
      → (to : BrickId) × RequestSent w c.call (record { 0 = i }) to (Request.OldRead bound)

-- an operation goes on as the same: what it was asked, of which brick and under which call
pub record GoesOn (o p : Operation) : Type 0 where
  pub brick : p.brick ≡ o.brick
  pub boot : p.boot ≡ o.boot
  pub seq : p.seq ≡ o.seq
  pub ask : p.ask ≡ o.ask
  pub mark : p.mark ≡ o.mark

-- From one world to the next: what was sent stays sent, no brick's time falls within a boot, operations stay who they are, and replies count only in
-- operations that have not ended.
pub record Furthers (w next : World) : Type 0 where
  pub sent : (packet : Packet) → WasSent w packet → WasSent next packet
  pub known : (i b : ℕ) → b ≤ (w.nodes i).boot → known_in w i b ≤ known_in next i b
  pub operations : (n : ℕ) (o : Operation) → IsOperation w n o
      → (p : Operation) × IsOperation next n p × GoesOn o p
  pub replies : (n : ℕ) → ((p : ℕ) → next.replies n p ≡ w.replies n p) ⊎ HasNotEnded w n
