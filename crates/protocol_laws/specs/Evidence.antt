-- What the abort of an operation shows: which messages it was told, and which replies counted.
use Rattle.std.specs.Prelude.{◌≡◌, ℕ, ◌+◌, ◌<◌, ◌≤◌, true, false, [], ◌⊎◌, Option, Some, None, is_some}
use Rattle.fab_base.specs.declared.identities.BrickId.{BrickId}
use Rattle.fab_base.specs.declared.identities.ViewNo.{ViewNo}
use Rattle.messages.specs.declared.replies.Lineage.{Lineage}
use Rattle.fab_base.specs.declared.stamps.Stamp.{Stamp}
use Rattle.fab_base.specs.declared.asks.Op.{Op}
use Rattle.fab_base.specs.declared.asks.Op.TheVariants.{ReadBlock, WriteBlock, ReadStripe, WriteStripe}
use Rattle.fab_base.specs.declared.answers.Cause.{Cause}
use Rattle.fab_base.specs.Stamps.{stamp_below}
use Rattle.messages.specs.declared.calls.Call.{Call}
use Rattle.messages.specs.declared.packets.Message.{Message}
use Rattle.messages.specs.declared.requests.Request.{Request}
use Rattle.messages.specs.declared.requests.Look.TheVariants as Look
use Rattle.messages.specs.declared.requests.Want.{Want}
use Rattle.messages.specs.declared.replies.Reply.{Reply}
use Rattle.protocol.specs.Coordinators.{most_rounds, greatest_refuser, greatest_found, lowest_full, lowest_mover, lowest_dropper}
use Rattle.protocol.specs.Nodes.{has_later_time}
use Rattle.protocol.specs.Worlds.{World, Operation, known_in}
use Rattle.view_laws.specs.Following.{WasSent}

-- a request was sent, under a call, to a brick
abbrev pub RequestSent : World → Call → BrickId → BrickId → Request → Type 0
RequestSent w call from to request = WasSent w (record { from = from; to = to; message = Message.Request call request })

-- the stamp at which a request asks its member: to promise it, or to store under it
abbrev pub stamp_asked : Request → Option Stamp
stamp_asked (Request.Order stamp) = Some stamp
stamp_asked (Request.OrderRead stamp look want) = Some stamp
stamp_asked (Request.Write stamp block) = Some stamp
stamp_asked (Request.Modify stamp base j delta) = Some stamp
stamp_asked request = None

-- how an operation orders its stamp: the write of a stripe by the order alone, that of a block by one that tells the newest version below, with the
-- block at its seat, and the recovery of a read by one that tells that version with all blocks
abbrev pub order_of : Op → Stamp → Request
order_of (ReadBlock j) stamp = Request.OrderRead stamp (Look.Below stamp) Want.All
order_of (WriteBlock j bytes) stamp = Request.OrderRead stamp (Look.Below stamp) (Want.Seat j)
order_of ReadStripe stamp = Request.OrderRead stamp (Look.Below stamp) Want.All
order_of (WriteStripe bytes) stamp = Request.Order stamp

-- a brick was asked at this stamp
abbrev pub AskedAt : World → Call → BrickId → BrickId → Stamp → Type 0
AskedAt w call from to stamp = (request : Request) × RequestSent w call from to request × (stamp_asked request ≡ Some stamp)

-- a message's call is the operation's
abbrev pub IsCallOf : Call → Operation → Type 0
IsCallOf call o = (call.boot ≡ o.boot) × (call.seq ≡ o.seq)

-- A phase of operation n is its last round of ordering: each of the three phases before it had counted a
-- later stamp, or the brick that coordinates it knew no later time.
abbrev pub IsLastRound : World → ℕ → Operation → ℕ → Type 0
IsLastRound w n o phase =
    ((most_rounds ≤ phase)
    × ((earlier : ℕ) → phase < earlier + most_rounds → earlier < phase → is_some (greatest_refuser (w.replies n earlier)) ≡ true))
    ⊎ (has_later_time (known_in w o.brick.0 o.boot) ≡ false)

-- no reply has counted in a later phase of operation n
abbrev pub IsLastPhase : World → ℕ → ℕ → Type 0
IsLastPhase w n phase = (later : ℕ) → phase < later → w.replies n later ≡ []

-- What the abort of operation n for a later stamp shows: in the last phase of this very operation, which asked at
-- a lower stamp, the brick had told the coordinator of the later stamp; no reply that counted in that phase told a
-- greater one, nor an equal one from a lower seat; and if it was a round of ordering, no other could follow.
pub record LaterEvidence (w : World) (n : ℕ) (o : Operation) (brick : BrickId) (x : Stamp) : Type 0 where
  pub call : Call
  pub stamp : Stamp
  pub seat : ℕ
  pub own : IsCallOf call o
  pub asked : AskedAt w call o.brick brick stamp
  pub told : WasSent w (record { from = brick; to = o.brick; message = Message.Reply call (Reply.Later x) })
  pub above : stamp_below stamp x ≡ true
  pub greatest : greatest_refuser (w.replies n call.phase) ≡ Some (record { seat = seat; brick = brick; stamp = x })
  pub last : RequestSent w call o.brick brick (order_of o.ask.op stamp) → IsLastRound w n o call.phase
  pub final : IsLastPhase w n call.phase

-- What the abort of operation n for a full store shows: in the last phase of this very operation the brick had
-- told the coordinator so, with so many live records, and no reply that counted in that phase told so from a
-- lower seat.
pub record FullEvidence (w : World) (n : ℕ) (o : Operation) (brick : BrickId) (live : ℕ) : Type 0 where
  pub call : Call
  pub seat : ℕ
  pub own : IsCallOf call o
  pub told : WasSent w (record { from = brick; to = o.brick; message = Message.Reply call (Reply.Full live) })
  pub lowest : lowest_full (w.replies n call.phase) ≡ Some (record { seat = seat; brick = brick; live = live })
  pub final : IsLastPhase w n call.phase

-- What the abort of operation n for a member that serves its view no more shows: in the last phase of this very operation the brick had
-- told the coordinator of this later view, and no reply that counted in that phase told one from a lower seat.
pub record MovedEvidence (w : World) (n : ℕ) (o : Operation) (brick : BrickId) (view : ViewNo) : Type 0 where
  pub call : Call
  pub seat : ℕ
  pub lineage : Option Lineage
  pub own : IsCallOf call o
  pub told : WasSent w (record { from = brick; to = o.brick; message = Message.Reply call (Reply.Moved view lineage) })
  pub lowest : lowest_mover (w.replies n call.phase) ≡ Some (record { seat = seat; brick = brick; view = view })
  pub final : IsLastPhase w n call.phase

-- What the abort of operation n for versions that were dropped shows: in the last phase of this very operation the brick had told the coordinator that it had
-- dropped them, and no reply that counted in that phase told so from a lower seat. In that phase or one before it the operation had asked a member for what that
-- keeps in the view before, below no bound; and no reply that counted in the phase just before told a version.
pub record GoneEvidence (w : World) (n : ℕ) (o : Operation) (brick : BrickId) : Type 0 where
  pub call : Call
  pub seat : ℕ
  pub first : Call
  pub before : ℕ
  pub member : BrickId
  pub own : IsCallOf call o
  pub told : WasSent w (record { from = brick; to = o.brick; message = Message.Reply call Reply.Retired })
  pub lowest : lowest_dropper (w.replies n call.phase) ≡ Some (record { seat = seat; brick = brick })
  pub final : IsLastPhase w n call.phase
  pub first_own : IsCallOf first o
  pub most : first.phase ≤ call.phase
  pub asked : RequestSent w first o.brick member (Request.OldRead None)
  pub follows : first.phase ≡ before + 1
  pub nothing : greatest_found (w.replies n before) ≡ None

-- the evidence of an abort, by its cause
abbrev pub Evidence : World → ℕ → Operation → Cause → Type 0
Evidence w n o (Cause.Later brick x) = LaterEvidence w n o brick x
Evidence w n o (Cause.Full brick live) = FullEvidence w n o brick live
Evidence w n o (Cause.Moved brick view) = MovedEvidence w n o brick view
Evidence w n o (Cause.Gone brick) = GoneEvidence w n o brick
