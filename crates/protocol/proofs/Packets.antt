-- What holds of each packet that a brick sends: to the members in a phase, again at a tick, and to collect.
use Rattle.std.proofs.Common.{◌≡◌, ℕ, zero, suc, ◌+◌, List, [], ◌∷◌, ◌++◌, Option, Some, None, refl, subst, arith}
use Rattle.std.specs.Prelude.{slice_get, nat_lt, ◌<◌}
use Rattle.std.proofs.lemmas.Bool.{cond_both}
use Rattle.std.proofs.lemmas.Bool.Decides.{nat_tests}
use Rattle.std.proofs.lemmas.Option.{same_Some}
use Rattle.fab_base.specs.declared.identities.BrickId.{BrickId}
use Rattle.fab_base.specs.declared.identities.GroupId.{GroupId}
use Rattle.fab_base.specs.declared.member_lists.View.{View}
use Rattle.fab_base.specs.declared.stamps.Stamp.{Stamp}
use Rattle.messages.specs.declared.calls.Call.{Call}
use Rattle.messages.specs.declared.packets.Message.{Message}
use Rattle.messages.specs.declared.packets.Packet.{Packet}
use Rattle.messages.specs.declared.requests.Request.{Request}
use Rattle.messages.specs.declared.replies.Reply.{Reply}
use Rattle.protocol.specs.Settings.{Setting}
use Rattle.protocol.specs.declared.phases.Counted.{Counted}
use Rattle.protocol.specs.Coordinators.{Coordinator, asked_group, has_seat, request_of}
use Rattle.protocol.specs.Nodes.{to_members, collect_packets, reply_packets, resent_to, resent, resent_up_to, each_taught, teaching, view_in, ballot_resent, learn_packets}
use Rattle.protocol.specs.Proposals.{Proposal, ballot_request, ballot_packets}

-- a fact of each packet of a list
abbrev pub OfEach : (Packet → Type 0) → List Packet → Type 0
OfEach P packets = (k : ℕ) (packet : Packet) → slice_get packets k ≡ Some packet → P packet

module _ (P : Packet → Type 0) where
  pub each_none : OfEach P []
  each_none k packet at = absurd (let never : None ≡ Some packet = at in cc)

  -- of one, and of those that follow it
  pub each_one : (one : Packet) (rest : List Packet) → P one → OfEach P rest → OfEach P (one ∷ rest)
  each_one one rest first others zero packet at = subst P (same_Some one packet at) first
  each_one one rest first others (suc k) packet at = others k packet at

  -- of those of two lists
  pub each_both : (one other : List Packet) → OfEach P one → OfEach P other → OfEach P (one ++ other)
  each_both [] other first second = second
  each_both (packet ∷ one) other first second =
      each_one packet (one ++ other) (first 0 packet refl) (each_both one other (λ k p at. first (suc k) p at) second)

  -- what holds of a request to any brick holds of those to the members
  abbrev pub OfRequests : BrickId → Call → (ℕ → Request) → Type 0
  OfRequests me call request = (seat : ℕ) (to : BrickId) → P (record { from = me; to = to; message = Message.Request call (request seat) })

  pub each_member : (me : BrickId) (call : Call) (request : ℕ → Request) → OfRequests me call request → (seat : ℕ) (members : List BrickId)
      → OfEach P (to_members me call request seat members)
  each_member me call request holds seat [] = each_none
  each_member me call request holds seat (member ∷ members) =
      each_one _ (to_members me call request (seat + 1) members) (holds seat member) (each_member me call request holds (seat + 1) members)

  pub each_resent : (me : BrickId) (call : Call) (request : ℕ → Request) → OfRequests me call request → (counted : List Counted) (seat : ℕ)
      (members : List BrickId) → OfEach P (resent_to me call request counted seat members)
  each_resent me call request holds counted seat [] = each_none
  each_resent me call request holds counted seat (member ∷ members) =
      let rest : OfEach P (resent_to me call request counted (seat + 1) members) = each_resent me call request holds counted (seat + 1) members in
      cond_both (has_seat seat counted) (resent_to me call request counted (seat + 1) members) _ (λ (l : List Packet). OfEach P l) (λ has. rest)
      (λ hasnt. each_one _ (resent_to me call request counted (seat + 1) members) (holds seat member) rest)

  -- of the requests to collect
  pub each_collect : (me : BrickId) (c : Coordinator) (stored : Option Stamp)
      → ((t : Stamp) (to : BrickId) → P (record { from = me; to = to; message = Message.Request c.call (Request.Collect t) }))
      → OfEach P (collect_packets me c stored)
  each_collect me c None holds = each_none
  each_collect me c (Some t) holds = each_member me c.call (λ seat. Request.Collect t) (λ seat to. holds t to) 0 c.group.members

  -- of a reply, if there is one
  pub each_reply : (me to : BrickId) (call : Call) (reply : Option Reply)
      → ((r : Reply) → reply ≡ Some r → P (record { from = me; to = to; message = Message.Reply call r })) → OfEach P (reply_packets me to call reply)
  each_reply me to call None holds = each_none
  each_reply me to call (Some r) holds = each_one _ [] (holds r refl) each_none

  -- what holds of a message that teaches a view holds of those before these packets too
  pub each_teaching : (group : GroupId) (view : View)
      → (1 < view.number.0 → (from to : BrickId) → P (record { from = from; to = to; message = Message.Learn group view })) → (packets : List Packet)
      → OfEach P packets → OfEach P (teaching group view packets)
  each_teaching group view teaches packets each =
      cond_both (nat_lt 1 view.number.0) (each_taught group view packets) packets (λ (l : List Packet). OfEach P l)
      (λ later. pairs (teaches (grind (arith, nat_tests, later))) packets each) (λ isnt. each)
    where
      pairs : ((from to : BrickId) → P (record { from = from; to = to; message = Message.Learn group view })) → (list : List Packet) → OfEach P list
          → OfEach P (each_taught group view list)
      pairs holds [] of = each_none
      pairs holds (packet ∷ list) of =
          each_one _ (packet ∷ each_taught group view list) (holds packet.from packet.to)
          (each_one packet (each_taught group view list) (of 0 packet refl) (pairs holds list (λ k p at. of (suc k) p at)))

  -- of a message that teaches each brick a view
  pub each_learn : (me : BrickId) (group : GroupId) (view : View)
      → ((to : BrickId) → P (record { from = me; to = to; message = Message.Learn group view })) → (left brick : ℕ)
      → OfEach P (learn_packets me group view left brick)
  each_learn me group view holds zero brick = each_none
  each_learn me group view holds (suc left) brick =
      each_one _ (learn_packets me group view left (brick + 1)) (holds (record { 0 = brick })) (each_learn me group view holds left (brick + 1))

  -- of the requests of all open operations again, and of what teaches their views
  pub each_ticked : (setting : Setting) (me : BrickId) (calls : ℕ → Option Coordinator) (k : ℕ)
      → ((j : ℕ) (c : Coordinator) → calls j ≡ Some c → OfRequests me c.call (request_of setting.code c))
      → ((j : ℕ) (c : Coordinator) → calls j ≡ Some c → 1 < c.stamp.view.0
      → (from to : BrickId) → P (record { from = from; to = to; message = Message.Learn c.call.group (view_in c) }))
      → OfEach P (resent_up_to setting me calls k)
  each_ticked setting me calls zero holds teaches = each_none
  each_ticked setting me calls (suc k) holds teaches =
      each_both (resent_up_to setting me calls k) (resent setting me (calls (suc k))) (each_ticked setting me calls k holds teaches)
      (of_call (calls (suc k)) refl)
    where
      of_call : (z : Option Coordinator) → calls (suc k) ≡ z → OfEach P (resent setting me z)
      of_call None is = each_none
      of_call (Some c) is =
          each_teaching c.call.group (view_in c) (teaches (suc k) c is) _
          (each_resent me c.call (request_of setting.code c) (holds (suc k) c is) c.counted 0 (asked_group c).members)

  -- of the requests of a proposal, and of what teaches its view again
  pub each_ballot : (me : BrickId) (p : Proposal)
      → ((to : BrickId) → P (record { from = me; to = to; message = Message.Request p.call (ballot_request p) })) → OfEach P (ballot_packets me p)
  each_ballot me p holds = each_resent me p.call (λ seat. ballot_request p) (λ seat to. holds to) p.counted 0 p.view.members

  pub each_ballot_resent : (me : BrickId) (proposal : Option Proposal)
      → ((p : Proposal) → proposal ≡ Some p → (to : BrickId) → P (record { from = me; to = to; message = Message.Request p.call (ballot_request p) }))
      → ((p : Proposal) → proposal ≡ Some p → 1 < p.view.number.0
      → (from to : BrickId) → P (record { from = from; to = to; message = Message.Learn p.call.group p.view }))
      → OfEach P (ballot_resent me proposal)
  each_ballot_resent me None holds teaches = each_none
  each_ballot_resent me (Some p) holds teaches =
      each_teaching p.call.group p.view (teaches p refl) (ballot_packets me p) (each_ballot me p (holds p refl))
