-- What the phase of an operation or a proposal sends has a spelling, and is for bricks of the layout; and so has what teaches bricks a view.
use Rattle.std.proofs.Common.{◌≡◌, ℕ, zero, suc, ◌+◌, ◌<◌, ◌≤◌, true, List, [], ◌∷◌, length, Option, Some, None, refl, arith, nat_lt}
use Rattle.std.specs.Prelude.{nat_le}
use Rattle.std.proofs.lemmas.Bool.{cond_both, and_from, le-leb}
use Rattle.fab_base.specs.declared.identities.BrickId.{BrickId}
use Rattle.fab_base.specs.declared.identities.GroupId.{GroupId}
use Rattle.fab_base.specs.declared.identities.ViewNo.{ViewNo}
use Rattle.fab_base.specs.declared.member_lists.View.{View}
use Rattle.fab_base.specs.declared.stamps.Stamp.{Stamp}
use Rattle.fab_base.specs.Layouts.{Layout, Group}
use Rattle.messages.specs.declared.calls.Call.{Call}
use Rattle.messages.specs.declared.packets.Message.TheVariants as messages
use Rattle.messages.specs.declared.packets.Packet.{Packet}
use Rattle.messages.specs.declared.requests.Request.{Request}
use Rattle.messages.specs.declared.requests.Request.TheVariants as requests
use Rattle.protocol.specs.declared.phases.Counted.{Counted}
use Rattle.protocol.specs.declared.phases.Phase.{Phase}
use Rattle.protocol.specs.declared.phases.Phase.TheVariants.{Looks, LooksAt, Orders, OrdersAt, Recovers, Descends, LooksBack, Modifies, Bases, Stores}
use Rattle.protocol.specs.declared.tellings.ViewAnswer.{ViewAnswer}
use Rattle.protocol.specs.declared.tellings.ViewAnswer.TheVariants as answer
use Rattle.protocol.specs.Coordinators.{Coordinator, looks_back, asked_group, has_seat, request_of, delta_at}
use Rattle.protocol.specs.Nodes.{to_members, phase_packets, collect_packets, resent_to, resent, resent_up_to, each_taught, teaching, view_in, learn_packets, decided_view, ended_packets, ballot_resent, synced_packets}
use Rattle.protocol.specs.Proposals.{Proposal, ballot_request, ballot_packets}
use Rattle.protocol.specs.Replicas.{is_changed}
use Rattle.protocol.specs.Views.{kept_by}
use Rattle.rs_code.proofs.StripeLaws.{length-coded_block}
use Rattle.stripe_code.specs.Codes.{block_code, coding}
use Rattle.serving.specs.Spellings.{has_some, request_fits, has_spelling}
use Rattle.serving.proofs.Everywhere.{all_append}
use Rattle.serving.proofs.Fitting.{AreBricks, ViewFits, PhaseFits, CallFits, ProposalFits, DecidesSome, PacketFits, PacketsFit}

module _ (layout : Layout) (few : layout.block ≤ 4096) where
  -- what a data block changes by is told, or nothing is
  delta_short : (m j seat : ℕ) (delta : List ℕ) → length delta ≤ layout.block → length (delta_at m j seat delta) ≤ 4096
  delta_short m j seat delta short =
      cond_both (is_changed m j seat) delta [] (λ bytes. length bytes ≤ 4096) (λ changed. omega (arith, short, few)) (λ same. omega arith)

  -- each phase asks what has a spelling
  asked_in : (c : Coordinator) (seat : ℕ) (phase : Phase) → c.group.m ≤ 16 → PhaseFits c.group.m layout.block c.content phase
      → request_fits (request_of (block_code layout.block) (record c { phase = phase }) seat) ≡ true
  unfolding request_of
  asked_in c seat Looks few_blocks fits = refl
  asked_in c seat (LooksAt j) few_blocks fits = le-leb j 31 (omega (arith, fits, few_blocks))
  asked_in c seat Orders few_blocks fits = refl
  asked_in c seat (OrdersAt j) few_blocks fits = le-leb j 31 (omega (arith, fits, few_blocks))
  asked_in c seat Recovers few_blocks fits = refl
  asked_in c seat (Descends bound) few_blocks fits = refl
  asked_in c seat (LooksBack bound) few_blocks fits = refl
  asked_in c seat (Modifies base j) few_blocks fits =
      and_from (nat_le j 15) (nat_le (length (delta_at c.group.m j seat c.content)) 4096) (le-leb j 15 (let below = fits.0 in omega (arith, below, few_blocks)))
      (le-leb (length (delta_at c.group.m j seat c.content)) 4096 (delta_short c.group.m j seat c.content fits.1))
  asked_in c seat (Bases base) few_blocks fits = refl
  asked_in c seat Stores few_blocks fits =
      let long = length-coded_block c.group.m layout.block c.content seat in
      le-leb (length ((block_code layout.block).encode c.group.m c.content seat)) 4096 (omega (arith, long, few))

  asked : (c : Coordinator) (seat : ℕ) → CallFits layout c → request_fits (request_of (block_code layout.block) c seat) ≡ true
  asked c seat fits = asked_in c seat c.phase fits.group.few fits.phase

  -- a request that fits is for a brick of the layout
  request_packet : (me to : BrickId) (call : Call) (request : Request) → to.0 < layout.bricks → request_fits request ≡ true
      → PacketFits layout (record { from = me; to = to; message = messages.Request call request })
  unfolding has_spelling
  request_packet me to call request below fits = record { to = below; spelled = fits }

  -- so are those to members
  members_fit : (me : BrickId) (call : Call) (request : ℕ → Request) → ((seat : ℕ) → request_fits (request seat) ≡ true) → (seat : ℕ) (members : List BrickId)
      → AreBricks layout members → PacketsFit layout (to_members me call request seat members)
  members_fit me call request fits seat [] below = tt
  members_fit me call request fits seat (member ∷ members) below =
      (request_packet me member call (request seat) below.0 (fits seat), members_fit me call request fits (seat + 1) members below.1)

  -- those that a phase asks are bricks of the layout
  asked_bricks : (c : Coordinator) → CallFits layout c → AreBricks layout (asked_group c).members
  asked_bricks c fits =
      cond_both (looks_back c.phase) (kept_by c.prior c.group) c.group (λ (group : Group). AreBricks layout group.members)
      (λ back. fits.view.before) (λ own. fits.view.members)

  -- a phase begins
  pub phase_fits : (me : BrickId) (c : Coordinator) → CallFits layout c → PacketsFit layout (phase_packets (coding layout) me c)
  phase_fits me c fits =
      members_fit me c.call (request_of (block_code layout.block) c) (λ seat. asked c seat fits) 0 (asked_group c).members (asked_bricks c fits)

  -- what was stored may be collected
  pub collect_fits : (me : BrickId) (c : Coordinator) (stored : Option Stamp) → CallFits layout c → PacketsFit layout (collect_packets me c stored)
  collect_fits me c None fits = tt
  collect_fits me c (Some t) fits = members_fit me c.call (λ seat. requests.Collect t) (λ seat. refl) 0 c.group.members fits.view.members

  -- a phase is sent again, to those that have no reply that counts
  again_to : (me : BrickId) (call : Call) (request : ℕ → Request) → ((seat : ℕ) → request_fits (request seat) ≡ true) → (counted : List Counted) (seat : ℕ)
      (members : List BrickId) → AreBricks layout members → PacketsFit layout (resent_to me call request counted seat members)
  again_to me call request fits counted seat [] below = tt
  again_to me call request fits counted seat (member ∷ members) below =
      let more = again_to me call request fits counted (seat + 1) members below.1 in
      cond_both (has_seat seat counted) (resent_to me call request counted (seat + 1) members)
      (record { from = me; to = member; message = messages.Request call (request seat) } ∷ resent_to me call request counted (seat + 1) members)
      (PacketsFit layout) (λ has. more) (λ lacks. (request_packet me member call (request seat) below.0 (fits seat), more))

  -- each packet of a later view than view 1 is sent after one that teaches its receiver the view
  each_after : (group : GroupId) (view : View) → has_some view.members ≡ true → has_some view.prior ≡ true → (packets : List Packet)
      → PacketsFit layout packets → PacketsFit layout (each_taught group view packets)
  unfolding has_spelling
  each_after group view some prior [] fit = tt
  each_after group view some prior (packet ∷ packets) fit = (
    record { to = fit.0.to; spelled = and_from (has_some view.members) (has_some view.prior) some prior },
    (fit.0, each_after group view some prior packets fit.1),
  )

  taught_fits : (group : GroupId) (view : View) → ViewFits layout view → (packets : List Packet) → PacketsFit layout packets
      → PacketsFit layout (teaching group view packets)
  taught_fits group view fits packets fit =
      cond_both (nat_lt 1 view.number.0) (each_taught group view packets) packets (PacketsFit layout)
      (λ later. each_after group view fits.some (fits.prior later) packets fit) (λ first. fit)

  pub again : (me : BrickId) (open_call : Option Coordinator) → ((c : Coordinator) → open_call ≡ Some c → CallFits layout c)
      → PacketsFit layout (resent (coding layout) me open_call)
  again me None fits = tt
  again me (Some c) fits =
      let its : CallFits layout c = fits c refl in
      taught_fits c.call.group (view_in c) its.view _
      (again_to me c.call (request_of (block_code layout.block) c) (λ seat. asked c seat its) c.counted 0 (asked_group c).members (asked_bricks c its))

  -- each open operation sends its phase again
  pub all_again : (me : BrickId) (calls : ℕ → Option Coordinator) → ((k : ℕ) (c : Coordinator) → calls k ≡ Some c → CallFits layout c) → (k : ℕ)
      → PacketsFit layout (resent_up_to (coding layout) me calls k)
  all_again me calls fits zero = tt
  all_again me calls fits (suc k) =
      all_append (PacketFits layout) (resent_up_to (coding layout) me calls k) (resent (coding layout) me (calls (suc k)))
      (all_again me calls fits k) (again me (calls (suc k)) (λ c is. fits (suc k) c is))

  -- ---- a proposal

  -- each phase asks what has a spelling
  voted_in : (p : Proposal) (asks : Option (List BrickId)) → ProposalFits layout (record p { asks = asks })
      → request_fits (ballot_request (record p { asks = asks })) ≡ true
  voted_in p None fits = refl
  voted_in p (Some members) fits = fits.asks

  -- a phase begins, or is sent again
  pub ballot_fits : (me : BrickId) (p : Proposal) → ProposalFits layout p → PacketsFit layout (ballot_packets me p)
  ballot_fits me p fits =
      again_to me p.call (λ seat. ballot_request p) (λ seat. voted_in p p.asks fits) p.counted 0 p.view.members fits.view.members

  pub ballot_again : (me : BrickId) (proposal : Option Proposal) → ((p : Proposal) → proposal ≡ Some p → ProposalFits layout p)
      → PacketsFit layout (ballot_resent me proposal)
  ballot_again me None fits = tt
  ballot_again me (Some p) fits = taught_fits p.call.group p.view (fits p refl).view (ballot_packets me p) (ballot_fits me p (fits p refl))

  -- all bricks are taught the view that was decided
  all_taught : (me : BrickId) (group : GroupId) (view : View) → has_some view.members ≡ true → has_some view.prior ≡ true → (left brick : ℕ)
      → left + brick ≤ layout.bricks → PacketsFit layout (learn_packets me group view left brick)
  unfolding has_spelling
  all_taught me group view some prior zero brick within = tt
  all_taught me group view some prior (suc left) brick within = (
    record { to = omega (arith, within); spelled = and_from (has_some view.members) (has_some view.prior) some prior },
    all_taught me group view some prior left (brick + 1) (omega (arith, within)),
  )

  pub end_fits : (me : BrickId) (p : Proposal) (ended : ViewAnswer) → ProposalFits layout p → DecidesSome ended
      → PacketsFit layout (ended_packets layout me p ended)
  end_fits me p (answer.Decided number members) fits some =
      all_taught me p.call.group (decided_view p number members) some fits.view.some layout.bricks 0 (omega arith)
  end_fits me p ended fits some = tt

  -- ---- a synchronisation

  -- all bricks are told that all stripes are kept in a view
  pub all_synced : (me : BrickId) (group : GroupId) (view : ViewNo) (left brick : ℕ) → left + brick ≤ layout.bricks
      → PacketsFit layout (synced_packets me group view left brick)
  unfolding has_spelling
  all_synced me group view zero brick within = tt
  all_synced me group view (suc left) brick within =
      (record { to = omega (arith, within); spelled = refl }, all_synced me group view left (brick + 1) (omega (arith, within)))
