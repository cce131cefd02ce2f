-- When an operation, a proposal, a synchronisation or a scrub begins in the machine, and what a message does there.
use Rattle.std.proofs.Common.{◌≡◌, ℕ, ◌+◌, ◌<◌, ◌≤◌, Bool, true, false, not, cond, nat_lt, ◌&&◌, List, [], Option, Some, None, refl, ap, ◌∙◌, arith}
use Rattle.std.specs.Prelude.{if◌then◌else◌}
use Rattle.std.specs.Option.{is_some, option_map}
use Rattle.std.proofs.lemmas.Bool.{cond_both}
use Rattle.std.proofs.lemmas.Bool.Decides.{nat_tests}
use Rattle.quorum.specs.Memberships.{is_membership}
use Rattle.fab_base.specs.declared.asks.Ask.{Ask}
use Rattle.fab_base.specs.declared.asks.Op.{Op}
use Rattle.fab_base.specs.declared.answers.Refusal.{Refusal}
use Rattle.fab_base.specs.declared.identities.BrickId.{BrickId}
use Rattle.fab_base.specs.declared.identities.GroupId.{GroupId}
use Rattle.fab_base.specs.declared.identities.StripeNo.{StripeNo}
use Rattle.messages.specs.declared.packets.Packet.{Packet}
use Rattle.fab_base.specs.Layouts.{Layout, Group, group_of}
use Rattle.protocol.specs.Settings.{Setting}
use Rattle.protocol.specs.Views.{kept_by}
use Rattle.protocol.specs.declared.tellings.Report.TheVariants as report
use Rattle.protocol.specs.declared.tellings.ViewAnswer.TheVariants.{BadMembers}
use Rattle.protocol.specs.Proposals.{Proposal, ballot_packets}
use Rattle.protocol.specs.Nodes.{Node, NodeStep, group_at, put, has_block, has_length, is_spent, most_open, refusal_in, refusal_of, began, invoked, new_proposal, proposing, reporting, sending, proposal_refusal_in, proposal_refusal, proposed_in, proposed, sync_refusal, synced_at, scrub_refusal_in, scrub_refusal, scrubbed_at}
use Rattle.protocol.specs.Jobs.{sync_refusal_in}
use Rattle.protocol.specs.Scrubs.{names_quorum}
use Rattle.protocol.specs.Worlds.{World, Invokes, Proposes, Syncs, Scrubs, Delivers, Sets, Ticks, Stops, Starts, Found, is_up, may_start, world_began, world_stepped, world_ticked, world_stopped, world_found, world_started, delivered, packet_of, happens}
use Rattle.world.specs.Runs.{ask_of, group_no, stripe_no, refusal_at, proposal_refusal_at, sync_refusal_at, scrub_refusal_at}
use Rattle.world.specs.Shown.{calls_used}
use Rattle.protocol.proofs.Events.{world_handled}

-- where there is no such group there is no such stripe
pub refused_no_group : (layout : Layout) (g s : ℕ) (node : Node) (op : Op) → group_of layout g ≡ None
    → refusal_of layout node (ask_of g s op) ≡ Some Refusal.NoStripe
unfolding refusal_of
refused_no_group layout g s node op none = ap (refusal_in layout.block node (ask_of g s op)) none

-- the reasons behind that of the stripe
abbrev refusal_behind : ℕ → Node → Op → Group → Option Refusal
refusal_behind block node op group =
    if not (has_block group.m op) then Some Refusal.NoBlock
    else if not (has_length group.m block op) then Some Refusal.Length
    else if not (nat_lt node.busy most_open) then Some Refusal.Busy
    else if is_spent node then Some Refusal.Spent
    else None

-- a stripe past the last of its group
pub refused_no_stripe : (layout : Layout) (g s : ℕ) (group : Group) (node : Node) (op : Op) → group_of layout g ≡ Some group → group.stripes ≤ s
    → refusal_of layout node (ask_of g s op) ≡ Some Refusal.NoStripe
unfolding refusal_of
refused_no_stripe layout g s group node op found past =
    let past_last : nat_lt s group.stripes ≡ false = grind (arith, nat_tests) in
    ap (refusal_in layout.block node (ask_of g s op)) found
    ∙ ap (λ b. cond (not b) (Some Refusal.NoStripe) (refusal_behind layout.block node op group)) past_last

-- a brick that is up refuses for its own reason
pub refusal_here : (setting : Setting) (w : World) (brick : BrickId) (ask : Ask) → is_up setting.layout w brick ≡ true
    → refusal_at setting w brick ask ≡ refusal_of setting.layout (w.nodes brick.0) ask
refusal_here setting w brick ask up = ap (λ b. cond b (refusal_of setting.layout (w.nodes brick.0) ask) (Some Refusal.Down)) up

-- there is no such brick that is up
pub refusal_down : (setting : Setting) (w : World) (brick : BrickId) (ask : Ask) → is_up setting.layout w brick ≡ false
    → refusal_at setting w brick ask ≡ Some Refusal.Down
refusal_down setting w brick ask down = ap (λ b. cond b (refusal_of setting.layout (w.nodes brick.0) ask) (Some Refusal.Down)) down

may_not : (b : Bool) (r : Option Refusal) (reason : Refusal) → r ≡ Some reason → b && not (is_some r) ≡ false
may_not true r reason is = ap (λ x. not (is_some x)) is
may_not false r reason is = refl

-- an operation that is refused changes nothing
pub happens_refused : (setting : Setting) (w : World) (brick : BrickId) (ask : Ask) (reason : Refusal)
    → refusal_of setting.layout (w.nodes brick.0) ask ≡ Some reason
    → happens setting w (Invokes brick ask) ≡ w
unfolding happens
happens_refused setting w brick ask reason is =
    ap (λ b. cond b (world_began w brick ask (invoked setting brick (w.clocks brick.0) (w.nodes brick.0) ask)) w)
    (may_not (is_up setting.layout w brick) (refusal_of setting.layout (w.nodes brick.0) ask) reason is)

-- nothing begins at a brick that is not up
pub happens_down : (setting : Setting) (w : World) (brick : BrickId) (ask : Ask) → is_up setting.layout w brick ≡ false
    → happens setting w (Invokes brick ask) ≡ w
unfolding happens
happens_down setting w brick ask down =
    ap (λ b. cond (b && not (is_some (refusal_of setting.layout (w.nodes brick.0) ask)))
    (world_began w brick ask (invoked setting brick (w.clocks brick.0) (w.nodes brick.0) ask)) w)
    down

may : (b : Bool) (r : Option Refusal) → b ≡ true → r ≡ None → b && not (is_some r) ≡ true
may true r here none = ap (λ x. not (is_some x)) none
may false r here none = let never : false ≡ true = here in cc

-- an operation that is not refused begins
pub happens_begun : (setting : Setting) (w : World) (brick : BrickId) (ask : Ask) → is_up setting.layout w brick ≡ true
    → refusal_of setting.layout (w.nodes brick.0) ask ≡ None
    → happens setting w (Invokes brick ask) ≡ world_began w brick ask (invoked setting brick (w.clocks brick.0) (w.nodes brick.0) ask)
unfolding happens
happens_begun setting w brick ask up none =
    ap (λ b. cond b (world_began w brick ask (invoked setting brick (w.clocks brick.0) (w.nodes brick.0) ask)) w)
    (may (is_up setting.layout w brick) (refusal_of setting.layout (w.nodes brick.0) ask) up none)

-- a group has as many data blocks and stripes in each view, so a refusal is the same in each
refused_alike : (layout : Layout) (node : Node) (ask : Ask) (members : List BrickId) (found : Option Group)
    → refusal_in layout.block node ask (option_map (kept_by members) found) ≡ refusal_in layout.block node ask found
refused_alike layout node ask members None = refl
refused_alike layout node ask members (Some group) = refl

began_next : (setting : Setting) (brick : BrickId) (now : ℕ) (node : Node) (ask : Ask) (found : Option Group)
    → refusal_in setting.layout.block node ask found ≡ None
    → (began setting brick now node ask found).node.seq ≡ node.seq + 1
began_next setting brick now node ask None none = absurd (let never : Some Refusal.NoStripe ≡ None = none in cc)
began_next setting brick now node ask (Some group) none = refl

-- the call of a new operation is the brick's next
pub invoked_next : (setting : Setting) (brick : BrickId) (now : ℕ) (node : Node) (ask : Ask) → refusal_of setting.layout node ask ≡ None
    → (invoked setting brick now node ask).node.seq ≡ node.seq + 1
unfolding invoked refusal_of
invoked_next setting brick now node ask none =
    began_next setting brick now node ask (group_at setting.layout node ask.group.0)
    (refused_alike setting.layout node ask (node.learnt ask.group.0).view.members (group_of setting.layout ask.group.0) ∙ none)

-- it is a call of the same boot
invoked_boot_in : (setting : Setting) (brick : BrickId) (now : ℕ) (node : Node) (ask : Ask) (found : Option Group)
    → (began setting brick now node ask found).node.boot ≡ node.boot
invoked_boot_in setting brick now node ask None = refl
invoked_boot_in setting brick now node ask (Some group) = refl

pub invoked_boot : (setting : Setting) (brick : BrickId) (now : ℕ) (node : Node) (ask : Ask)
    → (invoked setting brick now node ask).node.boot ≡ node.boot
unfolding invoked
invoked_boot setting brick now node ask = invoked_boot_in setting brick now node ask (group_at setting.layout node ask.group.0)

-- where there is no such group no brick proposes its next view
pub unproposed_no_group : (layout : Layout) (g : ℕ) (node : Node) → group_of layout g ≡ None → proposal_refusal layout node g ≡ Some Refusal.NoStripe
unfolding proposal_refusal
unproposed_no_group layout g node none = ap (proposal_refusal_in node g) none

-- a brick that is up refuses to propose for its own reason
pub unproposed_here : (setting : Setting) (w : World) (brick : BrickId) (group : GroupId) → is_up setting.layout w brick ≡ true
    → proposal_refusal_at setting w brick group ≡ proposal_refusal setting.layout (w.nodes brick.0) group.0
unproposed_here setting w brick group up = ap (λ b. cond b (proposal_refusal setting.layout (w.nodes brick.0) group.0) (Some Refusal.Down)) up

-- there is no such brick that is up
pub unproposed_down : (setting : Setting) (w : World) (brick : BrickId) (group : GroupId) → is_up setting.layout w brick ≡ false
    → proposal_refusal_at setting w brick group ≡ Some Refusal.Down
unproposed_down setting w brick group down = ap (λ b. cond b (proposal_refusal setting.layout (w.nodes brick.0) group.0) (Some Refusal.Down)) down

-- What a brick does that does not refuse to propose: it is of the same boot, tells and answers nothing, and uses up a call unless it reports at once.
pub record ProposesAside (node : Node) (step : NodeStep) : Type 0 where
  pub boot : step.node.boot ≡ node.boot
  pub told : step.told ≡ []
  pub answers : step.answers ≡ []
  pub seq : step.node.seq ≡ node.seq + calls_used step.reports

proposed_aside_in : (setting : Setting) (me : BrickId) (node : Node) (group : GroupId) (members : List BrickId) (found : Option Group)
    → proposal_refusal_in node group.0 found ≡ None → ProposesAside node (proposed_in setting me node group members found)
proposed_aside_in setting me node group members None none = absurd (let never : Some Refusal.NoStripe ≡ None = none in cc)
proposed_aside_in setting me node group members (Some kept) none =
    let p : Proposal = new_proposal me node kept.m group members in
    cond_both (is_membership kept.m setting.layout.bricks members) (sending (proposing node p) (ballot_packets me p))
    (reporting node [] (report.View group None BadMembers)) (ProposesAside node)
    (λ may. record { boot = refl; told = refl; answers = refl; seq = refl })
    (λ isnt. record { boot = refl; told = refl; answers = refl; seq = (let same : node.seq ≡ node.seq + 0 = omega arith in same) })

pub proposed_aside : (setting : Setting) (me : BrickId) (node : Node) (group : GroupId) (members : List BrickId)
    → proposal_refusal setting.layout node group.0 ≡ None → ProposesAside node (proposed setting me node group members)
unfolding proposed proposal_refusal
proposed_aside setting me node group members none = proposed_aside_in setting me node group members (group_of setting.layout group.0) none

-- where there is no such group no brick synchronises its view
pub unsynced_no_group : (layout : Layout) (g : ℕ) (node : Node) → group_of layout g ≡ None → sync_refusal layout node g ≡ Some Refusal.NoStripe
unfolding sync_refusal
unsynced_no_group layout g node none = ap (sync_refusal_in node.job) none

-- a brick that is up refuses to synchronise for its own reason
pub unsynced_here : (setting : Setting) (w : World) (brick : BrickId) (group : GroupId) → is_up setting.layout w brick ≡ true
    → sync_refusal_at setting w brick group ≡ sync_refusal setting.layout (w.nodes brick.0) group.0
unsynced_here setting w brick group up = ap (λ b. cond b (sync_refusal setting.layout (w.nodes brick.0) group.0) (Some Refusal.Down)) up

-- there is no such brick that is up
pub unsynced_down : (setting : Setting) (w : World) (brick : BrickId) (group : GroupId) → is_up setting.layout w brick ≡ false
    → sync_refusal_at setting w brick group ≡ Some Refusal.Down
unsynced_down setting w brick group down = ap (λ b. cond b (sync_refusal setting.layout (w.nodes brick.0) group.0) (Some Refusal.Down)) down

-- where there is no such group no brick scrubs a stripe of it
pub unscrubbed_no_group : (layout : Layout) (g s : ℕ) (node : Node) (members : List BrickId) → group_of layout g ≡ None
    → scrub_refusal layout node (group_no g) (stripe_no s) members ≡ Some Refusal.NoStripe
unfolding scrub_refusal
unscrubbed_no_group layout g s node members none =
    ap (λ (found : Option Group). scrub_refusal_in node (stripe_no s) members (option_map (kept_by (node.learnt g).view.members) found)) none

-- the reasons behind that of the stripe
abbrev scrub_refusal_behind : Node → List BrickId → Group → Option Refusal
scrub_refusal_behind node members group =
    if not (names_quorum group members) then Some Refusal.NoQuorum
    else if is_some node.scrub then Some Refusal.Busy
    else if is_spent node then Some Refusal.Spent
    else None

-- nor one past the last of its group
pub unscrubbed_no_stripe : (layout : Layout) (g s : ℕ) (group : Group) (node : Node) (members : List BrickId) → group_of layout g ≡ Some group
    → group.stripes ≤ s → scrub_refusal layout node (group_no g) (stripe_no s) members ≡ Some Refusal.NoStripe
unfolding scrub_refusal
unscrubbed_no_stripe layout g s group node members found past =
    let past_last : nat_lt s group.stripes ≡ false = grind (arith, nat_tests) in
    ap (λ (x : Option Group). scrub_refusal_in node (stripe_no s) members (option_map (kept_by (node.learnt g).view.members) x)) found
    ∙ ap (λ b. cond (not b) (Some Refusal.NoStripe) (scrub_refusal_behind node members (kept_by (node.learnt g).view.members group))) past_last

-- a brick that is up refuses to scrub for its own reason
pub unscrubbed_here : (setting : Setting) (w : World) (brick : BrickId) (group : GroupId) (stripe : StripeNo) (members : List BrickId)
    → is_up setting.layout w brick ≡ true
    → scrub_refusal_at setting w brick group stripe members ≡ scrub_refusal setting.layout (w.nodes brick.0) group stripe members
unscrubbed_here setting w brick group stripe members up =
    ap (λ b. cond b (scrub_refusal setting.layout (w.nodes brick.0) group stripe members) (Some Refusal.Down)) up

-- there is no such brick that is up
pub unscrubbed_down : (setting : Setting) (w : World) (brick : BrickId) (group : GroupId) (stripe : StripeNo) (members : List BrickId)
    → is_up setting.layout w brick ≡ false → scrub_refusal_at setting w brick group stripe members ≡ Some Refusal.Down
unscrubbed_down setting w brick group stripe members down =
    ap (λ b. cond b (scrub_refusal setting.layout (w.nodes brick.0) group stripe members) (Some Refusal.Down)) down

module _ (setting : Setting) (w : World) where
  -- a scrub that is refused changes nothing
  pub happens_unscrubbed : (brick : BrickId) (group : GroupId) (stripe : StripeNo) (members : List BrickId) (reason : Refusal)
      → scrub_refusal setting.layout (w.nodes brick.0) group stripe members ≡ Some reason → happens setting w (Scrubs brick group stripe members) ≡ w
  unfolding happens
  happens_unscrubbed brick group stripe members reason is =
      ap (λ b. cond b (world_stepped setting w brick (scrubbed_at setting brick (w.clocks brick.0) (w.nodes brick.0) group stripe members)) w)
      (may_not (is_up setting.layout w brick) (scrub_refusal setting.layout (w.nodes brick.0) group stripe members) reason is)

  -- no brick that is not up scrubs
  pub happens_unscrubbed_down : (brick : BrickId) (group : GroupId) (stripe : StripeNo) (members : List BrickId) → is_up setting.layout w brick ≡ false
      → happens setting w (Scrubs brick group stripe members) ≡ w
  unfolding happens
  happens_unscrubbed_down brick group stripe members down =
      ap (λ b. cond (b && not (is_some (scrub_refusal setting.layout (w.nodes brick.0) group stripe members)))
      (world_stepped setting w brick (scrubbed_at setting brick (w.clocks brick.0) (w.nodes brick.0) group stripe members)) w)
      down

  -- a brick that does not refuse to scrub takes its step
  pub happens_scrubbed : (brick : BrickId) (group : GroupId) (stripe : StripeNo) (members : List BrickId) → is_up setting.layout w brick ≡ true
      → scrub_refusal setting.layout (w.nodes brick.0) group stripe members ≡ None
      → happens setting w (Scrubs brick group stripe members)
      ≡ world_stepped setting w brick (scrubbed_at setting brick (w.clocks brick.0) (w.nodes brick.0) group stripe members)
  unfolding happens
  happens_scrubbed brick group stripe members up none =
      ap (λ b. cond b (world_stepped setting w brick (scrubbed_at setting brick (w.clocks brick.0) (w.nodes brick.0) group stripe members)) w)
      (may (is_up setting.layout w brick) (scrub_refusal setting.layout (w.nodes brick.0) group stripe members) up none)

  -- a synchronisation that is refused changes nothing
  pub happens_unsynced : (brick : BrickId) (group : GroupId) (reason : Refusal)
      → sync_refusal setting.layout (w.nodes brick.0) group.0 ≡ Some reason → happens setting w (Syncs brick group) ≡ w
  unfolding happens
  happens_unsynced brick group reason is =
      ap (λ b. cond b (world_stepped setting w brick (synced_at setting brick (w.clocks brick.0) (w.nodes brick.0) group)) w)
      (may_not (is_up setting.layout w brick) (sync_refusal setting.layout (w.nodes brick.0) group.0) reason is)

  -- no brick that is not up synchronises
  pub happens_unsynced_down : (brick : BrickId) (group : GroupId) → is_up setting.layout w brick ≡ false → happens setting w (Syncs brick group) ≡ w
  unfolding happens
  happens_unsynced_down brick group down =
      ap (λ b. cond (b && not (is_some (sync_refusal setting.layout (w.nodes brick.0) group.0)))
      (world_stepped setting w brick (synced_at setting brick (w.clocks brick.0) (w.nodes brick.0) group)) w)
      down

  -- a brick that does not refuse to synchronise takes its step
  pub happens_synced : (brick : BrickId) (group : GroupId) → is_up setting.layout w brick ≡ true
      → sync_refusal setting.layout (w.nodes brick.0) group.0 ≡ None
      → happens setting w (Syncs brick group) ≡ world_stepped setting w brick (synced_at setting brick (w.clocks brick.0) (w.nodes brick.0) group)
  unfolding happens
  happens_synced brick group up none =
      ap (λ b. cond b (world_stepped setting w brick (synced_at setting brick (w.clocks brick.0) (w.nodes brick.0) group)) w)
      (may (is_up setting.layout w brick) (sync_refusal setting.layout (w.nodes brick.0) group.0) up none)

  -- a proposal that is refused changes nothing
  pub happens_unproposed : (brick : BrickId) (group : GroupId) (members : List BrickId) (reason : Refusal)
      → proposal_refusal setting.layout (w.nodes brick.0) group.0 ≡ Some reason → happens setting w (Proposes brick group members) ≡ w
  unfolding happens
  happens_unproposed brick group members reason is =
      ap (λ b. cond b (world_stepped setting w brick (proposed setting brick (w.nodes brick.0) group members)) w)
      (may_not (is_up setting.layout w brick) (proposal_refusal setting.layout (w.nodes brick.0) group.0) reason is)

  -- no brick that is not up proposes
  pub happens_unproposed_down : (brick : BrickId) (group : GroupId) (members : List BrickId) → is_up setting.layout w brick ≡ false
      → happens setting w (Proposes brick group members) ≡ w
  unfolding happens
  happens_unproposed_down brick group members down =
      ap (λ b. cond (b && not (is_some (proposal_refusal setting.layout (w.nodes brick.0) group.0)))
      (world_stepped setting w brick (proposed setting brick (w.nodes brick.0) group members)) w)
      down

  -- a brick that does not refuse to propose takes its step
  pub happens_proposed : (brick : BrickId) (group : GroupId) (members : List BrickId) → is_up setting.layout w brick ≡ true
      → proposal_refusal setting.layout (w.nodes brick.0) group.0 ≡ None
      → happens setting w (Proposes brick group members) ≡ world_stepped setting w brick (proposed setting brick (w.nodes brick.0) group members)
  unfolding happens
  happens_proposed brick group members up none =
      ap (λ b. cond b (world_stepped setting w brick (proposed setting brick (w.nodes brick.0) group members)) w)
      (may (is_up setting.layout w brick) (proposal_refusal setting.layout (w.nodes brick.0) group.0) up none)

  -- a number that was not sent changes nothing
  pub happens_unsent : (number : ℕ) → packet_of w.packets number ≡ None → happens setting w (Delivers number) ≡ w
  unfolding happens
  happens_unsent number none = ap (delivered setting w number) none

  -- a message to no brick that is up changes nothing
  pub happens_astray : (number : ℕ) (packet : Packet) → packet_of w.packets number ≡ Some packet
      → is_up setting.layout w packet.to ≡ false → happens setting w (Delivers number) ≡ w
  unfolding happens
  happens_astray number packet sent down = ap (delivered setting w number) sent ∙ ap (λ b. cond b (world_handled setting w number packet) w) down

  -- a message is handled by its brick
  pub happens_handled : (number : ℕ) (packet : Packet) → packet_of w.packets number ≡ Some packet
      → is_up setting.layout w packet.to ≡ true → happens setting w (Delivers number) ≡ world_handled setting w number packet
  unfolding happens
  happens_handled number packet sent up = ap (delivered setting w number) sent ∙ ap (λ b. cond b (world_handled setting w number packet) w) up

  -- a clock is set
  pub happens_set : (brick : BrickId) (time : ℕ) → brick.0 < setting.layout.bricks
      → happens setting w (Sets brick time) ≡ record w { clocks = put w.clocks brick.0 time }
  unfolding happens
  happens_set brick time within =
      ap (λ b. cond b (record w { clocks = put w.clocks brick.0 time }) w)
      (let e : nat_lt brick.0 setting.layout.bricks ≡ true = grind (arith, nat_tests) in e)

  -- a clock that there is not changes nothing
  pub happens_unset : (brick : BrickId) (time : ℕ) → setting.layout.bricks ≤ brick.0 → happens setting w (Sets brick time) ≡ w
  unfolding happens
  happens_unset brick time past =
      ap (λ b. cond b (record w { clocks = put w.clocks brick.0 time }) w)
      (let e : nat_lt brick.0 setting.layout.bricks ≡ false = grind (arith, nat_tests) in e)

  -- the clock of a brick that is up ticks
  pub happens_ticked : (brick : BrickId) → is_up setting.layout w brick ≡ true → happens setting w (Ticks brick) ≡ world_ticked setting w brick
  unfolding happens
  happens_ticked brick up = ap (λ b. cond b (world_ticked setting w brick) w) up

  pub happens_unticked : (brick : BrickId) → is_up setting.layout w brick ≡ false → happens setting w (Ticks brick) ≡ w
  unfolding happens
  happens_unticked brick down = ap (λ b. cond b (world_ticked setting w brick) w) down

  -- a brick that is up stops
  pub happens_stopped : (brick : BrickId) → is_up setting.layout w brick ≡ true → happens setting w (Stops brick None) ≡ world_stopped setting w brick None
  unfolding happens
  happens_stopped brick up = ap (λ b. cond b (world_stopped setting w brick None) w) up

  pub happens_unstopped : (brick : BrickId) → is_up setting.layout w brick ≡ false → happens setting w (Stops brick None) ≡ w
  unfolding happens
  happens_unstopped brick down = ap (λ b. cond b (world_stopped setting w brick None) w) down

  -- a brick stops during the handling of a message
  pub happens_stopped_during : (brick : BrickId) (during : Option ℕ) → is_up setting.layout w brick ≡ true
      → happens setting w (Stops brick during) ≡ world_stopped setting w brick during
  unfolding happens
  happens_stopped_during brick during up = ap (λ b. cond b (world_stopped setting w brick during) w) up

  -- a brick that may start does
  pub happens_started : (brick : BrickId) (openings : ℕ) (found : Found) → may_start setting.layout w brick openings ≡ true
      → happens setting w (Starts brick openings found) ≡ world_started (world_found w brick found) brick openings
  unfolding happens
  happens_started brick openings found may = ap (λ b. cond b (world_started (world_found w brick found) brick openings) w) may

  pub happens_unstarted : (brick : BrickId) (openings : ℕ) (found : Found) → may_start setting.layout w brick openings ≡ false
      → happens setting w (Starts brick openings found) ≡ w
  unfolding happens
  happens_unstarted brick openings found may_not = ap (λ b. cond b (world_started (world_found w brick found) brick openings) w) may_not
