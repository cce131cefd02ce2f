-- The laws of an operation that runs alone: it is answered, and its Collects leave one version.
use Rattle.quorum.specs.Quorums.{quorum_of}
use Rattle.protocol.specs.Coordinators.{Coordinator}
use Rattle.messages.specs.declared.requests.Request.{Request}
use Rattle.messages.specs.declared.packets.Message.{Message}
use Rattle.fab_base.specs.declared.stamps.Stamp.{Stamp}
use Rattle.fab_base.specs.declared.asks.Ask.{Ask}
use Rattle.fab_base.specs.Layouts.{Layout, group_of, seat_in}
use Rattle.std.proofs.Common.{List, None, Some, length, true, ℕ, ◌≡◌, ◌≤◌, ◌⊎◌, [], ◌∷◌}
use Rattle.std.specs.Prelude.{◌^◌, is_some, map, slice_get}
use Rattle.fab_base.specs.declared.identities.BrickId.{BrickId}
use Rattle.calm_laws.specs.Logs.{is_stripe, log_in}
use Rattle.protocol.specs.Calms.{IsCalm, RunsAlone, open_call, is_one_of, members_among}
use Rattle.protocol.specs.Happenings.{is_marked}
use Rattle.protocol.specs.Settings.{IsSound, Setting}
use Rattle.protocol.specs.Worlds.{Event, Operation, World, first_world, run, Delivers, packet_of}
use Rattle.fab_base.specs.declared.asks.Op.TheVariants.{ReadStripe}

-- An operation is over: it is not open, and it was answered data or that it is done, and not aborted.
pub record IsOver (w : World) (n : ℕ) : Type 0 where
  pub closed : open_call w n ≡ None
  pub operation : Operation
  pub is : w.operations n ≡ Some operation
  pub answered : operation.answered ≡ true

-- It comes to its end alone, among these bricks, and whichever way it runs alone it is over then.
pub record EndsAlone (setting : Setting) (w : World) (n : ℕ) (bricks : List BrickId) : Type 0 where
  pub events : List Event
  pub last : World
  pub alone : RunsAlone setting n bricks w events last
  pub over : (others : List Event) (other : World) → RunsAlone setting n bricks w others other → IsOver other n

-- each block that a code makes is as long as a block
abbrev pub EncodesBlocks : Setting → Type 0
EncodesBlocks setting = (m : ℕ) (content : List ℕ) (seat : ℕ) → length (setting.code.encode m content seat) ≡ setting.layout.block

-- the most live records of a brick for which there are phases enough
abbrev pub most_records : ℕ
most_records = 2 ^ 20

-- An operation counts every member; or it is a scrub of just these bricks, which are members.
abbrev pub CountsThese : Coordinator → List BrickId → Type 0
CountsThese c bricks = (c.only ≡ None) ⊎ ((c.only ≡ Some bricks) × (members_among c.group.members bricks ≡ length bricks) × (c.ask.op ≡ ReadStripe))

-- An operation has marks; or its stripe is one of its group's, and it counts every member or these bricks: a synchronisation of a group without stripes reads one
-- that there is not, and nobody answers it.
abbrev pub HasStripe : Setting → Operation → Coordinator → List BrickId → Type 0
HasStripe setting o c bricks =
    (is_marked o ≡ true) ⊎ ((is_stripe (group_of setting.layout o.ask.group.0) o.ask.stripe.0 ≡ true) × CountsThese c bricks)

-- After every schedule: an operation whose messages among these bricks alone are delivered is answered, where it is calm.
abbrev pub CalmOperationsEnd : Type 0
CalmOperationsEnd =
    (setting : Setting) (events : List Event) (n : ℕ) (bricks : List BrickId) → IsSound setting → EncodesBlocks setting
    → setting.layout.records ≤ most_records → (calm : IsCalm setting (run setting events (first_world setting.layout)) n bricks)
    → HasStripe setting calm.operation calm.coordinator bricks → EndsAlone setting (run setting events (first_world setting.layout)) n bricks

-- the packet of this number is a Collect of version t, which brick me sent to this brick under the call of this coordinator, in some phase
pub record IsCollect (w : World) (me : BrickId) (c : Coordinator) (t : Stamp) (brick : BrickId) (number : ℕ) : Type 0 where
  pub phase : ℕ
  pub is : packet_of w.packets number ≡ Some (record {
    from = me;
    to = brick;
    message = Message.Request (record c.call { phase = phase }) (Request.Collect t);
  })

-- one of these bricks, a member of the operation's view
abbrev pub IsMemberAmong : Coordinator → List BrickId → BrickId → Type 0
IsMemberAmong c bricks brick = (is_one_of bricks brick ≡ true) × (is_some (seat_in c.group.members brick.0) ≡ true)

-- just a quorum of the members of the operation's view are among these bricks
abbrev pub AreJustQuorum : Coordinator → List BrickId → Type 0
AreJustQuorum c bricks = members_among c.group.members bricks ≡ quorum_of c.group

-- the numbers of Collects of version t, in any order and as often as may be: one at least to each member among these bricks
pub record AreCollects (w : World) (me : BrickId) (c : Coordinator) (t : Stamp) (bricks : List BrickId) (numbers : List ℕ) : Type 0 where
  pub each : (k number : ℕ) → slice_get numbers k ≡ Some number → (brick : BrickId) × IsCollect w me c t brick number
  pub all : (brick : BrickId) → IsMemberAmong c bricks brick → (k : ℕ) × (number : ℕ) × (slice_get numbers k ≡ Some number) × IsCollect w me c t brick number

-- a brick's log of the stripe that is asked for has this one version
abbrev pub HasOnly : Layout → World → Ask → Stamp → BrickId → Type 0
HasOnly layout w ask t brick =
    (block : List ℕ) × (log_in layout w brick ask.group.0 ask.stripe.0 ≡ Some (record { stamp = t; block = block } ∷ []))

-- A Collect of version t was sent to each member among these bricks; and once such were delivered, to each of them and nothing else, each has only
-- that version.
pub record LeavesOne (setting : Setting) (w : World) (o : Operation) (c : Coordinator) (t : Stamp) (bricks : List BrickId) : Type 0 where
  pub sent : (brick : BrickId) → IsMemberAmong c bricks brick → (number : ℕ) × IsCollect w o.brick c t brick number
  pub left : (numbers : List ℕ) → AreCollects w o.brick c t bricks numbers → (brick : BrickId) → IsMemberAmong c bricks brick
      → HasOnly setting.layout (run setting (map (λ number. Delivers number) numbers) w) o.ask t brick

-- Where an operation ran alone among bricks of which just a quorum are members, and made a version, its Collects leave only that version at these.
abbrev pub LeavesItsOwn : (setting : Setting) (w : World) (n : ℕ) (bricks : List BrickId) → IsCalm setting w n bricks → World → Type 0
LeavesItsOwn setting w n bricks calm last =
    AreJustQuorum calm.coordinator bricks → (operation : Operation) (t : Stamp)
    → last.operations n ≡ Some operation → operation.made ≡ true → operation.version ≡ Some t
    → LeavesOne setting last calm.operation calm.coordinator t bricks

-- so after every schedule
abbrev pub CollectsLeaveOne : Type 0
CollectsLeaveOne =
    (setting : Setting) (events : List Event) (n : ℕ) (bricks : List BrickId) → IsSound setting → EncodesBlocks setting
    → setting.layout.records ≤ most_records → (calm : IsCalm setting (run setting events (first_world setting.layout)) n bricks)
    → HasStripe setting calm.operation calm.coordinator bricks → (alone : List Event) (last : World) → RunsAlone setting n bricks (run setting events (first_world setting.layout)) alone last
    → LeavesItsOwn setting (run setting events (first_world setting.layout)) n bricks calm last
