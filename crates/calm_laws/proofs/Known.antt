-- What is taken of the world in which an operation begins to run alone: its call and its messages, and the logs of its stripe.
use Rattle.fab_base.specs.declared.identities.BrickId.{BrickId}
use Rattle.std.specs.List.{IsDistinct}
use Rattle.protocol.specs.Views.{view_of, first_kept, kept_by}
use Rattle.std.proofs.Common.{List, Some, [], false, length, suc, true, zero, ℕ, ◌++◌, ◌+◌, ◌<◌, ◌≡◌, ◌≤◌, ◌⊎◌}
use Rattle.std.specs.Prelude.{filter, nat_eq, slice_get, map, ◌-◌}
use Rattle.protocol_laws.proofs.Logs.{LogAscends}
use Rattle.calm_laws.specs.Laws.{most_records, CountsThese}
use Rattle.fab_base.specs.Layouts.{brick_at, group_of, seat_in, Group}
use Rattle.fab_base.specs.Stamps.{stamp_below}
use Rattle.fab_base.specs.declared.stamps.Stamp.{Stamp}
use Rattle.messages.specs.declared.requests.Version.{Version}
use Rattle.protocol.specs.Calms.{operation_of, may_ask_prior}
use Rattle.protocol.specs.Coordinators.{Coordinator}
use Rattle.protocol.specs.Nodes.{first_phase, group_at, has_block, has_length, phase_packets, replica_at, view_at}
use Rattle.protocol.specs.Replicas.{is_held, top_of}
use Rattle.protocol.specs.Settings.{Setting}
use Rattle.protocol.specs.Worlds.{Operation, World, is_brick}
use Rattle.quorum.specs.Quorums.{count, quorum_of, IsWithinLimits}

-- a list several times
abbrev pub repeated : {A : Type 0} → ℕ → List A → List A
repeated zero xs = []
repeated (suc k) xs = xs ++ repeated k xs

-- The operation's call, which no reply has reached: it is in its first phase. A brick that has learnt the operation's view has the operation's members of it.
pub record KnownCall (setting : Setting) (w : World) (n : ℕ) (o : Operation) (c : Coordinator) : Type 0 where
  pub brick : is_brick setting.layout o.brick ≡ true
  pub ask : c.ask ≡ o.ask
  pub number : w.numbers o.brick.0 o.boot o.seq ≡ n
  pub begun : n ≤ w.begun
  pub called : o.seq ≤ (w.nodes o.brick.0).seq
  pub boot : c.call.boot ≡ o.boot
  pub seq : c.call.seq ≡ o.seq
  pub of_group : c.call.group ≡ c.ask.group
  pub view : c.call.view ≡ c.stamp.view
  pub from_one : 1 ≤ c.stamp.view.0
  pub stripe : c.call.stripe ≡ c.ask.stripe
  pub base : Group
  pub base_is : group_of setting.layout c.ask.group.0 ≡ Some base
  pub stripes : base.stripes ≡ c.group.stripes
  pub groups : (i : ℕ) → view_at (w.nodes i) c.call.group.0 ≡ c.stamp.view.0 → group_at setting.layout (w.nodes i) c.call.group.0 ≡ Some c.group
  pub within : c.ask.stripe.0 < c.group.stripes
  pub block_fits : has_block c.group.m c.ask.op ≡ true
  pub length_fits : has_length c.group.m setting.layout.block c.ask.op ≡ true
  pub stamp_known : c.stamp.time ≤ (w.nodes o.brick.0).known
  pub phase : c.phase ≡ first_phase c.ask.op
  pub number_of_phase : c.call.phase ≡ 1
  pub round : c.round ≡ 1
  pub counted : c.counted ≡ []

-- Its messages: its first phase's requests, once for its beginning and once for each tick since. And nothing was delivered that was not sent.
pub record KnownMessages (setting : Setting) (w : World) (n : ℕ) (o : Operation) (c : Coordinator) : Type 0 where
  pub copies : ℕ
  pub sent : filter (λ packet. nat_eq (operation_of w packet) n) w.packets ≡ repeated (suc copies) (phase_packets setting o.brick c)
  pub unsent : (k : ℕ) → length w.packets < k → w.reached k ≡ false

-- a version of a view that a quorum of the view's members has held
pub record StandsIn (w : World) (g s e : ℕ) (group : Group) (t : Stamp) : Type 0 where
  pub of : view_of t ≡ e
  pub held : quorum_of group ≤ count (length group.members) (λ seat. w.held (brick_at group seat) g s t)

-- A brick that keeps the versions of a view keeps what it has held of them from some version on, which a quorum has held.
pub record KeepsFrom (w : World) (g s e : ℕ) (group : Group) (i : ℕ) : Type 0 where
  pub from : Stamp
  pub stands : StandsIn w g s e group from
  pub logged : first_kept ((w.nodes i).learnt g) ≤ e → (t : Stamp) → view_of t ≡ e → w.held i g s t ≡ true
      → (is_held t ((w.nodes i).replicas g e s).log ≡ true) ⊎ (stamp_below t from ≡ true)

-- a quorum of a view's members has held a version of it, and each brick keeps what it has held from some such version on
pub record KnownFloor (w : World) (g s e : ℕ) (group : Group) : Type 0 where
  pub base : Stamp
  pub stands : StandsIn w g s e group base
  pub keeps : (i : ℕ) → KeepsFrom w g s e group i

-- The logs of a stripe in a view, by brick: each ascends, its versions are of the view, and their blocks have the length of one; and the view's members are within the
-- limits, and distinct.
pub record KnownLogs (setting : Setting) (w : World) (g s e : ℕ) (group : Group) : Type 0 where
  pub limits : IsWithinLimits group.m (length group.members)
  pub distinct : IsDistinct nat_eq (map (λ member. member.0) group.members)
  pub ascends : (i : ℕ) → LogAscends ((w.nodes i).replicas g e s).log
  pub of : (i k : ℕ) (version : Version) → slice_get ((w.nodes i).replicas g e s).log k ≡ Some version → view_of version.stamp ≡ e
  pub blocks : (i seat k : ℕ) (version : Version) → seat_in group.members i ≡ Some seat
      → slice_get ((w.nodes i).replicas g e s).log k ≡ Some version → length version.block ≡ setting.layout.block
  pub short : (i : ℕ) → length ((w.nodes i).replicas g e s).log ≤ most_records + 1

-- What is known where the operation may have to ask the members of the view before: they keep that view from some version on.
pub record KnownBack (setting : Setting) (w : World) (c : Coordinator) (bricks : List BrickId) : Type 0 where
  pub may : may_ask_prior w c bricks ≡ true
  pub logs : KnownLogs setting w c.call.group.0 c.call.stripe.0 (c.call.view.0 - 1) (kept_by c.prior c.group)
  pub floor : KnownFloor w c.call.group.0 c.call.stripe.0 (c.call.view.0 - 1) (kept_by c.prior c.group)

-- what is known of an open operation and its stripe: no brick has come to a stamp of a later view in its own, and none holds its stamp
pub record Known (setting : Setting) (w : World) (n : ℕ) (o : Operation) (c : Coordinator) (bricks : List BrickId) : Type 0 where
  pub call : KnownCall setting w n o c
  pub counts : CountsThese c bricks
  pub messages : KnownMessages setting w n o c
  pub logs : KnownLogs setting w c.call.group.0 c.call.stripe.0 c.call.view.0 c.group
  pub top_view : (i : ℕ) → (top_of (replica_at (w.nodes i) c.call)).view.0 ≤ c.stamp.view.0
  pub unheld : (i : ℕ) → is_held c.stamp (replica_at (w.nodes i) c.call).log ≡ false
  pub ground : KnownFloor w c.call.group.0 c.call.stripe.0 c.call.view.0 c.group ⊎ KnownBack setting w c bricks
