-- A running brick over its durable store, and what its disk shows.
use Rattle.std.specs.Prelude.{◌≡◌, ◌⊎◌, ℕ, ◌+◌, List, length, map, Option}
use Rattle.std.specs.Option.{option_map}
use Rattle.std.specs.Ordering.{nat_cmp}
use Rattle.std.specs.Map.{lookup}
use Rattle.std.specs.BTreeMap.{BTreeMap, is_at}
use Rattle.fab_base.specs.declared.identities.BrickId.{BrickId}
use Rattle.frame_store.specs.declared.shapes.Shape.{Shape}
use Rattle.frame_store.specs.Layouts.{shape_of}
use Rattle.version_log.specs.Versions.{Version}
use Rattle.brick_state.specs.States.{StateOf, live}
use Rattle.brick_store.specs.Bricks.{Brick}
use Rattle.brick_store.specs.Images.{StandsFor}
use Rattle.fab_base.specs.Layouts.{Layout}
use Rattle.protocol.specs.Coordinators.{Coordinator}
use Rattle.protocol.specs.Nodes as machine
use Rattle.protocol.specs.Proposals.{Proposal}
use Rattle.replica.specs.Parts.{part_in, learnt_in, ballots_in, live_at, IsPartsOf, ListsStand}
use Rattle.node.specs.Proposals.{proposal_in}
use Rattle.node.specs.Jobs.{Reading, calls_with, reading_in}
use Rattle.node.specs.Scrubs.{Scrubbing, calls_with_scrub, scrubbing_in}
use Rattle.node.specs.declared.tasks.Tasks.{Tasks}
use Rattle.node.specs.declared.operations.Operation.{Operation}
use Rattle.node.specs.Operations.{coordinator_of}
use Rattle.node.specs.Tasks.{AreTasksOf}

-- A running brick: the disk's layout, its number, its last call number, the greatest time that it knows, the coordinators of its open operations
-- by their call numbers, which rise, the greatest round of a ballot that it knows, its proposal, its synchronisation with the read of that, its scrub with the
-- coordinator of that, and its store.
pub record Running (D : Type 0) : Type 0 where
  pub layout : Layout
  pub me : BrickId
  pub seq : ℕ
  pub known : ℕ
  pub calls : List (ℕ × Coordinator)
  pub round : ℕ
  pub proposal : Option Proposal
  pub reading : Option Reading
  pub scrubbing : Option Scrubbing
  pub brick : Brick D

-- what the machine sees of it
unfoldable pub state_of : {D : Type 0} → Running D → machine.Node
state_of node =
    record {
      boot = node.brick.state.boot;
      seq = node.seq;
      known = node.known;
      round = node.round;
      busy = length node.calls;
      live = live node.brick.state;
      live_in = live_at node.brick.state;
      learnt = learnt_in node.layout node.brick.state;
      ballots = ballots_in node.brick.state;
      replicas = part_in node.layout.block node.brick.state;
      calls = calls_with_scrub node.scrubbing (calls_with node.reading (λ k. lookup (is_at (nat_cmp k)) node.calls));
      proposal = node.proposal;
      job = option_map (λ (r : Reading). r.job) node.reading;
      scrub = option_map (λ (s : Scrubbing). s.scrub) node.scrubbing;
    }

-- the coordinators of operations by number
abbrev pub coordinators : BTreeMap ℕ Operation → List (ℕ × Coordinator)
coordinators operations = map (λ e. (e.0, coordinator_of e.1)) operations.entries

-- the brick of this layout that has this under way, over this store
abbrev pub running : {D : Type 0} → Layout → Tasks → Brick D → Running D
running layout tasks store =
    record {
      layout = layout;
      me = tasks.work.calls.me;
      seq = tasks.work.calls.seq;
      known = tasks.work.calls.stamps.known;
      calls = coordinators tasks.work.calls.operations;
      round = tasks.work.proposals.rounds;
      proposal = proposal_in tasks.work.proposals.under_way;
      reading = reading_in tasks.job;
      scrubbing = scrubbing_in tasks.scrub;
      brick = store;
    }

-- what a store is made for at a brick of the layout
abbrev pub shape_at : Layout → BrickId → Shape
shape_at layout me = shape_of me.0 layout.block layout.records

-- the store's state keeps what the machine's brick keeps, and its lists of members may keep the layout's groups
pub record IsKept (layout : Layout) (st : StateOf Version) (node : machine.Node) : Type 0 where
  pub parts : IsPartsOf layout st node
  pub lists : ListsStand layout st

-- the image opens as a store that keeps what the machine's brick keeps, and lists of members that may keep the layout's groups
pub record ImageShows (layout : Layout) (me : BrickId) (node : machine.Node) (image : List ℕ) : Type 0 where
  pub st : StateOf Version
  pub stands : StandsFor (shape_at layout me) st image
  pub parts : IsPartsOf layout st node
  pub lists : ListsStand layout st

-- the image shows the brick before a step, or the brick after it
abbrev pub ShowsEither : Layout → BrickId → machine.Node → machine.Node → List ℕ → Type 0
ShowsEither layout me before after image = ImageShows layout me before image ⊎ ImageShows layout me after image

-- a crash leaves only images that show this brick
abbrev pub LeavesBrick : Layout → BrickId → machine.Node → (List ℕ → Type 0) → Type 0
LeavesBrick layout me node may_leave = (image : List ℕ) → may_leave image → ImageShows layout me node image

-- the brick, with its store opened once more
abbrev pub reopened : machine.Node → machine.Node
reopened node = record node { boot = node.boot + 1 }

-- it is the same brick of the same disk
pub record IsSameBrick {D : Type 0} (old new : Running D) : Type 0 where
  pub layout : new.layout ≡ old.layout
  pub me : new.me ≡ old.me

-- The store is that of the brick of the layout, was opened as often as its calls say, and its lists of members may keep the layout's groups; and all that is
-- under way is of the layout.
pub record IsBrickOf (layout : Layout) (shape : Shape) (st : StateOf Version) (tasks : Tasks) : Type 0 where
  pub shape_is : shape ≡ shape_at layout tasks.work.calls.me
  pub boot : tasks.work.calls.stamps.boot ≡ st.boot
  pub lists : ListsStand layout st
  pub tasks_are : AreTasksOf layout tasks
