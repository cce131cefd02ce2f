-- What one brick is, over its disk.
use Rattle.std.proofs.Common.{◌≡◌, ℕ, zero, suc, Bool, true, false, cond, List, [], ◌∷◌, ◌++◌, refl, sym, ap, ◌∙◌, subst}
use Rattle.std.specs.Prelude.{nat_eq, replicate, slice_index_or}
use Rattle.fab_base.specs.declared.identities.BrickId.{BrickId}
use Rattle.fab_disk.specs.MemDisk.{content_of, IsSound}
use Rattle.fab_disk.specs.declared.mem_disk.MemDisk.{MemDisk}
use Rattle.frame_store.specs.Layouts.{shape_of}
use Rattle.version_log.specs.Versions.{Version, version}
use Rattle.fab_base.specs.Stamps.{first_stamp}
use Rattle.brick_state.specs.declared.groups.Group.{Group}
use Rattle.brick_state.specs.States.{StateOf, empty, no_group, live}
use Rattle.brick_store.specs.Bricks.{Brick as Store}
use Rattle.brick_store.specs.Images.{IsFound, StandsFor}
use Rattle.brick_store.proofs.Opened.{found_is}
use Rattle.protocol.specs.Views.{first_learnt}
use Rattle.protocol.specs.Replicas.{first_replica}
use Rattle.replica.specs.Parts.{part_of, part_in, learnt_or, learnt_in, ballots_in, live_at, lists_stand}
use Rattle.node.specs.Running.{Running, state_of, shape_at, ImageShows, IsSameBrick}
use Rattle.fab_base.specs.Layouts.{Layout}
use Rattle.protocol.specs.Nodes as machine
use Rattle.world.specs.Disks.{ShowsDisk, IsUnwritten}
use Rattle.world.specs.Shown.{IsRunning, IsUpWith, Runs, ShowsPower, unopened}
use Rattle.world.specs.declared.bricks.Power.{Power}
use Rattle.world.specs.declared.bricks.Power.TheVariants.{Up, Down}

-- what is found was opened as often as the brick that it shows
pub found_boot : (layout : Layout) (me : BrickId) (state : machine.Node) (st : StateOf Version) (image : List ℕ)
    → IsFound (shape_at layout me) st image
    → ImageShows layout me state image → state.boot ≡ st.boot
found_boot layout me state st image found shows =
    shows.parts.boot ∙ ap (λ (x : StateOf Version). x.boot) (sym (found_is (shape_at layout me) st shows.st image found shows.stands))

-- a stopped brick keeps what it kept
pub stopped_shows : (layout : Layout) (me : BrickId) (state : machine.Node) (image : List ℕ) → ImageShows layout me state image
    → ImageShows layout me (machine.stopped state) image
unfolding machine.stopped
stopped_shows layout me state image shows = record {
  st = shows.st;
  stands = shows.stands;
  parts = record {
    boot = shows.parts.boot;
    live = shows.parts.live;
    live_in = shows.parts.live_in;
    learnt = shows.parts.learnt;
    ballots = shows.parts.ballots;
    replicas = shows.parts.replicas;
  };
  lists = shows.lists;
}

-- a disk that was left alone
pub kept_still : (layout : Layout) (me : BrickId) (state : machine.Node) (disk new : MemDisk) → IsUnwritten disk new → ShowsDisk layout me state disk
    → ShowsDisk layout me state new
kept_still layout me state disk new still kept = record {
  only = λ image left. kept.only image (still.crash image left) ∙ sym still.content;
  has = subst (ImageShows layout me state) (sym still.content) kept.has;
}

-- a brick whose store is as it was keeps what it kept, whatever its calls are now
same_store : (layout : Layout) (me : BrickId) (node new : Running MemDisk) (image : List ℕ) → new.layout ≡ node.layout → new.brick ≡ node.brick
    → ImageShows layout me (state_of node) image → ImageShows layout me (state_of new) image
unfolding state_of
same_store layout me node new image same store shows = record {
  st = shows.st;
  stands = shows.stands;
  parts = record {
    boot = ap (λ (x : Store MemDisk). x.state.boot) store ∙ shows.parts.boot;
    live = ap (λ (x : Store MemDisk). live x.state) store ∙ shows.parts.live;
    live_in = λ g e. ap (λ (x : Store MemDisk). live_at x.state g e) store ∙ shows.parts.live_in g e;
    learnt = λ g.
        ap (λ (l : Layout). learnt_in l new.brick.state g) same ∙ ap (λ (x : Store MemDisk). learnt_in node.layout x.state g) store
        ∙ shows.parts.learnt g;
    ballots = λ g. ap (λ (x : Store MemDisk). ballots_in x.state g) store ∙ shows.parts.ballots g;
    replicas = λ g e s.
        ap (λ (l : Layout). part_in l.block new.brick.state g e s) same ∙ ap (λ (x : Store MemDisk). part_in node.layout.block x.state g e s) store
        ∙ shows.parts.replicas g e s;
  };
  lists = shows.lists;
}

pub kept_same : (layout : Layout) (me : BrickId) (state next : machine.Node) (node new : Running MemDisk) → IsRunning layout me state node
    → new.layout ≡ node.layout → new.brick ≡ node.brick → state_of new ≡ next → ShowsDisk layout me next new.brick.disk
kept_same layout me state next node new runs same store state_is =
    subst (λ (x : Store MemDisk). ShowsDisk layout me next x.disk) (sym store)
    (record {
      only = runs.kept.only;
      has =
          subst (λ (s : machine.Node). ImageShows layout me s (content_of node.brick.disk)) state_is
          (same_store layout me node new (content_of node.brick.disk) same store
          (subst (λ (s : machine.Node). ImageShows layout me s (content_of node.brick.disk)) (sym runs.state_is) runs.kept.has));
    })

-- nothing is kept of any group of a fresh store
none_of : (n g : ℕ) → slice_index_or (replicate n no_group) g no_group ≡ no_group
none_of zero g = refl
none_of (suc n) zero = refl
none_of (suc n) (suc g) = none_of n g

-- nor of any stripe, but the version that it begins with in view 1
fresh_part : (block e : ℕ) (b : Bool) → cond b (first_replica block) (record { order = first_stamp; log = []; from_start = false })
    ≡ part_of first_stamp (cond b (version first_stamp (replicate block 0) ∷ []) [] ++ []) b
fresh_part block e true = refl
fresh_part block e false = refl

-- a fresh store keeps what a brick keeps whose store was not opened yet
pub empty_shows : (layout : Layout) (me : BrickId) (block records : ℕ) (image : List ℕ) → block ≡ layout.block → records ≡ layout.records
    → StandsFor (shape_of me.0 block records) empty image → ImageShows layout me (unopened layout) image
empty_shows layout me block records image block_is records_is stands = record {
  st = empty;
  stands = subst (λ (b : ℕ). StandsFor (shape_of me.0 b layout.records) empty image) block_is
      (subst (λ (r : ℕ). StandsFor (shape_of me.0 block r) empty image) records_is stands);
  parts = record {
    boot = refl;
    live = refl;
    live_in = λ g e. refl;
    learnt = λ g. ap (λ (group : Group). learnt_or (first_learnt layout g) group.known) (sym (none_of 64 g));
    ballots = λ g. ap (λ (group : Group). group.ballots) (sym (none_of 64 g));
    replicas = λ g e s. fresh_part layout.block e (nat_eq e 1);
  };
  lists = λ g group is. ap (λ (kept : Group). lists_stand group.m layout.bricks kept) (none_of 64 g);
}

-- a brick that took a step
pub still_runs : (layout : Layout) (me : BrickId) (state next : machine.Node) (node new : Running MemDisk) → IsRunning layout me state node
    → IsSameBrick node new
    → state_of new ≡ next → ShowsDisk layout me next new.brick.disk → new.brick.halted ≡ false → IsSound new.brick.disk
    → IsRunning layout me next new
still_runs layout me state next node new runs same state_is kept halted sound =
    record { layout_is = same.layout ∙ runs.layout_is; me_is = same.me ∙ runs.me_is; state_is = state_is; kept = kept; runs = halted; sound = sound }

-- a brick that runs as one of a layout runs as the brick that it says it is
pub runs_own : (layout : Layout) (me : BrickId) (state : machine.Node) (node : Running MemDisk) → IsRunning layout me state node → Runs node
runs_own layout me state node runs = record {
  layout_is = refl;
  me_is = refl;
  state_is = refl;
  kept = subst (λ (s : machine.Node). ShowsDisk node.layout node.me s node.brick.disk) (sym runs.state_is)
      (subst (λ (b : BrickId). ShowsDisk node.layout b state node.brick.disk) (sym runs.me_is)
      (subst (λ (l : Layout). ShowsDisk l me state node.brick.disk) (sym runs.layout_is) runs.kept));
  runs = runs.runs;
  sound = runs.sound;
}

-- what is so of a brick that runs is so of it as one of the layout
pub as_shown : (layout : Layout) (me : BrickId) (state : machine.Node) (node : Running MemDisk) → IsRunning layout me state node
    → (P : Layout → BrickId → machine.Node → Type 0) → P node.layout node.me (state_of node) → P layout me state
as_shown layout me state node runs P is =
    subst (λ (s : machine.Node). P layout me s) runs.state_is
    (subst (λ (b : BrickId). P layout b (state_of node)) runs.me_is
    (subst (λ (l : Layout). P l node.me (state_of node)) runs.layout_is is))

-- a brick that runs is up
pub up_power : (layout : Layout) (me : BrickId) (state after : machine.Node) (power : Power) → IsUpWith power (IsRunning layout me state)
    → ShowsPower layout me state after true power
up_power layout me state after (Up node) runs = (refl, runs)
up_power layout me state after (Down disk) runs = absurd runs
