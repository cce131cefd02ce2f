-- What the bricks show, after a step of one of them.
use Rattle.std.proofs.Common.{◌≡◌, ◌≢◌, ℕ, ◌+◌, ◌<◌, ◌≤◌, ◌&&◌, nat_lt, Bool, true, false, ⊎_elim, List, [], ◌∷◌, ◌++◌, length, set, get_or, map, Option, Some, None, refl, sym, ap, ◌∙◌, subst, arith, length-append}
use Rattle.std.specs.Prelude.{slice_get, option_and_then, unwrap_or, Result, Err, IfSome}
use Rattle.std.specs.Option.{option_map}
use Rattle.std.proofs.lemmas.Bool.Decides.{nat_tests}
use Rattle.std.proofs.lemmas.List.{length-set}
use Rattle.std.proofs.lemmas.Bool.{cases_lt}
use Rattle.std.proofs.lemmas.Option.{same_Some, slice_get_read, slice_get_within, slice_get_past, slice_get-map}
use Rattle.fab_base.specs.declared.faults.NoMem.{NoMem}
use Rattle.fab_base.specs.declared.identities.BrickId.{BrickId}
use Rattle.fab_disk.specs.MemDisk.{IsSound, content_of}
use Rattle.fab_disk.specs.declared.mem_disk.MemDisk.{MemDisk}
use Rattle.messages.specs.declared.packets.Packet.{Packet}
use Rattle.messages.specs.declared.packets.Message.{Message}
use Rattle.coord_phase.specs.Messages.{packets_from}
use Rattle.brick_store.specs.Bricks.{Brick as Store}
use Rattle.node.specs.Outcomes.{Outcome}
use Rattle.stripe_code.specs.Codes.{coding}
use Rattle.node.specs.Running.{Running, state_of, shape_at, IsSameBrick}
use Rattle.protocol.specs.Worlds.{World, first_world, has_old_stores, is_up}
use Rattle.fab_base.specs.Layouts.{Layout}
use Rattle.protocol.specs.Nodes as machine
use Rattle.world.specs.Runs.{brick_of}
use Rattle.world.specs.Disks.{AreFreshDisks, IsFreshList}
use Rattle.world.specs.BrickSteps.{ChangesBrick, RunsOn, DoesHandle, Stops}
use Rattle.world.specs.Shown.{IsRunning, ShowsPower, ShowsBrick, ShowsBricks, IsFreshBrick, Takes, IsNodeOf, IsUpWith, Runs, IsUp, FindsUp, AreBricksOf, AreNodesOf, disk_in, disks_of, node_in, running_at, clock_at}
use Rattle.lines.specs.declared.forms.Fault.{Fault}
use Rattle.world.proofs.DiskLemmas.{contents_changed, disks_kept}
use Rattle.world.specs.declared.bricks.Brick.{Brick}
use Rattle.world.specs.declared.bricks.Power.{Power}
use Rattle.world.specs.declared.bricks.Power.TheVariants.{Up, Down}
use Rattle.world.proofs.BrickLemmas.{kept_same, still_runs, runs_own, as_shown, up_power}
use Rattle.world.proofs.DownLemmas.{rests_off}
use Rattle.world.proofs.Places.{each_value, grown, replaced, slice_get_not_none, value_here, value_elsewhere}

-- one brick changed, and no other
pub shows_after : (layout : Layout) (bricks : List Brick) (b : ℕ) (brick : Brick) (w v : World) → ShowsBrick layout b brick (v.nodes b) (v.after b)
    (v.up b) (v.clocks b)
    → ((i : ℕ) → i ≢ b → (v.nodes i ≡ w.nodes i) × (v.after i ≡ w.after i) × (v.up i ≡ w.up i) × (v.clocks i ≡ w.clocks i))
    → ShowsBricks layout bricks w.nodes w.after w.up w.clocks → ShowsBricks layout (set bricks b brick) v.nodes v.after v.up v.clocks
shows_after layout bricks b brick w v is stay shows = record {
  count = length-set bricks b brick ∙ shows.count;
  each = λ i x at.
      ⊎_elim
      (λ (here : (i ≡ b) × (brick ≡ x)).
      subst (λ (y : Brick). ShowsBrick layout i y (v.nodes i) (v.after i) (v.up i) (v.clocks i)) here.1
      (subst (λ (k : ℕ). ShowsBrick layout k brick (v.nodes k) (v.after k) (v.up k) (v.clocks k)) (sym here.0) is))
      (λ (there : (i ≢ b) × (slice_get bricks i ≡ Some x)).
      let kept = stay i there.0 in
      subst (λ (node : machine.Node). ShowsBrick layout i x node (v.after i) (v.up i) (v.clocks i)) (sym kept.0)
      (subst (λ (node : machine.Node). ShowsBrick layout i x (w.nodes i) node (v.up i) (v.clocks i)) (sym kept.1)
      (subst (λ (up : Bool). ShowsBrick layout i x (w.nodes i) (w.after i) up (v.clocks i)) (sym kept.2)
      (subst (λ (time : ℕ). ShowsBrick layout i x (w.nodes i) (w.after i) (w.up i) time) (sym kept.3) (shows.each i x there.1)))))
      (replaced bricks b brick i x at);
}

-- What the bricks show where one may have changed.
module _ {layout : Layout} {old new : List Brick} {number : BrickId} {Holds : Brick → Power → Type 0} (w : World)
    (shows : ShowsBricks layout old w.nodes w.after w.up w.clocks) (changes : ChangesBrick old new number Holds) where
  pub shown_there : ShowsBrick layout number.0 changes.brick (w.nodes number.0) (w.after number.0) (w.up number.0) (w.clocks number.0)
  shown_there = shows.each number.0 changes.brick changes.at

  -- it is another now
  pub shows_now : (v : World) → ShowsPower layout number (v.nodes number.0) (v.after number.0) (v.up number.0) changes.power → w.clocks number.0 ≡ v.clocks number.0
      → ((i : ℕ) → i ≢ number.0 → (v.nodes i ≡ w.nodes i) × (v.after i ≡ w.after i) × (v.up i ≡ w.up i) × (v.clocks i ≡ w.clocks i))
      → ShowsBricks layout new v.nodes v.after v.up v.clocks
  shows_now v power clock stay =
      subst (λ (bricks : List Brick). ShowsBricks layout bricks v.nodes v.after v.up v.clocks) (sym changes.now)
      (shows_after layout old number.0 (record changes.brick { power = changes.power }) w v (record { power = power; clock = shown_there.clock ∙ clock }) stay shows)

  -- it took a step
  pub shows_step : (next : machine.Node) → ShowsPower layout number next (w.after number.0) (w.up number.0) changes.power
      → ShowsBricks layout new (machine.put w.nodes number.0 next) w.after w.up w.clocks
  shows_step next runs =
      shows_now (record w { nodes = machine.put w.nodes number.0 next })
      (subst (λ (state : machine.Node). ShowsPower layout number state (w.after number.0) (w.up number.0) changes.power)
      (sym (value_here w.nodes number.0 number.0 next refl)) runs)
      refl (λ i other. (value_elsewhere w.nodes number.0 i next other, refl, refl, refl))

  -- it is down now
  pub shows_down : (next other : machine.Node) → ShowsPower layout number next other false changes.power
      → ShowsBricks layout new (machine.put w.nodes number.0 next) (machine.put w.after number.0 other) (machine.put w.up number.0 false) w.clocks
  shows_down next other is =
      let b : ℕ = number.0 in
      shows_now (record w { nodes = machine.put w.nodes b next; after = machine.put w.after b other; up = machine.put w.up b false })
      (subst (λ (state : machine.Node). ShowsPower layout number state (machine.put w.after b other b) (machine.put w.up b false b) changes.power)
      (sym (value_here w.nodes b b next refl))
      (subst (λ (state : machine.Node). ShowsPower layout number next state (machine.put w.up b false b) changes.power)
      (sym (value_here w.after b b other refl))
      (subst (λ (on : Bool). ShowsPower layout number next other on changes.power) (sym (value_here w.up b b false refl)) is)))
      refl
      (λ i elsewhere. (value_elsewhere w.nodes b i next elsewhere, value_elsewhere w.after b i other elsewhere, value_elsewhere w.up b i false elsewhere, refl))

  -- it is as it was
  pub shows_kept : ShowsPower layout number (w.nodes number.0) (w.after number.0) (w.up number.0) changes.power → ShowsBricks layout new w.nodes w.after w.up w.clocks
  shows_kept power = shows_now w power refl (λ i other. (refl, refl, refl, refl))

-- the brick with this power
abbrev pub with_power : Brick → Power → Brick
with_power brick power = record { power = power; clock = brick.clock }

-- a brick's clock was set
pub shows_clock : (layout : Layout) (bricks : List Brick) (b : ℕ) (old : Brick) (time : ℕ) (w : World) → b < length bricks → old ≡ get_or bricks b old
    → ShowsBricks layout bricks w.nodes w.after w.up w.clocks
    → ShowsBricks layout (set bricks b (record { power = old.power; clock = time })) w.nodes w.after w.up (machine.put w.clocks b time)
shows_clock layout bricks b old time w within is shows =
    let was = shows.each b old (slice_get_read bricks (length bricks) b old refl within is) in
    shows_after layout bricks b (record { power = old.power; clock = time }) w (record w { clocks = machine.put w.clocks b time })
    (record { power = was.power; clock = sym (value_here w.clocks b b time refl) })
    (λ i other. (refl, refl, refl, value_elsewhere w.clocks b i time other)) shows

-- a brick that is as it was, whatever it is said to be
pub shows_unput : (layout : Layout) (bricks : List Brick) (b : ℕ) (w : World) (next : machine.Node) → next ≡ w.nodes b
    → ShowsBricks layout bricks (machine.put w.nodes b next) w.after w.up w.clocks → ShowsBricks layout bricks w.nodes w.after w.up w.clocks
shows_unput layout bricks b w next same shows = record {
  count = shows.count;
  each = λ i brick at.
      subst (λ (node : machine.Node). ShowsBrick layout i brick node (w.after i) (w.up i) (w.clocks i))
      (each_value (λ j (x : machine.Node). x ≡ w.nodes j) w.nodes b next same (λ j other. refl) i) (shows.each i brick at);
}

-- What a brick that runs on over its store makes of the bricks.
pub record StepsOn (layout : Layout) (new : List Brick) (w : World) (number : BrickId) (Holds : Layout → BrickId → ℕ → machine.Node → machine.Node → Type 0) : Type 0 where
  pub next : machine.Node
  pub holds : Holds layout number (w.clocks number.0) (w.nodes number.0) next
  pub bricks : ShowsBricks layout new (machine.put w.nodes number.0 next) w.after w.up w.clocks

pub shows_on : {layout : Layout} {old new : List Brick} (w : World) {number : BrickId} (Holds : Layout → BrickId → ℕ → machine.Node → machine.Node → Type 0)
    → ShowsBricks layout old w.nodes w.after w.up w.clocks → ChangesBrick old new number (RunsOn Holds) → StepsOn layout new w number Holds
shows_on {layout} {old} {new} w {number} Holds shows changes = by changes.brick.power changes.power there.power changes.holds refl
  where
    there : ShowsBrick layout number.0 changes.brick (w.nodes number.0) (w.after number.0) (w.up number.0) (w.clocks number.0)
    there = shown_there w shows changes

    by : (was now : Power) → ShowsPower layout number (w.nodes number.0) (w.after number.0) (w.up number.0) was
        → IsUpWith was (λ node. IsUpWith now (λ next. IsSameBrick node next × (next.brick ≡ node.brick)
        × Holds node.layout node.me changes.brick.clock (state_of node) (state_of next)))
        → changes.power ≡ now → StepsOn layout new w number Holds
    by (Up node) (Up next) shown holds is =
        let (same, store, held) = holds in
        let runs = shown.1 in
        record {
          next = state_of next;
          holds = subst (λ (t : ℕ). Holds layout number t (w.nodes number.0) (state_of next)) there.clock
              (as_shown layout number (w.nodes number.0) node runs (λ l me s. Holds l me changes.brick.clock s (state_of next)) held);
          bricks = shows_step w shows changes (state_of next)
              (subst (λ (power : Power). ShowsPower layout number (state_of next) (w.after number.0) (w.up number.0) power) (sym is) (
                shown.0,
                still_runs layout number (w.nodes number.0) (state_of next) node next runs same refl
                    (kept_same layout number (w.nodes number.0) (state_of next) node next runs same.layout store refl)
                    (ap (λ (x : Store MemDisk). x.halted) store ∙ runs.runs) (subst (λ (x : Store MemDisk). IsSound x.disk) (sym store) runs.sound),
              ));
        }
    by (Up node) (Down disk) shown holds is = absurd holds
    by (Down disk) now shown holds is = absurd holds

-- it has the disks that there were
pub disks_on : {old new : List Brick} {number : BrickId} (Holds : Layout → BrickId → ℕ → machine.Node → machine.Node → Type 0)
    → ChangesBrick old new number (RunsOn Holds) → disks_of new ≡ disks_of old
disks_on Holds changes = disks_kept changes (by changes.brick.power changes.power changes.holds)
  where
    by : (was now : Power) → IsUpWith was (λ node. IsUpWith now (λ next. IsSameBrick node next × (next.brick ≡ node.brick)
        × Holds node.layout node.me changes.brick.clock (state_of node) (state_of next))) → disk_in now ≡ disk_in was
    by (Up node) (Up next) holds = ap (λ (x : Store MemDisk). x.disk) holds.1
    by (Up node) (Down disk) holds = absurd holds
    by (Down disk) now holds = absurd holds

-- a brick that was asked, over what it was
pub asked : (bricks : List Brick) (number : BrickId) (old : Brick) (node next : Running MemDisk) (Holds : Layout → BrickId → ℕ → machine.Node → machine.Node → Type 0)
    → number.0 < length bricks → old ≡ get_or bricks number.0 old → old.power ≡ Up node → IsSameBrick node next → next.brick ≡ node.brick
    → Holds node.layout node.me old.clock (state_of node) (state_of next)
    → ChangesBrick bricks (set bricks number.0 (with_power old (Up next))) number (RunsOn Holds)
asked bricks number old node next Holds within is on same store held = record {
  brick = old;
  at = slice_get_read bricks (length bricks) number.0 old refl within is;
  power = Up next;
  now = refl;
  holds = subst (λ (power : Power). IsUpWith power (λ node. IsSameBrick node next × (next.brick ≡ node.brick)
      × Holds node.layout node.me old.clock (state_of node) (state_of next))) (sym on) (same, store, held);
}

-- a brick that was handed a message
pub handed : (bricks : List Brick) (number : BrickId) (old : Brick) (node : Running MemDisk) (power : Power) (packet : Packet) (fault : Option Fault)
    (result : Result (Option Outcome) NoMem) → number.0 < length bricks → old ≡ get_or bricks number.0 old → old.power ≡ Up node
    → Takes node.layout node.me (state_of node) old.clock packet node.brick.disk fault power result
    → ChangesBrick bricks (set bricks number.0 (with_power old power)) number (DoesHandle packet fault result)
handed bricks number old node power packet fault result within is on takes = record {
  brick = old;
  at = slice_get_read bricks (length bricks) number.0 old refl within is;
  power = power;
  now = refl;
  holds = subst (λ (was : Power). IsUpWith was (λ x. Takes x.layout x.me (state_of x) old.clock packet x.brick.disk fault power result)) (sym on) takes;
}

-- it takes it as the machine's does
pub takes_there : {layout : Layout} {old new : List Brick} {number : BrickId} (packet : Packet) (fault : Option Fault) (result : Result (Option Outcome) NoMem) (w : World)
    (shows : ShowsBricks layout old w.nodes w.after w.up w.clocks) (changes : ChangesBrick old new number (DoesHandle packet fault result))
    → Takes layout number (w.nodes number.0) (w.clocks number.0) packet (disk_in changes.brick.power) fault changes.power result
takes_there {layout} {old} {new} {number} packet fault result w shows changes = by changes.brick.power there.power changes.holds
  where
    there : ShowsBrick layout number.0 changes.brick (w.nodes number.0) (w.after number.0) (w.up number.0) (w.clocks number.0)
    there = shown_there w shows changes

    by : (was : Power) → ShowsPower layout number (w.nodes number.0) (w.after number.0) (w.up number.0) was
        → IsUpWith was (λ node. Takes node.layout node.me (state_of node) changes.brick.clock packet node.brick.disk fault changes.power result)
        → Takes layout number (w.nodes number.0) (w.clocks number.0) packet (disk_in was) fault changes.power result
    by (Up node) shown takes =
        subst (λ (time : ℕ). Takes layout number (w.nodes number.0) time packet node.brick.disk fault changes.power result) there.clock
        (as_shown layout number (w.nodes number.0) node shown.1
        (λ l me s. Takes l me s changes.brick.clock packet node.brick.disk fault changes.power result) takes)
    by (Down disk) shown takes = absurd takes

-- where memory was refused, the bricks show what they showed
pub handled_kept : {layout : Layout} {old new : List Brick} {number : BrickId} (packet : Packet) (fault : Option Fault) (refused : NoMem) (w : World)
    → w.up number.0 ≡ true → ShowsBricks layout old w.nodes w.after w.up w.clocks → ChangesBrick old new number (DoesHandle packet fault (Err refused))
    → ShowsBricks layout new w.nodes w.after w.up w.clocks
handled_kept {layout} {old} {new} {number} packet fault refused w up shows changes =
    shows_kept w shows changes
    (subst (λ (on : Bool). ShowsPower layout number (w.nodes number.0) (w.after number.0) on changes.power) (sym up)
    (up_power layout number (w.nodes number.0) (w.after number.0) changes.power (takes_there packet fault (Err refused) w shows changes).0))

-- and a read of each disk gives what it gave
pub handled_contents : {old new : List Brick} {number : BrickId} (packet : Packet) (fault : Option Fault) (refused : NoMem)
    → ChangesBrick old new number (DoesHandle packet fault (Err refused)) → map content_of (disks_of new) ≡ map content_of (disks_of old)
handled_contents packet fault refused changes = contents_changed changes (by changes.brick.power changes.holds)
  where
    by : (was : Power)
        → IsUpWith was (λ node. IsUpWith changes.power (IsRunning node.layout node.me (state_of node))
        × (content_of (disk_in changes.power) ≡ content_of node.brick.disk))
        → content_of (disk_in changes.power) ≡ content_of (disk_in was)
    by (Up node) holds = holds.1
    by (Down disk) holds = absurd holds

-- bricks of the first world
pub record AreFresh (layout : Layout) (bricks : List Brick) (n : ℕ) : Type 0 where
  pub count : length bricks ≡ n
  pub each : (i : ℕ) (brick : Brick) → slice_get bricks i ≡ Some brick → IsFreshBrick layout i brick

-- one more
pub fresh_more : (layout : Layout) (bricks : List Brick) (n : ℕ) (brick : Brick) → AreFresh layout bricks n
    → IsFreshBrick layout n brick → AreFresh layout (bricks ++ brick ∷ []) (n + 1)
fresh_more layout bricks n brick fresh one = record {
  count = length-append bricks _ ∙ ap (λ k. k + 1) fresh.count;
  each = λ i x is.
      ⊎_elim
      (λ (old : slice_get bricks i ≡ Some x). fresh.each i x old)
      (λ (new : (i ≡ length bricks) × (brick ≡ x)).
      subst (IsFreshBrick layout i) new.1 (subst (λ (k : ℕ). IsFreshBrick layout k brick) (sym (new.0 ∙ fresh.count)) one))
      (grown bricks brick i x is);
}

-- fresh bricks are those of the first world
pub shows_fresh : (layout : Layout) (bricks : List Brick) (n : ℕ) → n ≡ layout.bricks → AreFresh layout bricks n
    → ShowsBricks layout bricks (first_world layout).nodes (first_world layout).after (first_world layout).up (first_world layout).clocks
shows_fresh layout bricks n all fresh = record { count = fresh.count ∙ all; each = λ i brick at. (fresh.each i brick at).shows }

-- and the lists of their disks are as long as they are to be
pub disks_fresh : (layout : Layout) (bricks : List Brick) (n : ℕ) → AreFresh layout bricks n → AreFreshDisks layout (disks_of bricks)
disks_fresh layout bricks n fresh i disk at =
    by (slice_get bricks i) refl (sym (slice_get-map (λ (brick : Brick). disk_in brick.power) bricks i) ∙ at)
  where
    by : (found : Option Brick) → slice_get bricks i ≡ found → option_map (λ (brick : Brick). disk_in brick.power) found ≡ Some disk
        → IsFreshList (has_old_stores layout) (shape_at layout (brick_of i)) (content_of disk)
    by None here is = absurd (let e : None ≡ Some disk = is in cc)
    by (Some brick) here is =
        subst (λ (d : MemDisk). IsFreshList (has_old_stores layout) (shape_at layout (brick_of i)) (content_of d))
        (same_Some (disk_in brick.power) disk is) (fresh.each i brick here).listed

-- each brick that is shown is one of the layout
pub bricks_there : {layout : Layout} {bricks : List Brick} {nodes after : ℕ → machine.Node} {up : ℕ → Bool} {clocks : ℕ → ℕ}
    → ShowsBricks layout bricks nodes after up clocks → AreBricksOf layout bricks
bricks_there {nodes = nodes} {after = after} {up = up} shows = record {
  count = shows.count;
  each = λ i brick at. record { state = nodes i; after = after i; up = up i; shows = (shows.each i brick at).power };
}

-- the brick of a number is one of the layout
pub node_at : (layout : Layout) (bricks : List Brick) (b : ℕ) (brick : Brick) → b < length bricks → brick ≡ get_or bricks b brick
    → AreNodesOf layout bricks
    → IsNodeOf layout b brick.power
node_at layout bricks b brick within is of = of b brick (slice_get_read bricks (length bricks) b brick refl within is)

-- the brick of a number that is up is on
pub on_at : (bricks : List Brick) (number : BrickId) (brick : Brick) (power : Power) → brick ≡ get_or bricks number.0 brick
    → brick.power ≡ power → IsUp bricks number → IsUpWith power Runs
on_at bricks number brick power is same up =
    subst (λ (p : Power). IsUpWith p Runs) same (up.on brick (slice_get_read bricks (length bricks) number.0 brick refl up.within is))

-- a brick that runs is up, in any layout that it shows
up_within : (layout : Layout) (bricks : List Brick) (w : World) (b : ℕ) → b < length bricks
    → ShowsBricks layout bricks w.nodes w.after w.up w.clocks → nat_lt b layout.bricks ≡ true
up_within layout bricks w b within shows = (let less : b < layout.bricks = omega (arith, shows.count) in grind (arith, nat_tests))

-- what a brick runs
pub running_up : (bricks : List Brick) (b : ℕ) (brick : Brick) (node : Running MemDisk) → b < length bricks → brick ≡ get_or bricks b brick
    → brick.power ≡ Up node → running_at bricks b ≡ Some node
running_up bricks b brick node within is on =
    ap (option_and_then (λ (x : Brick). node_in x.power)) (slice_get_read bricks (length bricks) b brick refl within is) ∙ ap node_in on

pub running_down : (bricks : List Brick) (b : ℕ) (brick : Brick) (disk : MemDisk) → b < length bricks → brick ≡ get_or bricks b brick
    → brick.power ≡ Down disk → running_at bricks b ≡ None
running_down bricks b brick disk within is off =
    ap (option_and_then (λ (x : Brick). node_in x.power)) (slice_get_read bricks (length bricks) b brick refl within is) ∙ ap node_in off

-- what runs as a brick is the machine's
pub running_shown : (layout : Layout) (bricks : List Brick) (w : World) (b : ℕ) (node : Running MemDisk)
    → ShowsBricks layout bricks w.nodes w.after w.up w.clocks → running_at bricks b ≡ Some node
    → (is_up layout w (brick_of b) ≡ true) × IsRunning layout (brick_of b) (w.nodes b) node × (clock_at bricks b ≡ w.clocks b)
running_shown layout bricks w b node shows = by_brick (slice_get bricks b) refl
  where
    by_power : (power : Power) → ShowsPower layout (brick_of b) (w.nodes b) (w.after b) (w.up b) power → node_in power ≡ Some node
        → (w.up b ≡ true) × IsRunning layout (brick_of b) (w.nodes b) node
    by_power (Up one) shown is = (shown.0, subst (IsRunning layout (brick_of b) (w.nodes b)) (same_Some one node is) shown.1)
    by_power (Down disk) shown is = absurd (let never : None ≡ Some node = is in cc)

    by_brick : (found : Option Brick) → slice_get bricks b ≡ found → option_and_then (λ (x : Brick). node_in x.power) found ≡ Some node
        → (is_up layout w (brick_of b) ≡ true) × IsRunning layout (brick_of b) (w.nodes b) node
        × (unwrap_or (option_map (λ (x : Brick). x.clock) found) 0 ≡ w.clocks b)
    by_brick None at is = absurd (let never : None ≡ Some node = is in cc)
    by_brick (Some brick) at is =
        let its = shows.each b brick at in
        let runs = by_power brick.power its.power is in (
          ap (λ (x : Bool). x && w.up b) (up_within layout bricks w b (slice_get_within bricks b brick at) shows) ∙ runs.0,
          runs.1,
          its.clock,
        )

-- where nothing runs the machine's brick is not up
pub running_not : (layout : Layout) (bricks : List Brick) (w : World) (b : ℕ) → ShowsBricks layout bricks w.nodes w.after w.up w.clocks
    → running_at bricks b ≡ None → is_up layout w (brick_of b) ≡ false
running_not layout bricks w b shows = by_brick (slice_get bricks b) refl
  where
    by_power : (power : Power) → ShowsPower layout (brick_of b) (w.nodes b) (w.after b) (w.up b) power → node_in power ≡ None → w.up b ≡ false
    by_power (Up node) shown is = absurd (let never : Some node ≡ None = is in cc)
    by_power (Down disk) shown is = shown.0

    by_brick : (found : Option Brick) → slice_get bricks b ≡ found → option_and_then (λ (x : Brick). node_in x.power) found ≡ None
        → is_up layout w (brick_of b) ≡ false
    by_brick None past is = ⊎_elim
        (λ (within : b < length bricks). absurd (slice_get_not_none bricks b within past))
        (λ (over : length bricks ≤ b).
        ap (λ (x : Bool). x && w.up b) (let e : nat_lt b layout.bricks ≡ false = (let count = shows.count in grind (arith, nat_tests)) in e)) (cases_lt b (length bricks))
    by_brick (Some brick) at is =
        ap (λ (x : Bool). x && w.up b) (up_within layout bricks w b (slice_get_within bricks b brick at) shows)
        ∙ by_power brick.power (shows.each b brick at).power is

-- no brick runs of a number past the last
pub running_past : (bricks : List Brick) (b : ℕ) → length bricks ≤ b → running_at bricks b ≡ None
running_past bricks b past = ap (option_and_then (λ (x : Brick). node_in x.power)) (slice_get_past bricks b past)

-- a brick that was found up
pub found_up : (layout : Layout) (bricks : List Brick) (b : ℕ) (brick : Brick) (node : Running MemDisk) → b < length bricks
    → brick ≡ get_or bricks b brick → brick.power ≡ Up node → AreNodesOf layout bricks → FindsUp bricks b (Some (brick_of b))
found_up layout bricks b brick node within is on of =
    let at : slice_get bricks b ≡ Some brick = slice_get_read bricks (length bricks) b brick refl within is in
    let one = node_at layout bricks b brick within is of in
    let runs = (subst (λ (power : Power). ShowsPower layout (brick_of b) one.state one.after one.up power) on one.shows).1 in (
      refl,
      record {
        within = within;
        on = λ x here. subst (λ (y : Brick). IsUpWith y.power Runs) (same_Some brick x (sym at ∙ here))
            (subst (λ (p : Power). IsUpWith p Runs) (sym on) (runs_own layout (brick_of b) one.state node runs));
      },
    )

-- the machine's is up
pub up_there : (layout : Layout) (bricks : List Brick) (w : World) (brick : BrickId) → IsUp bricks brick
    → ShowsBricks layout bricks w.nodes w.after w.up w.clocks → is_up layout w brick ≡ true
up_there layout bricks w brick up shows = by_brick (slice_get bricks brick.0) refl
  where
    by_power : (power : Power) → IsUpWith power Runs → ShowsPower layout brick (w.nodes brick.0) (w.after brick.0) (w.up brick.0) power → w.up brick.0 ≡ true
    by_power (Up node) on shown = shown.0
    by_power (Down disk) on shown = absurd on

    by_brick : (found : Option Brick) → slice_get bricks brick.0 ≡ found → is_up layout w brick ≡ true
    by_brick None at = absurd (slice_get_not_none bricks brick.0 up.within at)
    by_brick (Some x) at =
        ap (λ (b : Bool). b && w.up brick.0) (up_within layout bricks w brick.0 up.within shows)
        ∙ by_power x.power (up.on x at) (shows.each brick.0 x at).power

-- so is one that was found up
pub up_at : (layout : Layout) (bricks : List Brick) (b : ℕ) (found : BrickId) → FindsUp bricks b (Some found)
    → (w : World) → ShowsBricks layout bricks w.nodes w.after w.up w.clocks → is_up layout w (brick_of b) ≡ true
up_at layout bricks b found is w shows = subst (λ (brick : BrickId). is_up layout w brick ≡ true) is.0 (up_there layout bricks w found is.1 shows)

-- a brick stopped
pub shows_stopped : {layout : Layout} {old new : List Brick} {number : BrickId} (w : World) → w.up number.0 ≡ true
    → ShowsBricks layout old w.nodes w.after w.up w.clocks → ChangesBrick old new number Stops
    → ShowsBricks layout new (machine.put w.nodes number.0 (machine.stopped (w.nodes number.0)))
    (machine.put w.after number.0 (machine.stopped (w.nodes number.0))) (machine.put w.up number.0 false) w.clocks
shows_stopped {layout} {old} {new} {number} w up shows changes =
    shows_down w shows changes (machine.stopped (w.nodes number.0)) (machine.stopped (w.nodes number.0))
    (subst (λ (power : Power). ShowsPower layout number (machine.stopped (w.nodes number.0)) (machine.stopped (w.nodes number.0)) false power)
    (sym changes.holds) (by changes.brick.power (shown_there w shows changes).power))
  where
    by : (power : Power) → ShowsPower layout number (w.nodes number.0) (w.after number.0) (w.up number.0) power
        → ShowsPower layout number (machine.stopped (w.nodes number.0)) (machine.stopped (w.nodes number.0)) false (Down (disk_in power))
    by (Up node) shown = (refl, rests_off layout number (w.nodes number.0) node node.brick.disk shown.1 refl)
    by (Down disk) shown = absurd (let never : true ≡ false = sym up ∙ shown.0 in cc)

-- what a brick sends at a tick is what the machine's sends
pub ticks_as : (layout : Layout) (bricks : List Brick) (w : World) (brick : BrickId) (messages : List (BrickId × Message)) → IsUp bricks brick
    → IfSome (running_at bricks brick.0) (λ node. packets_from node.me messages ≡ machine.ticked (coding node.layout) node.me (state_of node))
    → ShowsBricks layout bricks w.nodes w.after w.up w.clocks → packets_from brick messages ≡ machine.ticked (coding layout) brick (w.nodes brick.0)
ticks_as layout bricks w brick messages up sent shows = by_node (running_at bricks brick.0) refl sent
  where
    by_node : (found : Option (Running MemDisk)) → running_at bricks brick.0 ≡ found
        → IfSome found (λ node. packets_from node.me messages ≡ machine.ticked (coding node.layout) node.me (state_of node))
        → packets_from brick messages ≡ machine.ticked (coding layout) brick (w.nodes brick.0)
    by_node None none is =
        absurd (let never : true ≡ false = sym (up_there layout bricks w brick up shows) ∙ running_not layout bricks w brick.0 shows none in cc)
    by_node (Some node) on is =
        let runs = (running_shown layout bricks w brick.0 node shows on).1 in
        ap (λ (x : BrickId). packets_from x messages) (sym runs.me_is) ∙ is
        ∙ ap (λ (l : Layout). machine.ticked (coding l) node.me (state_of node)) runs.layout_is
        ∙ ap (λ (x : BrickId). machine.ticked (coding layout) x (state_of node)) runs.me_is
        ∙ ap (λ (x : machine.Node). machine.ticked (coding layout) brick x) runs.state_is

-- how often its store was opened is what the machine's says
pub boots_as : (layout : Layout) (bricks : List Brick) (w : World) (brick : BrickId) (boot : ℕ) → IsUp bricks brick
    → IfSome (running_at bricks brick.0) (λ node. boot ≡ (state_of node).boot)
    → ShowsBricks layout bricks w.nodes w.after w.up w.clocks → boot ≡ (w.nodes brick.0).boot
boots_as layout bricks w brick boot up says shows = by_node (running_at bricks brick.0) refl says
  where
    by_node : (found : Option (Running MemDisk)) → running_at bricks brick.0 ≡ found → IfSome found (λ node. boot ≡ (state_of node).boot)
        → boot ≡ (w.nodes brick.0).boot
    by_node None none is =
        absurd (let never : true ≡ false = sym (up_there layout bricks w brick up shows) ∙ running_not layout bricks w brick.0 shows none in cc)
    by_node (Some node) on is = is ∙ ap (λ (x : machine.Node). x.boot) (running_shown layout bricks w brick.0 node shows on).1.state_is
