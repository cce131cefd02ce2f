-- A fresh brick is started over a store that was never opened.
use Rattle.std.proofs.Common.{◌≡◌, ⊎_elim, ℕ, ◌+◌, ◌≤◌, Bool, true, false, not, cond, [], None, Result, Ok, Err, refl, sym, ap, ◌∙◌, subst, arith}
use Rattle.std.specs.Prelude.{OnErr, IfOk}
use Rattle.fab_base.specs.declared.faults.NoMem.{NoMem}
use Rattle.fab_base.specs.declared.identities.BrickId.{BrickId}
use Rattle.fab_base.specs.Layouts.{Layout}
use Rattle.fab_disk.specs.MemDisk.{content_of, IsSound}
use Rattle.fab_disk.specs.declared.mem_disk.MemDisk.{MemDisk}
use Rattle.frame_store.specs.Images.{OpensAs}
use Rattle.frame_store.specs.declared.shapes.Form.TheVariants.{Old, New}
use Rattle.frame_store.specs.Layouts.{formed}
use Rattle.version_log.specs.Versions.{Version}
use Rattle.brick_state.specs.States.{StateOf}
use Rattle.brick_store.specs.Images.{IsFound, IsListed}
use Rattle.brick_store.specs.Openings.{is_whole, opens_appendable}
use Rattle.brick_store.specs.Sizes.{boot_size}
use Rattle.brick_store.proofs.Lengths.{fits_there}
use Rattle.node.specs.Running.{shape_at, ImageShows}
use Rattle.protocol.specs.Nodes as machine
use Rattle.protocol.specs.Worlds.{Found, Before, After, first_brick, has_old_stores}
use Rattle.world.specs.Disks.{ShowsDisk, ListsOpening, first_listed, IsFreshList}
use Rattle.world.specs.Faults.{opened_more, found_of}
use Rattle.world.specs.Shown.{Rests, ShowsPower, IsFreshBrick, WasStarted, IsWorn, WasCutShort, TurnsOn, disk_in, unopened}
use Rattle.world.specs.declared.bricks.Brick.{Brick}
use Rattle.world.specs.declared.bricks.Power.{Power}
use Rattle.world.specs.declared.bricks.Power.TheVariants.{Down}
use Rattle.world.proofs.BrickLemmas.{found_boot, up_power}
use Rattle.world.proofs.DownLemmas.{holds_kept}

-- a fresh disk is at rest
pub rests_fresh : (layout : Layout) (me : BrickId) (disk : MemDisk) → ShowsDisk layout me (unopened layout) disk → IsSound disk
    → Rests layout me (unopened layout) (unopened layout) disk
rests_fresh layout me disk kept sound =
    record { holds = holds_kept layout me (unopened layout) (unopened layout) disk kept; boots = refl; sound = sound }

-- it was never opened
same_found : (layout : Layout) (found : Found) → found_of (unopened layout) (unopened layout) found ≡ unopened layout
same_found layout Before = refl
same_found layout After = refl

never_opened : (layout : Layout) (me : BrickId) (disk : MemDisk) (openings : ℕ) (node : machine.Node) → node ≡ unopened layout
    → ShowsDisk layout me (unopened layout) disk → ImageShows layout me (opened_more openings node) (content_of disk) → openings ≡ 0
never_opened layout me disk openings node is kept shows =
    let st : StateOf Version = kept.has.st in
    let found : IsFound (shape_at layout me) st (content_of disk) = record {
      form = kept.has.stands.form;
      frames = kept.has.stands.frames;
      closed = true;
      opens = kept.has.stands.opens;
      state = kept.has.stands.state;
    } in
    let one : node.boot + openings ≡ st.boot = found_boot layout me (opened_more openings node) st (content_of disk) found shows in
    let two : 0 ≡ st.boot = kept.has.parts.boot in
    let none : node.boot ≡ 0 = ap (λ (n : machine.Node). n.boot) is in
    omega (arith, one, two, none)

first_is : (layout : Layout) → machine.restarted 1 (unopened layout) ≡ machine.first_node layout
unfolding machine.restarted
first_is layout = refl

fresh_started : (layout : Layout) (me : BrickId) (disk : MemDisk) (power : Power) → ShowsDisk layout me (unopened layout) disk
    → WasStarted layout me (unopened layout) (unopened layout) disk None power
    → ShowsPower layout me (machine.first_node layout) (machine.first_node layout) true power
fresh_started layout me disk power kept was =
    let node = found_of (unopened layout) (unopened layout) was.finds.found in
    let same : node ≡ unopened layout = same_found layout was.finds.found in
    let none = never_opened layout me disk was.finds.openings node same kept was.finds.shows in
    subst (λ (state : machine.Node). ShowsPower layout me state (machine.first_node layout) true power)
    (ap (λ (k : ℕ). machine.restarted (k + 1) node) none ∙ ap (λ (n : machine.Node). machine.restarted 1 n) same ∙ first_is layout)
    (up_power layout me (machine.restarted (was.finds.openings + 1) node) (machine.first_node layout) power was.on)

fresh_opens : (layout : Layout) (openings : ℕ) → openings ≡ 0 → machine.may_open (openings + 1) (unopened layout) ≡ true
fresh_opens layout openings none = ap (λ (k : ℕ). machine.may_open (k + 1) (unopened layout)) none

not_worn : (layout : Layout) (me : BrickId) (disk : MemDisk) (power : Power) → ShowsDisk layout me (unopened layout) disk
    → IsWorn layout me (unopened layout) (unopened layout) disk power → ⊥
not_worn layout me disk power kept was =
    let none = never_opened layout me disk was.finds.openings _ (same_found layout was.finds.found) kept was.finds.shows in
    let e : true ≡ false = sym (fresh_opens layout was.finds.openings none) ∙ was.may in
    cc

not_cut : (layout : Layout) (me : BrickId) (disk : MemDisk) (power : Power)
    → WasCutShort layout me (unopened layout) (unopened layout) disk None power → ⊥
not_cut layout me disk power was = let some : 1 ≤ 0 = was.reached.within.some in omega arith

-- an empty list can be appended to
empty_appendable : (layout : Layout) (me : BrickId) → opens_appendable (shape_at layout me) [] true ≡ true
unfolding is_whole
empty_appendable layout me = fits_there (shape_at layout me) 0 boot_size (omega arith)

-- and is as long as one frame, once it was opened
first_opened : (layout : Layout) (me : BrickId) (node : machine.Node) (was disk : MemDisk) → OpensAs (shape_at layout me) [] true (content_of was)
    → ListsOpening layout me node was disk → IsListed (shape_at layout me) first_listed (content_of disk)
first_opened layout me node was disk empty lists =
    subst (λ (n : ℕ). IsListed (shape_at layout me) n (content_of disk)) ((lists.longer New [] true empty).longer (empty_appendable layout me))
    lists.is_listed

-- It runs, and its list is that of a first opening.
pub record RunsFresh (layout : Layout) (me : BrickId) (power : Power) : Type 0 where
  pub shows : ShowsPower layout me (machine.first_node layout) (machine.first_node layout) true power
  pub listed : IsListed (shape_at layout me) first_listed (content_of (disk_in power))

fresh_runs : (layout : Layout) (me : BrickId) (disk : MemDisk) (power : Power) (started : Bool) → ShowsDisk layout me (unopened layout) disk
    → OpensAs (shape_at layout me) [] true (content_of disk) → TurnsOn layout me (unopened layout) (unopened layout) disk None power (Ok started)
    → RunsFresh layout me power
fresh_runs layout me disk power true kept empty was = record {
  shows = fresh_started layout me disk power kept was;
  listed = first_opened layout me _ disk (disk_in power) empty was.lists;
}
fresh_runs layout me disk power false kept empty turns = ⊎_elim
    (λ (was : IsWorn layout me (unopened layout) (unopened layout) disk power). absurd (not_worn layout me disk power kept was))
    (λ (was : WasCutShort layout me (unopened layout) (unopened layout) disk None power). absurd (not_cut layout me disk power was))
    turns

-- ---- of the new format it is up, and of the old one it is down

-- a brick of the first world is up where the stores are of the new format
new_brick : (layout : Layout) → has_old_stores layout ≡ false → machine.first_node layout ≡ first_brick layout
new_brick layout new = ap (λ (old : Bool). record (machine.first_node layout) { boot = cond old 0 1 }) (sym new)

old_brick : (layout : Layout) → has_old_stores layout ≡ true → unopened layout ≡ first_brick layout
old_brick layout old = ap (λ (b : Bool). record (machine.first_node layout) { boot = cond b 0 1 }) (sym old)

fresh_new : (layout : Layout) (me : BrickId) (brick : Brick) → has_old_stores layout ≡ false → RunsFresh layout me brick.power → brick.clock ≡ 0
    → IsFreshBrick layout me.0 brick
fresh_new layout me brick new runs clock = record {
  shows = record {
    power =
        subst (λ (node : machine.Node). ShowsPower layout me node node (not (has_old_stores layout)) brick.power) (new_brick layout new)
        (subst (λ (old : Bool). ShowsPower layout me (machine.first_node layout) (machine.first_node layout) (not old) brick.power) (sym new) runs.shows);
    clock = clock;
  };
  listed = subst (λ (old : Bool). IsFreshList old (shape_at layout me) (content_of (disk_in brick.power))) (sym new) runs.listed;
}

pub fresh_old : (layout : Layout) (me : BrickId) (disk : MemDisk) (brick : Brick) → has_old_stores layout ≡ true
    → ShowsDisk layout me (unopened layout) disk → IsSound disk → OpensAs (formed Old (shape_at layout me)) [] true (content_of disk)
    → brick.power ≡ Down disk → brick.clock ≡ 0 → IsFreshBrick layout me.0 brick
fresh_old layout me disk brick old kept sound empty power clock = record {
  shows = record {
    power =
        subst (λ (node : machine.Node). ShowsPower layout me node node (not (has_old_stores layout)) brick.power) (old_brick layout old)
        (subst (λ (b : Bool). ShowsPower layout me (unopened layout) (unopened layout) (not b) brick.power) (sym old)
        (subst (λ (p : Power). ShowsPower layout me (unopened layout) (unopened layout) false p) (sym power)
        (refl, rests_fresh layout me disk kept sound)));
    clock = clock;
  };
  listed =
      subst (λ (b : Bool). IsFreshList b (shape_at layout me) (content_of (disk_in brick.power))) (sym old)
      (subst (λ (p : Power). OpensAs (formed Old (shape_at layout me)) [] true (content_of (disk_in p))) (sym power) empty);
}

-- and is made with its clock at 0 where it started
pub fresh_made : (layout : Layout) (me : BrickId) (disk : MemDisk) (power : Power) (started : Result Bool NoMem) (made : Result Brick NoMem)
    → has_old_stores layout ≡ false → ShowsDisk layout me (unopened layout) disk → OpensAs (shape_at layout me) [] true (content_of disk)
    → TurnsOn layout me (unopened layout) (unopened layout) disk None power started
    → IfOk made (λ brick. (brick.power ≡ power) × (brick.clock ≡ 0) × OnErr started ⊥)
    → IfOk made (IsFreshBrick layout me.0)
fresh_made layout me disk power (Ok started) (Ok brick) new kept empty turns (same, clock, done) =
    let runs : RunsFresh layout me brick.power = subst (RunsFresh layout me) (sym same) (fresh_runs layout me disk power started kept empty turns) in
    fresh_new layout me brick new runs clock
fresh_made layout me disk power (Err refused) (Ok brick) new kept empty turns (same, clock, done) = absurd done
fresh_made layout me disk power started (Err refused) new kept empty turns made = made
