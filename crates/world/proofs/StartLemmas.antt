-- What the bricks show after one of them was to start.
use Rattle.std.proofs.Common.{◌≡◌, ◌≢◌, inl, inr, ⊎_elim, ℕ, suc, ◌+◌, ◌<◌, ◌≤◌, ◌&&◌, Bool, true, false, not, cond, List, [], ◌∷◌, length, set, get_or, map, Option, Some, None, Result, Ok, Err, refl, sym, ap, ◌∙◌, subst, arith}
use Rattle.std.proofs.lemmas.Bool.Decides.{nat_tests}
use Rattle.std.proofs.lemmas.Option.{slice_get_read, slice_get_within}
use Rattle.fab_base.specs.declared.faults.NoMem.{NoMem}
use Rattle.fab_base.specs.declared.identities.BrickId.{BrickId}
use Rattle.fab_base.specs.Layouts.{Layout}
use Rattle.fab_disk.specs.MemDisk.{content_of}
use Rattle.fab_disk.specs.declared.mem_disk.MemDisk.{MemDisk}
use Rattle.frame_store.specs.declared.shapes.Form.TheVariants.{New}
use Rattle.lines.specs.declared.forms.Fault.{Fault}
use Rattle.stripe_code.specs.Codes.{coding}
use Rattle.protocol.specs.Nodes as machine
use Rattle.protocol.specs.Worlds.{World, Event, Starts, Stops, Found, Before, After, is_brick, is_up, may_start, world_found, world_started, happens}
use Rattle.world.specs.EventCalls.{is_down}
use Rattle.world.specs.Faults.{IsLeftOpening, StartsDown, Finds, found_of}
use Rattle.world.specs.Disks.{KeepsOthers, ListsOpening}
use Rattle.world.specs.BrickSteps.{ChangesBrick, DoesStart, StartsFrom}
use Rattle.world.specs.Shown.{AreNodesOf, IsNodeOf, ShowsPower, ShowsBricks, StartsAs, TurnsOn, WasStarted, IsWorn, WasCutShort, Tells, disk_in, disks_of}
use Rattle.world.specs.Texts.{marks_if}
use Rattle.world.specs.declared.bricks.Brick.{Brick}
use Rattle.world.specs.declared.bricks.Power.{Power}
use Rattle.world.specs.declared.bricks.Power.TheVariants.{Up, Down}
use Rattle.world.specs.declared.histories.History.{History}
use Rattle.world.proofs.Places.{value_here, value_elsewhere}
use Rattle.world.proofs.BrickLemmas.{up_power}
use Rattle.world.proofs.DiskLemmas.{contents_changed, disk_was, disks_kept, of_disk, of_now, one_kept, others_changed, same_kept, unwritten_changed}
use Rattle.world.proofs.HistoryLemmas.{tells_found_started}
use Rattle.world.proofs.MachineBegins.{happens_started, happens_unstarted, happens_unstopped}
use Rattle.world.proofs.BrickListLemmas.{shown_there, shows_kept, shows_now, with_power}

-- an event that changes nothing
unchanged_tells : (history : History) (w v : World) → v ≡ w → Tells history w → Tells history v
unchanged_tells history w v same tells = subst (λ (x : World). Tells history x) (sym same) tells

unchanged_bricks : (layout : Layout) (bricks : List Brick) (w v : World) → v ≡ w → ShowsBricks layout bricks w.nodes w.after w.up w.clocks
    → ShowsBricks layout bricks v.nodes v.after v.up v.clocks
unchanged_bricks layout bricks w v same shows = subst (λ (x : World). ShowsBricks layout bricks x.nodes x.after x.up x.clocks) (sym same) shows

-- a brick of the layout
pub is_there : (layout : Layout) (bricks : List Brick) (number : BrickId) → number.0 < length bricks → length bricks ≡ layout.bricks → is_brick layout number ≡ true
is_there layout bricks number within count = grind (arith, nat_tests)

-- the brick that started, and those beside it
started_here : (w : World) (brick : BrickId) (openings : ℕ) (found : Found)
    → (world_started (world_found w brick found) brick openings).nodes brick.0
    ≡ machine.restarted openings (found_of (w.nodes brick.0) (w.after brick.0) found)
started_here w brick openings Before = value_here w.nodes brick.0 brick.0 (machine.restarted openings (w.nodes brick.0)) refl
started_here w brick openings After =
    value_here (machine.put w.nodes brick.0 (w.after brick.0)) brick.0 brick.0
    (machine.restarted openings (machine.put w.nodes brick.0 (w.after brick.0) brick.0)) refl
    ∙ ap (machine.restarted openings) (value_here w.nodes brick.0 brick.0 (w.after brick.0) refl)

started_elsewhere : (w : World) (brick : BrickId) (openings : ℕ) (found : Found) (i : ℕ) → i ≢ brick.0
    → (world_started (world_found w brick found) brick openings).nodes i ≡ w.nodes i
started_elsewhere w brick openings Before i other = value_elsewhere w.nodes brick.0 i (machine.restarted openings (w.nodes brick.0)) other
started_elsewhere w brick openings After i other =
    value_elsewhere (machine.put w.nodes brick.0 (w.after brick.0)) brick.0 i
    (machine.restarted openings (machine.put w.nodes brick.0 (w.after brick.0) brick.0)) other
    ∙ value_elsewhere w.nodes brick.0 i (w.after brick.0) other

started_after : (w : World) (brick : BrickId) (openings : ℕ) (found : Found) → (world_started (world_found w brick found) brick openings).after ≡ w.after
started_after w brick openings Before = refl
started_after w brick openings After = refl

started_up : (w : World) (brick : BrickId) (openings : ℕ) (found : Found)
    → (world_started (world_found w brick found) brick openings).up ≡ machine.put w.up brick.0 true
started_up w brick openings Before = refl
started_up w brick openings After = refl

started_clocks : (w : World) (brick : BrickId) (openings : ℕ) (found : Found) → (world_started (world_found w brick found) brick openings).clocks ≡ w.clocks
started_clocks w brick openings Before = refl
started_clocks w brick openings After = refl

both_are : (x y z : Bool) → x ≡ true → y ≡ false → z ≡ true → x && (not y && z) ≡ true
both_are true false z here down may = may
both_are true true z here down may = let never : true ≡ false = down in cc
both_are false y z here down may = let never : false ≡ true = here in cc

last_not : (x y z : Bool) → z ≡ false → x && (y && z) ≡ false
last_not true true z may = may
last_not true false z may = refl
last_not false y z may = refl

down_both : (x y : Bool) → x ≡ true → y ≡ false → x && not y ≡ true
down_both true false here down = refl
down_both true true here down = let never : true ≡ false = down in cc
down_both false y here down = let never : false ≡ true = here in cc

up_not : (x y : Bool) → y ≡ true → x && not y ≡ false
up_not true true up = refl
up_not true false up = let never : false ≡ true = up in cc
up_not false y up = refl

up_never : (x y z : Bool) → y ≡ true → x && (not y && z) ≡ false
up_never true true z up = refl
up_never true false z up = let never : false ≡ true = up in cc
up_never false y z up = refl

down_never : (x y : Bool) → y ≡ false → x && y ≡ false
down_never true y down = down
down_never false y down = refl

-- an opening that is made makes calls
never_none : (opens : Bool) (calls : ℕ) → opens ≡ true → cond opens (suc calls) 0 ≡ 0 → ⊥
never_none true calls is none = absurd cc
never_none false calls is none = absurd cc

-- A brick that is down was to start.
module _ {layout : Layout} {old new : List Brick} {number : BrickId} {Holds : Brick → Power → Type 0} (fault : Option Fault) (w : World)
    (shows : ShowsBricks layout old w.nodes w.after w.up w.clocks) (changes : ChangesBrick old new number Holds)
    (down_here : w.up number.0 ≡ false) where
  abbrev disk_here : MemDisk
  disk_here = disk_in changes.brick.power

  is_down_here : is_down layout w number ≡ true
  is_down_here =
      down_both (is_brick layout number) (w.up number.0)
      (is_there layout old number (slice_get_within old number.0 changes.brick changes.at) shows.count) down_here

  others_here : KeepsOthers (cond (is_down layout w number) (Some number) None) (disks_of old) (disks_of new)
  others_here =
      subst (λ (down : Bool). KeepsOthers (cond down (Some number) None) (disks_of old) (disks_of new)) (sym is_down_here) (others_changed changes)

  abbrev start_here : (finds : Finds layout number (w.nodes number.0) (w.after number.0) disk_here) → StartsDown layout w (disks_of old) number
  start_here finds = record { down = is_down_here; disk = disk_here; disk_is = disk_was changes; finds = finds }

  kept_here : ShowsPower layout number (w.nodes number.0) (w.after number.0) false changes.power → ShowsBricks layout new w.nodes w.after w.up w.clocks
  kept_here shown =
      shows_kept w shows changes
      (subst (λ (up : Bool). ShowsPower layout number (w.nodes number.0) (w.after number.0) up changes.power) (sym down_here) shown)

  comes_started : WasStarted layout number (w.nodes number.0) (w.after number.0) disk_here fault changes.power
      → (events : List Event) × StartsAs layout w number fault old new true events
  comes_started was =
      let openings : ℕ = was.finds.openings + 1 in
      let event : Event = Starts number openings was.finds.found in
      let v : World = world_started (world_found w number was.finds.found) number openings in
      let may : may_start layout w number openings ≡ true =
      both_are (is_brick layout number) (w.up number.0) (machine.may_open openings (w.nodes number.0)) (is_there layout old number (slice_get_within old number.0 changes.brick changes.at) shows.count) down_here was.may
      in
      let happened : happens (coding layout) w event ≡ v = happens_started (coding layout) w number openings was.finds.found may in
      let shown : ShowsBricks layout new v.nodes v.after v.up v.clocks =
      shows_now w shows changes v
      (subst (λ (state : machine.Node). ShowsPower layout number state (v.after number.0) (v.up number.0) changes.power)
      (sym (started_here w number openings was.finds.found))
      (subst (λ (up : Bool). ShowsPower layout number (machine.restarted openings (found_of (w.nodes number.0) (w.after number.0) was.finds.found))
      (v.after number.0) up changes.power)
      (sym (ap (λ (f : ℕ → Bool). f number.0) (started_up w number openings was.finds.found) ∙ value_here w.up number.0 number.0 true refl))
      (up_power layout number (machine.restarted openings (found_of (w.nodes number.0) (w.after number.0) was.finds.found)) (v.after number.0) changes.power
      was.on)))
      (sym (ap (λ (f : ℕ → ℕ). f number.0) (started_clocks w number openings was.finds.found)))
      (λ i other. (
        started_elsewhere w number openings was.finds.found i other,
        ap (λ (f : ℕ → machine.Node). f i) (started_after w number openings was.finds.found),
        ap (λ (f : ℕ → Bool). f i) (started_up w number openings was.finds.found) ∙ value_elsewhere w.up number.0 i true other,
        ap (λ (f : ℕ → ℕ). f i) (started_clocks w number openings was.finds.found),
      ))
      in (
        event ∷ [],
        record {
          are = inr (inl (record { start = start_here was.finds; spared = inl was.spared; events_are = refl }));
          bricks = subst (λ (x : World). ShowsBricks layout new x.nodes x.after x.up x.clocks) (sym happened) shown;
          comes = sym (ap marks_if may);
          tells = λ history tells. subst (λ (x : World). Tells history x) (sym happened) (tells_found_started w number openings down_here history was.finds.found tells);
          kept = one_kept (coding layout) w event (disks_of old) (disks_of new)
              (record {
                others = others_here;
                still = λ none. absurd (never_none (may_start layout w number openings) 4 may (none 0 New true));
                lists = λ yes. of_disk changes (ListsOpening layout number (found_of (w.nodes number.0) (w.after number.0) was.finds.found)) was.lists;
              });
        },
      )

  comes_worn : IsWorn layout number (w.nodes number.0) (w.after number.0) disk_here changes.power
      → (events : List Event) × StartsAs layout w number fault old new false events
  comes_worn was =
      let openings : ℕ = was.finds.openings + 1 in
      let event : Event = Starts number openings was.finds.found in
      let may : may_start layout w number openings ≡ false =
      last_not (is_brick layout number) (not (w.up number.0)) (machine.may_open openings (w.nodes number.0)) was.may
      in
      let happened : happens (coding layout) w event ≡ w = happens_unstarted (coding layout) w number openings was.finds.found may in (
        event ∷ [],
        record {
          are = inr (inl (record { start = start_here was.finds; spared = inr was.may; events_are = refl }));
          bricks = unchanged_bricks layout new w (happens (coding layout) w event) happened (kept_here was.off);
          comes = sym (ap marks_if may);
          tells = λ history tells. unchanged_tells history w (happens (coding layout) w event) happened tells;
          kept = one_kept (coding layout) w event (disks_of old) (disks_of new)
              (record {
                others = others_here;
                still = λ none. unwritten_changed changes was.still;
                lists = λ yes. let never : true ≡ false = sym yes ∙ may in absurd cc;
              });
        },
      )

  comes_cut : WasCutShort layout number (w.nodes number.0) (w.after number.0) disk_here fault changes.power
      → (events : List Event) × StartsAs layout w number fault old new false events
  comes_cut was =
      let event : Event = Stops number None in
      let down : is_up layout w number ≡ false = down_never (is_brick layout number) (w.up number.0) down_here in
      let happened : happens (coding layout) w event ≡ w = happens_unstopped (coding layout) w number down in (
        event ∷ [],
        record {
          are = inl (record { start = start_here was.finds; may = was.may; reached = was.reached; events_are = refl; left = of_now changes (IsLeftOpening layout number (w.nodes number.0) (w.after number.0) disk_here was.finds _ fault) was.left });
          bricks = unchanged_bricks layout new w (happens (coding layout) w event) happened (kept_here was.off);
          comes = sym (ap marks_if down);
          tells = λ history tells. unchanged_tells history w (happens (coding layout) w event) happened tells;
          kept = one_kept (coding layout) w event (disks_of old) (disks_of new)
              (record {
                others = others_here;
                still = λ none. absurd (never_none (is_down layout w number) 4 is_down_here (none 0 New true));
                lists = tt;
              });
        },
      )

  pub starts_as : (started : Bool) → TurnsOn layout number (w.nodes number.0) (w.after number.0) disk_here fault changes.power (Ok started)
      → (events : List Event) × StartsAs layout w number fault old new started events
  starts_as true was = comes_started was
  starts_as false was = ⊎_elim
      (λ (worn : IsWorn layout number (w.nodes number.0) (w.after number.0) disk_here changes.power). comes_worn worn)
      (λ (cut : WasCutShort layout number (w.nodes number.0) (w.after number.0) disk_here fault changes.power). comes_cut cut) was

-- the start of a brick that is up, or that there is not, comes to nothing
pub starts_not : (layout : Layout) (bricks new : List Brick) (number : BrickId) (fault : Option Fault) (w : World) → is_down layout w number ≡ false
    → may_start layout w number 1 ≡ false → disks_of new ≡ disks_of bricks → ShowsBricks layout new w.nodes w.after w.up w.clocks
    → (events : List Event) × StartsAs layout w number fault bricks new false events
starts_not layout bricks new number fault w not_down may same shows =
    let event : Event = Starts number 1 Before in
    let happened : happens (coding layout) w event ≡ w = happens_unstarted (coding layout) w number 1 Before may in (
      event ∷ [],
      record {
        are = inr (inr (record { not_down = not_down; events_are = refl }));
        bricks = unchanged_bricks layout new w (happens (coding layout) w event) happened shows;
        comes = sym (ap marks_if may);
        tells = λ history tells. unchanged_tells history w (happens (coding layout) w event) happened tells;
        kept = one_kept (coding layout) w event (disks_of bricks) (disks_of new) (same_kept layout w event (disks_of bricks) (disks_of new) same
            (λ yes. let never : true ≡ false = sym yes ∙ may in absurd cc));
      },
    )

-- one that is up
starts_up : {layout : Layout} {old new : List Brick} {number : BrickId} {Holds : Brick → Power → Type 0} (fault : Option Fault) (w : World)
    → ShowsBricks layout old w.nodes w.after w.up w.clocks → (changes : ChangesBrick old new number Holds) → w.up number.0 ≡ true
    → changes.power ≡ changes.brick.power → (events : List Event) × StartsAs layout w number fault old new false events
starts_up {layout} {old} {new} {number} fault w shows changes up same =
    starts_not layout old new number fault w
    (up_not (is_brick layout number) (w.up number.0) up)
    (up_never (is_brick layout number) (w.up number.0) (machine.may_open 1 (w.nodes number.0)) up)
    (disks_kept changes (ap disk_in same))
    (shows_kept w shows changes
    (subst (λ (power : Power). ShowsPower layout number (w.nodes number.0) (w.after number.0) (w.up number.0) power) (sym same)
    (shown_there w shows changes).power))

first_not : (x y : Bool) → x ≡ false → x && y ≡ false
first_not false y is = refl
first_not true y is = let never : true ≡ false = is in cc

-- and one that there is not
pub starts_nowhere : (layout : Layout) (bricks : List Brick) (number : BrickId) (fault : Option Fault) (w : World) → layout.bricks ≤ number.0
    → ShowsBricks layout bricks w.nodes w.after w.up w.clocks → (events : List Event) × StartsAs layout w number fault bricks bricks false events
starts_nowhere layout bricks number fault w past shows =
    let none : is_brick layout number ≡ false = grind (arith, nat_tests) in
    starts_not layout bricks bricks number fault w (first_not (is_brick layout number) (not (w.up number.0)) none)
    (first_not (is_brick layout number) (not (w.up number.0) && machine.may_open 1 (w.nodes number.0)) none) refl shows

-- what a brick that was to start is now
pub turned : (layout : Layout) (bricks : List Brick) (number : BrickId) (old : Brick) (was power : Power) (fault : Option Fault) (result : Result Bool NoMem)
    → number.0 < length bricks → old ≡ get_or bricks number.0 old → old.power ≡ was → StartsFrom layout number fault result was power
    → ChangesBrick bricks (set bricks number.0 (with_power old power)) number (DoesStart layout number fault result)
turned layout bricks number old was power fault result within is same starts = record {
  brick = old;
  at = slice_get_read bricks (length bricks) number.0 old refl within is;
  power = power;
  now = refl;
  holds = subst (λ (p : Power). StartsFrom layout number fault result p power) (sym same) starts;
}

-- so it started, or not, or memory was refused
abbrev pub StartedAs : Layout → World → BrickId → Option Fault → List Brick → List Brick → Result Bool NoMem → Type 0
StartedAs layout w number fault old new (Ok started) = (events : List Event) × StartsAs layout w number fault old new started events
StartedAs layout w number fault old new (Err refused) = ShowsBricks layout new w.nodes w.after w.up w.clocks

pub started_as : {layout : Layout} {old new : List Brick} {number : BrickId} (fault : Option Fault) (result : Result Bool NoMem) (w : World)
    → ShowsBricks layout old w.nodes w.after w.up w.clocks → ChangesBrick old new number (DoesStart layout number fault result)
    → StartedAs layout w number fault old new result
started_as {layout} {old} {new} {number} fault result w shows changes =
    by result changes.brick.power refl (shown_there w shows changes).power changes.holds
  where
    by : (answer : Result Bool NoMem) (was : Power) → changes.brick.power ≡ was
        → ShowsPower layout number (w.nodes number.0) (w.after number.0) (w.up number.0) was → StartsFrom layout number fault answer was changes.power
        → StartedAs layout w number fault old new answer
    by (Ok true) (Up node) on shown starts = absurd (let never : Ok true ≡ Ok false = starts.1 in cc)
    by (Ok false) (Up node) on shown starts = starts_up fault w shows changes shown.0 (starts.0 ∙ sym on)
    by (Err refused) (Up node) on shown starts = absurd (let never : Err refused ≡ Ok false = starts.1 in cc)
    by (Ok started) (Down disk) off shown starts =
        starts_as fault w shows changes shown.0 started
        (subst (λ (p : Power). TurnsOn layout number (w.nodes number.0) (w.after number.0) (disk_in p) fault changes.power (Ok started)) (sym off)
        (starts (w.nodes number.0) (w.after number.0) shown.1))
    by (Err refused) (Down disk) off shown starts =
        kept_here fault w shows changes shown.0 (starts (w.nodes number.0) (w.after number.0) shown.1).0

-- where memory was refused, a read of each disk gives what it gave
pub refused_contents : {layout : Layout} {old new : List Brick} {number : BrickId} (fault : Option Fault) (refused : NoMem) → AreNodesOf layout old
    → ChangesBrick old new number (DoesStart layout number fault (Err refused)) → map content_of (disks_of new) ≡ map content_of (disks_of old)
refused_contents {layout} {old} {new} {number} fault refused of changes = contents_changed changes (by changes.brick.power one.shows changes.holds)
  where
    one : IsNodeOf layout number.0 changes.brick.power
    one = of number.0 changes.brick changes.at

    by : (was : Power) → ShowsPower layout number one.state one.after one.up was → StartsFrom layout number fault (Err refused) was changes.power
        → content_of (disk_in changes.power) ≡ content_of (disk_in was)
    by (Up node) shows starts = absurd (let never : Err refused ≡ Ok false = starts.1 in cc)
    by (Down disk) shows starts = (starts one.state one.after shows.1).1
