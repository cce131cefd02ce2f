-- A brick is asked for something, and stays as it was: it refused, or memory was refused.
use Rattle.std.proofs.Common.{◌≡◌, ℕ, List, map, ap}
use Rattle.fab_base.specs.declared.identities.BrickId.{BrickId}
use Rattle.fab_base.specs.Layouts.{Layout}
use Rattle.fab_disk.specs.MemDisk.{content_of}
use Rattle.fab_disk.specs.declared.mem_disk.MemDisk.{MemDisk}
use Rattle.stripe_code.specs.Codes.{coding}
use Rattle.protocol.specs.Nodes.{Node}
use Rattle.protocol.specs.Worlds.{World, Event, happens}
use Rattle.world.specs.BrickSteps.{ChangesBrick, RunsOn}
use Rattle.world.specs.Noted.{IsSameHistory}
use Rattle.world.specs.Shown.{Shows, Stands, StaysAs, TakesEvent, world_in}
use Rattle.world.specs.Texts.{outcome_of}
use Rattle.world.specs.declared.simulations.Outcome.{Outcome}
use Rattle.world.specs.declared.simulations.Simulation.{Simulation}
use Rattle.world.proofs.BrickListLemmas.{StepsOn, disks_on, shows_on}
use Rattle.world.proofs.SimulationLemmas.{shows_asked, shows_still}

-- A brick was asked: this holds of its step, and what was noted tells nothing new.
module _ (layout : Layout) (old new : Simulation) (brick : BrickId) (Holds : Layout → BrickId → ℕ → Node → Node → Type 0) (trail : new.trail ≡ old.trail)
    (same : IsSameHistory old.history new.history) (stands : Stands layout old)
    (asks : ChangesBrick old.bricks.items new.bricks.items brick (RunsOn Holds)) where
  -- the world that the state has come to
  abbrev w : World
  w = world_in layout old

  -- what holds of its step
  abbrev HoldsHere : Node → Type 0
  HoldsHere next = Holds layout brick (w.clocks brick.0) (w.nodes brick.0) next

  -- the step
  did : StepsOn layout new.bricks.items w brick Holds
  did = shows_on w Holds stands.bricks asks

  -- the state shows the world still, where the brick stays as it was
  shows_so : ((next : Node) → HoldsHere next → next ≡ w.nodes brick.0) → Shows layout new w
  shows_so stays = shows_asked layout old new w brick did.next (stays did.next did.holds) did.bricks same stands

  -- so nothing has happened
  pub asked_stays : ((next : Node) → HoldsHere next → next ≡ w.nodes brick.0) → StaysAs layout old new
  asked_stays stays = record {
    trail = trail;
    shows = shows_so stays;
    contents = ap (λ (disks : List MemDisk). map content_of disks) (disks_on Holds asks);
  }

  -- or an event that changes nothing
  pub asked_refused : ((next : Node) → HoldsHere next → next ≡ w.nodes brick.0) → (event : Event) (outcome : Outcome)
      → ((next : Node) → HoldsHere next → happens (coding layout) w event ≡ w)
      → ((next : Node) → HoldsHere next → outcome ≡ outcome_of (coding layout) w event) → TakesEvent layout old new event outcome
  asked_refused stays event outcome happened comes = record {
    trail = trail;
    shows = shows_still layout new w (happens (coding layout) w event) (happened did.next did.holds) (shows_so stays);
    outcome_is = comes did.next did.holds;
    disks = disks_on Holds asks;
  }
