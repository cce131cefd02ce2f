-- An operation that a line has run alone.
use Rattle.std.specs.Prelude.{◌≡◌, ◌⊎◌, ℕ, true, is_some, List, [], ◌∷◌, Some}
use Rattle.fab_base.specs.declared.identities.BrickId.{BrickId}
use Rattle.protocol.specs.Settings.{Setting}
use Rattle.protocol.specs.Worlds.{World, Event, Delivers, happens, run}
use Rattle.protocol.specs.Calms.{IsCalm, RunsAlone, open_call, next_delivery}
use Rattle.calm_laws.specs.Laws.{IsOver, LeavesItsOwn}

-- An operation may run alone among these bricks, and does. It is over then: it was answered data, or that it is done. And the Collects of a version
-- that it made leave only that, where just a quorum of its members are among these bricks.
pub record RunsCalm (setting : Setting) (w : World) (n : ℕ) (bricks : List BrickId) (events : List Event) : Type 0 where
  pub may : IsCalm setting w n bricks
  pub runs : RunsAlone setting n bricks w events (run setting events w)
  pub over : IsOver (run setting events w) n
  pub leaves : LeavesItsOwn setting w n bricks may (run setting events w)

-- so it does where it may, and else nothing happens
abbrev pub IsCalmRun : Setting → World → ℕ → List BrickId → List Event → Type 0
IsCalmRun setting w n bricks events =
    RunsCalm setting w n bricks events ⊎ ((IsCalm setting w n bricks → ⊥) × (events ≡ []))

-- the first of the deliveries that an operation makes alone, and the world that they leave
pub data BeginsAlone (setting : Setting) (n : ℕ) (bricks : List BrickId) : World → List Event → World → Type 0 where
  Here : (w : World) → BeginsAlone setting n bricks w [] w
  Next : (w last : World) (number : ℕ) (events : List Event) → is_some (open_call w n) ≡ true → next_delivery w n bricks ≡ Some number
      → BeginsAlone setting n bricks (happens setting w (Delivers number)) events last
      → BeginsAlone setting n bricks w (Delivers number ∷ events) last

-- an operation may run alone among these bricks, and began to
pub record BeginsCalm (setting : Setting) (w : World) (n : ℕ) (bricks : List BrickId) (events : List Event) : Type 0 where
  pub may : IsCalm setting w n bricks
  pub last : World
  pub begins : BeginsAlone setting n bricks w events last
