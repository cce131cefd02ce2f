-- Bricks that a process hosts, and the turns that they take.
use Rattle.std.specs.Prelude.{◌≡◌, ◌≢◌, ◌⊎◌, ℕ, true, false, List, [], ◌∷◌, ◌++◌, Option, Some, None, Result, Ok, Err}
use Rattle.std.specs.BTreeMap.{is_at}
use Rattle.std.specs.List.{AllByRecursion}
use Rattle.std.specs.Map.{lookup}
use Rattle.std.specs.Ordering.{nat_cmp}
use Rattle.fab_disk.specs.declared.disk.Disk as on_disk
use Rattle.fab_io.specs.Ends.{Kept}
use Rattle.fab_io.specs.declared.clocks.Clock as on_clock
use Rattle.fab_io.specs.declared.links.Link as on_link
use Rattle.node.specs.Running.{Running, state_of, IsSameBrick}
use Rattle.stripe_code.specs.Codes.{coding}
use Rattle.serving.specs.declared.clients.Client.{Client}
use Rattle.serving.specs.declared.faults.ServeFault.{ServeFault}
use Rattle.serving.specs.declared.faults.ServeFault.TheVariants.{Disk, Halted, Link, Clock}
use Rattle.serving.specs.declared.servers.Server.{Server}
use Rattle.serving.specs.Serves.{outside, TakesTurn}
use Rattle.serving.specs.Servings.{Serving, HasNoClient, begun}
use Rattle.serving.specs.Views.{serving_of, IsServerOf, SendsAll}

-- a brick that a process hosts: the clients that wait, by the numbers of their operations' calls, the moment of the last tick, its node, and its link
pub record Hosted (D L : Type 0) : Type 0 where
  pub waiting : List (ℕ × Client)
  pub ticked : ℕ
  pub node : Running D
  pub link : L

-- the serving brick that it is
abbrev pub serving_at : {D L : Type 0} → Hosted D L → Serving
serving_at brick = record { node = state_of brick.node; waiting = λ seq. lookup (is_at (nat_cmp seq)) brick.waiting; ticked = brick.ticked }

-- this is known beside this node, and no client waits for a call that was not made yet
pub record IsHosted {D : Type 0} (server : Server) (node : Running D) : Type 0 where
  pub knows : IsServerOf server node
  pub fresh : HasNoClient (serving_of server node)

-- bricks, and how many there is room for
pub record Hosting (D L : Type 0) : Type 0 where
  pub bricks : List (Hosted D L)
  pub room : ℕ

-- this node begins to serve over this link; if it was just started, each message that it sends can be sent
pub record Begins {D L : Type 0} (brick : Hosted D L) (node : Running D) (link : L) : Type 0 where
  pub node_is : brick.node ≡ node
  pub link_is : brick.link ≡ link
  pub begins : serving_at brick ≡ begun (state_of node)
  pub spelled : SendsAll node

-- the last brick was taken away, and this node and link are its; or there was none
abbrev pub TakesLast : {D L : Type 0} → List (Hosted D L) → List (Hosted D L) → Option (Running D × L) → Type 0
TakesLast before after None = (before ≡ []) × (after ≡ [])
TakesLast before after (Some taken) = (brick : _) × (before ≡ after ++ brick ∷ []) × (taken ≡ (brick.node, brick.link))

-- ---- turns

module _ {D L C : Type 0} (d : on_disk.Ghosts D) (l : on_link.Ghosts L) (c : on_clock.Ghosts C) where
  -- A brick took a turn over its link and the clock, or was stopped in it. What failed is counted; what is sound stays so, and does not fail.
  pub record TurnsAs (before after : Hosted D L) (clock clock_after : C) (result : Result ℕ ServeFault) : Type 0 where
    pub turn : TakesTurn (coding before.node.layout) before.node.me (serving_at before) (serving_at after)
        (outside (l.waiting before.link) (l.sent before.link) (c.coming clock))
        (outside (l.waiting after.link) (l.sent after.link) (c.coming clock_after)) result
    pub same : IsSameBrick before.node after.node
    pub runs : result ≢ Err Disk → after.node.brick.halted ≡ false
    pub disk : Kept (d.faults before.node.brick.disk) (d.faults after.node.brick.disk) (d.sound before.node.brick.disk)
        (d.sound after.node.brick.disk) (result ≡ Err Disk)
    pub link : Kept (l.faults before.link) (l.faults after.link) (l.sound before.link) (l.sound after.link) (result ≡ Err Link)
    pub times : Kept (c.faults clock) (c.faults clock_after) (c.sound clock) (c.sound clock_after) (result ≡ Err Clock)

  -- the same; and one whose disk failed in an earlier turn takes none
  abbrev pub IsTurn : Hosted D L → Hosted D L → C → C → Result ℕ ServeFault → Type 0
  IsTurn before after clock clock_after (Err Halted) = (before.node.brick.halted ≡ true) × (after ≡ before) × (clock_after ≡ clock)
  IsTurn before after clock clock_after result = TurnsAs before after clock clock_after result

  -- each brick took a turn, in order
  abbrev pub TakeTurns : List (Hosted D L) → List (Hosted D L) → C → C → Type 0
  TakeTurns [] [] clock clock_after = clock_after ≡ clock
  TakeTurns (before ∷ more) (after ∷ more_after) clock clock_after =
      (mid : C) × (malformed : ℕ) × TurnsAs before after clock mid (Ok malformed) × TakeTurns more more_after mid clock_after
  TakeTurns bricks bricks_after clock clock_after = ⊥

  -- some bricks took a turn, in order, and the next one was stopped in its turn by this fault
  abbrev pub StopTurns : ServeFault → List (Hosted D L) → List (Hosted D L) → C → C → Type 0
  StopTurns fault (before ∷ more) (after ∷ more_after) clock clock_after =
      (IsTurn before after clock clock_after (Err fault) × (more_after ≡ more))
      ⊎ ((mid : C) × (malformed : ℕ) × TurnsAs before after clock mid (Ok malformed) × StopTurns fault more more_after mid clock_after)
  StopTurns fault bricks bricks_after clock clock_after = ⊥

  -- no brick is halted, and their disks and links and the clock are sound
  pub record IsSound (brick : Hosted D L) : Type 0 where
    pub runs : brick.node.brick.halted ≡ false
    pub disk : d.sound brick.node.brick.disk
    pub link : l.sound brick.link

  abbrev pub AreSound : List (Hosted D L) → C → Type 0
  AreSound bricks clock = AllByRecursion IsSound bricks × c.sound clock
