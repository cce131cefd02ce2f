-- The bricks of a layout, from one on.
use Rattle.std.proofs.Common.{◌≡◌, ℕ, suc, ◌+◌, ◌-◌, ◌<◌, ◌≤◌, arith, List, Option, sym, subst}
use Rattle.fab_base.specs.Layouts.{Layout}
use Rattle.hosting.specs.Hosted.{Hosted}
use Rattle.brick.specs.declared.endings.Ending.{Ending}
use Rattle.brick_words.specs.declared.words.Task.{Task}
use Rattle.brick.specs.Hosts.{HostSeen}
use Rattle.brick.specs.Locals.{disk_name, HostsByClock, HostsByDisk, HostsBricks, HostsFrom}
use Rattle.brick.specs.Views.{Views, Streams}

module _ {S D L N C : Type 0} (e : Streams S N) (v : Views D L C) (layout : Layout) (prefix : List ℕ) (task : Task)
    (out said : Option (List ℕ)) (ending : Ending) (id : ℕ) (bricks bricks_after : List (Hosted D L)) (before after : HostSeen S D L N C) where
  -- one that is there, and those behind it
  pub from_next : id < layout.bricks → HostsByDisk v layout (record { 0 = id }) (disk_name prefix (record { 0 = id }))
      (HostsFrom e v layout prefix task out said ending (id + 1)) before after bricks bricks_after out said ending
      → HostsFrom e v layout prefix task out said ending id bricks bricks_after before after
  from_next within done =
      subst (λ n. HostsBricks e v layout prefix task out said ending n id bricks bricks_after before after) (sym count) done
    where
      count : layout.bricks - id ≡ suc (layout.bricks - (id + 1))
      count = omega (arith, within)

  -- none
  pub from_last : layout.bricks ≤ id → HostsByClock e v layout task before after bricks bricks_after out said ending
      → HostsFrom e v layout prefix task out said ending id bricks bricks_after before after
  from_last past done =
      subst (λ n. HostsBricks e v layout prefix task out said ending n id bricks bricks_after before after) (sym count) done
    where
      count : layout.bricks - id ≡ 0
      count = omega (arith, past)

-- all
pub from_first : {S D L N C : Type 0} (e : Streams S N) (v : Views D L C) (layout : Layout) (prefix : List ℕ) (task : Task)
    (out said : Option (List ℕ)) (ending : Ending) (bricks bricks_after : List (Hosted D L)) (before after : HostSeen S D L N C)
    → HostsFrom e v layout prefix task out said ending 0 bricks bricks_after before after
    → HostsBricks e v layout prefix task out said ending layout.bricks 0 bricks bricks_after before after
from_first e v layout prefix task out said ending bricks bricks_after before after done =
    subst (λ n. HostsBricks e v layout prefix task out said ending n 0 bricks bricks_after before after) count done
  where
    count : layout.bricks - 0 ≡ layout.bricks
    count = omega arith
