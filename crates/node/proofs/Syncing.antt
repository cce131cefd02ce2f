-- How a brick begins to synchronise a view.
use Rattle.std.proofs.Common.{◌≡◌, ℕ, Bool, if◌then◌else◌, Option, Some, None, is_some, refl, ◌∙◌, ap}
use Rattle.std.specs.Option.{option_map}
use Rattle.fab_base.specs.declared.answers.Refusal.{Refusal}
use Rattle.fab_base.specs.declared.answers.Refusal.TheVariants.{Busy}
use Rattle.fab_base.specs.Layouts.{Group, Layout, group_of}
use Rattle.brick_store.specs.Bricks.{Brick}
use Rattle.protocol.specs.Jobs.{sync_refusal_in}
use Rattle.protocol.specs.Nodes.{sync_refusal}
use Rattle.node.specs.declared.jobs.OpenJob.{OpenJob}
use Rattle.node.specs.declared.tasks.Tasks.{Tasks}
use Rattle.node.specs.Jobs.{Reading, reading_in}
use Rattle.node.specs.Running.{running, state_of}

-- it is busy where it has one under way
busy_by : (job : Option OpenJob) (kept : Group)
    → sync_refusal_in (option_map (λ (r : Reading). r.job) (reading_in job)) (Some kept) ≡ (if is_some job then Some Busy else None)
busy_by None kept = refl
busy_by (Some held) kept = refl

-- so it is at a brick
pub busy_so : {D : Type 0} (layout : Layout) (tasks : Tasks) (store : Brick D) (number : ℕ) (kept : Group) (busy : Bool) → group_of layout number ≡ Some kept
    → is_some tasks.job ≡ busy → sync_refusal layout (state_of (running layout tasks store)) number ≡ (if busy then Some Busy else None)
unfolding sync_refusal state_of
busy_so layout tasks store number kept busy found is =
    ap (sync_refusal_in (option_map (λ (r : Reading). r.job) (reading_in tasks.job))) found
    ∙ busy_by tasks.job kept
    ∙ ap (λ (b : Bool). (let refusal : Option Refusal = if b then Some Busy else None in refusal)) is
