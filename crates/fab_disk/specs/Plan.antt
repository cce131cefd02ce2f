-- What a plan has befall the coming calls.
use Rattle.std.specs.Prelude.{◌≡◌, ◌+◌, ◌-◌, ◌≤◌, ℕ, ◌==◌, if◌then◌else◌}
use Rattle.fab_disk.specs.declared.disk.Plan.{Plan}
use Rattle.fab_disk.specs.declared.disk.Plan.TheVariants.{Never, Stop, Fail}
use Rattle.fab_disk.specs.declared.disk.Fate.{Fate}
use Rattle.fab_disk.specs.declared.disk.Fate.TheVariants.{Goes, Stops, Fails}

-- the number of the call that is to stop or to fail, from 1 for the next one; 0 where none is
abbrev pub call_of : Plan → ℕ
call_of Never = 0
call_of (Stop number) = number
call_of (Fail number) = number

-- the plan after so many calls of which it names none
abbrev pub sooner : ℕ → Plan → Plan
sooner calls Never = Never
sooner calls (Stop number) = Stop (number - calls)
sooner calls (Fail number) = Fail (number - calls)

-- how many calls are made until it befalls one: a call that stops counts, and one that fails does nothing
abbrev pub calls_made : Plan → ℕ
calls_made Never = 0
calls_made (Stop number) = number
calls_made (Fail number) = number - 1

-- the plan names one of the next calls, so many
pub record IsWithin (calls : ℕ) (plan : Plan) : Type 0 where
  pub some : 1 ≤ call_of plan
  pub reached : call_of plan ≤ calls

-- A run of so many calls of `write_at` and `sync`, which was made whole, was cut short by a call that failed, or was not begun.
pub record IsRun {D : Type 0} (tells : Type 0) (moment : D → ℕ) (plan : D → Plan) (unlisted : D → Type 0) (calls : ℕ) (old new : D)
    (whole cut : Type 0) : Type 0 where
  -- made whole, it made all its calls, and the plan named none of them
  pub counted : tells → whole → moment new ≡ moment old + calls
  pub spared : whole → IsWithin calls (plan old) → ⊥
  pub later : whole → plan new ≡ sooner calls (plan old)
  -- where no call is listed, it is cut short only by the plan, at the call that this names: all before it were made, and none after it
  pub named : unlisted old → cut → IsWithin calls (plan old)
  pub stopped : tells → unlisted old → cut → moment new ≡ moment old + calls_made (plan old)
  pub used_up : unlisted old → cut → plan new ≡ Never
  -- not begun, it leaves the plan as it is
  pub waits : (whole → ⊥) → (cut → ⊥) → plan new ≡ plan old
  pub stays : unlisted old → unlisted new

-- A call that makes none of `write_at` and `sync`: it leaves the plan as it is, and fails only where calls are listed.
pub record KeepsPlan {D : Type 0} (plan : D → Plan) (unlisted : D → Type 0) (old new : D) (failed : Type 0) : Type 0 where
  pub same : plan new ≡ plan old
  pub stays : unlisted old → unlisted new
  pub never : unlisted old → failed → ⊥

-- what befalls the next call
abbrev pub next_fate : Plan → Fate
next_fate Never = Goes
next_fate (Stop number) = if number == 1 then Stops else Goes
next_fate (Fail number) = if number == 1 then Fails else Goes

-- the plan for the calls after it
abbrev pub plan_after : Plan → Plan
plan_after Never = Never
plan_after (Stop number) = if number == 1 then Never else Stop (number - 1)
plan_after (Fail number) = if number == 1 then Never else Fail (number - 1)
