-- The records of a kept state.
use Rattle.std.proofs.Common.{◌≡◌, ◌+◌, ◌*◌, ◌≤◌, List, Result, Ok, Err, ◌∙◌, sym, ap, subst, arith}
use Rattle.std.specs.Result.{IfOk}
use Rattle.frame_store.specs.Listed.{size_of}
use Rattle.brick_state.specs.States.{live}
use Rattle.std.specs.List.{AllByRecursion}
use Rattle.brick_state.specs.declared.records.Record.{Record}
use Rattle.brick_state.specs.Rewrites.{live_records}
use Rattle.brick_state.specs.Indexes.{state_of}
use Rattle.brick_store.specs.Steps.{RecordHasMembers}
use Rattle.brick_store.specs.Sizes.{most_of}
use Rattle.brick_store.proofs.LiveSizes.{live_most, live_named}
use Rattle.brick_store.proofs.rewrites.live_frames.Goals as goal

-- what follows of the value follows where there is one
if_ok : {T E : Type 0} (r : Result T E) (P Q : T → Type 0) → ((x : T) → P x → Q x) → IfOk r P → IfOk r Q
if_ok (Ok x) P Q step h = step x h
if_ok (Err e) P Q step h = tt

pub returns-clause-size : goal.returns-clause-size
returns-clause-size c =
    let st = state_of c.args.index.now in
    let are : c.deref.result.now ≡ live_records st = c.deref.ensures.value ∙ c.in_ok-records.ensures in
    let few = live_most st c.requires.kept.all_groups in
    if_ok c.frames_of.result (λ frames. size_of frames ≤ most_of c.deref.result.now) (λ frames. size_of frames ≤ 15690 + 41 * live st)
    (λ frames h. omega (arith, h, ap most_of are, few)) c.frames_of.ensures.size

pub frames_of-requires : goal.frames_of-requires
frames_of-requires c =
    let st = state_of c.args.index.now in
    subst (λ (rs : List Record). AllByRecursion RecordHasMembers rs) (sym (c.deref.ensures.value ∙ c.in_ok-records.ensures))
    (live_named st c.requires.members)
