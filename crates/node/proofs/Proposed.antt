-- The proposal that is under way begins as one of the brick.
use Rattle.std.proofs.Common.{◌≡◌, ℕ, List, Option, Some, sym, ◌∙◌, ap, subst}
use Rattle.fab_base.specs.declared.answers.Refusal.{Refusal}
use Rattle.fab_base.specs.declared.identities.BrickId.{BrickId}
use Rattle.fab_base.specs.declared.identities.GroupId.{GroupId}
use Rattle.fab_base.specs.Layouts.{Layout, Group, group_of}
use Rattle.brick_store.specs.Bricks.{Brick}
use Rattle.protocol.specs.Nodes.{Node, proposal_refusal, proposal_refusal_in, proposed, proposed_in}
use Rattle.stripe_code.specs.Codes.{coding}
use Rattle.node.specs.declared.tasks.Tasks.{Tasks}
use Rattle.node.specs.Outcomes.{Outcome}
use Rattle.node.specs.States.{StepsAs, parts_in}
use Rattle.node.specs.Tasks.{tasks_in}
use Rattle.node.specs.Running.{running, state_of}
use Rattle.node.proofs.Steps.{steps_so}
use Rattle.node.proofs.Views.{seen_so}

module _ {D : Type 0} (layout : Layout) (tasks : Tasks) (store : Brick D) (boot : tasks.work.calls.stamps.boot ≡ store.state.boot) where
  -- it is refused as the machine's is
  pub refused_so : (number : ℕ) (kept : Group) (refusal : Option Refusal) → group_of layout number ≡ Some kept
      → refusal ≡ proposal_refusal_in (tasks_in (parts_in layout store.state) tasks) number (Some kept)
      → proposal_refusal layout (state_of (running layout tasks store)) number ≡ refusal
  unfolding proposal_refusal
  refused_so number kept refusal found is =
      ap (proposal_refusal_in (state_of (running layout tasks store)) number) found
      ∙ ap (λ (n : Node). proposal_refusal_in n number (Some kept)) (seen_so layout tasks store boot) ∙ sym is

  -- and begins as the machine's does
  pub proposes_so : (after : Tasks) (group : GroupId) (kept : Group) (members : List BrickId) (outs : Outcome)
      → after.work.calls.stamps.boot ≡ tasks.work.calls.stamps.boot → group_of layout group.0 ≡ Some kept
      → StepsAs tasks.work.calls.me (tasks_in (parts_in layout store.state) after)
      (proposed_in (coding layout) tasks.work.calls.me (tasks_in (parts_in layout store.state) tasks) group members (Some kept)) outs
      → StepsAs tasks.work.calls.me (state_of (running layout after store))
      (proposed (coding layout) tasks.work.calls.me (state_of (running layout tasks store)) group members) outs
  unfolding proposed
  proposes_so after group kept members outs stays found steps =
      subst (λ (o : Option Group). StepsAs tasks.work.calls.me (state_of (running layout after store))
      (proposed_in (coding layout) tasks.work.calls.me (state_of (running layout tasks store)) group members o) outs) (sym found)
      (steps_so layout tasks after store boot (λ (n : Node). proposed_in (coding layout) tasks.work.calls.me n group members (Some kept)) outs stays steps)
