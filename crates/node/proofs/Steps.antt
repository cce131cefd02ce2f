-- The steps of what a brick has under way, as steps of the brick.
use Rattle.std.proofs.Common.{◌≡◌, ℕ, List, Option, Some, sym, ◌∙◌, ap, subst}
use Rattle.std.specs.Option.{option_map}
use Rattle.fab_base.specs.declared.identities.BrickId.{BrickId}
use Rattle.fab_base.specs.declared.member_lists.View.{View}
use Rattle.fab_base.specs.declared.asks.Ask.{Ask}
use Rattle.fab_base.specs.Layouts.{Layout, Group, group_of}
use Rattle.brick_store.specs.Bricks.{Brick}
use Rattle.protocol.specs.Nodes.{Node, NodeStep, began, began_in, coordinator_in, invoked}
use Rattle.protocol.specs.Views.{kept_by}
use Rattle.coord_phase.specs.Operations.{group_in_view, group_or_none}
use Rattle.stripe_code.specs.Codes.{coding}
use Rattle.node.specs.declared.tasks.Tasks.{Tasks}
use Rattle.node.specs.declared.outs.Begun.{Begun}
use Rattle.node.specs.Outcomes.{Outcome}
use Rattle.node.specs.States.{KeptParts, parts_in, BeginsAs, StepsAs}
use Rattle.node.specs.Tasks.{tasks_in}
use Rattle.node.specs.Running.{running, state_of}
use Rattle.node.proofs.Views.{seen_so}

-- the group of a layout, kept by the members of a view
pub group_in_view_is : (layout : Layout) (members : List BrickId) (g : ℕ) (group : Group) → group_of layout g ≡ Some group
    → group_in_view layout members g ≡ kept_by members group
group_in_view_is layout members g group found = ap (λ (o : Option Group). group_or_none (option_map (kept_by members) o)) found

-- a brick begins an operation in the view that it has learnt
view_began : (layout : Layout) (me : BrickId) (now : ℕ) (node : Node) (ask : Ask) (group : Group) (view : View)
    → (node.learnt ask.group.0).view ≡ view → group_of layout ask.group.0 ≡ Some group
    → invoked (coding layout) me now node ask ≡ began_in (coding layout) me node
    (coordinator_in (group_in_view layout view.members ask.group.0) view me now node ask)
unfolding invoked
view_began layout me now node ask group view is found =
    ap (λ (o : Option Group). began (coding layout) me now node ask (option_map (kept_by (node.learnt ask.group.0).view.members) o)) found
    ∙ ap (λ (g : Group). began_in (coding layout) me node (coordinator_in g (node.learnt ask.group.0).view me now node ask))
    (sym (group_in_view_is layout (node.learnt ask.group.0).view.members ask.group.0 group found))
    ∙ ap (λ (v : View). began_in (coding layout) me node (coordinator_in (group_in_view layout v.members ask.group.0) v me now node ask)) is

module _ {D : Type 0} (layout : Layout) (before after : Tasks) (store : Brick D) (boot : before.work.calls.stamps.boot ≡ store.state.boot) where
  -- an operation that is begun in the learnt view, the brick begins
  pub begins_so : (now : ℕ) (ask : Ask) (group : Group) (view : View) (begun : Begun) → after.work.calls.stamps.boot ≡ before.work.calls.stamps.boot
      → ((state_of (running layout before store)).learnt ask.group.0).view ≡ view → group_of layout ask.group.0 ≡ Some group
      → ((kept : KeptParts) → BeginsAs before.work.calls.me (tasks_in kept after) (began_in (coding layout) before.work.calls.me (tasks_in kept before)
      (coordinator_in (group_in_view layout view.members ask.group.0) view before.work.calls.me now (tasks_in kept before) ask)) begun)
      → BeginsAs before.work.calls.me (state_of (running layout after store)) (invoked (coding layout) before.work.calls.me now (state_of (running layout before store)) ask)
      begun
  begins_so now ask group view begun stays is found begins =
      let kept = parts_in layout store.state in
      let node = state_of (running layout before store) in
      let me = before.work.calls.me in
      subst (λ (s : Node). BeginsAs me s (invoked (coding layout) me now node ask) begun) (sym (seen_so layout after store (stays ∙ boot)))
      (subst (λ (step : NodeStep). BeginsAs me (tasks_in kept after) step begun)
      (sym (view_began layout me now node ask group view is found))
      (subst
      (λ (s : Node). BeginsAs me (tasks_in kept after)
      (began_in (coding layout) me s (coordinator_in (group_in_view layout view.members ask.group.0) view me now s ask)) begun)
      (sym (seen_so layout before store boot)) (begins kept)))

  -- a step of what is under way is the brick's
  pub steps_so : (step : Node → NodeStep) (outs : Outcome) → after.work.calls.stamps.boot ≡ before.work.calls.stamps.boot
      → StepsAs before.work.calls.me (tasks_in (parts_in layout store.state) after) (step (tasks_in (parts_in layout store.state) before)) outs
      → StepsAs before.work.calls.me (state_of (running layout after store)) (step (state_of (running layout before store))) outs
  steps_so step outs stays steps =
      subst (λ (s : Node). StepsAs before.work.calls.me s (step (state_of (running layout before store))) outs) (sym (seen_so layout after store (stays ∙ boot)))
      (subst (λ (s : Node). StepsAs before.work.calls.me (tasks_in (parts_in layout store.state) after) (step s) outs) (sym (seen_so layout before store boot)) steps)

  -- where what is under way is as it was, so is the brick
  pub stays_so : after.work.calls.stamps.boot ≡ before.work.calls.stamps.boot
      → tasks_in (parts_in layout store.state) after ≡ tasks_in (parts_in layout store.state) before
      → state_of (running layout after store) ≡ state_of (running layout before store)
  stays_so stays same = seen_so layout after store (stays ∙ boot) ∙ same ∙ sym (seen_so layout before store boot)
