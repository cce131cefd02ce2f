-- How a brick begins to scrub a stripe.
use Rattle.std.proofs.Common.{◌≡◌, ℕ, List, Option, Some, sym, ◌∙◌, ap}
use Rattle.std.specs.Option.{option_map}
use Rattle.fab_base.specs.declared.identities.BrickId.{BrickId}
use Rattle.fab_base.specs.declared.identities.GroupId.{GroupId}
use Rattle.fab_base.specs.declared.identities.StripeNo.{StripeNo}
use Rattle.fab_base.specs.declared.member_lists.View.{View}
use Rattle.fab_base.specs.Layouts.{Group, Layout, group_of}
use Rattle.brick_store.specs.Bricks.{Brick}
use Rattle.stripe_code.specs.Codes.{coding}
use Rattle.protocol.specs.Scrubs.{scrub_ask}
use Rattle.protocol.specs.Views.{kept_by}
use Rattle.protocol.specs.Nodes.{Node, begun_aside, coordinator_in, scrub_refusal, scrub_refusal_in, scrubbed_at, scrubbed_in, scrubbing}
use Rattle.coord_phase.specs.Operations.{group_in_view}
use Rattle.node.specs.declared.tasks.Tasks.{Tasks}
use Rattle.node.specs.Running.{running, state_of}
use Rattle.node.specs.Scrubs.{scrubbed_by}
use Rattle.node.specs.States.{parts_in, state_with}
use Rattle.node.specs.Tasks.{tasks_in}
use Rattle.node.proofs.Steps.{group_in_view_is}
use Rattle.node.proofs.Views.{seen_so}

-- why it does not, in the view that it has learnt
pub refusal_so : {D : Type 0} (layout : Layout) (tasks : Tasks) (store : Brick D) (group : GroupId) (stripe : StripeNo) (members : List BrickId) (kept : Group) (view : View)
    → tasks.work.calls.stamps.boot ≡ store.state.boot → group_of layout group.0 ≡ Some kept → view ≡ ((parts_in layout store.state).learnt group.0).view
    → scrub_refusal layout (state_of (running layout tasks store)) group stripe members
    ≡ scrub_refusal_in (tasks_in (parts_in layout store.state) tasks) stripe members (Some (kept_by view.members kept))
unfolding scrub_refusal state_with
refusal_so layout tasks store group stripe members kept view boot found is =
    let node = tasks_in (parts_in layout store.state) tasks in
    ap (λ (s : Node). scrub_refusal layout s group stripe members) (seen_so layout tasks store boot)
    ∙ ap (λ (o : Option Group). scrub_refusal_in node stripe members (option_map (kept_by (node.learnt group.0).view.members) o)) found
    ∙ ap (λ (v : View). scrub_refusal_in node stripe members (Some (kept_by v.members kept))) (sym is)

-- it begins in that view
pub scrubbed_so : (layout : Layout) (me : BrickId) (now : ℕ) (node : Node) (group : GroupId) (stripe : StripeNo) (members : List BrickId) (kept : Group) (view : View)
    → view ≡ (node.learnt group.0).view → group_of layout group.0 ≡ Some kept
    → scrubbed_at (coding layout) me now node group stripe members
    ≡ scrubbed_by (coding layout) (group_in_view layout view.members group.0) view now group stripe members me node
unfolding scrubbed_at
scrubbed_so layout me now node group stripe members kept view is found =
    ap (λ (o : Option Group). scrubbed_in (coding layout) me now node group stripe members (option_map (kept_by (node.learnt group.0).view.members) o)) found
    ∙ (λ i. (let c = record (coordinator_in (kept_by (sym is i).members kept) (sym is i) me now node (scrub_ask group stripe)) { only = Some members } in
    begun_aside (coding layout) me (scrubbing node c) c))
    ∙ ap (λ (g : Group). (let c = record (coordinator_in g view me now node (scrub_ask group stripe)) { only = Some members } in
    begun_aside (coding layout) me (scrubbing node c) c)) (sym (group_in_view_is layout view.members group.0 kept found))
