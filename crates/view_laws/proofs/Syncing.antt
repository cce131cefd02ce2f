-- A brick that hears that all stripes of a group are kept in a view: it stays, or notes that of the view that it has learnt.
use Rattle.std.proofs.Common.{◌≡◌, ℕ, Bool, true, false, cond, ◌&&◌, List, None, refl, sym, ap, subst, nat_eq, is_some}
use Rattle.std.specs.Prelude.{not}
use Rattle.std.proofs.lemmas.Bool.{cond_both, and_parts, eqb-true, eq-eqb, not-true}
use Rattle.fab_base.specs.declared.identities.GroupId.{GroupId}
use Rattle.fab_base.specs.declared.identities.ViewNo.{ViewNo}
use Rattle.fab_base.specs.Layouts.{Layout, group_of}
use Rattle.synod_laws.specs.Synods.{Kept}
use Rattle.fab_base.specs.declared.identities.BrickId.{BrickId}
use Rattle.protocol.specs.Views.{Learnt, is_unsynced, notes_synced}
use Rattle.protocol.specs.Nodes.{Node, view_at, with_learnt, node_synced}
use Rattle.protocol.proofs.Tables.{put_each}

-- what it has learnt of a group, once all stripes are known to be kept in the view
abbrev pub synced_of : Node → ℕ → Learnt
synced_of node group = record (node.learnt group) { synced = true }

-- it stays, or notes the view that it has learnt, which it did not know to be synced
pub synced_each : (P : Node → Type 0) (layout : Layout) (node : Node) (group : GroupId) (number : ViewNo) → P node
    → (number.0 ≡ view_at node group.0 → (node.learnt group.0).synced ≡ false → P (with_learnt layout.block group.0 node (synced_of node group.0)))
    → P (node_synced layout node group number)
unfolding node_synced notes_synced
synced_each P layout node group number stays notes =
    cond_both (is_some (group_of layout group.0) && is_unsynced (node.learnt group.0) number.0)
    (with_learnt layout.block group.0 node (notes_synced (node.learnt group.0) number.0)) node P
    (λ both.
    let unsynced = (and_parts (is_some (group_of layout group.0)) (is_unsynced (node.learnt group.0) number.0) both).1 in
    let tests = and_parts (nat_eq number.0 (view_at node group.0)) (not (node.learnt group.0).synced) unsynced in
    subst (λ (l : Learnt). P (with_learnt layout.block group.0 node l))
    (sym (ap (λ (t : Bool). cond t (synced_of node group.0) (node.learnt group.0)) unsynced))
    (notes (eqb-true number.0 (view_at node group.0) tests.0) (not-true (node.learnt group.0).synced tests.1)))
    (λ isnt. stays)

-- as it notes the view, each group stays in the view that it was in
pub synced_views : (layout : Layout) (node : Node) (group : ℕ) (g : ℕ)
    → (((with_learnt layout.block group node (synced_of node group)).learnt g).view ≡ (node.learnt g).view)
    × ((with_learnt layout.block group node (synced_of node group)).ballots g ≡ node.ballots g)
synced_views layout node group g = (
  put_each (λ h (l : Learnt). l.view ≡ (node.learnt h).view) node.learnt group (synced_of node group) refl (λ h other. refl) g,
  put_each (λ h (b : Kept (List BrickId)). b ≡ node.ballots h) node.ballots group _
      (ap (λ (t : Bool). cond t (node.ballots group) None) (eq-eqb (view_at node group) (view_at node group) refl)) (λ h other. refl) g,
)
