-- What a brick sends to teach views.
use Rattle.std.specs.Prelude.{◌≡◌, Bool, true, nat_lt, ◌&&◌, if◌then◌else◌, Some, List, [], ◌∷◌}
use Rattle.fab_base.specs.declared.identities.BrickId.{BrickId}
use Rattle.fab_base.specs.declared.identities.GroupId.{GroupId}
use Rattle.fab_base.specs.declared.member_lists.View.{View}
use Rattle.fab_base.specs.Layouts.{Layout, group_of}
use Rattle.messages.specs.declared.calls.Call.{Call}
use Rattle.messages.specs.declared.packets.Message.{Message}
use Rattle.messages.specs.declared.replies.Reply.{Reply}
use Rattle.protocol.specs.Views.{view_told}
use Rattle.protocol.specs.Nodes.{Node, counts_here, may_teach}

-- each of these messages, right after one that teaches its receiver this view
abbrev pub each_taught : GroupId → View → List (BrickId × Message) → List (BrickId × Message)
each_taught group view [] = []
each_taught group view (sent ∷ messages) = (sent.0, Message.Learn group view) ∷ (sent ∷ each_taught group view messages)

-- messages of a view: those of a later one than view 1 teach their receivers that view first
abbrev pub teaching : GroupId → View → List (BrickId × Message) → List (BrickId × Message)
teaching group view messages = if nat_lt 1 view.number.0 then each_taught group view messages else messages

-- a reply teaches a brick the view that it tells: the view's lists may keep the call's group, and the reply counts
abbrev pub is_taught : Layout → Node → BrickId → Call → Reply → Bool
is_taught layout node from call reply =
    may_teach layout (view_told reply) (group_of layout call.group.0) && counts_here layout from call reply node.proposal (node.calls call.seq)

-- The reply tells this view, and teaches it.
pub record Teaches (layout : Layout) (node : Node) (from : BrickId) (call : Call) (reply : Reply) (view : View) : Type 0 where
  pub told : view_told reply ≡ Some view
  pub counts : is_taught layout node from call reply ≡ true
