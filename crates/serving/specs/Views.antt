-- The serving brick that a node and what is known beside it are.
use Rattle.std.specs.Prelude.{◌≡◌, ◌⊎◌, ℕ, true, List, Some}
use Rattle.fab_base.specs.declared.member_lists.View.{View}
use Rattle.fab_base.specs.Layouts.{Layout, Group, group_of, first_view}
use Rattle.node.specs.Running.{Running, state_of, ImageShows}
use Rattle.protocol.specs.Jobs.{Job}
use Rattle.protocol.specs.Nodes.{no_calls}
use Rattle.protocol.specs.Proposals.{Proposal}
use Rattle.protocol.specs.Views.{is_view}
use Rattle.stripe_code.specs.Codes.{coding}
use Rattle.view_synod.specs.Proposers.{IsUnderWay}
use Rattle.serving.specs.declared.servers.Server.{Server}
use Rattle.serving.specs.Clients.{waiting_in}
use Rattle.serving.specs.Ports.{ports_of}
use Rattle.serving.specs.Servings.{Serving, begun}
use Rattle.serving.specs.Turns.{AllCanBeSent}

abbrev pub serving_of : {D : Type 0} → Server → Running D → Serving
serving_of server node = record { node = state_of node; waiting = waiting_in server.clients; ticked = server.ticked }

-- it knows the brick's number, and the ports of its layout
pub record IsServerOf {D : Type 0} (server : Server) (node : Running D) : Type 0 where
  pub ports : server.ports ≡ ports_of node.layout
  pub me : server.me ≡ node.me

-- a view of a group of the layout: the first, or one whose lists of members may keep the group
abbrev pub IsViewOf : Layout → Group → View → Type 0
IsViewOf layout group view = (view ≡ first_view group.members) ⊎ (is_view group.m layout.bricks view ≡ true)

-- a proposal of a brick of the layout, whose lists of members may keep the group that it is about
pub record IsProposalOf (layout : Layout) (p : Proposal) : Type 0 where
  pub group : Group
  pub at : group_of layout p.call.group.0 ≡ Some group
  pub m : p.m ≡ group.m
  pub view : IsViewOf layout group p.view
  pub under_way : IsUnderWay layout.bricks p

-- a synchronisation of a brick of the layout, of a view whose lists of members may keep the group that it is about
pub record IsJobOf (layout : Layout) (job : Job) : Type 0 where
  pub group : Group
  pub at : group_of layout job.group.0 ≡ Some group
  pub view : IsViewOf layout group job.view

-- Of a brick that the image of a disk shows, that has no operation open, and whose proposal and synchronisation, if it has them, are of its layout, as one that
-- was just started: whatever comes in turns, each message that they send can be sent.
abbrev pub SendsAll : {D : Type 0} → Running D → Type 0
SendsAll node =
    (image : List ℕ) → ImageShows node.layout node.me (state_of node) image → (state_of node).calls ≡ no_calls
    → ((p : Proposal) → (state_of node).proposal ≡ Some p → IsProposalOf node.layout p)
    → ((job : Job) → (state_of node).job ≡ Some job → IsJobOf node.layout job)
    → AllCanBeSent (coding node.layout) node.me (begun (state_of node))
