-- What of a brick has the sizes of its layout: the blocks of its logs, the lists of members that it keeps, and what its open operations, its proposal and its
-- synchronisation know and ask. So has what it sends.
use Rattle.std.proofs.Common.{◌≡◌, ℕ, ◌*◌, ◌<◌, ◌≤◌, true, List, length, Option, Some, nat_lt}
use Rattle.std.specs.List.{AllByRecursion}
use Rattle.std.specs.Option.{IfSome}
use Rattle.fab_base.specs.declared.answers.Answer.{Answer}
use Rattle.fab_base.specs.declared.identities.BrickId.{BrickId}
use Rattle.fab_base.specs.declared.member_lists.View.{View}
use Rattle.fab_base.specs.declared.stamps.Ballot.{Ballot}
use Rattle.fab_base.specs.Layouts.{Layout, Group, group_of}
use Rattle.messages.specs.declared.clients.ClientAnswer.TheVariants.{Ended}
use Rattle.messages.specs.declared.packets.Packet.{Packet}
use Rattle.messages.specs.declared.requests.Version.{Version}
use Rattle.protocol.specs.declared.phases.Counted.{Counted}
use Rattle.protocol.specs.declared.phases.Phase.{Phase}
use Rattle.protocol.specs.declared.phases.Phase.TheVariants.{LooksAt, OrdersAt, Modifies}
use Rattle.protocol.specs.declared.tellings.Answered.{Answered}
use Rattle.protocol.specs.declared.tellings.ViewAnswer.{ViewAnswer}
use Rattle.protocol.specs.declared.tellings.ViewAnswer.TheVariants as answer
use Rattle.protocol.specs.Ballots.{Voted}
use Rattle.protocol.specs.Coordinators.{Coordinator, Next, Ignores, Waits, Sends, Makes, Ends, found_bytes}
use Rattle.protocol.specs.Jobs.{Job}
use Rattle.protocol.specs.Nodes.{Node, NodeStep, has_block, has_length, view_in}
use Rattle.protocol.specs.Proposals.{Proposal, Voting, Ignored, Waited, Asks, Ended, told_choice}
use Rattle.protocol.specs.Replicas.{Reaction}
use Rattle.synod_laws.specs.Synods.{last_of}
use Rattle.serving.specs.Spellings.{has_some, has_spelling, reply_fits, answer_fits}

-- these are bricks of the layout
abbrev pub AreBricks : Layout → List BrickId → Type 0
AreBricks layout members = AllByRecursion (λ member. member.0 < layout.bricks) members

-- a version has a block of at most so many bytes
abbrev pub IsShort : ℕ → Version → Type 0
IsShort block version = length version.block ≤ block

abbrev pub AreShort : ℕ → List Version → Type 0
AreShort block log = AllByRecursion (IsShort block) log

-- a reply tells at most a block
abbrev pub TellsShort : ℕ → Counted → Type 0
TellsShort block c = length (found_bytes c.reply) ≤ block

-- a list that was told with a ballot, if one was, has a member
abbrev pub NamesSome : Option (Ballot × List BrickId) → Type 0
NamesSome told = IfSome told (λ choice. has_some choice.1 ≡ true)

-- a view has members, and if it is a later one than view 1, so had the view before it; all of them are bricks of the layout
pub record ViewFits (layout : Layout) (view : View) : Type 0 where
  pub members : AreBricks layout view.members
  pub some : has_some view.members ≡ true
  pub before : AreBricks layout view.prior
  pub prior : nat_lt 1 view.number.0 ≡ true → has_some view.prior ≡ true

-- a group within the limits of the layout, whatever bricks of it keep it
pub record GroupFits (layout : Layout) (group : Group) : Type 0 where
  pub few : group.m ≤ 16
  pub room : group.m * layout.block ≤ 32768

-- the data block that a phase asks for is one of m, and what it changes by is at most a block
abbrev pub PhaseFits : ℕ → ℕ → List ℕ → Phase → Type 0
PhaseFits m block content (LooksAt j) = j < m
PhaseFits m block content (OrdersAt j) = j < m
PhaseFits m block content (Modifies base j) = (j < m) × (length content ≤ block)
PhaseFits m block content phase = Unit {0}

-- an open operation of the layout
pub record CallFits (layout : Layout) (c : Coordinator) : Type 0 where
  pub group : GroupFits layout c.group
  pub view : ViewFits layout (view_in c)
  pub has : has_block c.group.m c.ask.op ≡ true
  pub given : has_length c.group.m layout.block c.ask.op ≡ true
  pub content : length c.content ≤ 32768
  pub phase : PhaseFits c.group.m layout.block c.content c.phase
  pub counted : AllByRecursion (TellsShort layout.block) c.counted

-- a list that a member told that it accepted, if it told one, has a member
abbrev pub TellsSome : Counted → Type 0
TellsSome c = NamesSome (told_choice c.reply)

-- a proposal of the layout
pub record ProposalFits (layout : Layout) (p : Proposal) : Type 0 where
  pub m : 1 ≤ p.m
  pub view : ViewFits layout p.view
  pub own : has_some p.own ≡ true
  pub asks : IfSome p.asks (λ members. has_some members ≡ true)
  pub counted : AllByRecursion TellsSome p.counted

-- a view that was decided has members
abbrev pub DecidesSome : ViewAnswer → Type 0
DecidesSome (answer.Decided number members) = has_some members ≡ true
DecidesSome ended = Unit {0}

-- what a proposal does with a reply
abbrev pub VotingFits : Layout → Voting → Type 0
VotingFits layout Ignored = Unit {0}
VotingFits layout (Waited p) = ProposalFits layout p
VotingFits layout (Asks p) = ProposalFits layout p
VotingFits layout (Ended call ended) = DecidesSome ended

-- a packet has a spelling, and is for a brick of the layout
pub record PacketFits (layout : Layout) (packet : Packet) : Type 0 where
  pub to : packet.to.0 < layout.bricks
  pub spelled : has_spelling packet.message ≡ true

abbrev pub PacketsFit : Layout → List Packet → Type 0
PacketsFit layout packets = AllByRecursion (PacketFits layout) packets

-- an answer has a spelling
abbrev pub IsAnswer : Answer → Type 0
IsAnswer answer = answer_fits (Ended answer) ≡ true

abbrev pub AreAnswers : List Answered → Type 0
AreAnswers answers = AllByRecursion (λ answered. IsAnswer answered.answer) answers

-- what a coordinator decided
abbrev pub NextFits : Layout → Next → Type 0
NextFits layout Ignores = Unit {0}
NextFits layout (Waits c) = CallFits layout c
NextFits layout (Sends c) = CallFits layout c
NextFits layout (Makes c) = CallFits layout c
NextFits layout (Ends answer seen stored) = IsAnswer answer

-- what a member does with a request
pub record ReactionFits (block : ℕ) (reaction : Reaction) : Type 0 where
  pub log : AreShort block reaction.replica.log
  pub reply : IfSome reaction.reply (λ reply. reply_fits reply ≡ true)

-- a member's vote: its reply has a spelling, and a list that it keeps, if it keeps one, has a member
pub record VoteFits (vote : Voted) : Type 0 where
  pub reply : reply_fits vote.reply ≡ true
  pub kept : NamesSome (last_of vote.kept)

-- a brick of the layout
pub record NodeFits (layout : Layout) (node : Node) : Type 0 where
  pub views : (g : ℕ) (group : Group) → group_of layout g ≡ Some group → ViewFits layout (node.learnt g).view
  pub accepted : (g : ℕ) (group : Group) → group_of layout g ≡ Some group → NamesSome (last_of (node.ballots g))
  pub logs : (g e s : ℕ) → AreShort layout.block (node.replicas g e s).log
  pub calls : (k : ℕ) (c : Coordinator) → node.calls k ≡ Some c → CallFits layout c
  pub proposal : (p : Proposal) → node.proposal ≡ Some p → ProposalFits layout p
  pub job : (j : Job) → node.job ≡ Some j → ViewFits layout j.view

-- and its step
pub record StepFits (layout : Layout) (step : NodeStep) : Type 0 where
  pub node : NodeFits layout step.node
  pub packets : PacketsFit layout step.packets
  pub answers : AreAnswers step.answers
