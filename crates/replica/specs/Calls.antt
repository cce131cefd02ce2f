-- What a message makes a member's store append to its list, and how many calls of the disk's `write_at` and `sync` that makes.
use Rattle.std.specs.Prelude.{ℕ, ◌+◌, Bool, true, false, not, nat_eq, nat_lt, ◌&&◌, ◌||◌, if◌then◌else◌, List, [], ◌∷◌, length, Option, Some, None}
use Rattle.std.specs.Option.{option_map}
use Rattle.fab_base.specs.declared.identities.BrickId.{BrickId}
use Rattle.fab_base.specs.declared.stamps.Ballot.{Ballot}
use Rattle.fab_base.specs.Stamps.{stamp_same}
use Rattle.fab_base.specs.Layouts.{Layout}
use Rattle.frame_store.specs.declared.shapes.Shape.{Shape}
use Rattle.messages.specs.declared.packets.Message.{Message}
use Rattle.messages.specs.declared.packets.Message.TheVariants as message
use Rattle.messages.specs.declared.requests.Request.{Request}
use Rattle.messages.specs.declared.requests.Request.TheVariants.{Modify}
use Rattle.brick_store.specs.Calls.{Append, append_of, append_calls, calls_for}
use Rattle.brick_store.specs.Sizes.{slot_size, stamped_size, ballots_size, view_size}
use Rattle.synod_laws.specs.Synods.{Kept, last_of}
use Rattle.protocol.specs.Views.{Learnt}
use Rattle.protocol.specs.Replicas.{Replica}
use Rattle.protocol.specs.Nodes.{Node, replica_at}
use Rattle.replica.specs.Reactions.{member_step}

-- A version that a request stores shares the block of the newest one where the request is a Modify that tells no change.
abbrev pub shares_block : Request → Bool
shares_block (Modify t base j delta) = nat_eq (length delta) 0
shares_block request = false

-- What keeps a version: a record that says that it shares the newest one's block, or a record and a block.
abbrev pub stored_append : Bool → Append
stored_append shares = if shares then append_of stamped_size append_calls else append_of (stamped_size + slot_size) (append_calls + 1)

-- What keeps what changed of a part: nothing, a version, or a record of an order stamp or of what was dropped.
abbrev pub part_append : Bool → Replica → Replica → Option Append
part_append shares before after =
    if nat_lt (length before.log) (length after.log) then Some (stored_append shares)
    else if nat_eq (length after.log) (length before.log) && stamp_same before.order after.order then None
    else Some (append_of stamped_size append_calls)

-- two ballots are the same
abbrev pub same_ballot : Ballot → Ballot → Bool
same_ballot a b = nat_eq a.round b.round && (nat_eq a.brick.0 b.brick.0 && nat_eq a.boot b.boot)

-- two lists of members are the same
abbrev pub same_members : List BrickId → List BrickId → Bool
same_members [] [] = true
same_members (a ∷ left) (b ∷ right) = nat_eq a.0 b.0 && same_members left right
same_members left right = false

-- the same list was accepted, under the same ballot, or none was
abbrev pub same_accepted : Option (Ballot × List BrickId) → Option (Ballot × List BrickId) → Bool
same_accepted None None = true
same_accepted (Some a) (Some b) = same_ballot a.0 b.0 && same_members a.1 b.1
same_accepted left right = false

-- the same ballot is promised to, or none
abbrev pub same_promised : Option Ballot → Option Ballot → Bool
same_promised None None = true
same_promised (Some a) (Some b) = same_ballot a b
same_promised left right = false

-- the same is kept of ballots
abbrev pub same_ballots : Kept (List BrickId) → Kept (List BrickId) → Bool
same_ballots left right =
    same_promised (option_map (λ kept. kept.0) left) (option_map (λ kept. kept.0) right) && same_accepted (last_of left) (last_of right)

-- What keeps what changed of ballots: nothing, or a record of the ballot that was promised to and of the list that was accepted.
abbrev pub ballot_append : Kept (List BrickId) → Kept (List BrickId) → Option Append
ballot_append before after = if same_ballots before after then None else Some (append_of (ballots_size (last_of after)) append_calls)

-- the same view is learnt, and it is not newly known that all stripes are kept in it
abbrev pub same_learnt : Learnt → Learnt → Bool
same_learnt before after = nat_eq before.view.number.0 after.view.number.0 && (before.synced || not after.synced)

-- What keeps what was learnt: nothing, where that is the same, or a record of the view.
abbrev pub learnt_append : Learnt → Learnt → Option Append
learnt_append before after = if same_learnt before after then None else Some (append_of (view_size after.view) append_calls)

-- the first of these that keeps something
abbrev pub either_append : Option Append → Option Append → Option Append
either_append None other = other
either_append (Some append) other = Some append

-- What keeps what a message makes a brick of the machine change. A request changes a part or ballots, and never both.
abbrev pub message_append : Layout → BrickId → BrickId → Node → Message → Option Append
message_append layout me from node (message.Request call request) =
    either_append
    (part_append (shares_block request) (replica_at node call) (replica_at (member_step layout me from node (message.Request call request)).node call))
    (ballot_append (node.ballots call.group.0) ((member_step layout me from node (message.Request call request)).node.ballots call.group.0))
message_append layout me from node (message.Learn group view) =
    learnt_append (node.learnt group.0) ((member_step layout me from node (message.Learn group view)).node.learnt group.0)
message_append layout me from node (message.Synced group number) =
    learnt_append (node.learnt group.0) ((member_step layout me from node (message.Synced group number)).node.learnt group.0)
message_append layout me from node message = None

-- so many calls keep it, over a list of frames of so many bytes
abbrev pub message_calls : Layout → BrickId → BrickId → Shape → ℕ → Node → Message → ℕ
message_calls layout me from shape listed node message = calls_for shape listed (message_append layout me from node message)
