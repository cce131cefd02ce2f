-- A message that makes no call of the disk changes nothing that is kept.
use Rattle.std.proofs.Common.{◌≡◌, ℕ, suc, Bool, true, false, cond, nat_lt, Option, Some, None, List, [], ◌∷◌, ◌++◌, map, refl, sym, ◌∙◌, ap, subst, arith, eq-eqb}
use Rattle.std.specs.Prelude.{replicate, nat_eq, not, ◌&&◌, ◌||◌, is_some}
use Rattle.std.proofs.lemmas.Bool.{and_parts, cond_both, eqb-true}
use Rattle.std.proofs.lemmas.Bool.Decides.{nat_tests}
use Rattle.fab_base.specs.declared.identities.BrickId.{BrickId}
use Rattle.fab_base.specs.declared.stamps.Stamp.{Stamp}
use Rattle.fab_base.specs.Stamps.{stamp_below, stamp_same, first_stamp}
use Rattle.fab_base.specs.declared.identities.GroupId.{GroupId}
use Rattle.fab_base.specs.declared.identities.ViewNo.{ViewNo}
use Rattle.fab_base.specs.declared.member_lists.View.{View}
use Rattle.fab_base.specs.Layouts.{Layout, group_of}
use Rattle.fab_base.proofs.StampOrder.{stamp_same_refl, stamp_same_true}
use Rattle.messages.specs.declared.packets.Message.{Message}
use Rattle.messages.specs.declared.requests.Version.{Version}
use Rattle.messages.specs.declared.requests.Request.{Request}
use Rattle.messages.specs.declared.requests.Request.TheVariants.{Read, Order, OrderRead, Write, Modify, Collect, OldRead, Prepare, Accept}
use Rattle.messages.specs.declared.replies.Reply.{Reply}
use Rattle.messages.specs.declared.replies.Reply.TheVariants.{Found, Ordered, OrderedRead, Stored, Behind, Later, Full}
use Rattle.version_log.specs.Versions.{Version as Kept, version}
use Rattle.brick_state.specs.States.{StripeOf, stripe_at}
use Rattle.brick_store.specs.Blocks.{log_of}
use Rattle.brick_store.specs.Bricks.{Brick}
use Rattle.brick_store.specs.Calls.{Append, append_of, append_calls, calls_for, has_room_for}
use Rattle.brick_store.specs.Sizes.{ballots_size, view_size}
use Rattle.synod_laws.specs.Synods.{Kept as Ballots, last_of}
use Rattle.stripe_code.specs.Codes.{coding}
use Rattle.protocol.specs.Settings.{Code}
use Rattle.protocol.specs.Replicas.{Replica, Reaction, handle, is_held, is_wanted, top_of, newest_of, told_version, looked_up, below, stays, unless_full, promised, stored, modified_block, modified_on, collected}
use Rattle.protocol.specs.Ballots.{Voted}
use Rattle.protocol.specs.Views.{Learnt, is_later, is_unsynced, learns, notes_synced}
use Rattle.protocol.specs.Nodes.{Node, NodeStep, put, requested, replica_at, full_at, may_teach, node_learnt, node_synced, node_taught, vote_at, with_learnt, with_replica}
use Rattle.protocol.proofs.Served.{request_each, parts_each}
use Rattle.replica.specs.Calls.{shares_block, stored_append, part_append, ballot_append, either_append, learnt_append, message_calls, same_ballots}
use Rattle.replica.specs.Parts.{as_version, IsBegun, IsPartsOf}
use Rattle.replica.specs.Reactions.{member_step}
use Rattle.replica.proofs.Dropping.{collected_other, collected_lowest}
use Rattle.replica.proofs.Runs.{same_long, append_kept, append_stored, replica_after, stamped}
use Rattle.replica.proofs.Voting.{ballots_are}
use Rattle.replica.proofs.Sharing.{append_collected}

-- what is kept takes some calls
never_none : (room : Bool) (n m : ℕ) → cond room (suc n) (suc m) ≡ 0 → ⊥
never_none true n m none = absurd cc
never_none false n m none = absurd cc

-- A member's part of a stripe, in a store.
module _ {D : Type 0} (store : Brick D) (shares : Bool) (part : Replica) where
  -- the reaction changes nothing, where no call keeps it
  abbrev Still : Reaction → Type 0
  Still reaction = calls_for store.shape store.listed (part_append shares part reaction.replica) ≡ 0 → reaction.replica ≡ part

  stay_still : (reply : Reply) → Still (stays part reply)
  stay_still reply none = refl

  full_still : (full : Option ℕ) (reaction : Reaction) → Still reaction → Still (unless_full full part reaction)
  full_still None reaction still = still
  full_still (Some live) reaction still =
      cond_both (nat_lt reaction.drops reaction.adds) (stays part (Full live)) reaction Still (λ is. stay_still (Full live)) (λ is. still)

  late_still : (t : Stamp) (reaction : Reaction) → Still reaction → Still (cond (stamp_below t (top_of part)) (stays part (Later (top_of part))) reaction)
  late_still t reaction still =
      cond_both (stamp_below t (top_of part)) (stays part (Later (top_of part))) reaction Still (λ is. stay_still (Later (top_of part))) (λ is. still)

  held_still : (t : Stamp) (reaction : Reaction) → Still reaction → Still (cond (is_held t part.log) (stays part Stored) reaction)
  held_still t reaction still = cond_both (is_held t part.log) (stays part Stored) reaction Still (λ is. stay_still Stored) (λ is. still)

  promise_still : (t : Stamp) (reply : Reply) → Still (promised part t reply)
  promise_still t reply none = by (stamp_same part.order t) refl
    where
      by : (b : Bool) → stamp_same part.order t ≡ b → record part { order = t } ≡ part
      by true same = ap (λ (o : Stamp). record part { order = o }) (sym (stamp_same_true part.order t same))
      by false other =
          absurd (never_none (has_room_for store.shape store.listed 30) 3 10
          (sym (ap (calls_for store.shape store.listed) (same_long shares part (record part { order = t }) refl
          ∙ ap (λ (b : Bool). cond b None stamped) other)) ∙ none))

  stored_still : (t : Stamp) (block : List ℕ) → Still (stored part t block)
  stored_still t block none =
      absurd (by shares (sym (ap (calls_for store.shape store.listed) (append_stored shares part (record { stamp = t; block = block }))) ∙ none))
    where
      by : (b : Bool) → calls_for store.shape store.listed (Some (stored_append b)) ≡ 0 → ⊥
      by true is = never_none (has_room_for store.shape store.listed 30) 3 10 is
      by false is = never_none (has_room_for store.shape store.listed 35) 4 11 is

  modified_still : (code : Code) (m : ℕ) (full : Option ℕ) (seat : ℕ) (t base : Stamp) (j : ℕ) (delta : List ℕ) (newest : Option Version)
      → Still (modified_on code m full seat part t base j delta newest)
  modified_still code m full seat t base j delta None = stay_still (Behind None)
  modified_still code m full seat t base j delta (Some newest) =
      let block : List ℕ = modified_block code m j seat delta newest.block in
      cond_both (stamp_same newest.stamp base) (unless_full full part (stored part t block)) (stays part (Behind (Some newest.stamp))) Still
      (λ is. full_still full (stored part t block) (stored_still t block)) (λ is. stay_still (Behind (Some newest.stamp)))

  collected_still : IsBegun part.from_start part.log → (t : Stamp) → Still (collected part t)
  collected_still begun t none = by (is_held t part.log) refl (below t part.log) refl
    where
      by : (b : Bool) → is_held t part.log ≡ b → (gone : List Version) → below t part.log ≡ gone → (collected part t).replica ≡ part
      by false other gone is = ap (λ (r : Reaction). r.replica) (sym (collected_other part t other))
      by true held [] is = ap (λ (r : Reaction). r.replica) (sym (collected_lowest part t begun is))
      by true held (v ∷ gone) is =
          absurd (never_none (has_room_for store.shape store.listed 30) 3 10
          (sym (ap (calls_for store.shape store.listed) (append_collected shares part t held
          (λ (e : below t part.log ≡ []). (let never : v ∷ gone ≡ [] = sym is ∙ e in cc)))) ∙ none))

  -- so is what a member does with any request
  handle_still : (code : Code) (m : ℕ) (full : Option ℕ) (seat : ℕ) (request : Request) → IsBegun part.from_start part.log
      → Still (handle code m full seat part request)
  unfolding handle
  handle_still code m full seat (Read want) begun = stay_still (Found part.order (told_version (is_wanted want seat) (newest_of part.log)))
  handle_still code m full seat (Order t) begun = late_still t _ (full_still full (promised part t Ordered) (promise_still t Ordered))
  handle_still code m full seat (Write t block) begun =
      held_still t _ (late_still t _ (full_still full (stored part t block) (stored_still t block)))
  handle_still code m full seat (OrderRead t look want) begun =
      let reply : Reply = OrderedRead (told_version (is_wanted want seat) (looked_up look part.log)) in
      late_still t _ (full_still full (promised part t reply) (promise_still t reply))
  handle_still code m full seat (Modify t base j delta) begun =
      held_still t _ (late_still t _ (modified_still code m full seat t base j delta (newest_of part.log)))
  handle_still code m full seat (Collect t) begun = collected_still begun t
  handle_still code m full seat (OldRead bound) begun = λ none. refl
  handle_still code m full seat (Prepare ballot) begun = λ none. refl
  handle_still code m full seat (Accept ballot members) begun = λ none. refl

-- a part that a store keeps has the first version where that is to be there
part_begun : (block : ℕ) (s : StripeOf Kept) → IsBegun s.from_start (map as_version (log_of block s))
part_begun block s = by s.from_start
  where
    by : (from : Bool) → IsBegun from (map as_version (cond from (version first_stamp (replicate block 0) ∷ []) [] ++ s.added))
    by true is = rw (stamp_same_refl first_stamp) refl
    by false is = absurd cc

-- a step leaves the views that were learnt, ballots, and the parts of stripes as they are
pub record KeepsSame (node after : Node) : Type 0 where
  pub learnt : (g : ℕ) → after.learnt g ≡ node.learnt g
  pub ballots : (g : ℕ) → after.ballots g ≡ node.ballots g
  pub replicas : (g e s : ℕ) → after.replicas g e s ≡ node.replicas g e s

all_same : (node : Node) → KeepsSame node node
all_same node = record { learnt = λ g. refl; ballots = λ g. refl; replicas = λ g e s. refl }

-- to change a function where it has the value already changes nothing
same_there : {X : Type 0} (f : ℕ → X) (k : ℕ) (v : X) → v ≡ f k → (i : ℕ) → put f k v i ≡ f i
same_there f k v is i = cond_both (nat_eq i k) v (f i) (λ z. z ≡ f i) (λ same. is ∙ ap f (sym (eqb-true i k same))) (λ other. refl)

module _ {D : Type 0} (store : Brick D) where
  -- so many calls append something
  abbrev calls_now : Option Append → ℕ
  calls_now append = calls_for store.shape store.listed append

  -- where no call appends the one that there is of two things, none appends the first, nor the second
  first_none : (a b : Option Append) → calls_now (either_append a b) ≡ 0 → calls_now a ≡ 0
  first_none None b none = refl
  first_none (Some append) b none = none

  second_none : (a b : Option Append) → a ≡ None → calls_now (either_append a b) ≡ 0 → calls_now b ≡ 0
  second_none a b is none = sym (ap (λ (o : Option Append). calls_now (either_append o b)) is) ∙ none

  -- where no call keeps a vote, ballots are as they were
  vote_still : (before after : Ballots (List BrickId)) → calls_now (ballot_append before after) ≡ 0 → after ≡ before
  vote_still before after =
      cond_both (same_ballots before after) None (Some (append_of (ballots_size (last_of after)) append_calls))
      (λ (append : Option Append). calls_now append ≡ 0 → after ≡ before)
      (λ same nothing. sym (ballots_are before after same))
      (λ other some. absurd (never_none (has_room_for store.shape store.listed (ballots_size (last_of after))) 3 10 some))

  -- a later view that is learnt is appended
  view_appended : (g : ℕ) (node : Node) (view : View) → is_later (node.learnt g) view ≡ true
      → learnt_append (node.learnt g) (put node.learnt g (learns (node.learnt g) view) g) ≡ Some (append_of (view_size view) append_calls)
  unfolding learns
  view_appended g node view later =
      let new : Learnt = record { view = view; synced = false } in
      let here : put node.learnt g (learns (node.learnt g) view) g ≡ new =
      ap (λ (b : Bool). cond b (learns (node.learnt g) view) (node.learnt g)) (eq-eqb g g refl) ∙ ap (λ (b : Bool). cond b new (node.learnt g)) later in
      let other : nat_eq (node.learnt g).view.number.0 view.number.0 ≡ false = grind (arith, nat_tests, later) in
      ap (learnt_append (node.learnt g)) here
      ∙ ap (λ (b : Bool). cond (b && ((node.learnt g).synced || true)) None (Some (append_of (view_size view) append_calls))) other

  -- where no call keeps a view that is taught, it is not learnt
  taught_still : (block g : ℕ) (node : Node) (view : View)
      → calls_now (learnt_append (node.learnt g) ((node_taught block g node view).learnt g)) ≡ 0 → KeepsSame node (node_taught block g node view)
  unfolding node_taught
  taught_still block g node view =
      cond_both (is_later (node.learnt g) view) (with_learnt block g node (learns (node.learnt g) view)) node
      (λ (n : Node). calls_now (learnt_append (node.learnt g) (n.learnt g)) ≡ 0 → KeepsSame node n)
      (λ later some. absurd (never_none (has_room_for store.shape store.listed (view_size view)) 3 10
      (sym (ap calls_now (view_appended g node view later)) ∙ some)))
      (λ isnt none. all_same node)

  learnt_still : (layout : Layout) (node : Node) (group : GroupId) (view : View)
      → calls_now (learnt_append (node.learnt group.0) ((node_learnt layout node group view).learnt group.0)) ≡ 0
      → KeepsSame node (node_learnt layout node group view)
  unfolding node_learnt
  learnt_still layout node group view =
      cond_both (may_teach layout (Some view) (group_of layout group.0)) (node_taught layout.block group.0 node view) node
      (λ (n : Node). calls_now (learnt_append (node.learnt group.0) (n.learnt group.0)) ≡ 0 → KeepsSame node n)
      (λ may. taught_still layout.block group.0 node view) (λ not none. all_same node)

  -- that the learnt view is synced is appended, where it was not known
  note_appended : (g : ℕ) (node : Node) (number : ℕ) → is_unsynced (node.learnt g) number ≡ true
      → learnt_append (node.learnt g) (put node.learnt g (notes_synced (node.learnt g) number) g) ≡ Some (append_of (view_size (node.learnt g).view) append_calls)
  unfolding notes_synced
  note_appended g node number unsynced =
      let l : Learnt = node.learnt g in
      let noted : Learnt = record l { synced = true } in
      let record_of : Option Append = Some (append_of (view_size l.view) append_calls) in
      let here : put node.learnt g (notes_synced l number) g ≡ noted =
      ap (λ (b : Bool). cond b (notes_synced l number) l) (eq-eqb g g refl) ∙ ap (λ (b : Bool). cond b noted l) unsynced in
      ap (learnt_append l) here
      ∙ ap (λ (b : Bool). cond (nat_eq l.view.number.0 l.view.number.0 && (b || false)) None record_of) (unknown l.synced (and_parts _ _ unsynced).1)
      ∙ ap (λ (b : Bool). cond (b && false) None record_of) (eq-eqb l.view.number.0 l.view.number.0 refl)
    where
      unknown : (b : Bool) → not b ≡ true → b ≡ false
      unknown true h = absurd cc
      unknown false h = refl

  synced_still : (layout : Layout) (node : Node) (group : GroupId) (number : ViewNo)
      → calls_now (learnt_append (node.learnt group.0) ((node_synced layout node group number).learnt group.0)) ≡ 0
      → KeepsSame node (node_synced layout node group number)
  unfolding node_synced
  synced_still layout node group number =
      cond_both (is_some (group_of layout group.0) && is_unsynced (node.learnt group.0) number.0)
      (with_learnt layout.block group.0 node (notes_synced (node.learnt group.0) number.0)) node
      (λ (n : Node). calls_now (learnt_append (node.learnt group.0) (n.learnt group.0)) ≡ 0 → KeepsSame node n)
      (λ notes some. absurd (never_none (has_room_for store.shape store.listed (view_size (node.learnt group.0).view)) 3 10
      (sym (ap calls_now (note_appended group.0 node number.0 (and_parts (is_some (group_of layout group.0)) _ notes).1)) ∙ some)))
      (λ not none. all_same node)

-- a message that no call of a store keeps leaves all that is kept as it is
pub all_still : {D : Type 0} (layout : Layout) (me from : BrickId) (store : Brick D) (node : Node) (message : Message)
    → IsPartsOf layout store.state node → message_calls layout me from store.shape store.listed node message ≡ 0
    → KeepsSame node (member_step layout me from node message).node
unfolding requested
all_still layout me from store node (Message.Request call request) parts =
    request_each (λ (step : NodeStep). calls_now store (either_append
    (part_append (shares_block request) (replica_at node call) (replica_at step.node call)) (ballot_append (node.ballots call.group.0) (step.node.ballots call.group.0))) ≡ 0
    → KeepsSame node step.node) (coding layout) me from node call request
    (λ none. all_same node)
    (λ reply moved none. all_same node)
    (λ group seat is served none.
    let part : Replica = replica_at node call in
    let reaction : Reaction = handle (coding layout).code group.m (full_at layout.records node.live) seat part request in
    let alone = first_none store (part_append (shares_block request) part (replica_at (with_replica node call reaction) call))
    (ballot_append (node.ballots call.group.0) (node.ballots call.group.0)) none in
    record {
      learnt = λ g. refl;
      ballots = λ g. refl;
      replicas = parts_each (λ g e s r. r ≡ node.replicas g e s) node call reaction
          (handle_still store (shares_block request) part (coding layout).code group.m (full_at layout.records node.live) seat request
          (subst (λ (r : Replica). IsBegun r.from_start r.log) (sym (parts.replicas call.group.0 call.view.0 call.stripe.0))
          (part_begun layout.block (stripe_at store.state (call.group.0, call.view.0, call.stripe.0))))
          (sym (ap (λ (r : Replica). calls_now store (part_append (shares_block request) part r)) (replica_after node call reaction)) ∙ alone))
          (λ g e s. refl);
    })
    (λ group ballot asks is none.
    let part : Replica = replica_at node call in
    let vote : Voted = vote_at node call ballot asks in
    let there = put node.ballots call.group.0 vote.kept call.group.0 in
    let alone = second_none store (part_append (shares_block request) part part) (ballot_append (node.ballots call.group.0) there)
    (append_kept (shares_block request) part) none in
    let here : there ≡ vote.kept = ap (λ (b : Bool). cond b vote.kept (node.ballots call.group.0)) (eq-eqb call.group.0 call.group.0 refl) in
    record {
      learnt = λ g. refl;
      ballots = same_there node.ballots call.group.0 vote.kept (sym here ∙ vote_still store (node.ballots call.group.0) there alone);
      replicas = λ g e s. refl;
    })
all_still layout me from store node (Message.Reply call reply) parts = λ none. all_same node
all_still layout me from store node (Message.Learn group view) parts = learnt_still store layout node group view
all_still layout me from store node (Message.Synced group number) parts = synced_still store layout node group number
all_still layout me from store node (Message.Client ask) parts = λ none. all_same node
all_still layout me from store node (Message.ClientReply id answer) parts = λ none. all_same node
