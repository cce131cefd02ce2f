-- A vote, and what is heard of a view, from the change of the store that they make.
use Rattle.std.proofs.Common.{◌≡◌, ℕ, ◌<◌, Bool, true, false, cond, eqb, not, Option, Some, None, List, Result, Ok, refl, sym, ap, subst, ◌∙◌}
use Rattle.std.specs.Prelude.{◌&&◌, is_some, IsSome}
use Rattle.std.specs.Option.{option_map}
use Rattle.std.proofs.lemmas.Bool.{and_parts}
use Rattle.fab_base.specs.declared.identities.BrickId.{BrickId}
use Rattle.fab_base.specs.declared.identities.GroupId.{GroupId}
use Rattle.fab_base.specs.declared.identities.ViewNo.{ViewNo}
use Rattle.fab_base.specs.declared.member_lists.View.{View}
use Rattle.fab_base.specs.declared.stamps.Ballot.{Ballot}
use Rattle.fab_base.specs.Layouts.{Layout, group_of}
use Rattle.fab_disk.specs.declared.disk.Disk as on_disk
use Rattle.messages.specs.declared.calls.Call.{Call}
use Rattle.messages.specs.declared.packets.Message.{Message}
use Rattle.messages.specs.declared.replies.Reply.{Reply}
use Rattle.version_log.specs.Versions.{Version}
use Rattle.brick_state.specs.States.{StateOf, group_at, balloted, is_numbered, viewed}
use Rattle.brick_store.specs.declared.faults.StoreFault.{StoreFault}
use Rattle.brick_store.specs.Blocks.{all_synced, learnt_of, synced_to}
use Rattle.brick_store.specs.Bricks.{Brick}
use Rattle.brick_store.specs.Calls.{append_of, append_calls, calls_of}
use Rattle.brick_store.specs.Changes.{Answers}
use Rattle.brick_store.specs.Ends.{BrickChange}
use Rattle.brick_store.specs.Ends as store_ends
use Rattle.brick_store.specs.Sizes.{ballots_size, known_size, view_size}
use Rattle.synod_laws.specs.Synods.{Kept, last_of}
use Rattle.view_synod.specs.Acceptors.{Acceptor}
use Rattle.protocol.specs.Views.{Learnt, first_learnt, is_later, is_unsynced, learns, notes_synced}
use Rattle.protocol.specs.Ballots.{Voted}
use Rattle.protocol.specs.Nodes.{Node, may_teach, with_learnt, node_taught, node_learnt, node_synced}
use Rattle.replica.specs.declared.faults.ReplicaFault.{ReplicaFault}
use Rattle.replica.specs.Parts.{ballots_in, learnt_or, learnt_in, is_to_learn, is_to_note, IsPartsOf}
use Rattle.replica.specs.Reactions.{IsVoted, IsStep}
use Rattle.replica.specs.Handling.{Runs, KeepsAll, answered, seen_as}
use Rattle.replica.specs.Calls.{same_ballots, ballot_append, learnt_append, message_append}
use Rattle.replica.proofs.Answering.{HandlesBy, changed_next, handles_none}
use Rattle.replica.proofs.Messages.{HandlesMessage, message_none, message_seen}
use Rattle.replica.proofs.Learning.{learnt_append_none, learnt_moves, lists_learnt, parts_learnt, view_appended, numbered_later, more_later, lists_later, taught_is, numbered_synced, more_synced, lists_synced, noted_is}
use Rattle.replica.proofs.Voting.{ballots_are, voted_same, voted_kept, vote_moves}

differ : {A : Type 0} → false ≡ true → A
differ h = absurd cc

-- what a vote promises of the store
abbrev pub VoteKept : {D : Type 0} → on_disk.Ghosts D → Brick D → Call → Voted → Result (Option Reply) ReplicaFault → Brick D → Type 0
VoteKept d old call vote result new =
    HandlesBy d (ballot_append (ballots_in old.state call.group.0) vote.kept) (IsVoted call old.state vote) old new result

-- an acceptor has voted so: the reply is the vote's, and so is what it keeps
pub record IsCast (vote : Voted) (reply : Reply) (acceptor : Acceptor) : Type 0 where
  pub reply_is : reply ≡ vote.reply
  pub kept_is : acceptor.kept ≡ vote.kept

module _ {D : Type 0} (d : on_disk.Ghosts D)
    (only_now : (disk : D) (image : List ℕ) → d.left_since disk (d.moment disk) image → d.may_leave disk image) (old : Brick D) (runs : Runs d old) where
  -- ---- a vote

  module _ (call : Call) (vote : Voted) (reply : Reply) (acceptor : Acceptor) (cast : IsCast vote reply acceptor) where
    abbrev kept : Kept (List BrickId)
    kept = ballots_in old.state call.group.0

    abbrev VotedSo : Option Reply → StateOf Version → Type 0
    VotedSo = IsVoted call old.state vote

    -- whether the same was kept already
    same_is : (b : Bool) → same_ballots kept acceptor.kept ≡ b → same_ballots kept vote.kept ≡ b
    same_is b is = ap (same_ballots kept) (sym cast.kept_is) ∙ is

    -- that leaves nothing new to keep
    pub vote_told : same_ballots kept acceptor.kept ≡ true → VoteKept d old call vote (Ok (Some reply)) old
    vote_told is =
        handles_none d only_now VotedSo old runs (ballot_append kept vote.kept) none (Some reply)
        (subst (λ (r : Reply). VotedSo (Some r) old.state) (sym cast.reply_is) (voted_same call old.state vote (ballots_are kept vote.kept (same_is true is))))
      where
        none : ballot_append kept vote.kept ≡ None
        none = ap (λ (b : Bool). cond b None (Some (append_of (ballots_size (last_of vote.kept)) append_calls))) (same_is true is)

    -- of which a record is kept
    pub vote_kept : call.group.0 < 64 → (promised : Ballot) (accepted : Option (Ballot × List BrickId)) → same_ballots kept acceptor.kept ≡ false
        → (same_ballots kept vote.kept ≡ false → vote.kept ≡ Some (promised, accepted)) → (new : Brick D) (answer : Result (Unit {0}) StoreFault)
        (result : Result (Option Reply) ReplicaFault) → result ≡ answered (Some reply) answer
        → BrickChange d (calls_of old (ballots_size accepted) append_calls) old (balloted call.group.0 promised accepted old.state) new.disk
        (store_ends.end_of answer)
        → Answers old new (balloted call.group.0 promised accepted old.state) (ballots_size accepted) false answer → VoteKept d old call vote result new
    vote_kept few promised accepted is grants new answer result result_is run change =
        changed_next d VotedSo old new (balloted call.group.0 promised accepted old.state) (ballots_size accepted) false append_calls (Some vote.reply) runs
        (λ room. follows) (λ adds. absurd cc) (λ layout same. vote_moves call old.state vote _ other follows layout old.shape.block same) only_now
        (ballot_append kept vote.kept) (λ room. appended) (λ adds. absurd cc) answer result
        (result_is ∙ ap (λ (r : Reply). answered (Some r) answer) cast.reply_is) run change
      where
        other : same_ballots kept vote.kept ≡ false
        other = same_is false is

        follows : VotedSo (Some vote.reply) (balloted call.group.0 promised accepted old.state)
        follows = voted_kept call old.state vote runs.ordered.groups few promised accepted (grants other)

        appended : ballot_append kept vote.kept ≡ Some (append_of (ballots_size accepted) append_calls)
        appended =
            ap (λ (b : Bool). cond b None (Some (append_of (ballots_size (last_of vote.kept)) append_calls))) other
            ∙ ap (λ (k : Kept (List BrickId)). Some (append_of (ballots_size (last_of k)) append_calls)) (grants other)

  -- ---- what is heard of a view

  module _ (layout : Layout) (me from : BrickId) (notice : Message) where
    abbrev Taken : Option Message → StateOf Version → Type 0
    Taken = IsStep layout me from notice old.state

    abbrev pub NoticeKept : Result (Option Message) ReplicaFault → Brick D → Type 0
    NoticeKept result new = HandlesMessage d layout me from notice old new result

    -- of which a record of a view is kept, and no reply is given
    module _ (after : StateOf Version) (size : ℕ) (follows : Taken None after)
        (moves : (other : Layout) (block : ℕ) → KeepsAll other block old.state after → ⊥)
        (appended : (node : Node) → IsPartsOf layout old.state node → message_append layout me from node notice ≡ Some (append_of size append_calls)) where
      abbrev TakenSo : Option Reply → StateOf Version → Type 0
      TakenSo reply st = (reply ≡ None) × Taken None st

      unanswered : (f : Reply → Message) (answer : Option Reply) (st : StateOf Version) → TakenSo answer st → Taken (option_map f answer) st
      unanswered f answer st is = subst (λ (a : Option Reply). Taken (option_map f a) st) (sym is.0) is.1

      notice_kept : (new : Brick D) (answer : Result (Unit {0}) StoreFault) (result : Result (Option Message) ReplicaFault) (f : Reply → Message)
          → result ≡ seen_as f (answered None answer)
          → BrickChange d (calls_of old size append_calls) old after new.disk (store_ends.end_of answer) → Answers old new after size false answer
          → NoticeKept result new
      notice_kept new answer result f is run change =
          message_seen d only_now old runs layout me from notice f TakenSo (unanswered f) (Some (append_of size append_calls)) appended new
          (answered None answer) result is
          (changed_next d TakenSo old new after size false append_calls None runs (λ room. (refl, follows)) (λ adds. absurd cc)
          (λ other same. moves other old.shape.block same) only_now (Some (append_of size append_calls)) (λ room. refl) (λ adds. absurd cc) answer
          (answered None answer) refl run change)

  -- ---- a view that is taught

  module _ (layout : Layout) (me from : BrickId) (group : GroupId) (view : View) where
    abbrev taught : Message
    taught = Message.Learn group view

    -- a brick that is not to learn it stays as it is
    stays_as : (node : Node) → IsPartsOf layout old.state node → is_to_learn layout old.state group.0 view ≡ false → node_learnt layout node group view ≡ node
    unfolding node_learnt node_taught
    stays_as node parts none = by (may_teach layout (Some view) (group_of layout group.0)) none
      where
        by : (b : Bool) → (b && is_later (learnt_in layout old.state group.0) view) ≡ false
            → cond b (node_taught layout.block group.0 node view) node ≡ node
        by false h = refl
        by true h = ap (λ (x : Bool). cond x (with_learnt layout.block group.0 node (learns (node.learnt group.0) view)) node) (ap (λ (l : Learnt). is_later l view) (parts.learnt group.0) ∙ h)

    pub view_left : is_to_learn layout old.state group.0 view ≡ false → NoticeKept layout me from taught (Ok None) old
    view_left none = message_none d only_now old runs layout me from taught None
        (record {
          packets = λ node parts. refl;
          parts = λ node parts. subst (λ (n : Node). IsPartsOf layout old.state n) (sym (stays_as node parts none)) parts;
          lists = λ stand. stand;
        })
        (λ node parts. ap (λ (n : Node). learnt_append (node.learnt group.0) (n.learnt group.0)) (stays_as node parts none)
        ∙ learnt_append_none (node.learnt group.0))

    module _ (few : group.0 < 64) (to_learn : is_to_learn layout old.state group.0 view ≡ true) (above : learnt_of (group_at old.state group.0) < view.number.0) where
      may : may_teach layout (Some view) (group_of layout group.0) ≡ true
      may = (and_parts _ _ to_learn).0

      numbered : eqb view.number.0 (learnt_in layout old.state group.0).view.number.0 ≡ is_numbered (group_at old.state group.0).known view.number.0
      numbered = numbered_later layout old.state group.0 view above

      -- a brick that is to learn it does
      learns_as : (node : Node) → IsPartsOf layout old.state node
          → node_learnt layout node group view ≡ with_learnt layout.block group.0 node (record { view = view; synced = false })
      unfolding node_learnt
      learns_as node parts =
          ap (λ (b : Bool). cond b (node_taught layout.block group.0 node view) node) may
          ∙ taught_is layout old.state group.0 view above node parts

      pub view_kept : (new : Brick D) (answer : Result (Unit {0}) StoreFault) (result : Result (Option Message) ReplicaFault) (f : Reply → Message)
          → result ≡ seen_as f (answered None answer)
          → BrickChange d (calls_of old (view_size view) append_calls) old (viewed group.0 view false old.state) new.disk (store_ends.end_of answer)
          → Answers old new (viewed group.0 view false old.state) (view_size view) false answer → NoticeKept layout me from taught result new
      view_kept =
          let long = runs.ordered.groups in
          notice_kept layout me from taught (viewed group.0 view false old.state) (view_size view)
          (record {
            packets = λ node parts. refl;
            parts = λ node parts. subst (λ (n : Node). IsPartsOf layout (viewed group.0 view false old.state) n) (sym (learns_as node parts))
                (parts_learnt layout old.state group.0 view false long few numbered node parts);
            lists = lists_learnt layout old.state group.0 view false long few numbered (lists_later layout old.state group.0 view above may);
          })
          (learnt_moves layout old.state group.0 view false long few numbered (more_later layout old.state group.0 view above))
          (λ node parts. ap (λ (n : Node). learnt_append (node.learnt group.0) (n.learnt group.0)) (learns_as node parts)
          ∙ view_appended layout old.state group.0 view false long few numbered node parts (more_later layout old.state group.0 view above layout))

  -- ---- a view that is told to be synced

  module _ (layout : Layout) (me from : BrickId) (group : GroupId) (number : ViewNo) where
    abbrev told : Message
    told = Message.Synced group number

    -- a brick that is not to note it stays as it is
    notes_none : (node : Node) → IsPartsOf layout old.state node → is_to_note layout old.state group.0 number.0 ≡ false → node_synced layout node group number ≡ node
    unfolding node_synced
    notes_none node parts none =
        ap (λ (b : Bool). cond b (with_learnt layout.block group.0 node (notes_synced (node.learnt group.0) number.0)) node)
        (ap (λ (l : Learnt). is_some (group_of layout group.0) && is_unsynced l number.0) (parts.learnt group.0) ∙ none)

    pub synced_left : is_to_note layout old.state group.0 number.0 ≡ false → NoticeKept layout me from told (Ok None) old
    synced_left none = message_none d only_now old runs layout me from told None
        (record {
          packets = λ node parts. refl;
          parts = λ node parts. subst (λ (n : Node). IsPartsOf layout old.state n) (sym (notes_none node parts none)) parts;
          lists = λ stand. stand;
        })
        (λ node parts. ap (λ (n : Node). learnt_append (node.learnt group.0) (n.learnt group.0)) (notes_none node parts none)
        ∙ learnt_append_none (node.learnt group.0))

    module _ (few : group.0 < 64) (to_note : is_to_note layout old.state group.0 number.0 ≡ true) (some : IsSome (group_at old.state group.0).known) where
      -- it is of the view that the store has learnt
      abbrev named : Option (View × Bool) → Type 0
      named known = (view : View) × (known ≡ Some (view, false))

      known_here : named (group_at old.state group.0).known
      known_here = by (group_at old.state group.0).known some (and_parts _ _ to_note).1
        where
          by : (known : Option (View × Bool)) → IsSome known → is_unsynced (learnt_or (first_learnt layout group.0) known) number.0 ≡ true → named known
          by None some' new = absurd cc
          by (Some (view, synced)) some' new = (view, ap (λ (b : Bool). Some (view, b)) (unsynced synced (and_parts _ _ new).1))
            where
              unsynced : (b : Bool) → not b ≡ true → b ≡ false
              unsynced true h = differ h
              unsynced false h = refl

      module _ (view : View) (known : (group_at old.state group.0).known ≡ Some (view, false)) where
        abbrev synced_now : StateOf Version
        synced_now = viewed group.0 view true old.state

        numbered_told : eqb view.number.0 (learnt_in layout old.state group.0).view.number.0 ≡ is_numbered (group_at old.state group.0).known view.number.0
        numbered_told = numbered_synced layout old.state group.0 view known

        notes_as : (node : Node) → IsPartsOf layout old.state node
            → node_synced layout node group number ≡ with_learnt layout.block group.0 node (record { view = view; synced = true })
        notes_as = noted_is layout old.state group.0 view known group number refl to_note

        view_noted : (new : Brick D) (answer : Result (Unit {0}) StoreFault) (result : Result (Option Message) ReplicaFault) (f : Reply → Message)
            → result ≡ seen_as f (answered None answer)
            → BrickChange d (calls_of old (view_size view) append_calls) old synced_now new.disk (store_ends.end_of answer)
            → Answers old new synced_now (view_size view) false answer → NoticeKept layout me from told result new
        view_noted =
            let long = runs.ordered.groups in
            notice_kept layout me from told synced_now (view_size view)
            (record {
              packets = λ node parts. refl;
              parts = λ node parts. subst (λ (n : Node). IsPartsOf layout synced_now n) (sym (notes_as node parts))
                  (parts_learnt layout old.state group.0 view true long few numbered_told node parts);
              lists = lists_learnt layout old.state group.0 view true long few numbered_told (lists_synced layout old.state group.0 view known);
            })
            (learnt_moves layout old.state group.0 view true long few numbered_told (more_synced layout old.state group.0 view known))
            (λ node parts. ap (λ (n : Node). learnt_append (node.learnt group.0) (n.learnt group.0)) (notes_as node parts)
            ∙ view_appended layout old.state group.0 view true long few numbered_told node parts (more_synced layout old.state group.0 view known layout))

      pub synced_kept : (new : Brick D) (answer : Result (Unit {0}) StoreFault) (result : Result (Option Message) ReplicaFault) (f : Reply → Message)
          → result ≡ seen_as f (answered None answer)
          → BrickChange d (calls_of old (known_size (group_at old.state group.0).known) append_calls) old (all_synced group.0 old.state) new.disk
          (store_ends.end_of answer)
          → Answers old new (all_synced group.0 old.state) (known_size (group_at old.state group.0).known) false answer → NoticeKept layout me from told result new
      synced_kept new answer result f is run change =
          let view = known_here.0 in
          let known = known_here.1 in
          let after_is : all_synced group.0 old.state ≡ viewed group.0 view true old.state =
          ap (λ (k : Option (View × Bool)). synced_to (option_map (λ l. l.0) k) group.0 old.state) known in
          let size_is : known_size (group_at old.state group.0).known ≡ view_size view = ap known_size known in
          view_noted view known new answer result f is
          (subst (λ (n : ℕ). BrickChange d (calls_of old n append_calls) old (viewed group.0 view true old.state) new.disk (store_ends.end_of answer)) size_is
          (subst (λ (st : StateOf Version). BrickChange d (calls_of old (known_size (group_at old.state group.0).known) append_calls) old st new.disk
          (store_ends.end_of answer)) after_is run))
          (subst (λ (n : ℕ). Answers old new (viewed group.0 view true old.state) n false answer) size_is
          (subst (λ (st : StateOf Version). Answers old new st (known_size (group_at old.state group.0).known) false answer) after_is change))
