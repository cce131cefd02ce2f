-- What a brick does with a message that it serves, over its store.
use Rattle.std.proofs.Common.{◌≡◌, ◌⊎◌, ℕ, List, [], Option, Some, inl, inr, refl, sym, ◌∙◌, ap, subst}
use Rattle.std.specs.Prelude.{◌&&◌, is_some}
use Rattle.std.proofs.lemmas.Bool.{cond_both}
use Rattle.fab_base.specs.declared.identities.BrickId.{BrickId}
use Rattle.fab_base.specs.declared.identities.GroupId.{GroupId}
use Rattle.fab_base.specs.declared.identities.ViewNo.{ViewNo}
use Rattle.fab_base.specs.declared.member_lists.View.{View}
use Rattle.messages.specs.declared.calls.Call.{Call}
use Rattle.messages.specs.declared.packets.Message.{Message}
use Rattle.messages.specs.declared.requests.Request.{Request}
use Rattle.frame_store.specs.declared.shapes.Shape.{Shape}
use Rattle.version_log.specs.Versions.{Version}
use Rattle.brick_state.specs.States.{StateOf, live}
use Rattle.brick_store.specs.Bricks.{Brick}
use Rattle.brick_store.specs.Images.{StandsFor}
use Rattle.fab_base.specs.Layouts.{Layout, group_of}
use Rattle.stripe_code.specs.Codes.{coding}
use Rattle.messages.specs.declared.packets.Packet.{Packet}
use Rattle.synod_laws.specs.Synods.{Kept as Ballots}
use Rattle.protocol.specs.Replicas.{Replica}
use Rattle.protocol.specs.Views.{Learnt, is_later, is_unsynced, learns, notes_synced}
use Rattle.protocol.specs.Nodes.{Node, NodeStep, no_step, sending, requested, may_teach, node_learnt, node_synced, node_taught, with_learnt}
use Rattle.protocol.proofs.Served.{request_each}
use Rattle.replica.specs.Parts.{IsPartsOf}
use Rattle.replica.specs.Reactions.{IsStep, member_step, answer_packets}
use Rattle.replica.specs.Handling.{me_of, StandsForNext, KeepsAll}
use Rattle.replica.specs.Calls.{message_calls}
use Rattle.node.specs.declared.tasks.Tasks.{Tasks}
use Rattle.node.specs.Running.{running, state_of, shape_at, IsKept, ShowsEither, ImageShows}
use Rattle.node.proofs.States.{same_states}
use Rattle.node.proofs.Stills.{all_still}
use Rattle.node.proofs.Views.{shows_so}

-- a step that tells nothing, and changes nothing but what is kept
record KeepsCalls (old : Node) (step : NodeStep) : Type 0 where
  boot : step.node.boot ≡ old.boot
  seq : step.node.seq ≡ old.seq
  known : step.node.known ≡ old.known
  round : step.node.round ≡ old.round
  busy : step.node.busy ≡ old.busy
  calls : step.node.calls ≡ old.calls
  proposal : step.node.proposal ≡ old.proposal
  job : step.node.job ≡ old.job
  scrub : step.node.scrub ≡ old.scrub
  told : step.told ≡ []
  answers : step.answers ≡ []
  reports : step.reports ≡ []

-- whatever becomes of what is kept, and is sent
keeps_by : (node : Node) (live : ℕ) (live_in : ℕ → ℕ → ℕ) (learnt : ℕ → Learnt) (ballots : ℕ → Ballots (List BrickId))
    (replicas : ℕ → ℕ → ℕ → Replica) (packets : List Packet)
    → KeepsCalls node (sending (record node { live = live; live_in = live_in; learnt = learnt; ballots = ballots; replicas = replicas }) packets)
keeps_by node live live_in learnt ballots replicas packets =
    record {
      boot = refl;
      seq = refl;
      known = refl;
      round = refl;
      busy = refl;
      calls = refl;
      proposal = refl;
      job = refl;
      scrub = refl;
      told = refl;
      answers = refl;
      reports = refl;
    }

same_calls : (node : Node) → KeepsCalls node (no_step node)
same_calls node = keeps_by node node.live node.live_in node.learnt node.ballots node.replicas []

-- so a request does
keeps_calls : (layout : Layout) (me from : BrickId) (node : Node) (call : Call) (request : Request)
    → KeepsCalls node (requested (coding layout) me from node call request)
keeps_calls layout me from node call request =
    request_each (λ (step : NodeStep). KeepsCalls node step) (coding layout) me from node call request
    (same_calls node)
    (λ reply moved. keeps_by node _ _ _ _ _ _)
    (λ group seat is served. keeps_by node _ _ _ _ _ _)
    (λ group ballot asks is. keeps_by node _ _ _ _ _ _)

-- what is learnt of a view changes what is kept alone
learns_calls : (block g : ℕ) (node : Node) (view : View) → KeepsCalls node (no_step (node_taught block g node view))
unfolding node_taught
learns_calls block g node view =
    cond_both (is_later (node.learnt g) view) (with_learnt block g node (learns (node.learnt g) view)) node (λ (n : Node). KeepsCalls node (no_step n))
    (λ later. keeps_by node _ _ _ _ _ _) (λ isnt. same_calls node)

taught_calls : (layout : Layout) (node : Node) (group : GroupId) (view : View) → KeepsCalls node (no_step (node_learnt layout node group view))
unfolding node_learnt
taught_calls layout node group view =
    cond_both (may_teach layout (Some view) (group_of layout group.0)) (node_taught layout.block group.0 node view) node
    (λ (n : Node). KeepsCalls node (no_step n)) (λ may. learns_calls layout.block group.0 node view) (λ not. same_calls node)

-- so does a message that tells that a view is synced
synced_calls : (layout : Layout) (node : Node) (group : GroupId) (number : ViewNo) → KeepsCalls node (no_step (node_synced layout node group number))
unfolding node_synced
synced_calls layout node group number =
    cond_both (is_some (group_of layout group.0) && is_unsynced (node.learnt group.0) number.0)
    (with_learnt layout.block group.0 node (notes_synced (node.learnt group.0) number.0)) node
    (λ (n : Node). KeepsCalls node (no_step n)) (λ notes. keeps_by node _ _ _ _ _ _) (λ not. same_calls node)

-- so does each message that a member serves
serves_calls : (layout : Layout) (me from : BrickId) (node : Node) (message : Message) → KeepsCalls node (member_step layout me from node message)
unfolding requested
serves_calls layout me from node (Message.Request call request) = keeps_calls layout me from node call request
serves_calls layout me from node (Message.Reply call reply) = same_calls node
serves_calls layout me from node (Message.Learn group view) = taught_calls layout node group view
serves_calls layout me from node (Message.Synced group number) = synced_calls layout node group number
serves_calls layout me from node (Message.Client ask) = same_calls node
serves_calls layout me from node (Message.ClientReply id answer) = same_calls node

-- the machine sees as many live records as the store keeps
pub live_seen : {D : Type 0} (layout : Layout) (tasks : Tasks) (store : Brick D) → live store.state ≡ (state_of (running layout tasks store)).live
unfolding state_of
live_seen layout tasks store = refl

-- the machine's brick that a store's state and the open calls show
module _ {D : Type 0} (layout : Layout) (tasks : Tasks) (old : Brick D) (from : BrickId) (message : Message) where
  -- the store is the brick's
  pub is_me : old.shape ≡ shape_at layout tasks.work.calls.me → me_of old ≡ tasks.work.calls.me
  is_me shape = ap (λ (s : Shape). record { 0 = s.me }) shape

  -- the brick after the message
  abbrev after : NodeStep
  after = member_step layout tasks.work.calls.me from (state_of (running layout tasks old)) message

  abbrev Follows : Option Message → StateOf Version → Type 0
  Follows = IsStep layout tasks.work.calls.me from message old.state

  seen_parts : IsPartsOf layout old.state (state_of (running layout tasks old))
  unfolding state_of
  seen_parts = record { boot = refl; live = refl; live_in = λ g e. refl; learnt = λ g. refl; ballots = λ g. refl; replicas = λ g e s. refl }

  -- the state of a store that follows is the machine's
  pub follows_state : (new : Brick D) (answer : Option Message) → Follows answer new.state → state_of (running layout tasks new) ≡ after.node
  unfolding state_of
  follows_state new answer is =
      let node = state_of (running layout tasks old) in
      let keeps = serves_calls layout tasks.work.calls.me from node message in
      let parts = is.parts node seen_parts in
      same_states _ _ (sym parts.boot) (sym keeps.seq) (sym keeps.known) (sym keeps.round) (sym keeps.busy) (sym parts.live)
      (λ g e. sym (parts.live_in g e)) (λ g. sym (parts.learnt g)) (λ g. sym (parts.ballots g)) (λ g e s. sym (parts.replicas g e s))
      (λ k. ap (λ (f : ℕ → Option _). f k) (sym keeps.calls)) (sym keeps.proposal) (sym keeps.job) (sym keeps.scrub)

  -- and keeps all as it was, where no call keeps the message
  pub follows_still : (new : Brick D) (answer : Option Message) → Follows answer new.state
      → message_calls layout tasks.work.calls.me from old.shape old.listed (state_of (running layout tasks old)) message ≡ 0
      → KeepsAll layout layout.block old.state new.state
  unfolding state_of
  follows_still new answer is none =
      let node = state_of (running layout tasks old) in
      let still = all_still layout tasks.work.calls.me from old node message seen_parts none in
      let parts = is.parts node seen_parts in
      record {
        learnt = λ g. sym (parts.learnt g) ∙ still.learnt g;
        ballots = λ g. sym (parts.ballots g) ∙ still.ballots g;
        parts = λ g e s. sym (parts.replicas g e s) ∙ still.replicas g e s;
      }

  -- it was opened as often as before
  pub follows_boot : (new : Brick D) (answer : Option Message) → Follows answer new.state → tasks.work.calls.stamps.boot ≡ old.state.boot
      → tasks.work.calls.stamps.boot ≡ new.state.boot
  unfolding state_of
  follows_boot new answer is boot =
      let node = state_of (running layout tasks old) in
      boot ∙ sym (serves_calls layout tasks.work.calls.me from node message).boot ∙ (is.parts node seen_parts).boot

  -- the answer that follows is the machine's
  pub follows_packets : (st : StateOf Version) (answer : Option Message) → Follows answer st → after.packets ≡ answer_packets tasks.work.calls.me from answer
  follows_packets st answer is = is.packets (state_of (running layout tasks old)) seen_parts

  -- and tells, answers and reports nothing
  pub follows_told : ([] ≡ after.told) × ([] ≡ after.answers) × ([] ≡ after.reports)
  follows_told = let keeps = serves_calls layout tasks.work.calls.me from (state_of (running layout tasks old)) message in (sym keeps.told, sym keeps.answers, sym keeps.reports)

  -- an image that opens as what follows shows the brick after the message
  pub shown_before : old.shape ≡ shape_at layout tasks.work.calls.me → IsKept layout old.state (state_of (running layout tasks old)) → (image : List ℕ)
      → StandsFor old.shape old.state image → ImageShows layout tasks.work.calls.me (state_of (running layout tasks old)) image
  shown_before shape kept image stands = shows_so layout tasks.work.calls.me (state_of (running layout tasks old)) old image shape kept stands

  pub shown_after : old.shape ≡ shape_at layout tasks.work.calls.me → IsKept layout old.state (state_of (running layout tasks old)) → (image : List ℕ)
      → StandsForNext old.shape Follows image → ImageShows layout tasks.work.calls.me after.node image
  shown_after shape kept image follows =
      let st = follows.0 in
      let is = follows.3 in
      record {
        st = st;
        stands = subst (λ (s : Shape). StandsFor s st image) shape follows.2;
        parts = is.parts (state_of (running layout tasks old)) seen_parts;
        lists = is.lists kept.lists;
      }

  pub follows_shown : old.shape ≡ shape_at layout tasks.work.calls.me → IsKept layout old.state (state_of (running layout tasks old)) → (image : List ℕ)
      → StandsFor old.shape old.state image ⊎ StandsForNext old.shape Follows image
      → ShowsEither layout tasks.work.calls.me (state_of (running layout tasks old)) after.node image
  follows_shown shape kept image (inl stands) = inl (shown_before shape kept image stands)
  follows_shown shape kept image (inr follows) = inr (shown_after shape kept image follows)
