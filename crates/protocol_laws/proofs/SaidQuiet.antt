-- What is said stays said where a brick learns a view, votes on a ballot, or has a proposal: none of these is of an operation.
use Rattle.fab_base.specs.declared.identities.ViewNo.{ViewNo}
use Rattle.view_laws.proofs.Syncing.{synced_of, synced_each}
use Rattle.std.specs.Option.{option_map}
use Rattle.std.proofs.lemmas.List.{append-nil}
use Rattle.std.proofs.Common.{◌≡◌, ℕ, ◌<◌, ◌≤◌, ◌⊎◌, inl, inr, true, false, List, [], ◌∷◌, replicate, length, Option, Some, None, refl, sym, ap, ◌∙◌, subst, arith, nat_eq}
use Rattle.std.specs.Prelude.{slice_get}
use Rattle.std.proofs.lemmas.Bool.{cond_both, cond-false}
use Rattle.fab_base.specs.declared.identities.BrickId.{BrickId}
use Rattle.fab_base.specs.declared.identities.GroupId.{GroupId}
use Rattle.fab_base.specs.declared.member_lists.View.{View}
use Rattle.fab_base.specs.declared.stamps.Ballot.{Ballot}
use Rattle.fab_base.specs.Stamps.{stamp_below, first_stamp}
use Rattle.fab_base.proofs.StampOrder.{stamp_below_irrefl}
use Rattle.fab_base.specs.Layouts.{Group, group_of}
use Rattle.messages.specs.declared.calls.Call.{Call}
use Rattle.messages.specs.declared.packets.Packet.{Packet}
use Rattle.messages.specs.declared.requests.Version.{Version}
use Rattle.protocol.specs.Settings.{Setting, IsSound}
use Rattle.protocol.specs.Views.{Views, Learnt, first_kept, is_later, kept_by}
use Rattle.protocol.specs.Replicas.{Replica, first_replica, fresh_replica, top_of}
use Rattle.protocol.specs.declared.tellings.Report.{Report}
use Rattle.protocol.specs.Nodes.{Node, put, with_learnt, node_taught_by, node_learnt, vote_at, node_synced}
use Rattle.protocol.specs.Worlds.{World, zero_content, world_stepped, choices_after, with_held}
use Rattle.protocol.proofs.Packets.{OfEach, each_none}
use Rattle.protocol.proofs.Tables.{put_same, get_one}
use Rattle.protocol_laws.proofs.Books.{Books}
use Rattle.protocol_laws.proofs.BooksKept.{KeepsCalls, keeps_itself}
use Rattle.protocol_laws.proofs.BooksEvents.{books_silent}
use Rattle.protocol_laws.proofs.Falls.{learning_keeps, voting_keeps, syncing_keeps}
use Rattle.protocol_laws.proofs.Hearing.{kept_world}
use Rattle.protocol_laws.proofs.Reactions.{top_is, top_is_order}
use Rattle.protocol_laws.proofs.Said.{Stamping, Said, IsKnown, VersionSays, PacketSays, WasCollected}
use Rattle.protocol_laws.proofs.StampViews.{NodeViews}
use Rattle.protocol_laws.proofs.Stampings.{ages_within, stamps_same}
use Rattle.protocol_laws.proofs.Steps.{KeepsParts, keeps_same, keeps_places, quiet, said_quiet, said_beside, stamps_stay_by}
use Rattle.protocol_laws.proofs.Teaching.{newly_learnt, told_each, learnt_each, dropped_each}
use Rattle.protocol_laws.proofs.Tops.{KeepsPlaces}
use Rattle.protocol_laws.proofs.Votes.{with_vote}

-- the top of what a stripe begins with in a view
pub first_top : (block : ℕ) → top_of (first_replica block) ≡ first_stamp
first_top block =
    top_is (first_replica block) (record { stamp = first_stamp; block = replicate block 0 }) refl
    ∙ cond-false (stamp_below first_stamp first_stamp) first_stamp first_stamp (stamp_below_irrefl first_stamp)

pub fresh_top : (block e : ℕ) → top_of (fresh_replica block e) ≡ first_stamp
fresh_top block e =
    cond_both (nat_eq e 1) (first_replica block) (record { order = first_stamp; log = []; from_start = false }) (λ (r : Replica). top_of r ≡ first_stamp)
    (λ one. first_top block) (λ other. top_is_order (record { order = first_stamp; log = []; from_start = false }) refl)

-- the zero bytes of a group are those of it as any members keep it
pub zero_kept : (block : ℕ) (members : List BrickId) (z : Option Group) → zero_content block (option_map (kept_by members) z) ≡ zero_content block z
zero_kept block members None = refl
zero_kept block members (Some group) = refl

module _ (setting : Setting) (views : Views) (w : World) (stamps : Stamping) (me : BrickId) (books : Books setting w) (said : Said setting views w stamps) where
  -- a brick that keeps its calls, whose parts say what they should, and what it sends
  said_silent : (node : Node) (more : List Packet) → KeepsParts (w.nodes me.0) node → KeepsCalls (w.nodes me.0) node
      → ((g e s : ℕ) → (top_of (node.replicas g e s) ≡ top_of ((w.nodes me.0).replicas g e s)) ⊎ IsKnown stamps (top_of (node.replicas g e s)))
      → ((g e s k : ℕ) (version : Version) → slice_get (node.replicas g e s).log k ≡ Some version
      → ((j : ℕ) × (slice_get ((w.nodes me.0).replicas g e s).log j ≡ Some version)) ⊎ VersionSays setting views (quiet w me node more) g e s me.0 version)
      → ((g e s : ℕ) (x : Version) (log : List Version) → first_kept (node.learnt g) ≤ e → (node.replicas g e s).log ≡ x ∷ log
      → ((rest : List Version) × (((w.nodes me.0).replicas g e s).log ≡ x ∷ rest))
      ⊎ ((((w.nodes me.0).replicas g e s).log ≡ []) ⊎ WasCollected (quiet w me node more) g s x.stamp))
      → OfEach (PacketSays setting views (quiet w me node more) stamps) more → Said setting views (quiet w me node more) stamps
  said_silent node more keeps calls tops logs lowest packets =
      said_quiet setting views w stamps stamps me node more books said (stamps_same stamps) (record {
        keeps = keeps;
        boot = calls.0.boot;
        stamps_say = stamps_stay_by setting views w (quiet w me node more) stamps me.0 node said refl
            (ages_within (w.nodes me.0) node calls.0.boot calls.0.known calls.0.seq);
        stamps_other = λ i b k other p. refl;
        tops = tops;
        logs = logs;
        lowest = lowest;
        calls = λ k c is. inl (sym (calls.1 k) ∙ is, λ p. refl);
        jobs = λ job is. inl (sym calls.2 ∙ is);
        packets = packets;
      })

  -- a brick that keeps its calls and its parts
  pub said_moved : (node : Node) (more : List Packet) → KeepsParts (w.nodes me.0) node → KeepsCalls (w.nodes me.0) node
      → node.replicas ≡ (w.nodes me.0).replicas
      → OfEach (PacketSays setting views (quiet w me node more) stamps) more → Said setting views (quiet w me node more) stamps
  said_moved node more keeps calls same =
      said_silent node more keeps calls (λ g e s. inl (ap (λ (r : ℕ → ℕ → ℕ → Replica). top_of (r g e s)) same))
      (λ g e s k version is. inl (k, ap (λ (r : ℕ → ℕ → ℕ → Replica). slice_get (r g e s).log k) (sym same) ∙ is))
      (λ g e s x log within is. inl (log, ap (λ (r : ℕ → ℕ → ℕ → Replica). (r g e s).log) (sym same) ∙ is))

  -- a brick that keeps its places too
  pub said_placed : (node : Node) (more : List Packet) → KeepsPlaces (w.nodes me.0) node → KeepsCalls (w.nodes me.0) node
      → OfEach (PacketSays setting views (quiet w me node more) stamps) more → Said setting views (quiet w me node more) stamps
  said_placed node more same calls = said_moved node more (keeps_same (w.nodes me.0) node same) calls same.2

  -- one that votes on a ballot
  pub said_voted : (call : Call) (ballot : Ballot) (asks : Option (List BrickId)) (more : List Packet)
      → (let node : Node = with_vote (w.nodes me.0) call (vote_at (w.nodes me.0) call ballot asks) in
      OfEach (PacketSays setting views (quiet w me node more) stamps) more → Said setting views (quiet w me node more) stamps)
  said_voted call ballot asks more =
      said_moved (with_vote (w.nodes me.0) call (vote_at (w.nodes me.0) call ballot asks)) more (voting_keeps (w.nodes me.0) call ballot asks)
      (record { boot = refl; seq = omega arith; known = omega arith }, λ l. refl, refl, refl) refl

  -- what it reports changes nothing of what is said
  pub said_reports : (node : Node) (more : List Packet) (reports : List Report) → KeepsCalls (w.nodes me.0) node
      → Said setting views (quiet w me node more) stamps
      → Said setting views (world_stepped setting w me (record { node = node; packets = more; told = []; answers = []; reports = reports })) stamps
  said_reports node more reports keeps =
      said_beside setting views (quiet w me node more) stamps w.clocks w.replies w.reached (choices_after w.choices me node reports)
      (books_silent setting w w.replies me node more [] books keeps)

  -- a brick keeps what it is now
  pub said_kept : (node : Node) → Said setting views (quiet w me node []) stamps → Said setting views (kept_world w me node) stamps
  said_kept node =
      subst (λ (l : List Packet). Said setting views (record w {
        nodes = put w.nodes me.0 node;
        held = with_held w.held me.0 node;
        packets = l;
        choices = choices_after w.choices me node [];
      }) stamps) (append-nil w.packets)

  module _ (sound : IsSound setting) (viewed : NodeViews setting.layout (w.nodes me.0)) where
    -- one that has learnt this, forgets what is of the views before those that it keeps, and knows of this round
    said_drops : (g round : ℕ) (learnt : Learnt)
        → (let node : Node = with_learnt setting.layout.block g (record (w.nodes me.0) { round = round }) learnt in
        KeepsParts (w.nodes me.0) node → Said setting views (quiet w me node []) stamps)
    said_drops g round learnt keeps =
        said_silent node [] keeps
        (record { boot = refl; seq = omega arith; known = omega arith }, λ l. refl, refl, refl)
        (dropped_each (λ h e s r. (top_of r ≡ top_of ((w.nodes me.0).replicas h e s)) ⊎ IsKnown stamps (top_of r)) setting.layout.block g first (w.nodes me.0)
        (λ h e s. inl refl) (λ e s before. inr (inl (fresh_top setting.layout.block e))))
        (λ h e s k version. dropped_each (λ h e s r. slice_get r.log k ≡ Some version
        → ((j : ℕ) × (slice_get ((w.nodes me.0).replicas h e s).log j ≡ Some version)) ⊎ VersionSays setting views next h e s me.0 version)
        setting.layout.block g first (w.nodes me.0) (λ h e s is. inl (k, is)) (λ e s before is. inr (fresh_says e s k version is)) h e s)
        (λ h e s x log. dropped_each (λ h e s r. first_kept (node.learnt h) ≤ e → r.log ≡ x ∷ log
        → ((rest : List Version) × (((w.nodes me.0).replicas h e s).log ≡ x ∷ rest))
        ⊎ ((((w.nodes me.0).replicas h e s).log ≡ []) ⊎ WasCollected next h s x.stamp))
        setting.layout.block g first (w.nodes me.0) (λ h e s within is. inl (log, is)) (λ e s before within is. absurd (gone e before within)) h e s)
        (each_none (PacketSays setting views next stamps))
      where
        node : Node
        node = with_learnt setting.layout.block g (record (w.nodes me.0) { round = round }) learnt

        next : World
        next = quiet w me node []

        first : ℕ
        first = first_kept learnt

        gone : (e : ℕ) → e < first → first_kept (node.learnt g) ≤ e → ⊥
        gone e before within =
            let is : first_kept (node.learnt g) ≡ first = ap (λ (l : Learnt). first_kept l) (put_same (w.nodes me.0).learnt g learnt) in
            omega (arith, before, within, is)

        fresh_says : (e s k : ℕ) (version : Version) → slice_get (fresh_replica setting.layout.block e).log k ≡ Some version
            → VersionSays setting views next g e s me.0 version
        fresh_says e s k version =
            cond_both (nat_eq e 1) (first_replica setting.layout.block) (record { order = first_stamp; log = []; from_start = false })
            (λ (r : Replica). slice_get r.log k ≡ Some version → VersionSays setting views next g e s me.0 version)
            (λ one is.
            let same : record { stamp = first_stamp; block = replicate setting.layout.block 0 } ≡ version
            = get_one (record { stamp = first_stamp; block = replicate setting.layout.block 0 }) version k is in
            subst (λ (z : Version). VersionSays setting views next g e s me.0 z) same (record {
              made = inl refl;
              block = λ group seat group_is at.
                  sym (sound.zero_blocks group.m (length group.members) seat (said.limits g e group group_is))
                  ∙ ap (λ (z : Option Group). setting.code.encode group.m (zero_content setting.layout.block z) seat) (sym group_is)
                  ∙ ap (λ (l : List ℕ). setting.code.encode group.m l seat)
                  (zero_kept setting.layout.block (views g e) (group_of setting.layout g) ∙ sym (said.first g s));
            }))
            (λ other is. absurd (let never : None ≡ Some version = is in cc))

    -- one that learns a later view
    said_learns : (g round : ℕ) (view : View) → is_later ((w.nodes me.0).learnt g) view ≡ true
        → (let node : Node = with_learnt setting.layout.block g (record (w.nodes me.0) { round = round }) (newly_learnt view) in
        Said setting views (quiet w me node []) stamps)
    said_learns g round view later =
        said_drops g round (newly_learnt view)
        (keeps_places (w.nodes me.0) (with_learnt setting.layout.block g (w.nodes me.0) (newly_learnt view)) _
        (learning_keeps setting.layout g (w.nodes me.0) view later viewed) (refl, refl, refl))

    -- one that hears that all stripes are kept in a view
    pub said_synced : (group : GroupId) (number : ViewNo) → Said setting views (quiet w me (node_synced setting.layout (w.nodes me.0) group number) []) stamps
    said_synced group number =
        synced_each (λ (n : Node). Said setting views (quiet w me n []) stamps) setting.layout (w.nodes me.0) group number
        (said_placed (w.nodes me.0) [] (refl, refl, refl) (keeps_itself (w.nodes me.0)) (each_none (PacketSays setting views _ stamps)))
        (λ now unsynced. said_drops group.0 (w.nodes me.0).round (synced_of (w.nodes me.0) group.0) (syncing_keeps setting.layout group.0 (w.nodes me.0)))

    -- one that is taught a view, if it is, and knows of this round
    pub said_taught : (g round : ℕ) (view : Option View)
        → Said setting views (quiet w me (node_taught_by setting.layout.block g (record (w.nodes me.0) { round = round }) view) []) stamps
    said_taught g round view =
        told_each (λ (n : Node). Said setting views (quiet w me n []) stamps) setting.layout.block g (record (w.nodes me.0) { round = round }) view
        (said_placed (record (w.nodes me.0) { round = round }) [] (refl, refl, refl) (record { boot = refl; seq = omega arith; known = omega arith }, λ l. refl, refl, refl)
        (each_none (PacketSays setting views _ stamps)))
        (λ v later. said_learns g round v later)

    -- by a message
    pub said_learnt : (group : GroupId) (view : View) → Said setting views (quiet w me (node_learnt setting.layout (w.nodes me.0) group view) []) stamps
    said_learnt group view =
        learnt_each (λ (n : Node). Said setting views (quiet w me n []) stamps) setting.layout (w.nodes me.0) group view
        (said_placed (w.nodes me.0) [] (refl, refl, refl) (keeps_itself (w.nodes me.0)) (each_none (PacketSays setting views _ stamps)))
        (λ later. said_learns group.0 (w.nodes me.0).round view later)
