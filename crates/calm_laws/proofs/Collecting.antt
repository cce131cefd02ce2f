-- Collects are delivered, and nothing else: a brick that keeps their version as its newest is left with that only.
use Rattle.std.proofs.Common.{◌≡◌, ℕ, zero, suc, Bool, true, false, not, ◌||◌, cond, List, [], ◌∷◌, ◌++◌, map, ◌≢◌, ◌⊎◌, inl, inr, ⊎_elim, Option, Some, refl, sym, ap, ◌∙◌, subst}
use Rattle.std.specs.Prelude.{None, slice_get}
use Rattle.std.proofs.lemmas.Bool.{cond_both, cases_eq, false≢true}
use Rattle.fab_base.proofs.StampOrder.{stamp_below_irrefl, stamp_same_refl}
use Rattle.fab_base.specs.Layouts.{Group, seat_in}
use Rattle.fab_base.specs.Stamps.{stamp_below, stamp_same}
use Rattle.fab_base.specs.declared.identities.BrickId.{BrickId}
use Rattle.fab_base.specs.declared.stamps.Stamp.{Stamp}
use Rattle.messages.specs.declared.calls.Call.{Call}
use Rattle.messages.specs.declared.packets.Message.{Message}
use Rattle.messages.specs.declared.packets.Packet.{Packet}
use Rattle.messages.specs.declared.requests.Request.{Request}
use Rattle.messages.specs.declared.requests.Version.{Version}
use Rattle.protocol.specs.Coordinators.{Coordinator}
use Rattle.protocol.specs.Settings.{Setting}
use Rattle.protocol.specs.Nodes.{Node, NodeStep, full_at, group_at, is_void, no_step, put, reacted, received, replica_at, requested, requested_as, requested_at, requested_in, seat_now, with_replica}
use Rattle.protocol.specs.Replicas.{Reaction, Replica, handle, ignored, is_held, not_below}
use Rattle.protocol.specs.Settings.{Code}
use Rattle.protocol.specs.Worlds.{Delivers, World, delivered, happens, is_up, packet_of, replies_with, voiced, run, world_stepped}
use Rattle.protocol_laws.proofs.BooksEvents.{brick_of}
use Rattle.protocol.proofs.Puts.{put_other}
use Rattle.protocol.proofs.Tables.{put_same}
use Rattle.calm_laws.proofs.Fresh.{packet_kept}
use Rattle.calm_laws.proofs.Plays.{member_step, part_put}
use Rattle.calm_laws.proofs.Scenes.{Stage}
use Rattle.calm_laws.proofs.Shows.{IsMember, put_field, serves_on}
use Rattle.calm_laws.specs.Laws.{IsCollect}

-- a member serves the call, has this log of its stripe, and what was sent before was sent
pub record Keeps (stage : Stage) (c : Coordinator) (first w : World) (brick : BrickId) (log : List Version) : Type 0 where
  pub member : IsMember stage w c.call brick
  pub log_is : (replica_at (w.nodes brick.0) c.call).log ≡ log
  pub packets : (number : ℕ) (packet : Packet) → packet_of first.packets number ≡ Some packet → packet_of w.packets number ≡ Some packet

-- so it does in a later world, by its log there
keeps_on : (stage : Stage) (c : Coordinator) (first w later : World) (brick : BrickId) (old new : List Version) (more : List Packet)
    → Keeps stage c first w brick old → later.up ≡ w.up → ((i : ℕ) → (later.nodes i).learnt ≡ (w.nodes i).learnt)
    → ((i : ℕ) → (later.nodes i).ballots ≡ (w.nodes i).ballots) → (replica_at (later.nodes brick.0) c.call).log ≡ new
    → later.packets ≡ w.packets ++ more → Keeps stage c first later brick new
keeps_on stage c first w later brick old new more keeps up learnt ballots log_is packets = record {
  member = serves_on stage w later c.call brick up learnt
      ballots keeps.member;
  log_is = log_is;
  packets = λ number packet is.
      ap (λ (l : List Packet). packet_of l number) packets ∙ packet_kept w.packets more number packet (keeps.packets number packet is);
}

-- a Collect of a version that is held drops what is below that
collected_log : (code : Code) (m : ℕ) (full : Option ℕ) (seat : ℕ) (r : Replica) (t : Stamp) → is_held t r.log ≡ true
    → (handle code m full seat r (Request.Collect t)).replica.log ≡ not_below t r.log
unfolding handle
collected_log code m full seat r t held =
    cond_both (is_held t r.log) _ (ignored r) (λ (z : Reaction). z.replica.log ≡ not_below t r.log)
    (λ is. refl) (λ isnt. absurd (false≢true (sym isnt ∙ held)))

-- a brick ignores a Collect, or handles it at its seat
collect_each : (P : NodeStep → Type 0) (setting : Setting) (me from : BrickId) (node : Node) (call : Call) (t : Stamp) → P (no_step node)
    → ((group : Group) (seat : ℕ) → P (reacted me from node call (handle setting.code group.m (full_at setting.layout.records node.live) seat
    (replica_at node call) (Request.Collect t))))
    → P (requested setting me from node call (Request.Collect t))
unfolding requested
collect_each P setting me from node call t ignored handled = in_group (group_at setting.layout node call.group.0)
  where
    at_seat : (group : Group) (z : Option ℕ) → P (requested_at setting group.m me from node call (Request.Collect t) z)
    at_seat group None = ignored
    at_seat group (Some seat) = handled group seat

    in_group : (z : Option Group) → P (requested_in setting me from node call (Request.Collect t) z)
    in_group None = ignored
    in_group (Some group) =
        cond_both (is_void setting.layout me node call (Request.Collect t) group) (no_step node)
        (requested_as setting group me from node call (Request.Collect t)) P (λ void. ignored) (λ isnt. at_seat group (seat_now me node call group))

module _ (stage : Stage) (c : Coordinator) (first : World) (me : BrickId) (t : Stamp) (brick : BrickId) (seat : ℕ)
    (seat_is : seat_in stage.group.members brick.0 ≡ Some seat) where
  -- the call in a phase
  abbrev call_in : ℕ → Call
  call_in phase = record c.call { phase = phase }

  abbrev collect : BrickId → ℕ → Packet
  collect to phase = record { from = me; to = to; message = Message.Request (call_in phase) (Request.Collect t) }

  -- a Collect to another brick
  collect_other : (w : World) (log : List Version) (to : BrickId) (phase number : ℕ) → to.0 ≢ brick.0
      → packet_of w.packets number ≡ Some (collect to phase) → Keeps stage c first w brick log
      → Keeps stage c first (happens stage.setting w (Delivers number)) brick log
  unfolding happens received
  collect_other w log to phase number other sent keeps =
      subst (λ (z : Option Packet). Keeps stage c first (delivered stage.setting w number z) brick log) (sym sent)
      (cond_both (is_up stage.setting.layout w to)
      (world_stepped stage.setting counted to (received stage.setting to (w.clocks to.0) (w.nodes to.0) (collect to phase))) w
      (λ (z : World). Keeps stage c first z brick log)
      (λ up. collect_each (λ (step : NodeStep). Keeps stage c first (world_stepped stage.setting counted to step) brick log) stage.setting to me
      (w.nodes to.0) (call_in phase) t
      (by_step (no_step (w.nodes to.0)) refl refl refl refl)
      (λ group place. by_step (reacted to me (w.nodes to.0) (call_in phase)
      (handle stage.setting.code group.m (full_at stage.setting.layout.records (w.nodes to.0).live) place (replica_at (w.nodes to.0) (call_in phase))
      (Request.Collect t))) refl refl refl refl))
      (λ down. keeps))
    where
      counted : World
      counted = record w { replies = replies_with stage.setting w (collect to phase); choices = voiced stage.setting w (collect to phase); reached = put w.reached number true }

      by_step : (step : NodeStep) → step.told ≡ [] → step.answers ≡ [] → step.node.learnt ≡ (w.nodes to.0).learnt
          → step.node.ballots ≡ (w.nodes to.0).ballots → Keeps stage c first (world_stepped stage.setting counted to step) brick log
      by_step step told answers learnt ballots =
          let no_tellings : record step { told = []; answers = [] } ≡ step
          = (λ i. record { node = step.node; packets = step.packets; told = sym told i; answers = sym answers i; reports = step.reports }) in
          subst (λ (z : NodeStep). Keeps stage c first (world_stepped stage.setting counted to z) brick log) no_tellings
          (keeps_on stage c first w (world_stepped stage.setting counted to (record step { told = []; answers = [] })) brick log log step.packets keeps refl
          (put_field (λ (z : Node). z.learnt) w.nodes to.0 step.node learnt)
          (put_field (λ (z : Node). z.ballots) w.nodes to.0 step.node ballots)
          (ap (λ (z : Node). (replica_at z c.call).log) (put_other w.nodes to.0 step.node brick.0 (λ same. other (sym same))) ∙ keeps.log_is) refl)

  -- a Collect to this brick
  collect_own : (w : World) (log : List Version) (phase number : ℕ) → packet_of w.packets number ≡ Some (collect brick phase)
      → is_held t log ≡ true → Keeps stage c first w brick log
      → Keeps stage c first (happens stage.setting w (Delivers number)) brick (not_below t log)
  unfolding happens received
  collect_own w log phase number sent held keeps =
      subst (λ (z : Option Packet). Keeps stage c first (delivered stage.setting w number z) brick (not_below t log)) (sym sent)
      (subst (λ (b : Bool). Keeps stage c first (cond b (world_stepped stage.setting counted brick
      (received stage.setting brick (w.clocks brick.0) (w.nodes brick.0) (collect brick phase))) w) brick (not_below t log)) (sym keeps.member.up)
      (subst (λ (z : NodeStep). Keeps stage c first (world_stepped stage.setting counted brick z) brick (not_below t log))
      (sym (member_step stage w me (call_in phase) (record { seat = seat; brick = brick }) (Request.Collect t)
      (record {
        up = keeps.member.up;
        group = keeps.member.group;
        stripe = keeps.member.stripe;
        from_one = keeps.member.from_one;
        view = keeps.member.view;
        free = keeps.member.free;
      }) seat_is tt refl))
      (keeps_on stage c first w (world_stepped stage.setting counted brick (reacted brick me (w.nodes brick.0) (call_in phase) change)) brick log
      (not_below t log) (reacted brick me (w.nodes brick.0) (call_in phase) change).packets keeps refl
      (put_field (λ (z : Node). z.learnt) w.nodes brick.0 (with_replica (w.nodes brick.0) (call_in phase) change) refl)
      (put_field (λ (z : Node). z.ballots) w.nodes brick.0 (with_replica (w.nodes brick.0) (call_in phase) change) refl)
      (ap (λ (z : Node). (replica_at z c.call).log) (put_same w.nodes brick.0 (with_replica (w.nodes brick.0) (call_in phase) change))
      ∙ ap (λ (r : Replica). r.log) (part_put (w.nodes brick.0) (call_in phase) change)
      ∙ collected_log stage.setting.code stage.group.m (full_at stage.setting.layout.records (w.nodes brick.0).live) seat (replica_at (w.nodes brick.0) c.call) t
      (subst (λ (l : List Version). is_held t l ≡ true) (sym keeps.log_is) held)
      ∙ ap (λ (l : List Version). not_below t l) keeps.log_is)
      refl)))
    where
      counted : World
      counted = record w { replies = replies_with stage.setting w (collect brick phase); choices = voiced stage.setting w (collect brick phase); reached = put w.reached number true }

      change : Reaction
      change =
          handle stage.setting.code stage.group.m (full_at stage.setting.layout.records (w.nodes brick.0).live) seat
          (replica_at (w.nodes brick.0) (call_in phase)) (Request.Collect t)

  -- a Collect to any brick
  collect_any : (w : World) (log : List Version) (to : BrickId) (number : ℕ) → IsCollect first me c t to number → is_held t log ≡ true
      → Keeps stage c first w brick log
      → Keeps stage c first (happens stage.setting w (Delivers number)) brick log
      ⊎ Keeps stage c first (happens stage.setting w (Delivers number)) brick (not_below t log)
  collect_any w log to number is held keeps = ⊎_elim
      (λ (same : to.0 ≡ brick.0).
      let sent : packet_of w.packets number ≡ Some (collect brick is.phase)
      = keeps.packets number (collect to is.phase) is.is ∙ ap (λ (b : BrickId). Some (collect b is.phase)) (brick_of to brick same) in
      inr (collect_own w log is.phase number sent held keeps))
      (λ (other : to.0 ≢ brick.0). inl (collect_other w log to is.phase number other (keeps.packets number (collect to is.phase) is.is) keeps))
      (cases_eq to.0 brick.0)

  -- where this one version is all that a log has from t on
  module _ (x : Version) (log : List Version) (stamp : x.stamp ≡ t) (held : is_held t log ≡ true) (only : not_below t log ≡ x ∷ []) where
    -- the brick has the log still, or that version only
    abbrev Has : World → Type 0
    Has w = Keeps stage c first w brick log ⊎ Keeps stage c first w brick (x ∷ [])

    abbrev later : World → ℕ → World
    later w number = happens stage.setting w (Delivers number)

    only_itself : not_below t (x ∷ []) ≡ x ∷ []
    only_itself = ap (λ (b : Bool). cond (not b) (x ∷ []) []) (subst (λ (z : Stamp). stamp_below x.stamp z ≡ false) stamp (stamp_below_irrefl x.stamp))

    held_itself : is_held t (x ∷ []) ≡ true
    held_itself = ap (λ (b : Bool). b || false) (subst (λ (z : Stamp). stamp_same x.stamp z ≡ true) stamp (stamp_same_refl x.stamp))

    -- a Collect to it leaves only that
    own : (w : World) (number : ℕ) → IsCollect first me c t brick number → Has w → Keeps stage c first (later w number) brick (x ∷ [])
    own w number is (inl keeps) =
        subst (λ (l : List Version). Keeps stage c first (later w number) brick l) only
        (collect_own w log is.phase number (keeps.packets number (collect brick is.phase) is.is) held keeps)
    own w number is (inr keeps) =
        subst (λ (l : List Version). Keeps stage c first (later w number) brick l) only_itself
        (collect_own w (x ∷ []) is.phase number (keeps.packets number (collect brick is.phase) is.is) held_itself keeps)

    -- which stays so
    stays : (w : World) (to : BrickId) (number : ℕ) → IsCollect first me c t to number → Keeps stage c first w brick (x ∷ [])
        → Keeps stage c first (later w number) brick (x ∷ [])
    stays w to number is keeps = ⊎_elim
        (λ (same : Keeps stage c first (later w number) brick (x ∷ [])). same)
        (λ (again : Keeps stage c first (later w number) brick (not_below t (x ∷ []))).
        subst (λ (l : List Version). Keeps stage c first (later w number) brick l) only_itself again)
        (collect_any w (x ∷ []) to number is held_itself keeps)

    any : (w : World) (to : BrickId) (number : ℕ) → IsCollect first me c t to number → Has w → Has (later w number)
    any w to number is (inl keeps) = ⊎_elim
        (λ (same : Keeps stage c first (later w number) brick log). inl same)
        (λ (less : Keeps stage c first (later w number) brick (not_below t log)).
        inr (subst (λ (l : List Version). Keeps stage c first (later w number) brick l) only less))
        (collect_any w log to number is held keeps)
    any w to number is (inr keeps) = inr (stays w to number is keeps)

    -- Collects are delivered, one after another
    abbrev delivers : List ℕ → World → World
    delivers numbers w = run stage.setting (map (λ number. Delivers number) numbers) w

    abbrev AllCollect : List ℕ → Type 0
    AllCollect numbers = (k number : ℕ) → slice_get numbers k ≡ Some number → (to : BrickId) × IsCollect first me c t to number

    all_stay : (numbers : List ℕ) (w : World) → AllCollect numbers → Keeps stage c first w brick (x ∷ [])
        → Keeps stage c first (delivers numbers w) brick (x ∷ [])
    all_stay [] w all keeps = keeps
    all_stay (number ∷ numbers) w all keeps =
        let one = all 0 number refl in
        all_stay numbers (later w number) (λ k m at. all (suc k) m at) (stays w one.0 number one.1 keeps)

    -- one of them to this brick
    pub all_leave : (numbers : List ℕ) (w : World) → AllCollect numbers → (k number : ℕ) → slice_get numbers k ≡ Some number
        → IsCollect first me c t brick number → Has w → Keeps stage c first (delivers numbers w) brick (x ∷ [])
    all_leave [] w all k number at is has = cc
    all_leave (m ∷ numbers) w all zero number at is has =
        let same : m ≡ number = cc in
        all_stay numbers (later w m) (λ k m at. all (suc k) m at)
        (own w m (subst (λ (z : ℕ). IsCollect first me c t brick z) (sym same) is) has)
    all_leave (m ∷ numbers) w all (suc k) number at is has =
        let one = all 0 m refl in
        all_leave numbers (later w m) (λ j i at. all (suc j) i at) k number at is (any w one.0 m one.1 has)
