-- A member handles a request: what its part of the stripe, and its reply, then say.
use Rattle.std.proofs.Common.{◌≡◌, ℕ, ◌⊎◌, inl, inr, Bool, true, false, List, [], Option, Some, None, refl, sym, ap, ◌∙◌, subst, ⊎_elim, arith, ◌∷◌, ◌≤◌, ◌<◌}
use Rattle.std.specs.Prelude.{slice_get, nat_eq}
use Rattle.std.proofs.lemmas.Bool.{cond_both, eqb-true, or_left, false≢true, cases_Bool}
use Rattle.std.proofs.lemmas.Option.{same_Some}
use Rattle.fab_base.specs.declared.identities.BrickId.{BrickId}
use Rattle.fab_base.specs.declared.stamps.Stamp.{Stamp}
use Rattle.fab_base.specs.Stamps.{stamp_below, stamp_same, first_stamp}
use Rattle.fab_base.proofs.StampOrder.{stamp_below_irrefl, stamp_not_below_trans, stamp_below_asym, stamp_same_refl}
use Rattle.messages.specs.declared.calls.Call.{Call}
use Rattle.messages.specs.declared.packets.Message.TheVariants as Message
use Rattle.messages.specs.declared.packets.Packet.{Packet}
use Rattle.messages.specs.declared.requests.Look.{Look}
use Rattle.messages.specs.declared.requests.Look.TheVariants.{Below, At}
use Rattle.fab_base.specs.Layouts.{Group, seat_in, Layout}
use Rattle.messages.specs.declared.requests.Request.{Request}
use Rattle.messages.specs.declared.requests.Want.{Want}
use Rattle.messages.specs.declared.requests.Version.{Version}
use Rattle.messages.specs.declared.replies.Reply.{Reply}
use Rattle.protocol.specs.Settings.{Setting, Code}
use Rattle.protocol.specs.Replicas.{Replica, Reaction, newest_of, top_of, is_held, stamp_max, looked_up, modified_block, is_wanted}
use Rattle.protocol.specs.declared.phases.Phase.{Phase}
use Rattle.protocol.specs.declared.phases.Phase.TheVariants.{Orders, Modifies, Stores}
use Rattle.protocol.specs.Nodes.{Node, put, with_replica, replica_at, full_at, reply_packets, view_at, view_floor, top_at, has_accepted}
use Rattle.protocol.specs.Worlds.{World, Operation}
use Rattle.protocol_laws.specs.Laws.{WasSent, AskedAt, stamp_asked, stamp_stored, top_in, part_in, first_kept_in}
use Rattle.protocol.proofs.Served.{parts_each, IsCollect}
use Rattle.protocol_laws.proofs.Books.{Books}
use Rattle.protocol_laws.proofs.Blocking.{held_in, was_kept}
use Rattle.protocol_laws.proofs.Said.{Stamping, Said, IsStamped, IsMadeOrFirst, IsKnown, IsCalled, VersionSays, ToldSays, MakerSays, WriteSays, ChangesBlock, ModifySays, OrderSays, OrderReadSays, ReadSays, want_of, RequestSays, is_looked, OrderedSays, OrderedReadSays, FoundSays, ReplySays, PacketSays, IsPassedOver, WasCollected, IsBottom}
use Rattle.protocol.proofs.Tables.{put_same, get_one}
use Rattle.protocol_laws.proofs.Logs.{LogAscends, IsWithin, among, place_held, newest_stands, newest_held, newest_among, newest_stands_among, IsKept, IsUnder, below_above}
use Rattle.protocol_laws.proofs.Reactions.{IsAfter, StoresBlock, IsTold, ReactionSays, SaysIf, with_order, top_promised, after_top, after_kept, after_lowest, after_newer, after_ascends, after_asked, after_log, top_is, held_top, after_order, top_order}
use Rattle.protocol_laws.proofs.Stampings.{ages_within, stamps_same}
use Rattle.protocol_laws.proofs.Growth.{Grows, Continues, stays_version, stays_told, stays_called, stays_found, stays_collected}
use Rattle.protocol_laws.proofs.Steps.{KeepsParts, quiet, quiet_grows, said_quiet, stamps_stay_by}
use Rattle.protocol_laws.proofs.Tops.{top_rises, top_most, top_above, view_above, time_rises, kept_now}
use Rattle.protocol_laws.proofs.StampViews.{StampViews, NodeViews, RequestIsOf, asks_above, asks_view, IsFreeFor, free_for}
use Rattle.protocol.specs.Views.{Views, view_of, group_in, first_kept}

-- A request to the part in the view that a brick has learnt, which asks for nothing below that, lowers no brick, adds nothing below what it had come
-- to, and drops only what is below all that is left.
pub parts_keep : (layout : Layout) (code : Code) (m seat : ℕ) (node : Node) (call : Call) (request : Request) (reaction : Reaction)
    → LogAscends (replica_at node call).log → IsAfter code m seat (replica_at node call) request reaction.replica
    → NodeViews layout node → RequestIsOf call request → call.view.0 ≡ view_at node call.group.0 → IsFreeFor node call request
    → KeepsParts node (with_replica node call reaction)
parts_keep layout code m seat node call request reaction rises after has asks view free = record {
  views = λ g. omega arith;
  tops = λ g s.
      top_rises node (with_replica node call reaction).live (with_replica node call reaction).live_in (with_replica node call reaction).replicas g s
      (parts_each (λ h e r x. stamp_below (top_of x) (top_of (node.replicas h e r)) ≡ false) node call reaction
      (after_top code m seat (replica_at node call) request reaction.replica rises after)
      (λ h e r. stamp_below_irrefl (top_of (node.replicas h e r))) g (view_at node g) s);
  firsts = λ g. omega arith;
  orders = λ g e s within. parts_each (λ g e s x. (node.replicas g e s).order.time ≤ x.order.time) node call reaction (⊎_elim
      (λ (same : reaction.replica.order ≡ (replica_at node call).order). omega (arith, ap (λ (z : Stamp). z.time) same))
      (λ (new : (stamp_asked request ≡ Some reaction.replica.order) × (stamp_below reaction.replica.order (top_of (replica_at node call)) ≡ false)).
      ⊎_elim
      (λ (first : (replica_at node call).order ≡ first_stamp). omega (arith, ap (λ (z : Stamp). z.time) first))
      (λ (of : (replica_at node call).order.view.0 ≡ call.view.0).
      time_rises reaction.replica.order (replica_at node call).order (asks reaction.replica.order new.0 ∙ sym of)
      (stamp_not_below_trans (replica_at node call).order (top_of (replica_at node call)) reaction.replica.order (top_order (replica_at node call)) new.1))
      (has.parts call.group.0 call.view.0 call.stripe.0).order)
      (after_order code m seat (replica_at node call) request reaction.replica after)) (λ g e s. omega arith) g e s;
  kept = λ g e s t within. parts_each (λ h v r x. IsKept t (node.replicas h v r).log → IsKept t x.log) node call reaction
      (λ kept. after_kept code m seat (replica_at node call) request reaction.replica t rises after kept) (λ h v r kept. kept) g e s;
  again = λ g e s t. parts_each
      (λ h v r x. v < first_kept (node.learnt h) → is_held t x.log ≡ true → (is_held t (node.replicas h v r).log ≡ true) ⊎ (t ≡ first_stamp)) node call reaction
      (λ before held. absurd (let most = kept_now (node.learnt call.group.0) in omega (arith, before, view, most)))
      (λ h v r before held. inl held) g e s;
  newer = λ g e s t within. parts_each
      (λ h v r x. is_held t x.log ≡ true → (is_held t (node.replicas h v r).log ≡ true) ⊎ (stamp_below t (top_at node h r) ≡ false)) node call reaction
      (λ held. ⊎_elim
      (λ (was : is_held t (replica_at node call).log ≡ true). inl was)
      (λ (new : (stamp_asked request ≡ Some t) × (stamp_below t (top_of (replica_at node call)) ≡ false)).
      inr (top_most node call.group.0 call.stripe.0 t (asks_above layout node call request has asks view free t new.0)
      (ap (λ (e : ℕ). stamp_below t (top_of (node.replicas call.group.0 e call.stripe.0))) (sym view) ∙ new.1)))
      (after_newer code m seat (replica_at node call) request reaction.replica t after held))
      (λ h v r held. inl held) g e s;
  ascends = parts_each (λ g e s x. LogAscends (node.replicas g e s).log → LogAscends x.log) node call reaction
      (after_ascends code m seat (replica_at node call) request reaction.replica after) (λ g e s ascends. ascends);
}

-- the changed part
pub part_now : (node : Node) (call : Call) (reaction : Reaction) → replica_at (with_replica node call reaction) call ≡ reaction.replica
part_now node call reaction =
    ap (λ table. table call.view.0 call.stripe.0)
    (put_same node.replicas call.group.0
    (put (node.replicas call.group.0) call.view.0 (put (node.replicas call.group.0 call.view.0) call.stripe.0 reaction.replica)))
    ∙ ap (λ row. row call.stripe.0)
    (put_same (node.replicas call.group.0) call.view.0 (put (node.replicas call.group.0 call.view.0) call.stripe.0 reaction.replica))
    ∙ put_same (node.replicas call.group.0 call.view.0) call.stripe.0 reaction.replica

-- what was found is at least what is below it
pub within_lower : (found : Option Version) (d c : Stamp) → stamp_below d c ≡ true → IsWithin found c → IsWithin found d
within_lower None d c less within = within
within_lower (Some version) d c less within = stamp_not_below_trans d c version.stamp (stamp_below_asym d c less) within

module _ (setting : Setting) (views : Views) (w : World) (stamps : Stamping) (me from : BrickId) (call : Call) (request : Request) (books : Books setting w)
    (stamped : StampViews setting.layout w) (group : Group) (seat : ℕ)
    (group_is : group_in setting.layout views call.group.0 call.view.0 ≡ Some group) (seat_is : seat_in group.members me.0 ≡ Some seat)
    (view : call.view.0 ≡ view_at (w.nodes me.0) call.group.0) (free : (has_accepted (w.nodes me.0) call.group.0 ≡ false) ⊎ IsCollect request)
    (said : Said setting views w stamps) (sent : WasSent w (record { from = from; to = me; message = Message.Request call request })) where
  -- the member's part before the request
  abbrev before : Replica
  before = part_in w call.group.0 call.view.0 call.stripe.0 me.0

  -- its log ascends
  rises : LogAscends before.log
  rises = said.logged.ascends call.group.0 call.view.0 call.stripe.0 me.0

  -- its versions are of the view
  kept_of : (k : ℕ) (version : Version) → slice_get before.log k ≡ Some version → view_of version.stamp ≡ call.view.0
  kept_of = ((stamped.nodes me.0).parts call.group.0 call.view.0 call.stripe.0).log

  -- it has accepted no list to follow the view, where it is asked at a stamp, or for its newest version
  free_at : IsFreeFor (w.nodes me.0) call request
  free_at = free_for (w.nodes me.0) call request free

  free_read : (want : Want) → request ≡ Request.Read want → has_accepted (w.nodes me.0) call.group.0 ≡ false
  free_read want is = ⊎_elim
      (λ (none : has_accepted (w.nodes me.0) call.group.0 ≡ false). none)
      (λ (collects : IsCollect request). absurd (let never : Request.Read want ≡ Request.Collect collects.0 = sym is ∙ collects.1 in cc))
      free

  -- what is of the view is not below what the member has learnt
  over : (t : Stamp) → has_accepted (w.nodes me.0) call.group.0 ≡ false → view_of t ≡ call.view.0
      → stamp_below t (view_floor (w.nodes me.0) call.group.0) ≡ false
  over t none of = view_above (w.nodes me.0) call.group.0 t none (of ∙ view)

  -- a brick that has learnt it comes no less far than its part of it
  above_part : (node : Node) → view_at node call.group.0 ≡ call.view.0
      → stamp_below (top_at node call.group.0 call.stripe.0) (top_of (replica_at node call)) ≡ false
  above_part node learnt =
      subst (λ (e : ℕ). stamp_below (top_at node call.group.0 call.stripe.0) (top_of (node.replicas call.group.0 e call.stripe.0)) ≡ false) learnt
      (top_above node call.group.0 call.stripe.0)

  asks : RequestSays setting views w stamps from.0 me.0 call request
  asks = said.packets sent.0 (record { from = from; to = me; message = Message.Request call request }) sent.1

  -- the request, where it is known which
  asks_as : (r : Request) → request ≡ r → RequestSays setting views w stamps from.0 me.0 call r
  asks_as r is = subst (λ (z : Request). RequestSays setting views w stamps from.0 me.0 call z) is asks

  -- the phase in which a stamp is asked for
  asked_phase : (r : Request) (t : Stamp) → stamp_asked r ≡ Some t → RequestSays setting views w stamps from.0 me.0 call r
      → IsStamped stamps from.0 call.boot call.seq call.phase t
  asked_phase (Request.Order z) t is says = let same : z ≡ t = cc in subst (λ (u : Stamp). IsStamped stamps from.0 call.boot call.seq call.phase u) same (Orders, says.begun)
  asked_phase (Request.OrderRead z look want) t is says =
      let same : z ≡ t = cc in subst (λ (u : Stamp). IsStamped stamps from.0 call.boot call.seq call.phase u) same (says.phase, says.begun)
  asked_phase (Request.Write z block) t is says =
      let same : z ≡ t = cc in subst (λ (u : Stamp). IsStamped stamps from.0 call.boot call.seq call.phase u) same (Stores, says.maker.begun)
  asked_phase (Request.Modify z base j sent) t is says =
      let same : z ≡ t = cc in subst (λ (u : Stamp). IsStamped stamps from.0 call.boot call.seq call.phase u) same (Modifies base j, says.maker.begun)
  asked_phase r t is says = cc

  asked_stamped : (t : Stamp) → stamp_asked request ≡ Some t → IsStamped stamps from.0 call.boot call.seq call.phase t
  asked_stamped t is = asked_phase request t is asks

  -- it is of the call's view, and known
  asked_as : RequestIsOf call request
  asked_as = stamped.packets sent.0 (record { from = from; to = me; message = Message.Request call request }) sent.1

  asked_in : (t : Stamp) → stamp_asked request ≡ Some t → view_of t ≡ call.view.0
  asked_in = asks_view setting.layout (w.nodes me.0) call request (stamped.nodes me.0) asked_as view

  asked_known : (t : Stamp) → stamp_asked request ≡ Some t → IsKnown stamps t
  asked_known t is = inr (from.0, call.boot, call.seq, call.phase, asked_stamped t is)

  -- a stamp that is stored under is asked for
  stored_asked : (r : Request) (t : Stamp) → stamp_stored r ≡ Some t → stamp_asked r ≡ Some t
  stored_asked (Request.Write z block) t is = is
  stored_asked (Request.Modify z base j sent) t is = is
  stored_asked r t is = cc

  module _ (reaction : Reaction) (more : List Packet) (after : IsAfter setting.code group.m seat before request reaction.replica) where
    -- the member's part after it
    abbrev part : Replica
    part = reaction.replica

    -- how many live records the member has, where those are as many as it may
    abbrev full : Option ℕ
    full = full_at setting.layout.records (w.nodes me.0).live

    -- the world after it, where these packets are sent
    abbrev next : World
    next = quiet w me (with_replica (w.nodes me.0) call reaction) more

    keeps : KeepsParts (w.nodes me.0) (with_replica (w.nodes me.0) call reaction)
    keeps =
        parts_keep setting.layout setting.code group.m seat (w.nodes me.0) call request reaction rises after (stamped.nodes me.0)
        asked_as view free_at

    -- the versions of its view are kept
    kept_before : first_kept ((w.nodes me.0).learnt call.group.0) ≤ call.view.0
    kept_before = let most = kept_now ((w.nodes me.0).learnt call.group.0) in omega (arith, view, most)

    kept_here : first_kept_in next call.group.0 me.0 ≤ call.view.0
    kept_here =
        subst (λ (z : Node). first_kept (z.learnt call.group.0) ≤ call.view.0) (sym (put_same w.nodes me.0 (with_replica (w.nodes me.0) call reaction)))
        kept_before

    grows : Grows w next stamps stamps
    grows = quiet_grows w stamps stamps me (with_replica (w.nodes me.0) call reaction) more (stamps_same stamps) said.logged keeps

    tops : (g e s : ℕ) → (top_of ((with_replica (w.nodes me.0) call reaction).replicas g e s) ≡ top_of ((w.nodes me.0).replicas g e s))
        ⊎ IsKnown stamps (top_of ((with_replica (w.nodes me.0) call reaction).replicas g e s))
    tops = parts_each (λ h e r x. (top_of x ≡ top_of ((w.nodes me.0).replicas h e r)) ⊎ IsKnown stamps (top_of x)) (w.nodes me.0) call reaction
        (⊎_elim (λ (same : top_of part ≡ top_of before). inl same)
        (λ (asked : stamp_asked request ≡ Some (top_of part)).
        inr (asked_known (top_of part) asked))
        (after_asked setting.code group.m seat before request part rises after))
        (λ h e r. inl refl)

    -- a version that is stored says what it should
    made_by : (phase : Phase) (t : Stamp) → MakerSays setting views w stamps from.0 me.0 call phase t → IsMadeOrFirst w call.group.0 call.stripe.0 t
    made_by phase t says =
        inr (w.numbers from.0 call.boot call.seq, says.operation, says.called.is, says.called.group, says.called.stripe, says.made, says.version)

    -- each group of the call is the one at hand, and so is each seat
    at_hand : (P : Group → ℕ → Type 0) → P group seat → (other : Group) (k : ℕ) → group_in setting.layout views call.group.0 call.view.0 ≡ Some other
        → seat_in other.members me.0 ≡ Some k → P other k
    at_hand P h other k other_is at_k =
        let same : group ≡ other = same_Some group other (sym group_is ∙ other_is) in
        let place : seat ≡ k = same_Some seat k (sym seat_is ∙ ap (λ (z : Group). seat_in z.members me.0) same ∙ at_k) in
        subst (λ (z : Group). P z k) same (subst (λ (i : ℕ). P group i) place h)

    stored_version : (version : Version) → StoresBlock setting.code group.m seat before request version.stamp version.block
        → VersionSays setting views w call.group.0 call.view.0 call.stripe.0 me.0 version
    stored_version version (inl is) =
        let says : WriteSays setting views w stamps from.0 me.0 call version.stamp version.block = asks_as (Request.Write version.stamp version.block) is in
        record { made = made_by Stores version.stamp says.maker; block = says.is_block }
    stored_version version (inr (old, j, delta, is, newest, block_is)) =
        let says : ModifySays setting views w stamps from.0 me.0 call version.stamp old.stamp j delta
        = asks_as (Request.Modify version.stamp old.stamp j delta) is in
        let stands = newest_stands before.log old newest in
        let kept : VersionSays setting views w call.group.0 call.view.0 call.stripe.0 me.0 old
        = said.logs call.group.0 call.view.0 call.stripe.0 me.0 stands.0 old stands.1 in
        let change : ChangesBlock setting w call.group.0 call.stripe.0 version.stamp old.stamp j delta group seat = says.changes group seat group_is seat_is in
        let block : version.block ≡ setting.code.encode group.m (w.contents call.group.0 call.stripe.0 version.stamp) seat
        = block_is ∙ ap (λ (z : List ℕ). modified_block setting.code group.m j seat delta z) (kept.block group seat group_is seat_is) ∙ change.makes in
        record {
          made = made_by (Modifies old.stamp j) version.stamp says.maker;
          block = at_hand (λ z k. version.block ≡ setting.code.encode z.m (w.contents call.group.0 call.stripe.0 version.stamp) k) block;
        }

    logs : (g e s k : ℕ) (version : Version) → slice_get ((with_replica (w.nodes me.0) call reaction).replicas g e s).log k ≡ Some version
        → ((j : ℕ) × (slice_get ((w.nodes me.0).replicas g e s).log j ≡ Some version)) ⊎ VersionSays setting views next g e s me.0 version
    logs g e s k version = parts_each
        (λ h e r x. slice_get x.log k ≡ Some version
        → ((j : ℕ) × (slice_get ((w.nodes me.0).replicas h e r).log j ≡ Some version)) ⊎ VersionSays setting views next h e r me.0 version)
        (w.nodes me.0) call reaction
        (λ is. ⊎_elim
        (λ (old : (j : ℕ) × (slice_get before.log j ≡ Some version)). inl old)
        (λ (new : StoresBlock setting.code group.m seat before request version.stamp version.block).
        inr (stays_version setting views w next stamps stamps books grows call.group.0 call.view.0 call.stripe.0 me.0 version (stored_version version new)))
        (after_log setting.code group.m seat before request part k version after is))
        (λ h v r is. inl (k, is)) g e s

    -- the lowest version is as before, or one that was collected, or there was none
    lowest_now : (z : List Version) → before.log ≡ z → (x : Version) (log : List Version) → part.log ≡ x ∷ log
        → ((rest : List Version) × (before.log ≡ x ∷ rest)) ⊎ ((before.log ≡ []) ⊎ WasCollected next call.group.0 call.stripe.0 x.stamp)
    lowest_now [] was x log is = inr (inl was)
    lowest_now (y ∷ rest) was x log is = ⊎_elim
        (λ (old : (rest : List Version) × (before.log ≡ x ∷ rest)). inl old)
        (λ (collects : request ≡ Request.Collect x.stamp). inr (inr (record {
          call = call;
          from = from;
          to = me;
          sent = grows.sent (record { from = from; to = me; message = Message.Request call (Request.Collect x.stamp) })
              (subst (λ (z : Request). WasSent w (record { from = from; to = me; message = Message.Request call z })) collects sent);
          group = refl;
          stripe = refl;
        })))
        (after_lowest setting.code group.m seat before request part y x rest log rises after was is)

    lowest : (g e s : ℕ) (x : Version) (log : List Version) → first_kept ((w.nodes me.0).learnt g) ≤ e → ((with_replica (w.nodes me.0) call reaction).replicas g e s).log ≡ x ∷ log
        → ((rest : List Version) × (((w.nodes me.0).replicas g e s).log ≡ x ∷ rest))
        ⊎ ((((w.nodes me.0).replicas g e s).log ≡ []) ⊎ WasCollected next g s x.stamp)
    lowest g e s x log within = parts_each
        (λ h v r y. y.log ≡ x ∷ log → ((rest : List Version) × (((w.nodes me.0).replicas h v r).log ≡ x ∷ rest))
        ⊎ ((((w.nodes me.0).replicas h v r).log ≡ []) ⊎ WasCollected next h r x.stamp))
        (w.nodes me.0) call reaction (lowest_now before.log refl x log) (λ h v r is. inl (log, is)) g e s

    -- the member's part after the request
    now : part_in next call.group.0 call.view.0 call.stripe.0 me.0 ≡ part
    now = ap (λ node. replica_at node call) (put_same w.nodes me.0 (with_replica (w.nodes me.0) call reaction))
        ∙ part_now (w.nodes me.0) call reaction

    -- the member comes no less far than its part
    part_stands : stamp_below (top_in next call.group.0 call.stripe.0 me.0) (top_of part) ≡ false
    part_stands =
        subst (λ (n : Node). stamp_below (top_at n call.group.0 call.stripe.0) (top_of part) ≡ false)
        (sym (put_same w.nodes me.0 (with_replica (w.nodes me.0) call reaction)))
        (subst (λ (r : Replica). stamp_below (top_at (with_replica (w.nodes me.0) call reaction) call.group.0 call.stripe.0) (top_of r) ≡ false)
        (part_now (w.nodes me.0) call reaction) (above_part (with_replica (w.nodes me.0) call reaction) (sym view)))

    -- the operation's floor at this member is at most what is of the view, and at or above its part
    floor_below : (o : Operation) → IsCalled w from.0 call o → (t : Stamp) → stamp_below t (view_floor (w.nodes me.0) call.group.0) ≡ false
        → stamp_below t (top_of before) ≡ false → stamp_below t (o.floor me.0) ≡ false
    floor_below o called t over above =
        let floors : stamp_below (top_in w o.ask.group.0 o.ask.stripe.0 me.0) (o.floor me.0) ≡ false
        = (said.operations (w.numbers from.0 call.boot call.seq) o called.is).floors me.0 in
        let in_group : stamp_below (top_in w call.group.0 o.ask.stripe.0 me.0) (o.floor me.0) ≡ false
        = subst (λ (g : ℕ). stamp_below (top_in w g o.ask.stripe.0 me.0) (o.floor me.0) ≡ false) called.group floors in
        let here : stamp_below (top_in w call.group.0 call.stripe.0 me.0) (o.floor me.0) ≡ false
        = subst (λ (s : ℕ). stamp_below (top_in w call.group.0 s me.0) (o.floor me.0) ≡ false) called.stripe in_group in
        stamp_not_below_trans (o.floor me.0) (top_in w call.group.0 call.stripe.0 me.0) t here
        (top_most (w.nodes me.0) call.group.0 call.stripe.0 t over
        (subst (λ (e : ℕ). stamp_below t (top_of (part_in w call.group.0 e call.stripe.0 me.0)) ≡ false) view above))

    -- a version that is told as it is kept, or without its bytes, says what it should
    told_says : (want : Want) (version : Version) (kept : Option Version) → IsTold (is_wanted want seat) (Some version) kept
        → ((old : Version) → kept ≡ Some old → (k : ℕ) × (slice_get before.log k ≡ Some old))
        → ToldSays setting views w want call.group.0 call.view.0 call.stripe.0 me.0 version
    told_says want version kept told place =
        let old : Version = told.0 in
        let at = place old told.1 in
        let says : VersionSays setting views w call.group.0 call.view.0 call.stripe.0 me.0 old = said.logs call.group.0 call.view.0 call.stripe.0 me.0 at.0 old at.1 in
        record {
          of = ap view_of told.2 ∙ kept_of at.0 old at.1;
          made = subst (λ (t : Stamp). IsMadeOrFirst w call.group.0 call.stripe.0 t) (sym told.2) says.made;
          block = ⊎_elim
              (λ (none : version.block ≡ []). inl none)
              (λ (whole : version.block ≡ old.block).
              inr (λ (z : Group) (k : ℕ) (z_is : group_in setting.layout views call.group.0 call.view.0 ≡ Some z) (at_k : seat_in z.members me.0 ≡ Some k).
              whole ∙ says.block z k z_is at_k
              ∙ ap (λ (t : Stamp). setting.code.encode z.m (w.contents call.group.0 call.stripe.0 t) k) (sym told.2)))
              told.3;
          wanted = at_hand
              (λ z k. is_wanted want k ≡ true → version.block ≡ setting.code.encode z.m (w.contents call.group.0 call.stripe.0 version.stamp) k)
              (λ wanted.
              told.4 wanted ∙ says.block group seat group_is seat_is
              ∙ ap (λ (t : Stamp). setting.code.encode group.m (w.contents call.group.0 call.stripe.0 t) seat) (sym told.2));
        }

    found_says : (order : Stamp) (version : Version) → ReactionSays seat full before request part (Reply.Found order (Some version))
        → FoundSays setting views w stamps me.0 from.0 call order version
    found_says order version told =
        let says : ReadSays w stamps from.0 call told.0 = asks_as (Request.Read told.0) told.1 in
        let old : Version = told.2.0 in
        let newest : newest_of before.log ≡ Some old = told.2.1 in
        let stamp : version.stamp ≡ old.stamp = told.2.2 in
        let top : top_of before ≡ stamp_max order version.stamp
        = top_is before old newest ∙ ap (λ (t : Stamp). stamp_max t old.stamp) (sym told.3) ∙ ap (λ (t : Stamp). stamp_max order t) (sym stamp) in
        let stands = newest_stands before.log old newest in
        record {
          operation = says.operation;
          called = says.called;
          phase = says.phase;
          stamp = says.stamp;
          begun = says.begun;
          top = subst (λ (t : Stamp). stamp_below (top_in w call.group.0 call.stripe.0 me.0) t ≡ false) top (above_part (w.nodes me.0) (sym view));
          floor = subst (λ (t : Stamp). stamp_below t (says.operation.floor me.0) ≡ false) top
              (floor_below says.operation says.called (top_of before)
              (stamp_not_below_trans (view_floor (w.nodes me.0) call.group.0) old.stamp (top_of before)
              (over old.stamp (free_read told.0 told.1) (kept_of stands.0 old stands.1))
              (held_top before old.stamp rises (newest_held before.log old newest)))
              (stamp_below_irrefl (top_of before)));
          held = subst (λ (t : Stamp). w.held me.0 call.group.0 call.stripe.0 t ≡ true) (sym stamp)
              (held_in w said.logged call.group.0 call.view.0 call.stripe.0 me.0 old.stamp (kept_of stands.0 old stands.1)
              (newest_held before.log old newest));
          says = subst (λ (want : Want). ToldSays setting views w want call.group.0 call.view.0 call.stripe.0 me.0 version) (sym says.want_is)
              (told_says told.0 version (newest_of before.log) told.2 (λ kept is. newest_stands before.log kept is));
        }

    -- a promise is at or above the operation's floor at this member
    promise_above : (t : Stamp) (o : Operation) → IsCalled w from.0 call o → (p : Operation) → Continues o p → stamp_asked request ≡ Some t
        → stamp_below t (top_of before) ≡ false → stamp_below t (p.floor me.0) ≡ false
    promise_above t o called p on asked above =
        subst (λ (f : ℕ → Stamp). stamp_below t (f me.0) ≡ false) (sym on.floor)
        (floor_below o called t (over t (free_at t asked) (asked_in t asked)) above)

    ordered_says : ReactionSays seat full before request part Reply.Ordered → OrderedSays next stamps me.0 from.0 call
    ordered_says told =
        let says : OrderSays w stamps from.0 call told.0 = asks_as (Request.Order told.0) told.1 in
        let goes = stays_called setting views w next stamps stamps books grows from.0 call says.operation says.called in
        record {
          operation = goes.0;
          called = goes.1;
          stamp = told.0;
          stamp_is = says.begun;
          promised = subst (λ (t : Stamp). stamp_below (top_in next call.group.0 call.stripe.0 me.0) t ≡ false) told.3 part_stands;
          floor = promise_above told.0 says.operation says.called goes.0 goes.2 (ap stamp_asked told.1) told.2;
        }

    -- what is looked for in a log
    looked_is : (look : Look) (log : List Version) → looked_up look log ≡ newest_of (among (is_looked look) log)
    looked_is (Below bound) log = refl
    looked_is (At u) log = refl

    -- what was found is the newest that was looked for
    found_within : (wanted : Bool) (found kept : Option Version) (d : Stamp) → IsTold wanted found kept → IsWithin kept d → IsWithin found d
    found_within wanted None kept d told within = subst (λ (z : Option Version). IsWithin z d) told within
    found_within wanted (Some version) kept d told within =
        let old : IsWithin (Some told.0) d = subst (λ (z : Option Version). IsWithin z d) told.1 within in
        subst (λ (t : Stamp). stamp_below t d ≡ false) (sym told.2) old

    -- what was dropped, and is looked for, is below what was found, or is passed over
    dropped_passed : (wanted : Bool) (found : Option Version) (look : Look) (t d : Stamp) → IsTold wanted found (looked_up look before.log)
        → stamp_below t (top_of before) ≡ false → view_of d ≡ call.view.0 → next.held me.0 call.group.0 call.stripe.0 d ≡ true → (z : List Version)
        → before.log ≡ z → IsUnder d z → IsWithin found d ⊎ IsPassedOver next call.group.0 call.view.0 call.stripe.0 look t d
    dropped_passed wanted found look t d told above of held [] log_is under = absurd under
    dropped_passed wanted found look t d told above of held (x ∷ rest) log_is less =
        let here : is_held x.stamp before.log ≡ true
        = subst (λ (l : List Version). is_held x.stamp l ≡ true) (sym log_is)
        (or_left (stamp_same x.stamp x.stamp) (is_held x.stamp rest) (stamp_same_refl x.stamp)) in
        ⊎_elim
        (λ (looked : is_looked look x.stamp ≡ true).
        inl (within_lower found d x.stamp less
        (found_within wanted found (looked_up look before.log) x.stamp told
        (subst (λ (z : Option Version). IsWithin z x.stamp) (sym (looked_is look before.log))
        (newest_among (is_looked look) x.stamp before.log rises here looked)))))
        (λ (unlooked : is_looked look x.stamp ≡ false). ⊎_elim
        (λ (bottom : IsBottom w call.group.0 call.view.0 call.stripe.0 me.0 x.stamp). absurd (bottom d of less (was_held x.stamp here less)))
        (λ (collected : WasCollected w call.group.0 call.stripe.0 x.stamp). inr (record {
          at = x.stamp;
          of = kept_of 0 x (ap (λ (l : List Version). slice_get l 0) log_is);
          above = less;
          unlooked = unlooked;
          most = stamp_not_below_trans x.stamp (top_of before) t (held_top before x.stamp rises here) above;
          collected = stays_collected w next grows.sent call.group.0 call.stripe.0 x.stamp collected;
        }))
        (said.lowest call.group.0 call.view.0 call.stripe.0 me.0 x rest kept_before log_is))
        (cases_Bool (is_looked look x.stamp))
      where
        -- what is below a version that was kept was held before
        was_held : (c : Stamp) → is_held c before.log ≡ true → stamp_below d c ≡ true → w.held me.0 call.group.0 call.stripe.0 d ≡ true
        was_held c there less = ⊎_elim
            (λ (was : w.held me.0 call.group.0 call.stripe.0 d ≡ true). was)
            (λ (new : stamp_below d (top_in w call.group.0 call.stripe.0 me.0) ≡ false).
            absurd (false≢true (sym new ∙ below_above d c (top_in w call.group.0 call.stripe.0 me.0) less
            (stamp_not_below_trans c (top_of before) (top_in w call.group.0 call.stripe.0 me.0) (held_top before c rises there)
            (above_part (w.nodes me.0) (sym view))))))
            (grows.parts.newer call.group.0 call.stripe.0 me.0 d held)

    found_told : (wanted : Bool) (found : Option Version) (kept : Option Version) (version : Version) → IsTold wanted found kept → found ≡ Some version
        → IsTold wanted (Some version) kept
    found_told wanted found kept version told is = subst (λ (z : Option Version). IsTold wanted z kept) is told

    -- what was found when a stamp was promised
    read_says : (found : Option Version) → ReactionSays seat full before request part (Reply.OrderedRead found)
        → OrderedReadSays setting views next stamps me.0 from.0 call found
    read_says found told =
        let look : Look = told.1.0 in
        let says : OrderReadSays w stamps from.0 call told.0 look told.1.1 = asks_as (Request.OrderRead told.0 look told.1.1) told.1.2 in
        let goes = stays_called setting views w next stamps stamps books grows from.0 call says.operation says.called in
        let kept : looked_up look before.log ≡ newest_of (among (is_looked look) before.log) = looked_is look before.log in
        let asked : stamp_asked request ≡ Some told.0 = ap stamp_asked told.1.2 in
        let promise : part_in next call.group.0 call.view.0 call.stripe.0 me.0 ≡ with_order before told.0 = now ∙ told.1.4 in
        let top : top_of part ≡ told.0 = ap (λ (r : Replica). top_of r) told.1.4 ∙ top_promised before told.0 told.1.3 in
        record {
          operation = goes.0;
          called = goes.1;
          stamp = told.0;
          look = look;
          phase = says.phase;
          begun = says.begun;
          look_is = says.look_is;
          below = says.below;
          view = asked_as told.0 asked;
          promised = subst (λ (t : Stamp). stamp_below (top_in next call.group.0 call.stripe.0 me.0) t ≡ false) top part_stands;
          floor = promise_above told.0 says.operation says.called goes.0 goes.2 asked told.1.3;
          newest = λ d of held looked. ⊎_elim
              (λ (there : is_held d before.log ≡ true).
              inl (found_within (is_wanted told.1.1 seat) found (looked_up look before.log) d told.1.5
              (subst (λ (z : Option Version). IsWithin z d) (sym kept) (newest_among (is_looked look) d before.log rises there looked))))
              (λ (under : IsUnder d before.log). dropped_passed (is_wanted told.1.1 seat) found look told.0 d told.1.5 told.1.3 of held before.log refl under)
              (subst (λ (r : Replica). IsKept d r.log) promise
              (was_kept next grows.parts.logged call.group.0 call.view.0 call.stripe.0 me.0 d kept_here of held));
          held = λ version is.
              let tells = found_told (is_wanted told.1.1 seat) found (looked_up look before.log) version told.1.5 is in
              let at = newest_stands_among (is_looked look) before.log tells.0 (sym kept ∙ tells.1) in
              grows.parts.held call.group.0 call.stripe.0 me.0 version.stamp
              (subst (λ (t : Stamp). w.held me.0 call.group.0 call.stripe.0 t ≡ true) (sym tells.2)
              (held_in w said.logged call.group.0 call.view.0 call.stripe.0 me.0 tells.0.stamp (kept_of at.0 tells.0 at.1)
              (place_held before.log at.0 tells.0 at.1)));
          says = λ version is.
              stays_told setting views w next stamps stamps books grows (want_of says.phase) call.group.0 call.view.0 call.stripe.0 me.0 version
              (subst (λ (want : Want). ToldSays setting views w want call.group.0 call.view.0 call.stripe.0 me.0 version) (sym says.want_is)
              (told_says told.1.1 version (looked_up look before.log) (found_told (is_wanted told.1.1 seat) found (looked_up look before.log) version told.1.5 is)
              (λ old old_is. newest_stands_among (is_looked look) before.log old (sym kept ∙ old_is))));
        }

    later_asked : (t : Stamp) → stamp_asked request ≡ Some t → AskedAt next call from me t
    later_asked t is = (request, grows.sent (record { from = from; to = me; message = Message.Request call request }) sent, is)

    -- a member that tells how many live records it has, its store being full, has as many as it may
    full_live : (live : ℕ) → full ≡ Some live → live ≡ setting.layout.records
    full_live live is =
        cond_both (nat_eq (w.nodes me.0).live setting.layout.records) (Some (w.nodes me.0).live) None
        (λ (z : Option ℕ). z ≡ Some live → live ≡ setting.layout.records)
        (λ most told. sym (same_Some (w.nodes me.0).live live told) ∙ eqb-true (w.nodes me.0).live setting.layout.records most)
        (λ fewer told. cc)
        is

    reply_says : (r : Reply) → ReactionSays seat full before request part r → ReplySays setting views next stamps me from call r
    reply_says (Reply.Found order (Some version)) told =
        stays_found setting views w next stamps stamps books grows me.0 from.0 call order version (found_says order version told)
    reply_says Reply.Ordered told = ordered_says told
    reply_says (Reply.OrderedRead found) told = read_says found told
    reply_says Reply.Stored told = (
      told.0,
      request,
      grows.sent (record { from = from; to = me; message = Message.Request call request }) sent,
      told.1,
      held_in next grows.parts.logged call.group.0 call.view.0 call.stripe.0 me.0 told.0
          (asked_in told.0 (stored_asked request told.0 told.1))
          (subst (λ (r : Replica). is_held told.0 r.log ≡ true) (sym now) told.2),
    )
    reply_says (Reply.Later x) told = (told.0, later_asked told.0 told.1, told.2)
    reply_says (Reply.Full live) told = full_live live told
    reply_says (Reply.Old found) told = absurd told
    reply_says r told = tt

    -- its reply says what it should
    pub reply_packets_say : (o : Option Reply) → SaysIf seat full before request part o → (k : ℕ) (packet : Packet)
        → slice_get (reply_packets me from call o) k ≡ Some packet → PacketSays setting views next stamps packet
    reply_packets_say None says k packet is = cc
    reply_packets_say (Some r) says k packet is =
        subst (λ (p : Packet). PacketSays setting views next stamps p)
        (get_one (record { from = me; to = from; message = Message.Reply call r }) packet k is)
        (reply_says r says)

    -- a member's step on a request keeps the invariant, where what it sends says what it should
    pub said_after_request : ((k : ℕ) (packet : Packet) → slice_get more k ≡ Some packet → PacketSays setting views next stamps packet)
        → Said setting views next stamps
    said_after_request packets_say =
        said_quiet setting views w stamps stamps me (with_replica (w.nodes me.0) call reaction) more books said (stamps_same stamps) (record {
          keeps = keeps;
          boot = refl;
          stamps_say = stamps_stay_by setting views w next stamps me.0 (with_replica (w.nodes me.0) call reaction) said refl
              (ages_within (w.nodes me.0) (with_replica (w.nodes me.0) call reaction) refl (omega arith) (omega arith));
          stamps_other = λ i b k other p. refl;
          tops = tops;
          logs = logs;
          lowest = lowest;
          calls = λ k c is. inl (is, λ p. refl);
          jobs = λ job is. inl is;
          packets = packets_say;
        })
