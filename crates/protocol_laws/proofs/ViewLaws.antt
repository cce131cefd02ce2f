-- The laws of members and quorums, for every assignment of members to views that a world follows.
use Rattle.messages.specs.declared.packets.Message.{Message}
use Rattle.std.proofs.Common.{◌≡◌, ℕ, ◌⊎◌, inl, inr, Bool, true, not, ◌&&◌, List, [], ◌∷◌, ◌++◌, length, Some, None, refl, sym, ap, ◌∙◌, subst, ⊎_elim, arith}
use Rattle.std.specs.Prelude.{slice_get}
use Rattle.std.proofs.lemmas.Bool.{and_parts, not-true}
use Rattle.std.proofs.lemmas.Option.{same_Some}
use Rattle.fab_base.specs.declared.identities.BrickId.{BrickId}
use Rattle.fab_base.specs.declared.stamps.Stamp.{Stamp}
use Rattle.fab_base.specs.declared.asks.Op.TheVariants.{WriteStripe}
use Rattle.fab_base.specs.Stamps.{stamp_below}
use Rattle.fab_base.specs.Layouts.{Layout, Group, group_of, brick_at}
use Rattle.fab_base.proofs.Seats.{seat_within, brick_at_seat}
use Rattle.messages.specs.declared.calls.Call.{Call}
use Rattle.messages.specs.declared.requests.Request.{Request}
use Rattle.messages.specs.declared.requests.Version.{Version}
use Rattle.messages.specs.declared.requests.Want.{Want}
use Rattle.messages.specs.declared.requests.Want.TheVariants.{All}
use Rattle.messages.specs.declared.replies.Reply.{Reply}
use Rattle.quorum.specs.Quorums.{IsWithinLimits}
use Rattle.quorum.proofs.Counts.{count_monotone}
use Rattle.protocol.specs.Settings.{Setting}
use Rattle.protocol.specs.Views.{Views, layout_views, view_of, group_in}
use Rattle.protocol.specs.Replicas.{is_held, is_wanted}
use Rattle.protocol.specs.declared.phases.Phase.{Phase}
use Rattle.protocol.specs.declared.phases.Phase.TheVariants.{Modifies, Stores, LooksBack}
use Rattle.protocol.specs.Coordinators.{told_in}
use Rattle.protocol.specs.Worlds.{World, Event, first_world, run, Operation}
use Rattle.protocol_laws.specs.Laws.{part_in, top_in, IsBlocked, RequestSent, want_in, OneContent, BasesAreNewest, WritesAreGuarded, NoEventLowers, IsLost, NeverSurfaces, CollectsStand, IsHeldByQuorum, DropsOnlyOlder, NothingFalls}
use Rattle.protocol_laws.proofs.FirstViews.{own_members}
use Rattle.protocol_laws.proofs.Logs.{below_above, IsUnder, IsKept, place_held}
use Rattle.protocol_laws.proofs.Blocking.{was_kept, passes_by, passes, blocked_by, blocked_stays, blocked_never_stands, count_split}
use Rattle.protocol_laws.proofs.Said.{Stamping, Said, IsBegun, want_of, IsBlockOf, ToldSays, MakerSays, WriteSays, ModifySays, RequestSays, ReplySays, WritesWhole, ReadsBack, WasCollected, Stands, CollectSays, IsBottom}
use Rattle.protocol_laws.proofs.Stampings.{begun_once}
use Rattle.protocol_laws.proofs.Falls.{parts_stay}

module _ (setting : Setting) (views : Views) (w : World) (stamps : Stamping) (said : Said setting views w stamps) where
  -- what a request that was sent says
  sent_says : (call : Call) (from to : BrickId) (request : Request) → RequestSent w call from to request
      → RequestSays setting views w stamps from.0 to.0 call request
  sent_says call from to request sent = said.packets sent.0 (record { from = from; to = to; message = Message.Request call request }) sent.1

  -- the version that a reply tells has its content
  found_says : (from to : BrickId) (call : Call) (reply : Reply) (version : Version) → ReplySays setting views w stamps from to call reply
      → told_in reply ≡ Some version → (phase : Phase) × (stamp : Stamp) × IsBegun stamps to.0 call.boot call.seq call.phase phase stamp
      × ToldSays setting views w (want_of phase) call.group.0 call.view.0 call.stripe.0 from.0 version
  found_says from to call (Reply.Found order (Some found)) version says told =
      let same : found ≡ version = same_Some found version told in (
        says.phase,
        says.stamp,
        says.begun,
        subst (λ (z : Version). ToldSays setting views w (want_of says.phase) call.group.0 call.view.0 call.stripe.0 from.0 z) same says.says,
      )
  found_says from to call (Reply.OrderedRead found) version says told = (says.phase, says.stamp, says.begun, says.says version told)
  found_says from to call (Reply.Old found) version says told =
      (LooksBack says.bound, says.request.stamp, says.request.begun, says.says version told)
  found_says from to call reply version says told = cc

  -- a request wants what its phase does
  wants_says : (from to : ℕ) (call : Call) (request : Request) (want : Want) → RequestSays setting views w stamps from to call request
      → want_in request ≡ Some want → (phase : Phase) × (stamp : Stamp) × IsBegun stamps from call.boot call.seq call.phase phase stamp × (want_of phase ≡ want)
  wants_says from to call (Request.Read found) want says is =
      let same : found ≡ want = cc in (says.phase, says.stamp, says.begun, says.want_is ∙ same)
  wants_says from to call (Request.OrderRead t look found) want says is =
      let same : found ≡ want = cc in (says.phase, t, says.begun, says.want_is ∙ same)
  wants_says from to call (Request.OldRead bound) want says is =
      let same : All ≡ want = cc in (LooksBack bound, says.stamp, says.begun, same)
  wants_says from to call request want says is = cc

  pub one_content : OneContent setting views w
  one_content = record {
    sent = λ call from to t block group found sent.
        let says : WriteSays setting views w stamps from.0 to.0 call t block = sent_says call from to (Request.Write t block) sent in
        let at = says.maker.member group found in (
          at.0,
          seat_within group to.0 at.0 at.1,
          brick_at_seat group to.0 at.0 at.1,
          says.is_block group at.0 found at.1,
        );
    changed = λ call from to t base j delta group found sent.
        let says : ModifySays setting views w stamps from.0 to.0 call t base j delta = sent_says call from to (Request.Modify t base j delta) sent in
        let at = says.maker.member group found in
        let change = says.changes group at.0 found at.1 in (
          at.0,
          seat_within group to.0 at.0 at.1,
          brick_at_seat group to.0 at.0 at.1,
          (change.delta, change.sent_is, change.is),
        );
    found = λ call from to seat reply version group found at sent told.
        let says = (found_says from to call reply version
        (said.packets sent.0 (record { from = from; to = to; message = Message.Reply call reply }) sent.1) told).3 in
        ⊎_elim
        (λ (none : version.block ≡ []). inl none)
        (λ (whole : IsBlockOf setting views w call.group.0 call.view.0 call.stripe.0 from.0 version.stamp version.block).
        inr (whole group seat found at))
        says.block;
    wanted = λ call from to seat request want reply version group found at asked wants wanted sent told.
        let asks = wants_says to.0 from.0 call request want (sent_says call to from request asked) wants in
        let says = found_says from to call reply version
        (said.packets sent.0 (record { from = from; to = to; message = Message.Reply call reply }) sent.1) told in
        let same : asks.0 ≡ says.0 = (begun_once stamps to.0 call.boot call.seq call.phase asks.0 says.0 asks.1 says.1 asks.2 says.2).0 in
        says.3.wanted group seat found at
        (subst (λ (z : Want). is_wanted z seat ≡ true) (sym asks.3 ∙ ap want_of same) wanted);
    kept = λ g e s i seat k version group found seat_is at. (said.logs g e s i k version at).block group seat found seat_is;
  }

  pub writes_guarded : WritesAreGuarded setting views w
  writes_guarded call from to (Request.Write z block) t group found sent stores =
      let says : WriteSays setting views w stamps from.0 to.0 call z block = sent_says call from to (Request.Write z block) sent in
      (subst (λ (u : Stamp). MakerSays setting views w stamps from.0 to.0 call Stores u) (same_Some z t stores) says.maker).guarded group found
  writes_guarded call from to (Request.Modify z base j delta) t group found sent stores =
      let says : ModifySays setting views w stamps from.0 to.0 call z base j delta = sent_says call from to (Request.Modify z base j delta) sent in
      (subst (λ (u : Stamp). MakerSays setting views w stamps from.0 to.0 call (Modifies base j) u) (same_Some z t stores) says.maker).guarded group found
  writes_guarded call from to request t group found sent stores = cc

  -- a quorum has held a version that was collected
  collected_stands : (g s : ℕ) (c : Stamp) → WasCollected w g s c → Stands setting views w g s c
  collected_stands g s c was =
      let says : CollectSays w was.from.0 was.call c = sent_says was.call was.from was.to (Request.Collect c) was.sent in
      let o : Operation = says.operation in
      subst (λ (h : ℕ). Stands setting views w h s c) (says.called.group ∙ was.group)
      (subst (λ (r : ℕ). Stands setting views w o.ask.group.0 r c) (says.called.stripe ∙ was.stripe)
      ((said.operations (w.numbers was.from.0 was.call.boot was.call.seq) o says.called.is).stands c says.version (inr says.answered)))

  -- what members were told to drop lies below a version that a quorum has held
  pub collects_stand : CollectsStand setting views w
  collects_stand call from to c group found sent =
      collected_stands call.group.0 call.stripe.0 c
      (record { call = call; from = from; to = to; sent = sent; group = refl; stripe = refl }) group found

  -- a version is in a log, or a later one is that a quorum has held
  abbrev IsKeptOrOlder : ℕ → ℕ → Stamp → List Version → Type 0
  IsKeptOrOlder g s t log =
      (is_held t log ≡ true)
      ⊎ ((c : Stamp) × (is_held c log ≡ true) × (stamp_below t c ≡ true)
      × ((group : Group) → group_in setting.layout views g (view_of c) ≡ Some group → IsHeldByQuorum w g s group c))

  -- and so does what they dropped
  pub drops_older : DropsOnlyOlder setting views w
  drops_older g s i t within held = by_log (part_in w g (view_of t) s i).log refl (was_kept w said.logged g (view_of t) s i t within refl held)
    where
      by_log : (log : List Version) → (part_in w g (view_of t) s i).log ≡ log → IsKept t (part_in w g (view_of t) s i).log
          → IsKeptOrOlder g s t (part_in w g (view_of t) s i).log
      by_log log is (inl there) = inl there
      by_log [] is (inr under) = absurd (subst (λ (l : List Version). IsUnder t l) is under)
      by_log (x ∷ rest) is (inr under) =
          let less : stamp_below t x.stamp ≡ true = subst (λ (l : List Version). IsUnder t l) is under in
          ⊎_elim
          (λ (bottom : IsBottom w g (view_of t) s i x.stamp). absurd (bottom t refl less held))
          (λ (was : WasCollected w g s x.stamp). inr (
            x.stamp,
            place_held (part_in w g (view_of t) s i).log 0 x (ap (λ (l : List Version). slice_get l 0) is),
            less,
            (λ group found. collected_stands g s x.stamp was group found),
          ))
          (said.lowest g (view_of t) s i x rest within is)

  -- an operation's base is the one that it read back
  pub bases_newest : BasesAreNewest setting views w
  bases_newest n o t b is made version base = ⊎_elim
      (λ (whole : WritesWhole w o t). absurd (let none : Some b ≡ None = sym base ∙ whole.0 in let never : ⊥ = cc in never))
      (λ (back : ReadsBack setting views w o t).
      let same : back.base ≡ b = same_Some back.base b (sym back.base_is ∙ base) in
      subst (λ (z : Stamp). ((bytes : List ℕ) → o.ask.op ≡ WriteStripe bytes → ⊥)
      × (stamp_below z t ≡ true)
      × ((d : Stamp) (group : Group) → group_in setting.layout views o.ask.group.0 (view_of d) ≡ Some group
      → stamp_below z d ≡ true → stamp_below d t ≡ true → IsBlocked w o.ask.group.0 o.ask.stripe.0 group d)) same (
        back.op,
        back.below,
        (λ d group found above less. back.blocked d group found (above, less)),
      ))
      ((said.operations n o is).maker t made version)

-- the layout's members keep a group in every view
pub layout_group : (layout : Layout) (g e : ℕ) → group_in layout (layout_views layout) g e ≡ group_of layout g
layout_group layout g e = own_members (group_of layout g)

-- no further events of a run lower a brick, add a version below what it had come to, or put an order stamp back
pub never_lowers : (setting : Setting) (events more : List Event)
    → (let w = run setting events (first_world setting.layout) in NothingFalls w (run setting more w))
never_lowers setting events more =
    let stay = parts_stay setting events more in record { tops = stay.tops; adds = stay.adds; orders = stay.orders }

-- so does no event
pub no_event_lowers : NoEventLowers
no_event_lowers setting events event = never_lowers setting events (event ∷ [])

-- a lost version is blocked: a quorum is above it, and fewer than m of it have held it
lost_blocked : (w : World) (g s : ℕ) (group : Group) (v : Stamp) → IsWithinLimits group.m (length group.members) → IsLost w g s group v
    → IsBlocked w g s group v
lost_blocked w g s group v limits lost =
    let held : ℕ → Bool = λ seat. w.held (brick_at group seat) g s v in
    let split = count_split (length group.members) lost.seats held in
    let more = count_monotone (length group.members) (λ k. lost.seats k && not (held k)) (passes_by w g s group v)
    (λ k below is.
    let parts = and_parts (lost.seats k) (not (held k)) is in
    passes w g s group v k (below_above v lost.stamp (top_in w g s (brick_at group k)) lost.above (lost.passed k parts.0)) (not-true (held k) parts.1)) in
    blocked_by w g s group v limits (omega (arith, split, more, lost.quorum, lost.few))

-- no quorum ever holds a lost version
pub never_surfaces : NeverSurfaces
never_surfaces setting views events more g s group v sound follows found lost held =
    let w : World = run setting events (first_world setting.layout) in
    blocked_never_stands (run setting more w) g s group v
    (blocked_stays w (run setting more w) (parts_stay setting events more) g s group v
    (lost_blocked w g s group v ((follows [] (events ++ more) refl).limits g (view_of v) group found) lost)) held
