-- What a brick tells of a view that it serves no more: it takes nothing below the first stamp of the next view, so what it finds there below a bound stays its newest.
use Rattle.std.proofs.Common.{◌≡◌, ℕ, ◌+◌, ◌≤◌, ◌⊎◌, inl, inr, ⊎_elim, Bool, true, false, List, [], ◌∷◌, Option, Some, None, refl, sym, ap, ◌∙◌, subst, arith, nat_lt, is_some}
use Rattle.std.specs.Prelude.{slice_get, filter, if◌then◌else◌}
use Rattle.std.proofs.lemmas.Bool.{cond_both, cases_Bool, false≢true, or_left}
use Rattle.std.proofs.lemmas.Bool.Decides.{nat_tests}
use Rattle.std.proofs.lemmas.Option.{same_Some}
use Rattle.fab_base.specs.declared.identities.BrickId.{BrickId}
use Rattle.fab_base.specs.declared.stamps.Stamp.{Stamp}
use Rattle.fab_base.specs.Stamps.{stamp_below, stamp_same}
use Rattle.fab_base.proofs.StampOrder.{stamp_below_asym, stamp_not_below_trans, stamp_same_refl}
use Rattle.messages.specs.declared.calls.Call.{Call}
use Rattle.messages.specs.declared.packets.Message.{Message}
use Rattle.messages.specs.declared.requests.Request.{Request}
use Rattle.messages.specs.declared.requests.Version.{Version}
use Rattle.messages.specs.declared.requests.Look.TheVariants.{Below}
use Rattle.messages.specs.declared.replies.Reply.{Reply}
use Rattle.messages.specs.declared.replies.Reply.TheVariants as reply
use Rattle.protocol.specs.Settings.{Setting}
use Rattle.protocol.specs.Views.{Views, first_kept, floor_of, view_of}
use Rattle.protocol.specs.Replicas.{Replica, newest_of, under, is_held}
use Rattle.protocol.specs.Coordinators.{old_bound}
use Rattle.protocol.specs.Nodes.{Node, view_at, view_floor, has_accepted, top_at, moved_at, old_reply}
use Rattle.protocol.specs.Worlds.{World}
use Rattle.protocol_laws.specs.Laws.{WasSent, top_in, part_in}
use Rattle.protocol_laws.proofs.Blocking.{held_in, was_kept}
use Rattle.protocol_laws.proofs.Logs.{IsWithin, IsUnder, among, newest_among, newest_stands_among, place_held}
use Rattle.protocol_laws.proofs.Requests.{within_lower}
use Rattle.protocol_laws.proofs.Said.{Stamping, Said, OldReadSays, OldSays, ReplySays, VersionSays, IsPassedOver, IsBottom, WasCollected}
use Rattle.protocol_laws.proofs.StampViews.{StampViews}
use Rattle.protocol_laws.proofs.Tops.{floor_rises, view_less, top_floor}

-- a stamp is below a bound, if there is one
abbrev is_under : Option Stamp → Stamp → Bool
is_under None t = true
is_under (Some bound) t = stamp_below t bound

-- what passes a test that all pass
filter_all : (log : List Version) → filter (λ (version : Version). true) log ≡ log
filter_all [] = refl
filter_all (x ∷ log) = ap (λ (l : List Version). x ∷ l) (filter_all log)

under_among : (bound : Option Stamp) (log : List Version) → under bound log ≡ among (is_under bound) log
under_among None log = sym (filter_all log)
under_among (Some bound) log = refl

-- what is below the bound of a phase is below that of its request
under_bound : (t : Stamp) (bound : Option Stamp) (d : Stamp) → stamp_below d (old_bound t bound) ≡ true → is_under bound d ≡ true
under_bound t None d less = refl
under_bound t (Some b) d less = less

over_bound : (t : Stamp) (bound : Option Stamp) (d : Stamp) → is_under bound d ≡ false → stamp_below d (old_bound t bound) ≡ false
over_bound t None d over = absurd (false≢true (sym over))
over_bound t (Some b) d over = over

-- a brick that serves a view no more takes nothing below the first stamp of the next
left_floor : (node : Node) (call : Call) (s : ℕ) → nat_lt (view_at node call.group.0) call.view.0 ≡ false → is_some (moved_at node call) ≡ true
    → stamp_below (top_at node call.group.0 s) (floor_of (call.view.0 + 1)) ≡ false
left_floor node call s known moved =
    stamp_not_below_trans (floor_of (call.view.0 + 1)) (view_floor node call.group.0) (top_at node call.group.0 s) (by moved) (top_floor node call.group.0 s)
  where
    by : is_some (moved_at node call) ≡ true → stamp_below (view_floor node call.group.0) (floor_of (call.view.0 + 1)) ≡ false
    by =
        cond_both (nat_lt call.view.0 (view_at node call.group.0)) _ _
        (λ (z : Option Reply). is_some z ≡ true → stamp_below (view_floor node call.group.0) (floor_of (call.view.0 + 1)) ≡ false)
        (λ later is.
        let above : call.view.0 + 1 ≤ view_at node call.group.0 = grind (arith, nat_tests, later) in
        cond_both (has_accepted node call.group.0) (view_at node call.group.0 + 1) (view_at node call.group.0)
        (λ (e : ℕ). stamp_below (floor_of e) (floor_of (call.view.0 + 1)) ≡ false)
        (λ has. floor_rises (call.view.0 + 1) (view_at node call.group.0 + 1) (omega (arith, above)))
        (λ hasnt. floor_rises (call.view.0 + 1) (view_at node call.group.0) above))
        (λ isnt.
        let least : call.view.0 ≤ view_at node call.group.0 = grind (arith, nat_tests, known) in
        cond_both (has_accepted node call.group.0) _ None
        (λ (z : Option Reply). is_some z ≡ true → stamp_below (view_floor node call.group.0) (floor_of (call.view.0 + 1)) ≡ false)
        (λ has is.
        subst (λ (b : Bool). stamp_below (floor_of (if b then view_at node call.group.0 + 1 else view_at node call.group.0)) (floor_of (call.view.0 + 1)) ≡ false)
        (sym has) (floor_rises (call.view.0 + 1) (view_at node call.group.0 + 1) (omega (arith, least))))
        (λ hasnt is. absurd (false≢true is)))

module _ (setting : Setting) (views : Views) (w : World) (stamps : Stamping) (me from : BrickId) (call : Call) (stamped : StampViews setting.layout w)
    (said : Said setting views w stamps) (bound : Option Stamp)
    (sent : WasSent w (record { from = from; to = me; message = Message.Request call (Request.OldRead bound) })) where
  abbrev node : Node
  node = w.nodes me.0

  -- its part of the stripe in the call's view
  abbrev part : Replica
  part = part_in w call.group.0 call.view.0 call.stripe.0 me.0

  asks : OldReadSays stamps from.0 call bound
  asks = said.packets sent.0 (record { from = from; to = me; message = Message.Request call (Request.OldRead bound) }) sent.1

  kept_of : (k : ℕ) (version : Version) → slice_get part.log k ≡ Some version → view_of version.stamp ≡ call.view.0
  kept_of = ((stamped.nodes me.0).parts call.group.0 call.view.0 call.stripe.0).log

  abbrev found : Option Version
  found = newest_of (under bound part.log)

  found_is : found ≡ newest_of (among (is_under bound) part.log)
  found_is = ap newest_of (under_among bound part.log)

  -- what it keeps below the bound is within what it found
  within : (d : Stamp) → is_held d part.log ≡ true → is_under bound d ≡ true → IsWithin found d
  within d there less =
      subst (λ (z : Option Version). IsWithin z d) (sym found_is)
      (newest_among (is_under bound) d part.log (said.logged.ascends call.group.0 call.view.0 call.stripe.0 me.0) there less)

  -- what it dropped is below that too, or is passed over
  dropped : (d : Stamp) → view_of d ≡ call.view.0 → w.held me.0 call.group.0 call.stripe.0 d ≡ true → first_kept (node.learnt call.group.0) ≤ call.view.0
      → (z : List Version) → part.log ≡ z → IsUnder d z
      → IsWithin found d ⊎ IsPassedOver w call.group.0 call.view.0 call.stripe.0 (Below (old_bound asks.stamp bound)) asks.stamp d
  dropped d of held kept [] log_is less = absurd less
  dropped d of held kept (x ∷ rest) log_is less =
      let here : is_held x.stamp part.log ≡ true
      = subst (λ (l : List Version). is_held x.stamp l ≡ true) (sym log_is)
      (or_left (stamp_same x.stamp x.stamp) (is_held x.stamp rest) (stamp_same_refl x.stamp)) in
      let its : view_of x.stamp ≡ call.view.0 = kept_of 0 x (ap (λ (l : List Version). slice_get l 0) log_is) in
      ⊎_elim
      (λ (lower : is_under bound x.stamp ≡ true). inl (within_lower found d x.stamp less (within x.stamp here lower)))
      (λ (over : is_under bound x.stamp ≡ false). ⊎_elim
      (λ (bottom : IsBottom w call.group.0 call.view.0 call.stripe.0 me.0 x.stamp). absurd (bottom d of less held))
      (λ (collected : WasCollected w call.group.0 call.stripe.0 x.stamp). inr (record {
        at = x.stamp;
        of = its;
        above = less;
        unlooked = over_bound asks.stamp bound x.stamp over;
        most = stamp_below_asym x.stamp asks.stamp (view_less x.stamp asks.stamp (let next = asks.view in omega (arith, its, next)));
        collected = collected;
      }))
      (said.lowest call.group.0 call.view.0 call.stripe.0 me.0 x rest kept log_is))
      (cases_Bool (is_under bound x.stamp))

  -- so it tells its newest version
  old_says : nat_lt (view_at node call.group.0) call.view.0 ≡ false → first_kept (node.learnt call.group.0) ≤ call.view.0 → is_some (moved_at node call) ≡ true
      → OldSays setting views w stamps me.0 from.0 call found
  old_says known kept moved = record {
    bound = bound;
    request = asks;
    passed = subst (λ (e : ℕ). stamp_below (top_in w call.group.0 call.stripe.0 me.0) (floor_of e) ≡ false) (sym asks.view)
        (left_floor node call call.stripe.0 known moved);
    newest = λ d of held less. ⊎_elim
        (λ (there : is_held d part.log ≡ true). inl (within d there (under_bound asks.stamp bound d less)))
        (λ (under_it : IsUnder d part.log). dropped d of held kept part.log refl under_it)
        (was_kept w said.logged call.group.0 call.view.0 call.stripe.0 me.0 d kept of held);
    held = λ version is.
        let at = newest_stands_among (is_under bound) part.log version (sym found_is ∙ is) in
        held_in w said.logged call.group.0 call.view.0 call.stripe.0 me.0 version.stamp (kept_of at.0 version at.1) (place_held part.log at.0 version at.1);
    says = λ version is.
        let at = newest_stands_among (is_under bound) part.log version (sym found_is ∙ is) in
        let says : VersionSays setting views w call.group.0 call.view.0 call.stripe.0 me.0 version
        = said.logs call.group.0 call.view.0 call.stripe.0 me.0 at.0 version at.1 in
        record {
          of = kept_of at.0 version at.1;
          made = says.made;
          block = inr says.block;
          wanted = λ group seat group_is seat_is wanted. says.block group seat group_is seat_is;
        };
  }

  -- what it tells is so
  pub old_reply_says : (told : Reply) → nat_lt (view_at node call.group.0) call.view.0 ≡ false → old_reply node call bound ≡ Some told
      → ReplySays setting views w stamps me from call told
  old_reply_says told known =
      cond_both (nat_lt call.view.0 (first_kept (node.learnt call.group.0))) (Some reply.Retired) _
      (λ (z : Option Reply). z ≡ Some told → ReplySays setting views w stamps me from call told)
      (λ gone is. subst (λ (r : Reply). ReplySays setting views w stamps me from call r) (same_Some reply.Retired told is) tt)
      (λ isnt.
      cond_both (is_some (moved_at node call)) (Some (reply.Old found)) None
      (λ (z : Option Reply). z ≡ Some told → ReplySays setting views w stamps me from call told)
      (λ moved is.
      subst (λ (r : Reply). ReplySays setting views w stamps me from call r) (same_Some (reply.Old found) told is)
      (old_says known (grind (arith, nat_tests, isnt)) moved))
      (λ serves is. absurd (let never : None ≡ Some told = is in cc)))
