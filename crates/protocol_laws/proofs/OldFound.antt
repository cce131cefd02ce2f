-- An operation that looks back finds a version: all stripes are said to be kept in the view before its own, so of its stripe a version of that stands.
use Rattle.std.proofs.Common.{◌≡◌, ℕ, ◌-◌, ◌<◌, inl, inr, true, false, List, [], ◌∷◌, ◌++◌, length, Option, Some, None, is_some, refl, sym, ap, ◌∙◌, subst, arith}
use Rattle.std.proofs.lemmas.Bool.{false≢true}
use Rattle.fab_base.specs.declared.identities.BrickId.{BrickId}
use Rattle.fab_base.specs.declared.asks.Ask.{Ask}
use Rattle.fab_base.specs.declared.stamps.Stamp.{Stamp}
use Rattle.fab_base.specs.Stamps.{stamp_below, first_stamp}
use Rattle.fab_base.specs.Layouts.{Group, group_of, brick_at}
use Rattle.messages.specs.declared.packets.Message.TheVariants as Message
use Rattle.messages.specs.declared.replies.Reply.{Reply}
use Rattle.messages.specs.declared.requests.Look.TheVariants.{Below}
use Rattle.quorum.proofs.Counts.{count_full}
use Rattle.protocol.specs.Settings.{Setting, IsSound}
use Rattle.protocol.specs.Views.{Views, view_of, group_in}
use Rattle.protocol.specs.declared.phases.Counted.{Counted}
use Rattle.protocol.specs.declared.phases.FullMember.{FullMember}
use Rattle.protocol.specs.declared.phases.Mover.{Mover}
use Rattle.protocol.specs.declared.phases.Phase.{Phase}
use Rattle.protocol.specs.declared.phases.Phase.TheVariants.{LooksBack}
use Rattle.protocol.specs.Coordinators.{Coordinator, looks_back, asked_group, old_bound, answers_phase, mover_of, lower_mover, lowest_mover, full_member_of, lower_full, lowest_full, lowest_dropper, greatest_found}
use Rattle.protocol.specs.Worlds.{World, Operation, number_of}
use Rattle.protocol.proofs.CountsAt.{CountsAt, counts_facts}
use Rattle.view_laws.specs.Syncs.{IsSaidSynced}
use Rattle.protocol_laws.specs.Laws.{SyncedStand, OldVersionsAreFound}
use Rattle.protocol_laws.proofs.Blocking.{blocked_never_stands}
use Rattle.protocol_laws.proofs.Books.{Books, IsReadable, CallBooks, OperationBooks, IsCall}
use Rattle.protocol_laws.proofs.Counting.{each_then, each_more, once_more, NoneStops}
use Rattle.protocol_laws.proofs.Decisions.{all_read, back_unrefused}
use Rattle.protocol_laws.proofs.OwnStamps.{own_in, back_call, asked_in}
use Rattle.protocol_laws.proofs.Recoveries.{none_blocked}
use Rattle.protocol_laws.proofs.Said.{Stamping, Said, Stands, CallSays, BackSays, CountedSays, EachCounted, look_of}
use Rattle.protocol_laws.proofs.Tops.{view_less}

-- replies to a phase that looks back tell neither of a later view nor of a full store
back_stays : (block : ℕ) (t : Stamp) (bound : Option Stamp) (l : List Counted) → EachCounted (λ x. answers_phase block t x.seat (LooksBack bound) x.reply ≡ true) l
    → (lowest_mover l ≡ None) × (lowest_full l ≡ None)
back_stays block t bound [] each = (refl, refl)
back_stays block t bound (x ∷ l) each =
    let one = by x.reply each.0 in
    let rest = back_stays block t bound l each.1 in (
      ap (λ (m : Option Mover). lower_mover m (lowest_mover l)) one.0 ∙ rest.0,
      ap (λ (f : Option FullMember). lower_full f (lowest_full l)) one.1 ∙ rest.1,
    )
  where
    by : (r : Reply) → answers_phase block t x.seat (LooksBack bound) r ≡ true
        → (mover_of (record { seat = x.seat; brick = x.brick; reply = r }) ≡ None) × (full_member_of (record { seat = x.seat; brick = x.brick; reply = r }) ≡ None)
    by (Reply.Moved view lineage) answers = absurd (false≢true answers)
    by (Reply.Full live) answers = absurd (false≢true answers)
    by r answers = (refl, refl)

-- what is not there
is_none : {A : Type 0} (o : Option A) → is_some o ≡ false → o ≡ None
is_none None isnt = refl
is_none (Some x) isnt = cc

-- and what may not be none is there
is_there : {A : Type 0} (o : Option A) → (o ≡ None → ⊥) → is_some o ≡ true
is_there None never = absurd (never refl)
is_there (Some x) never = refl

module _ (setting : Setting) (views : Views) (sound : IsSound setting) (w : World) (stamps : Stamping) (books : Books setting w) (said : Said setting views w stamps) where
  -- of each stripe a version stands of a view that is said to be synced
  pub synced_stands : (g e s : ℕ) (group : Group) → group_of setting.layout g ≡ Some group → IsReadable group s → IsSaidSynced w g e
      → (v : Stamp) × (view_of v ≡ e) × Stands setting views w g s v
  synced_stands g e s group at within (inl one) = (
    first_stamp,
    sym one,
    (λ its its_is.
        let full = count_full (length its.members) (λ seat. w.held (brick_at its seat) g s first_stamp) (λ k below. said.first_held g s (brick_at its k)) in
        omega (arith, full)),
  )
  synced_stands g e s group at within (inr (from, to, sent)) =
      said.packets sent.0 (record { from = from; to = to; message = Message.Synced (record { 0 = g }) (record { 0 = e }) }) sent.1 s group at within

  -- so each message that says so is true
  pub synced_stand : SyncedStand setting views w
  synced_stand from to number view stripe kept group sent at within is =
      let standing : (v : Stamp) × (view_of v ≡ view.0) × Stands setting views w number.0 stripe v
      = said.packets sent.0 (record { from = from; to = to; message = Message.Synced number view }) sent.1 stripe kept at (inr within) in
      (standing.0, standing.1, standing.2 group (ap (λ (e : ℕ). group_in setting.layout views number.0 e) standing.1 ∙ is))

  -- so an operation that looks back finds one, where the view before its own is said to be synced
  pub old_found : ((i k : ℕ) (c : Coordinator) → IsCall w i k c → 1 < c.stamp.view.0 → IsSaidSynced w c.call.group.0 (c.stamp.view.0 - 1))
      → OldVersionsAreFound setting w
  old_found synced i k seat c bound from reply is looks sent counts many kept = is_there (greatest_found (c.counted ++ (one ∷ []))) never
    where
      one : Counted
      one = record { seat = seat; brick = from; reply = reply }

      call : IsCall w i c.call.seq c
      call = subst (λ (l : ℕ). IsCall w i l c) (sym (books.calls i k c is).call_seq) is

      its : CallBooks setting w i c.call.seq c
      its = books.calls i c.call.seq c call

      o : Operation
      o = its.operation

      its_books : OperationBooks setting w (number_of w i c.call.seq) o
      its_books = books.operations (number_of w i c.call.seq) o its.operation_is

      says : CallSays setting views w stamps i c.call.seq c
      says = said.calls i c.call.seq c call

      back : BackSays setting views w i c bound
      back = says.back bound looks

      facts : CountsAt setting.layout.block c from.0 c.call reply seat
      facts = counts_facts setting.layout.block c from.0 c.call reply seat counts

      all : EachCounted (CountedSays setting views w i c) (c.counted ++ (one ∷ []))
      all = each_more (CountedSays setting views w i c) c.counted one says.counted (record { sent = sent; answers = facts.answers; seat = facts.seat_is })

      stays : (lowest_mover (c.counted ++ (one ∷ [])) ≡ None) × (lowest_full (c.counted ++ (one ∷ [])) ≡ None)
      stays =
          back_stays setting.layout.block c.stamp bound (c.counted ++ (one ∷ []))
          (each_then (CountedSays setting views w i c) (λ x. answers_phase setting.layout.block c.stamp x.seat (LooksBack bound) x.reply ≡ true)
          (c.counted ++ (one ∷ []))
          (λ x told. subst (λ (p : Phase). answers_phase setting.layout.block c.stamp x.seat p x.reply ≡ true) looks told.answers) all)

      roomy : NoneStops (c.counted ++ (one ∷ []))
      roomy = (stays.0, is_none (lowest_dropper (c.counted ++ (one ∷ []))) kept, stays.1)

      standing : (v : Stamp) × (view_of v ≡ c.stamp.view.0 - 1) × Stands setting views w o.ask.group.0 o.ask.stripe.0 v
      standing =
          synced_stands o.ask.group.0 (c.stamp.view.0 - 1) o.ask.stripe.0 its_books.group its_books.group_is its_books.readable
          (subst (λ (g : ℕ). IsSaidSynced w g (c.stamp.view.0 - 1)) (ap (λ g. g.0) its.call_group ∙ ap (λ (a : Ask). a.group.0) its.ask)
          (synced i k c is back.view))

      -- where none was found, that version would be blocked
      never : greatest_found (c.counted ++ (one ∷ [])) ≡ None → ⊥
      never nothing =
          let me : BrickId = record { 0 = i } in
          let v : Stamp = standing.0 in
          let low : Stamp = old_bound c.stamp bound in
          let below : look_of c.phase c.stamp ≡ Some (Below low) = ap (λ (p : Phase). look_of p c.stamp) looks in
          let later : looks_back c.phase ≡ true = ap (λ (p : Phase). looks_back p) looks in
          let once = once_more c.counted one says.once facts.first in
          let view : c.call.view.0 ≡ c.stamp.view.0 - 1 = back_call setting views w stamps books said i c.call.seq c call later in
          let of : view_of v ≡ c.call.view.0 = standing.1 ∙ sym view in
          let own : view_of c.stamp ≡ c.stamp.view.0 = own_in setting views w stamps books said i c.call.seq c call in
          let some = back.view in
          let before = standing.1 in
          let less : stamp_below v c.stamp ≡ true = view_less v c.stamp (omega (arith, own, some, before)) in
          let its_is = asked_in setting views w stamps books said i c.call.seq c call o.ask.group.0 v (ap (λ (a : Ask). a.group.0) (sym its.ask)) of in
          blocked_never_stands w o.ask.group.0 o.ask.stripe.0 (asked_group c) v
          (none_blocked setting views sound w stamps me c books said call (c.counted ++ (one ∷ [])) all once many low below
          (all_read setting views sound w stamps me c books said call (c.counted ++ (one ∷ [])) all once many (Below low) below
          (back_unrefused setting views sound w stamps me c books said call (c.counted ++ (one ∷ [])) all once many later) roomy)
          nothing v (asked_group c) its_is of less)
          (standing.2 (asked_group c) its_is)
