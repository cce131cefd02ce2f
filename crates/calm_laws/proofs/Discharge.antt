-- What is known of the world in which an operation begins to run alone holds in every world that a run reaches.
use Rattle.protocol_laws.proofs.OldFound.{synced_stands}
use Rattle.std.specs.Option.{option_map}
use Rattle.calm_laws.proofs.Beginnings.{OpenFacts, open_facts}
use Rattle.std.proofs.lemmas.List.{append-nil}
use Rattle.std.specs.List.{list_any}
use Rattle.view_laws.proofs.SyncedViews.{syncs_are_said}
use Rattle.view_laws.specs.Syncs.{IsSaidSynced}
use Rattle.view_laws.specs.Following.{Follows}
use Rattle.view_laws.proofs.Histories.{kept_is}
use Rattle.fab_base.specs.declared.identities.ViewNo.{ViewNo}
use Rattle.calm_laws.proofs.Scenes.{first_ahead, view_ahead}
use Rattle.protocol_laws.specs.Laws.{part_in}
use Rattle.protocol_laws.proofs.Reactions.{top_is, top_is_order}
use Rattle.protocol_laws.proofs.StampViews.{StampViews, PartIsOf, always_views}
use Rattle.protocol.specs.Views.{Views, first_kept, group_in, views_in, group_kept, kept_by}
use Rattle.view_laws.proofs.Followed.{every_run_follows}
use Rattle.protocol.specs.Calms.{IsCalm, has_mark, knows_synced, may_ask_prior, number_marked, operation_marked}
use Rattle.protocol.specs.declared.phases.Phase.{Phase}
use Rattle.fab_base.specs.declared.asks.Op.{Op}
use Rattle.calm_laws.proofs.Calmness.{ends_alone}
use Rattle.protocol.specs.Views.{view_of}
use Rattle.std.proofs.Common.{◌≡◌, ℕ, suc, ◌+◌, ◌≤◌, ◌<◌, ◌⊎◌, inl, inr, true, false, List, [], ◌∷◌, length, Some, refl, sym, ap, ◌∙◌, subst, ⊎_elim, arith, Option, None, Bool, not, ◌-◌, ltb-false, nat_lt, ◌&&◌}
use Rattle.std.specs.Prelude.{nat_eq, slice_get, zero}
use Rattle.std.proofs.lemmas.Bool.{cases_Bool, cond_both, false≢true, or_cases, cases_lt, and_parts, ltb-true}
use Rattle.std.proofs.lemmas.Option.{same_Some}
use Rattle.fab_base.specs.declared.identities.BrickId.{BrickId}
use Rattle.fab_base.specs.declared.asks.Ask.{Ask}
use Rattle.fab_base.specs.declared.stamps.Stamp.{Stamp}
use Rattle.fab_base.specs.Stamps.{stamp_below, first_stamp}
use Rattle.fab_base.specs.Layouts.{Group, group_of}
use Rattle.messages.specs.declared.requests.Version.{Version}
use Rattle.messages.specs.declared.packets.Message.TheVariants as Message
use Rattle.messages.specs.declared.requests.Request.TheVariants as Request
use Rattle.fab_base.specs.declared.asks.Op.TheVariants.{ReadBlock, WriteBlock, ReadStripe, WriteStripe}
use Rattle.protocol.specs.Settings.{Setting, IsSound}
use Rattle.protocol.specs.Replicas.{Replica, is_held, top_of, newest_of, first_replica, fresh_replica}
use Rattle.protocol.specs.Coordinators.{Coordinator, looks_back}
use Rattle.protocol.specs.Nodes.{has_block, has_length, replica_at, phase_packets, first_phase, view_at}
use Rattle.protocol.specs.Worlds.{World, Operation, first_world, number_of, run, is_brick, Event}
use Rattle.protocol_laws.proofs.Books.{Books, CallBooks, OperationBooks, IsOperation, MadeInPhase}
use Rattle.protocol_laws.proofs.BooksEvents.{books}
use Rattle.protocol_laws.proofs.Blocking.{was_kept}
use Rattle.protocol_laws.proofs.Logs.{IsUnder, held_stands, newest_stands}
use Rattle.protocol_laws.proofs.Said.{Stamping, Said, Stands, WasCollected, IsMadeOrFirst, IsStamped, IsBottom}
use Rattle.protocol_laws.proofs.SaidAlways.{always_said}
use Rattle.protocol_laws.proofs.OwnStamps.{not_made_yet}
use Rattle.calm_laws.specs.Laws.{EncodesBlocks, CalmOperationsEnd, HasStripe, most_records, CountsThese}
use Rattle.calm_laws.specs.Logs.{is_stripe}
use Rattle.protocol.specs.Happenings.{is_marked}
use Rattle.calm_laws.proofs.Known.{Known, KnownCall, KnownMessages, KnownLogs, repeated, KeepsFrom, StandsIn, KnownFloor, KnownBack}
use Rattle.calm_laws.proofs.Fresh.{IsFresh, IsNumbered, IsOpenAt, opens_at}
use Rattle.calm_laws.proofs.FreshRuns.{always_fresh}
use Rattle.calm_laws.proofs.Lives.{CountsLives, always_count, log_within}
use Rattle.protocol_laws.proofs.BooksKept.{counts_all}

module _ (setting : Setting) (sound : IsSound setting) (encodes : EncodesBlocks setting) (small : setting.layout.records ≤ most_records) (w : World)
    (stamps : Stamping) (books : Books setting w) (said : Said setting (views_in setting.layout w.packets) w stamps) (n : ℕ) (o : Operation) (c : Coordinator) (is : IsOperation w n o)
    (bricks : List BrickId) (has_stripe : HasStripe setting o c bricks)
    (at : IsOpenAt w n c) (in_views : StampViews setting.layout w) (follows : Follows setting.layout (views_in setting.layout w.packets) w)
    (fresh : IsFresh setting w n c) (numbered : IsNumbered w) (counts : (i : ℕ) → CountsLives setting.layout (w.nodes i))
    (synced : IsSaidSynced w c.call.group.0 c.stamp.view.0 ⊎ ((may_ask_prior w c bricks ≡ true) × IsSaidSynced w c.call.group.0 (c.stamp.view.0 - 1))) where
  abbrev views : Views
  views = views_in setting.layout w.packets

  -- the operation is the one that is open
  same : at.operation ≡ o
  same = same_Some at.operation o (sym at.operation_is ∙ is)

  call : (w.nodes o.brick.0).calls o.seq ≡ Some c
  call = subst (λ (z : Operation). (w.nodes z.brick.0).calls z.seq ≡ Some c) same at.call

  boot : (w.nodes o.brick.0).boot ≡ o.boot
  boot = subst (λ (z : Operation). (w.nodes z.brick.0).boot ≡ z.boot) same at.boot

  its : CallBooks setting w o.brick.0 o.seq c
  its = books.calls o.brick.0 o.seq c call

  its_books : OperationBooks setting w n o
  its_books = books.operations n o is

  -- the call's operation is this one
  number : number_of w o.brick.0 o.seq ≡ n
  number = ap (λ (b : ℕ). w.numbers o.brick.0 b o.seq) boot ∙ its_books.number

  the_operation : its.operation ≡ o
  the_operation = same_Some its.operation o (sym its.operation_is ∙ ap (λ (a : ℕ). w.operations a) number ∙ is)

  ask : c.ask ≡ o.ask
  ask = its.ask ∙ ap (λ (z : Operation). z.ask) the_operation

  -- the operation's view
  abbrev e : ℕ
  e = c.stamp.view.0

  -- it is in its first phase, which asks the members of its own view
  view : c.call.view ≡ c.stamp.view
  view = its.call_view ∙ view_ahead c.stamp c.phase (ap (λ (p : Phase). looks_back p) fresh.phase ∙ first_ahead c.ask.op)

  view_number : c.call.view.0 ≡ e
  view_number = ap (λ (v : ViewNo). v.0) view

  from_one : 1 ≤ e
  from_one =
      subst (λ (k : ℕ). 1 ≤ k) (ap (λ (z : Operation). z.view) (sym the_operation) ∙ its.stamp_view) (said.operations n o is).view.0

  -- the members of that view keep its group
  call_group : group_in setting.layout views c.call.group.0 e ≡ Some c.group
  call_group = (said.calls o.brick.0 o.seq c call).group

  group_at_view : (f : ℕ) → f ≡ e → group_in setting.layout views c.call.group.0 f ≡ Some c.group
  group_at_view f same = ap (λ (k : ℕ). group_in setting.layout views c.call.group.0 k) same ∙ call_group

  -- the layout's group
  layout_group : (base : Group) × (group_of setting.layout c.call.group.0 ≡ Some base) × (c.group ≡ kept_by (views c.call.group.0 e) base)
  layout_group = kept_is setting.layout (views c.call.group.0 e) c.call.group.0 c.group call_group

  abbrev base : Group
  base = layout_group.0

  asked_group_is : group_of setting.layout c.ask.group.0 ≡ Some base
  asked_group_is = ap (λ g. group_of setting.layout g.0) (sym its.call_group) ∙ layout_group.1

  group_same : its_books.group ≡ base
  group_same = same_Some its_books.group base (sym its_books.group_is ∙ ap (λ (a : Ask). group_of setting.layout a.group.0) (sym ask) ∙ asked_group_is)

  -- it has as many data blocks and stripes
  same_m : its_books.group.m ≡ c.group.m
  same_m = ap (λ (z : Group). z.m) group_same ∙ ap (λ (z : Group). z.m) (sym layout_group.2)

  same_stripes : its_books.group.stripes ≡ c.group.stripes
  same_stripes = ap (λ (z : Group). z.stripes) group_same ∙ ap (λ (z : Group). z.stripes) (sym layout_group.2)

  -- its stripe is one of the group's
  asked_within : o.ask.stripe.0 < its_books.group.stripes
  asked_within = ⊎_elim
      (λ (marked : is_marked o ≡ true). its_books.stripe (ltb-true 0 o.mark marked))
      (λ (there : (is_stripe (group_of setting.layout o.ask.group.0) o.ask.stripe.0 ≡ true) × CountsThese c bricks).
      ltb-true o.ask.stripe.0 its_books.group.stripes (ap (λ (z : Option Group). is_stripe z o.ask.stripe.0) (sym its_books.group_is) ∙ there.0))
      has_stripe

  -- it counts every member, or these bricks
  counts_every : CountsThese c bricks
  counts_every = ⊎_elim
      (λ (marked : is_marked o ≡ true).
      inl (counts_all setting w books o.brick.0 o.seq c its (subst (λ (z : Operation). 1 ≤ z.mark) (sym the_operation) (ltb-true 0 o.mark marked))))
      (λ (every : (is_stripe (group_of setting.layout o.ask.group.0) o.ask.stripe.0 ≡ true) × CountsThese c bricks). every.1)
      has_stripe

  known_call : KnownCall setting w n o c
  known_call = record {
    brick = subst (λ (b : BrickId). is_brick setting.layout b ≡ true) (its.stamp_brick ∙ ap (λ (z : Operation). z.brick) the_operation) fresh.there;
    ask = ask;
    number = its_books.number;
    begun = its_books.begun;
    called = its_books.called.1 (sym boot);
    boot = its.call_boot ∙ boot;
    seq = its.call_seq;
    of_group = its.call_group;
    view = view;
    from_one = from_one;
    stripe = its.call_stripe;
    base = base;
    base_is = asked_group_is;
    stripes = ap (λ (z : Group). z.stripes) (sym layout_group.2);
    groups = λ i same.
        ap (λ (members : List BrickId). group_kept setting.layout members c.call.group.0) (follows.learnt i c.call.group.0)
        ∙ group_at_view (view_at (w.nodes i) c.call.group.0) same;
    within = subst (λ (a : Ask). a.stripe.0 < c.group.stripes) (sym ask) (subst (λ (k : ℕ). o.ask.stripe.0 < k) same_stripes asked_within);
    block_fits =
        subst (λ (a : Ask). has_block c.group.m a.op ≡ true) (sym ask)
        (subst (λ (k : ℕ). has_block k o.ask.op ≡ true) same_m its_books.block_fits);
    length_fits =
        subst (λ (a : Ask). has_length c.group.m setting.layout.block a.op ≡ true) (sym ask)
        (subst (λ (k : ℕ). has_length k setting.layout.block o.ask.op ≡ true) same_m its_books.length_fits);
    stamp_known = its.stamp_known.1;
    phase = fresh.phase;
    number_of_phase = fresh.number;
    round = fresh.round;
    counted = fresh.counted;
  }

  known_messages : KnownMessages setting w n o c
  known_messages = record {
    copies = fresh.copies;
    sent = fresh.packets
        ∙ ap (λ (b : BrickId). repeated (suc fresh.copies) (phase_packets setting b c)) (its.stamp_brick ∙ ap (λ (z : Operation). z.brick) the_operation);
    unsent = numbered.reached;
  }

  -- its stripe's part at a brick
  part : (i : ℕ) → replica_at (w.nodes i) c.call ≡ part_in w c.call.group.0 e c.call.stripe.0 i
  part i = ap (λ (f : ℕ). (w.nodes i).replicas c.call.group.0 f c.call.stripe.0) view_number

  -- there is such a stripe
  stripe_within : c.call.stripe.0 < base.stripes
  stripe_within =
      subst (λ s. s.0 < base.stripes) (sym its.call_stripe)
      (subst (λ (a : Ask). a.stripe.0 < base.stripes) (sym ask)
      (subst (λ (z : Group). o.ask.stripe.0 < z.stripes) group_same asked_within))

  abbrev g : ℕ
  g = c.call.group.0

  abbrev st : ℕ
  st = c.call.stripe.0

  -- a version that was collected stands
  collected_stands : (t : Stamp) → WasCollected w g st t → Stands setting views w g st t
  collected_stands t was =
      let says = said.packets was.sent.0 (record { from = was.from; to = was.to; message = Message.Request was.call (Request.Collect t) }) was.sent.1 in
      let m : ℕ = w.numbers was.from.0 was.call.boot was.call.seq in
      let maker : Operation = says.operation in
      let stands : Stands setting views w maker.ask.group.0 maker.ask.stripe.0 t
      = (said.operations m maker says.called.is).stands t says.version (inr says.answered) in
      subst (λ (h : ℕ). Stands setting views w h st t) (says.called.group ∙ was.group)
      (subst (λ (k : ℕ). Stands setting views w maker.ask.group.0 k t) (says.called.stripe ∙ was.stripe) stands)

  -- a fresh part has one version at most
  fresh_short : (block f : ℕ) → length (fresh_replica block f).log ≤ 1
  fresh_short block f = cond_both (nat_eq f 1) (first_replica block) _ (λ (r : Replica). length r.log ≤ 1) (λ one. omega arith) (λ other. omega arith)

  -- a view whose members keep the group so
  module _ (f : ℕ) (group : Group) (found : group_in setting.layout views g f ≡ Some group) where
    stands_in : (t : Stamp) → view_of t ≡ f → Stands setting views w g st t → StandsIn w g st f group t
    stands_in t of stands =
        record { of = of; held = stands group (ap (λ (k : ℕ). group_in setting.layout views g k) of ∙ found) }

    logs_in : KnownLogs setting w g st f group
    logs_in = record {
      limits = follows.limits g f group found;
      distinct = follows.distinct g f group found;
      ascends = λ i. said.logged.ascends g f st i;
      of = λ i. ((in_views.nodes i).parts g f st).log;
      blocks = λ i seat k version seat_is at_k.
          ap (λ (l : List ℕ). length l) ((said.logs g f st i k version at_k).block group seat found seat_is)
          ∙ encodes group.m (w.contents g st version.stamp) seat;
      short = λ i.
          let inside : length (part_in w g f st i).log ≤ (w.nodes i).live + 1 = ⊎_elim
          (λ (ahead : view_at (w.nodes i) g < f).
          let none : length (part_in w g f st i).log ≤ 1
          = subst (λ (r : Replica). length r.log ≤ 1) (sym ((in_views.nodes i).fresh g f st ahead)) (fresh_short setting.layout.block f) in
          omega (arith, none))
          (λ (learnt : f ≤ view_at (w.nodes i) g). log_within setting.layout (w.nodes i) g f st base (counts i) layout_group.1 stripe_within learnt)
          (cases_lt (view_at (w.nodes i) g) f) in
          let most = (counts i).most in
          omega (arith, inside, small, most);
    }

    -- what a brick keeps of it, where some version of it stands
    floor_in : (base_at : Stamp) → StandsIn w g st f group base_at → KnownFloor w g st f group
    floor_in base_at base_stands = record { base = base_at; stands = base_stands; keeps = keeps }
      where
        keeps : (i : ℕ) → KeepsFrom w g st f group i
        keeps i = ⊎_elim
            (λ (kept : first_kept ((w.nodes i).learnt g) ≤ f). at_view kept (part_in w g f st i).log refl)
            (λ (dropped : f < first_kept ((w.nodes i).learnt g)).
            record { from = base_at; stands = base_stands; logged = λ kept t of held. absurd (omega (arith, kept, dropped)) })
            (kept_or_not (first_kept ((w.nodes i).learnt g)))
          where
            kept_or_not : (k : ℕ) → (k ≤ f) ⊎ (f < k)
            kept_or_not k = ⊎_elim (λ (less : f < k). inr less) (λ (most : k ≤ f). inl most) (cases_lt f k)

            -- what was held is in the log, or below it
            was_there : first_kept ((w.nodes i).learnt g) ≤ f → (log : List Version) → (part_in w g f st i).log ≡ log → (t : Stamp) → view_of t ≡ f
                → w.held i g st t ≡ true → (is_held t (part_in w g f st i).log ≡ true) ⊎ IsUnder t log
            was_there kept log is t of held = ⊎_elim
                (λ (there : is_held t (part_in w g f st i).log ≡ true). inl there)
                (λ (under : IsUnder t (part_in w g f st i).log). inr (subst (λ (l : List Version). IsUnder t l) is under))
                (was_kept w said.logged g f st i t kept of held)

            at_view : first_kept ((w.nodes i).learnt g) ≤ f → (log : List Version) → (part_in w g f st i).log ≡ log → KeepsFrom w g st f group i
            at_view kept [] is = record {
              from = base_at;
              stands = base_stands;
              logged = λ now t of held. ⊎_elim
                  (λ (there : is_held t (part_in w g f st i).log ≡ true). inl there) (λ (under : IsUnder t []). absurd under) (was_there kept [] is t of held);
            }
            at_view kept (x ∷ log) is = ⊎_elim
                (λ (bottom : IsBottom w g f st i x.stamp). record {
                  from = base_at;
                  stands = base_stands;
                  logged = λ now t of held. ⊎_elim
                      (λ (there : is_held t (part_in w g f st i).log ≡ true). inl there)
                      (λ (under : IsUnder t (x ∷ log)). absurd (bottom t of under held)) (was_there kept (x ∷ log) is t of held);
                })
                (λ (was : WasCollected w g st x.stamp). record {
                  from = x.stamp;
                  stands = stands_in x.stamp (((in_views.nodes i).parts g f st).log 0 x (ap (λ (l : List Version). slice_get l 0) is))
                      (collected_stands x.stamp was);
                  logged = λ now t of held. was_there kept (x ∷ log) is t of held;
                })
                (said.lowest g f st i x log kept is)

    -- it has a floor, where it is said to be synced
    floor_at : IsSaidSynced w g f → KnownFloor w g st f group
    floor_at is =
        let some = synced_stands setting views sound w stamps books said g f st base layout_group.1 (inr stripe_within) is in
        floor_in some.0 (stands_in some.0 some.1 some.2)

  -- what a recovery comes to at the latest
  known_ground : KnownFloor w g st c.call.view.0 c.group ⊎ KnownBack setting w c bricks
  known_ground = ⊎_elim
      (λ (is : IsSaidSynced w g e). inl (subst (λ (k : ℕ). KnownFloor w g st k c.group) (sym view_number) (floor_at e c.group call_group is)))
      (λ (back : (may_ask_prior w c bricks ≡ true) × IsSaidSynced w g (e - 1)).
      let later : 1 < e = ltb-true 1 e (and_parts (nat_lt 1 e) (not (list_any (knows_synced w g) bricks)) back.0).0 in
      let before : group_in setting.layout views g (e - 1) ≡ Some (kept_by c.prior c.group)
      = ap (λ (members : List BrickId). group_kept setting.layout members g) (sym ((said.calls o.brick.0 o.seq c call).prior later))
      ∙ ap (λ (z : Option Group). option_map (kept_by c.prior) z) layout_group.1
      ∙ ap (λ (z : Group). Some (kept_by c.prior z)) (sym layout_group.2) in
      inr (record {
        may = back.0;
        logs = subst (λ (k : ℕ). KnownLogs setting w g st (k - 1) (kept_by c.prior c.group)) (sym view_number) (logs_in (e - 1) (kept_by c.prior c.group) before);
        floor = subst (λ (k : ℕ). KnownFloor w g st (k - 1) (kept_by c.prior c.group)) (sym view_number) (floor_at (e - 1) (kept_by c.prior c.group) before back.1);
      }))
      synced

  known : Known setting w n o c bricks
  known = record {
    call = known_call;
    counts = counts_every;
    messages = known_messages;
    logs = subst (λ (k : ℕ). KnownLogs setting w g st k c.group) (sym view_number) (logs_in e c.group call_group);
    top_view = λ i.
        subst (λ (r : Replica). (top_of r).view.0 ≤ e) (sym (part i))
        (part_most (part_in w c.call.group.0 e c.call.stripe.0 i) ((in_views.nodes i).parts c.call.group.0 e c.call.stripe.0));
    unheld = λ i. ⊎_elim
        (λ (held : is_held c.stamp (replica_at (w.nodes i) c.call).log ≡ true). absurd (not_yet i (subst (λ (r : Replica). is_held c.stamp r.log ≡ true) (part i) held)))
        (λ (isnt : is_held c.stamp (replica_at (w.nodes i) c.call).log ≡ false). isnt)
        (cases_Bool (is_held c.stamp (replica_at (w.nodes i) c.call).log));
    ground = known_ground;
  }
    where
      -- a part of the view comes to no stamp of a later one
      part_most : (part : Replica) → PartIsOf e part → (top_of part).view.0 ≤ e
      part_most part of = by (newest_of part.log) refl
        where
          order_most : part.order.view.0 ≤ e
          order_most = ⊎_elim
              (λ (first : part.order ≡ first_stamp). omega (arith, ap (λ (z : Stamp). z.view.0) first)) (λ (one : part.order.view.0 ≡ e). omega (arith, one)) of.order

          by : (z : Option Version) → newest_of part.log ≡ z → (top_of part).view.0 ≤ e
          by None none = subst (λ (t : Stamp). t.view.0 ≤ e) (sym (top_is_order part none)) order_most
          by (Some version) is =
              let stands = newest_stands part.log version is in
              let one : view_of version.stamp ≡ e = of.log stands.0 version stands.1 in
              subst (λ (t : Stamp). t.view.0 ≤ e) (sym (top_is part version is))
              (cond_both (stamp_below part.order version.stamp) version.stamp part.order (λ (z : Stamp). z.view.0 ≤ e) (λ less. omega (arith, one)) (λ isnt. order_most))

      -- no version has the operation's stamp yet
      not_yet : (i : ℕ) → is_held c.stamp (part_in w c.call.group.0 e c.call.stripe.0 i).log ≡ true → ⊥
      not_yet i held =
          let place = held_stands c.stamp (part_in w c.call.group.0 e c.call.stripe.0 i).log held in
          let made : IsMadeOrFirst w c.call.group.0 c.call.stripe.0 c.stamp
          = subst (λ (t : Stamp). IsMadeOrFirst w c.call.group.0 c.call.stripe.0 t) place.3
          (said.logs c.call.group.0 e c.call.stripe.0 i place.0 place.1 place.2).made in
          not_made_yet setting views w stamps books said n o c.call.phase c.stamp is unmade stamped c.call.group.0 c.call.stripe.0 made
        where
          -- the operation has made nothing in its first phase
          unmade : o.made ≡ false
          unmade = subst (λ (z : Operation). z.made ≡ false) the_operation
              (by c.ask.op (subst (λ (p : Phase). MadeInPhase c its.operation p) fresh.phase its.made))
            where
              by : (op : Op) → MadeInPhase c its.operation (first_phase op) → its.operation.made ≡ false
              by (ReadBlock j) none = none.1
              by (WriteBlock j bytes) none = none.1
              by ReadStripe none = none.1
              by (WriteStripe bytes) none = none.1

          stamped : IsStamped stamps o.brick.0 o.boot o.seq c.call.phase c.stamp
          stamped = subst (λ (b : ℕ). IsStamped stamps o.brick.0 b o.seq c.call.phase c.stamp) boot
              (c.phase, (said.calls o.brick.0 o.seq c call).begun)

-- an open operation is of a view from view 1 on
view_from_one : (setting : Setting) (w : World) (stamps : Stamping) → Books setting w → Said setting (views_in setting.layout w.packets) w stamps
    → (n : ℕ) (o : Operation) (c : Coordinator) → IsOperation w n o → IsOpenAt w n c → 1 ≤ c.stamp.view.0
view_from_one setting w stamps books said n o c is at =
    let same : at.operation ≡ o = same_Some at.operation o (sym at.operation_is ∙ is) in
    let call : (w.nodes o.brick.0).calls o.seq ≡ Some c = subst (λ (z : Operation). (w.nodes z.brick.0).calls z.seq ≡ Some c) same at.call in
    let its : CallBooks setting w o.brick.0 o.seq c = books.calls o.brick.0 o.seq c call in
    subst (λ (k : ℕ). 1 ≤ k) its.stamp_view
    (said.operations (number_of w o.brick.0 o.seq) its.operation its.operation_is).view.0

-- one of these bricks has what some of them have
some_brick : (test : BrickId → Bool) (bricks : List BrickId) → list_any test bricks ≡ true
    → (k : ℕ) × (brick : BrickId) × (slice_get bricks k ≡ Some brick) × (test brick ≡ true)
some_brick test [] some = absurd (false≢true some)
some_brick test (brick ∷ bricks) some = ⊎_elim
    (λ (here : test brick ≡ true). (0, brick, refl, here))
    (λ (there : list_any test bricks ≡ true). let rest = some_brick test bricks there in (suc rest.0, rest.1, rest.2, rest.3))
    (or_cases (test brick) (list_any test bricks) some)

-- the view of an operation is said to be synced; or it may have to ask the members of the view before, and that one is said to be synced
said_synced : (setting : Setting) (events : List Event) (n : ℕ) (bricks : List BrickId) → IsSound setting
    → (let w : World = run setting events (first_world setting.layout) in
    (calm : IsCalm setting w n bricks) → (let c : Coordinator = calm.coordinator in 1 ≤ c.stamp.view.0
    → IsSaidSynced w c.call.group.0 c.stamp.view.0 ⊎ ((may_ask_prior w c bricks ≡ true) × IsSaidSynced w c.call.group.0 (c.stamp.view.0 - 1))))
said_synced setting events n bricks sound calm from_one = by (nat_lt 1 c.stamp.view.0) refl (list_any (knows_synced w c.call.group.0) bricks) refl
  where
    w : World
    w = run setting events (first_world setting.layout)

    c : Coordinator
    c = calm.coordinator

    opened : OpenFacts w calm.operation c
    opened = open_facts w n calm.operation c calm.is calm.open_is

    by : (later : Bool) → nat_lt 1 c.stamp.view.0 ≡ later → (knows : Bool) → list_any (knows_synced w c.call.group.0) bricks ≡ knows
        → IsSaidSynced w c.call.group.0 c.stamp.view.0 ⊎ ((may_ask_prior w c bricks ≡ true) × IsSaidSynced w c.call.group.0 (c.stamp.view.0 - 1))
    by false isnt knows is = inl (inl (let most = ltb-false 1 c.stamp.view.0 isnt in omega (arith, most, from_one)))
    by true later true is =
        let one = some_brick (knows_synced w c.call.group.0) bricks is in
        inl (subst (λ (e : ℕ). IsSaidSynced w c.call.group.0 e) (calm.ready one.0 one.1 one.2).view
        ((syncs_are_said setting events sound).synced one.1.0 c.call.group.0 one.3))
    by true later false is = inr (
      ap (λ (b : Bool). b && not (list_any (knows_synced w c.call.group.0) bricks)) later ∙ ap (λ (b : Bool). not b) is,
      (syncs_are_said setting events sound).called calm.operation.brick.0 calm.operation.seq c opened.call (ltb-true 1 c.stamp.view.0 later),
    )

-- what is known of an operation that may run alone
pub known_of : (setting : Setting) (events : List Event) (n : ℕ) (bricks : List BrickId) → IsSound setting → EncodesBlocks setting
    → setting.layout.records ≤ most_records → (calm : IsCalm setting (run setting events (first_world setting.layout)) n bricks)
    → HasStripe setting calm.operation calm.coordinator bricks → Known setting (run setting events (first_world setting.layout)) n calm.operation calm.coordinator bricks
known_of setting events n bricks sound encodes small calm has_stripe =
    let w : World = run setting events (first_world setting.layout) in
    let said = always_said setting (views_in setting.layout w.packets) events sound (every_run_follows setting events sound) in
    let always = always_fresh setting events in
    let at : IsOpenAt w n calm.coordinator = opens_at w n calm.coordinator calm.open_is in
    let fresh : IsFresh setting w n calm.coordinator = always.1 n calm.coordinator calm.open_is calm.untouched in
    known setting sound encodes small w said.0 (books setting events) said.1 n calm.operation calm.coordinator calm.is bricks has_stripe at (always_views setting events)
    (every_run_follows setting events sound events [] (sym (append-nil events))) fresh always.0 (always_count setting events)
    (said_synced setting events n bricks sound calm
    (view_from_one setting w said.0 (books setting events) said.1 n calm.operation calm.coordinator calm.is at))

-- so it ends
pub calm_ends : CalmOperationsEnd
calm_ends setting events n bricks sound encodes small calm has_stripe =
    ends_alone setting sound encodes (run setting events (first_world setting.layout)) n bricks calm
    (known_of setting events n bricks sound encodes small calm has_stripe)

-- an operation that marks of a number are of has marks
is_of_mark : (operations : ℕ → Option Operation) (mark k : ℕ) (o : Operation) → operations 0 ≡ None → operations (number_marked operations mark k) ≡ Some o
    → is_marked o ≡ true
is_of_mark operations mark zero o none is = absurd (let never : None ≡ Some o = sym none ∙ is in cc)
is_of_mark operations mark (suc k) o none is =
    cond_both (has_mark mark (operations (suc k))) (suc k) (number_marked operations mark k) (λ (m : ℕ). operations m ≡ Some o → is_marked o ≡ true)
    (λ has its. (and_parts (is_marked o) (nat_eq o.mark mark) (ap (λ (z : Option Operation). has_mark mark z) (sym its) ∙ has)).0)
    (λ hasnt its. is_of_mark operations mark k o none its) is

-- so its stripe is one of its group's
pub marked_has_stripe : (setting : Setting) (events : List Event) (mark : ℕ) (o : Operation) (c : Coordinator) (bricks : List BrickId)
    → (let w : World = run setting events (first_world setting.layout) in w.operations (operation_marked w mark) ≡ Some o) → HasStripe setting o c bricks
marked_has_stripe setting events mark o c bricks is = inl (is_of_mark w.operations mark w.begun o (at (w.operations 0) refl) is)
  where
    w : World
    w = run setting events (first_world setting.layout)

    at : (z : Option Operation) → w.operations 0 ≡ z → w.operations 0 ≡ None
    at None none = none
    at (Some p) some = absurd (let from = ((books setting events).operations 0 p some).from_one in omega (arith, from))
