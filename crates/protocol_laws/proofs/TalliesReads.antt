-- The history of replies where nothing is told of operations, where one begins, and where a read of a brick's own was closed.
use Rattle.std.proofs.Common.{◌≡◌, ℕ, ◌+◌, ◌⊎◌, inl, inr, ⊎_elim, Bool, Option, Some, None, List, [], ◌∷◌, ◌++◌, refl, sym, ap, ◌∙◌, subst, arith, true, is_some}
use Rattle.std.specs.Prelude.{slice_get}
use Rattle.std.proofs.lemmas.Bool.{false≢true}
use Rattle.std.proofs.lemmas.Option.{same_Some}
use Rattle.fab_base.specs.declared.identities.BrickId.{BrickId}
use Rattle.fab_base.specs.declared.asks.Ask.{Ask}
use Rattle.fab_base.specs.declared.stamps.Stamp.{Stamp}
use Rattle.fab_base.specs.declared.member_lists.View.{View}
use Rattle.fab_base.specs.declared.answers.Cause.{Cause}
use Rattle.fab_base.specs.declared.answers.Answer.TheVariants.{Aborted}
use Rattle.fab_base.specs.Layouts.{Group}
use Rattle.messages.specs.declared.packets.Message.TheVariants as Message
use Rattle.messages.specs.declared.packets.Packet.{Packet}
use Rattle.reg_model.specs.declared.marks.Mark.{Mark}
use Rattle.reg_model.specs.declared.marks.Mark.TheVariants.{End}
use Rattle.protocol.specs.declared.tellings.Report.{Report}
use Rattle.protocol.specs.Settings.{Setting}
use Rattle.protocol.specs.Coordinators.{Coordinator}
use Rattle.protocol.specs.Jobs.{Job, JobNext, synced_answer}
use Rattle.protocol.specs.Nodes.{Node, NodeStep, put, reading, read_begun_by, with_job, phase_packets, synced_packets, top_at, begun_aside, scrubbing, scrub_coordinator, scrub_ended}
use Rattle.protocol.specs.Worlds.{World, Operation, Choices, number_of, world_stepped, with_held, choices_after}
use Rattle.protocol.proofs.Puts.{put_other}
use Rattle.protocol.proofs.Tables.{put_each, get_kept, put_same}
use Rattle.view_laws.proofs.SyncReads.{read_call}
use Rattle.protocol_laws.specs.Laws.{WasSent, Evidence, order_of}
use Rattle.protocol_laws.proofs.Books.{Books, IsCall, IsOperation, ForJob, ForScrub}
use Rattle.protocol_laws.proofs.BooksKept.{KeepsNumbers, HasNoRead, cases_call, own_called}
use Rattle.protocol_laws.proofs.BooksQuiet.{quiet_world}
use Rattle.protocol_laws.proofs.BooksBegins.{Opens, opened_world, opened_operation, new_call, old_calls, boots_stay, new_at, old_at, times, coordinator_of, reading_opens, scrubbing_opens}
use Rattle.protocol_laws.proofs.BooksEvents.{keeps_put}
use Rattle.protocol_laws.proofs.Closing.{AfterClose}
use Rattle.protocol_laws.proofs.Outcomes.{first_round_above}
use Rattle.protocol_laws.proofs.StampViews.{first_ahead}
use Rattle.protocol_laws.proofs.Tallies.{CallTallied, Tallied, MessagesShow, OrdersAlone}
use Rattle.protocol_laws.proofs.TalliesKept.{StaySent, call_tallied_on, known_kept, tallied_on, LagsAs, lags_same}
use Rattle.protocol.specs.Scrubs.{Scrub, scrub_ask, is_look}
use Rattle.protocol.specs.declared.tellings.ScrubAnswer.{ScrubAnswer}
use Rattle.fab_base.specs.declared.identities.StripeNo.{StripeNo}
use Rattle.fab_base.specs.declared.identities.GroupId.{GroupId}
use Rattle.messages.specs.declared.calls.Call.{Call}
use Rattle.protocol.specs.declared.phases.Counted.{Counted}
use Rattle.std.specs.Option.{option_map}

module _ (setting : Setting) (w : World) (books : Books setting w) (tallied : Tallied w) where
  -- a step that changes no operation
  pub tallied_quiet : (nodes : ℕ → Node) (held : ℕ → ℕ → ℕ → Stamp → Bool) (clocks : ℕ → ℕ) (packets : List Packet)
      (reached : ℕ → Bool) (choices : Choices) → OrdersAlone (quiet_world w nodes held clocks packets w.replies reached choices) → ((i : ℕ) → KeepsNumbers (w.nodes i) (nodes i))
      → ((i k : ℕ) → (nodes i).calls k ≡ (w.nodes i).calls k)
      → ((i k : ℕ) (c : Coordinator) → IsCall w i k c → LagsAs (w.nodes i).scrub (nodes i).scrub c)
      → ((packet : Packet) → WasSent w packet → WasSent (quiet_world w nodes held clocks packets w.replies reached choices) packet)
      → Tallied (quiet_world w nodes held clocks packets w.replies reached choices)
  tallied_quiet nodes held clocks packets reached choices alone keeps calls lags sent =
      tallied_on setting w (quiet_world w nodes held clocks packets w.replies reached choices) books tallied alone
      (record {
        sent = sent;
        known = known_kept w (quiet_world w nodes held clocks packets w.replies reached choices) (λ i b. refl) (λ i. (keeps i).boot) (λ i. (keeps i).known);
        operations = λ n o is. (o, is, record { brick = refl; boot = refl; seq = refl; ask = refl; mark = refl });
        replies = λ n. inl (λ p. refl);
      })
      (λ i k c is.
      let old : IsCall w i k c = sym (calls i k) ∙ is in
      call_tallied_on w.packets packets w.replies w.replies i (number_of w i k) (w.numbers i (nodes i).boot k) (w.nodes i).scrub (nodes i).scrub c sent
      (ap (λ (b : ℕ). w.numbers i b k) (keeps i).boot) (λ p. refl) (lags i k c old) (tallied.calls i k c old))
      tallied.unbegun (λ n phase k x is. inl is) (λ k p n cause is. inl is) (λ n p cause is ended. inl (p, is, ended))

  -- a brick has a new call, its last, of a new operation: no reply counted in that before
  module _ (brick : BrickId) (now : ℕ) (ask : Ask) (kept : Group) (view : View) (only : Option (List BrickId)) (after : Node) (held : ℕ → ℕ → ℕ → Stamp → Bool) (packets : List Packet)
      (marks : List Mark) (marked mark : ℕ) (floor : ℕ → Stamp) (choices : Choices)
      (opens : Opens (w.nodes brick.0) after (coordinator_of kept view only brick now (w.nodes brick.0) ask)) where
    abbrev new_operation : Operation
    new_operation = opened_operation w brick ask view mark floor

    abbrev next : World
    next = opened_world w brick.0 after held packets marks marked (opened_operation w brick ask view mark floor) choices

    abbrev c : Coordinator
    c = coordinator_of kept view only brick now (w.nodes brick.0) ask

    abbrev k : ℕ
    k = (w.nodes brick.0).seq + 1

    abbrev n : ℕ
    n = w.begun + 1

    new_tallied : ((s : Scrub) → after.scrub ≡ Some s → s.seq ≡ k → (is_look c.phase ≡ true) × (is_some only ≡ true)) → CallTallied packets w.replies brick.0 n after.scrub c
    new_tallied looks_first = record {
      now = record {
        whole = λ look. refl;
        forgotten = [];
        are = tallied.unbegun n 1 (omega arith);
        stops = (refl, refl, refl);
        refused = λ ahead. refl;
        found = inl refl;
      };
      later = λ p above. tallied.unbegun n p (omega arith);
      refused = λ round p low high. absurd (omega (arith, first_round_above c.phase));
      back = λ looks. absurd (false≢true (sym (first_ahead ask.op) ∙ looks));
      alone = λ members is p j x at.
          absurd (let never : None ≡ Some x = ap (λ (l : List Counted). slice_get l j) (sym (tallied.unbegun n p (omega arith))) ∙ at in cc);
      named = λ s is seq. (looks_first s is seq).1;
      lagged = λ s is seq isnt. absurd (false≢true (sym isnt ∙ (looks_first s is seq).0));
    }

    -- the brick has the scrub that it had, but for a new one, whose call it is
    pub tallied_opened : OrdersAlone next → ((s : Scrub) → after.scrub ≡ Some s → s.seq ≡ k → (is_look c.phase ≡ true) × (is_some only ≡ true))
        → ((s : Scrub) → after.scrub ≡ Some s → ((w.nodes brick.0).scrub ≡ Some s) ⊎ (s.seq ≡ k)) → StaySent w.packets packets
        → ((a p m : ℕ) (cause : Cause) → slice_get marks a ≡ Some (End p m (Aborted cause)) → slice_get w.marks a ≡ Some (End p m (Aborted cause)))
        → Tallied next
    tallied_opened alone looks_first scrubs stays no_ends =
        tallied_on setting w next books tallied alone
        (record {
          sent = stays;
          known = known_kept w next (λ j b. refl) (boots_stay setting w brick now ask kept view only after held packets marks marked mark floor choices opens)
              (times setting w brick now ask kept view only after held packets marks marked mark floor choices opens);
          operations = λ m o is. (
            o,
            put_other w.operations n (Some new_operation) m (λ same. omega (arith, (books.operations m o is).begun, same)) ∙ is,
            record { brick = refl; boot = refl; seq = refl; ask = refl; mark = refl },
          );
          replies = λ m. inl (λ p. refl);
        })
        (λ j l e is. ⊎_elim
        (λ (mine : (j ≡ brick.0) × (l ≡ k)).
        let at : (next.nodes brick.0).calls k ≡ Some e
        = subst (λ (x : ℕ). (next.nodes x).calls k ≡ Some e) mine.0 (subst (λ (y : ℕ). (next.nodes j).calls y ≡ Some e) mine.1 is) in
        let one : c ≡ e = same_Some c e (sym (new_call setting w brick now ask kept view only after held packets marks marked mark floor choices opens) ∙ at) in
        let number : number_of next brick.0 k ≡ n = new_at setting w brick now ask kept view only after held packets marks marked mark floor choices opens in
        subst (λ (x : ℕ). CallTallied packets w.replies x (number_of next x l) (next.nodes x).scrub e) (sym mine.0)
        (subst (λ (y : ℕ). CallTallied packets w.replies brick.0 (number_of next brick.0 y) (next.nodes brick.0).scrub e) (sym mine.1)
        (subst (λ (x : Node). CallTallied packets w.replies brick.0 (number_of next brick.0 k) x.scrub e) (sym (put_same w.nodes brick.0 after))
        (subst (λ (x : ℕ). CallTallied packets w.replies brick.0 x after.scrub e) (sym number)
        (subst (λ (z : Coordinator). CallTallied packets w.replies brick.0 n after.scrub z) one (new_tallied looks_first))))))
        (λ (other : j ≡ brick.0 → l ≡ k → ⊥).
        let old : IsCall w j l e
        = sym (old_calls setting w brick now ask kept view only after held packets marks marked mark floor choices opens j l other) ∙ is in
        call_tallied_on w.packets packets w.replies w.replies j (number_of w j l) (number_of next j l) (w.nodes j).scrub (next.nodes j).scrub e stays
        (old_at setting w brick now ask kept view only after held packets marks marked mark floor choices opens j l other)
        (λ p. refl)
        (put_each (λ x (y : Node). (x ≡ brick.0 → e.call.seq ≡ k → ⊥) → LagsAs (w.nodes x).scrub y.scrub e) w.nodes brick.0 after
        (λ unlike s is seq. ⊎_elim
        (λ (was : (w.nodes brick.0).scrub ≡ Some s). (s, was, refl, λ look. refl))
        (λ (fresh : s.seq ≡ k). absurd (unlike refl (sym seq ∙ fresh)))
        (scrubs s is))
        (λ x unlike apart. lags_same (w.nodes x).scrub (w.nodes x).scrub e refl) j
        (λ same seq. other same (sym (books.calls j l e old).call_seq ∙ seq)))
        (tallied.calls j l e old))
        (cases_call brick.0 k j l))
        (λ m p above. tallied.unbegun m p (omega arith))
        (λ m phase a x is. inl is)
        (λ a p m cause is. inl (no_ends a p m cause is))
        (λ m e cause is ended.
        put_each (λ x y. y ≡ Some e → ((d : Operation) × IsOperation w x d × (d.closed ≡ Some (Some cause))) ⊎ Evidence next x e cause) w.operations n
        (Some new_operation)
        (λ at. absurd (let none : None ≡ Some (Some cause) = ap (λ (z : Operation). z.closed) (same_Some new_operation e at) ∙ ended in cc))
        (λ x other at. inl (e, at, ended)) m is)

  -- a read of the brick's own begins
  tallied_aside : (me : BrickId) (now : ℕ) (number : GroupId) (stripe : StripeNo) (kept : Group) (view : View) (only : Option (List BrickId)) (later : Node)
      → (let its = coordinator_of kept view only me now (w.nodes me.0) (scrub_ask number stripe) in
      Opens (w.nodes me.0) later its
      → ((s : Scrub) → later.scrub ≡ Some s → s.seq ≡ (w.nodes me.0).seq + 1 → is_some only ≡ true)
      → ((s : Scrub) → later.scrub ≡ Some s → ((w.nodes me.0).scrub ≡ Some s) ⊎ (s.seq ≡ (w.nodes me.0).seq + 1))
      → (let next : World = world_stepped setting w me (begun_aside setting me later its) in OrdersAlone next → Tallied next))
  tallied_aside me now number stripe kept view only later opens named scrubs alone =
      let its : Coordinator = coordinator_of kept view only me now (w.nodes me.0) (scrub_ask number stripe) in
      tallied_opened me now (scrub_ask number stripe) kept view only later (with_held w.held me.0 later) (w.packets ++ phase_packets setting me its) w.marks w.marked 0
      (λ i. top_at (put w.nodes me.0 later i) number.0 stripe.0) (choices_after w.choices me later []) opens alone
      (λ s is seq. (refl, named s is seq)) scrubs
      (λ packet sent. (sent.0, get_kept w.packets (phase_packets setting me its) sent.0 packet sent.1)) (λ a p m cause is. is)

  -- one of a synchronisation
  pub tallied_read : (me : BrickId) (now : ℕ) (job : Job) (group : Group) → HasNoRead (w.nodes me.0) ForJob
      → (let next : World = world_stepped setting w me (read_begun_by setting me (w.nodes me.0) job (read_call group job me now (w.nodes me.0))) in
      OrdersAlone next → Tallied next)
  tallied_read me now job group none =
      let its : Coordinator = read_call group job me now (w.nodes me.0) in
      tallied_aside me now job.group (record { 0 = job.attempt.stripe }) group job.view None (reading (w.nodes me.0) job its)
      (reading_opens (w.nodes me.0) job its none refl)
      (λ s is seq.
      absurd (let made = own_called setting w me.0 s.seq books (books.scrubs me.0 s.seq (ap (option_map (λ (z : Scrub). z.seq)) is)) in omega (arith, made, seq)))
      (λ s is. inl is)

  -- a scrub
  pub tallied_scrub : (me : BrickId) (now : ℕ) (number : GroupId) (stripe : StripeNo) (members : List BrickId) (group : Group)
      → HasNoRead (w.nodes me.0) ForScrub
      → (let its = scrub_coordinator group me now (w.nodes me.0) number stripe members in
      let next : World = world_stepped setting w me (begun_aside setting me (scrubbing (w.nodes me.0) its) its) in OrdersAlone next → Tallied next)
  tallied_scrub me now number stripe members group none =
      let its : Coordinator = scrub_coordinator group me now (w.nodes me.0) number stripe members in
      tallied_aside me now number stripe group ((w.nodes me.0).learnt number.0).view (Some members) (scrubbing (w.nodes me.0) its)
      (scrubbing_opens (w.nodes me.0) its none refl) (λ s is seq. refl) (λ s is. inr (ap (λ (z : Scrub). z.seq) (sym (same_Some (record { seq = its.call.seq; lagging = [] }) s is))))

  -- a brick's synchronisation ends, or its scrub, or it does nothing
  pub tallied_idle : (me : BrickId) (job : Option Job) (scrub : Option Scrub) (packets : List Packet) (reports : List Report)
      → ((s : Scrub) → scrub ≡ Some s → (w.nodes me.0).scrub ≡ Some s)
      → (let step : NodeStep = record { node = record (w.nodes me.0) { job = job; scrub = scrub }; packets = packets; told = []; answers = []; reports = reports } in
      OrdersAlone (world_stepped setting w me step) → Tallied (world_stepped setting w me step))
  tallied_idle me job scrub packets reports had alone =
      let node : Node = record (w.nodes me.0) { job = job; scrub = scrub } in
      tallied_quiet (put w.nodes me.0 node) (with_held w.held me.0 node) w.clocks (w.packets ++ packets) w.reached _ alone
      (keeps_put w me.0 node (record { boot = refl; seq = omega arith; known = omega arith }))
      (λ j l. put_each (λ (x : ℕ) (y : Node). y.calls l ≡ (w.nodes x).calls l) w.nodes me.0 node refl (λ x other. refl) j)
      (λ j l c is. put_each (λ (x : ℕ) (y : Node). LagsAs (w.nodes x).scrub y.scrub c) w.nodes me.0 node (λ s at seq. (s, had s at, refl, λ look. refl))
      (λ x other. lags_same (w.nodes x).scrub (w.nodes x).scrub c refl) j)
      (λ packet sent. (sent.0, get_kept w.packets packets sent.0 packet sent.1))

-- What an operation that orders asks alone in a later world it asked alone before.
alone_before : (x next : World) → ((packet : Packet) → WasSent x packet → WasSent next packet)
    → ((n : ℕ) (o : Operation) → IsOperation x n o → IsOperation next n o) → OrdersAlone next → OrdersAlone x
alone_before x next sent goes alone n o call to other request t u is own asked stamp ordered =
    alone n o call to other request t u (goes n o is) own (sent (record { from = o.brick; to = to; message = Message.Request call request }) asked) stamp
    (sent (record { from = o.brick; to = other; message = Message.Request call (order_of o.ask.op u) }) ordered)

-- A read of a brick's own was closed, and its synchronisation or its scrub ends, or the brick does nothing: the history of replies in what follows.
tallied_idle_after : (setting : Setting) (x : World) (me : BrickId) → Books setting x → (OrdersAlone x → Tallied x) → (job : Option Job) (scrub : Option Scrub)
    (packets : List Packet) (reports : List Report) → ((s : Scrub) → scrub ≡ Some s → (x.nodes me.0).scrub ≡ Some s)
    → (let step : NodeStep = record { node = record (x.nodes me.0) { job = job; scrub = scrub }; packets = packets; told = []; answers = []; reports = reports } in
    OrdersAlone (world_stepped setting x me step) → Tallied (world_stepped setting x me step))
tallied_idle_after setting x me books there job scrub packets reports had alone =
    tallied_idle setting x books
    (there (λ n o call to other request t u is own asked stamp ordered.
    alone n o call to other request t u is own (asked.0, get_kept x.packets packets asked.0 _ asked.1) stamp (ordered.0, get_kept x.packets packets ordered.0 _ ordered.1)))
    me job scrub packets reports had alone

-- a scrub was closed, and ends
pub tallied_after_scrub : (setting : Setting) (x : World) (me : BrickId) (call : Call) (members : List BrickId) (answer : ScrubAnswer) → Books setting x
    → (OrdersAlone x → Tallied x)
    → (let next : World = world_stepped setting x me (scrub_ended (x.nodes me.0) call members answer) in MessagesShow next → Tallied next)
tallied_after_scrub setting x me call members answer books there shows =
    tallied_idle_after setting x me books there (x.nodes me.0).job None [] (Report.Scrub call members answer ∷ [])
    (λ s is. absurd (let never : None ≡ Some s = is in cc)) shows.orders_alone

-- a read of a synchronisation was closed
pub tallied_after_close : (setting : Setting) (x : World) (me : BrickId) (now : ℕ) (job : Job) (next : JobNext) → Books setting x → HasNoRead (x.nodes me.0) ForJob
    → (OrdersAlone x → Tallied x) → AfterClose (λ (later : World). MessagesShow later → Tallied later) setting x me now job next
tallied_after_close setting x me now job next books none there = record {
  stays = λ shows. idle (x.nodes me.0).job [] [] shows.orders_alone;
  ends = λ answer shows. idle None [] (Report.Sync job.group answer ∷ []) shows.orders_alone;
  finishes = λ goes shows.
      idle None (synced_packets me job.group job.view.number setting.layout.bricks 0) (Report.Sync job.group (synced_answer job.view.number) ∷ [])
      shows.orders_alone;
  reads = λ attempt group goes kept shows.
      (let step : NodeStep = read_begun_by setting me (x.nodes me.0) (record job { attempt = attempt })
      (read_call group (record job { attempt = attempt }) me now (x.nodes me.0)) in
      tallied_read setting x books
      (there (alone_before x (world_stepped setting x me step) (λ packet sent. (sent.0, get_kept x.packets step.packets sent.0 packet sent.1))
      (λ n o is. put_other x.operations (x.begun + 1) _ n (λ same. omega (arith, (books.operations n o is).begun, same)) ∙ is) shows.orders_alone))
      me now (record job { attempt = attempt }) group none shows.orders_alone);
}
  where
    idle : (j : Option Job) (packets : List Packet) (reports : List Report)
        → (let step : NodeStep = record { node = with_job (x.nodes me.0) j; packets = packets; told = []; answers = []; reports = reports } in
        OrdersAlone (world_stepped setting x me step) → Tallied (world_stepped setting x me step))
    idle j packets reports = tallied_idle_after setting x me books there j (x.nodes me.0).scrub packets reports (λ s is. is)
