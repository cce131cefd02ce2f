-- What was said stays said: nothing falls, messages and versions stay, and a version's content does not change.
use Rattle.messages.specs.declared.requests.Want.TheVariants.{All}
use Rattle.messages.specs.declared.requests.Look.TheVariants.{Below}
use Rattle.protocol_laws.proofs.Tops.{before_floor}
use Rattle.protocol.specs.Views.{Views, floor_of}
use Rattle.protocol_laws.proofs.Logs.{IsWithin}
use Rattle.std.proofs.Common.{◌≡◌, ℕ, ◌+◌, ◌≤◌, ◌⊎◌, inl, inr, true, false, not, List, length, Option, Some, None, refl, sym, ap, ◌∙◌, subst, ⊎_elim, arith, []}
use Rattle.std.proofs.lemmas.Bool.{not-true, not_from_false, false≢true}
use Rattle.fab_base.specs.declared.identities.BrickId.{BrickId}
use Rattle.fab_base.specs.declared.stamps.Stamp.{Stamp}
use Rattle.fab_base.specs.declared.asks.Ask.{Ask}
use Rattle.fab_base.specs.declared.asks.Op.TheVariants.{WriteStripe}
use Rattle.fab_base.specs.declared.answers.Answer.{Answer}
use Rattle.fab_base.specs.declared.answers.Answer.TheVariants.{Data, Done, Aborted}
use Rattle.fab_base.specs.Stamps.{stamp_below}
use Rattle.fab_base.proofs.StampOrder.{stamp_not_below_trans}
use Rattle.messages.specs.declared.calls.Call.{Call}
use Rattle.messages.specs.declared.packets.Message.{Message}
use Rattle.messages.specs.declared.packets.Packet.{Packet}
use Rattle.messages.specs.declared.requests.Request.{Request}
use Rattle.messages.specs.declared.requests.Look.{Look}
use Rattle.messages.specs.declared.requests.Want.{Want}
use Rattle.messages.specs.declared.requests.Version.{Version}
use Rattle.messages.specs.declared.replies.Reply.{Reply}
use Rattle.quorum.proofs.Counts.{count_monotone}
use Rattle.fab_base.specs.Layouts.{Group, brick_at}
use Rattle.reg_model.specs.Registers.{block_of, with_block, after_op, read_of}
use Rattle.protocol.specs.Settings.{Setting}
use Rattle.protocol.specs.Replicas.{stamp_max, modified_block}
use Rattle.protocol.specs.declared.phases.Phase.{Phase}
use Rattle.protocol.specs.declared.phases.Phase.TheVariants.{Orders, Stores, Modifies, LooksBack}
use Rattle.protocol.specs.declared.phases.Counted.{Counted}
use Rattle.protocol.specs.Coordinators.{Coordinator, request_of, old_bound}
use Rattle.protocol.specs.Jobs.{Job}
use Rattle.protocol.specs.Worlds.{World, Operation}
use Rattle.protocol.specs.Happenings.{writes}
use Rattle.fab_base.specs.Layouts.{brick_at}
use Rattle.protocol_laws.specs.Laws.{WasSent, AskedAt, IsModified, IsGuarded, NeverFalls, top_in, AtQuorum}
use Rattle.protocol_laws.proofs.Books.{Books, OperationBooks, IsOperation}
use Rattle.protocol_laws.proofs.Blocking.{PartsStay, blocked_stays, stands_stays, NewIsLogged}
use Rattle.protocol_laws.proofs.Said.{Stamping, IsBegun, IsStamped, Stands, AreBlocked, IsMadeOrFirst, IsKnown, IsCalled, IsBlockOf, VersionSays, WriteSays, RequestSays, ReadSays, want_of, OrderedSays, OrderedReadSays, FoundSays, ReplySays, MessageSays, PacketSays, HasVersion, WritesWhole, ReadsBack, OperationSays, CountedSays, CallSays, DataShown, EndShows, FitsPhase, DescendsFrom, ToldSays, MakerSays, ChangesBlock, ModifySays, OrderSays, OrderReadSays, MadeOn, WasCollected, IsPassedOver, OldReadSays, OldSays, BackSays, JobSays, ArePassed}
use Rattle.protocol_laws.proofs.Stampings.{StampsGrow, stays_begun, stays_stamped, stays_known}
use Rattle.protocol_laws.proofs.Counting.{each_then}
use Rattle.protocol.proofs.Blocks.{IsContent}

-- an operation goes on: it keeps what it is, and a version that it has
pub record Continues (o p : Operation) : Type 0 where
  pub brick : p.brick ≡ o.brick
  pub boot : p.boot ≡ o.boot
  pub seq : p.seq ≡ o.seq
  pub begin : p.begin ≡ o.begin
  pub ask : p.ask ≡ o.ask
  pub view : p.view ≡ o.view
  pub floor : p.floor ≡ o.floor
  pub version : (v : Stamp) → o.version ≡ Some v → p.version ≡ Some v
  pub made : (v : Stamp) → o.version ≡ Some v → p.made ≡ o.made
  pub base : (v : Stamp) → o.version ≡ Some v → p.base ≡ o.base
  pub answered : o.answered ≡ true → p.answered ≡ true
  pub mark : p.mark ≡ o.mark

-- an unchanged operation goes on
pub continues_same : (o : Operation) → Continues o o
continues_same o = record {
  brick = refl;
  boot = refl;
  seq = refl;
  begin = refl;
  ask = refl;
  view = refl;
  floor = refl;
  version = λ v is. is;
  made = λ v is. refl;
  base = λ v is. refl;
  answered = λ is. is;
  mark = refl;
}

-- from one world to the next nothing that was said is lost
pub record Grows (w next : World) (stamps later : Stamping) : Type 0 where
  pub parts : PartsStay w next
  pub fresh : NewIsLogged w next
  pub sent : (packet : Packet) → WasSent w packet → WasSent next packet
  pub operations : (n : ℕ) (o : Operation) → IsOperation w n o → (p : Operation) × IsOperation next n p × Continues o p
  pub contents : (g s : ℕ) (t : Stamp) → IsMadeOrFirst w g s t → next.contents g s t ≡ w.contents g s t
  pub grow : StampsGrow stamps later
  pub numbered : (i b k : ℕ) → (b ≡ (w.nodes i).boot → k ≤ (w.nodes i).seq) → next.numbers i b k ≡ w.numbers i b k
  pub marks : length w.marks ≤ length next.marks

-- a Collect that was sent stays sent
pub stays_collected : (w next : World) → ((packet : Packet) → WasSent w packet → WasSent next packet) → (g s : ℕ) (c : Stamp) → WasCollected w g s c
    → WasCollected next g s c
stays_collected w next sent g s c was = record {
  call = was.call;
  from = was.from;
  to = was.to;
  sent = sent (record { from = was.from; to = was.to; message = Message.Request was.call (Request.Collect c) }) was.sent;
  group = was.group;
  stripe = was.stripe;
}

-- where no top falls, what is at or above t stays so
pub above_stays : (w next : World) → NeverFalls w next → (g s i : ℕ) (t : Stamp) → stamp_below (top_in w g s i) t ≡ false
    → stamp_below (top_in next g s i) t ≡ false
above_stays w next tops g s i t above = stamp_not_below_trans t (top_in w g s i) (top_in next g s i) above (tops g s i)

-- and what is guarded stays guarded
pub guarded_stays : (w next : World) → NeverFalls w next → (g s : ℕ) (group : Group) (t : Stamp) → IsGuarded w g s group t
    → IsGuarded next g s group t
guarded_stays w next tops g s group t guarded =
    let more = count_monotone (length group.members)
    (λ seat. not (stamp_below (top_in w g s (brick_at group seat)) t))
    (λ seat. not (stamp_below (top_in next g s (brick_at group seat)) t))
    (λ k below is.
    not_from_false (stamp_below (top_in next g s (brick_at group k)) t)
    (above_stays w next tops g s (brick_at group k) t (not-true (stamp_below (top_in w g s (brick_at group k)) t) is))) in
    omega (arith, guarded, more)

module _ (setting : Setting) (views : Views) (w next : World) (stamps later : Stamping) (books : Books setting w) (grows : Grows w next stamps later) where
  -- a version that was made stays made
  pub stays_made : (g s : ℕ) (t : Stamp) → IsMadeOrFirst w g s t → IsMadeOrFirst next g s t
  stays_made g s t (inl first) = inl first
  stays_made g s t (inr made) =
      let goes = grows.operations made.0 made.1 made.2 in
      let on : Continues made.1 goes.0 = goes.2 in
      inr (
        made.0,
        goes.0,
        goes.1,
        ap (λ a. a.group.0) on.ask ∙ made.3,
        ap (λ a. a.stripe.0) on.ask ∙ made.4,
        on.made t made.6 ∙ made.5,
        on.version t made.6,
      )

  -- the number of an operation's call is one of its brick's, where it is of its present boot
  pub called_within : (i : ℕ) (call : Call) (o : Operation) → IsCalled w i call o → call.boot ≡ (w.nodes i).boot → call.seq ≤ (w.nodes i).seq
  called_within i call o called now =
      let its : OperationBooks setting w (w.numbers i call.boot call.seq) o = books.operations (w.numbers i call.boot call.seq) o called.is in
      let most : o.boot ≡ (w.nodes i).boot → o.seq ≤ (w.nodes i).seq
      = subst (λ (j : ℕ). o.boot ≡ (w.nodes j).boot → o.seq ≤ (w.nodes j).seq) called.brick its.called.1 in
      subst (λ (k : ℕ). k ≤ (w.nodes i).seq) called.seq (most (called.boot ∙ now))

  -- an operation's call stays its
  pub stays_called : (i : ℕ) (call : Call) (o : Operation) → IsCalled w i call o → (p : Operation) × IsCalled next i call p × Continues o p
  stays_called i call o called =
      let goes = grows.operations (w.numbers i call.boot call.seq) o called.is in
      let p : Operation = goes.0 in
      let on : Continues o p = goes.2 in
      let number : next.numbers i call.boot call.seq ≡ w.numbers i call.boot call.seq
      = grows.numbered i call.boot call.seq (called_within i call o called) in (
        p,
        record {
          is = subst (λ (n : ℕ). IsOperation next n p) (sym number) goes.1;
          brick = ap (λ b. b.0) on.brick ∙ called.brick;
          boot = on.boot ∙ called.boot;
          seq = on.seq ∙ called.seq;
          group = ap (λ a. a.group.0) on.ask ∙ called.group;
          stripe = ap (λ a. a.stripe.0) on.ask ∙ called.stripe;
        },
        on,
      )

  -- a phase keeps its stamp
  pub stays_stamp : (i b k p : ℕ) (t : Stamp) → IsStamped stamps i b k p t → IsStamped later i b k p t
  stays_stamp i b k p t is = stays_stamped stamps later grows.grow i b k p t is

  -- a phase stays begun
  pub stays_phase : (i b k p : ℕ) (phase : Phase) (t : Stamp) → IsBegun stamps i b k p phase t → IsBegun later i b k p phase t
  stays_phase i b k p phase t is = stays_begun stamps later grows.grow i b k p phase t is

  -- what is at or above t stays so
  pub stays_above : (g s i : ℕ) (t : Stamp) → stamp_below (top_in w g s i) t ≡ false → stamp_below (top_in next g s i) t ≡ false
  stays_above g s i t above = above_stays w next grows.parts.tops g s i t above

  -- what is guarded stays guarded
  pub stays_guarded : (g s : ℕ) (group : Group) (t : Stamp) → IsGuarded w g s group t → IsGuarded next g s group t
  stays_guarded g s group t guarded = guarded_stays w next grows.parts.tops g s group t guarded

  -- what was passed stays passed
  pub stay_passed : (g most : ℕ) → ArePassed setting views w g most → ArePassed setting views next g most
  stay_passed g most passed e s group least less is = stays_guarded g s group (floor_of (e + 1)) (passed e s group least less is)

  -- what is blocked stays blocked
  pub stay_blocked : (g s : ℕ) (Q : Stamp → Type 0) → AreBlocked setting views w g s Q → AreBlocked setting views next g s Q
  stay_blocked g s Q blocked d group is has = blocked_stays w next grows.parts g s group d (blocked d group is has)

  -- what stands goes on standing
  pub stays_standing : (g s : ℕ) (v : Stamp) → Stands setting views w g s v → Stands setting views next g s v
  stays_standing g s v stands group is = stands_stays w next grows.parts g s group v (stands group is)

  -- a block stays the block of its version
  pub stays_block : (g e s i : ℕ) (t : Stamp) (block : List ℕ) → IsMadeOrFirst w g s t → IsBlockOf setting views w g e s i t block
      → IsBlockOf setting views next g e s i t block
  stays_block g e s i t block made is group seat its at =
      is group seat its at ∙ ap (λ content. setting.code.encode group.m content seat) (sym (grows.contents g s t made))

  pub stays_version : (g e s i : ℕ) (version : Version) → VersionSays setting views w g e s i version → VersionSays setting views next g e s i version
  stays_version g e s i version says = record {
    made = stays_made g s version.stamp says.made;
    block = stays_block g e s i version.stamp version.block says.made says.block;
  }

  pub stays_told : (want : Want) (g e s i : ℕ) (version : Version) → ToldSays setting views w want g e s i version
      → ToldSays setting views next want g e s i version
  stays_told want g e s i version says = record {
    of = says.of;
    made = stays_made g s version.stamp says.made;
    block = ⊎_elim
        (λ (none : version.block ≡ []). inl none)
        (λ (block : IsBlockOf setting views w g e s i version.stamp version.block).
        inr (stays_block g e s i version.stamp version.block says.made block))
        says.block;
    wanted = λ group seat its at wanted.
        says.wanted group seat its at wanted
        ∙ ap (λ content. setting.code.encode group.m content seat) (sym (grows.contents g s version.stamp says.made));
  }

  -- the version that a request stores was made by its operation
  pub maker_made : (from to : ℕ) (call : Call) (phase : Phase) (t : Stamp) → MakerSays setting views w stamps from to call phase t
      → IsMadeOrFirst w call.group.0 call.stripe.0 t
  maker_made from to call phase t says =
      inr (w.numbers from call.boot call.seq, says.operation, says.called.is, says.called.group, says.called.stripe, says.made, says.version)

  stays_maker_of : (from to : ℕ) (call : Call) (phase : Phase) (t : Stamp) → MakerSays setting views w stamps from to call phase t
      → MakerSays setting views next later from to call phase t
  stays_maker_of from to call phase t says =
      let goes = stays_called from call says.operation says.called in
      record {
        operation = goes.0;
        called = goes.1;
        begun = stays_phase from call.boot call.seq call.phase phase t says.begun;
        made = goes.2.made t says.version ∙ says.made;
        version = goes.2.version t says.version;
        member = says.member;
        guarded = λ group is. stays_guarded call.group.0 call.stripe.0 group t (says.guarded group is);
      }

  pub stays_write : (from to : ℕ) (call : Call) (t : Stamp) (block : List ℕ) → WriteSays setting views w stamps from to call t block
      → WriteSays setting views next later from to call t block
  stays_write from to call t block says = record {
    maker = stays_maker_of from to call Stores t says.maker;
    is_block = stays_block call.group.0 call.view.0 call.stripe.0 to t block (maker_made from to call Stores t says.maker) says.is_block;
  }

  -- what a version modifies of its base stays so
  stays_modified : (g s : ℕ) (t base : Stamp) (j : ℕ) (delta : List ℕ) → IsMadeOrFirst w g s t → IsMadeOrFirst w g s base
      → IsModified setting w g s t base j delta → IsModified setting next g s t base j delta
  stays_modified g s t base j delta made base_made is =
      let content : w.contents g s t ≡ next.contents g s t = sym (grows.contents g s t made) in
      let on : w.contents g s base ≡ next.contents g s base = sym (grows.contents g s base base_made) in
      record {
        delta_is = is.delta_is
            ∙ ap (λ (z : List ℕ). setting.code.delta (block_of setting.layout.block j z) (block_of setting.layout.block j (w.contents g s t))) on
            ∙ ap (λ (z : List ℕ). setting.code.delta (block_of setting.layout.block j (next.contents g s base)) (block_of setting.layout.block j z)) content;
        others = sym content ∙ is.others
            ∙ ap (λ (z : List ℕ). with_block setting.layout.block j (block_of setting.layout.block j z) (w.contents g s base)) content
            ∙ ap (λ (z : List ℕ). with_block setting.layout.block j (block_of setting.layout.block j (next.contents g s t)) z) on;
      }

  stays_change : (g s : ℕ) (t base : Stamp) (j : ℕ) (sent : List ℕ) (group : Group) (seat : ℕ) → IsMadeOrFirst w g s t → IsMadeOrFirst w g s base
      → ChangesBlock setting w g s t base j sent group seat → ChangesBlock setting next g s t base j sent group seat
  stays_change g s t base j sent group seat made base_made says = record {
    delta = says.delta;
    sent_is = says.sent_is;
    is = stays_modified g s t base j says.delta made base_made says.is;
    makes = ap (λ (z : List ℕ). modified_block setting.code group.m j seat sent (setting.code.encode group.m z seat)) (grows.contents g s base base_made)
        ∙ says.makes ∙ ap (λ (z : List ℕ). setting.code.encode group.m z seat) (sym (grows.contents g s t made));
  }

  pub stays_modify : (from to : ℕ) (call : Call) (t base : Stamp) (j : ℕ) (sent : List ℕ) → ModifySays setting views w stamps from to call t base j sent
      → ModifySays setting views next later from to call t base j sent
  stays_modify from to call t base j sent says = record {
    maker = stays_maker_of from to call (Modifies base j) t says.maker;
    base_made = stays_made call.group.0 call.stripe.0 base says.base_made;
    changes = λ group seat is at.
        stays_change call.group.0 call.stripe.0 t base j sent group seat (maker_made from to call (Modifies base j) t says.maker) says.base_made
        (says.changes group seat is at);
  }

  stays_order : (i : ℕ) (call : Call) (t : Stamp) → OrderSays w stamps i call t → OrderSays next later i call t
  stays_order i call t says =
      let goes = stays_called i call says.operation says.called in
      record {
        operation = goes.0;
        called = goes.1;
        begun = stays_phase i call.boot call.seq call.phase Orders t says.begun;
        fits = subst (λ (a : Ask). FitsPhase Orders a.op) (sym goes.2.ask) says.fits;
      }

  stays_read : (i : ℕ) (call : Call) (want : Want) → ReadSays w stamps i call want → ReadSays next later i call want
  stays_read i call want says =
      let goes = stays_called i call says.operation says.called in
      record {
        operation = goes.0;
        called = goes.1;
        phase = says.phase;
        stamp = says.stamp;
        begun = stays_phase i call.boot call.seq call.phase says.phase says.stamp says.begun;
        want_is = says.want_is;
      }

  stays_order_read : (i : ℕ) (call : Call) (t : Stamp) (look : Look) (want : Want) → OrderReadSays w stamps i call t look want
      → OrderReadSays next later i call t look want
  stays_order_read i call t look want says =
      let goes = stays_called i call says.operation says.called in
      record {
        operation = goes.0;
        called = goes.1;
        phase = says.phase;
        begun = stays_phase i call.boot call.seq call.phase says.phase t says.begun;
        ahead = says.ahead;
        look_is = says.look_is;
        want_is = says.want_is;
        fits = subst (λ (a : Ask). FitsPhase says.phase a.op) (sym goes.2.ask) says.fits;
        from = subst (λ (a : Ask). DescendsFrom says.phase a.op t) (sym goes.2.ask) says.from;
        below = says.below;
      }

  stays_old_read : (i : ℕ) (call : Call) (bound : Option Stamp) → OldReadSays stamps i call bound → OldReadSays later i call bound
  stays_old_read i call bound says = record {
    stamp = says.stamp;
    begun = stays_phase i call.boot call.seq call.phase (LooksBack bound) says.stamp says.begun;
    view = says.view;
  }

  pub stays_request : (i j : ℕ) (call : Call) (request : Request) → RequestSays setting views w stamps i j call request
      → RequestSays setting views next later i j call request
  stays_request i j call (Request.Read want) says = stays_read i call want says
  stays_request i j call (Request.Order t) says = stays_order i call t says
  stays_request i j call (Request.OrderRead t look want) says = stays_order_read i call t look want says
  stays_request i j call (Request.Write t block) says = stays_write i j call t block says
  stays_request i j call (Request.Modify t base d sent) says = stays_modify i j call t base d sent says
  stays_request i j call (Request.Collect c) says =
      let goes = stays_called i call says.operation says.called in
      record {
        operation = goes.0;
        called = goes.1;
        made = goes.2.made c says.version ∙ says.made;
        version = goes.2.version c says.version;
        answered = goes.2.answered says.answered;
      }
  stays_request i j call (Request.OldRead bound) says = stays_old_read i call bound says
  stays_request i j call request says = tt

  pub stays_ordered : (j i : ℕ) (call : Call) → OrderedSays w stamps j i call → OrderedSays next later j i call
  stays_ordered j i call says =
      let goes = stays_called i call says.operation says.called in
      record {
        operation = goes.0;
        called = goes.1;
        stamp = says.stamp;
        stamp_is = stays_phase i call.boot call.seq call.phase Orders says.stamp says.stamp_is;
        promised = stays_above call.group.0 call.stripe.0 j says.stamp says.promised;
        floor = subst (λ (f : ℕ → Stamp). stamp_below says.stamp (f j) ≡ false) (sym goes.2.floor) says.floor;
      }

  pub stays_found : (j i : ℕ) (call : Call) (order : Stamp) (version : Version) → FoundSays setting views w stamps j i call order version
      → FoundSays setting views next later j i call order version
  stays_found j i call order version says =
      let goes = stays_called i call says.operation says.called in
      record {
        operation = goes.0;
        called = goes.1;
        phase = says.phase;
        stamp = says.stamp;
        begun = stays_phase i call.boot call.seq call.phase says.phase says.stamp says.begun;
        top = stays_above call.group.0 call.stripe.0 j (stamp_max order version.stamp) says.top;
        floor = subst (λ (f : ℕ → Stamp). stamp_below (stamp_max order version.stamp) (f j) ≡ false) (sym goes.2.floor) says.floor;
        held = grows.parts.held call.group.0 call.stripe.0 j version.stamp says.held;
        says = stays_told (want_of says.phase) call.group.0 call.view.0 call.stripe.0 j version says.says;
      }

  -- what was found stays the newest that is looked for, or the others are passed over, since nothing comes to be held below the promised stamp
  pub stays_ordered_read : (j i : ℕ) (call : Call) (found : Option Version) → OrderedReadSays setting views w stamps j i call found
      → OrderedReadSays setting views next later j i call found
  stays_ordered_read j i call found says =
      let goes = stays_called i call says.operation says.called in
      record {
        operation = goes.0;
        called = goes.1;
        stamp = says.stamp;
        look = says.look;
        phase = says.phase;
        begun = stays_phase i call.boot call.seq call.phase says.phase says.stamp says.begun;
        look_is = says.look_is;
        below = says.below;
        view = says.view;
        promised = stays_above call.group.0 call.stripe.0 j says.stamp says.promised;
        floor = subst (λ (f : ℕ → Stamp). stamp_below says.stamp (f j) ≡ false) (sym goes.2.floor) says.floor;
        newest = λ d of held less. ⊎_elim
            (λ (was : w.held j call.group.0 call.stripe.0 d ≡ true). ⊎_elim
            (λ (within : IsWithin found d). inl within)
            (λ (passed : IsPassedOver w call.group.0 call.view.0 call.stripe.0 says.look says.stamp d). inr (record {
              at = passed.at;
              of = passed.of;
              above = passed.above;
              unlooked = passed.unlooked;
              most = passed.most;
              collected = stays_collected w next grows.sent call.group.0 call.stripe.0 passed.at passed.collected;
            }))
            (says.newest d of was less))
            (λ (new : stamp_below d (top_in w call.group.0 call.stripe.0 j) ≡ false).
            let above : stamp_below d says.stamp ≡ false
            = stamp_not_below_trans says.stamp (top_in w call.group.0 call.stripe.0 j) d says.promised new in
            absurd (false≢true (sym above ∙ says.below d less)))
            (grows.parts.newer call.group.0 call.stripe.0 j d held);
        held = λ version is. grows.parts.held call.group.0 call.stripe.0 j version.stamp (says.held version is);
        says = λ version is. stays_told (want_of says.phase) call.group.0 call.view.0 call.stripe.0 j version (says.says version is);
      }

  -- so does what was found in a view that its member serves no more, since nothing comes to be held below the first stamp of the next
  stays_old : (j i : ℕ) (call : Call) (found : Option Version) → OldSays setting views w stamps j i call found → OldSays setting views next later j i call found
  unfolding stays_old_read
  stays_old j i call found says = record {
    bound = says.bound;
    request = stays_old_read i call says.bound says.request;
    passed = stays_above call.group.0 call.stripe.0 j (floor_of says.request.stamp.view.0) says.passed;
    newest = λ d of held less. ⊎_elim
        (λ (was : w.held j call.group.0 call.stripe.0 d ≡ true). ⊎_elim
        (λ (within : IsWithin found d). inl within)
        (λ (passed : IsPassedOver w call.group.0 call.view.0 call.stripe.0 (Below (old_bound says.request.stamp says.bound)) says.request.stamp d). inr (record {
          at = passed.at;
          of = passed.of;
          above = passed.above;
          unlooked = passed.unlooked;
          most = passed.most;
          collected = stays_collected w next grows.sent call.group.0 call.stripe.0 passed.at passed.collected;
        }))
        (says.newest d of was less))
        (λ (new : stamp_below d (top_in w call.group.0 call.stripe.0 j) ≡ false).
        let after = says.request.view in
        let above : stamp_below d (floor_of says.request.stamp.view.0) ≡ false
        = stamp_not_below_trans (floor_of says.request.stamp.view.0) (top_in w call.group.0 call.stripe.0 j) d says.passed new in
        absurd (false≢true (sym above ∙ before_floor d says.request.stamp.view.0 (omega (arith, of, after)))))
        (grows.parts.newer call.group.0 call.stripe.0 j d held);
    held = λ version is. grows.parts.held call.group.0 call.stripe.0 j version.stamp (says.held version is);
    says = λ version is. stays_told All call.group.0 call.view.0 call.stripe.0 j version (says.says version is);
  }

  -- what was asked stays asked
  pub stays_asked : (call : Call) (from to : BrickId) (t : Stamp) → AskedAt w call from to t → AskedAt next call from to t
  stays_asked call from to t asked =
      (asked.0, grows.sent (record { from = from; to = to; message = Message.Request call asked.0 }) asked.1, asked.2)

  pub stays_reply : (from to : BrickId) (call : Call) (reply : Reply) → ReplySays setting views w stamps from to call reply
      → ReplySays setting views next later from to call reply
  stays_reply from to call (Reply.Found order (Some version)) says = stays_found from.0 to.0 call order version says
  stays_reply from to call Reply.Ordered says = stays_ordered from.0 to.0 call says
  stays_reply from to call (Reply.OrderedRead found) says = stays_ordered_read from.0 to.0 call found says
  stays_reply from to call Reply.Stored says = (
    says.0,
    says.1,
    grows.sent (record { from = to; to = from; message = Message.Request call says.1 }) says.2,
    says.3,
    grows.parts.held call.group.0 call.stripe.0 from.0 says.0 says.4,
  )
  stays_reply from to call (Reply.Later x) says = (says.0, stays_asked call to from says.0 says.1, says.2)
  stays_reply from to call (Reply.Full live) says = says
  stays_reply from to call (Reply.Old found) says = stays_old from.0 to.0 call found says
  stays_reply from to call reply says = tt

  pub stays_message : (from to : BrickId) (message : Message) → MessageSays setting views w stamps from to message
      → MessageSays setting views next later from to message
  stays_message from to (Message.Request call request) says = stays_request from.0 to.0 call request says
  stays_message from to (Message.Reply call reply) says = stays_reply from to call reply says
  stays_message from to (Message.Synced group number) says = λ s its is within.
      let had = says s its is within in (had.0, had.1, stays_standing group.0 s had.0 had.2)
  stays_message from to message says = tt

  -- what a packet says stays said
  pub stays_packet : (packet : Packet) → PacketSays setting views w stamps packet → PacketSays setting views next later packet
  stays_packet packet says = stays_message packet.from packet.to packet.message says

  pub stays_has_version : (o : Operation) (v : Stamp) → HasVersion setting views w o v → HasVersion setting views next o v
  stays_has_version o v has = record {
    made = stays_made o.ask.group.0 o.ask.stripe.0 v has.made;
    of = has.of;
    reader = has.reader;
    guarded = λ group is. stays_guarded o.ask.group.0 o.ask.stripe.0 group v (has.guarded group is);
    floors = has.floors;
  }

  -- the content of a version that an operation made stays
  stays_content : (n : ℕ) (o : Operation) (v : Stamp) → IsOperation w n o → o.made ≡ true → o.version ≡ Some v
      → next.contents o.ask.group.0 o.ask.stripe.0 v ≡ w.contents o.ask.group.0 o.ask.stripe.0 v
  stays_content n o v is made version = grows.contents o.ask.group.0 o.ask.stripe.0 v (inr (n, o, is, refl, refl, made, version))

  -- and so does how it was made
  stays_maker : (n : ℕ) (o : Operation) (v : Stamp) → IsOperation w n o → o.made ≡ true → o.version ≡ Some v → WritesWhole w o v
      ⊎ ReadsBack setting views w o v
      → WritesWhole next o v ⊎ ReadsBack setting views next o v
  stays_maker n o v is made version (inl whole) =
      inl (whole.0, whole.1 ∙ ap (λ (bytes : List ℕ). WriteStripe bytes) (sym (stays_content n o v is made version)))
  stays_maker n o v is made version (inr back) = inr (record {
    base = back.base;
    base_is = back.base_is;
    op = back.op;
    below = back.below;
    made = stays_made o.ask.group.0 o.ask.stripe.0 back.base back.made;
    content = stays_content n o v is made version ∙ back.content
        ∙ ap (λ (z : List ℕ). after_op setting.layout.block o.ask.op z) (sym (grows.contents o.ask.group.0 o.ask.stripe.0 back.base back.made));
    blocked = stay_blocked o.ask.group.0 o.ask.stripe.0 (λ d. (stamp_below back.base d ≡ true) × (stamp_below d v ≡ true)) back.blocked;
  })

  -- what an operation says stays said
  pub stays_operation : (n : ℕ) (o : Operation) → IsOperation w n o → OperationSays setting views w stamps n o → OperationSays setting views next later n o
  stays_operation n o is says = record {
    begin = omega (arith, says.begin, grows.marks);
    view = (says.view.0, (let rises = grows.parts.views o.brick.0 o.ask.group.0 in let was = says.view.1 in omega (arith, rises, was)));
    passed = stay_passed o.ask.group.0 o.view says.passed;
    floors = λ i. stays_above o.ask.group.0 o.ask.stripe.0 i (o.floor i) (says.floors i);
    floors_known = λ i. ⊎_elim
        (λ (known : IsKnown stamps (o.floor i)). inl (stays_known stamps later grows.grow (o.floor i) known))
        (λ (none : (o.floor i).time ≡ 0). inr none)
        (says.floors_known i);
    fresh = λ i p stamped. ⊎_elim
        (λ (own : (q : ℕ) × IsStamped stamps o.brick.0 o.boot o.seq q (o.floor i)). says.fresh i own.0 own.1)
        (λ (new : (IsKnown stamps (o.floor i) → ⊥) × (1 ≤ (o.floor i).time)). ⊎_elim new.0
        (λ (none : (o.floor i).time ≡ 0). omega (arith, none, new.1)) (says.floors_known i))
        (grows.grow.newer o.brick.0 o.boot o.seq p (o.floor i) stamped);
    made = λ made.
        let had = says.made made in (had.0, had.1, had.2, stays_stamp o.brick.0 o.boot o.seq had.1 had.0 had.3);
    maker = λ v made version. stays_maker n o v is made version (says.maker v made version);
    content = λ v made version group group_is.
        subst (λ (content : List ℕ). IsContent group.m setting.layout.block content) (sym (stays_content n o v is made version))
        (says.content v made version group group_is);
    stands = λ v version how. stays_standing o.ask.group.0 o.ask.stripe.0 v (says.stands v version how);
    version = λ v has. stays_has_version o v (says.version v has);
    answered = says.answered;
  }

  pub stays_counted : (i : ℕ) (c : Coordinator) (x : Counted) → CountedSays setting views w i c x → CountedSays setting views next i c x
  stays_counted i c x says = record {
    sent = grows.sent (record { from = x.brick; to = record { 0 = i }; message = Message.Reply c.call x.reply }) says.sent;
    answers = says.answers;
    seat = says.seat;
  }

  pub stays_made_on : (c : Coordinator) (base : Stamp) → MadeOn setting views w c base → MadeOn setting views next c base
  stays_made_on c base on = record {
    base_is = on.base_is;
    of = on.of;
    below = on.below;
    base_made = stays_made c.ask.group.0 c.ask.stripe.0 base on.base_made;
    stands = stays_standing c.ask.group.0 c.ask.stripe.0 base on.stands;
    made = stays_made c.ask.group.0 c.ask.stripe.0 c.stamp on.made;
    content = grows.contents c.ask.group.0 c.ask.stripe.0 c.stamp on.made ∙ on.content
        ∙ ap (λ (z : List ℕ). after_op setting.layout.block c.ask.op z) (sym (grows.contents c.ask.group.0 c.ask.stripe.0 base on.base_made));
  }

  stays_back : (i : ℕ) (c : Coordinator) (bound : Option Stamp) → BackSays setting views w i c bound → BackSays setting views next i c bound
  stays_back i c bound says =
      let goes = stays_called i c.call says.operation says.called in
      record {
        view = says.view;
        bounded = says.bounded;
        operation = goes.0;
        called = goes.1;
        guarded = λ group is. stays_guarded c.call.group.0 c.call.stripe.0 group c.stamp (says.guarded group is);
        floors = λ group is.
            subst (λ (f : ℕ → Stamp). AtQuorum group (λ seat. not (stamp_below c.stamp (f (brick_at group seat))))) (sym goes.2.floor) (says.floors group is);
      }

  -- what a coordinator says stays said, where its brick goes on, and its call has no new stamp
  pub stays_call : (i k : ℕ) (c : Coordinator) → (next.nodes i).boot ≡ (w.nodes i).boot
      → ((p : ℕ) → later i (w.nodes i).boot k p ≡ stamps i (w.nodes i).boot k p) → CallSays setting views w stamps i k c
      → CallSays setting views next later i k c
  stays_call i k c boot same says = record {
    group = says.group;
    prior = says.prior;
    begun = subst (λ (b : ℕ). IsBegun later i b k c.call.phase c.phase c.stamp) (sym boot)
        (stays_phase i (w.nodes i).boot k c.call.phase c.phase c.stamp says.begun);
    last = λ p less. subst (λ (b : ℕ). later i b k p ≡ None) (sym boot) (same p ∙ says.last p less);
    asked = λ seat member at.
        grows.sent (record { from = record { 0 = i }; to = member; message = Message.Request c.call (request_of setting.code c seat) })
        (says.asked seat member at);
    fits = says.fits;
    unbased = says.unbased;
    given = says.given;
    above = says.above;
    from = says.from;
    back = λ bound is. stays_back i c bound (says.back bound is);
    covered = λ bound is.
        stay_blocked c.ask.group.0 c.ask.stripe.0 (λ d. (stamp_below d bound ≡ false) × (stamp_below d c.stamp ≡ true)) (says.covered bound is);
    stores = λ is.
        let stored = says.stores is in (
          stays_made c.ask.group.0 c.ask.stripe.0 c.stamp stored.0,
          stored.1 ∙ sym (grows.contents c.ask.group.0 c.ask.stripe.0 c.stamp stored.0),
        );
    based = λ base is. stays_made_on c base (says.based base is);
    counted = each_then (CountedSays setting views w i c) (CountedSays setting views next i c) c.counted (λ x h. stays_counted i c x h) says.counted;
    once = says.once;
  }

  pub stays_shown : (said : (n : ℕ) (o : Operation) → IsOperation w n o → OperationSays setting views w stamps n o) (n : ℕ) (bytes : List ℕ)
      → DataShown setting w n bytes
      → DataShown setting next n bytes
  stays_shown said n bytes shown =
      let goes = grows.operations shown.number shown.operation shown.is in
      let made : IsMadeOrFirst w shown.operation.ask.group.0 shown.operation.ask.stripe.0 shown.version
      = ((said shown.number shown.operation shown.is).version shown.version shown.version_is).made in
      record {
        operation = goes.0;
        number = shown.number;
        is = goes.1;
        mark = goes.2.mark ∙ shown.mark;
        version = shown.version;
        version_is = goes.2.version shown.version shown.version_is;
        bytes_are = ap (λ (a : Ask). read_of setting.layout.block a.op (next.contents a.group.0 a.stripe.0 shown.version)) goes.2.ask
            ∙ ap (λ (z : List ℕ). read_of setting.layout.block shown.operation.ask.op z)
            (grows.contents shown.operation.ask.group.0 shown.operation.ask.stripe.0 shown.version made)
            ∙ shown.bytes_are;
      }

  -- what an end shows stays shown
  pub stays_end : (said : (n : ℕ) (o : Operation) → IsOperation w n o → OperationSays setting views w stamps n o) (n : ℕ) (answer : Answer)
      → EndShows setting w n answer → EndShows setting next n answer
  stays_end said n (Data bytes) shows = stays_shown said n bytes shows
  stays_end said n Done shows =
      let goes = grows.operations shows.0 shows.1 shows.2 in
      (shows.0, goes.0, goes.1, goes.2.mark ∙ shows.3, ap (λ a. writes a.op) goes.2.ask ∙ shows.4)
  stays_end said n (Aborted cause) shows =
      let goes = grows.operations shows.0 shows.1 shows.2 in (shows.0, goes.0, goes.1, goes.2.mark ∙ shows.3)

  -- and the stripes that a synchronisation has read stay read
  pub stays_job : (i : ℕ) (job : Job) → JobSays setting views w i job → JobSays setting views next i job
  stays_job i job says = record {
    known = (says.known.0, (let rises = grows.parts.views i job.group.0 in let was = says.known.1 in omega (arith, rises, was)));
    members = says.members;
    prior = says.prior;
    passed = stay_passed job.group.0 job.view.number.0 says.passed;
    read = λ s before. let had = says.read s before in (had.0, had.1, stays_standing job.group.0 s had.0 had.2);
  }
